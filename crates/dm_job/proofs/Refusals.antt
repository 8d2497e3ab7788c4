-- The first line that is refused.
use Rattle.std.proofs.Common.{◌≡◌, ◌≢◌, ◌+◌, ℕ, Bool, true, false, not, List, [], ◌∷◌, ◌++◌, length, Option, Some, None}
use Rattle.std.proofs.Common.{Result, Ok}
use Rattle.std.proofs.Common.{Err, refl, sym, ap, subst, subst₂, ◌∙◌, arith, cond, inl, inr}
use Rattle.std.specs.Prelude.{◌⊎◌}
use Rattle.std.specs.List.{list_all}
use Rattle.std.proofs.lemmas.Bool.{and_from}
use Rattle.dm_base.specs.declared.lines.LineReason.{LineReason}
use Rattle.dm_base.specs.declared.lines.LineReason.TheVariants as reason
use Rattle.dm_job.specs.declared.job.Job.{Job}
use Rattle.dm_job.specs.declared.draft.Reading.{Reading}
use Rattle.dm_job.specs.declared.draft.Reading.TheVariants as reading
use Rattle.dm_job.specs.Reading.{reading_after, reading_behind, reading_after_all}
use Rattle.dm_job.specs.Texts.{segments, is_long, job_in, end_at, end_or, job_from, job_of}
use Rattle.dm_job.specs.Laws.{IsRefusedHere, IsRefusedFor, IsRefusedJob, RefusalsAreFirst}
use Rattle.dm_job.proofs.Turns.{some_segments}

abbrev Read : Type 0
Read = Result Job (ℕ × LineReason)

abbrev At : ℕ → LineReason → Read
At n why = Err (n, why)

-- from line n on
record Refused (n : ℕ) (r : Reading) (lines : List (List ℕ)) (m : ℕ) (why : LineReason) : Type 0 where
  before : List (List ℕ)
  line : List ℕ
  behind : List (List ℕ)
  are : lines ≡ before ++ line ∷ behind
  number : m ≡ n + length before
  short : list_all (λ l. not (is_long l)) before ≡ true
  reached : Reading
  taken : reading_after_all n r before ≡ Ok reached
  refused : IsRefusedFor why (job_in reached) reached line behind

at_once : (n : ℕ) (r : Reading) (line : List ℕ) (behind : List (List ℕ)) (why : LineReason)
    → IsRefusedFor why (job_in r) r line behind → Refused n r (line ∷ behind) n why
at_once n r line behind why h = record {
  before = [];
  line = line;
  behind = behind;
  are = refl;
  number = omega arith;
  short = refl;
  reached = r;
  taken = refl;
  refused = h;
}

going : (r : Reading) (line : List ℕ) (behind : List (List ℕ)) (why : LineReason) → job_in r ≡ None
    → ((is_long line ≡ true) × (why ≡ reason.Long)) ⊎ ((is_long line ≡ false) × IsRefusedHere why r line behind)
    → IsRefusedFor why (job_in r) r line behind
going r line behind why none h = subst (λ o. IsRefusedFor why o r line behind) (sym none) h

later : (n : ℕ) (r read : Reading) (line : List ℕ) (lines : List (List ℕ)) (m : ℕ) (why : LineReason)
    → is_long line ≡ false → reading_after r line ≡ Ok read → Refused (n + 1) read lines m why
    → Refused n r (line ∷ lines) m why
later n r read line lines m why short took rest =
    let number = rest.number in
    record {
      before = line ∷ rest.before;
      line = rest.line;
      behind = rest.behind;
      are = ap (λ s. line ∷ s) rest.are;
      number = omega (arith, number);
      short = and_from _ _ (ap not short) rest.short;
      reached = rest.reached;
      taken = ap (λ x. reading_behind n x (λ next. reading_after_all (n + 1) next rest.before)) took ∙ rest.taken;
      refused = rest.refused;
    }

abbrev number_of : Read → ℕ
number_of (Ok job) = 0
number_of (Err e) = e.0

abbrev why_of : Read → LineReason
why_of (Ok job) = reason.Cut
why_of (Err e) = e.1

moved : (n : ℕ) (r : Reading) (lines : List (List ℕ)) (a m : ℕ) (w why : LineReason) → At a w ≡ At m why
    → Refused n r lines a w → Refused n r lines m why
moved n r lines a m w why e h = subst₂ (Refused n r lines) (ap number_of e) (ap why_of e) h

-- ---- where it is refused, it is the first

behind_end : (n : ℕ) (job : Job) (next : List ℕ) (others : List (List ℕ)) (m : ℕ) (why : LineReason)
    → end_at n job (next ∷ others) ≡ At m why
    → (At n reason.Extra ≡ At m why) × (next ∷ others ≢ [] ∷ [])
behind_end n job [] [] m why e = absurd (cc)
behind_end n job [] (x ∷ xs) m why e = (e, λ q. cc)
behind_end n job (b ∷ bs) others m why e = (e, λ q. cc)

-- what comes behind a line that is taken
abbrev Later : ℕ → List ℕ → List (List ℕ) → ℕ → LineReason → Type 0
Later n next others m why =
    (read : Reading) → job_in read ≡ None → job_from (n + 1) read (next ∷ others) ≡ At m why
    → Refused (n + 1) read (next ∷ others) m why

taken_line : (n : ℕ) (r read : Reading) (line next : List ℕ) (others : List (List ℕ)) (m : ℕ) (why : LineReason)
    → Later n next others m why → reading_after r line ≡ Ok read → is_long line ≡ false
    → end_or n (job_in read) (next ∷ others) (job_from (n + 1) read (next ∷ others)) ≡ At m why
    → Refused n r (line ∷ next ∷ others) m why
taken_line n r read line next others m why rest took short e = by_job (job_in read) refl e
  where
    by_job : (o : Option Job) → job_in read ≡ o
        → end_or n o (next ∷ others) (job_from (n + 1) read (next ∷ others)) ≡ At m why
        → Refused n r (line ∷ next ∷ others) m why
    by_job None is h = later n r read line (next ∷ others) m why short took (rest read is h)
    by_job (Some job) is h =
        let extra = behind_end (n + 1) job next others m why h in
        later n r read line (next ∷ others) m why short took
        (moved (n + 1) read (next ∷ others) (n + 1) m reason.Extra why extra.0
        (at_once (n + 1) read next others reason.Extra
        (subst (λ o. IsRefusedFor reason.Extra o read next others) (sym is) (refl, extra.1))))

short_line : (n : ℕ) (r : Reading) (line next : List ℕ) (others : List (List ℕ)) (m : ℕ) (why : LineReason)
    → Later n next others m why → job_in r ≡ None → is_long line ≡ false
    → (x : Result Reading LineReason) → reading_after r line ≡ x
    → reading_behind n x (λ read. end_or n (job_in read) (next ∷ others) (job_from (n + 1) read (next ∷ others)))
    ≡ At m why
    → Refused n r (line ∷ next ∷ others) m why
short_line n r line next others m why rest none short (Ok read) took e =
    taken_line n r read line next others m why rest took short e
short_line n r line next others m why rest none short (Err w) took e =
    moved n r (line ∷ next ∷ others) n m w why e
    (at_once n r line (next ∷ others) w (going r line (next ∷ others) w none (inr (short, took))))

any_line : (n : ℕ) (r : Reading) (line next : List ℕ) (others : List (List ℕ)) (m : ℕ) (why : LineReason)
    → Later n next others m why → job_in r ≡ None → job_from n r (line ∷ next ∷ others) ≡ At m why
    → Refused n r (line ∷ next ∷ others) m why
any_line n r line next others m why rest none e = by_length (is_long line) refl e
  where
    by_length : (b : Bool) → is_long line ≡ b
        → cond b (At n reason.Long) (reading_behind n (reading_after r line)
        (λ read. end_or n (job_in read) (next ∷ others) (job_from (n + 1) read (next ∷ others)))) ≡ At m why
        → Refused n r (line ∷ next ∷ others) m why
    by_length true long h =
        moved n r (line ∷ next ∷ others) n m reason.Long why h
        (at_once n r line (next ∷ others) reason.Long
        (going r line (next ∷ others) reason.Long none (inl (long, refl))))
    by_length false short h =
        short_line n r line next others m why rest none short (reading_after r line) refl h

tail_line : (n : ℕ) (r : Reading) (tail : List ℕ) (m : ℕ) (why : LineReason) → job_in r ≡ None
    → job_from n r (tail ∷ []) ≡ At m why → Refused n r (tail ∷ []) m why
tail_line n r tail m why none e = by_length (is_long tail) refl e
  where
    by_length : (b : Bool) → is_long tail ≡ b → At n (cond b reason.Long reason.Cut) ≡ At m why
        → Refused n r (tail ∷ []) m why
    by_length true long h =
        moved n r (tail ∷ []) n m reason.Long why h
        (at_once n r tail [] reason.Long (going r tail [] reason.Long none (inl (long, refl))))
    by_length false short h =
        moved n r (tail ∷ []) n m reason.Cut why h
        (at_once n r tail [] reason.Cut (going r tail [] reason.Cut none (inr (short, refl))))

refused_from : (n : ℕ) (r : Reading) (line : List ℕ) (others : List (List ℕ)) (m : ℕ) (why : LineReason)
    → job_in r ≡ None
    → job_from n r (line ∷ others) ≡ At m why → Refused n r (line ∷ others) m why
refused_from n r line [] m why none e = tail_line n r line m why none e
refused_from n r line (next ∷ others) m why none e =
    any_line n r line next others m why (λ read is h. refused_from (n + 1) read next others m why is h) none e

pub refusals_are_first : RefusalsAreFirst
unfolding job_of
refusals_are_first text m why e = by_segments (segments text) refl e
  where
    by_segments : (s : List (List ℕ)) → segments text ≡ s → job_from 1 reading.First s ≡ At m why → IsRefusedJob text m why
    by_segments [] is h = absurd (some_segments text is)
    by_segments (line ∷ others) is h =
        let x = refused_from 1 reading.First line others m why refl h in
        record {
          before = x.before;
          line = x.line;
          behind = x.behind;
          are = is ∙ x.are;
          number = x.number;
          short = x.short;
          reached = x.reached;
          taken = x.taken;
          refused = x.refused;
        }
