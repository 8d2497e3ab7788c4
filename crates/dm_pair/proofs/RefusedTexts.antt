-- A line of a text of both ends that is refused ends it, and where it ends so, that is the first.
use Rattle.std.proofs.Common.{◌≡◌, ◌≢◌, ◌≤◌, ◌+◌, ℕ, suc, Bool, true, false, not, cond, List, [], ◌∷◌, ◌++◌, length}
use Rattle.std.proofs.Common.{Ok, Err, refl, sym, ap, subst, ◌∙◌, arith, inl, inr, append_assoc}
use Rattle.std.proofs.lemmas.Bool.{and_parts, and_from}
use Rattle.std.proofs.lemmas.Bool.Decides.{nat_tests}
use Rattle.std.specs.Prelude.{◌⊎◌, Result, nat_lt}
use Rattle.std.specs.List.{list_all}
use Rattle.dm_base.specs.declared.lines.LineReason.{LineReason}
use Rattle.dm_base.specs.declared.lines.LineReason.TheVariants as reason
use Rattle.dm_exit.specs.declared.exit.Exit.{Exit}
use Rattle.dm_exit.specs.declared.exit.Exit.TheVariants as exit
use Rattle.dm_job.specs.Texts.{segments, is_long, unended}
use Rattle.dm_job.proofs.Turns.{some_segments}
use Rattle.dm_texts.specs.Lines.{bad_line}
use Rattle.dm_pair.specs.Texts.{TextStage, first, starting, jobbing, happening, over, TextTurn, silently, text_turn}
use Rattle.dm_pair.specs.Texts.{Written, refuses}
use Rattle.dm_pair.specs.Texts.{ends_at, behind_text, goes_on, behind_turn, written_from, written, is_too_long}
use Rattle.dm_pair.specs.Texts.{pair_text, pair_exit}
use Rattle.dm_pair.specs.Pairing.{Pairing}
use Rattle.dm_pair.specs.Refused.{behind_written, and_turns, turns_from, IsWrongLine, IsWrongOrLong, IsRefusedBehind}
use Rattle.dm_pair.specs.Refused.{IsRefusedText, TextRefusalsAreFirst, TextRefusalsAreTold}

abbrev Turned : Type 0
Turned = Result TextTurn LineReason

-- what is written from line n on, behind `end` too
abbrev rest_from : ℕ → TextStage → List (List ℕ) → Written
rest_from n s lines = goes_on n s lines (written_from n s lines)

-- before `end`
abbrev IsOpen : TextStage → Type 0
IsOpen first = Unit {0}
IsOpen (starting s) = Unit {0}
IsOpen (jobbing told r) = Unit {0}
IsOpen (happening ids p) = Unit {0}
IsOpen (over p) = ⊥

open_rest : (s : TextStage) (n : ℕ) (lines : List (List ℕ)) → IsOpen s → rest_from n s lines ≡ written_from n s lines
open_rest first n lines o = refl
open_rest (starting s) n lines o = refl
open_rest (jobbing told r) n lines o = refl
open_rest (happening ids p) n lines o = refl
open_rest (over p) n lines o = absurd o

wrong_when_open : (s : TextStage) (why : LineReason) (line : List ℕ) (behind : List (List ℕ)) → IsOpen s
    → IsWrongOrLong why s line behind → IsRefusedBehind why s line behind
wrong_when_open first why line behind o h = h
wrong_when_open (starting s) why line behind o h = h
wrong_when_open (jobbing told r) why line behind o h = h
wrong_when_open (happening ids p) why line behind o h = h
wrong_when_open (over p) why line behind o h = absurd o

-- ---- one line

-- what a line within its limit comes to
abbrev behind_line : ℕ → List (List ℕ) → Turned → Written
behind_line n others x = behind_turn n x others (λ t. written_from (n + 1) t others)

one_line : (n : ℕ) (s : TextStage) (line next : List ℕ) (others : List (List ℕ)) (b : Bool) (x : Turned)
    → is_long line ≡ b → text_turn s line ≡ x
    → written_from n s (line ∷ next ∷ others)
    ≡ cond b (refuses (n, reason.Long)) (behind_line n (next ∷ others) x)
one_line n s line next others b x long is =
    ap (λ c. cond c (refuses (n, reason.Long)) (behind_line n (next ∷ others) (text_turn s line))) long
    ∙ ap (λ y. cond b (refuses (n, reason.Long)) (behind_line n (next ∷ others) y)) is

-- ---- a refusal is told

told_tail : (n : ℕ) (s : TextStage) (tail : List ℕ) (why : LineReason) → IsWrongOrLong why s tail []
    → written_from n s (tail ∷ []) ≡ refuses (n, why)
told_tail n s tail why h = elim h [
  | inl x ↦
      ap (λ b. refuses (n, cond b reason.Long reason.Cut)) x.0 ∙ ap (λ w. refuses (n, w)) (sym x.1)
  | inr x ↦
      ap (λ b. refuses (n, cond b reason.Long reason.Cut)) x.0 ∙ ap (λ w. refuses (n, w)) (sym x.1)
]

told_line : (n : ℕ) (s : TextStage) (line next : List ℕ) (others : List (List ℕ)) (why : LineReason)
    → IsWrongOrLong why s line (next ∷ others) → written_from n s (line ∷ next ∷ others) ≡ refuses (n, why)
told_line n s line next others why h = elim h [
  | inl x ↦
      one_line n s line next others true (text_turn s line) x.0 refl ∙ ap (λ w. refuses (n, w)) (sym x.1)
  | inr x ↦ one_line n s line next others false (Err why) x.0 x.1
]

told_open : (n : ℕ) (s : TextStage) (line : List ℕ) (behind : List (List ℕ)) (why : LineReason)
    → IsWrongOrLong why s line behind → written_from n s (line ∷ behind) ≡ refuses (n, why)
told_open n s line [] why h = told_tail n s line why h
told_open n s line (next ∷ others) why h = told_line n s line next others why h

told_extra : (n : ℕ) (p : Pairing) (line : List ℕ) (behind : List (List ℕ)) → line ∷ behind ≢ [] ∷ []
    → ends_at n p (line ∷ behind) ≡ refuses (n, reason.Extra)
told_extra n p [] [] h = absurd (h refl)
told_extra n p [] (x ∷ xs) h = refl
told_extra n p (b ∷ bs) behind h = refl

told_here : (n : ℕ) (s : TextStage) (line : List ℕ) (behind : List (List ℕ)) (why : LineReason)
    → IsRefusedBehind why s line behind → rest_from n s (line ∷ behind) ≡ refuses (n, why)
told_here n first line behind why h = told_open n first line behind why h
told_here n (starting s) line behind why h = told_open n (starting s) line behind why h
told_here n (jobbing told r) line behind why h = told_open n (jobbing told r) line behind why h
told_here n (happening ids p) line behind why h = told_open n (happening ids p) line behind why h
told_here n (over p) line behind why h =
    told_extra n p line behind h.1 ∙ ap (λ w. refuses (n, w)) (sym h.0)

not_long : (b : Bool) → not b ≡ true → b ≡ false
not_long true h = absurd (cc)
not_long false h = refl

abbrev turned_value : TextTurn → Turned → TextTurn
turned_value d (Ok t) = t
turned_value d (Err why) = d

same_turn : (a b : TextTurn) → ◌≡◌ {A = Turned} (Ok a) (Ok b) → a ≡ b
same_turn a b h = ap (turned_value a) h

extra_turn : (p : Pairing) (line : List ℕ) → text_turn (over p) line ≡ Err reason.Extra
unfolding text_turn
extra_turn p line = refl

-- a line is taken before `end` alone
taken_open : (s : TextStage) (line : List ℕ) (t : TextTurn) → text_turn s line ≡ Ok t → IsOpen s
taken_open first line t h = tt
taken_open (starting s) line t h = tt
taken_open (jobbing told r) line t h = tt
taken_open (happening ids p) line t h = tt
taken_open (over p) line t h = let e = extra_turn p line in cc

-- a line that is taken, and what stands behind it
taken_line : (n : ℕ) (s : TextStage) (line next : List ℕ) (others : List (List ℕ)) (t : TextTurn) → is_long line ≡ false
    → text_turn s line ≡ Ok t
    → rest_from n s (line ∷ next ∷ others) ≡ behind_text t.written (rest_from (n + 1) t.stage (next ∷ others))
taken_line n s line next others t short is =
    open_rest s n (line ∷ next ∷ others) (taken_open s line t is)
    ∙ one_line n s line next others false (Ok t) short is

-- the same, where a line stands behind some others
taken_before : (n : ℕ) (s : TextStage) (b : List ℕ) (bs : List (List ℕ)) (line : List ℕ) (behind : List (List ℕ)) (t : TextTurn)
    → is_long b ≡ false → text_turn s b ≡ Ok t
    → rest_from n s (b ∷ (bs ++ line ∷ behind))
    ≡ behind_text t.written (rest_from (n + 1) t.stage (bs ++ line ∷ behind))
taken_before n s b [] line behind t short is = taken_line n s b line behind t short is
taken_before n s b (c ∷ cs) line behind t short is = taken_line n s b c (cs ++ line ∷ behind) t short is

behind_both : (a b : List ℕ) (w : Written) → behind_text a (behind_text b w) ≡ behind_text (a ++ b) w
behind_both a b w = ap (λ l. let x : Written = record { text = l; bad = w.bad } in x) (sym (append_assoc a b w.text))

abbrev Later : ℕ → List (List ℕ) → List ℕ → List (List ℕ) → TextStage → Type 0
Later n bs line behind s =
    (t : TextTurn) → turns_from s bs ≡ Ok t
    → rest_from n s (bs ++ line ∷ behind) ≡ behind_text t.written (rest_from (n + length bs) t.stage (line ∷ behind))

one_before : (n : ℕ) (s : TextStage) (b : List ℕ) (bs : List (List ℕ)) (line : List ℕ) (behind : List (List ℕ)) (t : TextTurn)
    → is_long b ≡ false → ((next : TextStage) → Later (n + 1) bs line behind next) → turns_from s (b ∷ bs) ≡ Ok t
    → rest_from n s (b ∷ (bs ++ line ∷ behind))
    ≡ behind_text t.written (rest_from (n + 1 + length bs) t.stage (line ∷ behind))
one_before n s b bs line behind t short later h = by_turn (text_turn s b) refl h
  where
    by_rest : (u : TextTurn) → text_turn s b ≡ Ok u → (y : Turned) → turns_from u.stage bs ≡ y
        → behind_written u.written y ≡ Ok t
        → rest_from n s (b ∷ (bs ++ line ∷ behind))
        ≡ behind_text t.written (rest_from (n + 1 + length bs) t.stage (line ∷ behind))
    by_rest u is (Err w) are g = absurd (cc)
    by_rest u is (Ok v) are g =
        taken_before n s b bs line behind u short is
        ∙ ap (behind_text u.written) (later u.stage v are)
        ∙ behind_both u.written v.written (rest_from (n + 1 + length bs) v.stage (line ∷ behind))
        ∙ ap (λ (x : TextTurn). behind_text x.written (rest_from (n + 1 + length bs) x.stage (line ∷ behind)))
        (same_turn (record { stage = v.stage; written = u.written ++ v.written }) t g)

    by_turn : (x : Turned) → text_turn s b ≡ x → and_turns x (λ next. turns_from next bs) ≡ Ok t
        → rest_from n s (b ∷ (bs ++ line ∷ behind))
        ≡ behind_text t.written (rest_from (n + 1 + length bs) t.stage (line ∷ behind))
    by_turn (Err w) is g = absurd (cc)
    by_turn (Ok u) is g = by_rest u is (turns_from u.stage bs) refl g

all_before : (n : ℕ) (s : TextStage) (bs : List (List ℕ)) (line : List ℕ) (behind : List (List ℕ))
    → list_all (λ l. not (is_long l)) bs ≡ true → Later n bs line behind s
all_before n s [] line behind short t h =
    let here : n ≡ n + 0 = omega arith in
    ap (λ m. rest_from m s (line ∷ behind)) here
    ∙ ap (λ (x : TextTurn). behind_text x.written (rest_from (n + 0) x.stage (line ∷ behind))) (same_turn (silently s) t h)
all_before n s (b ∷ bs) line behind short t h =
    let both = and_parts (not (is_long b)) (list_all (λ l. not (is_long l)) bs) short in
    let next : n + 1 + length bs ≡ n + length (b ∷ bs) = omega arith in
    one_before n s b bs line behind t (not_long (is_long b) both.0)
    (λ u. all_before (n + 1) u bs line behind both.1) h
    ∙ ap (λ m. behind_text t.written (rest_from m t.stage (line ∷ behind))) next

within : (n : ℕ) → n ≤ 67108864 → nat_lt 67108864 n ≡ false
within n h = grind (arith, nat_tests)

abbrev exit_if : Bool → Bool → Exit
exit_if long bad = cond long exit.TooLong (cond bad exit.BadInput exit.Done)

told_in : (bytes : List ℕ) (n : ℕ) (why : LineReason) → (r : IsRefusedText bytes n why)
    → written bytes ≡ behind_text r.reached.written (refuses (n, why))
unfolding written
told_in bytes n why r =
    ap (written_from 1 first) r.are
    ∙ all_before 1 first r.before r.line r.behind r.short r.reached r.taken
    ∙ ap (behind_text r.reached.written) (told_here (1 + length r.before) r.reached.stage r.line r.behind why r.refused)
    ∙ ap (λ m. behind_text r.reached.written (refuses (m, why))) (sym r.number)

pub refusals_are_told : TextRefusalsAreTold
unfolding pair_text pair_exit
refusals_are_told bytes n why r =
    let fits = within (length bytes) r.few in
    let is = told_in bytes n why r in (
      ap (λ b. cond b [] (written bytes).text) fits ∙ ap (λ (w : Written). w.text) is,
      ap (λ b. exit_if b (written bytes).bad) fits ∙ ap (λ (w : Written). exit_if false w.bad) is,
    )

-- ---- what ends a text is a refusal

-- from line n on
record Refused (n : ℕ) (s : TextStage) (lines : List (List ℕ)) : Type 0 where
  at : ℕ
  why : LineReason
  before : List (List ℕ)
  line : List ℕ
  behind : List (List ℕ)
  are : lines ≡ before ++ line ∷ behind
  number : at ≡ n + length before
  short : list_all (λ l. not (is_long l)) before ≡ true
  reached : TextTurn
  taken : turns_from s before ≡ Ok reached
  refused : IsRefusedBehind why reached.stage line behind

at_once : (n : ℕ) (s : TextStage) (line : List ℕ) (behind : List (List ℕ)) (why : LineReason)
    → IsRefusedBehind why s line behind → Refused n s (line ∷ behind)
at_once n s line behind why h = record {
  at = n;
  why = why;
  before = [];
  line = line;
  behind = behind;
  are = refl;
  number = omega arith;
  short = refl;
  reached = silently s;
  taken = refl;
  refused = h;
}

later : (n : ℕ) (s : TextStage) (line : List ℕ) (lines : List (List ℕ)) (t : TextTurn) → is_long line ≡ false
    → text_turn s line ≡ Ok t → Refused (n + 1) t.stage lines → Refused n s (line ∷ lines)
later n s line lines t short is rest =
    let number = rest.number in
    record {
      at = rest.at;
      why = rest.why;
      before = line ∷ rest.before;
      line = rest.line;
      behind = rest.behind;
      are = ap (λ l. line ∷ l) rest.are;
      number = omega (arith, number);
      short = and_from _ _ (ap not short) rest.short;
      reached = record { stage = rest.reached.stage; written = t.written ++ rest.reached.written };
      taken =
          ap (λ x. and_turns x (λ next. turns_from next rest.before)) is
          ∙ ap (behind_written t.written) rest.taken;
      refused = rest.refused;
    }

first_extra : (n : ℕ) (p : Pairing) (line : List ℕ) (behind : List (List ℕ)) → (ends_at n p (line ∷ behind)).bad ≡ true
    → line ∷ behind ≢ [] ∷ []
first_extra n p [] [] h = absurd (cc)
first_extra n p [] (x ∷ xs) h = λ e. cc
first_extra n p (b ∷ bs) behind h = λ e. cc

first_tail : (n : ℕ) (s : TextStage) (tail : List ℕ) → IsOpen s → Refused n s (tail ∷ [])
first_tail n s tail o = by_length (is_long tail) refl
  where
    by_length : (b : Bool) → is_long tail ≡ b → Refused n s (tail ∷ [])
    by_length true long =
        at_once n s tail [] reason.Long (wrong_when_open s reason.Long tail [] o (inl (long, refl)))
    by_length false short =
        at_once n s tail [] reason.Cut (wrong_when_open s reason.Cut tail [] o (inr (short, refl)))

first_line : (n : ℕ) (s : TextStage) (line next : List ℕ) (others : List (List ℕ)) → IsOpen s
    → ((t : TextStage) → (rest_from (n + 1) t (next ∷ others)).bad ≡ true → Refused (n + 1) t (next ∷ others))
    → (written_from n s (line ∷ next ∷ others)).bad ≡ true → Refused n s (line ∷ next ∷ others)
first_line n s line next others o rest h = by_length (is_long line) refl
  where
    by_turn : is_long line ≡ false → (x : Turned) → text_turn s line ≡ x
        → (behind_line n (next ∷ others) x).bad ≡ true → Refused n s (line ∷ next ∷ others)
    by_turn short (Err why) is g =
        at_once n s line (next ∷ others) why (wrong_when_open s why line (next ∷ others) o (inr (short, is)))
    by_turn short (Ok t) is g = later n s line (next ∷ others) t short is (rest t.stage g)

    by_length : (b : Bool) → is_long line ≡ b → Refused n s (line ∷ next ∷ others)
    by_length true long =
        at_once n s line (next ∷ others) reason.Long
        (wrong_when_open s reason.Long line (next ∷ others) o (inl (long, refl)))
    by_length false short =
        by_turn short (text_turn s line) refl
        (ap (λ (w : Written). w.bad) (sym (one_line n s line next others false (text_turn s line) short refl)) ∙ h)

first_open : (n : ℕ) (s : TextStage) (line : List ℕ) (behind : List (List ℕ)) → IsOpen s
    → ((m : ℕ) (t : TextStage) → behind ≢ [] → (rest_from m t behind).bad ≡ true → Refused m t behind)
    → (written_from n s (line ∷ behind)).bad ≡ true → Refused n s (line ∷ behind)
first_open n s line [] o rest h = first_tail n s line o
first_open n s line (next ∷ others) o rest h =
    first_line n s line next others o (λ t g. rest (n + 1) t (λ e. cc) g) h

first_here : (s : TextStage) (n : ℕ) (line : List ℕ) (behind : List (List ℕ))
    → ((m : ℕ) (t : TextStage) → behind ≢ [] → (rest_from m t behind).bad ≡ true → Refused m t behind)
    → (rest_from n s (line ∷ behind)).bad ≡ true → Refused n s (line ∷ behind)
first_here first n line behind rest h = first_open n first line behind tt rest h
first_here (starting s) n line behind rest h = first_open n (starting s) line behind tt rest h
first_here (jobbing told r) n line behind rest h = first_open n (jobbing told r) line behind tt rest h
first_here (happening ids p) n line behind rest h = first_open n (happening ids p) line behind tt rest h
first_here (over p) n line behind rest h =
    at_once n (over p) line behind reason.Extra (refl, first_extra n p line behind h)

first_from : (lines : List (List ℕ)) (n : ℕ) (s : TextStage) → lines ≢ [] → (rest_from n s lines).bad ≡ true
    → Refused n s lines
first_from [] n s some h = absurd (some refl)
first_from (line ∷ behind) n s some h =
    first_here s n line behind (λ m t more g. first_from behind m t more g) h

first_in : (bytes : List ℕ) → (written bytes).bad ≡ true → Refused 1 first (segments bytes)
unfolding written
first_in bytes h = first_from (segments bytes) 1 first (some_segments bytes) h

never_too_long : (bad : Bool) → exit_if true bad ≡ exit.BadInput → ⊥
never_too_long bad h = cc

exit_bad : (bad : Bool) → exit_if false bad ≡ exit.BadInput → bad ≡ true
exit_bad true h = refl
exit_bad false h = absurd (cc)

few_enough : (n : ℕ) → nat_lt 67108864 n ≡ false → n ≤ 67108864
few_enough n h = grind (arith, nat_tests)

pub refusals_are_first : TextRefusalsAreFirst
unfolding pair_exit
refusals_are_first bytes h = by_length (is_too_long bytes) refl h
  where
    by_length : (b : Bool) → is_too_long bytes ≡ b → exit_if b (written bytes).bad ≡ exit.BadInput
        → (n : ℕ) × (why : LineReason) × IsRefusedText bytes n why
    by_length true long g = absurd (never_too_long (written bytes).bad g)
    by_length false fits g =
        let x = first_in bytes (exit_bad (written bytes).bad g) in (
          x.at,
          x.why,
          record {
            few = few_enough (length bytes) fits;
            before = x.before;
            line = x.line;
            behind = x.behind;
            are = x.are;
            number = x.number;
            short = x.short;
            reached = x.reached;
            taken = x.taken;
            refused = x.refused;
          },
        )
