-- One line of a text, and what stands behind it.
use Rattle.std.proofs.Common.{◌≡◌, ◌+◌, ◌==◌, ℕ, Bool, true, false, List, [], ◌∷◌, length, Option, Some, None}
use Rattle.std.proofs.Common.{Result, Ok, Err, refl, sym, ap, subst}
use Rattle.std.proofs.Common.{◌∙◌, ◌++◌, ◌<◌, ◌-◌, zero, suc, arith, cond, if◌then◌else◌, take, drop, slice_index}
use Rattle.std.proofs.Common.{take_all, length-drop}
use Rattle.std.specs.Prelude.{is_some}
use Rattle.std.specs.List.{onto_first}
use Rattle.std.proofs.lemmas.List.Splits.{length-slice_split, slice_split-cons_yes, slice_split-cons_no}
use Rattle.std.proofs.lemmas.Bool.{eqb-true}
use Rattle.memchr.specs.Find.{IsFirstByte, is_byte}
use Rattle.dm_base.specs.declared.lines.LineReason.{LineReason}
use Rattle.dm_base.specs.declared.lines.LineReason.TheVariants as reason
use Rattle.dm_fields.specs.declared.errors.LineError.{LineError}
use Rattle.dm_fields.specs.declared.errors.LineError.TheVariants as line_error
use Rattle.dm_job.specs.declared.errors.JobError.{JobError}
use Rattle.dm_job.specs.declared.errors.JobError.TheVariants as job_error
use Rattle.dm_job.specs.declared.job.Job.{Job}
use Rattle.dm_job.specs.declared.draft.Reading.{Reading}
use Rattle.dm_job.specs.Reading.{reading_after, reading_behind}
use Rattle.dm_job.specs.Texts.{segments, is_long, job_in, is_ended, end_at, end_or, job_from, line_fault, ReadsAll}
use Rattle.dm_job.specs.Texts.{ReadsEnd}

-- ---- there is a last segment

pub some_segments : (text : List ℕ) → segments text ≡ [] → ⊥
some_segments text e =
    let long = length-slice_split (λ b. b == 10) text in
    let none = ap length e in
    omega (arith, long, none)

-- ---- one line

abbrev pub Read : Type 0
Read = Result Job (ℕ × LineReason)

abbrev pub turn : ℕ → Reading → List ℕ → List (List ℕ) → Result Reading LineReason → Read
turn n r line behind x =
    if is_long line then Err (n, reason.Long)
    else reading_behind n x (λ read. end_or n (job_in read) behind (job_from (n + 1) read behind))

pub one_turn : (n : ℕ) (r : Reading) (line : List ℕ) (behind : List (List ℕ)) → (behind ≡ [] → ⊥)
    → job_from n r (line ∷ behind) ≡ turn n r line behind (reading_after r line)
one_turn n r line [] some = absurd (some refl)
one_turn n r line (x ∷ xs) some = refl

first_turn : (n : ℕ) (r : Reading) (text line behind : List ℕ) → segments text ≡ line ∷ segments behind
    → job_from n r (segments text) ≡ turn n r line (segments behind) (reading_after r line)
first_turn n r text line behind is =
    ap (job_from n r) is ∙ one_turn n r line (segments behind) (some_segments behind)

pub long_line : (n : ℕ) (r : Reading) (text line behind : List ℕ) → segments text ≡ line ∷ segments behind
    → is_long line ≡ true → job_from n r (segments text) ≡ Err (n, reason.Long)
long_line n r text line behind is long =
    first_turn n r text line behind is
    ∙ ap (λ b. cond b (Err (n, reason.Long))
    (reading_behind n (reading_after r line) (λ read. end_or n (job_in read) (segments behind)
    (job_from (n + 1) read (segments behind))))) long

short_turn : (n : ℕ) (r : Reading) (text line behind : List ℕ) (x : Result Reading LineReason)
    → segments text ≡ line ∷ segments behind → is_long line ≡ false → reading_after r line ≡ x
    → job_from n r (segments text)
    ≡ reading_behind n x (λ read. end_or n (job_in read) (segments behind) (job_from (n + 1) read (segments behind)))
short_turn n r text line behind x is short after =
    first_turn n r text line behind is
    ∙ ap (λ b. cond b (Err (n, reason.Long))
    (reading_behind n (reading_after r line) (λ read. end_or n (job_in read) (segments behind)
    (job_from (n + 1) read (segments behind))))) short
    ∙ ap (λ y. reading_behind n y
    (λ read. end_or n (job_in read) (segments behind) (job_from (n + 1) read (segments behind)))) after

pub refused_line : (n : ℕ) (r : Reading) (text line behind : List ℕ) (why : LineReason)
    → segments text ≡ line ∷ segments behind → is_long line ≡ false → reading_after r line ≡ Err why
    → job_from n r (segments text) ≡ Err (n, why)
refused_line n r text line behind why is short after = short_turn n r text line behind (Err why) is short after

pub read_line : (n : ℕ) (r read : Reading) (text line behind : List ℕ)
    → segments text ≡ line ∷ segments behind → is_long line ≡ false → reading_after r line ≡ Ok read → job_in read ≡ None
    → job_from n r (segments text) ≡ job_from (n + 1) read (segments behind)
read_line n r read text line behind is short after going =
    short_turn n r text line behind (Ok read) is short after
    ∙ ap (λ o. end_or n o (segments behind) (job_from (n + 1) read (segments behind))) going

pub last_line : (n : ℕ) (r read : Reading) (job : Job) (text line behind : List ℕ)
    → segments text ≡ line ∷ segments behind → is_long line ≡ false → reading_after r line ≡ Ok read
    → job_in read ≡ Some job
    → job_from n r (segments text) ≡ end_at (n + 1) job (segments behind)
last_line n r read job text line behind is short after ends =
    short_turn n r text line behind (Ok read) is short after
    ∙ ap (λ o. end_or n o (segments behind) (job_from (n + 1) read (segments behind))) ends

-- ---- whether the last line came

pub goes_on : (r : Reading) → is_ended r ≡ false → job_in r ≡ None
goes_on r e = by_job (job_in r) e
  where
    by_job : (o : Option Job) → is_some o ≡ false → o ≡ None
    by_job None h = refl
    by_job (Some job) h = absurd (cc)

-- ---- behind the last line

pub nothing_behind : (text : List ℕ) → length text ≡ 0 → segments text ≡ [] ∷ []
nothing_behind [] h = refl
nothing_behind (b ∷ bs) h = absurd (omega (arith, h))

pub something_behind : (n : ℕ) (job : Job) (text : List ℕ) → (length text ≡ 0 → ⊥)
    → end_at n job (segments text) ≡ Err (n, reason.Extra)
something_behind n job [] some = absurd (some refl)
something_behind n job (b ∷ bs) some = by_feed (b == 10) (segments bs) (some_segments bs)
  where
    by_feed : (f : Bool) (s : List (List ℕ)) → (s ≡ [] → ⊥)
        → end_at n job (cond f ([] ∷ s) (onto_first b s)) ≡ Err (n, reason.Extra)
    by_feed true [] h = absurd (h refl)
    by_feed true (x ∷ xs) h = refl
    by_feed false [] h = refl
    by_feed false (x ∷ xs) h = refl

pub has_job : (r : Reading) → is_ended r ≡ true → (job : Job) × (job_in r ≡ Some job)
has_job r e = by_job (job_in r) refl e
  where
    by_job : (o : Option Job) → job_in r ≡ o → is_some o ≡ true → (job : Job) × (job_in r ≡ Some job)
    by_job None is h = absurd (cc)
    by_job (Some job) is h = (job, is)

-- ---- how it is answered

pub ends_all : {T : Type 0} (wanted : Read) (r : Reading) (job : Job) (n : ℕ) (behind : List (List ℕ))
    (result : Result T JobError)
    → wanted ≡ end_at n job behind → job_in r ≡ Some job → ReadsEnd n behind result → ReadsAll wanted r result
ends_all wanted r job n behind (Ok x) is ends h = (job, ends, is ∙ ap (end_at n job) h)
ends_all wanted r job n behind (Err (job_error.Bad m why)) is ends h = is ∙ h job
ends_all wanted r job n behind (Err job_error.Memory) is ends h = absurd h

pub bad_all : (T : Type 0) (wanted : Read) (r : Reading) (n : ℕ) (error : LineError) (e : JobError)
    → e ≡ line_fault n error
    → ((why : LineReason) → error ≡ line_error.Bad why → wanted ≡ Err (n, why)) → ReadsAll {T = T} wanted r (Err e)
bad_all T wanted r n (line_error.Bad why) e is h = subst (λ x. ReadsAll {T = T} wanted r (Err x)) (sym is) (h why refl)
bad_all T wanted r n line_error.Memory e is h = subst (λ x. ReadsAll {T = T} wanted r (Err x)) (sym is) tt

-- ---- the line in front

none_is : (b : Bool) → (b ≡ true → ⊥) → b ≡ false
none_is true h = absurd (h refl)
none_is false h = refl

-- no byte up to a place is a line feed
abbrev NoneUpTo : ℕ → List ℕ → Type 0
NoneUpTo n bytes = (k : ℕ) → k < n → (slice_index bytes k == 10) ≡ true → ⊥

behind_first : (n b : ℕ) (bs : List ℕ) → NoneUpTo (suc n) (b ∷ bs) → NoneUpTo n bs
behind_first n b bs h k low is = h (suc k) (omega (arith, low)) is

no_feed : (text : List ℕ) → NoneUpTo (length text) text → segments text ≡ text ∷ []
no_feed [] h = refl
no_feed (b ∷ bs) h =
    slice_split-cons_no (λ x. x == 10) b bs (none_is (b == 10) (h 0 (omega arith)))
    ∙ ap (onto_first b) (no_feed bs (behind_first (length bs) b bs h))

first_feed : (text : List ℕ) (n : ℕ) → n < length text → NoneUpTo n text → (slice_index text n == 10) ≡ true
    → (text ≡ take n text ++ 10 ∷ drop (suc n) text) × (segments text ≡ take n text ∷ segments (drop (suc n) text))
first_feed [] n low h is = absurd (omega (arith, low))
first_feed (b ∷ bs) zero low h is =
    (ap (λ x. x ∷ bs) (eqb-true b 10 is), slice_split-cons_yes (λ x. x == 10) b bs is)
first_feed (b ∷ bs) (suc n) low h is =
    let rest = first_feed bs n (omega (arith, low)) (behind_first n b bs h) is in (
      ap (λ l. b ∷ l) rest.0,
      slice_split-cons_no (λ x. x == 10) b bs (none_is (b == 10) (h 0 (omega arith))) ∙ ap (onto_first b) rest.1,
    )

pub no_line : (text : List ℕ) → IsFirstByte (is_byte 10) text None → segments text ≡ text ∷ []
no_line text h = no_feed text (λ k low is. h k (omega arith) low is)

rest_is : (text : List ℕ) (n : ℕ) → n < length text
    → take (length text - (n + 1)) (drop (n + 1) text) ≡ drop (suc n) text
rest_is text n low =
    let long = length-drop (n + 1) text in
    let next : n + 1 ≡ suc n = omega arith in
    take_all (length text - (n + 1)) (drop (n + 1) text) (omega (arith, long)) ∙ ap (λ m. drop m text) next

pub one_line : (text : List ℕ) (n : ℕ) → IsFirstByte (is_byte 10) text (Some n)
    → (text ≡ take n text ++ 10 ∷ take (length text - (n + 1)) (drop (n + 1) text))
    × (segments text ≡ take n text ∷ segments (take (length text - (n + 1)) (drop (n + 1) text)))
one_line text n h =
    let found = first_feed text n h.0.high (λ k low is. h.0.before k (omega arith) low is) h.1 in
    let rest = rest_is text n h.0.high in (
      found.0 ∙ ap (λ l. take n text ++ 10 ∷ l) (sym rest),
      found.1 ∙ ap (λ l. take n text ∷ segments l) (sym rest),
    )
