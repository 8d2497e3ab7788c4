-- What is told of the parts of a text, and of the whole.
use Rattle.std.proofs.Common.{◌≡◌, ◌∙◌, ◌++◌, ◌+◌, ◌<◌, ◌≤◌, ℕ, Bool, true, false, List, [], ◌∷◌, refl, sym, ap}
use Rattle.std.proofs.Common.{subst, length, arith}
use Rattle.std.proofs.Common.{length-append, append-nil}
use Rattle.std.proofs.lemmas.Grind.{common_steps}
use Rattle.std.specs.Prelude.{Option, Some, None, Result, Ok, Err}
use Rattle.std.specs.Io.KnownBytes.{Appends, Consumes, IsAtEnd, Keeps}
use Rattle.dm_base.specs.Outside.{OfKnown, TakesAll}
use Rattle.dm_base.specs.declared.lines.LineReason.TheVariants as reason
use Rattle.dm_base.specs.declared.outside.TakeError.TheVariants as take_error
use Rattle.dm_exit.specs.declared.exit.Exit.{Exit}
use Rattle.dm_exit.specs.declared.exit.Exit.TheVariants as exit
use Rattle.dm_exit.specs.Puts.{PutsEnd, Ends}
use Rattle.dm_exit.specs.Answers.{IsOfText, DoneAtEnd}
use Rattle.dm_exit.proofs.Parts.{ends_put, end_of_text, prefix_none}
use Rattle.dm_texts.specs.Lines.{bad_line}
use Rattle.dm_ddf.specs.declared.errors.DdfError.{DdfError}
use Rattle.dm_ddf.specs.declared.errors.DdfError.TheVariants as ddf_error
use Rattle.dm_ddf.specs.Refusals.{StopsAs, IsMore}
use Rattle.dm_ddf.proofs.Turns.{more_is_refused}
use Rattle.dm_ddf.specs.Texts.{Refused, then_read, with_nothing_behind, answer_for, exit_for, text_said, exit_of_text}
use Rattle.dm_ddf.specs.Texts.{is_past_limit, GivesTold}
use Rattle.dm_ddf.specs.Answered.{AnsweredAs, TellsText}

-- ---- parts

pub stop_first : {X Y : Type 0} (w : Result X Refused) (next : X → Result Y Refused) (e : DdfError) → StopsAs w e
    → StopsAs (then_read w next) e
stop_first w next (ddf_error.Bad n why) h = ap (λ x. then_read x next) h
stop_first w next ddf_error.Memory h = tt

pub stop_then : {X Y : Type 0} (w : Result X Refused) (x : X) (next : X → Result Y Refused) (e : DdfError) → w ≡ Ok x
    → StopsAs (next x) e → StopsAs (then_read w next) e
stop_then w x next (ddf_error.Bad n why) is h = ap (λ y. then_read y next) is ∙ h
stop_then w x next ddf_error.Memory is h = tt

pub stop_tells : (w : Result (List ℕ) Refused) (e : DdfError) → StopsAs w e → TellsText w (Err e)
stop_tells w (ddf_error.Bad n why) h = h
stop_tells w ddf_error.Memory h = tt

pub stop_gives : {X : Type 0} (w : Result X Refused) (e : DdfError) → StopsAs w e → GivesTold w (Err e)
stop_gives w (ddf_error.Bad n why) h = h
stop_gives w ddf_error.Memory h = tt

-- what stops the reading of a description stops all that is made of it
pub gives_tells : {X : Type 0} (w : Result X Refused) (next : X → Result (List ℕ) Refused) (e : DdfError)
    → GivesTold w (Err e) → TellsText (then_read w next) (Err e)
gives_tells w next (ddf_error.Bad n why) h = ap (λ x. then_read x next) h
gives_tells w next ddf_error.Memory h = tt

pub is_alone : {X : Type 0} (n : ℕ) (x : X) (segs : List (List ℕ)) → segs ≡ [] ∷ [] → with_nothing_behind n x segs
    ≡ Ok x
is_alone n x segs is = ap (with_nothing_behind n x) is

-- what stands behind the last line stops it
pub extra_stops : {X : Type 0} (n : ℕ) (x : X) (segs : List (List ℕ)) (e : DdfError) → e ≡ ddf_error.Bad n reason.Extra
    → IsMore segs → StopsAs (with_nothing_behind n x segs) e
extra_stops n x segs e is more = subst (StopsAs (with_nothing_behind n x segs)) (sym is) (more_is_refused n x segs more)

-- ---- the whole

ends_full : (text : List ℕ) (good : Exit) (old new : Option (List ℕ)) (e : Exit) → good ≡ exit.Done
    → PutsEnd text exit.Done old new e → Ends text good old new e
ends_full text good old new e is h =
    subst (λ g. Ends text g old new e) (sym is) (ends_put text exit.Done old new e (λ put. (put, refl)) h)

pub answer_ends : (w : Result (List ℕ) Refused) (told : Result (List ℕ) DdfError) (old new : Option (List ℕ)) (e : Exit)
    → TellsText w told → AnsweredAs told old new e → Ends (answer_for w) (exit_for w) old new e
answer_ends w (Ok out) old new e tells h =
    ends_full (answer_for w) (exit_for w) old new e tells.1 (subst (λ t. PutsEnd t exit.Done old new e) (sym tells.0) h)
answer_ends w (Err (ddf_error.Bad n why)) old new e tells h =
    subst (λ x. Ends (answer_for x) (exit_for x) old new e) (sym tells)
    (ends_put (bad_line n why) exit.BadInput old new e (λ put. (put, refl)) h)
answer_ends w (Err ddf_error.Memory) old new e tells h =
    subst (Ends (answer_for w) (exit_for w) old new) (sym h.1) (prefix_none old new (answer_for w) h.0)

pub answer_of_text : (told : Result (List ℕ) DdfError) (old new : Option (List ℕ)) (e : Exit)
    → AnsweredAs told old new e → IsOfText e
answer_of_text (Ok out) old new e h = end_of_text out exit.Done old new e tt h
answer_of_text (Err (ddf_error.Bad n why)) old new e h = end_of_text (bad_line n why) exit.BadInput old new e tt h
answer_of_text (Err ddf_error.Memory) old new e h = subst IsOfText (sym h.1) tt

few : (bytes : List ℕ) → length bytes ≤ 67108864 → is_past_limit bytes ≡ false
few bytes h = grind (arith, common_steps, h)

many : (bytes : List ℕ) → 67108864 < length bytes → is_past_limit bytes ≡ true
many bytes h = grind (arith, common_steps, h)

whole_ends : (says : List ℕ → Result (List ℕ) Refused) (bytes : List ℕ) (old new : Option (List ℕ)) (e : Exit)
    → is_past_limit bytes ≡ false → Ends (answer_for (says bytes)) (exit_for (says bytes)) old new e
    → Ends (text_said says bytes) (exit_of_text says bytes) old new e
unfolding text_said exit_of_text
whole_ends says bytes old new e short h = rw short h

taken_is : (bytes : List ℕ) (left : Option (List ℕ)) (input : List ℕ) → Consumes (Some bytes) left input
    → IsAtEnd left → bytes ≡ input
taken_is bytes None input taken end = absurd taken
taken_is bytes (Some ys) input taken end = taken ∙ ap (λ l. input ++ l) end ∙ append-nil input

pub all_ends : (says : List ℕ → Result (List ℕ) Refused) (left rest : Option (List ℕ)) (input : List ℕ)
    (old new : Option (List ℕ)) (e : Exit) → TakesAll left rest 67108864 (Ok input)
    → Ends (answer_for (says input)) (exit_for (says input)) old new e
    → OfKnown left (λ bytes. Ends (text_said says bytes) (exit_of_text says bytes) old new e)
all_ends says None rest input old new e took h = tt
all_ends says (Some bytes) rest input old new e took h =
    subst (λ b. Ends (text_said says b) (exit_of_text says b) old new e) (sym (taken_is bytes rest input took.1 took.2))
    (whole_ends says input old new e (few input took.0) h)

appends_nothing : (old : Option (List ℕ)) → Appends old old []
appends_nothing None = tt
appends_nothing (Some xs) = sym (append-nil xs)

long_ends : (says : List ℕ → Result (List ℕ) Refused) (bytes : List ℕ) (old : Option (List ℕ))
    → is_past_limit bytes ≡ true → Ends (text_said says bytes) (exit_of_text says bytes) old old exit.TooLong
unfolding text_said exit_of_text
long_ends says bytes old all = rw all (appends_nothing old, refl)

longer : (bytes : List ℕ) (left : Option (List ℕ)) (input : List ℕ) → length input ≡ 67108864 + 1
    → Consumes (Some bytes) left input → 67108864 < length bytes
longer bytes None input long taken = absurd taken
longer bytes (Some ys) input long taken =
    let whole = ap length taken in
    let parts = length-append input ys in
    omega (arith, long, whole, parts)

pub too_long : (says : List ℕ → Result (List ℕ) Refused) (left rest old : Option (List ℕ))
    → TakesAll left rest 67108864 (Err take_error.TooLong)
    → OfKnown left (λ bytes. Ends (text_said says bytes) (exit_of_text says bytes) old old exit.TooLong)
too_long says None rest old took = tt
too_long says (Some bytes) rest old took =
    long_ends says bytes old (many bytes (longer bytes rest took.0 took.1 took.2))
