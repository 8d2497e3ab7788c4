-- What the command puts of what it took.
use Rattle.std.proofs.Common.{◌≡◌, ◌∙◌, ◌+◌, ◌++◌, ◌<◌, ◌≤◌, ℕ, Bool, true, false, List, [], refl, sym, ap, subst}
use Rattle.std.proofs.Common.{length, arith, length-append, append-nil}
use Rattle.std.proofs.lemmas.Grind.{common_steps}
use Rattle.std.proofs.KnownBytes.{Appends-trans}
use Rattle.std.specs.Prelude.{Option, Some, None, Result, Ok, Err, MatchResult}
use Rattle.std.specs.Io.KnownBytes.{Appends, Consumes, IsAtEnd}
use Rattle.dm_base.specs.Outside.{OfKnown, TakesAll}
use Rattle.dm_base.specs.declared.outside.TakeError.TheVariants as take_error
use Rattle.dm_exit.specs.declared.exit.Exit.{Exit}
use Rattle.dm_exit.specs.declared.exit.Exit.TheVariants as exit
use Rattle.dm_exit.specs.Puts.{PutsPart, PutsEnd, Ends}
use Rattle.dm_exit.specs.Answers.{IsOfText}
use Rattle.dm_exit.proofs.Parts.{ends_put, rest_breaks, end_of_text}
use Rattle.dm_pair.specs.Texts.{written, is_too_long, pair_text, pair_exit}
use Rattle.dm_pair.specs.Seen.{exit_where_bad}

-- ---- the text of the whole input

full : (text : List ℕ) (bad : Bool) (old new : Option (List ℕ)) → Appends old new text
    → Ends text (exit_where_bad bad) old new (exit_where_bad bad)
full text true old new h = (h, refl)
full text false old new h = (h, refl)

ends_by : (text : List ℕ) (bad : Bool) (old new : Option (List ℕ)) (e : Exit) → PutsEnd text (exit_where_bad bad) old new e
    → Ends text (exit_where_bad bad) old new e
ends_by text bad old new e h = ends_put text (exit_where_bad bad) old new e (full text bad old new) h

few : (bytes : List ℕ) → length bytes ≤ 67108864 → is_too_long bytes ≡ false
few bytes h = grind (arith, common_steps, h)

many : (bytes : List ℕ) → 67108864 < length bytes → is_too_long bytes ≡ true
many bytes h = grind (arith, common_steps, h)

whole_ends : (bytes : List ℕ) (b : Bool) (old new : Option (List ℕ)) (e : Exit) → is_too_long bytes ≡ b → b ≡ false
    → Ends (written bytes).text (exit_where_bad (written bytes).bad) old new e
    → Ends (pair_text bytes) (pair_exit bytes) old new e
unfolding pair_text pair_exit
whole_ends bytes b old new e is none h = rw is (rw none h)

-- all of it was taken
taken_is : (bytes : List ℕ) (left : Option (List ℕ)) (input : List ℕ) → Consumes (Some bytes) left input
    → IsAtEnd left → bytes ≡ input
taken_is bytes None input taken end = absurd taken
taken_is bytes (Some ys) input taken end = taken ∙ ap (λ l. input ++ l) end ∙ append-nil input

pub all_put : (left rest : Option (List ℕ)) (input text : List ℕ) (bad : Bool) (old new : Option (List ℕ)) (e : Exit)
    → TakesAll left rest 67108864 (Ok input) → text ≡ (written input).text → bad ≡ (written input).bad
    → PutsEnd text (exit_where_bad bad) old new e → OfKnown left (λ bytes. Ends (pair_text bytes) (pair_exit bytes) old new e)
all_put None rest input text bad old new e took is_text is_bad h = tt
all_put (Some bytes) rest input text bad old new e took is_text is_bad h =
    subst (λ b. Ends (pair_text b) (pair_exit b) old new e) (sym (taken_is bytes rest input took.1 took.2))
    (whole_ends input false old new e (few input took.0) refl
    (subst (λ t. Ends t (exit_where_bad (written input).bad) old new e) is_text
    (subst (λ b. Ends text (exit_where_bad b) old new e) is_bad (ends_by text bad old new e h))))

-- ---- part by part

-- a text behind its front
pub both_put : {T : Type 0} (old mid new : Option (List ℕ)) (front rest : List ℕ) (r : Result T Exit)
    → Appends old mid front
    → MatchResult r (λ _. Appends mid new rest) (λ e. PutsPart mid new rest e)
    → MatchResult r (λ _. Appends old new (front ++ rest)) (λ e. PutsPart old new (front ++ rest) e)
both_put old mid new front rest (Ok x) put h = Appends-trans old mid new front rest put h
both_put old mid new front rest (Err e) put h = rest_breaks old mid new front rest e put h

-- ---- nothing is put

appends_nothing : (old : Option (List ℕ)) → Appends old old []
appends_nothing None = tt
appends_nothing (Some xs) = sym (append-nil xs)

long_ends : (bytes : List ℕ) (b : Bool) (old : Option (List ℕ)) → is_too_long bytes ≡ b → b ≡ true
    → Ends (pair_text bytes) (pair_exit bytes) old old exit.TooLong
unfolding pair_text pair_exit
long_ends bytes b old is all = rw is (rw all (appends_nothing old, refl))

longer : (bytes : List ℕ) (left : Option (List ℕ)) (input : List ℕ) → length input ≡ 67108864 + 1
    → Consumes (Some bytes) left input → 67108864 < length bytes
longer bytes None input long taken = absurd taken
longer bytes (Some ys) input long taken =
    let whole = ap length taken in
    let parts = length-append input ys in
    omega (arith, long, whole, parts)

pub too_long : (left rest old : Option (List ℕ)) → TakesAll left rest 67108864 (Err take_error.TooLong)
    → OfKnown left (λ bytes. Ends (pair_text bytes) (pair_exit bytes) old old exit.TooLong)
too_long None rest old took = tt
too_long (Some bytes) rest old took =
    long_ends bytes true old (many bytes (longer bytes rest took.0 took.1 took.2)) refl

-- ---- the answer

exit_of_text : (bad : Bool) → IsOfText (exit_where_bad bad)
exit_of_text true = tt
exit_of_text false = tt

pub put_of_text : (text : List ℕ) (bad : Bool) (old new : Option (List ℕ)) (e : Exit)
    → PutsEnd text (exit_where_bad bad) old new e → IsOfText e
put_of_text text bad old new e h = end_of_text text (exit_where_bad bad) old new e (exit_of_text bad) h
