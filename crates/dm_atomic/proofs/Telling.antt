-- What is told piece by piece.
use Rattle.std.proofs.Common.{◌≡◌, Bool, true, false, List, [], ◌∷◌, ◌++◌, map, refl, sym, ◌∙◌, ap, append_assoc}
use Rattle.std.specs.Prelude.{if◌then◌else◌, Result, Ok, Err, OnOk}
use Rattle.std.proofs.lemmas.List.{append-nil, map-append}
use Rattle.syncml_types.specs.declared.command.Command.{Command}
use Rattle.dm_atomic.specs.Made.{Made, command_told, is_suppressed, told, IsInFront}

told_if : (m : Made) (a b : List Made) (w : Bool)
    → (if w then told a else command_told m ∷ told a) ++ told b ≡ if w then told a ++ told b
    else command_told m ∷ (told a ++ told b)
told_if m a b true = refl
told_if m a b false = refl

pub told_append : (a b : List Made) → told (a ++ b) ≡ told a ++ told b
told_append [] b = refl
told_append (m ∷ a) b =
    ap (λ t. if is_suppressed m then t else command_told m ∷ t) (told_append a b) ∙ sym (told_if m a b (is_suppressed m))

-- one list of things is told behind another
pub told_both : (out first second : List Command) (a b : List Made)
    → first ≡ out ++ told a → second ≡ first ++ told b → second ≡ out ++ told (a ++ b)
told_both out first second a b e f =
    f ∙ ap (λ x. x ++ told b) e ∙ append_assoc out (told a) (told b) ∙ ap (λ x. out ++ x) (sym (told_append a b))

pub nothing_more : (out : List Command) → IsInFront out out
nothing_more out = ([], sym (append-nil out))

pub some_more : (out first second : List Command) (a : List Made)
    → first ≡ out ++ told a → IsInFront first second → IsInFront out second
some_more out first second a e (more, f) =
    (told a ++ more, f ∙ ap (λ x. x ++ more) e ∙ append_assoc out (told a) more)

-- some is told, and the rest is left
pub IsTelling : List Command → List Command → List Made → List Made → Type 0
IsTelling out now rest whole = (done : List Made) × (now ≡ out ++ told done) × (done ++ rest ≡ whole)

pub telling_starts : (out : List Command) (whole : List Made) → IsTelling out out whole whole
unfolding IsTelling
telling_starts out whole = ([], sym (append-nil out), refl)

pub telling_goes_on : (out now next : List Command) (rest part left whole : List Made)
    → IsTelling out now rest whole → rest ≡ part ++ left → next ≡ now ++ told part → IsTelling out next left whole
unfolding IsTelling
telling_goes_on out now next rest part left whole (done, e, f) g h =
    (done ++ part, told_both out now next done part e h, append_assoc done part left ∙ ap (λ x. done ++ x) (sym g) ∙ f)

pub telling_ends : (out now : List Command) (rest whole : List Made)
    → IsTelling out now rest whole → rest ≡ [] → now ≡ out ++ told whole
unfolding IsTelling
telling_ends out now rest whole (done, e, f) g =
    e ∙ ap (λ x. out ++ told x) (sym (append-nil done) ∙ ap (λ x. done ++ x) (sym g) ∙ f)

pub telling_stops : (out now next : List Command) (rest whole : List Made)
    → IsTelling out now rest whole → next ≡ now → IsInFront out next
unfolding IsTelling
telling_stops out now next rest whole (done, e, f) g = (told done, g ∙ e)

pub telling_breaks : (out now next : List Command) (rest whole : List Made)
    → IsTelling out now rest whole → IsInFront now next → IsInFront out next
unfolding IsTelling
telling_breaks out now next rest whole (done, e, f) = some_more out now next done e

pub told_both_ok : {X Y : Type 0} (result : Result X Y) (out first second : List Command) (a b : List Made)
    → first ≡ out ++ told a → OnOk result (second ≡ first ++ told b) → OnOk result (second ≡ out ++ told (a ++ b))
told_both_ok (Ok x) out first second a b e f = told_both out first second a b e f
told_both_ok (Err x) out first second a b e f = f

-- what was told of the first ones, and of the next
pub one_more : {X : Type 0} (made : X → Made) (out now next : List Command) (done : List X) (x : X)
    → now ≡ out ++ told (map made done) → next ≡ now ++ told (made x ∷ [])
    → next ≡ out ++ told (map made (done ++ x ∷ []))
one_more made out now next done x e f =
    told_both out now next (map made done) (made x ∷ []) e f
    ∙ ap (λ ms. out ++ told ms) (sym (map-append made done (x ∷ [])))
