-- Whatever comes to an inbox, no fewer objects have been seen behind it.
use Rattle.std.proofs.Common.{◌≡◌, ◌≤◌, ◌+◌, ◌&&◌, Bool, true, false, not, if◌then◌else◌, List, [], ◌∷◌, ◌++◌, length}
use Rattle.std.proofs.Common.{Result, Ok, Err, OnOk, OnErr, IfOk, length-append, refl, sym, subst, ap, arith}
use Rattle.dm_objects.specs.declared.object.Object.{Object}
use Rattle.dm_objects.specs.declared.piece.Piece.{Piece}
use Rattle.dm_objects.specs.declared.piece.Taken.{Taken}
use Rattle.dm_objects.specs.Seen.{Seen, present, is_unfinished, holding, Takes}

abbrev NoFewer : Seen → Seen → Type 0
NoFewer old new = length old.objects ≤ length new.objects

pub held : (old new : Seen) (next : Object) → new ≡ holding old next → NoFewer old new
held old new next is = subst (NoFewer old) (sym is)
    (by_test (not (is_unfinished (present old.objects)) && not (is_unfinished next)))
  where
    by_test : (b : Bool) → length old.objects ≤ length (if b then old.objects else old.objects ++ next ∷ [])
    by_test true = omega arith
    by_test false = omega (arith, length-append old.objects (next ∷ []))

same : (old new : Seen) → new ≡ old → NoFewer old new
same old new is = let lengths = ap (λ (s : Seen). length s.objects) is in omega (arith, lengths)

pub held_or_same : {A E : Type 0} (r : Result A E) (old new : Seen) (next : Object) → OnOk r (new ≡ holding old next)
    → OnErr r (new ≡ old) → length old.objects ≤ length new.objects
held_or_same (Ok x) old new next ok err = held old new next ok
held_or_same (Err e) old new next ok err = same old new err

pub taken_or_same : {E : Type 0} (r : Result Taken E) (old new : Seen) (piece : Piece)
    → IfOk r (λ taken. Takes old new piece taken)
    → OnErr r (new ≡ old) → length old.objects ≤ length new.objects
taken_or_same (Ok taken) old new piece ok err = held old new _ ok.now
taken_or_same (Err e) old new piece ok err = same old new err
