-- What an inbox that took a piece can go back to, and what it has then.
use Rattle.std.proofs.Common.{◌≡◌, ◌&&◌, ℕ, Bool, true, false, not, cond, List, [], ◌∷◌}
use Rattle.std.proofs.Common.{◌++◌, refl, sym, ◌∙◌}
use Rattle.dm_objects.specs.declared.object.Object.{Object}
use Rattle.dm_objects.specs.declared.object.Object.TheVariants.{Nothing, Buffering, Skipping}
use Rattle.dm_objects.specs.declared.piece.Piece.{Piece}
use Rattle.dm_objects.specs.declared.piece.Taken.{Taken}
use Rattle.dm_objects.specs.Gathering.{gather}
use Rattle.dm_objects.specs.Seen.{Seen, present, is_unfinished, now_holding, holding, Takes}
use Rattle.dm_report.specs.Receiving.{gathered_of, Comes}

-- ---- the present object

present-end : (os : List Object) (o : Object) → present (os ++ o ∷ []) ≡ o
present-end [] o = refl
present-end (p ∷ []) o = refl
present-end (p ∷ q ∷ os) o = present-end (q ∷ os) o

is-nothing : (o : Object) → is_unfinished o ≡ false → o ≡ Nothing
is-nothing Nothing e = refl
is-nothing (Buffering begun) e = absurd (cc)
is-nothing (Skipping key code) e = absurd (cc)

present-now : (os : List Object) (next : Object) (a b : Bool) → is_unfinished (present os) ≡ a
    → is_unfinished next ≡ b → present (cond (not a && not b) os (os ++ next ∷ [])) ≡ next
present-now os next true b e f = present-end os next
present-now os next false true e f = present-end os next
present-now os next false false e f = is-nothing (present os) e ∙ sym (is-nothing next f)

pub present-holding : (os : List Object) (next : Object) → present (now_holding os next) ≡ next
present-holding os next = present-now os next (is_unfinished (present os)) (is_unfinished next) refl refl

-- ---- a piece

pub takes-comes : (old new : Seen) (piece : Piece) (taken : Taken) → Takes old new piece taken
    → Comes old new piece taken.what
takes-comes old new piece taken t = record {
  now = rw t.now (present-holding old.objects (gather old.max_obj (present old.objects) piece).object);
  is = t.what;
}
