-- The objects that an inbox has held since it was settled, the present one last.
use Rattle.std.specs.Prelude.{◌≡◌, ℕ, ◌&&◌, Bool, true, false, not, if◌then◌else◌, List, [], ◌∷◌, ◌++◌}
use Rattle.std.specs.Prelude.{length, take, nat_le}
use Rattle.dm_objects.specs.declared.object.Object.{Object}
use Rattle.dm_objects.specs.declared.object.Object.TheVariants.{Nothing, Buffering, Skipping}
use Rattle.dm_objects.specs.declared.log.Past.{Past}
use Rattle.dm_objects.specs.declared.log.Past.TheVariants.{Same, Was, Grew}
use Rattle.dm_objects.specs.declared.piece.Piece.{Piece}
use Rattle.dm_objects.specs.declared.piece.Taken.{Taken}
use Rattle.dm_objects.specs.Gathering.{gather}

-- an inbox: the greatest object that it takes, and the objects seen, the present one last
pub record Seen : Type 0 where
  pub max_obj : ℕ
  pub objects : List Object

-- the present object
abbrev pub present : List Object → Object
present [] = Nothing
present (o ∷ []) = o
present (o ∷ p ∷ os) = present (p ∷ os)

-- an object of which more pieces may come: one that is buffered, or skipped
abbrev pub is_unfinished : Object → Bool
is_unfinished Nothing = false
is_unfinished (Buffering begun) = true
is_unfinished (Skipping key code) = true

-- a piece that is a whole step, no larger than the greatest, where nothing is unfinished
abbrev pub is_whole_step : ℕ → Object → Piece → Bool
is_whole_step max object piece = not (is_unfinished object) && not piece.more && nat_le (length piece.step.value) max

-- another object is the present one; where there was none and is none, nothing is new
abbrev pub now_holding : List Object → Object → List Object
now_holding objects next =
    if not (is_unfinished (present objects)) && not (is_unfinished next) then objects else objects ++ next ∷ []

abbrev pub holding : Seen → Object → Seen
holding seen next = record seen { objects = now_holding seen.objects next }

-- a piece was taken: what it came to, and the object behind it
pub record Takes (old new : Seen) (piece : Piece) (taken : Taken) : Type 0 where
  pub now : new ≡ holding old (gather old.max_obj (present old.objects) piece).object
  pub broken : taken.broken ≡ (gather old.max_obj (present old.objects) piece).broken
  pub what : taken.what ≡ (gather old.max_obj (present old.objects) piece).what

-- ---- how the objects seen follow from the present one and the changes

abbrev pub shortened : ℕ → Object → Object
shortened length_before Nothing = Nothing
shortened length_before (Buffering begun) = Buffering (record begun { value = take length_before begun.value })
shortened length_before (Skipping key code) = Skipping key code

-- an object that is being buffered gets more bytes
abbrev pub extended : Object → List ℕ → Object
extended Nothing bytes = Nothing
extended (Buffering begun) bytes = Buffering (record begun { value = begun.value ++ bytes })
extended (Skipping key code) bytes = Skipping key code

-- what stood before a change, from what stood behind it
abbrev pub before : Past → Object → Object
before Same now = now
before (Was object) now = object
before (Grew length_before) now = shortened length_before now

abbrev pub first_or : List Object → Object → Object
first_or [] now = now
first_or (o ∷ os) now = o

-- the objects seen, by the changes, the oldest first
abbrev pub seen_of : List Past → Object → List Object
seen_of [] now = now ∷ []
seen_of (p ∷ ps) now = before p (first_or (seen_of ps now) now) ∷ seen_of ps now
