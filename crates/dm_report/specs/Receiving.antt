-- How the value is kept that is being gathered.
use Rattle.std.specs.Prelude.{◌≡◌, length, take}
use Rattle.dm_objects.specs.declared.piece.Piece.{Piece}
use Rattle.dm_objects.specs.declared.piece.What.{What}
use Rattle.dm_objects.specs.Gathering.{gather}
use Rattle.dm_objects.specs.Seen.{Seen, present}
use Rattle.dm_report.specs.Known.{GatheredSoFar}

abbrev pub gathered_of : Seen → GatheredSoFar
gathered_of s = record { max_obj = s.max_obj; object = present s.objects }

-- the inbox can go back to what it was
pub record HoldsOn (old new : Seen) : Type 0 where
  pub max_obj : new.max_obj ≡ old.max_obj
  pub objects : take (length old.objects) new.objects ≡ old.objects

-- a piece came to this, and to this object
pub record Comes (old new : Seen) (piece : Piece) (what : What) : Type 0 where
  pub now : present new.objects ≡ (gather old.max_obj (present old.objects) piece).object
  pub is : what ≡ (gather old.max_obj (present old.objects) piece).what
