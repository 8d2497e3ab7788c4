use Rattle.std.proofs.Common.{◌≡◌, ◌++◌, length}
use Rattle.std.specs.Prelude.{IsTrue}
use Rattle.std.specs.List.{list_all, slice_split}
use Rattle.dm_uri.specs.Names.{is_name}
use Rattle.dm_uri.specs.Reading.{is_slash}
use Rattle.dm_uri.proofs.reading.names_of.Given as goal

-- the names so far and those of the rest are those of all
abbrev pub invariant-loop-front : goal.invariant-loop-front
invariant-loop-front l = record {
  all : l.names ++ slice_split is_slash l.rest ≡ slice_split is_slash l.text;
  names : IsTrue (list_all is_name (slice_split is_slash l.rest));
}

abbrev pub decreases-loop-front : goal.decreases-loop-front
decreases-loop-front l = length l.rest
