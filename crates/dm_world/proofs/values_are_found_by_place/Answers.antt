use Rattle.dm_world.proofs.WholeValues.{values_are_found_by_place}
use Rattle.dm_world.proofs.values_are_found_by_place.Goals as goal

pub returns : goal.returns
returns c = values_are_found_by_place
