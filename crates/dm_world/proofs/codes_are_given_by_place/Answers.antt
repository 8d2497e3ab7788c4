use Rattle.dm_world.proofs.PlacedCodes.{codes_are_given_by_place}
use Rattle.dm_world.proofs.codes_are_given_by_place.Goals as goal

pub returns : goal.returns
returns c = codes_are_given_by_place
