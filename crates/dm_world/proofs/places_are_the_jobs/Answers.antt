use Rattle.dm_world.proofs.PlacedActs.{places_are_the_jobs}
use Rattle.dm_world.proofs.places_are_the_jobs.Goals as goal

pub returns : goal.returns
returns c = places_are_the_jobs
