use Rattle.dm_world.proofs.SaysMade.{says_the_found}
use Rattle.dm_world.proofs.says_the_found.Goals as goal

pub returns : goal.returns
returns c = says_the_found
