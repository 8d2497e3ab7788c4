use Rattle.dm_world.proofs.SaysMade.{says_the_made}
use Rattle.dm_world.proofs.says_the_made.Goals as goal

pub returns : goal.returns
returns c = says_the_made
