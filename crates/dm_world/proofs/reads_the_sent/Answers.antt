use Rattle.dm_world.proofs.ReadAgain.{reads_the_sent}
use Rattle.dm_world.proofs.reads_the_sent.Goals as goal

pub returns : goal.returns
returns c = reads_the_sent
