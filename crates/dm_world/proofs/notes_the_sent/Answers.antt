use Rattle.dm_world.proofs.Noted.{notes_the_sent}
use Rattle.dm_world.proofs.notes_the_sent.Goals as goal

pub returns : goal.returns
returns c = notes_the_sent
