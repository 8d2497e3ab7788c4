use Rattle.dm_pair.proofs.TextStarts.{texts_begin}
use Rattle.dm_pair.proofs.schedules.texts_begin.Goals as goal

pub returns : goal.returns
returns c = texts_begin c.jobs_are_sound.ensures
