use Rattle.dm_replay.proofs.ReadyStarts as lemmas
use Rattle.dm_replay.proofs.laws.starts_are_ready.Goals as goal

pub returns : goal.returns
returns c = lemmas.starts_are_ready
