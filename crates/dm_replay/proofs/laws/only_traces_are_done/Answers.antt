use Rattle.dm_replay.proofs.Back as back
use Rattle.dm_replay.proofs.laws.only_traces_are_done.Goals as goal

pub returns : goal.returns
returns c = back.only_traces_are_done
