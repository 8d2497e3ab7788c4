use Rattle.dm_replay.proofs.WholeTraces as traces
use Rattle.dm_replay.proofs.laws.whole_traces_are_answered.Goals as goal

pub returns : goal.returns
returns c = traces.whole_traces_are_answered
