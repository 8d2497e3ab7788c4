use Rattle.dm_replay.proofs.Refusals as refusals
use Rattle.dm_replay.proofs.laws.refusals_are_told.Goals as goal

pub returns : goal.returns
returns c = refusals.refusals_are_told
