use Rattle.dm_pair.proofs.RefusedTexts as lemmas
use Rattle.dm_pair.proofs.refusals.refusals_are_told.Goals as goal

pub returns : goal.returns
returns c = lemmas.refusals_are_told
