use Rattle.dm_waiting.proofs.ids.id_at.Goals as goal

pub returns : goal.returns
returns c = record { command = c.index-body-at.result; there = c.index-body-at.is; is = c.id_of.ensures }
