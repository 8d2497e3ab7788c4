use Rattle.dm_pack.proofs.Taking.{HasTaken}
use Rattle.dm_pack.proofs.fitting.take_entries.Given as goal

abbrev pub invariant-loop-at : goal.invariant-loop-at
invariant-loop-at l = HasTaken l.header l.room l.queue l.at l.place l.body
