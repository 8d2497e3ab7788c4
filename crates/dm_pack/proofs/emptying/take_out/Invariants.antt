use Rattle.dm_pack.proofs.Moving.{HasMoved}
use Rattle.dm_pack.proofs.emptying.take_out.Given as goal

abbrev pub invariant-loop-at : goal.invariant-loop-at
invariant-loop-at l = HasMoved l.header l.room l.fn.queue l.queue l.at l.place l.body
