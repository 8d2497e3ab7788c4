use Rattle.dm_pack.proofs.Listed.{HasListed}
use Rattle.dm_pack.proofs.at_once.all_that_fit.Given as goal

abbrev pub invariant-loop-at : goal.invariant-loop-at
invariant-loop-at l = HasListed l.header l.room l.commands l.at l.place
