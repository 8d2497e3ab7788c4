use Rattle.dm_bench.proofs.Leading.{told_is}
use Rattle.dm_bench.proofs.starting.start.Goals as goal

pub returns-in-Ok-clause-told : goal.returns-in-Ok-clause-told
returns-in-Ok-clause-told c =
    told_is c.args.nodes _ _ _ _ c.new-reader.ensures c.in_ok-take_head.ensures.read c.in_ok-take_leaves.ensures.read
    c.in-Ok.ensures.told
