use Rattle.dm_bench.proofs.Leading.{head_leads}
use Rattle.dm_bench.proofs.starting.take_head.Goals as goal

pub returns-clause-read : goal.returns-clause-read
returns-clause-read c =
    head_leads _ _ _ _ _ _ _ c.in_ok-take_line.ensures.read c.in_ok-take_line-2.ensures.read
    c.in_ok-take_line-3.ensures.read c.in_ok-take_line-4.ensures.read c.in_ok-take_line-5.ensures.read
    c.in_ok-take_line-6.ensures.read
