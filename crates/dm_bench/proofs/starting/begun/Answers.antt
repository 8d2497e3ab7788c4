use Rattle.dm_bench.proofs.Beginning.{begun_is}
use Rattle.dm_bench.proofs.starting.begun.Goals as goal

pub returns-in-Ok : goal.returns-in-Ok
returns-in-Ok c =
    begun_is c.args.nodes c.in_ok-start.start _ _ c.in_ok-start.ensures.told c.in_ok-client.ensures.machine
    c.in-Ok.ensures.ok
