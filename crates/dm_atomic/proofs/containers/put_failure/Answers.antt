use Rattle.std.proofs.Common.{map}
use Rattle.dm_atomic.specs.Made.{reported, all_reported}
use Rattle.dm_atomic.specs.Run.{not_run}
use Rattle.dm_atomic.proofs.Telling.{told_both_ok}
use Rattle.dm_atomic.proofs.containers.put_failure.Goals as goal

pub returns-clause-ok : goal.returns-clause-ok
returns-clause-ok c =
    told_both_ok c.put_not_run.result c.args.out.now c.put_report.new.out c.put_not_run.new.out
    (reported c.args.failed.now) (all_reported (map not_run c.args.unrun.now))
    c.in_ok-put_report.ensures.ok c.put_not_run.ensures.ok
