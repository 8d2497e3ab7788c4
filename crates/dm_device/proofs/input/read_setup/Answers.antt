use Rattle.dm_replay.proofs.Taken.{one_past, one_past_then}
use Rattle.dm_device.proofs.Setups.{start_stops, setup_stops, setup_is_whole}
use Rattle.dm_device.proofs.input.read_setup.Goals as goal

pub returns-in-Err-clause-start : goal.returns-in-Err-clause-start
returns-in-Err-clause-start g c =
    start_stops c.new-lines.result _ c.in-Err.halt c.new-lines.ensures c.in-Err.ensures.start

pub returns-in-Err-clause-taken : goal.returns-in-Err-clause-taken
returns-in-Err-clause-taken g c =
    one_past _ _ c.new-lines.result c.read_start.new.lines c.new-lines.ensures c.in-Err.ensures.taken
    c.in-Err.ensures.limit

pub returns-in-Ok-read_last-clause-start : goal.returns-in-Ok-read_last-clause-start
returns-in-Ok-read_last-clause-start g c =
    setup_is_whole c.new-lines.result _ _ c.in-Ok.started tt c.new-lines.ensures c.in-Ok.ensures.start
    c.in-Ok-read_last.ensures.ending

pub returns-in-Ok-read_last-clause-taken : goal.returns-in-Ok-read_last-clause-taken
returns-in-Ok-read_last-clause-taken g c =
    one_past_then _ (g.S.Source.left c.read_start.new.src) _ c.new-lines.result c.read_start.new.lines
    c.read_last.new.lines c.new-lines.ensures c.in-Ok.ensures.taken c.read_last.ensures.taken c.read_last.ensures.limit

pub returns-clause-start : goal.returns-clause-start
returns-clause-start g c =
    setup_stops c.new-lines.result _ _ c.in-Ok.started c.in-Err-read_last.halt c.new-lines.ensures c.in-Ok.ensures.start
    c.in-Err-read_last.ensures.ending

pub returns-clause-taken : goal.returns-clause-taken
returns-clause-taken g c =
    one_past_then _ (g.S.Source.left c.read_start.new.src) _ c.new-lines.result c.read_start.new.lines
    c.read_last.new.lines c.new-lines.ensures c.in-Ok.ensures.taken c.read_last.ensures.taken c.read_last.ensures.limit
