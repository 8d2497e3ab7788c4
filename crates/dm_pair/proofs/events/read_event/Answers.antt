use Rattle.std.proofs.Common.{length}
use Rattle.dm_pair.specs.Events.{trace_line}
use Rattle.dm_pair.proofs.Within.{read_within, trace_within}
use Rattle.dm_pair.proofs.events.read_event.Goals as goal

pub returns-else-begins_with-3-clause-range : goal.returns-else-begins_with-3-clause-range
returns-else-begins_with-3-clause-range c =
    read_within (length c.args.ids.now) c.args.ups c.args.downs (trace_line c.args.ids.now c.args.line.now)
    c.trace_line.result (trace_within c.args.ids.now c.args.ups c.args.downs c.args.line.now) c.trace_line.ensures
