use Rattle.std.proofs.Common.{◌∙◌, ap, length}
use Rattle.dm_tree.specs.Rows.{nodes}
use Rattle.dm_atomic.proofs.Results.{begun_state, begun_past}
use Rattle.dm_atomic.proofs.engine.Engine.new.Goals as goal

pub returns-clause-state : goal.returns-clause-state
returns-clause-state c =
    begun_state (nodes c.args.tree.rows) c.new-inbox.result c.args.max_obj c.in_ok-started.started c.new-inbox.ensures
    c.in_ok-started.ensures

pub returns-clause-past : goal.returns-clause-past
returns-clause-past c =
    begun_past _ c.new-inbox.result c.args.max_obj _ _ (c.reserve.ensures.entries ∙ c.in_ok-journal.ensures.entries)
    c.new-inbox.ensures (ap length c.new-4.ensures.items) (ap length c.new-3.ensures.items)
