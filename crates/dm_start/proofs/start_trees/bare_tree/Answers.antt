use Rattle.std.proofs.Common.{◌∙◌, ap, subst, sym}
use Rattle.dm_tree.specs.Rows.{Tree, nodes, IsNoneParked}
use Rattle.dm_start.proofs.Twice.{bare_is, start_is}
use Rattle.dm_start.proofs.start_trees.bare_tree.Goals as goal

pub returns-clause-nodes : goal.returns-clause-nodes
returns-clause-nodes c =
    let acl = c.in-Ok.acl in
    c.reload.ensures.nodes
    ∙ bare_is c.set_clock.new.self.rows c.root-root.result acl c.args.clock
    (ap (λ t. nodes t.rows) c.set_clock.ensures ∙ c.in_ok-tree.ensures.nodes) c.root-root.ensures.live.1
    c.root-root.ensures.id
    (start_is acl c.in-Ok.ensures)

pub returns-clause-parked : goal.returns-clause-parked
returns-clause-parked c =
    c.reload.ensures.parked
    (subst (λ (t : Tree). IsNoneParked t.rows) (sym c.set_clock.ensures) c.in_ok-tree.ensures.parked)
