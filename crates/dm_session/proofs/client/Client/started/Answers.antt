use Rattle.std.proofs.Common.{◌≡◌, ◌∙◌, true, None, ap, subst}
use Rattle.std.specs.Prelude.{◌⊎◌}
use Rattle.dm_tree.specs.Nodes.{Nodes}
use Rattle.dm_tree.specs.Devices.{pkg_data, state_node, IsUpdateInOrder}
use Rattle.dm_atomic.specs.Updates.{is_updating}
use Rattle.dm_session.specs.View.{WholeMachine}
use Rattle.dm_session.proofs.Updates.{runs_where_it_is}
use Rattle.dm_session.proofs.client.Client.started.Goals as goal

pub returns-in_err-found-clause-none : goal.returns-in_err-found-clause-none
returns-in_err-found-clause-none c =
    let m = c.args.self.now.machine.engine.tree in
    let on : is_updating m ≡ true = cc in
    let here = c.tree-tree.ensures.nodes ∙ ap (λ (w : WholeMachine). w.machine.engine.tree) c.self.view_is in
    let lacks = subst (λ (t : Nodes). (pkg_data t ≡ None) ⊎ (state_node t ≡ None)) here
    (c.update_ids.ensures.none c.in_err-found.was) in
    let order = subst IsUpdateInOrder (ap (λ (w : WholeMachine). w.machine.engine.tree) c.self.view_is)
    c.self.invariant.goes_on.engine.update in
    absurd (runs_where_it_is m order on lacks)
