use Rattle.std.proofs.Common.{◌∙◌, sym, ap, subst, refl}
use Rattle.dm_tree.specs.declared.nodes.Node.{Node}
use Rattle.dm_tree.specs.Devices.{is_of_update, is_update_state}
use Rattle.std.specs.Str.Parse.{digits_value}
use Rattle.dm_commands.specs.Places.{IsState}
use Rattle.dm_commands.proofs.Updating.{has_above, state_beside-is, the_state, state_at}
use Rattle.dm_commands.proofs.updates.state_beside.Goals as goal

pub returns-in_err-above : goal.returns-in_err-above
returns-in_err-above c =
    absurd (has_above c.args.tree.now.rows c.root.ensures.sound c.args.update c.requires.live
    (ap is_of_update c.requires.role)
    c.in_err-above.ensures.found)

pub returns-in_err-id : goal.returns-in_err-id
returns-in_err-id c =
    subst (IsState c.args.tree.now.rows) (sym c.from_residual-in_err-id.ensures)
    (state_beside-is c.args.tree.now.rows c.root.ensures.sound c.requires.update c.args.update c.in_ok-above.above
    c.requires.live c.requires.role
    c.in_ok-above.ensures.live.1 ∙ c.in_err-id.ensures.none refl)

pub state_number-state-requires : goal.state_number-state-requires
state_number-state-requires c =
    let rows = c.args.tree.now.rows in
    let stands =
    state_beside-is rows c.root.ensures.sound c.requires.update c.args.update c.in_ok-above.above c.requires.live
    c.requires.role
    c.in_ok-above.ensures.live.1 ∙ c.in_ok-id.ensures.live.1 in
    ap is_update_state (c.as_slice.ensures ∙ ap (λ (n : Node). n.value.bytes) c.view.ensures.node)
    ∙ (the_state rows c.root.ensures.sound c.requires.update c.args.update c.in_ok-id.id c.requires.live c.requires.role
    c.in_ok-id.ensures.live.0 stands).five

pub returns : goal.returns
returns c =
    let rows = c.args.tree.now.rows in
    let stands =
    state_beside-is rows c.root.ensures.sound c.requires.update c.args.update c.in_ok-above.above c.requires.live
    c.requires.role
    c.in_ok-above.ensures.live.1 ∙ c.in_ok-id.ensures.live.1 in
    state_at rows c.root.ensures.sound c.requires.update c.args.update _ c.requires.live c.requires.role
    c.in_ok-id.ensures.live.0
    stands (c.state_number-state.ensures
    ∙ ap (digits_value 10) (c.as_slice.ensures ∙ ap (λ (n : Node). n.value.bytes) c.view.ensures.node))
