use Rattle.std.proofs.Common.{◌≢◌, ◌∙◌, ap, sym, []}
use Rattle.std.specs.FinMap.{insert}
use Rattle.dm_tree.specs.declared.nodes.Value.{Value}
use Rattle.dm_tree.specs.Nodes.{changed, with_value}
use Rattle.dm_tree.specs.Rows.{nodes, node_of, path_of}
use Rattle.dm_commands.specs.Outcomes.{asked_by}
use Rattle.dm_commands.specs.Updates.{with_state}
use Rattle.dm_commands.proofs.Endings.{on_ok}
use Rattle.dm_commands.proofs.Updating.{state_led, state_stays, small_back, led_to}
use Rattle.dm_commands.proofs.replaces.put_package.Goals as goal

pub returns-then-next-state-clause-nodes : goal.returns-then-next-state-clause-nodes
returns-then-next-state-clause-nodes c =
    let m = nodes c.args.tree.now.rows in
    let clock = c.args.tree.now.clock in
    let after =
    insert m (path_of c.args.tree.now.rows c.args.id)
    (changed clock (with_value (node_of c.args.tree.now.rows c.args.id) c.args.value)) in
    let found = c.in-Some.found in
    let led =
    led_to m found.state c.state_written-next.result _ _ c.in-Some.ensures.state c.is_empty.ensures
    c.state_written-next.ensures.state in
    let kept = ap (λ n. with_state (asked_by [] clock) m after n) led
    ∙ state_stays (asked_by [] clock) c.args.tree.now.rows c.root.ensures.sound.shape found c.in-Some.ensures after
    c.state_written-next.result (sym c.if-next-state.true) in
    on_ok c.put_value-then-next-state.result (λ e. e ∙ sym kept) c.put_value-then-next-state.ensures.nodes

pub put_values-requires-clause-values : goal.put_values-requires-clause-values
put_values-requires-clause-values c = (c.requires.value, c.in_ok-restated.ensures.value)

pub returns-clause-nodes : goal.returns-clause-nodes
returns-clause-nodes c =
    let m = nodes c.args.tree.now.rows in
    let clock = c.args.tree.now.clock in
    let after =
    insert m (path_of c.args.tree.now.rows c.args.id)
    (changed clock (with_value (node_of c.args.tree.now.rows c.args.id) c.args.value)) in
    let found = c.in-Some.found in
    let next = c.state_written-next.result in
    let led =
    led_to m found.state next _ _ c.in-Some.ensures.state c.is_empty.ensures c.state_written-next.ensures.state in
    let other : found.state ≢ next = λ e. c.if-next-state.false (sym e) in
    let put = ap (λ n. with_state (asked_by [] clock) m after n) led
    ∙ state_led (asked_by [] clock) c.args.tree.now.rows c.root.ensures.sound.shape found c.in-Some.ensures after next
    (small_back next c.state_written-next.ensures.small) other in
    let value =
    ap (λ (v : Value).
    insert after (path_of c.args.tree.now.rows found.id)
    (changed clock (with_value (node_of c.args.tree.now.rows found.id) v)))
    c.in_ok-restated.ensures.bytes in
    on_ok c.put_values.result (λ e. e ∙ value ∙ sym put) c.put_values.ensures.nodes
