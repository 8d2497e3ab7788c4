use Rattle.std.proofs.Common.{◌≡◌, ◌∙◌, ap, sym, true}
use Rattle.std.specs.Prelude.{not}
use Rattle.dm_commands.specs.Promises.{none_moved}
use Rattle.std.specs.Fmt.{decimal}
use Rattle.std.specs.FinMap.{insert}
use Rattle.dm_fumo.specs.States.{progressing, may_exec}
use Rattle.dm_tree.specs.declared.nodes.Value.{Value}
use Rattle.dm_tree.specs.Nodes.{changed, with_value}
use Rattle.dm_tree.specs.Rows.{nodes, ids, node_of, path_of}
use Rattle.dm_commands.specs.Outcomes.{asked_by}
use Rattle.dm_commands.specs.Table.{exec_refusals, started}
use Rattle.dm_commands.specs.Updates.{with_state}
use Rattle.dm_commands.proofs.Endings.{refused-ends, passed-ends, ends-started}
use Rattle.dm_commands.proofs.Numbers.{kept-same}
use Rattle.dm_commands.proofs.Keeping.{none_holds}
use Rattle.dm_commands.proofs.Updating.{state_led, progressing_back, may_not}
use Rattle.dm_commands.proofs.execs.exec.Goals as goal

pub returns-in-Err-clause-ok : goal.returns-in-Err-clause-ok
returns-in-Err-clause-ok c =
    refused-ends (exec_refusals (asked_by c.args.caller.now c.args.tree.now.clock) (nodes c.args.tree.now.rows)
    c.args.step.now c.args.uri.now)
    (started (asked_by c.args.caller.now c.args.tree.now.clock) (nodes c.args.tree.now.rows)) c.in-Err.code none_moved
    c.args.journal.now c.args.tree.now c.refuse.result
    c.in-Err.ensures.judged (c.refuse.ensures none_moved)

pub returns-clause-ok : goal.returns-clause-ok
returns-clause-ok c =
    let before = c.args.tree.now in
    let now = c.put_value.new.tree in
    let rows = before.rows in
    let s = asked_by c.args.caller.now before.clock in
    let at = c.in-Ok.ensures.state in
    let x = node_of rows c.in-Ok.state.id in
    let tests = none_holds (exec_refusals s (nodes rows) c.args.step.now c.args.uri.now) c.in-Ok.ensures.judged in
    let other = may_not c.in-Ok.state.state (ap (λ n. not (may_exec n)) at.state ∙ tests.1.1.1.1.0) in
    let led =
    state_led s rows c.root.ensures.sound.shape c.in-Ok.state at (nodes rows) progressing progressing_back other in
    let value : c.in_ok-value.value ≡ record x.value { bytes = decimal progressing } =
    c.in_ok-value.ensures.bytes ∙ ap (λ n. record x.value { bytes = decimal n }) c.after_exec.ensures in
    let tree = c.in_ok-put_value.ensures.nodes
    ∙ ap (λ (v : Value). insert (nodes rows) (path_of rows c.in-Ok.state.id) (changed before.clock (with_value x v)))
    value ∙ sym led in
    passed-ends (exec_refusals s (nodes rows) c.args.step.now c.args.uri.now) (nodes rows) (started s (nodes rows))
    none_moved c.args.journal.now before
    c.put_value.new.journal now _ c.in-Ok.ensures.judged
    (ends-started (with_state s (nodes rows) (nodes rows) progressing) c.args.journal.now before c.put_value.new.journal
    now _
    (ap (λ l. record { code = 202; results = l; started = true }) c.new.ensures) tree
    (kept-same (ids rows) (ids now.rows) c.in_ok-put_value.ensures.ids) c.in_ok-put_value.ensures.notes
    c.in_ok-put_value.ensures.clock)
