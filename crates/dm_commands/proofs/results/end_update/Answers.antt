use Rattle.std.proofs.Common.{◌≡◌, ◌∙◌, ap, sym, refl, true, false}
use Rattle.std.specs.Fmt.{decimal}
use Rattle.dm_fumo.specs.States.{after_result}
use Rattle.dm_tree.specs.Rows.{nodes, node_of}
use Rattle.dm_commands.specs.Updates.{update_ended}
use Rattle.dm_commands.proofs.Endings.{on_ok}
use Rattle.dm_commands.proofs.Ended.{AreFound, none_left_out, package_leaf, state_leaf, two, ended_well, ended_badly}
use Rattle.dm_commands.proofs.results.end_update.Goals as goal

pub returns-in_default-clause-nodes : goal.returns-in_default-clause-nodes
returns-in_default-clause-nodes c =
    absurd (none_left_out (nodes c.args.tree.now.rows) c.requires.update c.requires.running
    (c.in_default.ensures.none refl))

pub returns-in_default-clause-notes : goal.returns-in_default-clause-notes
returns-in_default-clause-notes c =
    absurd (none_left_out (nodes c.args.tree.now.rows) c.requires.update c.requires.running
    (c.in_default.ensures.none refl))

pub restated-requires-clause-leaf : goal.restated-requires-clause-leaf
restated-requires-clause-leaf c =
    state_leaf c.args.tree.now.rows c.root.ensures.sound c.requires.update c.requires.running c.in-Some.found
    (record { live = c.in-Some.ensures.live; paths = c.in-Some.ensures.found })

pub put_value-requires-clause-leaf : goal.put_value-requires-clause-leaf
put_value-requires-clause-leaf c =
    state_leaf c.args.tree.now.rows c.root.ensures.sound c.requires.update c.requires.running c.in-Some.found
    (record { live = c.in-Some.ensures.live; paths = c.in-Some.ensures.found })

pub returns-then-not-ok-clause-nodes : goal.returns-then-not-ok-clause-nodes
returns-then-not-ok-clause-nodes c =
    let rows = c.args.tree.now.rows in
    let bad : c.args.ok ≡ false = c.if-not-ok.true in
    on_ok c.put_value.result (λ e. e
    ∙ ended_badly rows c.root.ensures.sound c.requires.update c.requires.running c.in-Some.found
    (record { live = c.in-Some.ensures.live; paths = c.in-Some.ensures.found }) c.args.tree.now.clock
    c.in_ok-state.state
    (c.in_ok-state.ensures.bytes ∙ ap (λ n. record (node_of rows c.in-Some.found.state).value { bytes = decimal n })
    (c.after_result.ensures ∙ ap after_result bad))
    ∙ ap (update_ended c.args.tree.now.clock (nodes rows)) (sym bad)) c.put_value.ensures.nodes

pub emptied-requires-clause-leaf : goal.emptied-requires-clause-leaf
emptied-requires-clause-leaf c =
    package_leaf c.args.tree.now.rows c.root.ensures.sound c.requires.update c.requires.running c.in-Some.found
    (record { live = c.in-Some.ensures.live; paths = c.in-Some.ensures.found })

pub put_values-requires-clause-leaves : goal.put_values-requires-clause-leaves
put_values-requires-clause-leaves c =
    let are : AreFound c.args.tree.now.rows c.in-Some.found =
    record { live = c.in-Some.ensures.live; paths = c.in-Some.ensures.found } in (
      package_leaf c.args.tree.now.rows c.root.ensures.sound c.requires.update c.requires.running c.in-Some.found are,
      state_leaf c.args.tree.now.rows c.root.ensures.sound c.requires.update c.requires.running c.in-Some.found are,
    )

pub put_values-requires-clause-two : goal.put_values-requires-clause-two
put_values-requires-clause-two c =
    two c.args.tree.now.rows c.root.ensures.sound c.requires.update c.requires.running c.in-Some.found
    (record { live = c.in-Some.ensures.live; paths = c.in-Some.ensures.found })

pub returns-clause-nodes : goal.returns-clause-nodes
returns-clause-nodes c =
    let rows = c.args.tree.now.rows in
    let well : c.args.ok ≡ true = c.if-not-ok.false in
    on_ok c.put_values.result (λ e. e
    ∙ ended_well rows c.root.ensures.sound c.requires.update c.requires.running c.in-Some.found
    (record { live = c.in-Some.ensures.live; paths = c.in-Some.ensures.found }) c.args.tree.now.clock
    c.in_ok-written.written c.in_ok-state.state
    c.in_ok-written.ensures.bytes
    (c.in_ok-state.ensures.bytes ∙ ap (λ n. record (node_of rows c.in-Some.found.state).value { bytes = decimal n })
    (c.after_result.ensures ∙ ap after_result well))
    ∙ ap (update_ended c.args.tree.now.clock (nodes rows)) (sym well)) c.put_values.ensures.nodes
