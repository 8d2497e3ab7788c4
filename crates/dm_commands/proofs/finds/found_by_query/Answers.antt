use Rattle.std.proofs.Common.{◌≡◌, ◌∷◌, [], Some, IfOk, sym, subst}
use Rattle.dm_uri.specs.Grammar.{printed}
use Rattle.dm_tree.specs.Rows.{nodes}
use Rattle.dm_commands.specs.Outcomes.{asked_by, node_at}
use Rattle.dm_commands.specs.Finding.{found_node, found_by, node_value, prop_found}
use Rattle.dm_commands.proofs.finds.found_by_query.Goals as goal

pub returns-in-Plain : goal.returns-in-Plain
returns-in-Plain c =
    let m = nodes c.args.tree.now.rows in
    subst (λ q. IfOk c.found_node.result
    (λ found. found ≡ found_by (asked_by c.args.caller.now c.args.tree.now.clock) m c.args.uri.now q))
    (sym c.in-Plain.is)
    (subst (λ p. IfOk c.found_node.result
    (λ found. found ≡ found_node (printed c.args.uri.now) (node_at m p) (Some (node_value m p)) ∷ []))
    c.requires.place.path c.found_node.ensures)

pub returns-in-Prop : goal.returns-in-Prop
returns-in-Prop c =
    let m = nodes c.args.tree.now.rows in
    subst (λ q. IfOk c.found_prop.result
    (λ found. found ≡ found_by (asked_by c.args.caller.now c.args.tree.now.clock) m c.args.uri.now q))
    (sym c.in-Prop.is)
    (subst (λ p. IfOk c.found_prop.result
    (λ found. found ≡ prop_found (printed c.args.uri.now) p (node_at m p) c.in-Prop.prop ∷ [])) c.requires.place.path
    c.found_prop.ensures)
