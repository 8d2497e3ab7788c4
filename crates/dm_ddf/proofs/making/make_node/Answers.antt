use Rattle.std.proofs.Common.{◌≡◌, ◌∙◌, ◌++◌, ◌∷◌, [], None, Some, get_or, sym, ap, subst}
use Rattle.dm_tree.specs.Nodes.{IsNewNode}
use Rattle.dm_tree.specs.Rows.{path_of}
use Rattle.dm_ddf.specs.Making.{made_node}
use Rattle.dm_ddf.specs.Made.{ComesAt}
use Rattle.dm_ddf.proofs.Makings.{ok_then, without_need, without_parent}
use Rattle.dm_ddf.proofs.Makings.{without_format, made_there, is_new_node, live_at}
use Rattle.dm_ddf.proofs.making.make_node.Goals as goal

pub returns-then-not-is_needed : goal.returns-then-not-is_needed
returns-then-not-is_needed c =
    without_need c.args.rules.now c.args.tree.now c.args.made.now c.args.rule.now c.requires.live
    (sym c.is_needed.ensures ∙ c.if-not-is_needed.true)

pub returns-in_default : goal.returns-in_default
returns-in_default c =
    without_parent c.args.rules.now c.args.tree.now c.args.made.now c.args.rule.now c.requires.live
    (sym c.is_needed.ensures ∙ c.if-not-is_needed.false) (sym c.in_default.ensures)

pub returns-then-not-has_format_for : goal.returns-then-not-has_format_for
returns-then-not-has_format_for c =
    without_format c.args.rules.now c.args.tree.now c.args.made.now c.args.rule.now c.in-Some.parent c.requires.live
    (sym c.is_needed.ensures ∙ c.if-not-is_needed.false) (sym c.in-Some.ensures)
    (sym c.has_format_for.ensures ∙ c.if-not-has_format_for.true)

pub put_below-requires-clause-live : goal.put_below-requires-clause-live
put_below-requires-clause-live c =
    live_at c.args.tree.now.rows c.args.made.now c.args.rule.now.parent c.in-Some.parent c.requires.live
    (sym c.in-Some.ensures)

pub put_below-requires-clause-node : goal.put_below-requires-clause-node
put_below-requires-clause-node c =
    subst IsNewNode (sym c.in_ok-node.ensures)
    (is_new_node c.args.rule.now (sym c.has_format_for.ensures ∙ c.if-not-has_format_for.false))

pub returns : goal.returns
returns c =
    let t = c.args.tree.now in
    let rule = c.args.rule.now in
    let above = path_of t.rows c.in-Some.parent in
    ok_then c.put_below.result
    (λ id comes.
    made_there c.args.rules.now t c.put_below.new.tree c.args.made.now rule c.in-Some.parent id c.requires.live
    c.requires.clock (sym c.is_needed.ensures ∙ c.if-not-is_needed.false) (sym c.in-Some.ensures)
    (sym c.has_format_for.ensures ∙ c.if-not-has_format_for.false)
    (subst (λ n. ComesAt t c.put_below.new.tree (above ++ n ∷ []) (made_node rule) id) c.in_ok-name.ensures
    (subst (λ x. ComesAt t c.put_below.new.tree (above ++ c.in_ok-name.name ∷ []) x id) c.in_ok-node.ensures comes)))
    c.put_below.ensures
