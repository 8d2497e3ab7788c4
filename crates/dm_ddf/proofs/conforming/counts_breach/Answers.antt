use Rattle.std.proofs.Common.{ℕ, ◌≡◌, ◌<◌, ◌∙◌, None, length, get_or, sym, subst, ap, arith}
use Rattle.dm_tree.specs.Rows.{nodes, path_of}
use Rattle.dm_ddf.specs.Rules.{rule_at, child_rules}
use Rattle.dm_ddf.specs.Breaches.{count_breach, standing}
use Rattle.dm_ddf.proofs.Walks.{told_past, is_nothing}
use Rattle.dm_ddf.proofs.conforming.counts_breach.Goals as goal

pub loop-child-preserved : goal.loop-child-preserved
loop-child-preserved c =
    let rows = c.args.tree.now.rows in
    let rules = c.args.rules.now in
    let p = path_of rows c.args.id in
    let k = c.args.rule in
    let f = λ (r : ℕ). count_breach r (rule_at rules r).occurs (standing (nodes rows) rules p k r) in
    let items = c.children_of-child-items.ensures in
    let i = c.loop-child.child-index in
    let r = get_or c.children_of-child-items.result.now i 0 in
    let here : f r ≡ None =
    sym (c.count_breach-why.ensures ∙ ap (λ o. count_breach r o c.standing-count.result) c.occurs_of.ensures
    ∙ ap (count_breach r (rule_at rules r).occurs) c.standing-count.ensures)
    ∙ is_nothing c.count_breach-why.result (sym c.is_some.ensures ∙ c.if-is_some.false) in
    let low : i < length (child_rules rules k) = omega (arith, c.loop-child-test.true, ap length items) in
    c.loop-child.invariant
    ∙ told_past f (child_rules rules k) i low (ap (λ xs. f (get_or xs i 0)) (sym items) ∙ here)
