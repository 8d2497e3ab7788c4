use Rattle.std.proofs.Common.{◌≡◌, ◌∙◌, sym, ap, arith, length}
use Rattle.std.specs.Prelude.{option_and_then}
use Rattle.std.specs.FinMap.{get}
use Rattle.dm_tree.specs.Nodes.{last_name, above}
use Rattle.dm_tree.specs.Rows.{ids, path_of}
use Rattle.dm_ddf.specs.Rules.{child_rule}
use Rattle.dm_ddf.specs.Breaches.{rule_for}
use Rattle.dm_ddf.proofs.Walks.{rule_by_parent, shorter_above, root_only, named_of}
use Rattle.dm_ddf.proofs.conforming.+rule_for.Goals as goal

pub rule_for-requires : goal.rule_for-requires
rule_for-requires t c =
    let rows = c.args.tree.now.rows in
    let p = path_of rows c.args.id in
    let named = named_of (last_name p) (λ _. get (ids rows) (above p)) c.in-Some.parent c.in-Some.ensures.found in
    let short = shorter_above p named.0 named.1 in
    let up = ap length c.in-Some.ensures.live.1 in
    (omega (arith, short, up, c.decreases), c.in-Some.ensures.live.0)

pub returns-in-None : goal.returns-in-None
returns-in-None t c =
    let rows = c.args.tree.now.rows in
    ap (rule_for c.args.rules.now)
    (sym (root_only rows (path_of rows c.args.id) _ c.root.ensures.well_formed c.view.ensures.there
    c.in-None.ensures.found))

pub returns-in-Some : goal.returns-in-Some
returns-in-Some t c =
    let rows = c.args.tree.now.rows in
    let rules = c.args.rules.now in
    let p = path_of rows c.args.id in
    let named = named_of (last_name p) (λ _. get (ids rows) (above p)) c.in-Some.parent c.in-Some.ensures.found in
    c.rule_below.ensures
    ∙ ap (λ o. option_and_then (λ k. child_rule rules k c.name_of.result.now) o)
    (c.rule_for.ensures ∙ ap (rule_for rules) c.in-Some.ensures.live.1)
    ∙ ap (λ n. option_and_then (λ k. child_rule rules k n) (rule_for rules (above p))) c.name_of.ensures
    ∙ sym (rule_by_parent rules p named.0 named.1)
