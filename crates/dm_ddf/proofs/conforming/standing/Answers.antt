use Rattle.std.proofs.Common.{◌≡◌, ◌≤◌, ◌+◌, ◌∷◌, [], length, ap, sym, subst, ◌∙◌, arith}
use Rattle.std.specs.Prelude.{filter, unwrap_or, if◌then◌else◌}
use Rattle.dm_tree.specs.Nodes.{Path, last_name}
use Rattle.dm_tree.specs.Rows.{nodes, path_of}
use Rattle.dm_tree.proofs.Common.{IfSome_then}
use Rattle.dm_tree.proofs.RoleSearch.{children_from}
use Rattle.dm_tree.specs.Order.{children_behind}
use Rattle.dm_ddf.specs.Rules.{stands_for}
use Rattle.dm_ddf.specs.Breaches.{standing}
use Rattle.dm_ddf.proofs.Counts.{few_stand, one_counted, nothing_counted}
use Rattle.dm_ddf.proofs.conforming.standing.Goals as goal

pub loop-at-init : goal.loop-at-init
loop-at-init c =
    let f = λ (q : Path). stands_for c.args.rules.now c.args.rule (unwrap_or (last_name q) []) c.args.child in
    record {
      live = IfSome_then c.first_child-at.result c.first_child-at.ensures.live (λ n h. h.0);
      counted = nothing_counted _ ∙ ap (λ ps. length (filter f ps)) (sym c.first_child-at.ensures.children);
    }

pub count_if-count-requires : goal.count_if-count-requires
count_if-count-requires c =
    let total = few_stand (nodes c.args.tree.now.rows) c.args.rules.now (path_of c.args.tree.now.rows c.args.id)
    c.args.rule c.args.child c.root.ensures.well_formed in
    let so_far = c.loop-at.invariant.counted in
    omega (arith, total, so_far)

pub loop-at-preserved : goal.loop-at-preserved
loop-at-preserved c =
    let rows = c.args.tree.now.rows in
    let f = λ (q : Path). stands_for c.args.rules.now c.args.rule (unwrap_or (last_name q) []) c.args.child in
    record {
      live = IfSome_then c.next_sibling-at.result c.next_sibling-at.ensures.live (λ n h. h.0);
      counted =
          ap (λ ps. c.count_if-count.result + length (filter f ps)) (sym c.next_sibling-at.ensures.behind)
          ∙ ap (λ n. n + length (filter f (children_behind (nodes rows) (path_of rows c.in-Some.here))))
          (c.count_if-count.ensures ∙ ap (λ b. c.loop-at.count + (if b then 1 else 0)) (c.stands_for.ensures
          ∙ ap (λ n. stands_for c.args.rules.now c.args.rule n c.args.child) c.name_of.ensures))
          ∙ one_counted f c.loop-at.count _ (path_of rows c.in-Some.here) (children_behind (nodes rows) (path_of
          rows c.in-Some.here))
          (subst (λ at. c.loop-at.count + length (filter f (children_from rows at))
          ≡ standing (nodes rows) c.args.rules.now (path_of rows c.args.id) c.args.rule c.args.child) c.in-Some.is
          c.loop-at.invariant.counted);
    }
