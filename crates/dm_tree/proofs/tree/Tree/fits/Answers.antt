use Rattle.dm_tree.specs.Walks.{has_room}
use Rattle.dm_tree.proofs.Common.{◌≡◌, ◌∙◌, List, sym, subst, ap, IfSome, list_all, IfSome_then, Tree, IsTree, IsLive}
use Rattle.dm_tree.proofs.Common.{row_at, path_of, ℕ, Row, ap₂}
use Rattle.dm_tree.proofs.EqualTrees.{tree_kept}
use Rattle.dm_tree.proofs.Paths.{below_self}
use Rattle.dm_tree.proofs.RenamedLengths.{then_fits, still_to_come, all_to_come, one_unfit, one_fits}
use Rattle.dm_tree.proofs.tree.Tree.fits.Goals.{After-path_fits}
use Rattle.dm_tree.proofs.tree.Tree.fits.Goals as goal

pub loop-at-init : goal.loop-at-init
loop-at-init c =
    let tree = tree_kept c.self.view_is c.self.invariant.tree in
    record {
      live = c.requires;
      below = below_self (path_of c.args.self.now.rows c.args.id);
      same = all_to_come c.args.self.now.rows tree c.args.id c.requires c.args.name.now;
    }

tree : (c : After-path_fits) → IsTree c.args.self.now.rows
tree c = tree_kept c.self.view_is c.self.invariant.tree

live : (c : After-path_fits) → IsLive c.args.self.now.rows c.in-Some.here
live c = subst (λ o. IfSome o (λ here. IsLive c.args.self.now.rows here)) c.in-Some.is c.loop-at.invariant.live

-- what was measured is the row that the loop is at
measured : (c : After-path_fits)
    → has_room c.args.self.now.rows c.args.id c.args.name.now (row_at c.args.self.now.rows c.in-Some.here).depth
    c.in-Some.here 254 ≡ c.path_fits.result
measured c =
    let room = λ (rows : List Row) (k j : ℕ). has_room rows k c.args.name.now (row_at rows j).depth j 254 in
    sym (c.path_fits.ensures
    ∙ ap (λ r. room r c.row.result c.row-in-Some.result)
    (c.deref.ensures.value ∙ ap (λ (t : Tree). t.rows) c.self.view_is)
    ∙ ap₂ (room c.args.self.now.rows) c.row.ensures c.row-in-Some.ensures)

pub returns-then-not-path_fits : goal.returns-then-not-path_fits
returns-then-not-path_fits c =
    let was = (goal.at.returns-then-not-path_fits c).After-path_fits in
    sym (one_unfit c.args.self.now.rows (tree was) c.args.id c.requires c.args.name.now c.in-Some.here (live was)
    (measured was ∙ c.if-not-path_fits.true))
    ∙ ap (λ o. list_all (then_fits (path_of c.args.self.now.rows c.args.id) c.args.name.now)
    (still_to_come c.args.self.now.rows c.args.id o)) (sym c.in-Some.is) ∙ c.loop-at.invariant.same

pub loop-at-preserved : goal.loop-at-preserved
loop-at-preserved c =
    let was = (goal.at.loop-at-preserved c).After-path_fits in
    record {
      live = IfSome_then c.next_below-at.result c.next_below-at.ensures.live (λ n h. h.0);
      below = c.next_below-at.ensures.within;
      same =
          one_fits c.args.self.now.rows (tree was) c.args.id c.requires c.args.name.now c.in-Some.here (live was)
          (measured was ∙ c.if-not-path_fits.false) c.next_below-at.result c.next_below-at.ensures.behind
          ∙ ap (λ o. list_all (then_fits (path_of c.args.self.now.rows c.args.id) c.args.name.now)
          (still_to_come c.args.self.now.rows c.args.id o)) (sym c.in-Some.is) ∙ c.loop-at.invariant.same;
    }
