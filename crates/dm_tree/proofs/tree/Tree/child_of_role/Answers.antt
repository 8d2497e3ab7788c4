use Rattle.std.proofs.Common.{find}
use Rattle.dm_tree.proofs.Common.{◌∙◌, sym, ap, IfSome_then, has_role, nodes}
use Rattle.dm_tree.proofs.EqualTrees.{tree_kept}
use Rattle.dm_tree.proofs.RoleSearch.{sought_here, sought_on}
use Rattle.dm_tree.proofs.tree.Tree.child_of_role.Goals as goal

pub loop-at-init : goal.loop-at-init
loop-at-init c = record {
  live = IfSome_then c.first_child-at.result c.first_child-at.ensures.live (λ n h. h.0);
  sought = ap (find (has_role (nodes c.args.self.now.rows) c.args.role)) (sym c.first_child-at.ensures.children);
}

pub returns-then-is_role-clause-live : goal.returns-then-is_role-clause-live
returns-then-is_role-clause-live c =
    let live = rw c.in-Some.is at c.loop-at.invariant.live in (
      live,
      sought_here _ (tree_kept c.self.view_is c.self.invariant.tree).shape c.args.role c.in-Some.child live
          (rw (← c.view.ensures.node) (sym c.is_role.ensures ∙ c.if-is_role.true)) _ _
          (rw c.in-Some.is at c.loop-at.invariant.sought),
    )

pub loop-at-preserved : goal.loop-at-preserved
loop-at-preserved c = record {
  live = IfSome_then c.next_sibling-at.result c.next_sibling-at.ensures.live (λ n h. h.0);
  sought =
      sought_on _ (tree_kept c.self.view_is c.self.invariant.tree).shape c.args.role c.in-Some.child
      (rw c.in-Some.is at c.loop-at.invariant.live)
      (rw (← c.view.ensures.node) (sym c.is_role.ensures ∙ c.if-is_role.false)) _ _ _
      (rw c.in-Some.is at c.loop-at.invariant.sought) c.next_sibling-at.ensures.behind;
}
