use Rattle.dm_tree.specs.declared.nodes.Role.TheVariants as role
use Rattle.dm_tree.proofs.Common.{◌≡◌, ◌∙◌, sym, Some, true, IfSome_then, is_role, update_node, path_of, node_of, nodes}
use Rattle.dm_tree.proofs.Paths.{below_self}
use Rattle.dm_tree.proofs.RoleSearch.{sought_from_root, sought_here, sought_on}
use Rattle.dm_tree.proofs.NextNodes.{Shows, shown_ids}
use Rattle.dm_tree.proofs.Devices.{same_role}
use Rattle.dm_tree.proofs.tree.Tree.walk_to_update.Goals as goal

pub loop-at-init : goal.loop-at-init
loop-at-init c = let live = c.root-root.ensures.live in record {
  live = live.0;
  below = below_self (path_of c.args.self.now.rows c.root-root.result);
  sought = sought_from_root _ c.root-root.ensures.sound.shape c.root-root.result live.0 live.1;
}

is_update : (c : goal.Then-is_role) → is_role (node_of c.args.self.now.rows c.in-Some.here).role role.UpdateNode ≡ true
is_update c = rw (← c.view.ensures.node) (sym c.is_role.ensures ∙ c.if-is_role.true)

here : (c : goal.Then-is_role)
    → Shows c.args.self.now.rows (Some c.in-Some.here) (update_node (nodes c.args.self.now.rows))
here c =
    let live = rw c.in-Some.is at c.loop-at.invariant.live in (
      live,
      sought_here _ c.root-root.ensures.sound.shape role.UpdateNode c.in-Some.here live (is_update c) _ _
          (rw c.in-Some.is at c.loop-at.invariant.sought),
    )

pub returns-then-is_role-clause-found : goal.returns-then-is_role-clause-found
returns-then-is_role-clause-found c = shown_ids _ c.root-root.ensures.sound.shape (Some c.in-Some.here) _ (here c)

pub returns-then-is_role-clause-live : goal.returns-then-is_role-clause-live
returns-then-is_role-clause-live c = ((here c).0, (here c).1, same_role _ _ (is_update c))

pub loop-at-preserved : goal.loop-at-preserved
loop-at-preserved c = record {
  live = IfSome_then c.next_below-at.result c.next_below-at.ensures.live (λ n h. h.0);
  below = c.next_below-at.ensures.within;
  sought =
      sought_on _ c.root-root.ensures.sound.shape role.UpdateNode c.in-Some.here
      (rw c.in-Some.is at c.loop-at.invariant.live)
      (rw (← c.view.ensures.node) (sym c.is_role.ensures ∙ c.if-is_role.false)) _ _ _
      (rw c.in-Some.is at c.loop-at.invariant.sought) c.next_below-at.ensures.behind;
}
