use Rattle.dm_tree.proofs.EqualTrees.{tree_kept}
use Rattle.dm_tree.proofs.RoleSearch.{no_parent}
use Rattle.dm_tree.proofs.tree.Tree.update_ids.Goals as goal

pub returns-in_err-above-clause-none : goal.returns-in_err-above-clause-none
returns-in_err-above-clause-none c =
    let rows = c.args.self.now.rows in
    let tree = tree_kept c.self.view_is c.self.invariant.tree in
    absurd (no_parent rows tree c.in_ok-update.update c.in_ok-update.ensures.live.0 c.in_ok-update.ensures.live.2
    c.in_err-above.ensures.found)
