use Rattle.dm_tree.proofs.Common.{[], sym}
use Rattle.dm_tree.proofs.EqualTrees.{tree_kept}
use Rattle.dm_tree.proofs.RowMaps.{id_of, root_live}
use Rattle.dm_tree.proofs.LiveRows.{well_formed}
use Rattle.dm_tree.proofs.tree.Tree.root.Goals as goal

pub returns-clause-id : goal.returns-clause-id
returns-clause-id c =
    let shape = (tree_kept c.self.view_is c.self.invariant.tree).shape in
    rw c.of.ensures (sym (id_of c.args.self.now.rows shape 0 [] (root_live c.args.self.now.rows shape)))

pub returns-clause-well_formed : goal.returns-clause-well_formed
returns-clause-well_formed c =
    well_formed c.args.self.now.rows (tree_kept c.self.view_is c.self.invariant.tree)

pub returns-clause-sound : goal.returns-clause-sound
returns-clause-sound c = tree_kept c.self.view_is c.self.invariant.tree
