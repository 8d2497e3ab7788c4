use Rattle.dm_tree.proofs.Common.{◌≡◌, ◌∙◌, sym, refl, row_at}
use Rattle.dm_tree.proofs.EqualTrees.{tree_kept}
use Rattle.dm_tree.proofs.LiveRows.{HasParent, has_parent, above-append, last_name-append, read_live}
use Rattle.dm_tree.proofs.RowMaps.{id_of}
use Rattle.dm_tree.proofs.RowPaths.{not_zero}
use Rattle.dm_tree.proofs.tree.Tree.parent.Goals as goal

up : (c : goal.After-of) → HasParent c.args.self.now.rows c.args.id
up c =
    has_parent c.args.self.now.rows (tree_kept c.self.view_is c.self.invariant.tree).shape c.args.id c.requires
    (not_zero c.args.id (λ z. c.if-row-eq0.false (c.row.ensures ∙ z)))

parent_is : (c : goal.After-of) → c.of.result ≡ (row_at c.args.self.now.rows c.args.id).parent
parent_is c =
    rw (c.of.ensures, read_live c.self.view_is c.self.invariant.tree c.requires c.row-2.ensures c.index.ensures) refl

pub returns-clause-found : goal.returns-clause-found
returns-clause-found c =
    rw (parent_is c, (up c).path, last_name-append, above-append)
    (sym (id_of c.args.self.now.rows (tree_kept c.self.view_is c.self.invariant.tree).shape _ _ (up c).live))

pub returns-clause-live : goal.returns-clause-live
returns-clause-live c = rw (parent_is c, (up c).path, above-append) ((up c).live, refl)
