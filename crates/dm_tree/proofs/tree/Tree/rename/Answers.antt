use Rattle.dm_tree.specs.Edits.{StayRenamed}
use Rattle.dm_tree.proofs.Common.{subst₂, ap₂, ℕ, ◌≡◌, ◌∙◌, List, sym, subst, ap, Row, changed, IsStamp, Tree, IsShaped}
use Rattle.dm_tree.proofs.Common.{IsTree, node_of, nodes, ids, path_of, with_name, turned, Stamp}
use Rattle.dm_tree.proofs.EqualTrees.{tree_kept, made_alike}
use Rattle.dm_tree.proofs.RenamedRows.{ids-renamed, nodes-renamed, stay_renamed, MayRename, no_root, tree-renamed}
use Rattle.dm_tree.proofs.RenamedRows.{renaming, back-renamed}
use Rattle.dm_tree.proofs.InvariantKept.{kept-name}
use Rattle.dm_tree.proofs.UndoPromises.{IsEditBack}
use Rattle.dm_tree.proofs.tree.Tree.rename.Goals.{After-stamp}
use Rattle.dm_tree.proofs.tree.Tree.rename.Goals as goal

tree : (c : After-stamp) → IsTree c.args.self.now.rows
tree c = tree_kept c.self.view_is c.self.invariant.tree

may : (c : After-stamp) → MayRename c.args.self.now.rows c.args.id c.args.name c.args.self.now.clock
may c = record {
  live = c.requires.live;
  removable = c.requires.removable;
  free = c.requires.free;
  fits = c.requires.fits;
  named = c.as_slice.ensures.name;
  stamp = subst IsStamp (c.stamp.ensures.value ∙ ap (λ (t : Tree). t.clock) c.self.view_is) c.stamp.ensures.kept;
}

abbrev edited : List ℕ → List Row → ℕ → Stamp → List Row
edited name rows k clock = with_name rows k name (changed clock (node_of rows k))

abbrev new : (c : After-stamp) → List Row
new c = edited c.args.name c.args.self.now.rows c.args.id c.args.self.now.clock

after : (c : After-stamp) → IsTree (new c)
after c = tree-renamed c.args.self.now.rows (tree c) c.args.id c.args.name c.args.self.now.clock (may c)

abbrev was : goal.After-of → After-stamp
was c = (goal.at.returns-clause-undo c).After-stamp

-- the rows that the code left
rows_are : (c : goal.After-of) → c.put_name-change.new.rows.items ≡ new (was c)
rows_are c =
    c.put_name-change.ensures.rows
    ∙ made_alike (edited c.args.name) c.self.view_is c.row.ensures c.stamp.ensures.value

-- and the Undo
undo_is : (c : goal.After-of)
    → c.of.result
    ≡ turned c.args.self.now.rows (renaming c.args.self.now.rows c.args.id c.args.name c.args.self.now.clock)
undo_is c =
    c.of.ensures ∙ c.put_name-change.ensures.change
    ∙ ap₂ (λ (t : Tree) k. turned t.rows (renaming t.rows k c.args.name t.clock)) c.self.view_is c.row.ensures

back : (c : goal.After-of) → IsEditBack c.of.result c.args.self.now.rows c.put_name-change.new.rows.items
back c =
    subst₂ (λ u r. IsEditBack u c.args.self.now.rows r) (sym (undo_is c)) (sym (rows_are c))
    (back-renamed c.args.self.now.rows (tree (was c)) c.args.id c.args.name c.args.self.now.clock (may (was c)))

pub invariant_of-self : goal.invariant_of-self
invariant_of-self c =
    kept-name _ c.args.self.now.rows _ c.args.id c.args.name _ (ap (λ (t : Tree). t.rows) c.self.view_is)
    c.requires.live (rows_are c) (after (was c)) c.self.inside.index.items c.put_name-change.new.index.items
    c.self.inside.sizes.items c.self.invariant c.put_name-change.ensures.index

pub returns-clause-nodes : goal.returns-clause-nodes
returns-clause-nodes c =
    ap nodes (rows_are c)
    ∙ nodes-renamed c.args.self.now.rows (tree (was c)).shape c.args.id c.requires.live c.args.name _
    (after (was c)).shape
    (no_root c.args.self.now.rows (tree (was c)) c.args.id c.args.name c.args.self.now.clock (may (was c)))

pub returns-clause-ids : goal.returns-clause-ids
returns-clause-ids c =
    ap ids (rows_are c)
    ∙ ids-renamed c.args.self.now.rows (tree (was c)).shape c.args.id c.requires.live c.args.name _
    (after (was c)).shape

pub returns-clause-stays : goal.returns-clause-stays
returns-clause-stays c =
    subst (λ r. StayRenamed c.args.self.now.rows r (path_of c.args.self.now.rows c.args.id) c.args.name)
    (sym (rows_are c))
    (stay_renamed c.args.self.now.rows (tree (was c)).shape c.args.id c.requires.live c.args.name _)

pub returns-clause-undo : goal.returns-clause-undo
returns-clause-undo c = (back c).undo

pub returns-clause-edit : goal.returns-clause-edit
returns-clause-edit c = (back c).edit

pub put_name-change-requires-clause-after : goal.put_name-change-requires-clause-after
put_name-change-requires-clause-after c =
    subst IsShaped
    (sym (made_alike (edited c.args.name) c.self.view_is c.row.ensures c.stamp.ensures.value))
    (after (goal.at.put_name-change-requires-clause-after c).After-stamp).shape
