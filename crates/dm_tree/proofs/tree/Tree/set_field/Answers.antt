use Rattle.dm_tree.specs.Fields.{change_of}
use Rattle.dm_tree.specs.declared.fields.Field.{Field}
use Rattle.dm_tree.proofs.Common.{subst₂, ap₂, ℕ, ◌≡◌, ◌∙◌, List, sym, subst, ap, Row, IsStamp, changed, Tree, IsTree}
use Rattle.dm_tree.proofs.Common.{node_of, nodes, ids, with_node, with_field, Stamp}
use Rattle.dm_tree.proofs.EqualTrees.{tree_kept, made_alike}
use Rattle.dm_tree.proofs.FieldEdits.{tree-set, back-set}
use Rattle.dm_tree.proofs.InvariantKept.{kept-node}
use Rattle.dm_tree.proofs.NodeEdits.{nodes-with_node, ids-with_node}
use Rattle.dm_tree.proofs.LiveRows.{stay_live}
use Rattle.dm_tree.proofs.UndoPromises.{IsEditBack}
use Rattle.dm_tree.proofs.tree.Tree.set_field.Goals as goal

tree : (c : goal.After-of) → IsTree c.args.self.now.rows
tree c = tree_kept c.self.view_is c.self.invariant.tree

abbrev edited : Field → List Row → ℕ → Stamp → List Row
edited field rows k clock = with_node rows k (changed clock (with_field (node_of rows k) field))

abbrev new : (c : goal.After-of) → List Row
new c = edited c.args.field c.args.self.now.rows c.args.id c.args.self.now.clock

after : (c : goal.After-of) → IsTree (new c)
after c =
    tree-set c.args.self.now.rows (tree c) c.args.id c.requires.live c.args.field c.requires.field c.args.self.now.clock
    (subst IsStamp (c.stamp.ensures.value ∙ ap (λ (t : Tree). t.clock) c.self.view_is) c.stamp.ensures.kept)

-- the rows that the code left
rows_are : (c : goal.After-of) → c.put_field-change.new.rows.items ≡ new c
rows_are c =
    c.put_field-change.ensures.rows
    ∙ made_alike (edited c.args.field) c.self.view_is c.row.ensures c.stamp.ensures.value

-- and the Undo
undo_is : (c : goal.After-of) → c.of.result ≡ change_of c.args.self.now.rows c.args.id c.args.field
undo_is c =
    c.of.ensures ∙ c.put_field-change.ensures.change
    ∙ ap₂ (λ (t : Tree) k. change_of t.rows k c.args.field) c.self.view_is c.row.ensures

back : (c : goal.After-of) → IsEditBack c.of.result c.args.self.now.rows c.put_field-change.new.rows.items
back c =
    subst₂ (λ u r. IsEditBack u c.args.self.now.rows r) (sym (undo_is c)) (sym (rows_are c))
    (back-set c.args.self.now.rows (tree c) c.args.id c.requires.live c.args.self.now.clock c.args.field (after c))

pub invariant_of-self : goal.invariant_of-self
invariant_of-self c =
    kept-node _ c.args.self.now.rows _ c.args.id _ (ap (λ (t : Tree). t.rows) c.self.view_is) c.requires.live
    (rows_are c) (after c) c.self.inside.index.items c.self.inside.sizes.items c.self.invariant

pub returns-clause-nodes : goal.returns-clause-nodes
returns-clause-nodes c =
    ap nodes (rows_are c) ∙ nodes-with_node c.args.self.now.rows (tree c).shape c.args.id c.requires.live _

pub returns-clause-ids : goal.returns-clause-ids
returns-clause-ids c =
    ap ids (rows_are c) ∙ ids-with_node c.args.self.now.rows (tree c).shape c.args.id c.requires.live _

pub returns-clause-stays : goal.returns-clause-stays
returns-clause-stays c =
    stay_live c.args.self.now.rows c.put_field-change.new.rows.items (tree c).shape (returns-clause-ids c)

pub returns-clause-undo : goal.returns-clause-undo
returns-clause-undo c = (back c).undo

pub returns-clause-edit : goal.returns-clause-edit
returns-clause-edit c = (back c).edit
