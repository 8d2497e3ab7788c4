-- A field of a node is set: the rows stay a tree, and the edit is a flip; and what a node that is made or changed keeps
-- to.
use Rattle.dm_tree.specs.declared.fields.Field.{Field}
use Rattle.dm_tree.specs.declared.fields.Field.TheVariants as field
use Rattle.dm_tree.specs.declared.rows.Change.TheVariants as change
use Rattle.dm_tree.specs.Nodes.{IsValue, IsNewNode, IsReadAgain, made}
use Rattle.dm_tree.specs.Fields.{change_of, IsField}
use Rattle.dm_tree.specs.declared.nodes.NewNode.{NewNode}
use Rattle.dm_tree.proofs.Common.{◌≡◌, ◌∙◌, ℕ, ◌<◌, ◌+◌, ◌%◌, ◌^◌, true, List, [], length, refl, sym, ap, subst}
use Rattle.dm_tree.proofs.Common.{unwrap_or, Node, Stamp, Row, Change, Path, IsNode, IsRoot, IsStamp, changed, node_of}
use Rattle.dm_tree.proofs.Common.{path_of, IsTree, IsLive, with_node, with_field, ◌≤◌, arith, IfSome}
use Rattle.dm_tree.proofs.RowMaps.{root_live}
use Rattle.dm_tree.proofs.NodeEdits.{live_row}
use Rattle.dm_tree.proofs.TreeEdits.{IsKin, tree-with_node}
use Rattle.dm_tree.proofs.UndoPromises.{IsEditBack, edit-back}

-- ---- what a node keeps to

pub held_changed : (clock : Stamp) (n : Node) → IsStamp clock → IsValue n.interior n.value → IfSome n.acl IsReadAgain
    → length n.title ≤ 255 → IsNode (changed clock n)
held_changed clock n stamp value acl title =
    let wraps : (n.verno + 1) % 2 ^ 16 < 2 ^ 16 = omega arith in assumption

pub held_made : (clock : Stamp) (new : NewNode) → IsStamp clock → IsNewNode new → IsNode (made clock new)
held_made clock new stamp h = let low : 0 < 2 ^ 16 = omega arith in assumption

held_field : (n : Node) (p : Path) (f : Field) → IsNode n → IsField n p f → IsNode (with_field n f)
held_field n p (field.Value value) held may =
    let read : IsValue n.interior value = subst (λ b. IsValue b value) (sym may.0) may.1 in assumption
held_field n p (field.Bytes bytes) held may =
    let empty : n.interior ≡ true → bytes ≡ [] = λ inner. absurd (let leaf = may.0 in cc) in assumption
held_field n p f held may = assumption

kin_field : (n : Node) (f : Field) → IsKin n (with_field n f)
kin_field n (field.Value value) = record { interior = refl; permanent = refl }
kin_field n f = record { interior = refl; permanent = refl }

root_field : (n : Node) (f : Field) → IsField n [] f → IsRoot n → IsRoot (with_field n f)
root_field n (field.Acl acl) may top = let some = may.0 refl in assumption
root_field n (field.Title title) may top = assumption
root_field n f may top = absurd (cc)

-- ---- the rows

module _ (rows : List Row) (tree : IsTree rows) (k : ℕ) (live : IsLive rows k) (f : Field)
    (may : IsField (node_of rows k) (path_of rows k) f) where
  inside : k < length rows
  inside = live_row rows tree.shape k live

  held : IsNode (with_field (node_of rows k) f)
  held = held_field (node_of rows k) (path_of rows k) f (tree.each k inside).node may

  root : k ≡ 0 → IsRoot (with_field (node_of rows k) f)
  root z =
      root_field (node_of rows k) f
      (subst (λ p. IsField (node_of rows k) p f)
      (ap (path_of rows) z ∙ ap (λ o. unwrap_or o []) (root_live rows tree.shape)) may)
      (subst (λ i. IsRoot (node_of rows i)) (sym z) tree.root)

  pub tree-laid : IsTree (with_node rows k (with_field (node_of rows k) f))
  tree-laid = tree-with_node rows tree k inside _ held (kin_field (node_of rows k) f) root

  pub tree-set : (clock : Stamp) → IsStamp clock
      → IsTree (with_node rows k (changed clock (with_field (node_of rows k) f)))
  tree-set clock stamp =
      let kin = kin_field (node_of rows k) f in
      tree-with_node rows tree k inside (changed clock (with_field (node_of rows k) f))
      (held_changed clock (with_field (node_of rows k) f) stamp held.value held.acl held.title)
      (record { interior = kin.interior; permanent = kin.permanent }) (λ z. let top = root z in assumption)

-- ---- the edit is a flip

-- the change that sets the field of the row k
abbrev pub setting : List Row → ℕ → Stamp → Field → Change
setting rows k clock (field.Value value) = change.Value k value (((node_of rows k).verno + 1) % 2 ^ 16) clock
setting rows k clock (field.Bytes bytes) = change.Bytes k bytes (((node_of rows k).verno + 1) % 2 ^ 16) clock
setting rows k clock (field.Acl acl) = change.Acl k acl (((node_of rows k).verno + 1) % 2 ^ 16) clock
setting rows k clock (field.Title title) = change.Title k title (((node_of rows k).verno + 1) % 2 ^ 16) clock

-- and how it is taken back
pub back-set : (rows : List Row) → IsTree rows → (k : ℕ) → IsLive rows k → (clock : Stamp) (f : Field)
    → IsTree (with_node rows k (changed clock (with_field (node_of rows k) f)))
    → IsEditBack (change_of rows k f) rows (with_node rows k (changed clock (with_field (node_of rows k) f)))
back-set rows tree k live clock (field.Value value) after =
    edit-back rows (setting rows k clock (field.Value value)) tree
    (record { inside = live_row rows tree.shape k live; ready = tt; sound = after }) refl live
back-set rows tree k live clock f after =
    edit-back rows (setting rows k clock f) tree
    (record { inside = live_row rows tree.shape k live; ready = tt; sound = after }) refl live
