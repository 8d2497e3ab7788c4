-- A tree without a subtree.
use Rattle.dm_tree.specs.declared.rows.Change.TheVariants as change
use Rattle.dm_tree.proofs.Common.{◌≡◌, ℕ, zero, suc, ◌<◌, ◌≤◌, false, List, length, Some, refl, sym, ◌∙◌, ap, subst}
use Rattle.dm_tree.proofs.Common.{arith, length-set, is_within_limits, Row, Path, IsRoot, row_at, node_of, path_below}
use Rattle.dm_tree.proofs.Common.{ids_below, ids, nodes, IsShaped, IsRow, IsTree, IsLive, IsParkedTop, path_of}
use Rattle.dm_tree.proofs.Common.{attached_as, pruned, CanBeTakenOut, TakesEditBack, TakesBack}
use Rattle.dm_tree.proofs.NodeEdits.{each_set, of_both}
use Rattle.dm_tree.proofs.SubtreeCuts.{still_attached, shaped-detached, cut, ids-detached, nodes-detached}
use Rattle.dm_tree.proofs.LiveRows.{len-nodes, live_at}
use Rattle.dm_tree.proofs.UndoFlips.{again, parked-taken_out}
use Rattle.dm_tree.proofs.UndoPromises.{edit-cut}
use Rattle.dm_tree.proofs.InvariantKept.{may_take}

-- where fewer rows lie below the root, they are fewer
pub fewer : (rows rows' : List Row)
    → ((k : ℕ) (p : Path) → path_below rows' 0 k ≡ Some p → path_below rows 0 k ≡ Some p) → (n : ℕ)
    → length (ids_below rows' 0 n) ≤ length (ids_below rows 0 n)
fewer rows rows' still zero = omega arith
fewer rows rows' still (suc n) =
    let rest = fewer rows rows' still n in
    let here = still n in
    grind arith

-- what is left is a tree, where nothing lies below the root at another path than before
pub tree-out : (rows : List Row) → IsTree rows → (k : ℕ) → 0 < k → k < length rows
    → ((j : ℕ) (q : Path) → path_below (attached_as rows k false) 0 j ≡ Some q → path_below rows 0 j ≡ Some q)
    → IsTree (attached_as rows k false)
tree-out rows tree k z l before = record {
  shape = shape;
  each = λ j jl.
      each_set rows k _ l IsRow j
      (λ _. record { name = (tree.each k l).name; node = (tree.each k l).node; attached = λ e. absurd (cc) })
      (λ _. tree.each j (omega (arith, jl, long)));
  root = subst IsRoot (sym (node 0)) tree.root;
  children = λ j at.
      let still = still_attached rows k j l at in
      rw (parent j, node j, node (row_at rows j).parent) (tree.children j still.1);
  within = λ j there.
      let was = live_at rows j (path_of (attached_as rows k false) j) (before j _ there) in
      ap is_within_limits (sym was.1) ∙ tree.within j was.0;
  size =
      omega (
        arith,
        len-nodes (attached_as rows k false) shape,
        len-nodes rows tree.shape,
        fewer rows (attached_as rows k false) before (length rows),
        tree.size,
        ap (λ n. length (ids_below (attached_as rows k false) 0 n)) long,
      );
}
  where
    shape : IsShaped (attached_as rows k false)
    shape = shaped-detached rows tree.shape k z l

    long : length (attached_as rows k false) ≡ length rows
    long = length-set rows k _

    node : (j : ℕ) → node_of (attached_as rows k false) j ≡ node_of rows j
    node j = of_both rows k _ (λ r. r.node) refl j l

    parent : (j : ℕ) → (row_at (attached_as rows k false) j).parent ≡ (row_at rows j).parent
    parent j = of_both rows k _ (λ r. r.parent) refl j l

-- what holds where a row of the tree is taken out
pub record IsCut (rows : List Row) (k : ℕ) : Type 0 where
  pub taken : CanBeTakenOut rows k
  pub tree : IsTree (attached_as rows k false)
  pub nodes : nodes (attached_as rows k false) ≡ pruned (nodes rows) (path_of rows k)
  pub ids : ids (attached_as rows k false) ≡ pruned (ids rows) (path_of rows k)
  pub undo : TakesBack (change.PutIn k) rows (attached_as rows k false)
  pub parked : IsParkedTop (attached_as rows k false) k
  pub edit : TakesEditBack (change.PutIn k) rows (attached_as rows k false)

pub tree-cut : (rows : List Row) → IsTree rows → (k : ℕ) → IsLive rows k → (node_of rows k).permanent ≡ false
    → IsCut rows k
tree-cut rows tree k live removable =
    let taken = may_take rows tree k live removable in
    let after = tree-out rows tree k taken.below_root taken.inside
    (λ j q e. (cut rows tree.shape k taken.below_root live j q e).0) in
    let undo : TakesBack (change.PutIn k) rows (attached_as rows k false) =
    again rows (change.TakeOut k) tree (record { inside = taken.inside; ready = taken.attached; sound = after }) in
    let parked = parked-taken_out rows k tree taken.inside taken.attached in
    record {
      taken = taken;
      tree = after;
      nodes = nodes-detached rows tree.shape k taken.below_root live;
      ids = ids-detached rows tree.shape k taken.below_root live;
      undo = undo;
      parked = parked;
      edit = edit-cut rows k tree after live taken.attached undo parked;
    }
