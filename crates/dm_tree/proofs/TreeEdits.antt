-- What keeps the rows a tree.
use Rattle.std.proofs.lemmas.Bool.{leb-true}
use Rattle.dm_uri.specs.Names.{is_short_name}
use Rattle.dm_tree.specs.Nodes.{with_mark}
use Rattle.dm_tree.proofs.Common.{◌≡◌, ℕ, ◌<◌, ◌≤◌, true, false, nat_eq, List, [], ◌∷◌, ◌++◌, length, refl, sym, ◌∙◌}
use Rattle.dm_tree.proofs.Common.{ap, subst, arith, inl, inr, length-append, set, nat_le, ◌&&◌, list_all, and_parts}
use Rattle.dm_tree.proofs.Common.{len, printed_path, is_within_limits, Node, Row, Path, IsNode, IsRoot, IsChildOf}
use Rattle.dm_tree.proofs.Common.{row_at, node_of, ids_below, nodes, IsShaped, IsRow, IsTree, IsLive, path_of}
use Rattle.dm_tree.proofs.Common.{with_node}
use Rattle.dm_tree.proofs.Paths.{same_or_not}
use Rattle.dm_tree.proofs.RowPaths.{depth_is, not_zero, attached_row}
use Rattle.dm_tree.proofs.SamePaths.{ids_upto}
use Rattle.dm_tree.proofs.NodeEdits.{IsAlike, path_alike, each_set, of_both, node_alike, shaped_alike}
use Rattle.dm_tree.proofs.LiveRows.{len-nodes, live_at}

-- ---- another node in a row

len_alike : (rows rows' : List Row) → IsShaped rows → IsAlike rows rows' → len (nodes rows') ≡ len (nodes rows)
len_alike rows rows' shape same =
    len-nodes rows' (shaped_alike rows rows' same shape)
    ∙ ap length (ap (ids_below rows' 0) same.long ∙ ids_upto rows' rows 0 (path_alike rows rows' same 0) (length rows))
    ∙ sym (len-nodes rows shape)

-- rows that lie as before, each with a node that may stand there
pub record IsStill (rows rows' : List Row) : Type 0 where
  pub same : IsAlike rows rows'
  pub each : (k : ℕ) → k < length rows → IsRow (row_at rows' k)
  pub root : IsRoot (node_of rows' 0)
  pub children : (k : ℕ) → (row_at rows k).attached ≡ true
      → IsChildOf (node_of rows' k) (node_of rows' (row_at rows k).parent)

pub tree-still : (rows rows' : List Row) → IsTree rows → IsStill rows rows' → IsTree rows'
tree-still rows rows' tree still = record {
  shape = shaped_alike rows rows' still.same tree.shape;
  each = λ k l. still.each k (omega (arith, l, still.same.long));
  root = still.root;
  children = λ k at.
      subst (λ j. IsChildOf (node_of rows' k) (node_of rows' j)) (sym (still.same.parent k))
      (still.children k (sym (still.same.attached k) ∙ at));
  within = λ k live.
      let there = live_at rows k (path_of rows' k) (sym (path_alike rows rows' still.same 0 k) ∙ live) in
      ap is_within_limits (sym there.1) ∙ tree.within k there.0;
  size = omega (arith, len_alike rows rows' tree.shape still.same, tree.size);
}

-- a node of the same kind
pub record IsKin (a b : Node) : Type 0 where
  pub interior : b.interior ≡ a.interior
  pub permanent : b.permanent ≡ a.permanent

-- where two nodes are of the kinds that they were, the one may still stand below the other
pub child_kin : {a b c d : Node} → IsKin a c → IsKin b d → IsChildOf a b → IsChildOf c d
child_kin child parent may = record {
  interior = parent.interior ∙ may.interior;
  permanent = λ p. parent.permanent ∙ may.permanent (sym child.permanent ∙ p);
}

-- with a node of the same kind in a row, each node is of the kind that it was
pub kin_set : (rows : List Row) (k : ℕ) (r : Row) → k < length rows → IsKin (node_of rows k) r.node → (j : ℕ)
    → IsKin (node_of rows j) (node_of (set rows k r) j)
kin_set rows k r l kin j =
    each_set rows k r l (λ s. IsKin (node_of rows j) s.node) j
    (λ e. subst (λ i. IsKin (node_of rows i) r.node) (sym e) kin) (λ _. record { interior = refl; permanent = refl })

-- another node in a row of the tree, where each child may stand below its parent then
still-node : (rows : List Row) → IsTree rows → (k : ℕ) → k < length rows → (n : Node) → IsNode n → (k ≡ 0 → IsRoot n)
    → ((j : ℕ) → (row_at rows j).attached ≡ true
    → IsChildOf (node_of (with_node rows k n) j) (node_of (with_node rows k n) (row_at rows j).parent))
    → IsTree (with_node rows k n)
still-node rows tree k l n held root children = tree-still rows (with_node rows k n) tree (record {
  same = node_alike rows k n l;
  each = λ j jl.
      each_set rows k _ l IsRow j
      (λ _. record { name = (tree.each k l).name; node = held; attached = (tree.each k l).attached })
      (λ _. tree.each j jl);
  root = each_set rows k _ l (λ (r : Row). IsRoot r.node) 0 (λ z. root (sym z)) (λ _. tree.root);
  children = children;
})

-- one of the same kind
pub tree-with_node : (rows : List Row) → IsTree rows → (k : ℕ) → k < length rows → (n : Node) → IsNode n
    → IsKin (node_of rows k) n → (k ≡ 0 → IsRoot n) → IsTree (with_node rows k n)
tree-with_node rows tree k l n held kin root =
    let each = kin_set rows k (record (row_at rows k) { node = n }) l kin in
    still-node rows tree k l n held root
    (λ j at. child_kin (each j) (each (row_at rows j).parent) (tree.children j at))

-- a row of the tree made permanent, whose parent is
pub tree-with_mark : (rows : List Row) → IsTree rows → (k : ℕ) → k < length rows
    → (nat_eq k 0 ≡ false → (node_of rows (row_at rows k).parent).permanent ≡ true)
    → IsTree (with_node rows k (with_mark (node_of rows k)))
tree-with_mark rows tree k l above =
    let held = (tree.each k l).node in
    still-node rows tree k l (with_mark (node_of rows k))
    (record { value = held.value; acl = held.acl; title = held.title; verno = held.verno; stamp = held.stamp })
    (λ z. let top = subst (λ i. IsRoot (node_of rows i)) (sym z) tree.root in
    record { interior = top.interior; permanent = refl; acl = top.acl; media = top.media; role = top.role })
    (λ j at. record {
      interior = of_both rows k _ (λ r. r.node.interior) refl (row_at rows j).parent l ∙ (tree.children j at).interior;
      permanent = λ p.
          each_set rows k _ l (λ (r : Row). r.node.permanent ≡ true) (row_at rows j).parent (λ _. refl) (λ _.
          each_set rows k _ l
          (λ (r : Row). r.node.permanent ≡ true → (node_of rows (row_at rows j).parent).permanent ≡ true) j
          (λ g _. ap (λ i. (node_of rows (row_at rows i).parent).permanent) g
          ∙ above (not_zero k (λ z. omega (arith, z, g, (attached_row rows tree.shape j at).0))))
          (λ _. (tree.children j at).permanent) p);
    })

-- what isn't permanent isn't the root
pub isnt_root : (rows : List Row) → IsTree rows → (k : ℕ) → (node_of rows k).permanent ≡ false → 0 < k
isnt_root rows tree k removable = elim (same_or_not k 0) [
  | inl e ↦ let top = tree.root.permanent in absurd (cc)
  | inr d ↦ omega (arith, d)
]

-- each of the limits by itself
pub limits_of : (p : Path) → is_within_limits p ≡ true
    → (list_all is_short_name p ≡ true) × (length p ≤ 16) × (nat_le (length (printed_path p)) 255 ≡ true)
limits_of p e =
    let outer = and_parts (list_all is_short_name p && nat_le (length p) 16) (nat_le (length (printed_path p)) 255) e in
    let inner = and_parts (list_all is_short_name p) (nat_le (length p) 16) outer.0 in
    (inner.0, leb-true (length p) 16 inner.1, outer.1)

pub shallow : (p : Path) (name : List ℕ) → is_within_limits (p ++ name ∷ []) ≡ true → length p < 16
shallow p name e = omega (arith, (limits_of (p ++ name ∷ []) e).1, length-append p (name ∷ []))

pub parent_is_shallow : (rows : List Row) → IsShaped rows → (k : ℕ) → IsLive rows k → (name : List ℕ)
    → is_within_limits (path_of rows k ++ name ∷ []) ≡ true → (row_at rows k).depth < 16
parent_is_shallow rows shape k live name within =
    let deep = depth_is rows shape (row_at rows k).depth k (path_of rows k) refl live in
    omega (arith, deep, shallow (path_of rows k) name within)
