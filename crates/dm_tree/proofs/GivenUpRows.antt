-- What is given up.
use Rattle.dm_tree.proofs.Common.{◌≡◌, ◌≢◌, ℕ, zero, suc, ◌<◌, true, List, [], ◌∷◌, ◌++◌, length, Some, refl, sym, ◌∙◌}
use Rattle.dm_tree.proofs.Common.{ap, arith, inl, inr, length-set, cases_Bool, get_or-set_other, nat_tests, Node, Row}
use Rattle.dm_tree.proofs.Common.{Path, IsNode, IsRoot, blank, row_at, node_of, walk, path_below, ids, nodes, IsRow}
use Rattle.dm_tree.proofs.Common.{IsTree, IsParkedTop, IsShaped, emptied, without_content}
use Rattle.dm_tree.proofs.RowPaths.{Up, walk_up, not_same}
use Rattle.dm_tree.proofs.NodeEdits.{IsAlike, path_alike, each_set, of_both}
use Rattle.dm_tree.proofs.SamePaths.{no_way, ids_by, nodes_by}
use Rattle.dm_tree.proofs.TreeEdits.{IsStill, tree-still}

-- ---- the way up to a top

-- a row below a top is that top, or lies right below a row that lies there
pub path_up : (rows : List Row) → IsShaped rows → (t j : ℕ) (p : Path) → j ≢ t → path_below rows t j ≡ Some p
    → Up rows (row_at rows (row_at rows j).parent).depth t j p
path_up rows shape t j p apart e = elim (cases_Bool (row_at rows j).attached) [
  | inl at ↦ walk_up rows _ t j p (not_same j t apart) (sym (ap (λ d. walk rows d t j) (shape.falls j at)) ∙ e)
  | inr out ↦ absurd (let none = no_way rows (row_at rows j).depth t j apart out in cc)
]

pub path_down : (rows : List Row) → IsShaped rows → (t j : ℕ) (q : Path) → j ≢ t → (row_at rows j).attached ≡ true
    → path_below rows t (row_at rows j).parent ≡ Some q → path_below rows t j ≡ Some (q ++ (row_at rows j).name ∷ [])
path_down rows shape t j q apart at up = rw (shape.falls j at) (rw (not_same j t apart, at, up) refl)

pub self_below : (rows : List Row) (d k : ℕ) → walk rows d k k ≡ Some []
self_below rows zero k = grind (arith, nat_tests)
self_below rows (suc d) k = grind (arith, nat_tests)

-- ---- a top is given up

alike : (rows : List Row) (k : ℕ) → k < length rows → IsAlike rows (without_content rows k)
alike rows k l = record {
  parent = λ j. of_both rows k _ (λ s. s.parent) refl j l;
  depth = λ j. of_both rows k _ (λ s. s.depth) refl j l;
  attached = λ j. of_both rows k _ (λ s. s.attached) refl j l;
  name = λ j. of_both rows k _ (λ s. s.name) refl j l;
  long = length-set rows k _;
}

empty_held : (n : Node) → IsNode n → IsNode (emptied n)
empty_held n h = record {
  value = record {
    format = h.value.format;
    kind = h.value.kind;
    empty = λ _. refl;
    media = omega arith;
    short = omega arith;
  };
  acl = tt;
  title = omega arith;
  verno = h.verno;
  stamp = h.stamp;
}

still-given_up : (rows : List Row) → IsTree rows → (k : ℕ) → IsParkedTop rows k → IsStill rows (without_content rows k)
still-given_up rows tree k top = record {
  same = alike rows k top.inside;
  each = λ j jl. each_set rows k _ top.inside IsRow j (λ _. record {
    name = (tree.each k top.inside).name;
    node = empty_held (node_of rows k) (tree.each k top.inside).node;
    attached = λ e. absurd (let out = top.out in cc);
  }) (λ _. tree.each j jl);
  root =
      each_set rows k _ top.inside (λ r. IsRoot r.node) 0 (λ z. absurd (omega (arith, z, top.below_root)))
      (λ _. tree.root);
  children = λ j at. record {
    interior =
        of_both rows k _ (λ r. r.node.interior) refl (row_at rows j).parent top.inside ∙ (tree.children j at).interior;
    permanent = λ p.
        of_both rows k _ (λ r. r.node.permanent) refl (row_at rows j).parent top.inside
        ∙ (tree.children j at).permanent (sym (of_both rows k _ (λ r. r.node.permanent) refl j top.inside) ∙ p);
  };
}

pub tree-given_up : (rows : List Row) → IsTree rows → (k : ℕ) → IsParkedTop rows k → IsTree (without_content rows k)
tree-given_up rows tree k top = tree-still rows _ tree (still-given_up rows tree k top)

pub ids-given_up : (rows : List Row) (k : ℕ) → IsParkedTop rows k → ids (without_content rows k) ≡ ids rows
ids-given_up rows k top =
    let same = alike rows k top.inside in
    ids_by (without_content rows k) rows same.long (path_alike rows _ same 0)

-- what is parked isn't in the tree
not_live : (rows : List Row) (k : ℕ) → IsParkedTop rows k → (j : ℕ) (p : Path) → path_below rows 0 j ≡ Some p → j ≢ k
not_live rows k top j p e same =
    let none = no_way rows (row_at rows k).depth 0 k (λ z. omega (arith, z, top.below_root)) top.out in
    absurd (cc)

pub nodes-given_up : (rows : List Row) (k : ℕ) → IsParkedTop rows k → nodes (without_content rows k) ≡ nodes rows
nodes-given_up rows k top =
    nodes_by (without_content rows k) rows (ids-given_up rows k top)
    (λ j q e. ap (λ (r : Row). r.node) (get_or-set_other rows k j _ blank (not_live rows k top j q e)))
