-- What is read of a row of the tree.
use Rattle.std.proofs.Common.{unwrap_or, is_some, option_map, IfSome}
use Rattle.std.proofs.lemmas.List.Folds.{list_all-append}
use Rattle.std.specs.FinMap.{insert, len-empty}
use Rattle.dm_uri.specs.Names.{IsPath}
use Rattle.dm_tree.specs.Nodes.{IsWellFormed}
use Rattle.dm_tree.specs.Rows.{StayLive}
use Rattle.dm_tree.proofs.Common.{◌≡◌, ℕ, zero, suc, ◌<◌, true, false, nat_eq, List, [], ◌∷◌, ◌++◌, length, get_or}
use Rattle.dm_tree.proofs.Common.{Option, None, Some, refl, sym, ◌∙◌, ap, subst, arith, and_from, get_or_default}
use Rattle.dm_tree.proofs.Common.{list_all, get, len, contains_key, from_entries, len-insert, get-from_entries, is_name}
use Rattle.dm_tree.proofs.Common.{is_within_limits, Node, Row, Path, tree_order, above, last_name, IsChildOf, IsNode}
use Rattle.dm_tree.proofs.Common.{blank, row_at, node_of, walk, path_below, placed, ids_below, nodes_at_paths, ids}
use Rattle.dm_tree.proofs.Common.{nodes}
use Rattle.dm_tree.proofs.Common.{Tree, IsShaped, IsTree, IsLive, path_of, path_up}
use Rattle.dm_tree.proofs.Paths.{tree_total, same_ends, not_empty}
use Rattle.dm_tree.proofs.RowPaths.{attached_row, up_from, at_bottom, at_top, one_row, depth_is, not_zero, same_number}
use Rattle.dm_tree.proofs.RowMaps.{found_live, get_nodes, id_is, id_of, find_id, found_in, find-with_nodes}
use Rattle.dm_tree.proofs.RowMaps.{node_of_path, root_live, insert_beside, StandsInRow, row_there}
use Rattle.dm_tree.proofs.NodeEdits.{live_row}

-- ---- ends of paths

pub above-append : (p : Path) (n : List ℕ) → above (p ++ n ∷ []) ≡ p
above-append [] n = refl
above-append (m ∷ []) n = refl
above-append (m ∷ k ∷ ks) n = ap (λ q. m ∷ q) (above-append (k ∷ ks) n)

pub last_name-append : (p : Path) (n : List ℕ) → last_name (p ++ n ∷ []) ≡ Some n
last_name-append [] n = refl
last_name-append (m ∷ []) n = refl
last_name-append (m ∷ k ∷ ks) n = last_name-append (k ∷ ks) n

-- ---- one row up

pub live_at : (rows : List Row) (k : ℕ) (p : Path) → path_below rows 0 k ≡ Some p → IsLive rows k × (path_of rows k ≡ p)
live_at rows k p e = let is : path_of rows k ≡ p = ap (λ o. unwrap_or o []) e in (e ∙ ap (λ q. Some q) (sym is), is)

pub record HasParent (rows : List Row) (k : ℕ) : Type 0 where
  pub attached : (row_at rows k).attached ≡ true
  pub deep : (row_at rows k).depth ≡ suc (row_at rows (row_at rows k).parent).depth
  pub live : IsLive rows (row_at rows k).parent
  pub path : path_of rows k ≡ path_of rows (row_at rows k).parent ++ (row_at rows k).name ∷ []

pub root_path_of : (rows : List Row) → path_of rows 0 ≡ []
root_path_of rows =
    elim (row_at rows 0).depth as (λ d. unwrap_or (walk rows d 0 0) [] ≡ []) [ zero ↦ refl | suc d ↦ refl ]

module _ (rows : List Row) (shape : IsShaped rows) where
  pub has_parent : (k : ℕ) → IsLive rows k → nat_eq k 0 ≡ false → HasParent rows k
  has_parent k live other = by_depth (row_at rows k).depth refl
    where
      by_depth : (d : ℕ) → (row_at rows k).depth ≡ d → HasParent rows k
      by_depth zero deep = absurd (let is = at_bottom rows 0 k _ (rw deep at live) in cc)
      by_depth (suc d) deep =
          let there = subst (λ e. walk rows e 0 k ≡ Some (path_of rows k)) deep live in
          let u = up_from rows shape d k (path_of rows k) deep there in
          let parent = live_at rows (row_at rows k).parent u.0.above (rw u.1 u.0.found) in
          record {
            attached = u.0.attached;
            deep = shape.falls k u.0.attached;
            live = parent.0;
            path = rw parent.1 u.0.named;
          }

  pub root_path : (k : ℕ) → nat_eq k 0 ≡ true → path_of rows k ≡ []
  root_path k is = ap (path_of rows) (same_number k 0 is) ∙ root_path_of rows

  pub path_up-is : (d k : ℕ) (p : Path) → (row_at rows k).depth ≡ d → walk rows d 0 k ≡ Some p → path_up rows d k ≡ p
  path_up-is zero k p deep e = sym (at_top rows zero 0 k p (at_bottom rows 0 k p e) e)
  path_up-is (suc d) k p deep e =
      let u = up_from rows shape d k p deep e in
      rw (u.0.named, path_up-is d (row_at rows k).parent u.0.above u.1 u.0.found) refl

  -- the node at the path of a row
  pub node_there : (k : ℕ) → IsLive rows k → get (nodes rows) (path_of rows k) ≡ Some (node_of rows k)
  node_there k live = node_of_path rows shape k (path_of rows k) live

  -- ---- how many nodes there are

  not_yet : (n : ℕ) (p : Path) → path_below rows 0 n ≡ Some p → find_id p (ids_below rows 0 n) ≡ None
  not_yet n p e = by_answer (find_id p (ids_below rows 0 n)) refl
    where
      by_answer : (o : Option ℕ) → find_id p (ids_below rows 0 n) ≡ o → o ≡ None
      by_answer None is = refl
      by_answer (Some i) is =
          let there = found_in rows 0 n p i is in
          absurd (omega (arith, there.1, one_row rows shape _ _ 0 i n p there.0 e))

  len-upto : (n : ℕ)
      → len (from_entries {R = tree_order} (nodes_at_paths rows (ids_below rows 0 n))) ≡ length (ids_below rows 0 n)
  len-upto zero = len-empty tree_order Node
  len-upto (suc n) = by_place (len-upto n) (path_below rows 0 n) refl
    where
      before : List (Path × Node)
      before = nodes_at_paths rows (ids_below rows 0 n)

      by_place : len (from_entries {R = tree_order} before) ≡ length (ids_below rows 0 n)
          → (o : Option Path) → path_below rows 0 n ≡ o
          → len (from_entries {R = tree_order} (nodes_at_paths rows (placed o n (ids_below rows 0 n))))
          ≡ length (placed o n (ids_below rows 0 n))
      by_place less None e = less
      by_place less (Some p) e =
          let new : contains_key (from_entries {R = tree_order} before) p ≡ false =
          ap is_some (get-from_entries tree_total before p ∙ find-with_nodes rows p (ids_below rows 0 n)
          ∙ ap (option_map (λ k. (row_at rows k).node)) (not_yet n p e)) in
          len-insert tree_total (from_entries before) p (node_of rows n) ∙ rw new (omega (arith, less))

  pub len-nodes : len (nodes rows) ≡ length (ids_below rows 0 (length rows))
  unfolding nodes
  len-nodes = len-upto (length rows)

  -- ---- every tree is well-formed

  pub all_named : ((j : ℕ) → j < length rows → is_name (row_at rows j).name ≡ true) → (d k : ℕ) (p : Path)
      → (row_at rows k).depth ≡ d → walk rows d 0 k ≡ Some p → list_all is_name p ≡ true
  all_named names zero k p deep e = rw (at_top rows zero 0 k p (at_bottom rows 0 k p e) e) refl
  all_named names (suc d) k p deep e =
      let u = up_from rows shape d k p deep e in
      ap (list_all is_name) u.0.named ∙ list_all-append is_name u.0.above ((row_at rows k).name ∷ [])
      ∙ and_from _ _ (all_named names d (row_at rows k).parent u.0.above u.1 u.0.found)
      (and_from _ true (names k (attached_row rows shape k u.0.attached).1) refl)

parent_there : (rows : List Row) → IsTree rows → (p : Path) (name : List ℕ) (child : Node)
    → StandsInRow rows (p ++ name ∷ []) child
    → (parent : Node) × (get (nodes rows) p ≡ Some parent) × IsChildOf child parent
parent_there rows tree p name child r =
    let live = live_at rows r.row _ r.lies in
    let other = not_zero r.row (λ z. not_empty p name (sym live.1 ∙ ap (path_of rows) z ∙ root_path_of rows)) in
    let up = has_parent rows tree.shape r.row live.0 other in
    let same = same_ends _ p _ name (sym up.path ∙ live.1) in (
      node_of rows (row_at rows r.row).parent,
      ap (get (nodes rows)) (sym same.0) ∙ node_there rows tree.shape _ up.live,
      rw r.node_is at (tree.children r.row up.attached),
    )

path_there : (rows : List Row) → IsTree rows → (p : Path) (node : Node) → StandsInRow rows p node
    → IsPath p × (is_within_limits p ≡ true)
path_there rows tree p node r =
    let live = live_at rows r.row p r.lies in
    let deep = depth_is rows tree.shape (row_at rows r.row).depth r.row p refl r.lies in (
      record {
        few = omega (arith, deep, tree.shape.shallow r.row);
        names = all_named rows tree.shape (λ j l. (tree.each j l).name) (row_at rows r.row).depth r.row p refl r.lies;
      },
      ap is_within_limits (sym live.1) ∙ tree.within r.row live.0,
    )

pub well_formed : (rows : List Row) → IsTree rows → IsWellFormed (nodes rows)
well_formed rows tree = record {
  root = (node_of rows 0, node_of_path rows tree.shape 0 [] (root_live rows tree.shape), tree.root);
  parents = λ p name child e. parent_there rows tree p name child (row_there rows (p ++ name ∷ []) child e);
  each = λ p node e. let r = row_there rows p node e in subst IsNode r.node_is (tree.each r.row r.inside).node;
  paths = λ p node e. path_there rows tree p node (row_there rows p node e);
  few = tree.size;
}

-- ---- what is found

pub found_is_live : (rows : List Row) (q : Path) (o : Option ℕ) → o ≡ get (ids rows) q
    → IfSome o (λ k. IsLive rows k × (path_of rows k ≡ q))
found_is_live rows q None e = tt
found_is_live rows q (Some k) e = live_at rows k q (id_is rows q k (sym e)).0

pub found_node : (rows : List Row) (q : Path) (o : Option ℕ) → o ≡ get (ids rows) q
    → get (nodes rows) q ≡ option_map (node_of rows) o
found_node rows q o e = get_nodes rows q ∙ ap (option_map (node_of rows)) (sym e)

-- ---- the row that was read

pub read_live : {was now : Tree} {k j : ℕ} {r : Row} → was ≡ now → IsTree was.rows → IsLive now.rows k → j ≡ k
    → r ≡ get_or was.rows j r → r ≡ row_at now.rows k
read_live {now = now} {k = k} {r = r} same tree live jk e =
    let rows = ap (λ (t : Tree). t.rows) same in
    (rw (rows, jk) at e) ∙ get_or_default now.rows k r blank (live_row now.rows (rw rows at tree).shape k live)

-- ---- where the numbers are as they were

pub stay_live : (rows new : List Row) → IsShaped rows → ids new ≡ ids rows → StayLive rows new
stay_live rows new shape e k live = found_live new _ k (rw e (id_of rows shape k (path_of rows k) live))

pub stay_live-insert : (rows new : List Row) → IsShaped rows → (p : Path) (j : ℕ) → get (ids rows) p ≡ None
    → ids new ≡ insert (ids rows) p j → StayLive rows new
stay_live-insert rows new shape p j free e k live =
    let there = id_of rows shape k (path_of rows k) live in
    found_live new _ k (rw e (insert_beside (ids rows) p (path_of rows k) j (λ same. cc) ∙ there))
