-- What the rows say of the two maps.
use Rattle.std.specs.FinMap.{find, insert}
use Rattle.dm_tree.proofs.Common.{◌≡◌, ◌≢◌, ℕ, zero, suc, ◌<◌, List, [], ◌∷◌, length, Option, None, Some}
use Rattle.dm_tree.proofs.Common.{refl, sym, ◌∙◌, ap, arith, ◌⊎◌, inl, inr, cases_Bool, false_from_ne_true}
use Rattle.dm_tree.proofs.Common.{get_or_past, unwrap_or, eq_by_cmp, FinMap, get, get-from_entries, get-insert}
use Rattle.dm_tree.proofs.Common.{same_map, option_map, Node, Row, Path, tree_order, blank, row_at, node_of, path_below}
use Rattle.dm_tree.proofs.Common.{placed, ids_below, nodes_at_paths, ids, nodes, IsShaped, IsLive, path_of}
use Rattle.dm_tree.proofs.MapKeys.{tied}
use Rattle.dm_tree.proofs.Paths.{below_or_not, path_or_not, same_or_not, same_path, tree_exact, tree_total}
pub use Rattle.dm_tree.proofs.RowPaths.{some_of}
use Rattle.dm_tree.proofs.RowPaths.{at_bottom, one_row, same_number, some_path}

-- the maps, read at a path
pub get_ids : (rows : List Row) (q : Path) → get (ids rows) q ≡ find tree_order q (ids_below rows 0 (length rows))
unfolding ids nodes
get_ids rows q = get-from_entries tree_total _ q

pub find-with_nodes : (rows : List Row) (q : Path) (es : List (Path × ℕ))
    → find tree_order q (nodes_at_paths rows es) ≡ option_map (λ k. (row_at rows k).node) (find tree_order q es)
find-with_nodes rows q [] = refl
find-with_nodes rows q (e ∷ es) = elim (cases_Bool (eq_by_cmp tree_order q e.0)) [
  | inl is ↦ rw is refl
  | inr is ↦ rw is (find-with_nodes rows q es)
]

pub get_nodes : (rows : List Row) (q : Path)
    → get (nodes rows) q ≡ option_map (λ k. (row_at rows k).node) (get (ids rows) q)
unfolding ids nodes
get_nodes rows q =
    get-from_entries tree_total _ q ∙ find-with_nodes rows q _
    ∙ ap (option_map (λ k. (row_at rows k).node)) (sym (get-from_entries tree_total _ q))

pub none_of : {X Y : Type 0} (f : X → Y) (o : Option X) → option_map f o ≡ None → o ≡ None
none_of f None e = refl
none_of f (Some x) e = absurd (cc)

abbrev pub find_id : Path → List (Path × ℕ) → Option ℕ
find_id q es = find tree_order q es

-- what is found once a row is placed is that row, at its path, or what was found
find-placed : (q : Path) (o : Option Path) (k : ℕ) (es : List (Path × ℕ))
    → ((o ≡ Some q) × (find_id q (placed o k es) ≡ Some k))
    ⊎ ((o ≢ Some q) × (find_id q (placed o k es) ≡ find_id q es))
find-placed q None k es = inr (λ e. absurd (cc), refl)
find-placed q (Some p) k es = elim (path_or_not q p) [
  | inl is ↦ inl (ap (λ r. Some r) (sym is), rw (tied q p is) refl)
  | inr d ↦
      inr (λ e. d (sym (some_path p q e)), rw (false_from_ne_true _ (λ is. d (same_path q p is))) refl)
]

pub found_in : (rows : List Row) (top n : ℕ) (q : Path) (i : ℕ) → find_id q (ids_below rows top n) ≡ Some i
    → (path_below rows top i ≡ Some q) × (i < n)
found_in rows top zero q i e = absurd (cc)
found_in rows top (suc n) q i e = elim (find-placed q (path_below rows top n) n (ids_below rows top n)) [
  | inl at ↦ let same : n ≡ i = cc in (ap (path_below rows top) (sym same) ∙ at.0, omega arith)
  | inr d ↦ let r = found_in rows top n q i (sym d.1 ∙ e) in (r.0, omega (arith, r.1))
]

-- what the ids say is so
pub id_is : (rows : List Row) (q : Path) (i : ℕ) → get (ids rows) q ≡ Some i
    → (path_below rows 0 i ≡ Some q) × (i < length rows)
id_is rows q i e = found_in rows 0 (length rows) q i (sym (get_ids rows q) ∙ e)

-- a row past the end is blank, and lies nowhere
pub within : (rows : List Row) → IsShaped rows → (k : ℕ) (q : Path) → path_below rows 0 k ≡ Some q → k < length rows
within rows shape k q e = elim (below_or_not k (length rows)) [
  | inl h ↦ h
  | inr h ↦ let low = at_bottom rows 0 k q (rw (get_or_past rows k blank h) at e) in
      omega (arith, same_number k 0 low, shape.rooted)
]

finds_in : (rows : List Row) → IsShaped rows → (n i : ℕ) (q : Path) → i < n → path_below rows 0 i ≡ Some q
    → find_id q (ids_below rows 0 n) ≡ Some i
finds_in rows shape zero i q l e = absurd (omega arith)
finds_in rows shape (suc n) i q l e = elim (find-placed q (path_below rows 0 n) n (ids_below rows 0 n)) [
  | inl at ↦ at.1 ∙ ap (λ j. Some j) (one_row rows shape _ _ 0 n i q at.0 e)
  | inr d ↦
      let other : i ≢ n = λ h. d.0 (ap (path_below rows 0) (sym h) ∙ e) in
      d.1 ∙ finds_in rows shape n i q (omega arith) e
]

pub id_of : (rows : List Row) → IsShaped rows → (i : ℕ) (q : Path) → path_below rows 0 i ≡ Some q
    → get (ids rows) q ≡ Some i
id_of rows shape i q e = get_ids rows q ∙ finds_in rows shape (length rows) i q (within rows shape i q e) e

pub root_live : (rows : List Row) → IsShaped rows → path_below rows 0 0 ≡ Some []
root_live rows shape = rw shape.at_root refl

pub found_live : (rows : List Row) (q : Path) (i : ℕ) → get (ids rows) q ≡ Some i → IsLive rows i × (path_of rows i ≡ q)
found_live rows q i e =
    let at = (id_is rows q i e).0 in
    let same : path_of rows i ≡ q = ap (λ o. unwrap_or o []) at in
    (at ∙ ap (λ r. Some r) (sym same), same)

-- ---- when a map says what the rows do

pub insert_here : {X : Type 0} (m : FinMap tree_order X) (p q : Path) (x : X) → q ≡ p → get (insert m p x) q ≡ Some x
insert_here m p q x e = get-insert tree_total m p x q ∙ rw (tied q p e) refl

pub insert_beside : {X : Type 0} (m : FinMap tree_order X) (p q : Path) (x : X) → q ≢ p → get (insert m p x) q ≡ get m q
insert_beside m p q x other =
    get-insert tree_total m p x q ∙ rw (false_from_ne_true _ (λ is. other (same_path q p is))) refl

same_answer : {X : Type 0} (a b : Option X) → ((x : X) → a ≡ Some x → b ≡ Some x)
    → ((x : X) → b ≡ Some x → a ≡ Some x) → a ≡ b
same_answer None None f g = refl
same_answer None (Some x) f g = g x refl
same_answer (Some x) b f g = sym (f x refl)

-- each row of the tree is in it under its path, and no other number
pub ids_are : (rows : List Row) → IsShaped rows → (m : FinMap tree_order ℕ)
    → ((i : ℕ) (q : Path) → path_below rows 0 i ≡ Some q → get m q ≡ Some i)
    → ((i : ℕ) (q : Path) → get m q ≡ Some i → path_below rows 0 i ≡ Some q) → ids rows ≡ m
ids_are rows shape m to from = same_map tree_total tree_exact _ _ (λ q.
    same_answer _ _ (λ i e. to i q (id_is rows q i e).0) (λ i e. id_of rows shape i q (from i q e)))

pub node_of_path : (rows : List Row) → IsShaped rows → (i : ℕ) (q : Path) → path_below rows 0 i ≡ Some q
    → get (nodes rows) q ≡ Some (row_at rows i).node
node_of_path rows shape i q e =
    get_nodes rows q ∙ ap (option_map (λ j. (row_at rows j).node)) (id_of rows shape i q e)

-- what the map shows at a path stands in a row
pub record StandsInRow (rows : List Row) (p : Path) (node : Node) : Type 0 where
  pub row : ℕ
  pub lies : path_below rows 0 row ≡ Some p
  pub inside : row < length rows
  pub node_is : node_of rows row ≡ node

pub row_there : (rows : List Row) (p : Path) (node : Node) → get (nodes rows) p ≡ Some node → StandsInRow rows p node
row_there rows p node e =
    let found = some_of (λ j. (row_at rows j).node) (get (ids rows) p) node (sym (get_nodes rows p) ∙ e) in
    let lies = id_is rows p found.0 found.1 in
    record { row = found.0; lies = lies.0; inside = lies.1; node_is = found.2 }

-- the node of each row of the tree is in it under the row's path, and no other path
pub nodes_are : (rows : List Row) → IsShaped rows → (m : FinMap tree_order Node)
    → ((i : ℕ) (q : Path) → path_below rows 0 i ≡ Some q → get m q ≡ Some (row_at rows i).node)
    → ((q : Path) (n : Node) → get m q ≡ Some n → (i : ℕ) × (path_below rows 0 i ≡ Some q)) → nodes rows ≡ m
nodes_are rows shape m to from = same_map tree_total tree_exact _ _ (λ q. same_answer _ _ (λ n e.
    let s = row_there rows q n e in to s.row q s.lies ∙ ap (λ x. Some x) s.node_is) (λ n e.
    let s = from q n e in node_of_path rows shape s.0 q s.1 ∙ sym (to s.0 q s.1) ∙ e))

-- the node of the row k stands in the place of what a map has there, and the map has the nodes of the other rows
pub nodes_insert : (rows : List Row) → IsShaped rows → (m : FinMap tree_order Node) (k : ℕ) (p : Path)
    → path_below rows 0 k ≡ Some p
    → ((i : ℕ) (q : Path) → i ≢ k → path_below rows 0 i ≡ Some q → get m q ≡ Some (row_at rows i).node)
    → ((q : Path) (n : Node) → get m q ≡ Some n → (i : ℕ) × (path_below rows 0 i ≡ Some q))
    → nodes rows ≡ insert m p (row_at rows k).node
nodes_insert rows shape m k p at to from = nodes_are rows shape _ (λ i q e. elim (same_or_not i k) [
  | inl h ↦
      insert_here m p q _ (some_path q p (sym e ∙ ap (path_below rows 0) h ∙ at))
      ∙ ap (λ j. Some (row_at rows j).node) (sym h)
  | inr d ↦
      insert_beside m p q _ (λ same. d (one_row rows shape _ _ 0 i k q e (at ∙ ap (λ s. Some s) (sym same))))
      ∙ to i q d e
]) (λ q n e. elim (path_or_not q p) [
  | inl h ↦ (k, at ∙ ap (λ s. Some s) (sym h))
  | inr d ↦ from q n (sym (insert_beside m p q _ d) ∙ e)
])
