-- One node is changed, and every row stays where it lies.
use Rattle.std.specs.FinMap.{insert}
use Rattle.dm_tree.proofs.Common.{◌≡◌, ◌≢◌, ℕ, zero, suc, ◌<◌, true, List, length, Some, refl, sym, ◌∙◌, ap, subst}
use Rattle.dm_tree.proofs.Common.{arith, inl, inr, get_or-set_same, get_or-set_other, set, length-set}
use Rattle.dm_tree.proofs.Common.{Node, Row, blank, row_at, walk, path_below, ids, nodes, IsShaped, IsLive}
use Rattle.dm_tree.proofs.Common.{path_of, with_node, get_or}
use Rattle.dm_tree.proofs.Paths.{same_or_not}
use Rattle.dm_tree.proofs.RowMaps.{within, node_of_path, row_there, nodes_insert}
use Rattle.dm_tree.proofs.SamePaths.{ids_by}

-- rows that lie alike, under the same names; their nodes may differ, and which were given up
pub record IsAlike (rows rows' : List Row) : Type 0 where
  pub parent : (k : ℕ) → (row_at rows' k).parent ≡ (row_at rows k).parent
  pub depth : (k : ℕ) → (row_at rows' k).depth ≡ (row_at rows k).depth
  pub attached : (k : ℕ) → (row_at rows' k).attached ≡ (row_at rows k).attached
  pub name : (k : ℕ) → (row_at rows' k).name ≡ (row_at rows k).name
  pub long : length rows' ≡ length rows

pub walk_alike : (rows rows' : List Row) → IsAlike rows rows' → (d top k : ℕ) → walk rows' d top k ≡ walk rows d top k
walk_alike rows rows' same zero top k = refl
walk_alike rows rows' same (suc d) top k =
    rw (same.parent k, same.attached k, same.name k, walk_alike rows rows' same d top (row_at rows k).parent) refl

pub path_alike : (rows rows' : List Row) → IsAlike rows rows' → (top k : ℕ)
    → path_below rows' top k ≡ path_below rows top k
path_alike rows rows' same top k = walk_alike rows rows' same _ top k ∙ ap (λ d. walk rows d top k) (same.depth k)

-- what holds of the new member of a list, and of the others, holds of each
pub each_member : {X : Type 0} (xs : List X) (i : ℕ) (x d : X) → i < length xs → (P : X → Type 0) (j : ℕ)
    → (j ≡ i → P x) → (j ≢ i → P (get_or xs j d)) → P (get_or (set xs i x) j d)
each_member xs i x d l P j new old = elim (same_or_not j i) [
  | inl e ↦ subst P (sym (ap (λ n. get_or (set xs i x) n d) e ∙ get_or-set_same xs i x d l)) (new e)
  | inr apart ↦ subst P (sym (get_or-set_other xs i j x d apart)) (old apart)
]

pub each_set : (rows : List Row) (k : ℕ) (r : Row) → k < length rows → (P : Row → Type 0) (j : ℕ) → (j ≡ k → P r)
    → (j ≢ k → P (row_at rows j)) → P (row_at (set rows k r) j)
each_set rows k r = each_member rows k r blank

pub of_both : {X : Type 0} (rows : List Row) (k : ℕ) (r : Row) (f : Row → X) → f r ≡ f (row_at rows k) → (j : ℕ)
    → k < length rows → f (row_at (set rows k r) j) ≡ f (row_at rows j)
of_both rows k r f e j l =
    each_set rows k r l (λ s. f s ≡ f (row_at rows j)) j (λ h. e ∙ ap (λ n. f (row_at rows n)) (sym h)) (λ _. refl)

-- i and j are one number where the rows r and s, which stand there, are attached under one parent and one name
abbrev pub AreOne : ℕ → ℕ → Row → Row → Type 0
AreOne i j r s =
    r.attached ≡ true → s.attached ≡ true → r.parent ≡ s.parent → r.name ≡ s.name → i ≡ j

pub node_alike : (rows : List Row) (k : ℕ) (n : Node) → k < length rows → IsAlike rows (with_node rows k n)
node_alike rows k n l = record {
  parent = λ j. of_both rows k _ (λ s. s.parent) refl j l;
  depth = λ j. of_both rows k _ (λ s. s.depth) refl j l;
  attached = λ j. of_both rows k _ (λ s. s.attached) refl j l;
  name = λ j. of_both rows k _ (λ s. s.name) refl j l;
  long = length-set rows k _;
}

-- rows that lie as deep below the same parents, no two of one name
pub shaped_by : (rows rows' : List Row) → length rows' ≡ length rows
    → ((k : ℕ) → (row_at rows' k).parent ≡ (row_at rows k).parent)
    → ((k : ℕ) → (row_at rows' k).depth ≡ (row_at rows k).depth)
    → ((k : ℕ) → (row_at rows' k).attached ≡ (row_at rows k).attached)
    → ((i j : ℕ) → AreOne i j (row_at rows' i) (row_at rows' j)) → IsShaped rows → IsShaped rows'
shaped_by rows rows' long parent depth attached twins shape = record {
  rooted = omega (arith, long, shape.rooted);
  few = omega (arith, long, shape.few);
  at_root = depth 0 ∙ shape.at_root;
  fixed = attached 0 ∙ shape.fixed;
  inside = λ k l. omega (arith, long, parent k, shape.inside k (omega (arith, long)));
  falls =
      λ k at. depth k ∙ shape.falls k (sym (attached k) ∙ at)
      ∙ ap suc (ap (λ j. (row_at rows j).depth) (sym (parent k)) ∙ sym (depth _));
  shallow = λ k. omega (arith, depth k, shape.shallow k);
  no_twins = twins;
}

pub shaped_alike : (rows rows' : List Row) → IsAlike rows rows' → IsShaped rows → IsShaped rows'
shaped_alike rows rows' same shape =
    shaped_by rows rows' same.long same.parent same.depth same.attached (λ i j a b p n.
    shape.no_twins i j (sym (same.attached i) ∙ a) (sym (same.attached j) ∙ b)
    (sym (same.parent i) ∙ p ∙ same.parent j) (sym (same.name i) ∙ n ∙ same.name j)) shape

pub live_row : (rows : List Row) → IsShaped rows → (k : ℕ) → IsLive rows k → k < length rows
live_row rows shape k live = within rows shape k _ live

-- one node is changed, as the maps show it
pub nodes-with_node : (rows : List Row) → IsShaped rows → (k : ℕ) → IsLive rows k → (n : Node)
    → nodes (with_node rows k n) ≡ insert (nodes rows) (path_of rows k) n
nodes-with_node rows shape k live n =
    let l = live_row rows shape k live in
    let same = node_alike rows k n l in
    nodes_insert (with_node rows k n) (shaped_alike rows _ same shape) (nodes rows) k (path_of rows k)
    (path_alike rows _ same 0 k ∙ live) (λ i q d e.
    node_of_path rows shape i q (sym (path_alike rows _ same 0 i) ∙ e)
    ∙ ap (λ (r : Row). Some r.node) (sym (get_or-set_other rows k i _ blank d)))
    (λ q m e. let s = row_there rows q m e in (s.row, path_alike rows _ same 0 s.row ∙ s.lies))
    ∙ ap (λ (r : Row). insert (nodes rows) (path_of rows k) r.node) (get_or-set_same rows k _ blank l)

pub ids-with_node : (rows : List Row) → IsShaped rows → (k : ℕ) → IsLive rows k → (n : Node)
    → ids (with_node rows k n) ≡ ids rows
ids-with_node rows shape k live n =
    let same = node_alike rows k n (live_row rows shape k live) in
    ids_by (with_node rows k n) rows same.long (path_alike rows _ same 0)
