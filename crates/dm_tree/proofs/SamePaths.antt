-- A row that isn't attached, and rows that lie at the same paths.
use Rattle.dm_tree.specs.Nodes.{Ids}
use Rattle.dm_tree.proofs.Common.{◌≡◌, ◌≢◌, ℕ, zero, suc, false, cond, nat_eq, List, [], length, Option, None, Some}
use Rattle.dm_tree.proofs.Common.{refl, sym, ◌∙◌, ap, option_map, get, from_entries, same_map, Row, Path, Nodes, row_at}
use Rattle.dm_tree.proofs.Common.{node_of, walk, path_below, ids_below, ids, nodes}
use Rattle.dm_tree.proofs.Paths.{tree_exact, tree_total}
use Rattle.dm_tree.proofs.RowPaths.{not_same}
use Rattle.dm_tree.proofs.RowMaps.{get_nodes, id_is}

-- a row that isn't attached lies below itself alone
pub stuck : (rows : List Row) (d top k : ℕ) → (row_at rows k).attached ≡ false
    → walk rows d top k ≡ cond (nat_eq k top) (Some []) None
stuck rows zero top k out = refl
stuck rows (suc d) top k out = rw out refl

pub no_way : (rows : List Row) (d top k : ℕ) → k ≢ top → (row_at rows k).attached ≡ false → walk rows d top k ≡ None
no_way rows d top k other out = stuck rows d top k out ∙ rw (not_same k top other) refl

-- ---- the maps

pub ids_upto : (a b : List Row) (top : ℕ) → ((j : ℕ) → path_below a top j ≡ path_below b top j) → (n : ℕ)
    → ids_below a top n ≡ ids_below b top n
ids_upto a b top same zero = refl
ids_upto a b top same (suc n) = let here = same n in rw (here, ids_upto a b top same n) refl

-- rows that lie at the same paths have the same numbers there
pub ids_by : (a b : List Row) → length a ≡ length b → ((j : ℕ) → path_below a 0 j ≡ path_below b 0 j) → ids a ≡ ids b
unfolding ids
ids_by a b long same = rw long (ap from_entries (ids_upto a b 0 same (length b)))

-- the nodes at these numbers, where those in the tree are the same
pub nodes_at : (a b : List Row) (q : Path)
    → ((j : ℕ) → path_below b 0 j ≡ Some q → (row_at a j).node ≡ (row_at b j).node)
    → option_map (node_of a) (get (ids b) q) ≡ get (nodes b) q
nodes_at a b q node = by_answer (get (ids b) q) refl ∙ sym (get_nodes b q)
  where
    by_answer : (o : Option ℕ) → get (ids b) q ≡ o
        → option_map (node_of a) (get (ids b) q) ≡ option_map (node_of b) (get (ids b) q)
    by_answer None e = rw e refl
    by_answer (Some j) e = rw e (ap (λ n. Some n) (node j (id_is b q j e).0))

-- the map of the nodes, by that of the numbers
pub nodes_as : (rows : List Row) (m : Ids) (n : Nodes) → ids rows ≡ m
    → ((q : Path) → option_map (node_of rows) (get m q) ≡ get n q) → nodes rows ≡ n
nodes_as rows m n e at = same_map tree_total tree_exact _ _ (λ q.
    get_nodes rows q ∙ ap (λ m. option_map (node_of rows) (get m q)) e ∙ at q)

pub nodes_by : (a b : List Row) → ids a ≡ ids b
    → ((j : ℕ) (q : Path) → path_below b 0 j ≡ Some q → (row_at a j).node ≡ (row_at b j).node) → nodes a ≡ nodes b
nodes_by a b same node = nodes_as a (ids b) (nodes b) same (λ q. nodes_at a b q (λ j. node j q))
