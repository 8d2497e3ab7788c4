-- What the rows stand for: the tree, and the subtrees that were taken out of it.
use Rattle.std.specs.Prelude.{◌≡◌, ◌≤◌, ◌<◌, ◌^◌, ℕ, zero, suc, true, false, cond, nat_eq, IsTrue, List, [], ◌∷◌, ◌++◌}
use Rattle.std.specs.Prelude.{length, Option, Some, None, get_or, unwrap_or}
use Rattle.std.specs.Option.{option_map}
use Rattle.std.specs.FinMap.{from_entries, len}
use Rattle.dm_base.specs.Limits.{node_limit}
use Rattle.dm_uri.specs.Names.{is_name, is_within_limits}
use Rattle.dm_tree.specs.declared.nodes.Node.{Node}
use Rattle.dm_tree.specs.declared.nodes.Role.TheVariants.{Plain}
use Rattle.dm_tree.specs.declared.nodes.Stamp.{Stamp}
use Rattle.dm_tree.specs.declared.rows.Row.{Row}
use Rattle.dm_tree.specs.Nodes.{Path, Nodes, Ids, IsNode, IsRoot, IsChildOf}

-- the value of a tree: its rows, each under its number, and the clock
pub record Tree : Type 0 where
  pub rows : List Row
  pub clock : Stamp

-- what stands where no row is
abbrev pub blank_node : Node
blank_node = record {
  interior = false;
  value = record { format = []; media = []; bytes = [] };
  acl = None;
  title = [];
  verno = 0;
  stamp = record { bytes = [] };
  permanent = false;
  role = Plain;
}

abbrev pub blank : Row
blank = record { parent = 0; depth = 0; attached = false; given_up = false; name = []; node = blank_node }

abbrev pub row_at : List Row → ℕ → Row
row_at rows k = get_or rows k blank

abbrev pub node_of : List Row → ℕ → Node
node_of rows k = (row_at rows k).node

-- ---- where a row lies

-- the path from the row `top` down to the row k, found by going up from k; none where k doesn't lie below `top`
abbrev pub walk : List Row → ℕ → ℕ → ℕ → Option Path
walk rows zero top k = cond (nat_eq k top) (Some []) None
walk rows (suc d) top k =
    cond (nat_eq k top) (Some [])
    (cond (row_at rows k).attached
    (option_map (λ p. p ++ (row_at rows k).name ∷ []) (walk rows d top (row_at rows k).parent)) None)

-- the depth says how far up the topmost row can be
abbrev pub path_below : List Row → ℕ → ℕ → Option Path
path_below rows top k = walk rows (row_at rows k).depth top k

-- the path from the root, which is row 0
abbrev pub path_of : List Row → ℕ → Path
path_of rows k = unwrap_or (path_below rows 0 k) []

-- a node of the tree has this number
abbrev pub IsLive : List Row → ℕ → Type 0
IsLive rows k = path_below rows 0 k ≡ Some (path_of rows k)

-- each node of the tree is still there, under its number and at its path
abbrev pub StayLive : List Row → List Row → Type 0
StayLive old new = (k : ℕ) → IsLive old k → IsLive new k × (path_of new k ≡ path_of old k)

-- the top of a subtree that was taken out, and that its Undo holds
pub record IsParkedTop (rows : List Row) (top : ℕ) : Type 0 where
  pub below_root : 0 < top
  pub inside : top < length rows
  pub out : (row_at rows top).attached ≡ false
  pub held : (row_at rows top).given_up ≡ false

-- no subtree was taken out that an Undo still holds
abbrev pub IsNoneParked : List Row → Type 0
IsNoneParked rows = (k : ℕ) → IsParkedTop rows k → ⊥

-- a node of such a subtree has this number
abbrev pub IsParked : List Row → ℕ → Type 0
IsParked rows k = (top : ℕ) × IsParkedTop rows top × (p : Path) × (path_below rows top k ≡ Some p)

-- a number that a new node may get
abbrev pub IsFree : List Row → ℕ → Type 0
IsFree rows k = (IsLive rows k → ⊥) × (IsParked rows k → ⊥)

-- ---- the tree as a map from paths to nodes, and the numbers at its paths

abbrev pub placed : Option Path → ℕ → List (Path × ℕ) → List (Path × ℕ)
placed None k es = es
placed (Some p) k es = (p, k) ∷ es

-- the rows before the n-th that lie below `top`, with their paths
abbrev pub ids_below : List Row → ℕ → ℕ → List (Path × ℕ)
ids_below rows top zero = []
ids_below rows top (suc n) = placed (path_below rows top n) n (ids_below rows top n)

abbrev pub nodes_at_paths : List Row → List (Path × ℕ) → List (Path × Node)
nodes_at_paths rows [] = []
nodes_at_paths rows (e ∷ es) = (e.0, (row_at rows e.1).node) ∷ nodes_at_paths rows es

unfoldable pub nodes : List Row → Nodes
nodes rows = from_entries (nodes_at_paths rows (ids_below rows 0 (length rows)))

unfoldable pub ids : List Row → Ids
ids rows = from_entries (ids_below rows 0 (length rows))

-- ---- what holds of the rows of every tree

-- each row that is attached lies one deeper than its parent; no two rows that are attached have one parent and one name
pub record IsShaped (rows : List Row) : Type 0 where
  pub rooted : 0 < length rows
  pub few : length rows < 2 ^ 32
  pub at_root : (row_at rows 0).depth ≡ 0
  pub fixed : (row_at rows 0).attached ≡ false
  pub inside : (k : ℕ) → k < length rows → (row_at rows k).parent < length rows
  pub falls : (k : ℕ) → (row_at rows k).attached ≡ true
      → (row_at rows k).depth ≡ suc (row_at rows (row_at rows k).parent).depth
  pub shallow : (k : ℕ) → (row_at rows k).depth ≤ 16
  pub no_twins : (i j : ℕ) → (row_at rows i).attached ≡ true → (row_at rows j).attached ≡ true
      → (row_at rows i).parent ≡ (row_at rows j).parent → (row_at rows i).name ≡ (row_at rows j).name → i ≡ j

-- what a row keeps to by itself
pub record IsRow (row : Row) : Type 0 where
  pub name : IsTrue (is_name row.name)
  pub node : IsNode row.node
  pub attached : row.attached ≡ true → row.given_up ≡ false

-- shape, rows and limits, also of what is parked: a flip puts it back as it is
pub record IsTree (rows : List Row) : Type 0 where
  pub shape : IsShaped rows
  pub each : (k : ℕ) → k < length rows → IsRow (row_at rows k)
  pub root : IsRoot (node_of rows 0)
  pub children : (k : ℕ) → (row_at rows k).attached ≡ true
      → IsChildOf (node_of rows k) (node_of rows (row_at rows k).parent)
  pub within : (k : ℕ) → IsLive rows k → IsTrue (is_within_limits (path_of rows k))
  pub size : len (nodes rows) ≤ node_limit
