-- What edits do.
use Rattle.std.specs.Prelude.{◌≡◌, ◌≤◌, ℕ, suc, Bool, true, false, not, nat_le, nat_lt, if◌then◌else◌, List, [], ◌∷◌}
use Rattle.std.specs.Prelude.{◌++◌, length, map, drop, set, Some, None}
use Rattle.std.specs.List.{list_all}
use Rattle.std.specs.FinMap.{FinMap, from_entries, entries, keys, retain_keys}
use Rattle.dm_uri.specs.Names.{printed_path}
use Rattle.dm_tree.specs.declared.nodes.Node.{Node}
use Rattle.dm_tree.specs.declared.rows.Row.{Row}
use Rattle.dm_tree.specs.Nodes.{Path, Nodes, tree_order, above, is_below}
use Rattle.dm_tree.specs.Rows.{row_at, node_of, path_below, path_of, IsLive, IsParked, IsFree}

-- ---- one row

-- the rows with another node in a row
abbrev pub with_node : List Row → ℕ → Node → List Row
with_node rows k node = set rows k (record (row_at rows k) { node = node })

-- the rows with another name and node in a row
abbrev pub with_name : List Row → ℕ → List ℕ → Node → List Row
with_name rows k name node = set rows k (record (row_at rows k) { name = name; node = node })

-- the rows with a row put in, or taken out
abbrev pub attached_as : List Row → ℕ → Bool → List Row
attached_as rows k b = set rows k (record (row_at rows k) { attached = b })

-- a new row below the row k
abbrev pub new_row : List Row → ℕ → List ℕ → Node → Row
new_row rows k name node =
    record {
      parent = k;
      depth = suc (row_at rows k).depth;
      attached = true;
      given_up = false;
      name = name;
      node = node;
    }

-- ---- a new node

-- the rows with a row under a number: in place of the one there, or behind the last
abbrev pub with_row : List Row → ℕ → Row → List Row
with_row rows k r = if nat_lt k (length rows) then set rows k r else rows ++ r ∷ []

-- a row has come in under a free number; the rows that are live or parked are as they were
pub record IsGrown (old new : List Row) (id : ℕ) : Type 0 where
  pub free : IsFree old id
  pub longer : length old ≤ length new
  pub live : (k : ℕ) → IsLive old k → row_at new k ≡ row_at old k
  pub parked : (k : ℕ) → IsParked old k → row_at new k ≡ row_at old k

-- ---- the maps after an edit

-- a map without the paths at and below p
abbrev pub pruned : {X : Type 0} → FinMap tree_order X → Path → FinMap tree_order X
pruned m p = retain_keys m (λ q. not (is_below p q))

-- the path q, once the node at p bears the name; the root bears none
abbrev pub rekeyed : Path → List ℕ → Path → Path
rekeyed [] name q = q
rekeyed (n ∷ ns) name q =
    if is_below (n ∷ ns) q then (above (n ∷ ns) ++ name ∷ []) ++ drop (length (n ∷ ns)) q else q

-- a map whose paths at and below p go through the new name
abbrev pub renamed : {X : Type 0} → FinMap tree_order X → Path → List ℕ → FinMap tree_order X
renamed m p name = from_entries (map (λ e. (rekeyed p name e.0, e.1)) (entries m))

-- each node of the tree is still there, under its number; those at and below p are now below the new name
pub record StayRenamed (old new : List Row) (p : Path) (name : List ℕ) : Type 0 where
  pub live : (k : ℕ) → IsLive old k → IsLive new k
  pub path : (k : ℕ) → IsLive old k → path_of new k ≡ rekeyed p name (path_of old k)

-- every path then has at most 255 bytes in print
abbrev pub paths_fit : Nodes → Path → List ℕ → Bool
paths_fit m p name = list_all (λ q. nat_le (length (printed_path (rekeyed p name q))) 255) (keys m)

-- ---- what nobody holds any more

-- without bytes, Type, access list and title
abbrev pub emptied : Node → Node
emptied node = record node { value = record node.value { media = []; bytes = [] }; acl = None; title = [] }

-- the rows with a top that is given up, without bytes, Type, access list and title
abbrev pub without_content : List Row → ℕ → List Row
without_content rows k = set rows k (record (row_at rows k) { given_up = true; node = emptied (node_of rows k) })

-- what lay below `top` is free; the other rows that are live or parked are as they were
pub record IsGivenUp (old new : List Row) (top : ℕ) : Type 0 where
  pub gone : (k : ℕ) (p : Path) → path_below old top k ≡ Some p → IsFree new k
  pub live : (k : ℕ) → IsLive old k → row_at new k ≡ row_at old k
  pub parked : (k : ℕ) → IsParked old k → path_below old top k ≡ None → row_at new k ≡ row_at old k
