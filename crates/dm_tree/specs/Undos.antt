-- What an Undo does.
use Rattle.std.specs.Prelude.{◌≡◌, ◌<◌, ℕ, true, false, List, [], ◌∷◌, ◌++◌, length, ⊤}
use Rattle.std.specs.FinMap.{insert}
use Rattle.dm_tree.specs.declared.nodes.Node.{Node}
use Rattle.dm_tree.specs.declared.rows.Row.{Row}
use Rattle.dm_tree.specs.declared.rows.Change.{Change}
use Rattle.dm_tree.specs.declared.rows.Change.TheVariants as change
use Rattle.dm_tree.specs.Nodes.{counted, with_value, with_bytes, with_acl, with_title}
use Rattle.dm_tree.specs.Rows.{row_at, node_of, nodes, ids, path_of, IsTree, IsParkedTop, StayLive}
use Rattle.dm_tree.specs.Edits.{with_node, with_name, attached_as, with_row, new_row, IsGrown, IsGivenUp}

-- the row of which it speaks
abbrev pub row_of : Change → ℕ
row_of (change.Value k value verno stamp) = k
row_of (change.Bytes k bytes verno stamp) = k
row_of (change.Acl k acl verno stamp) = k
row_of (change.Title k title verno stamp) = k
row_of (change.Name k name verno stamp) = k
row_of (change.TakeOut k) = k
row_of (change.PutIn k) = k

-- the rows after a flip
abbrev pub flipped : List Row → Change → List Row
flipped rows (change.Value k value verno stamp) =
    with_node rows k (counted (with_value (node_of rows k) value) verno stamp)
flipped rows (change.Bytes k bytes verno stamp) =
    with_node rows k (counted (with_bytes (node_of rows k) bytes) verno stamp)
flipped rows (change.Acl k acl verno stamp) = with_node rows k (counted (with_acl (node_of rows k) acl) verno stamp)
flipped rows (change.Title k title verno stamp) =
    with_node rows k (counted (with_title (node_of rows k) title) verno stamp)
flipped rows (change.Name k name verno stamp) = with_name rows k name (counted (node_of rows k) verno stamp)
flipped rows (change.TakeOut k) = attached_as rows k false
flipped rows (change.PutIn k) = attached_as rows k true

-- what the Undo has become: what stood in the row before the flip
abbrev pub turned : List Row → Change → Change
turned rows (change.Value k value verno stamp) =
    change.Value k (node_of rows k).value (node_of rows k).verno (node_of rows k).stamp
turned rows (change.Bytes k bytes verno stamp) =
    change.Bytes k (node_of rows k).value.bytes (node_of rows k).verno (node_of rows k).stamp
turned rows (change.Acl k acl verno stamp) =
    change.Acl k (node_of rows k).acl (node_of rows k).verno (node_of rows k).stamp
turned rows (change.Title k title verno stamp) =
    change.Title k (node_of rows k).title (node_of rows k).verno (node_of rows k).stamp
turned rows (change.Name k name verno stamp) =
    change.Name k (row_at rows k).name (node_of rows k).verno (node_of rows k).stamp
turned rows (change.TakeOut k) = change.PutIn k
turned rows (change.PutIn k) = change.TakeOut k

-- a subtree that is to be taken out is in, and one that is to be put in is out
abbrev pub IsReadyChange : List Row → Change → Type 0
IsReadyChange rows (change.Value k value verno stamp) = ⊤
IsReadyChange rows (change.Bytes k bytes verno stamp) = ⊤
IsReadyChange rows (change.Acl k acl verno stamp) = ⊤
IsReadyChange rows (change.Title k title verno stamp) = ⊤
IsReadyChange rows (change.Name k name verno stamp) = ⊤
IsReadyChange rows (change.TakeOut k) = (row_at rows k).attached ≡ true
IsReadyChange rows (change.PutIn k) = (row_at rows k).attached ≡ false

-- it may be flipped here: what it speaks of is there, and what it gives is a tree
pub record Fits (rows : List Row) (undo : Change) : Type 0 where
  pub inside : row_of undo < length rows
  pub ready : IsReadyChange rows undo
  pub sound : IsTree (flipped rows undo)

-- the subtree that it holds, where it holds one, is parked
abbrev pub IsHeld : List Row → Change → Type 0
IsHeld rows (change.PutIn k) = IsParkedTop rows k
IsHeld rows (change.TakeOut k) = ⊤
IsHeld rows (change.Value k value verno stamp) = ⊤
IsHeld rows (change.Bytes k bytes verno stamp) = ⊤
IsHeld rows (change.Acl k acl verno stamp) = ⊤
IsHeld rows (change.Title k title verno stamp) = ⊤
IsHeld rows (change.Name k name verno stamp) = ⊤

-- its subtree, where it holds one, is given up
abbrev pub IsDiscarded : Change → List Row → List Row → Type 0
IsDiscarded (change.PutIn k) old new = IsGivenUp old new k
IsDiscarded (change.TakeOut k) old new = new ≡ old
IsDiscarded (change.Value k value verno stamp) old new = new ≡ old
IsDiscarded (change.Bytes k bytes verno stamp) old new = new ≡ old
IsDiscarded (change.Acl k acl verno stamp) old new = new ≡ old
IsDiscarded (change.Title k title verno stamp) old new = new ≡ old
IsDiscarded (change.Name k name verno stamp) old new = new ≡ old

-- an edit's Undo: flipped after the edit, it gives the rows before it
pub record TakesBack (undo : Change) (old new : List Row) : Type 0 where
  pub fits : Fits new undo
  pub rows : flipped new undo ≡ old

-- Undos that may be flipped one after another, the first one first
abbrev pub FitAll : List Row → List Change → Type 0
FitAll rows [] = ⊤
FitAll rows (u ∷ us) = Fits rows u × FitAll (flipped rows u) us

-- the rows after these flips
abbrev pub all_flipped : List Row → List Change → List Row
all_flipped rows [] = rows
all_flipped rows (u ∷ us) = all_flipped (flipped rows u) us

-- an insert's Undo: flipped after it, it gives the tree before it
pub record TakesOut (undo : Change) (id : ℕ) (old new : List Row) : Type 0 where
  pub change : undo ≡ change.TakeOut id
  pub fits : Fits new undo
  pub nodes : nodes (flipped new undo) ≡ nodes old
  pub ids : ids (flipped new undo) ≡ ids old

-- a node has come in below `parent`, under the number id: in both maps, in a row of its own, and with an Undo that
-- takes it out
pub record IsInserted (old new : List Row) (parent : ℕ) (name : List ℕ) (node : Node) (id : ℕ) (back : Change) :
    Type 0 where
  pub nodes : nodes new ≡ insert (nodes old) (path_of old parent ++ name ∷ []) node
  pub ids : ids new ≡ insert (ids old) (path_of old parent ++ name ∷ []) id
  pub stays : StayLive old new
  pub row : new ≡ with_row old id (new_row old parent name node)
  pub grown : IsGrown old new id
  pub undo : TakesOut back id old new
