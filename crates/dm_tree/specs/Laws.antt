-- Laws over the definitions alone.
use Rattle.std.specs.Prelude.{◌≡◌, ◌⊎◌, ◌↔◌, ℕ, true, false, IsTrue, IsSome, List, [], ◌∷◌, ◌++◌, codes, Some, None}
use Rattle.std.specs.FinMap.{get, insert}
use Rattle.dm_base.specs.Fields.{is_short}
use Rattle.dm_acl.specs.declared.values.Right.{Right}
use Rattle.dm_acl.specs.declared.values.Entries.{Entries}
use Rattle.dm_tree.specs.declared.nodes.Node.{Node}
use Rattle.dm_tree.specs.Nodes.{Path, Nodes, above, is_below, IsWellFormed}
use Rattle.dm_tree.specs.Edits.{pruned, renamed}
use Rattle.dm_tree.specs.Devices.{is_of_update, update_node, pkg_data, state_node, HasUpdate, IsText, IsDeviceTree}
use Rattle.dm_tree.specs.Devices.{StaysAlike, StaysForUpdate, KeepsDevice, KeepsUpdate, bare_device}
use Rattle.dm_tree.specs.Order.{behind, below}
use Rattle.dm_tree.specs.Rights.{names, effective_path, allows, IsNearest, Allows}

-- a subtree begins with its top
abbrev pub SubtreeBegins : Type 0
SubtreeBegins = (m : Nodes) (top : Path) → IsSome (get m top) → below m top ≡ top ∷ behind m top top false

-- each path is below itself
abbrev pub TopIsBelow : Type 0
TopIsBelow = (p : Path) → IsTrue (is_below p p)

-- ---- rights

-- a right is decided by the nearest access list upwards that names it
abbrev pub NearestDecides : Type 0
NearestDecides = (m : Nodes) (p : Path) (right : Right) (q : Path)
    → (effective_path m p right ≡ Some q) ↔ IsNearest m p right q

-- and by none exactly where none upwards names it
abbrev pub NoneDecides : Type 0
NoneDecides = (m : Nodes) (p : Path) (right : Right)
    → (effective_path m p right ≡ None) ↔ ((q : Path) → is_below q p ≡ true → names m q right ≡ false)

-- a server may do what that list's entry for the right allows it
abbrev pub NearestAllows : Type 0
NearestAllows = (m : Nodes) (p : Path) (server : List ℕ) (right : Right)
    → (allows m p server right ≡ true) ↔ Allows m p server right

-- ---- the update part

-- a node that stays alike keeps it
abbrev pub ChangedKeepsUpdate : Type 0
ChangedKeepsUpdate =
    (m : Nodes) (p : Path) (old new : Node) → get m p ≡ Some old → StaysForUpdate old new
    → KeepsUpdate m (insert m p new)

-- a node that comes in does, if it isn't of the update
abbrev pub AddedKeepsUpdate : Type 0
AddedKeepsUpdate =
    (m : Nodes) (p : Path) (new : Node) → get m p ≡ None → is_of_update new.role ≡ false
    → KeepsUpdate m (insert m p new)

-- to take out a node that isn't permanent does
abbrev pub PrunedKeepsUpdate : Type 0
PrunedKeepsUpdate = (m : Nodes) (p : Path) (node : Node) → IsWellFormed m → get m p ≡ Some node → node.permanent ≡ false
    → KeepsUpdate m (pruned m p)

-- to give another name to a node that isn't permanent does, where no other node has the name
abbrev pub RenamedKeepsUpdate : Type 0
RenamedKeepsUpdate = (m : Nodes) (p : Path) (name : List ℕ) (old new : Node) → IsWellFormed m → get m p ≡ Some old
    → old.permanent ≡ false → (get m (above p ++ name ∷ []) ≡ None) ⊎ (above p ++ name ∷ [] ≡ p) → new.role ≡ old.role
    → KeepsUpdate m (insert (renamed m p name) (above p ++ name ∷ []) new)

-- ---- the parts of a device's tree

-- a node that stays alike keeps them
abbrev pub ChangedKeepsDevice : Type 0
ChangedKeepsDevice = (m : Nodes) (p : Path) (old new : Node) → IsDeviceTree m → get m p ≡ Some old → StaysAlike old new
    → KeepsDevice m (insert m p new)

-- a node that comes in does, if it isn't of the update and its Type is a text
abbrev pub AddedKeepsDevice : Type 0
AddedKeepsDevice = (m : Nodes) (p : Path) (new : Node) → IsDeviceTree m → get m p ≡ None → is_of_update new.role ≡ false
    → IsText new.value.media → KeepsDevice m (insert m p new)

-- to take out a node that isn't permanent does
abbrev pub PrunedKeepsDevice : Type 0
PrunedKeepsDevice = (m : Nodes) (p : Path) (node : Node) → IsWellFormed m → IsDeviceTree m → get m p ≡ Some node
    → node.permanent ≡ false → KeepsDevice m (pruned m p)

-- to give another name to a node that isn't permanent does, where no other node has the name
abbrev pub RenamedKeepsDevice : Type 0
RenamedKeepsDevice =
    (m : Nodes) (p : Path) (name : List ℕ) (old new : Node) → IsWellFormed m → IsDeviceTree m → get m p ≡ Some old
    → old.permanent ≡ false → (get m (above p ++ name ∷ []) ≡ None) ⊎ (above p ++ name ∷ [] ≡ p) → StaysAlike old new
    → KeepsDevice m (insert (renamed m p name) (above p ++ name ∷ []) new)

-- a tree with the root and the five values is one
abbrev pub BareDeviceIsDevice : Type 0
BareDeviceIsDevice =
    (acl : Entries) (dev_id man model dm_v lang : List ℕ) → IsTrue (is_short dev_id) → IsTrue (is_short man)
    → IsTrue (is_short model) → IsTrue (is_short dm_v) → IsTrue (is_short lang)
    → IsDeviceTree (bare_device acl dev_id man model dm_v lang)

-- ---- where the update part is

-- what the calls find is what stands at the places of the update part
abbrev pub UpdateIsFound : Type 0
UpdateIsFound = (m : Nodes) (p : Path) → HasUpdate m p → (update_node m ≡ Some (p ++ codes "Update" ∷ []))
    × (pkg_data m ≡ Some (p ++ codes "Update" ∷ codes "PkgData" ∷ [])) × (state_node m ≡ Some (p ++ codes "State" ∷ []))
