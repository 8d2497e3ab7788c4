-- The parts of a tree that have a role: the device's information and its update.
use Rattle.std.specs.Prelude.{◌≡◌, ◌⊎◌, ◌==◌, ◌≤◌, ◌<◌, ℕ, Bool, true, false, not, IsTrue, List, [], ◌∷◌, ◌++◌}
use Rattle.std.specs.Prelude.{length, map, find, codes, bytes_eq, Option, Some, None, unwrap_or, option_map}
use Rattle.std.specs.Prelude.{option_and_then}
use Rattle.std.specs.Option.{option_map_or}
use Rattle.std.specs.List.{list_any, list_all}
use Rattle.std.specs.Str.{IsUtf8}
use Rattle.std.specs.FinMap.{empty, get, insert, entries}
use Rattle.dm_acl.specs.declared.values.Entries.{Entries}
use Rattle.dm_base.specs.Fields.{is_short}
use Rattle.dm_tree.specs.declared.nodes.Node.{Node}
use Rattle.dm_tree.specs.declared.nodes.Role.{Role}
use Rattle.dm_tree.specs.declared.nodes.Value.{Value}
use Rattle.dm_tree.specs.declared.nodes.Role.TheVariants as role
use Rattle.dm_tree.specs.Nodes.{Path, Nodes, above, first_stamp, root_node}
use Rattle.dm_tree.specs.declared.rows.Row.{Row}
use Rattle.dm_tree.specs.Rows.{node_of}
use Rattle.dm_tree.specs.Order.{children}

-- ---- the update

abbrev pub is_update_node : Role → Bool
is_update_node role.UpdateNode = true
is_update_node role.Plain = false
is_update_node role.ReadOnly = false
is_update_node role.PkgData = false
is_update_node role.State = false

-- the roles told apart
abbrev pub role_number : Role → ℕ
role_number role.Plain = 0
role_number role.ReadOnly = 1
role_number role.UpdateNode = 2
role_number role.PkgData = 3
role_number role.State = 4

abbrev pub is_role : Role → Role → Bool
is_role a b = role_number a == role_number b

-- a role that belongs to the update
abbrev pub is_of_update : Role → Bool
is_of_update role.UpdateNode = true
is_of_update role.PkgData = true
is_of_update role.State = true
is_of_update role.Plain = false
is_of_update role.ReadOnly = false

-- the path of the first node whose role is that of an update node
abbrev pub update_node : Nodes → Option Path
update_node m = option_map (λ e. e.0) (find (λ e. is_update_node e.1.role) (entries m))

-- a row, in the tree or not, has the role of an update node
abbrev pub IsUpdateRow : List Row → ℕ → Type 0
IsUpdateRow rows k = (k < length rows) × (is_update_node (node_of rows k).role ≡ true)

-- none of the rows from one on, up to another, has it
abbrev pub HaveOtherRoles : List Row → ℕ → ℕ → Type 0
HaveOtherRoles rows from to = (k : ℕ) → from ≤ k → k < to → is_update_node (node_of rows k).role ≡ false

-- a node of this role stands at the path
abbrev pub has_role : Nodes → Role → Path → Bool
has_role m r q = option_map_or (λ (n : Node). is_role n.role r) (get m q) false

-- of the children of p, the first of this role
abbrev pub child_of_role : Nodes → Path → Role → Option Path
child_of_role m p r = find (λ q. has_role m r q) (children m p)

-- the path of PkgData, right below the update node
abbrev pub pkg_data : Nodes → Option Path
pkg_data m = option_and_then (λ p. child_of_role m p role.PkgData) (update_node m)

-- the path of State, right beside it
abbrev pub state_node : Nodes → Option Path
state_node m = option_and_then (λ p. child_of_role m (above p) role.State) (update_node m)

-- idle, ready to update, update progressing, update failed, update successful
abbrev pub is_update_state : List ℕ → Bool
is_update_state text = list_any (bytes_eq text) (codes "10" ∷ codes "50" ∷ codes "60" ∷ codes "70" ∷ codes "100" ∷ [])

-- a permanent node of this kind and role stands at the path
pub record IsPermanentAt (m : Nodes) (p : Path) (interior : Bool) (role : Role) (node : Node) : Type 0 where
  pub there : get m p ≡ Some node
  pub kind : node.interior ≡ interior
  pub permanent : node.permanent ≡ true
  pub role_is : node.role ≡ role

-- the update part below p: Update, Update/PkgData and State, and no other node with a role of theirs
pub record HasUpdate (m : Nodes) (p : Path) : Type 0 where
  pub update : Node
  pub data_node : Node
  pub state : Node
  pub update_stands : IsPermanentAt m (p ++ codes "Update" ∷ []) true role.UpdateNode update
  pub data_stands : IsPermanentAt m (p ++ codes "Update" ∷ codes "PkgData" ∷ []) false role.PkgData data_node
  pub state_stands : IsPermanentAt m (p ++ codes "State" ∷ []) false role.State state
  pub state_is : IsTrue (is_update_state state.value.bytes)
  pub alone : (q : Path) (node : Node) → get m q ≡ Some node → is_of_update node.role ≡ true
      → (q ≡ p ++ codes "Update" ∷ [])
      ⊎ ((q ≡ p ++ codes "Update" ∷ codes "PkgData" ∷ []) ⊎ (q ≡ p ++ codes "State" ∷ []))

-- no node has a role of the update
abbrev pub HasNoUpdate : Nodes → Type 0
HasNoUpdate m = (q : Path) (node : Node) → get m q ≡ Some node → is_of_update node.role ≡ false

abbrev pub IsUpdateInOrder : Nodes → Type 0
IsUpdateInOrder m = HasNoUpdate m ⊎ ((p : Path) × HasUpdate m p)

-- ---- the device

-- the five leaves of `./DevInfo`, in the order in which a device tells them
abbrev pub device_leaves : List (List ℕ)
device_leaves = codes "DevId" ∷ codes "Man" ∷ codes "Mod" ∷ codes "DmV" ∷ codes "Lang" ∷ []

abbrev pub device_path : List ℕ → Path
device_path name = codes "DevInfo" ∷ name ∷ []

abbrev pub value_at : Nodes → Path → List ℕ
value_at m p = unwrap_or (option_map (λ (n : Node). n.value.bytes) (get m p)) []

-- what they hold
abbrev pub device_values : Nodes → List (List ℕ)
device_values m = map (λ name. value_at m (device_path name)) device_leaves

-- the device's id, which is the first of these
abbrev pub device_id : Nodes → List ℕ
device_id m = value_at m (device_path (codes "DevId"))

-- such a leaf is permanent and only read, a text of 1 to 64 bytes of 21 to 7E
pub record IsDeviceLeaf (m : Nodes) (name : List ℕ) : Type 0 where
  pub node : Node
  pub stands : IsPermanentAt m (device_path name) false role.ReadOnly node
  pub format : node.value.format ≡ codes "chr"
  pub media : node.value.media ≡ codes "text/plain"
  pub short : IsTrue (is_short node.value.bytes)

-- a text without byte 00
abbrev pub IsText : List ℕ → Type 0
IsText bytes = IsUtf8 bytes × IsTrue (list_all (λ b. not (b == 0)) bytes)

pub record IsDeviceTree (m : Nodes) : Type 0 where
  pub update : IsUpdateInOrder m
  pub texts : (p : Path) (node : Node) → get m p ≡ Some node → IsText node.value.media
  pub dev_id : IsDeviceLeaf m (codes "DevId")
  pub man : IsDeviceLeaf m (codes "Man")
  pub model : IsDeviceLeaf m (codes "Mod")
  pub dm_v : IsDeviceLeaf m (codes "DmV")
  pub lang : IsDeviceLeaf m (codes "Lang")

-- ---- what edits leave of them

-- a node of this role may be given the value: it isn't only read, a state is one of the five, and the Type is a text
pub record MayTake (r : Role) (value : Value) : Type 0 where
  pub written : r ≡ role.ReadOnly → ⊥
  pub state : r ≡ role.State → IsTrue (is_update_state value.bytes)
  pub media : IsText value.media

-- a node has become another one, which is of the same kind and for the same, and permanent where that was; its value is
-- the same or one that it may be given
pub record StaysAlike (old new : Node) : Type 0 where
  pub interior : new.interior ≡ old.interior
  pub permanent : old.permanent ≡ true → new.permanent ≡ true
  pub role : new.role ≡ old.role
  pub value : (new.value ≡ old.value) ⊎ MayTake old.role new.value

-- a node has become another one that serves the update alike: it is of the same kind and for the same, permanent where
-- that was, and if it is State, its value is the same or one of the five states
pub record StaysForUpdate (old new : Node) : Type 0 where
  pub interior : new.interior ≡ old.interior
  pub permanent : old.permanent ≡ true → new.permanent ≡ true
  pub state : old.role ≡ role.State → (new.value ≡ old.value) ⊎ IsTrue (is_update_state new.value.bytes)
  pub role : new.role ≡ old.role

-- a tree has become another one, with the update part at the same place
pub record KeepsUpdate (old new : Nodes) : Type 0 where
  pub in_order : IsUpdateInOrder old → IsUpdateInOrder new
  pub update : (p : Path) → HasUpdate old p → HasUpdate new p
  pub no_update : HasNoUpdate old → HasNoUpdate new

-- a tree of a device has become another one, with the same values, and the update part at the same place
pub record KeepsDevice (old new : Nodes) : Type 0 where
  pub tree : IsDeviceTree new
  pub values : device_values new ≡ device_values old
  pub id : device_id new ≡ device_id old
  pub update : (p : Path) → HasUpdate old p → HasUpdate new p
  pub no_update : HasNoUpdate old → HasNoUpdate new

-- ---- a tree of a device

-- `./DevInfo`
abbrev pub device_node : Node
device_node = record {
  interior = true;
  value = record { format = codes "node"; media = []; bytes = [] };
  acl = None;
  title = [];
  verno = 0;
  stamp = first_stamp;
  permanent = true;
  role = role.Plain;
}

abbrev pub device_leaf : List ℕ → Node
device_leaf value = record {
  interior = false;
  value = record { format = codes "chr"; media = codes "text/plain"; bytes = value };
  acl = None;
  title = [];
  verno = 0;
  stamp = first_stamp;
  permanent = true;
  role = role.ReadOnly;
}

-- the root, and what the device tells of itself
abbrev pub bare_device : Entries → List ℕ → List ℕ → List ℕ → List ℕ → List ℕ → Nodes
bare_device acl dev_id man model dm_v lang =
    insert (insert (insert (insert (insert (insert (insert empty [] (root_node acl)) (codes "DevInfo" ∷ []) device_node)
    (device_path (codes "DevId")) (device_leaf dev_id))
    (device_path (codes "Man")) (device_leaf man))
    (device_path (codes "Mod")) (device_leaf model))
    (device_path (codes "DmV")) (device_leaf dm_v))
    (device_path (codes "Lang")) (device_leaf lang)
