-- What the lines of a start section make of its tree.
use Rattle.std.specs.Prelude.{◌==◌, ◌&&◌, ◌||◌, ℕ, Bool, true, false, not, if◌then◌else◌, nat_le, List, [], ◌∷◌, ◌++◌}
use Rattle.std.specs.Prelude.{length, codes, Option, Some, None, is_some, Result, Ok, Err}
use Rattle.std.specs.Option.{option_map_or}
use Rattle.std.specs.FinMap.{get, insert, len, empty}
use Rattle.dm_base.specs.Limits.{node_limit, object_limit}
use Rattle.dm_base.specs.declared.lines.LineReason.{LineReason}
use Rattle.dm_base.specs.declared.lines.LineReason.TheVariants as reason
use Rattle.dm_base.specs.Fields.{parts}
use Rattle.syncml_types.specs.Canonical.{is_text}
use Rattle.dm_uri.specs.Names.{is_within_limits}
use Rattle.dm_acl.specs.declared.values.AclError.{AclError}
use Rattle.dm_acl.specs.declared.values.Entries.{Entries}
use Rattle.dm_acl.specs.declared.values.Servers.TheVariants.{Everybody}
use Rattle.dm_acl.specs.Reading.{parse_of as parse_acl}
use Rattle.dm_tree.specs.declared.nodes.NewNode.{NewNode}
use Rattle.dm_tree.specs.declared.nodes.Node.{Node}
use Rattle.dm_tree.specs.declared.nodes.Role.{Role}
use Rattle.dm_tree.specs.declared.nodes.Role.TheVariants as role
use Rattle.dm_tree.specs.declared.nodes.Stamp.{Stamp}
use Rattle.dm_tree.specs.declared.nodes.Value.{Value}
use Rattle.dm_tree.specs.Nodes.{Path, Nodes, above, made, root_node, counted, with_acl, with_mark, with_title}
use Rattle.dm_tree.specs.Devices.{device_path, update_node}
use Rattle.dm_start.specs.declared.heads.DeviceInfo.{DeviceInfo}
use Rattle.dm_start.specs.declared.node_lines.LeafLine.{LeafLine}
use Rattle.dm_fields.specs.Refusing.{or_refused}
use Rattle.dm_start.specs.Fields.{only_path, leaf_in, acl_in, title_in}
use Rattle.dm_fields.specs.Fields.{begins_with}

-- what is said; where nothing is, the fields are refused
abbrev pub or_fields : {X : Type 0} → Option X → Result X LineReason
or_fields None = Err reason.Fields
or_fields (Some x) = Ok x

-- ---- new nodes

abbrev pub value_of : List ℕ → List ℕ → List ℕ → Value
value_of format media bytes = record { format = format; media = media; bytes = bytes }

abbrev pub interior_value : Value
interior_value = value_of (codes "node") [] []

abbrev pub text_value : List ℕ → Value
text_value bytes = value_of (codes "chr") (codes "text/plain") bytes

-- a new node has no access list and no title
abbrev pub new_node : Bool → Value → Bool → Role → NewNode
new_node interior value permanent role =
    record { interior = interior; value = value; acl = None; title = []; permanent = permanent; role = role }

-- the node above is interior, and permanent where the new one is to be
abbrev pub takes_child : Bool → Node → Bool
takes_child permanent node = node.interior && (node.permanent || not permanent)

-- no node stands at p, and the one above takes one there
abbrev pub is_open : Nodes → Path → Bool → Bool
is_open m p permanent = not (is_some (get m p)) && option_map_or (takes_child permanent) (get m (above p)) false

-- a node may come to stand at p: the path is within the limits too, and there is room
abbrev pub may_stand : Nodes → Path → Bool → Bool
may_stand m p permanent = is_open m p permanent && is_within_limits p && not (len m == node_limit)

-- with a new node at p, whose stamp is the clock
abbrev pub with_one : Stamp → Nodes → Path → NewNode → Result Nodes LineReason
with_one clock m p new = if may_stand m p new.permanent then Ok (insert m p (made clock new)) else Err reason.Tree

abbrev pub unless_refused : {X Y : Type 0} → Result X LineReason → (X → Result Y LineReason) → Result Y LineReason
unless_refused (Ok x) next = next x
unless_refused (Err why) next = Err why

-- with new nodes, which come in one after another; where one may not, none does
abbrev pub with_all : Stamp → Nodes → List (Path × NewNode) → Result Nodes LineReason
with_all clock m [] = Ok m
with_all clock m (e ∷ es) = unless_refused (with_one clock m e.0 e.1) (λ n. with_all clock n es)

-- ---- the tree before the first line that tells of it

-- `Add=*&Get=*`
abbrev pub start_acl : Entries
start_acl = record { add = Some Everybody; delete = None; exec = None; get = Some Everybody; replace = None }

abbrev pub new_device_leaf : List ℕ → NewNode
new_device_leaf value = new_node false (text_value value) true role.ReadOnly

-- `./DevInfo`, and what the device tells in it
abbrev pub device_part : DeviceInfo → List (Path × NewNode)
device_part d =
    (codes "DevInfo" ∷ [], new_node true interior_value true role.Plain)
    ∷ (device_path (codes "DevId"), new_device_leaf d.dev_id)
    ∷ (device_path (codes "Man"), new_device_leaf d.man)
    ∷ (device_path (codes "Mod"), new_device_leaf d.model)
    ∷ (device_path (codes "DmV"), new_device_leaf d.dm_v)
    ∷ (device_path (codes "Lang"), new_device_leaf d.lang)
    ∷ []

abbrev pub all_inserted : Stamp → Nodes → List (Path × NewNode) → Nodes
all_inserted clock m [] = m
all_inserted clock m (e ∷ es) = all_inserted clock (insert m e.0 (made clock e.1)) es

abbrev pub bare_tree : Stamp → Nodes
bare_tree clock = insert empty [] (counted (root_node start_acl) 0 clock)

-- the root and the device's information, each node with the clock as its stamp
unfoldable pub start_nodes : Stamp → DeviceInfo → Nodes
start_nodes clock d = all_inserted clock (bare_tree clock) (device_part d)

-- ---- the update part

abbrev pub update_leaf : List ℕ → List ℕ → Role → NewNode
update_leaf format bytes role = new_node false (value_of format (codes "text/plain") bytes) true role

-- the nodes of an update at p, without a package and idle
abbrev pub update_part : Path → List (Path × NewNode)
update_part p =
    (p, new_node true interior_value true role.Plain)
    ∷ (p ++ codes "PkgName" ∷ [], update_leaf (codes "chr") [] role.Plain)
    ∷ (p ++ codes "PkgVersion" ∷ [], update_leaf (codes "chr") [] role.Plain)
    ∷ (p ++ codes "Update" ∷ [], new_node true interior_value true role.UpdateNode)
    ∷ (p ++ codes "Update" ∷ codes "PkgData" ∷ [], update_leaf (codes "bin") [] role.PkgData)
    ∷ (p ++ codes "State" ∷ [], update_leaf (codes "int") (codes "10") role.State)
    ∷ []

-- at most one stands in a tree
abbrev pub with_update : Stamp → Nodes → Path → Result Nodes LineReason
with_update clock m p = if is_some (update_node m) then Err reason.Tree else with_all clock m (update_part p)

-- ---- what is set of a node

abbrev pub changed_at : Nodes → Path → (Node → Node) → Result Nodes LineReason
changed_at m p change = or_refused reason.Tree (get m p) (λ node. Ok (insert m p (change node)))

abbrev pub with_acl_at : Nodes → Path → Result Entries AclError → Result Nodes LineReason
with_acl_at m p (Ok acl) = changed_at m p (λ node. with_acl node (Some acl))
with_acl_at m p (Err e) = Err reason.Tree

-- at most 255 bytes of UTF-8 without byte 00
abbrev pub is_title : List ℕ → Bool
is_title text = nat_le (length text) 255 && is_text text

abbrev pub with_title_at : Nodes → Path → List ℕ → Result Nodes LineReason
with_title_at m p text = if is_title text then changed_at m p (λ node. with_title node text) else Err reason.Tree

-- the root is permanent before any line; every other node may be where the one above is
abbrev pub may_be_permanent : Nodes → Path → Bool
may_be_permanent m p = not (length p == 0) && option_map_or (λ (node : Node). node.permanent) (get m (above p)) false

abbrev pub with_mark_at : Nodes → Path → Result Nodes LineReason
with_mark_at m p = if may_be_permanent m p then changed_at m p with_mark else Err reason.Tree

-- ---- the lines

abbrev pub interior_line : Stamp → Nodes → List (List ℕ) → Result Nodes LineReason
interior_line clock m fields =
    or_refused reason.Fields (only_path fields)
    (λ p. with_one clock m p (new_node true interior_value false role.Plain))

abbrev pub with_leaf : Stamp → Nodes → LeafLine → Result Nodes LineReason
with_leaf clock m leaf =
    if nat_le (length leaf.value.bytes) object_limit
    then with_one clock m leaf.path (new_node false leaf.value false role.Plain)
    else Err reason.Tree

abbrev pub leaf_line : Stamp → Nodes → List (List ℕ) → Result Nodes LineReason
leaf_line clock m fields = or_refused reason.Fields (leaf_in fields) (with_leaf clock m)

abbrev pub acl_line : Nodes → List (List ℕ) → Result Nodes LineReason
acl_line m fields = or_refused reason.Fields (acl_in fields) (λ f. with_acl_at m f.0 (parse_acl f.1))

abbrev pub title_line : Nodes → List (List ℕ) → Result Nodes LineReason
title_line m fields = or_refused reason.Fields (title_in fields) (λ f. with_title_at m f.0 f.1)

abbrev pub permanent_line : Nodes → List (List ℕ) → Result Nodes LineReason
permanent_line m fields = or_refused reason.Fields (only_path fields) (with_mark_at m)

abbrev pub update_line : Stamp → Nodes → List (List ℕ) → Result Nodes LineReason
update_line clock m fields = or_refused reason.Fields (only_path fields) (with_update clock m)

-- the tree after a line that tells of it
unfoldable pub nodes_after : Stamp → Nodes → List ℕ → Result Nodes LineReason
nodes_after clock m line =
    if begins_with (codes "interior") line then interior_line clock m (parts line)
    else if begins_with (codes "leaf") line then leaf_line clock m (parts line)
    else if begins_with (codes "acl") line then acl_line m (parts line)
    else if begins_with (codes "title") line then title_line m (parts line)
    else if begins_with (codes "permanent") line then permanent_line m (parts line)
    else if begins_with (codes "fumo") line then update_line clock m (parts line)
    else Err reason.Word
