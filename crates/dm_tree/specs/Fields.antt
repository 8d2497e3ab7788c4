-- What is set of a node: its value or the bytes of that alone, its access list, its title.
use Rattle.std.specs.Prelude.{◌≡◌, ◌≤◌, ℕ, false, IsSome, List, [], length, IfSome}
use Rattle.dm_base.specs.Limits.{object_limit}
use Rattle.dm_tree.specs.declared.fields.Field.{Field}
use Rattle.dm_tree.specs.declared.fields.Field.TheVariants as field
use Rattle.dm_tree.specs.declared.nodes.Node.{Node}
use Rattle.dm_tree.specs.declared.rows.Row.{Row}
use Rattle.dm_tree.specs.declared.rows.Change.{Change}
use Rattle.dm_tree.specs.declared.rows.Change.TheVariants as change
use Rattle.dm_tree.specs.Nodes.{Path, with_value, with_bytes, with_acl, with_title, IsReadAgain, IsValue}
use Rattle.dm_tree.specs.Rows.{node_of}

-- the node with another field
abbrev pub with_field : Node → Field → Node
with_field node (field.Value value) = with_value node value
with_field node (field.Bytes bytes) = with_bytes node bytes
with_field node (field.Acl acl) = with_acl node acl
with_field node (field.Title title) = with_title node title

-- a field that the node at a path may have: only a leaf's value or bytes are set, and the root keeps an access list
abbrev pub IsField : Node → Path → Field → Type 0
IsField node p (field.Value value) = (node.interior ≡ false) × IsValue false value
IsField node p (field.Bytes bytes) = (node.interior ≡ false) × (length bytes ≤ object_limit)
IsField node p (field.Acl acl) = (p ≡ [] → IsSome acl) × IfSome acl IsReadAgain
IsField node p (field.Title title) = length title ≤ 255

-- what puts back the field that the row k has, with its VerNo and stamp
abbrev pub change_of : List Row → ℕ → Field → Change
change_of rows k (field.Value value) =
    change.Value k (node_of rows k).value (node_of rows k).verno (node_of rows k).stamp
change_of rows k (field.Bytes bytes) =
    change.Bytes k (node_of rows k).value.bytes (node_of rows k).verno (node_of rows k).stamp
change_of rows k (field.Acl acl) = change.Acl k (node_of rows k).acl (node_of rows k).verno (node_of rows k).stamp
change_of rows k (field.Title title) =
    change.Title k (node_of rows k).title (node_of rows k).verno (node_of rows k).stamp
