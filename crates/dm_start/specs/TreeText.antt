-- The tree text: one line for each node, parents first, siblings by their bytes, each node's subtree before its next
-- sibling.
use Rattle.std.specs.Prelude.{◌≡◌, ◌==◌, ◌<◌, ℕ, Bool, if◌then◌else◌, List, [], ◌∷◌, ◌++◌, codes, length, take}
use Rattle.std.specs.Prelude.{Option, Result, Ok, Err}
use Rattle.std.specs.List.{flat_map}
use Rattle.std.specs.Option.{option_map_or}
use Rattle.std.specs.Fmt.{decimal}
use Rattle.std.specs.FinMap.{get, keys}
use Rattle.std.specs.Io.KnownBytes.{Appends}
use Rattle.dm_base.specs.declared.outside.Fault.{Fault}
use Rattle.dm_base.specs.Fields.{hex_text}
use Rattle.dm_base.specs.Lines.{line_feed}
use Rattle.dm_uri.specs.Names.{printed_path}
use Rattle.dm_acl.specs.declared.values.Entries.{Entries}
use Rattle.dm_acl.specs.Grammar.{printed}
use Rattle.dm_tree.specs.declared.nodes.Node.{Node}
use Rattle.dm_tree.specs.declared.nodes.Stamp.{Stamp}
use Rattle.dm_tree.specs.Nodes.{Path, Nodes}

abbrev pub spaced : List ℕ → List ℕ
spaced text = 32 ∷ text

-- in version 2 the stamp stands behind VerNo
abbrev pub stamp_text : ℕ → Stamp → List ℕ
stamp_text version stamp = if version == 2 then spaced stamp.bytes else []

abbrev pub mark_text : Bool → List ℕ
mark_text permanent = if permanent then codes "p" else codes "-"

-- the node's own access list, or `-`
abbrev pub acl_text : Option Entries → List ℕ
acl_text acl = option_map_or printed acl (codes "-")

-- VERNO PERM ACL TITLE
abbrev pub common_text : ℕ → Node → List ℕ
common_text version node =
    spaced (decimal node.verno) ++ stamp_text version node.stamp ++ spaced (mark_text node.permanent)
    ++ spaced (acl_text node.acl) ++ spaced (hex_text node.title)

-- TYPE, or FORMAT TYPE
abbrev pub type_text : Node → List ℕ
type_text node =
    if node.interior then spaced (hex_text node.value.media)
    else spaced node.value.format ++ spaced (hex_text node.value.media)

-- the VALUE of a leaf
abbrev pub bytes_text : Node → List ℕ
bytes_text node = if node.interior then [] else spaced (hex_text node.value.bytes)

abbrev pub kind_text : Bool → List ℕ
kind_text interior = if interior then codes "node " else codes "leaf "

-- the line of a node as far as a leaf's value
abbrev pub line_front : ℕ → Path → Node → List ℕ
line_front version p node =
    kind_text node.interior ++ printed_path p ++ common_text version node ++ type_text node

unfoldable pub node_line : ℕ → Path → Node → List ℕ
node_line version p node = line_front version p node ++ bytes_text node ++ line_feed

-- the line of the node at p
abbrev pub line_at : ℕ → Nodes → Path → List ℕ
line_at version m p = option_map_or (node_line version p) (get m p) []

unfoldable pub tree_text : ℕ → Nodes → List ℕ
tree_text version m = flat_map (line_at version m) (keys m)

-- a front of what waits was put, and the rest waits on; or a proper prefix of it was put
abbrev pub PutsOn : Option (List ℕ) → Option (List ℕ) → List ℕ → List ℕ → Result (Unit {0}) Fault → Type 0
PutsOn old new text rest (Ok u) = (done : List ℕ) × Appends old new done × (text ≡ done ++ rest)
PutsOn old new text rest (Err e) = (n : ℕ) × (n < length text) × Appends old new (take n text)
