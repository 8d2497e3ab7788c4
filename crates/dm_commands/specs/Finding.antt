-- What a Get finds.
use Rattle.std.specs.Prelude.{◌||◌, ◌&&◌, ℕ, Bool, true, false, not, if◌then◌else◌, List, [], ◌∷◌, length, map, filter}
use Rattle.std.specs.Prelude.{codes, unwrap_or, Option, Some, None}
use Rattle.std.specs.List.{list_all}
use Rattle.std.specs.Option.{option_map_or}
use Rattle.std.specs.Fmt.{decimal}
use Rattle.dm_uri.specs.declared.uri.Prop.{Prop}
use Rattle.dm_uri.specs.declared.uri.Prop.TheVariants as prop
use Rattle.dm_uri.specs.declared.uri.Query.{Query}
use Rattle.dm_uri.specs.declared.uri.Query.TheVariants as query
use Rattle.dm_uri.specs.declared.uri.Uri.{Uri}
use Rattle.dm_uri.specs.Names.{joined, printed_path}
use Rattle.dm_uri.specs.Grammar.{printed}
use Rattle.dm_acl.specs.declared.values.Right.TheVariants.{Get}
use Rattle.dm_acl.specs.Grammar.{printed as printed_acl}
use Rattle.dm_tree.specs.declared.nodes.Node.{Node}
use Rattle.dm_tree.specs.Nodes.{Path, Nodes, last_name, is_below}
use Rattle.dm_tree.specs.Rights.{allows}
use Rattle.dm_tree.specs.Order.{below, child_names}
use Rattle.dm_commands.specs.declared.outcome.Found.{Found}
use Rattle.dm_commands.specs.Outcomes.{Setting, node_at}

-- ---- a node

-- a node's Format, which is `node` at an interior one, and a leaf's Type
abbrev pub found_node : List ℕ → Node → Option (List ℕ) → Found
found_node uri node value = record {
  uri = uri;
  format = node.value.format;
  media = if node.interior then None else Some node.value.media;
  value = value;
}

-- the bytes of a leaf, and of an interior node the names of its children, whoever asks
abbrev pub node_value : Nodes → Path → List ℕ
node_value m p = if (node_at m p).interior then joined (child_names m p) else (node_at m p).value.bytes

-- ---- a property

-- Size and VerNo are numbers
abbrev pub prop_format : Prop → List ℕ
prop_format prop.Size = codes "int"
prop_format prop.VerNo = codes "int"
prop_format prop.Acl = codes "chr"
prop_format prop.Format = codes "chr"
prop_format prop.Name = codes "chr"
prop_format prop.Media = codes "chr"
prop_format prop.Title = codes "chr"
prop_format prop.TStamp = codes "chr"

-- a node's own access list, or the empty text; the name of the root is `.`
abbrev pub prop_value : Path → Node → Prop → List ℕ
prop_value p node prop.Acl = option_map_or printed_acl node.acl []
prop_value p node prop.Format = node.value.format
prop_value p node prop.Name = unwrap_or (last_name p) (codes ".")
prop_value p node prop.Size = decimal (length node.value.bytes)
prop_value p node prop.Media = node.value.media
prop_value p node prop.Title = node.title
prop_value p node prop.VerNo = decimal node.verno
prop_value p node prop.TStamp = node.stamp.bytes

abbrev pub prop_found : List ℕ → Path → Node → Prop → Found
prop_found uri p node q = record { uri = uri; format = prop_format q; media = None; value = Some (prop_value p node q) }

-- ---- a list

-- every node from the top down to q may be read: a node that may not is left out with all that stands below it
abbrev pub is_shown : Setting → Nodes → Path → Path → Bool
is_shown s m top q = list_all (λ p. allows m p s.caller Get || not (is_below p q)) (below m top)

-- the nodes that a list shows, in the order of the tree text
abbrev pub shown_below : Setting → Nodes → Path → List Path
shown_below s m top = filter (is_shown s m top) (below m top)

-- with values, those of leaves
abbrev pub listed_value : Bool → Node → Option (List ℕ)
listed_value with_values node = if with_values && not node.interior then Some node.value.bytes else None

abbrev pub listed : Nodes → Bool → Path → Found
listed m with_values p = found_node (printed_path p) (node_at m p) (listed_value with_values (node_at m p))

-- ---- by the query

abbrev pub found_by : Setting → Nodes → Uri → Query → List Found
found_by s m uri query.Plain = found_node (printed uri) (node_at m uri.path) (Some (node_value m uri.path)) ∷ []
found_by s m uri (query.Prop q) = prop_found (printed uri) uri.path (node_at m uri.path) q ∷ []
found_by s m uri query.Struct = map (listed m false) (shown_below s m uri.path)
found_by s m uri query.StructData = map (listed m true) (shown_below s m uri.path)
