-- What a node may hold, and the tree as a map from paths to nodes.
use Rattle.std.specs.Prelude.{◌≡◌, ◌≤◌, ◌<◌, ◌+◌, ◌%◌, ◌^◌, ℕ, Bool, true, IsTrue, IsSome, List, [], ◌∷◌, ◌++◌, length}
use Rattle.std.specs.Prelude.{codes, bytes_eq, get_or, Option, Some, None, IfSome, Ok}
use Rattle.std.specs.List.{list_any}
use Rattle.std.specs.Ordering.{nat_cmp, eq_by_cmp}
use Rattle.std.specs.Cmp.Lexicographic.{slice_cmp}
use Rattle.std.specs.FinMap.{FinMap, get, len}
use Rattle.std.specs.Prelude.{take}
use Rattle.std.specs.declared.cmp.Ordering.{Ordering}
use Rattle.dm_base.specs.Limits.{node_limit, object_limit}
use Rattle.dm_acl.specs.declared.values.Entries.{Entries}
use Rattle.dm_acl.specs.Grammar.{printed}
use Rattle.dm_acl.specs.Reading.{parse_of}
use Rattle.dm_uri.specs.Names.{IsPath, is_within_limits}
use Rattle.dm_tree.specs.declared.nodes.Node.{Node}
use Rattle.dm_tree.specs.declared.nodes.NewNode.{NewNode}
use Rattle.dm_tree.specs.declared.nodes.Role.TheVariants.{Plain}
use Rattle.dm_tree.specs.declared.nodes.Stamp.{Stamp}
use Rattle.dm_tree.specs.declared.nodes.Value.{Value}

-- ---- one node

-- the eight Formats
abbrev pub formats : List (List ℕ)
formats =
    codes "b64" ∷ codes "bin" ∷ codes "bool" ∷ codes "chr" ∷ codes "int" ∷ codes "node" ∷ codes "null" ∷ codes "xml"
    ∷ []

abbrev pub is_format : List ℕ → Bool
is_format text = list_any (bytes_eq text) formats

abbrev pub is_node_format : List ℕ → Bool
is_node_format text = bytes_eq text (codes "node")

-- one of the eight Formats, `node` exactly at an interior node, which has no bytes; a Type of at most 255 bytes, and at
-- most 4,194,304 bytes
pub record IsValue (interior : Bool) (value : Value) : Type 0 where
  pub format : IsTrue (is_format value.format)
  pub kind : is_node_format value.format ≡ interior
  pub empty : interior ≡ true → value.bytes ≡ []
  pub media : length value.media ≤ 255
  pub short : length value.bytes ≤ object_limit

-- an access list that is read again from its text, which so has at most 4,096 bytes
abbrev pub IsReadAgain : Entries → Type 0
IsReadAgain acl = parse_of (printed acl) ≡ Ok acl

-- sixteen bytes
pub record IsStamp (stamp : Stamp) : Type 0 where
  pub long : length stamp.bytes ≡ 16
  pub bytes : (k : ℕ) → k < 16 → get_or stamp.bytes k 0 < 256

-- what a node may hold, wherever it stands
pub record IsNode (node : Node) : Type 0 where
  pub value : IsValue node.interior node.value
  pub acl : IfSome node.acl IsReadAgain
  pub title : length node.title ≤ 255
  pub verno : node.verno < 2 ^ 16
  pub stamp : IsStamp node.stamp

-- what a node may be made of
pub record IsNewNode (new : NewNode) : Type 0 where
  pub value : IsValue new.interior new.value
  pub acl : IfSome new.acl IsReadAgain
  pub title : length new.title ≤ 255

-- the node that an insert makes at a clock
abbrev pub made : Stamp → NewNode → Node
made clock new = record {
  interior = new.interior;
  value = new.value;
  acl = new.acl;
  title = new.title;
  verno = 0;
  stamp = clock;
  permanent = new.permanent;
  role = new.role;
}

-- `00000000T000000Z`, the clock of a new tree
abbrev pub first_stamp : Stamp
first_stamp = record { bytes = codes "00000000T000000Z" }

-- the root of a new tree
abbrev pub root_node : Entries → Node
root_node acl = record {
  interior = true;
  value = record { format = codes "node"; media = []; bytes = [] };
  acl = Some acl;
  title = [];
  verno = 0;
  stamp = first_stamp;
  permanent = true;
  role = Plain;
}

-- changed once more: VerNo is one more, modulo 65,536, and the stamp is the clock
abbrev pub changed : Stamp → Node → Node
changed clock node = record node { verno = (node.verno + 1) % 2 ^ 16; stamp = clock }

-- with another VerNo and stamp
abbrev pub counted : Node → ℕ → Stamp → Node
counted node verno stamp = record node { verno = verno; stamp = stamp }

abbrev pub with_mark : Node → Node
with_mark node = record node { permanent = true }

abbrev pub with_value : Node → Value → Node
with_value node value = record node { value = value }

-- with other bytes: its Format and its Type stay
abbrev pub with_bytes : Node → List ℕ → Node
with_bytes node bytes = record node { value = record node.value { bytes = bytes } }

abbrev pub with_acl : Node → Option Entries → Node
with_acl node acl = record node { acl = acl }

abbrev pub with_title : Node → List ℕ → Node
with_title node title = record node { title = title }

-- ---- the map

abbrev pub Path : Type 0
Path = List (List ℕ)

-- names by their bytes, and a path before those below it: the order of the tree text
abbrev pub tree_order : Path → Path → Ordering
tree_order = slice_cmp (slice_cmp nat_cmp)

-- the tree: a map from paths to nodes, and beside it the numbers of these nodes
abbrev pub Nodes : Type 0
Nodes = FinMap tree_order Node

abbrev pub Ids : Type 0
Ids = FinMap tree_order ℕ

-- the path one name up; the root's is the root
abbrev pub above : Path → Path
above [] = []
above (n ∷ []) = []
above (n ∷ m ∷ ns) = n ∷ above (m ∷ ns)

-- the last name; the root has none
abbrev pub last_name : Path → Option (List ℕ)
last_name [] = None
last_name (n ∷ []) = Some n
last_name (n ∷ m ∷ ns) = last_name (m ∷ ns)

-- the path p begins the path q, or is q
abbrev pub is_below : Path → Path → Bool
is_below p q = eq_by_cmp tree_order (take (length p) q) p

-- the root is interior and permanent, has an access list and the empty Type, and is for nothing else
pub record IsRoot (node : Node) : Type 0 where
  pub interior : node.interior ≡ true
  pub permanent : node.permanent ≡ true
  pub acl : IsSome node.acl
  pub media : node.value.media ≡ []
  pub role : node.role ≡ Plain

-- a node that may stand below another
pub record IsChildOf (child parent : Node) : Type 0 where
  pub interior : parent.interior ≡ true
  pub permanent : child.permanent ≡ true → parent.permanent ≡ true

-- what holds of every tree
pub record IsWellFormed (nodes : Nodes) : Type 0 where
  pub root : (node : Node) × (get nodes [] ≡ Some node) × IsRoot node
  pub parents : (p : Path) (name : List ℕ) (child : Node) → get nodes (p ++ name ∷ []) ≡ Some child
      → (parent : Node) × (get nodes p ≡ Some parent) × IsChildOf child parent
  pub each : (p : Path) (node : Node) → get nodes p ≡ Some node → IsNode node
  pub paths : (p : Path) (node : Node) → get nodes p ≡ Some node → IsPath p × IsTrue (is_within_limits p)
  pub few : len nodes ≤ node_limit
