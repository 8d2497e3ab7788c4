-- Where steps find what they change.
use Rattle.std.specs.Prelude.{◌≡◌, ℕ, true, false, List, [], ◌∷◌, ◌++◌, Option, None, Some, IfSome, IsSome}
use Rattle.std.specs.Fmt.{decimal}
use Rattle.std.specs.FinMap.{get}
use Rattle.dm_tree.specs.declared.rows.Row.{Row}
use Rattle.dm_tree.specs.Nodes.{Path, IsReadAgain}
use Rattle.dm_tree.specs.Rows.{nodes, ids, node_of, path_of, IsLive}
use Rattle.dm_tree.specs.declared.nodes.Role.TheVariants as role
use Rattle.dm_tree.specs.Devices.{state_node}
use Rattle.dm_tree.specs.Edits.{paths_fit}
use Rattle.dm_commands.specs.declared.adds.Destination.{Destination}
use Rattle.dm_commands.specs.declared.names.Renaming.{Renaming}
use Rattle.dm_commands.specs.declared.props.AclChange.{AclChange}
use Rattle.dm_commands.specs.declared.updates.State.{State}
use Rattle.dm_commands.specs.Updates.{state_in_tree}
use Rattle.dm_commands.specs.Table.{acl_given, beside}

-- a node is there under this number
pub record IsAt (rows : List Row) (p : Path) (id : ℕ) : Type 0 where
  pub live : IsLive rows id
  pub path : path_of rows id ≡ p

-- a node may come there: below an interior one, under a name that is free
pub record IsDestination (rows : List Row) (p : Path) (place : Destination) : Type 0 where
  pub live : IsLive rows place.parent
  pub path : path_of rows place.parent ++ place.name ∷ [] ≡ p
  pub interior : (node_of rows place.parent).interior ≡ true
  pub free : get (nodes rows) p ≡ None

-- what was found of State: a leaf under this number, and its state; or that there is none
pub record IsStateAt (rows : List Row) (found : State) : Type 0 where
  pub live : IsLive rows found.id
  pub path : state_node (nodes rows) ≡ Some (path_of rows found.id)
  pub leaf : (node_of rows found.id).interior ≡ false
  pub role : (node_of rows found.id).role ≡ role.State
  pub state : found.state ≡ state_in_tree (nodes rows)
  pub text : (node_of rows found.id).value.bytes ≡ decimal found.state

abbrev pub IsState : List Row → Option State → Type 0
IsState rows None = state_node (nodes rows) ≡ None
IsState rows (Some state) = IsStateAt rows state

-- a node, and the access list that a text gives it
pub record IsAclChange (rows : List Row) (p : Path) (text : List ℕ) (given : AclChange) : Type 0 where
  pub at : IsAt rows p given.id
  pub node : get (nodes rows) p ≡ Some (node_of rows given.id)
  pub acl : given.acl ≡ acl_given text
  pub again : IfSome given.acl IsReadAgain
  pub root : p ≡ [] → IsSome given.acl

-- a node that may be renamed, and a name for it that no other node beside it has
pub record IsRenaming (rows : List Row) (p : Path) (text : List ℕ) (renaming : Renaming) : Type 0 where
  pub at : IsAt rows p renaming.id
  pub node : get (nodes rows) p ≡ Some (node_of rows renaming.id)
  pub name : renaming.name ≡ text
  pub removable : (node_of rows renaming.id).permanent ≡ false
  pub free : IfSome (get (ids rows) (beside p text)) (λ other. other ≡ renaming.id)
  pub fits : paths_fit (nodes rows) p text ≡ true
