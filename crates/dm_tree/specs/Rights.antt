-- Whom a tree allows what. Each command is decided by itself, by the nearest node upwards whose access list names it.
use Rattle.std.specs.Prelude.{◌≡◌, ◌≤◌, ℕ, zero, suc, Bool, true, false, if◌then◌else◌, List, [], length, take, Option}
use Rattle.std.specs.Prelude.{Some, None}
use Rattle.std.specs.Option.{option_and_then, option_map_or}
use Rattle.std.specs.FinMap.{get}
use Rattle.dm_acl.specs.declared.values.Right.{Right}
use Rattle.dm_acl.specs.declared.values.Entries.{Entries}
use Rattle.dm_acl.specs.declared.values.Servers.{Servers}
use Rattle.dm_acl.specs.Grammar.{entry_of, has_entry, allowed, allowed_in}
use Rattle.dm_tree.specs.declared.nodes.Node.{Node}
use Rattle.dm_tree.specs.Nodes.{Path, Nodes, is_below}

-- the access list of the node at a path, where it has one
abbrev pub acl_at : Nodes → Path → Option Entries
acl_at m p = option_and_then (λ (n : Node). n.acl) (get m p)

-- that list has an entry for the right
abbrev pub names : Nodes → Path → Right → Bool
names m p right = option_map_or (λ acl. has_entry acl right) (acl_at m p) false

-- the longest of the beginnings of p with up to k names whose access list names the right
abbrev pub effective_upto : Nodes → Path → Right → ℕ → Option Path
effective_upto m p right zero = if names m [] right then Some [] else None
effective_upto m p right (suc k) =
    if names m (take (suc k) p) right then Some (take (suc k) p) else effective_upto m p right k

-- the path whose access list decides on the right at p: the longest beginning of p whose access list names it
abbrev pub effective_path : Nodes → Path → Right → Option Path
effective_path m p right = effective_upto m p right (length p)

-- the entry in force for the right at p
abbrev pub effective : Nodes → Path → Right → Option Servers
effective m p right =
    option_and_then (λ q. option_and_then (λ acl. entry_of acl right) (acl_at m q)) (effective_path m p right)

-- that entry names everybody or the server
abbrev pub allows : Nodes → Path → List ℕ → Right → Bool
allows m p server right = allowed_in (effective m p right) server

-- of the paths that p goes through, p among them, q is the longest whose node's access list names the right
pub record IsNearest (m : Nodes) (p : Path) (right : Right) (q : Path) : Type 0 where
  pub through : is_below q p ≡ true
  pub named : names m q right ≡ true
  pub longest : (r : Path) → is_below r p ≡ true → names m r right ≡ true → length r ≤ length q

-- the nearest access list upwards that names the right has an entry for it that names everybody or the server
pub record Allows (m : Nodes) (p : Path) (server : List ℕ) (right : Right) : Type 0 where
  pub nearest : Path
  pub decides : IsNearest m p right nearest
  pub acl : Entries
  pub there : acl_at m nearest ≡ Some acl
  pub allowed : allowed acl server right ≡ true
