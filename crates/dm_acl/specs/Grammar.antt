-- The grammar of access lists: what is written, and what it means.
use Rattle.std.specs.Prelude.{◌≡◌, ◌⊎◌, ◌≤◌, ◌<◌, ◌&&◌, ℕ, Bool, true, false, not, if◌then◌else◌, nat_lt, nat_le, List}
use Rattle.std.specs.Prelude.{[], ◌∷◌, ◌++◌, length, map, codes, bytes_eq, Option, Some, None, is_some, ⊤}
use Rattle.std.specs.List.{AllByRecursion, list_all, list_any, join_with_byte}
use Rattle.dm_base.specs.Fields.{is_visible, is_acl_sign}
use Rattle.dm_acl.specs.declared.values.Right.{Right}
use Rattle.dm_acl.specs.declared.values.Right.TheVariants as right
use Rattle.dm_acl.specs.declared.values.Servers.{Servers}
use Rattle.dm_acl.specs.declared.values.Servers.TheVariants.{Everybody, Named}
use Rattle.dm_acl.specs.declared.values.AclEntry.{AclEntry}
use Rattle.dm_acl.specs.declared.values.Entries.{Entries}

-- ---- what is written

-- a byte of a server's name: 21 to 7E other than `&`, `+`, `=` and `*`
abbrev pub is_name_byte : ℕ → Bool
is_name_byte b = is_visible b && not (is_acl_sign b)

-- a server's name: 1 to 64 such bytes
abbrev pub is_server_name : List ℕ → Bool
is_server_name name = nat_lt 0 (length name) && nat_le (length name) 64 && list_all is_name_byte name

-- everybody, or servers each with a name
abbrev pub IsServers : Servers → Type 0
IsServers Everybody = ⊤
IsServers (Named names) = list_all is_server_name names ≡ true

abbrev pub IsEntry : AclEntry → Type 0
IsEntry e = IsServers e.servers

-- one of the entries is of this command
abbrev pub Names : List AclEntry → Right → Type 0
Names [] right = ⊥
Names (e ∷ es) right = (e.right ≡ right) ⊎ Names es right

-- no two entries are of one command
abbrev pub AreOnce : List AclEntry → Type 0
AreOnce [] = ⊤
AreOnce (e ∷ es) = (Names es e.right → ⊥) × AreOnce es

-- `*`, or names with `+` (byte 43) between them, or nothing
abbrev pub servers_text : Servers → List ℕ
servers_text Everybody = codes "*"
servers_text (Named names) = join_with_byte 43 names

abbrev pub head_of : Right → List ℕ
head_of right.Add = codes "Add="
head_of right.Delete = codes "Delete="
head_of right.Exec = codes "Exec="
head_of right.Get = codes "Get="
head_of right.Replace = codes "Replace="

-- a command, `=`, and whom it is allowed to
abbrev pub entry_text : AclEntry → List ℕ
entry_text e = head_of e.right ++ servers_text e.servers

-- entries with `&` (byte 38) between them
abbrev pub entries_text : List AclEntry → List ℕ
entries_text es = join_with_byte 38 (map entry_text es)

-- a text of these entries: one or more, each command at most once, and at most 4,096 bytes
pub record IsTextOf (es : List AclEntry) (text : List ℕ) : Type 0 where
  pub some : 0 < length es
  pub good : AllByRecursion IsEntry es
  pub once : AreOnce es
  pub written : text ≡ entries_text es
  pub short : length text ≤ 4096

-- ---- what it means: for each command its entry, or none

abbrev pub no_entries : Entries
no_entries = record { add = None; delete = None; exec = None; get = None; replace = None }

abbrev pub entry_of : Entries → Right → Option Servers
entry_of acl right.Add = acl.add
entry_of acl right.Delete = acl.delete
entry_of acl right.Exec = acl.exec
entry_of acl right.Get = acl.get
entry_of acl right.Replace = acl.replace

abbrev pub with_servers : Entries → Right → Servers → Entries
with_servers acl right.Add s = record acl { add = Some s }
with_servers acl right.Delete s = record acl { delete = Some s }
with_servers acl right.Exec s = record acl { exec = Some s }
with_servers acl right.Get s = record acl { get = Some s }
with_servers acl right.Replace s = record acl { replace = Some s }

abbrev pub with_entry : Entries → AclEntry → Entries
with_entry acl e = with_servers acl e.right e.servers

-- names with one more at the end, where it isn't among them
abbrev pub name_added : List (List ℕ) → List ℕ → List (List ℕ)
name_added names name = if list_any (λ other. bytes_eq other name) names then names else names ++ name ∷ []

abbrev pub with_names : List (List ℕ) → List (List ℕ) → List (List ℕ)
with_names names [] = names
with_names names (more ∷ mores) = with_names (name_added names more) mores

-- names without repeats after the first
abbrev pub unrepeated : List (List ℕ) → List (List ℕ)
unrepeated names = with_names [] names

abbrev pub meant : Servers → Servers
meant Everybody = Everybody
meant (Named names) = Named (unrepeated names)

abbrev pub meant_entry : AclEntry → AclEntry
meant_entry e = record { right = e.right; servers = meant e.servers }

abbrev pub with_entries : Entries → List AclEntry → Entries
with_entries acl [] = acl
with_entries acl (e ∷ es) = with_entries (with_entry acl (meant_entry e)) es

-- what entries mean
abbrev pub meaning : List AclEntry → Entries
meaning es = with_entries no_entries es

-- ---- what is allowed

-- everybody is allowed, or the server's name is among the names
abbrev pub allowed_by : Servers → List ℕ → Bool
allowed_by Everybody server = true
allowed_by (Named names) server = list_any (λ name. bytes_eq name server) names

abbrev pub allowed_in : Option Servers → List ℕ → Bool
allowed_in None server = false
allowed_in (Some s) server = allowed_by s server

-- the list's own entry for the command allows it to the server
abbrev pub allowed : Entries → List ℕ → Right → Bool
allowed acl server right = allowed_in (entry_of acl right) server

-- the list has an entry for the command
abbrev pub has_entry : Entries → Right → Bool
has_entry acl right = is_some (entry_of acl right)

-- ---- the one written form

abbrev pub entry_for : Right → Option Servers → List AclEntry
entry_for right None = []
entry_for right (Some s) = record { right = right; servers = s } ∷ []

-- the entries, in the order of the commands
abbrev pub entries_in : Entries → List AclEntry
entries_in acl =
    entry_for right.Add acl.add ++ entry_for right.Delete acl.delete ++ entry_for right.Exec acl.exec
    ++ entry_for right.Get acl.get ++ entry_for right.Replace acl.replace

unfoldable pub printed : Entries → List ℕ
printed acl = entries_text (entries_in acl)

-- ---- the access lists that texts mean

-- good names, and none of them twice
abbrev pub AreMeant : Option Servers → Type 0
AreMeant None = ⊤
AreMeant (Some s) = IsServers s × (meant s ≡ s)

-- an entry for some command, and good entries
pub record IsAcl (acl : Entries) : Type 0 where
  pub some : (right : Right) × (has_entry acl right ≡ true)
  pub good : (right : Right) → AreMeant (entry_of acl right)
