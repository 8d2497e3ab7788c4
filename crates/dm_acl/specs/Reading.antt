-- How a text is read: the value that it means, or the place of the first entry that is bad or names a command again.
use Rattle.std.specs.Prelude.{◌≡◌, ◌==◌, ◌+◌, ℕ, Bool, true, false, if◌then◌else◌, nat_lt, nat_eq, List, [], ◌∷◌}
use Rattle.std.specs.Prelude.{length, drop, codes, bytes_eq, Option, Some, None, is_some, Result, Ok, Err, IsOk, ⊤}
use Rattle.std.specs.List.{list_all, slice_split, starts_with}
use Rattle.dm_acl.specs.declared.values.Right.{Right}
use Rattle.dm_acl.specs.declared.values.Right.TheVariants as right
use Rattle.dm_acl.specs.declared.values.AclError.{AclError}
use Rattle.dm_acl.specs.declared.values.AclError.TheVariants as error
use Rattle.dm_acl.specs.declared.values.Servers.{Servers}
use Rattle.dm_acl.specs.declared.values.Servers.TheVariants.{Everybody, Named}
use Rattle.dm_acl.specs.declared.values.AclEntry.{AclEntry}
use Rattle.dm_acl.specs.declared.values.Entries.{Entries}
use Rattle.dm_acl.specs.Grammar.{is_server_name, head_of, unrepeated, entry_of, with_entry, no_entries}

-- what stands between the `+` of a list, and between the `&` of a text
abbrev pub names_in : List ℕ → List (List ℕ)
names_in list = slice_split (λ b. b == 43) list

abbrev pub parts_in : List ℕ → List (List ℕ)
parts_in text = slice_split (λ b. b == 38) text

-- the servers of names, where each is good
abbrev pub named : Bool → List (List ℕ) → Option Servers
named true names = Some (Named (unrepeated names))
named false names = None

-- whom a list allows
abbrev pub servers_in : List ℕ → Option Servers
servers_in [] = Some (Named [])
servers_in (b ∷ bs) =
    if bytes_eq (b ∷ bs) (codes "*") then Some Everybody
    else named (list_all is_server_name (names_in (b ∷ bs))) (names_in (b ∷ bs))

abbrev pub begins_entry : List ℕ → Right → Bool
begins_entry part right = starts_with nat_eq part (head_of right)

-- the command with which a part begins
abbrev pub right_in : List ℕ → Option Right
right_in part =
    if begins_entry part right.Add then Some right.Add
    else if begins_entry part right.Delete then Some right.Delete
    else if begins_entry part right.Exec then Some right.Exec
    else if begins_entry part right.Get then Some right.Get
    else if begins_entry part right.Replace then Some right.Replace
    else None

abbrev pub entry_with : Right → Option Servers → Option AclEntry
entry_with right None = None
entry_with right (Some servers) = Some (record { right = right; servers = servers })

abbrev pub entry_behind : List ℕ → Option Right → Option AclEntry
entry_behind part None = None
entry_behind part (Some right) = entry_with right (servers_in (drop (length (head_of right)) part))

-- the entry that a part of a text is
abbrev pub entry_in : List ℕ → Option AclEntry
entry_in part = entry_behind part (right_in part)

-- entries with one more, where their command has none yet
abbrev pub put_new : Bool → Entries → ℕ → AclEntry → Result Entries AclError
put_new true acl at e = Err (error.Malformed at)
put_new false acl at e = Ok (with_entry acl e)

abbrev pub put_entry : Entries → ℕ → Option AclEntry → Result Entries AclError
put_entry acl at None = Err (error.Malformed at)
put_entry acl at (Some e) = put_new (is_some (entry_of acl e.right)) acl at e

-- the entries after a part that begins at a place
unfoldable pub after_part : Entries → ℕ → List ℕ → Result Entries AclError
after_part acl at part = put_entry acl at (entry_in part)

abbrev pub go_on : {A B : Type 0} → Result A AclError → (A → Result B AclError) → Result B AclError
go_on (Ok x) f = f x
go_on (Err e) f = Err e

-- the entries after all parts, of which the first begins at a place
abbrev pub after_parts : Entries → ℕ → List (List ℕ) → Result Entries AclError
after_parts acl at [] = Ok acl
after_parts acl at (part ∷ parts) =
    go_on (after_part acl at part) (λ next. after_parts next (at + (length part + 1)) parts)

unfoldable pub parse_of : List ℕ → Result Entries AclError
parse_of text =
    if nat_lt 4096 (length text) then Err (error.Malformed 4096) else after_parts no_entries 0 (parts_in text)

-- an answer is the one that is wanted; want of memory comes only in place of a value
abbrev pub Answers : {T : Type 0} → Result T AclError → Result T AclError → Type 0
Answers (Ok x) wanted = wanted ≡ Ok x
Answers (Err (error.Malformed at)) wanted = wanted ≡ Err (error.Malformed at)
Answers (Err error.Memory) wanted = IsOk wanted

-- a call leaves the value that is wanted in its place, or answers the fault, or wants memory
abbrev pub Leaves : Result (Unit {0}) AclError → Entries → Result Entries AclError → Type 0
Leaves (Ok u) acl wanted = wanted ≡ Ok acl
Leaves (Err (error.Malformed at)) acl wanted = wanted ≡ Err (error.Malformed at)
Leaves (Err error.Memory) acl wanted = ⊤
