-- What the fields of a rule's line say.
use Rattle.std.specs.Prelude.{◌≡◌, ◌==◌, ⊤, Result, Ok, Err, ◌&&◌, ◌-◌, ℕ, Bool, true, false, not, if◌then◌else◌}
use Rattle.std.specs.Prelude.{nat_le, List, [], ◌∷◌, ◌++◌, length, take}
use Rattle.std.specs.Prelude.{drop, bytes_eq, codes, Option, Some, None, option_map, option_and_then}
use Rattle.std.specs.List.{list_any, slice_split}
use Rattle.dm_base.specs.declared.bytes.Memory.{Memory}
use Rattle.dm_base.specs.Fields.{num_of}
use Rattle.dm_uri.specs.Names.{is_name}
use Rattle.dm_acl.specs.declared.values.Right.{Right}
use Rattle.dm_acl.specs.declared.values.Right.TheVariants as right
use Rattle.dm_tree.specs.Nodes.{is_format, is_node_format}
use Rattle.dm_ddf.specs.declared.rules.Access.{Access}
use Rattle.dm_ddf.specs.declared.rules.Occurs.{Occurs}
use Rattle.dm_ddf.specs.declared.rules.Occurs.TheVariants as occurs
use Rattle.dm_ddf.specs.declared.rules.RuleLine.{RuleLine}
use Rattle.dm_ddf.specs.Rules.{no_access}

-- what stands between the `+` (byte 43) of a field
abbrev pub plus_members : List ℕ → List (List ℕ)
plus_members text = slice_split (λ b. b == 43) text

-- DEPTH, 1 to 16, is one more than the number of rules above
abbrev pub level_of : ℕ → Option ℕ
level_of n = if nat_le 1 n && nat_le n 16 then Some (n - 1) else None

abbrev pub level_in : List ℕ → Option ℕ
level_in text = option_and_then level_of (num_of text)

-- SCOPE
abbrev pub scope_in : List ℕ → Option Bool
scope_in text =
    if bytes_eq text (codes "perm") then Some true else if bytes_eq text (codes "dyn") then Some false else None

-- ---- ACCESS

abbrev pub command_in : List ℕ → Option Right
command_in text =
    if bytes_eq text (codes "Add") then Some right.Add
    else if bytes_eq text (codes "Delete") then Some right.Delete
    else if bytes_eq text (codes "Exec") then Some right.Exec
    else if bytes_eq text (codes "Get") then Some right.Get
    else if bytes_eq text (codes "Replace") then Some right.Replace
    else None

abbrev pub has_access : Access → Right → Bool
has_access access right.Add = access.add
has_access access right.Delete = access.delete
has_access access right.Exec = access.exec
has_access access right.Get = access.get
has_access access right.Replace = access.replace

abbrev pub with_access : Access → Right → Access
with_access access right.Add = record access { add = true }
with_access access right.Delete = record access { delete = true }
with_access access right.Exec = record access { exec = true }
with_access access right.Get = record access { get = true }
with_access access right.Replace = record access { replace = true }

-- one command more, which wasn't among those before
abbrev pub with_command : Access → Right → Option Access
with_command access command = if has_access access command then None else Some (with_access access command)

abbrev pub with_commands : Access → List (List ℕ) → Option Access
with_commands access [] = Some access
with_commands access (text ∷ texts) =
    option_and_then (λ more. with_commands more texts) (option_and_then (with_command access) (command_in text))

-- `-`, or commands joined by `+`, each once
abbrev pub access_in : List ℕ → Option Access
access_in text = if bytes_eq text (codes "-") then Some no_access else with_commands no_access (plus_members text)

-- ---- FORMATS

abbrev pub has_format : List (List ℕ) → List ℕ → Bool
has_format formats text = list_any (λ f. bytes_eq f text) formats

-- one Format of leaves more, which wasn't among those before
abbrev pub with_format : List (List ℕ) → List ℕ → Option (List (List ℕ))
with_format formats text =
    if is_format text && not (is_node_format text) && not (has_format formats text) then Some (formats ++ text ∷
    []) else None

abbrev pub with_formats : List (List ℕ) → List (List ℕ) → Option (List (List ℕ))
with_formats formats [] = Some formats
with_formats formats (text ∷ texts) = option_and_then (λ more. with_formats more texts) (with_format formats text)

-- the Formats are these; or nothing is said, and they are given up
abbrev pub Pushes : Option (List (List ℕ)) → List (List ℕ) → Result Bool Memory → Type 0
Pushes wanted new (Ok true) = wanted ≡ Some new
Pushes wanted new (Ok false) = wanted ≡ None
Pushes wanted new (Err e) = ⊤

-- `node`, or Formats of leaves joined by `+`, each once
abbrev pub formats_in : List ℕ → Option (List (List ℕ))
formats_in text = if bytes_eq text (codes "node") then Some (text ∷ []) else with_formats [] (plus_members text)

-- ---- OCCURS

-- what stands behind a word in front
abbrev pub behind_word : List ℕ → List ℕ → Option (List ℕ)
behind_word word text =
    if bytes_eq (take (length word) text) word then Some (drop (length word) text) else None

-- 1 to 65,535
abbrev pub most_of : ℕ → Option ℕ
most_of n = if nat_le 1 n && nat_le n 65535 then Some n else None

abbrev pub most_in : List ℕ → Option ℕ
most_in text = option_and_then most_of (num_of text)

abbrev pub occurs_by_number : Option (List ℕ) → Option (List ℕ) → Option Occurs
occurs_by_number (Some text) other = option_map occurs.ZeroOrN (most_in text)
occurs_by_number None (Some text) = option_map occurs.OneOrN (most_in text)
occurs_by_number None None = None

abbrev pub occurs_in : List ℕ → Option Occurs
occurs_in text =
    if bytes_eq text (codes "One") then Some occurs.One
    else if bytes_eq text (codes "ZeroOrOne") then Some occurs.ZeroOrOne
    else if bytes_eq text (codes "ZeroOrMore") then Some occurs.ZeroOrMore
    else if bytes_eq text (codes "OneOrMore") then Some occurs.OneOrMore
    else occurs_by_number (behind_word (codes "ZeroOrN:") text) (behind_word (codes "OneOrN:") text)

-- ---- the whole line

-- NAME is a name of a URI, as `*` is
abbrev pub name_in : List ℕ → Option (List ℕ)
name_in text = if is_name text then Some text else None

abbrev pub rule_of : Option (List ℕ) → Option ℕ → Option Bool → Option Access → Option (List (List ℕ)) → Option Occurs
    → Option RuleLine
rule_of (Some name) (Some level) (Some permanent) (Some access) (Some formats) (Some occurs) = Some (record {
  level = level;
  name = name;
  permanent = permanent;
  access = access;
  formats = formats;
  occurs = occurs;
})
rule_of name level permanent access formats occurs = None

-- `rule DEPTH NAME SCOPE ACCESS FORMATS OCCURS`
abbrev pub rule_in : List (List ℕ) → Option RuleLine
rule_in (word ∷ depth ∷ name ∷ scope ∷ access ∷ formats ∷ occurs ∷ []) =
    rule_of (name_in name) (level_in depth) (scope_in scope) (access_in access) (formats_in formats) (occurs_in occurs)
rule_in other = None
