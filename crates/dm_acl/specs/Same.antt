-- Whether two access lists are one.
use Rattle.std.specs.Prelude.{◌&&◌, ℕ, Bool, true, false, List, [], ◌∷◌, bytes_eq, Option, Some, None}
use Rattle.dm_acl.specs.declared.values.Servers.{Servers}
use Rattle.dm_acl.specs.declared.values.Servers.TheVariants.{Everybody, Named}
use Rattle.dm_acl.specs.declared.values.Entries.{Entries}

abbrev pub same_names : List (List ℕ) → List (List ℕ) → Bool
same_names [] [] = true
same_names [] (y ∷ ys) = false
same_names (x ∷ xs) [] = false
same_names (x ∷ xs) (y ∷ ys) = bytes_eq x y && same_names xs ys

abbrev pub same_servers : Servers → Servers → Bool
same_servers Everybody Everybody = true
same_servers Everybody (Named ys) = false
same_servers (Named xs) Everybody = false
same_servers (Named xs) (Named ys) = same_names xs ys

abbrev pub same_entry : Option Servers → Option Servers → Bool
same_entry None None = true
same_entry None (Some y) = false
same_entry (Some x) None = false
same_entry (Some x) (Some y) = same_servers x y

abbrev pub same_entries : Entries → Entries → Bool
same_entries a b =
    same_entry a.add b.add && same_entry a.delete b.delete && same_entry a.exec b.exec
    && same_entry a.get b.get && same_entry a.replace b.replace
