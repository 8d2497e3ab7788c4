-- Laws over the definitions alone.
use Rattle.std.specs.Prelude.{◌≡◌, ◌≤◌, ◌<◌, ◌⊎◌, ℕ, false, IsTrue, List, [], ◌∷◌, length, bytes_eq, IfSome, Ok, ⊤}
use Rattle.std.specs.List.{AllByRecursion}
use Rattle.dm_base.specs.Fields.{is_id, is_short}
use Rattle.dm_auth.specs.declared.accounts.Account.{Account}
use Rattle.dm_tree.specs.Devices.{IsDeviceTree}
use Rattle.dm_start.specs.declared.telling.Phase.TheVariants as phase
use Rattle.dm_fields.specs.Fields.{are_limits, IsAccount}
use Rattle.dm_start.specs.Start.{Setup, telling, section_of_lines}

-- no two accounts are of one server
abbrev pub AreApart : List Account → Type 0
AreApart [] = ⊤
AreApart (a ∷ others) = AllByRecursion (λ (b : Account). bytes_eq a.server b.server ≡ false) others × AreApart others

-- what a client may begin with
pub record IsStart (told : Setup) : Type 0 where
  pub version : (told.version ≡ 1) ⊎ (told.version ≡ 2)
  pub limits : IsTrue (are_limits told.limits.max_msg told.limits.max_obj)
  pub some : 0 < length told.accounts
  pub few : length told.accounts ≤ 16
  pub accounts : AllByRecursion IsAccount told.accounts
  pub apart : AreApart told.accounts
  pub device : IsDeviceTree told.nodes

-- whatever the lines of a whole section are, it tells such a start
abbrev pub StartsAreSound : Type 0
StartsAreSound =
    (lines : List (List ℕ)) (told : Setup) → section_of_lines lines ≡ Ok (telling phase.Begun told) → IsStart told
