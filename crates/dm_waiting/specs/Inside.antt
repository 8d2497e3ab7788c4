-- What a waiting list's fields stand for.
use Rattle.std.specs.Prelude.{◌≡◌, ◌≤◌, ◌+◌, ℕ, zero, suc, Bool, true, List, [], ◌∷◌, ◌++◌, take, drop, length, ⊤}
use Rattle.std.specs.Prelude.{IfSome}
use Rattle.dm_base.specs.Limits.{message_limit}
use Rattle.syncml_types.specs.declared.command.Command.{Command}
use Rattle.syncml_types.specs.Canonical.{canonical}
use Rattle.dm_pack.specs.declared.filled.Filled.{Filled}
use Rattle.dm_pack.specs.Entries.{Entry}
use Rattle.dm_pack.specs.Filling.{numbered, commands_of, next_part, CanBeTaken}
use Rattle.dm_service.specs.Service.{Waiting}
use Rattle.dm_service.specs.Packages.{is_of_job}
use Rattle.dm_waiting.specs.declared.loads.Load.{Load}
use Rattle.dm_waiting.specs.Held.{IsSmall}

-- entries, and what each carries
abbrev pub list_of : List Entry → List Load → List Waiting
list_of [] ls = []
list_of (e ∷ es) [] = []
list_of (e ∷ es) (l ∷ ls) = record { entry = e; carries = l.carries } ∷ list_of es ls

-- as many loads as entries, each of which tells whether its entry is begun
abbrev pub AreBeside : List Entry → List Load → Type 0
AreBeside [] [] = ⊤
AreBeside [] (l ∷ ls) = ⊥
AreBeside (e ∷ es) [] = ⊥
AreBeside (e ∷ es) (l ∷ ls) = (l.begun ≡ e.begun) × IfSome l.carries IsSmall × AreBeside es ls

-- the first one is begun, where bytes of it went out
abbrev pub first_begun : ℕ → List Load → List Load
first_begun zero ls = ls
first_begun (suc n) [] = []
first_begun (suc n) (l ∷ ls) = record l { begun = true } ∷ ls

-- a message of entries: as many whole ones from the front as it tells, and a part of the next one
pub record IsMessageOf (es : List Entry) (f : Filled) : Type 0 where
  pub behind : List Command
  pub body :
      f.message.body
      ≡ numbered 1 (commands_of (take f.whole es) ++ (next_part f.cut (drop f.whole es) ++ behind))
  pub taken : CanBeTaken es f.whole f.cut
  pub short : length (canonical f.message) ≤ message_limit

-- whether the entry at a place is of the job
pub record TellsAt (at : ℕ) (ws : List Waiting) (told : Bool) : Type 0 where
  pub entry : Waiting
  pub behind : drop at ws ≡ entry ∷ drop (at + 1) ws
  pub is : is_of_job entry ≡ told
