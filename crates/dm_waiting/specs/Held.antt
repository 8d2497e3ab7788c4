-- The commands of the job that an entry holds in a message, as they are put one behind the other.
use Rattle.std.specs.Prelude.{◌≡◌, ◌==◌, ◌&&◌, ◌||◌, ◌+◌, ◌-◌, ◌<◌, ◌≤◌, ◌^◌, ℕ, zero, suc, Bool, true, false, not}
use Rattle.std.specs.Prelude.{if◌then◌else◌, nat_lt, List, [], ◌∷◌, Option, Some, None}
use Rattle.std.specs.Prelude.{get_or}
use Rattle.syncml_types.specs.declared.command.Command.{Command}
use Rattle.syncml_types.specs.declared.command.Command.TheVariants as command
use Rattle.dm_service.specs.declared.sent.Carried.{Carried}
use Rattle.dm_service.specs.declared.sent.Sent.{Sent}

-- a command's own CmdID
abbrev pub id_in : Command → ℕ
id_in (command.Plain c) = c.id
id_in (command.Alert a) = a.id
id_in (command.Atomic b) = b.id
id_in (command.Sequence b) = b.id
id_in (command.Status s) = s.id
id_in (command.Results r) = r.id

-- that of the command at a place
pub record IsIdAt (body : List Command) (at id : ℕ) : Type 0 where
  pub command : Command
  pub there : command ≡ get_or body at command
  pub is : id ≡ id_in command

-- so many commands in a row; of a part, the first and the last tell no code
abbrev pub row : Bool → Bool → ℕ → ℕ → ℕ → ℕ → List Sent
row part first msg command number zero = []
row part first msg command number (suc n) =
    record { msg = msg; command = command; number = number; counts = not (part && (first || n == 0)) }
    ∷ row part false msg (command + 1) (number + 1) n

-- the command itself, or the container and its last member
abbrev pub ends : Bool → ℕ → ℕ → Carried → List Sent
ends part msg command c =
    record { msg = msg; command = command; number = c.first; counts = not part }
    ∷ (if nat_lt 1 c.count
    then record { msg = msg; command = command + 1; number = c.first + c.count - 1; counts = not part } ∷ [] else [])

abbrev pub held : Bool → ℕ → ℕ → Bool → Option Carried → List Sent
held part msg command begun None = []
held part msg command true (Some c) = ends part msg command c
held part msg command false (Some c) = row part true msg command c.first c.count

-- its numbers are those of a job and of their types, and it is no more than a message holds
pub record IsSmall (c : Carried) : Type 0 where
  pub some : 0 < c.first
  pub count : c.count ≤ 1000
  pub numbers : c.first + c.count < 2 ^ 64

-- it has a number of the job, from 1
abbrev pub IsNumbered : Sent → Type 0
IsNumbered s = 0 < s.number
