-- The commands of the job that were sent in a session.
use Rattle.std.specs.Prelude.{◌<◌, ◌==◌, ◌&&◌, ◌||◌, ℕ, Bool, nat_lt, List}
use Rattle.std.specs.List.{AllByRecursion}
use Rattle.dm_service.specs.declared.sent.Sent.{Sent}

-- each has a number of the job, from 1
abbrev pub AreCommands : List Sent → Type 0
AreCommands = AllByRecursion (λ (s : Sent). 0 < s.number)

-- in an earlier message, or in the same one with a lower CmdID
abbrev pub is_sent_before : Sent → ℕ → ℕ → Bool
is_sent_before s msg command = nat_lt s.msg msg || (s.msg == msg && nat_lt s.command command)
