-- A dialer, a door and an updater in memory, which tell all that they hold.
use Rattle.std.specs.Prelude.{◌+◌, ℕ, Bool, List, Option, Some}
use Rattle.dm_outside.specs.declared.told.Update.{Update}
use Rattle.dm_outside.specs.Streams.{StreamState}
use Rattle.dm_outside.specs.Calls.{Closed, Calls}
use Rattle.dm_outside.specs.Doors.{Doorway}

-- what a stream comes to that is given back
abbrev pub closed_stream : StreamState → Closed
closed_stream s = record { faults = s.takes + s.puts; got = Some s.got; left = Some s.left }

-- a dialer: what it tells, and how many faults there were
pub record DialerState : Type 0 where
  pub calls : Calls
  pub faults : ℕ

-- a door: what it tells, and how many faults there were
pub record DoorState : Type 0 where
  pub doorway : Doorway
  pub faults : ℕ

-- an updater: the answers to come, the packages that it was given, and how many faults there were
pub record UpdaterState : Type 0 where
  pub to_come : List (Option Bool)
  pub given : List Update
  pub faults : ℕ
