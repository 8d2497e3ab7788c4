-- Which answers a fault of the source, the sink, the dialer or the door may cause. Every other answer leaves the count of
-- faults, but for the dialer's.
use Rattle.std.specs.Prelude.{◌≡◌, ◌≤◌, ℕ}
use Rattle.dm_base.specs.Outside.{Rose}
use Rattle.dm_exit.specs.declared.exit.Exit.{Exit}
use Rattle.dm_exit.specs.declared.exit.Exit.TheVariants as exit

-- a read fault comes only where the source's count rose
abbrev pub SourceCause : ℕ → ℕ → Exit → Type 0
SourceCause before now exit.ReadFault = Rose before now
SourceCause before now other = now ≡ before

-- a write fault comes only where the sink's count rose
abbrev pub SinkCause : ℕ → ℕ → Exit → Type 0
SinkCause before now exit.WriteFault = Rose before now
SinkCause before now other = now ≡ before

-- a run gives up only where the dialer's count rose; an exchange that was lost alone may raise it too
abbrev pub DialerCause : ℕ → ℕ → Exit → Type 0
DialerCause before now exit.GaveUp = Rose before now
DialerCause before now other = before ≤ now

-- a fault of the door comes only where its count rose
abbrev pub DoorCause : ℕ → ℕ → Exit → Type 0
DoorCause before now exit.DoorFault = Rose before now
DoorCause before now other = now ≡ before
