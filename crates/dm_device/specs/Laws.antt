-- What holds of every run of `device`, whatever the replies are.
use Rattle.std.specs.Prelude.{◌≡◌, ◌≤◌, ◌+◌, ℕ, List, length}
use Rattle.dm_device.specs.declared.exchanging.ReplyHeard.{ReplyHeard}
use Rattle.dm_device.specs.Sessions.{Going, IsWithinLimits, at_first, session, tally_measure}
use Rattle.dm_device.specs.Runs.{Route, Heards, device_run}

-- a session makes at most 500,000 requests
abbrev pub SessionsAreBounded : Type 0
SessionsAreBounded =
    (address path : List ℕ) (g : Going) (hs : List ReplyHeard) → IsWithinLimits g.tally
    → length (session address path g hs).requests + tally_measure g.tally ≤ 500000

-- and a run at most 1,000,001
abbrev pub RunsAreBounded : Type 0
RunsAreBounded =
    (r : Route) (account number : ℕ) (g : Going) (h : Heards) → g.tally ≡ at_first
    → length (device_run r account number g h).requests ≤ 1000001
