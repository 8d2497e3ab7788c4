use Rattle.std.proofs.Common.{◌≡◌, ◌-◌, ◌≤◌, drop}
use Rattle.dm_headers.specs.Rising.{is_rising}
use Rattle.dm_headers.proofs.cmd_ids.is_rising.Given as goal

abbrev pub invariant-loop-at : goal.invariant-loop-at
invariant-loop-at l = (1 ≤ l.at) × (is_rising l.ids ≡ is_rising (drop (l.at - 1) l.ids))
