use Rattle.std.proofs.Common.{◌≡◌, ◌-◌, ◌≤◌}
use Rattle.dm_ddf.specs.Making.{free_name}
use Rattle.dm_ddf.proofs.making.free_name.Given as goal

abbrev pub invariant-loop-number : goal.invariant-loop-number
invariant-loop-number l =
    (l.number ≤ 4096) × (free_name l.rules l.parent 1 4095 ≡ free_name l.rules l.parent l.number (4096 - l.number))
