use Rattle.std.proofs.Common.{◌≡◌, map, drop}
use Rattle.dm_outside.specs.Calls.{got_by}
use Rattle.dm_outside.specs.Doors.{visitors_in}
use Rattle.dm_outside.specs.Logs.{visit_of}
use Rattle.dm_outside.proofs.doors.nth_got.Given as goal

abbrev pub invariant-loop-visit : goal.invariant-loop-visit
invariant-loop-visit l = got_by (visitors_in (map visit_of (drop l.visit-index l.log))) l.left ≡ got_by (visitors_in (map visit_of l.log)) l.n
