use Rattle.std.proofs.Common.{◌≡◌, map, drop}
use Rattle.dm_outside.specs.Calls.{closed_in, got_by}
use Rattle.dm_outside.specs.Logs.{dial_of}
use Rattle.dm_outside.proofs.dialers.nth_got.Given as goal

abbrev pub invariant-loop-dial : goal.invariant-loop-dial
invariant-loop-dial l = got_by (closed_in (map dial_of (drop l.dial-index l.log))) l.left ≡ got_by (closed_in (map dial_of l.log)) l.n
