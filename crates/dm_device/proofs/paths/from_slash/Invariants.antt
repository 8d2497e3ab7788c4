use Rattle.std.proofs.Common.{◌≡◌, length}
use Rattle.dm_device.specs.Paths.{from_slash}
use Rattle.dm_device.proofs.paths.from_slash.Given as goal

abbrev pub invariant-bytes : goal.invariant-bytes
invariant-bytes l = from_slash l.rest ≡ from_slash l.bytes

abbrev pub decreases-bytes : goal.decreases-bytes
decreases-bytes l = length l.rest
