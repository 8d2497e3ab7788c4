use Rattle.std.proofs.Common.{length}
use Rattle.dm_heads.proofs.extents.+extent_by.Given as goal

abbrev pub decreases-extent_by : goal.decreases-extent_by
decreases-extent_by l = length l.headers.now
