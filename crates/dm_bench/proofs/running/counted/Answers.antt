use Rattle.dm_bench.proofs.Delivering.{counted_is}
use Rattle.dm_bench.proofs.running.counted.Goals as goal

pub returns-clause-counts : goal.returns-clause-counts
returns-clause-counts c a told =
    counted_is c.args.tally a _ _ _ _ c.one_if-ok.ensures.one c.one_if-failed.ensures.one
    (c.tells-succeeds.ensures a told) (c.tells-fails.ensures a told)
