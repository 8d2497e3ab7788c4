use Rattle.dm_uri.proofs.BothWays.{reads_written}
use Rattle.dm_uri.proofs.writing.print.Goals as goal

pub returns-clause-read : goal.returns-clause-read
returns-clause-read c = rw c.in_ok-written.ensures (reads_written c.args.uri.now c.as_slice.ensures.path)
