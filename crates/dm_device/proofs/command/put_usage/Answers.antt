use Rattle.std.proofs.Common.{inr}
use Rattle.dm_device.proofs.command.put_usage.Goals as goal

pub returns-in-Err-clause-bytes : goal.returns-in-Err-clause-bytes
returns-in-Err-clause-bytes g c = inr (rw c.as_bytes.ensures.value at c.in-Err.ensures.bytes)
