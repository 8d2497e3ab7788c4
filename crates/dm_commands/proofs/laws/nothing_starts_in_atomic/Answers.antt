use Rattle.dm_commands.proofs.Refusals.{nothing_in_atomic}
use Rattle.dm_commands.proofs.laws.nothing_starts_in_atomic.Goals as goal

pub returns : goal.returns
returns c = nothing_in_atomic
