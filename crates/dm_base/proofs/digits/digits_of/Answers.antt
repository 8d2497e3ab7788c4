use Rattle.dm_base.proofs.Lanes.{in_turns}
use Rattle.dm_base.proofs.digits.digits_of.Goals as goal

pub returns : goal.returns
returns c = rw c.high_digits-high.ensures (rw c.low_digits-low.ensures (in_turns c.args.bytes c.requires))
