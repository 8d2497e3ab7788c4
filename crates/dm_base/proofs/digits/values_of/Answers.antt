use Rattle.dm_base.proofs.HexReading.{values_are}
use Rattle.dm_base.proofs.digits.values_of.Goals as goal

pub returns : goal.returns
returns c = values_are c.args.text 16 c.requires c.fits-text.1
