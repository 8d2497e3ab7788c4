use Rattle.syncml_codec.proofs.Decoded.{none_goes_on}
use Rattle.syncml_codec.proofs.laws.none_goes_on.Goals as goal

pub returns : goal.returns
returns c = none_goes_on
