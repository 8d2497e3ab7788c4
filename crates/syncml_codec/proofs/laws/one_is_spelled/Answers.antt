use Rattle.syncml_codec.proofs.Decoded.{one_is_spelled}
use Rattle.syncml_codec.proofs.laws.one_is_spelled.Goals as goal

pub returns : goal.returns
returns c = one_is_spelled
