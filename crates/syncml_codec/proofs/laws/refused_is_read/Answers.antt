use Rattle.syncml_codec.proofs.Decoded.{refused_is_read}
use Rattle.syncml_codec.proofs.laws.refused_is_read.Goals as goal

pub returns : goal.returns
returns c = refused_is_read
