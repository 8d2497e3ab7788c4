use Rattle.syncml_codec.proofs.Decoded.{spelled_is_read}
use Rattle.syncml_codec.proofs.laws.spelled_is_read.Goals as goal

pub returns : goal.returns
returns c = spelled_is_read
