use Rattle.syncml_codec.proofs.Settling.{truncated_is_open}
use Rattle.syncml_codec.proofs.laws.truncated_is_open.Goals as goal

pub returns : goal.returns
returns c = truncated_is_open
