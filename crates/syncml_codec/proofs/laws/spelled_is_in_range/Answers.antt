use Rattle.syncml_codec.proofs.InRange.{spelled_is_in_range}
use Rattle.syncml_codec.proofs.laws.spelled_is_in_range.Goals as goal

pub returns : goal.returns
returns c = spelled_is_in_range
