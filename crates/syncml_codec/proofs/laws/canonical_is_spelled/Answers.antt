use Rattle.syncml_codec.proofs.CanonicalMessages.{canonical_is_spelled}
use Rattle.syncml_codec.proofs.CanonicalBytes.{canonical_can_be_spelled}
use Rattle.syncml_codec.proofs.laws.canonical_is_spelled.Goals as goal

pub returns-clause-message : goal.returns-clause-message
returns-clause-message c = canonical_is_spelled

pub returns-clause-tokens : goal.returns-clause-tokens
returns-clause-tokens c = canonical_can_be_spelled
