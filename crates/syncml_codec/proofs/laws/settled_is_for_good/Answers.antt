use Rattle.syncml_codec.proofs.Settling.{settled_is_for_good, refused_is_settled, refused_token_is_settled}
use Rattle.syncml_codec.proofs.SettledParts.{refused_part_is_settled}
use Rattle.syncml_codec.proofs.laws.settled_is_for_good.Goals as goal

pub returns-clause-exact : goal.returns-clause-exact
returns-clause-exact c = settled_is_for_good

pub returns-clause-refused : goal.returns-clause-refused
returns-clause-refused c = refused_is_settled

pub returns-clause-token : goal.returns-clause-token
returns-clause-token c = refused_token_is_settled

pub returns-clause-part : goal.returns-clause-part
returns-clause-part c = refused_part_is_settled
