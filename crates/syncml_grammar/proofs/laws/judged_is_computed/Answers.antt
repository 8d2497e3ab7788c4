use Rattle.syncml_grammar.proofs.Judging.{judged_is_computed as law}
use Rattle.syncml_grammar.proofs.laws.judged_is_computed.Goals as goal

pub returns : goal.returns
returns c = law
