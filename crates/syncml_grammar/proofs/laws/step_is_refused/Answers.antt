use Rattle.syncml_grammar.proofs.Judging.{step_is_refused as law}
use Rattle.syncml_grammar.proofs.laws.step_is_refused.Goals as goal

pub returns : goal.returns
returns c = law
