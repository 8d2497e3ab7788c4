use Rattle.syncml_grammar.proofs.Judging.{finished_is_spelled as law}
use Rattle.syncml_grammar.proofs.laws.finished_is_spelled.Goals as goal

pub returns : goal.returns
returns c = law
