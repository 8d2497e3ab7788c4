use Rattle.syncml_grammar.proofs.Judging.{taken_is_read as law}
use Rattle.syncml_grammar.proofs.laws.taken_is_read.Goals as goal

pub returns : goal.returns
returns c = law
