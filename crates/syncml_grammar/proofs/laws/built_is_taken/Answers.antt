use Rattle.syncml_grammar.proofs.Taken.{built_is_taken as law}
use Rattle.syncml_grammar.proofs.laws.built_is_taken.Goals as goal

pub returns : goal.returns
returns c = law
