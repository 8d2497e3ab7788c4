use Rattle.syncml_grammar.proofs.FitReads.{read_is_fit as law}
use Rattle.syncml_grammar.proofs.laws.read_is_fit.Goals as goal

pub returns : goal.returns
returns c = law
