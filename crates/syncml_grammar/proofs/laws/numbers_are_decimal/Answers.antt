use Rattle.syncml_grammar.proofs.Decimals.{numbers_are_decimal as law}
use Rattle.syncml_grammar.proofs.laws.numbers_are_decimal.Goals as goal

pub returns : goal.returns
returns c = law
