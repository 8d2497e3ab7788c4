use Rattle.syncml_grammar.proofs.Decimals.{pieces_are_text as law}
use Rattle.syncml_grammar.proofs.laws.pieces_are_text.Goals as goal

pub returns : goal.returns
returns c = law
