use Rattle.std.proofs.Common.{refl, sym}
use Rattle.wbxml_tokens.specs.Reading.{reads}
use Rattle.wbxml_tokens.proofs.tokens.Tokens.new.Goals as goal

pub returns : goal.returns
unfolding reads
returns c = record { tokens = sym c.new-2.ensures; refused = refl; reader = λ _. c.new.ensures }
