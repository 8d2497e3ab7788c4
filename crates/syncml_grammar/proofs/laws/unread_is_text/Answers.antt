use Rattle.syncml_grammar.proofs.Reasons.{unread_is_text as law}
use Rattle.syncml_grammar.proofs.laws.unread_is_text.Goals as goal

pub returns : goal.returns
returns c = law
