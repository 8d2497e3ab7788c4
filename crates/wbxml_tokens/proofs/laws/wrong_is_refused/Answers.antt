use Rattle.wbxml_tokens.proofs.Wrongs as lemmas
use Rattle.wbxml_tokens.proofs.laws.wrong_is_refused.Goals as goal

pub returns : goal.returns
returns c = lemmas.wrong_is_refused
