use Rattle.wbxml_tokens.proofs.Elements as lemmas
use Rattle.wbxml_tokens.proofs.laws.element_is_whole.Goals as goal

pub returns : goal.returns
returns c = lemmas.element_is_whole
