use Rattle.wbxml_tokens.proofs.Elements as lemmas
use Rattle.wbxml_tokens.proofs.laws.document_is_element.Goals as goal

pub returns : goal.returns
returns c = lemmas.document_is_element
