use Rattle.wbxml_tokens.proofs.Elements as lemmas
use Rattle.wbxml_tokens.proofs.laws.cut_is_truncated.Goals as goal

pub returns : goal.returns
returns c = lemmas.cut_is_truncated
