use Rattle.wbxml_tokens.proofs.Refusals as lemmas
use Rattle.wbxml_tokens.proofs.laws.refused_is_told.Goals as goal

pub returns : goal.returns
returns c = lemmas.refused_is_told
