use Rattle.wbxml_tokens.proofs.Prologues as lemmas
use Rattle.wbxml_tokens.proofs.laws.wrong_prologue_is_refused.Goals as goal

pub returns : goal.returns
returns c = lemmas.wrong_prologue_is_refused
