use Rattle.wbxml_tokens.proofs.Written as lemmas
use Rattle.wbxml_tokens.proofs.laws.written_is_read.Goals as goal

pub returns : goal.returns
returns c = lemmas.written_is_read
