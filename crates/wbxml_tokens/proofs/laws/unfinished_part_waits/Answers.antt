use Rattle.wbxml_tokens.proofs.Unfinished as lemmas
use Rattle.wbxml_tokens.proofs.laws.unfinished_part_waits.Goals as goal

pub returns : goal.returns
returns c = lemmas.unfinished_part_waits
