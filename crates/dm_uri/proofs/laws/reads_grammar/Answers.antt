use Rattle.dm_uri.proofs.BothWays.{reads_grammar}
use Rattle.dm_uri.proofs.laws.reads_grammar.Goals as goal

pub returns : goal.returns
returns c = reads_grammar
