use Rattle.dm_commands.proofs.Besides.{split-ends}
use Rattle.dm_commands.proofs.adds.split.Goals as goal

pub returns : goal.returns
returns c = split-ends c.args.path c.pop.new.self c.in_ok-name.name c.in_ok-name.ensures
