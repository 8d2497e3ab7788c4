use Rattle.dm_commands.proofs.Endings.{ends-refused}
use Rattle.dm_commands.proofs.outcome.refuse.Goals as goal

pub returns : goal.returns
returns c = λ moved.
    ends-refused moved c.args.journal.now c.args.tree.now c.args.code c.of_code.result c.of_code.ensures
