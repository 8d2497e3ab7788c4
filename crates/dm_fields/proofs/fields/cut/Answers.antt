use Rattle.dm_fields.proofs.Counted.{one_part, first_part}
use Rattle.dm_fields.proofs.fields.cut.Goals as goal

pub returns-in-Some : goal.returns-in-Some
returns-in-Some c = first_part c.args.line.now c.in-Some.at c.in-Some.ensures

pub returns-in-None : goal.returns-in-None
returns-in-None c = one_part c.args.line.now c.in-None.ensures
