use Rattle.dm_job.proofs.Turns.{one_line, no_line}
use Rattle.dm_job.proofs.parsing.cut_line.Goals as goal

pub returns-in-Some : goal.returns-in-Some
returns-in-Some c = one_line c.args.text.now c.in-Some.at c.in-Some.ensures

pub returns-in-None : goal.returns-in-None
returns-in-None c = no_line c.args.text.now c.in-None.ensures
