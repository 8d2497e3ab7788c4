use Rattle.dm_job.proofs.Reached.{going_more}
use Rattle.dm_job.proofs.reader.JobReader.line.Goals as goal

pub invariant_of-self-2 : goal.invariant_of-self-2
invariant_of-self-2 c =
    going_more c.self.inside.reading c.after_line.new.reading c.args.text.now c.in_ok-after_line.ensures
    c.self.invariant
