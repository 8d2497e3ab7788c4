use Rattle.dm_start.specs.Start.{told_of}
use Rattle.dm_job.specs.declared.draft.Reading.TheVariants as reading
use Rattle.dm_pair.specs.Texts.{jobbing}
use Rattle.dm_pair.specs.From.{rest_written}
use Rattle.dm_pair.proofs.Writing.{writes_first}
use Rattle.dm_pair.proofs.text.run_job.Goals as goal

pub returns-in-Err : goal.returns-in-Err
returns-in-Err c =
    writes_first c.halted.result
    (rest_written c.args.number (jobbing (told_of c.args.start) reading.First) c.args.text.now) c.in-Err.halt c.new.result
    c.new.ensures c.halted.ensures (c.in-Err.ensures.halt (told_of c.args.start))
