use Rattle.dm_start.specs.declared.heads.Head.TheVariants.{Device}
use Rattle.dm_start.specs.Start.{opening}
use Rattle.dm_pair.specs.Texts.{starting}
use Rattle.dm_pair.specs.From.{rest_written}
use Rattle.dm_pair.proofs.Writing.{writes_first}
use Rattle.dm_pair.proofs.text.run_start.Goals as goal

pub returns-in-Err : goal.returns-in-Err
returns-in-Err c =
    writes_first c.halted.result (rest_written 2 (starting (opening (Device 1))) c.args.text.now) c.in-Err.halt
    c.new.result c.new.ensures c.halted.ensures c.in-Err.ensures.halt
