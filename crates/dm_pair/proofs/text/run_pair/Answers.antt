use Rattle.std.proofs.Common.{refl}
use Rattle.dm_pair.specs.Texts.{first}
use Rattle.dm_pair.specs.From.{rest_written}
use Rattle.dm_pair.proofs.Writing.{writes_first, text_is, bad_is}
use Rattle.dm_pair.proofs.text.run_pair.Goals as goal

pub returns-in-Ok-clause-text : goal.returns-in-Ok-clause-text
returns-in-Ok-clause-text c =
    text_is c.run_start.result c.args.text.now _ c.run_start.ensures c.in-Ok.ensures.rest

pub returns-in-Ok-clause-bad : goal.returns-in-Ok-clause-bad
returns-in-Ok-clause-bad c =
    bad_is c.run_start.result c.args.text.now _ c.run_start.ensures c.in-Ok.ensures.rest

pub returns-in-Err-clause-text : goal.returns-in-Err-clause-text
returns-in-Err-clause-text c =
    text_is c.halted.result c.args.text.now (rest_written 1 first c.args.text.now)
    (writes_first c.halted.result _ c.in-Err.halt c.new.result c.new.ensures c.halted.ensures c.in-Err.ensures.halt)
    refl

pub returns-in-Err-clause-bad : goal.returns-in-Err-clause-bad
returns-in-Err-clause-bad c =
    bad_is c.halted.result c.args.text.now (rest_written 1 first c.args.text.now)
    (writes_first c.halted.result _ c.in-Err.halt c.new.result c.new.ensures c.halted.ensures c.in-Err.ensures.halt)
    refl
