use Rattle.std.proofs.Common.{sym}
use Rattle.dm_pack.specs.Measures.{hollow_item}
use Rattle.dm_pack.proofs.Apart.{untaken, written}
use Rattle.dm_pack.proofs.waiting.take_data.Goals as goal

pub returns-in-None-clause-command : goal.returns-in-None-clause-command
returns-in-None-clause-command c = sym (untaken c.args.command.now (sym c.in-None.ensures.value))

pub returns-in-Some-clause-command : goal.returns-in-Some-clause-command
returns-in-Some-clause-command c =
    written hollow_item c.args.command.now _ _ (sym c.in-Some.ensures.value) c.take_value.ensures.item
