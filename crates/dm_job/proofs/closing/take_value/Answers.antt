use Rattle.std.proofs.Common.{sym}
use Rattle.dm_pack.specs.Entries.{without_value}
use Rattle.dm_pack.proofs.Changing.{no_item}
use Rattle.dm_pack.proofs.Apart.{written}
use Rattle.dm_job.proofs.closing.take_value.Goals as goal

pub returns-in-None-clause-command : goal.returns-in-None-clause-command
returns-in-None-clause-command c = sym (no_item without_value c.args.command.now (sym c.in-None.ensures.value))

pub returns-in-Some-clause-command : goal.returns-in-Some-clause-command
returns-in-Some-clause-command c =
    written without_value c.args.command.now _ _ (sym c.in-Some.ensures.value) c.take_item_value.ensures.item
