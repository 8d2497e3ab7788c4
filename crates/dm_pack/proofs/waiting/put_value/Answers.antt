use Rattle.std.proofs.Common.{sym}
use Rattle.syncml_parts.specs.Pages.{with_item_value}
use Rattle.dm_pack.proofs.Changing.{no_item}
use Rattle.dm_pack.proofs.Apart.{written}
use Rattle.dm_pack.proofs.waiting.put_value.Goals as goal

pub returns-in-None : goal.returns-in-None
returns-in-None c = sym (no_item (with_item_value c.args.value) c.args.command.now (sym c.in-None.ensures.value))

pub returns-in-Some : goal.returns-in-Some
returns-in-Some c =
    written (with_item_value c.args.value) c.args.command.now _ _ (sym c.in-Some.ensures.value) c.write_value.ensures
