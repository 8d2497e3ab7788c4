use Rattle.std.proofs.Common.{sym}
use Rattle.dm_pack.specs.Measures.{marked}
use Rattle.dm_pack.proofs.Changing.{no_item}
use Rattle.dm_pack.proofs.Apart.{written}
use Rattle.dm_pack.proofs.waiting.mark_part.Goals as goal

pub returns-in-None : goal.returns-in-None
returns-in-None c = sym (no_item (marked c.args.size) c.args.command.now (sym c.in-None.ensures.value))

pub returns-in_ok-mark_item-in-Some : goal.returns-in_ok-mark_item-in-Some
returns-in_ok-mark_item-in-Some c =
    written (marked c.args.size) c.args.command.now _ _ (sym c.in-Some.ensures.value) c.in_ok-mark_item-in-Some.ensures
