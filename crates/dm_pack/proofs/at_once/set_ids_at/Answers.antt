use Rattle.std.proofs.Common.{sym}
use Rattle.dm_pack.proofs.Listed.{room_for, numbers_set, ids_set}
use Rattle.dm_pack.proofs.at_once.set_ids_at.Goals as goal

pub set_ids-requires : goal.set_ids-requires
set_ids-requires c =
    room_for c.args.first c.args.at c.args.commands.now c.in-Some.command.now (sym c.in-Some.ensures.value)
    c.requires.room

pub returns-clause-numbers : goal.returns-clause-numbers
returns-clause-numbers c =
    numbers_set c.args.first c.args.at c.set_ids.result c.args.commands.now c.in-Some.command.now
    c.set_ids.new.command (sym c.in-Some.ensures.value) c.set_ids.ensures.command c.set_ids.ensures.next

pub returns-clause-ids : goal.returns-clause-ids
returns-clause-ids c =
    ids_set c.args.first c.args.at c.set_ids.result c.args.commands.now c.in-Some.command.now
    c.set_ids.new.command (sym c.in-Some.ensures.value) c.set_ids.ensures.next
