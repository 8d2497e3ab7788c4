use Rattle.dm_commands.proofs.Endings.{noted-one}
use Rattle.dm_commands.proofs.Numbers.{kept-live}
use Rattle.dm_commands.proofs.noting.put_in.Goals as goal

pub returns-in-Ok-clause-ids : goal.returns-in-Ok-clause-ids
returns-in-Ok-clause-ids c =
    kept-live c.args.tree.now.rows c.insert.new.self.rows c.in-Ok.ensures.edit.tree.shape c.in-Ok.ensures.ok.stays

pub returns-in-Ok-clause-notes : goal.returns-in-Ok-clause-notes
returns-in-Ok-clause-notes c =
    noted-one c.args.journal.now c.make_room.new.journal c.note.new.self c.args.tree.now.rows c.insert.new.self.rows
    c.in-Ok.undo c.make_room.ensures.entries c.in_ok-make_room.ensures.room c.note.ensures.entries c.in-Ok.ensures.edit
