use Rattle.dm_commands.proofs.Endings.{noted-one}
use Rattle.dm_commands.proofs.noting.put_bytes.Goals as goal

pub returns-clause-notes : goal.returns-clause-notes
returns-clause-notes c =
    noted-one c.args.journal.now c.make_room.new.journal c.note.new.self c.args.tree.now.rows c.set_bytes.new.self.rows
    c.set_bytes.result c.make_room.ensures.entries c.in_ok-make_room.ensures.room c.note.ensures.entries
    c.set_bytes.ensures.edit
