use Rattle.dm_tree.specs.Rows.{path_of}
use Rattle.dm_commands.proofs.Endings.{noted-one}
use Rattle.dm_commands.proofs.Numbers.{kept-renamed}
use Rattle.dm_commands.proofs.noting.put_name.Goals as goal

pub returns-clause-ids : goal.returns-clause-ids
returns-clause-ids c =
    kept-renamed c.args.tree.now.rows c.rename.new.self.rows (path_of c.args.tree.now.rows c.args.id) c.args.name
    c.rename.ensures.edit.tree.shape c.rename.ensures.stays

pub returns-clause-notes : goal.returns-clause-notes
returns-clause-notes c =
    noted-one c.args.journal.now c.make_room.new.journal c.note.new.self c.args.tree.now.rows c.rename.new.self.rows
    c.rename.result c.make_room.ensures.entries c.in_ok-make_room.ensures.room c.note.ensures.entries
    c.rename.ensures.edit
