use Rattle.std.proofs.Common.{◌∙◌, ◌∷◌, sym, ap}
use Rattle.std.specs.FinMap.{insert}
use Rattle.dm_tree.specs.Nodes.{changed, with_value}
use Rattle.dm_tree.specs.Rows.{node_of, path_of}
use Rattle.dm_undo.specs.declared.entries.Entry.TheVariants.{Record}
use Rattle.dm_undo.specs.Journals.{Journal}
use Rattle.dm_commands.proofs.Endings.{noted-two, second-put}
use Rattle.dm_commands.proofs.noting.put_values.Goals as goal

pub set_value-requires-2-clause-live : goal.set_value-requires-2-clause-live
set_value-requires-2-clause-live c = (c.set_value.ensures.stays c.args.second.0 c.requires.live.1).0

pub returns-clause-nodes : goal.returns-clause-nodes
returns-clause-nodes c =
    let before = c.args.tree.now in
    let k = c.args.second.0 in
    c.set_value-2.ensures.nodes
    ∙ second-put before c.set_value.new.self c.args.first.0 k _ c.args.second.1 c.set_value.ensures.rows
    (λ e. c.requires.two (sym e)) (c.set_value.ensures.stays k c.requires.live.1).1
    ∙ ap (λ m. insert m (path_of before.rows k)
    (changed before.clock (with_value (node_of before.rows k) c.args.second.1)))
    c.set_value.ensures.nodes

pub returns-clause-notes : goal.returns-clause-notes
returns-clause-notes c =
    noted-two c.args.journal.now c.make_room.new.journal c.note-2.new.self
    c.args.tree.now.rows c.set_value.new.self.rows c.set_value-2.new.self.rows c.set_value.result c.set_value-2.result
    c.make_room.ensures.entries c.in_ok-make_room.ensures.room
    (c.note-2.ensures.entries
    ∙ ap (λ (j : Journal). record j { entries = Record c.set_value-2.result ∷ j.entries }) c.note.ensures.entries)
    c.set_value.ensures.edit c.set_value-2.ensures.edit
