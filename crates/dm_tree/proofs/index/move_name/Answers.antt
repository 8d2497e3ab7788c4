use Rattle.dm_tree.proofs.Common.{◌∙◌}
use Rattle.dm_tree.proofs.IndexEdits.{back_in, put_again, renamed_index}
use Rattle.dm_tree.proofs.index.move_name.Goals as goal

pub put_in-requires-clause-out : goal.put_in-requires-clause-out
put_in-requires-clause-out c =
    put_again c.args.rows.now.items c.take_out.new.rows.items c.exchange_name.new.rows.items c.args.id c.args.name.now
    c.requires.attached c.take_out.ensures.rows c.exchange_name.ensures.rows c.requires.after

pub put_in-requires-clause-index : goal.put_in-requires-clause-index
put_in-requires-clause-index c =
    renamed_index c.args.rows.now.items c.take_out.new.rows.items c.exchange_name.new.rows.items c.args.id
    c.args.name.now c.requires.attached c.take_out.ensures.rows c.exchange_name.ensures.rows
    c.take_out.new.index.items c.take_out.ensures.index

pub returns-clause-rows : goal.returns-clause-rows
returns-clause-rows c =
    c.put_in.ensures.rows
    ∙ back_in c.args.rows.now.items c.take_out.new.rows.items c.exchange_name.new.rows.items c.args.id c.args.name.now
    c.requires.attached c.take_out.ensures.rows c.exchange_name.ensures.rows
