use Rattle.std.proofs.Common.{◌++◌, subst}
use Rattle.dm_base.specs.declared.outside.Fault.TheVariants as fault
use Rattle.dm_base.specs.Lines.{line_feed}
use Rattle.dm_tree.specs.Rows.{nodes, node_of, path_of}
use Rattle.dm_start.specs.TreeText.{bytes_text, line_at, PutsOn}
use Rattle.dm_start.proofs.Putting.{line_there, line_put, puts_nothing}
use Rattle.dm_start.proofs.pieces.put_line.Goals as goal

pub returns-in-Ok-clause-bytes : goal.returns-in-Ok-clause-bytes
returns-in-Ok-clause-bytes g c =
    let rows = c.args.tree.now.rows in
    line_put _ _ (nodes rows) c.args.version (path_of rows c.args.id) (node_of rows c.args.id) c.args.text.now
    c.put_front.new.out c.put_behind.new.text c.put_behind.result c.view-view.ensures.there c.in-Ok.ensures
    (subst (λ x. PutsOn (g.K.Sink.got c.args.out.now) (g.K.Sink.got c.put_behind.new.out)
    (c.put_front.new.out ++ (bytes_text x ++ line_feed)) c.put_behind.new.text c.put_behind.result)
    c.view-view.ensures.node c.put_behind.ensures.bytes)

pub returns-in-Err-clause-bytes : goal.returns-in-Err-clause-bytes
returns-in-Err-clause-bytes g c =
    let rows = c.args.tree.now.rows in
    puts_nothing _ (c.args.text.now ++ line_at c.args.version (nodes rows) (path_of rows c.args.id)) c.args.text.now
    fault.Memory
    (line_there (nodes rows) c.args.version (path_of rows c.args.id) (node_of rows c.args.id) c.args.text.now
    c.view-view.ensures.there)
