use Rattle.std.proofs.Common.{◌++◌, append_assoc, subst, sym}
use Rattle.std.specs.Prelude.{codes}
use Rattle.dm_base.specs.Lines.{line_feed}
use Rattle.dm_tree.specs.Rows.{nodes}
use Rattle.dm_start.specs.TreeText.{tree_text}
use Rattle.dm_exit.specs.declared.exit.Exit.TheVariants as exit
use Rattle.dm_exit.specs.Puts.{PutsEnd}
use Rattle.dm_replay.proofs.Running.{last_breaks}
use Rattle.dm_replay.proofs.endings.put_whole.Goals as goal

pub returns-in-Err-put_text-clause-bytes : goal.returns-in-Err-put_text-clause-bytes
returns-in-Err-put_text-clause-bytes g c =
    let text = tree_text c.args.version (nodes c.args.tree.now.rows) in
    subst (λ l. PutsEnd l exit.Done (g.K.Sink.got c.args.out.now) (g.K.Sink.got c.put_text.new.out)
    c.in-Err-put_text.exit) (sym (append_assoc text (codes "done") line_feed))
    (last_breaks (g.K.Sink.got c.args.out.now) (g.K.Sink.got c.put_tree.new.out) (g.K.Sink.got c.put_text.new.out)
    text (codes "done" ++ line_feed) c.in-Err-put_text.exit c.in-Ok.ensures.bytes c.in-Err-put_text.ensures.bytes)
