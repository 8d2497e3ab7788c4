use Rattle.std.proofs.Common.{◌++◌}
use Rattle.dm_exit.proofs.Parts.{front_breaks}
use Rattle.dm_pair.proofs.Putting.{both_put}
use Rattle.dm_pair.proofs.command.put_parts.Goals as goal

pub returns-in-Ok-clause-bytes : goal.returns-in-Ok-clause-bytes
returns-in-Ok-clause-bytes g c =
    let w = c.args.written.now in
    both_put (g.K.Sink.got c.args.out.now) (g.K.Sink.got c.put_both.new.out) (g.K.Sink.got c.put_text.new.out)
    (w.lines ++ w.tree) w.report c.put_text.result
    (rw c.as_slice.ensures at (rw c.as_slice-2.ensures at c.in-Ok.ensures.bytes))
    (rw c.as_slice-in-Ok.ensures at c.put_text.ensures.bytes)

pub returns-in-Err-clause-bytes : goal.returns-in-Err-clause-bytes
returns-in-Err-clause-bytes g c =
    let w = c.args.written.now in
    front_breaks (g.K.Sink.got c.args.out.now) (g.K.Sink.got c.put_both.new.out) (w.lines ++ w.tree) w.report
    c.in-Err.exit (rw c.as_slice.ensures at (rw c.as_slice-2.ensures at c.in-Err.ensures.bytes))
