use Rattle.std.proofs.Common.{subst, arith}
use Rattle.dm_base.specs.declared.outside.Fault.TheVariants as fault
use Rattle.dm_base.specs.Lines.{line_feed}
use Rattle.dm_tree.specs.Views.{shown}
use Rattle.dm_start.specs.TreeText.{bytes_text, PutsOn}
use Rattle.dm_start.proofs.Putting.{puts_then, puts_less}
use Rattle.dm_start.proofs.pieces.put_behind.Goals as goal

pub returns-in-Ok-push-clause-bytes : goal.returns-in-Ok-push-clause-bytes
returns-in-Ok-push-clause-bytes g c =
    puts_then _ _ _ c.args.text.now (bytes_text (shown c.args.view)) c.put_bytes.new.text line_feed
    c.put_piece.new.text c.put_piece.result c.in-Ok.ensures.bytes
    (subst (λ text. PutsOn (g.K.Sink.got c.put_bytes.new.out) (g.K.Sink.got c.put_piece.new.out) text
    c.put_piece.new.text c.put_piece.result) c.in-Ok-push.ensures.ok c.put_piece.ensures.bytes)

pub returns-in-Err-push-clause-bytes : goal.returns-in-Err-push-clause-bytes
returns-in-Err-push-clause-bytes g c =
    puts_less _ _ c.args.text.now (bytes_text (shown c.args.view)) c.put_bytes.new.text line_feed c.args.text.now
    fault.Memory c.in-Ok.ensures.bytes (omega arith)
