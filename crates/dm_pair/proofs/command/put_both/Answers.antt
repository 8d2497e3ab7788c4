use Rattle.dm_exit.proofs.Parts.{front_breaks}
use Rattle.dm_pair.proofs.Putting.{both_put}
use Rattle.dm_pair.proofs.command.put_both.Goals as goal

pub returns-in-Ok-clause-bytes : goal.returns-in-Ok-clause-bytes
returns-in-Ok-clause-bytes g c =
    both_put (g.K.Sink.got c.args.out.now) (g.K.Sink.got c.put_text.new.out) (g.K.Sink.got c.put_text-in-Ok.new.out)
    c.args.first.now c.args.second.now c.put_text-in-Ok.result c.in-Ok.ensures.bytes c.put_text-in-Ok.ensures.bytes

pub returns-in-Err-clause-bytes : goal.returns-in-Err-clause-bytes
returns-in-Err-clause-bytes g c =
    front_breaks (g.K.Sink.got c.args.out.now) (g.K.Sink.got c.put_text.new.out) c.args.first.now c.args.second.now
    c.in-Err.exit c.in-Err.ensures.bytes
