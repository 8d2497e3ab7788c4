use Rattle.dm_base.proofs.Pending.{taken_more}
use Rattle.dm_device.proofs.input.read_last.Goals as goal

pub returns-clause-taken : goal.returns-clause-taken
returns-clause-taken g c =
    taken_more _ (g.S.Source.left c.next_line.new.src) _ c.args.lines.now.taken c.next_line.new.lines.taken
    c.read_end.new.lines.taken c.in-Ok.ensures.taken c.read_end.ensures.taken
