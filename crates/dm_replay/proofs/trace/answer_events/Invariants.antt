use Rattle.std.proofs.Common.{◌≡◌, ◌<◌, ◌≤◌, ◌+◌, ◌^◌, length}
use Rattle.dm_base.specs.Lines.{room, CountsTaken}
use Rattle.dm_replay.specs.From.{input_to_come, SoFar}
use Rattle.dm_replay.proofs.Asked.{Answered}
use Rattle.dm_replay.proofs.trace.answer_events.Given as goal

abbrev pub invariant-events : goal.invariant-events
invariant-events g l = record {
  few : l.number + room l.lines < 2 ^ 60;
  limit : l.lines.taken ≤ 67108865;
  accounts : length l.ids ≡ length l.client.machine.accounts;
  so_far : SoFar (input_to_come l.fn.lines (g.S.Source.left l.fn.src)) (input_to_come l.lines (g.S.Source.left l.src))
      (g.K.Sink.got l.fn.out) (g.K.Sink.got l.out)
      l.version l.ids l.fn.first l.fn.client.machine l.number l.client.machine l.due;
  answered : Answered l.fn.lines l.lines (g.S.Source.left l.fn.src) (g.S.Source.left l.src)
      (g.K.Sink.got l.fn.out) (g.K.Sink.got l.out)
      l.version l.ids l.fn.first l.fn.client.machine l.number l.client.machine l.due;
  taken : CountsTaken (g.S.Source.left l.fn.src) (g.S.Source.left l.src) l.fn.lines.taken l.lines.taken;
  source : g.S.Source.faults l.src ≡ g.S.Source.faults l.fn.src;
  sink : g.K.Sink.faults l.out ≡ g.K.Sink.faults l.fn.out;
}

abbrev pub decreases-events : goal.decreases-events
decreases-events g l = room l.lines
