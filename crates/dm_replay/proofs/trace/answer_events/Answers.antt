use Rattle.std.proofs.Common.{◌+◌, arith, sym, ◌∙◌}
use Rattle.dm_base.proofs.Pending.{taken_more}
use Rattle.dm_replay.specs.declared.reading.Halt.TheVariants as halt
use Rattle.dm_replay.specs.From.{ending_at, events_at}
use Rattle.dm_exit.proofs.Parts.{part_of_text, part_at_end}
use Rattle.dm_replay.proofs.Accounts.{said_many}
use Rattle.dm_replay.proofs.Asked.{answered_put, answered_said, answered_all, ended_over, due_fault, due_none}
use Rattle.dm_replay.proofs.Ended.{due_of_text, due_not_done, ended_later}
use Rattle.dm_replay.proofs.Faults.{part_is_no_fault}
use Rattle.dm_replay.proofs.Fronts.{feedless_at_read}
use Rattle.dm_replay.proofs.Running.{so_far_ends, so_far_put, said_more, due_breaks, memory_stops, end_ends, halt_ends}
use Rattle.dm_replay.proofs.Running.{due_source}
use Rattle.dm_replay.proofs.trace.answer_events.Goals as goal

pub events-preserved : goal.events-preserved
events-preserved g c =
    let read = rw c.in-Ok-Some.field-0-is at c.in-Ok-Some.ensures.events in
    let of = rw c.in-Ok-Some.field-0-is at c.in-Ok-Some.ensures.account in
    let answered = c.in-Ok-answer.ensures in
    let so_far = so_far_put _ _ _ _ _ c.args.version _ _ _ c.events.number _ c.events.due c.put_due.new.due
    c.events.invariant.so_far c.in-Ok.ensures.bytes in
    record {
      few = let a = c.in-Ok-Some.ensures.room in let b = c.events.invariant.few in omega (arith, a, b);
      limit = c.in-Ok-Some.ensures.limit;
      accounts = c.events.invariant.accounts ∙ sym (said_many c.in-Ok-Some.event _ _ _ of answered.state);
      so_far = said_more c.in-Ok-Some.event _ _ _ _ _ c.args.version _ _ _ c.events.number _ _ c.put_due.new.due
          c.answer.new.due so_far read answered.due answered.state;
      answered = answered_said c.in-Ok-Some.event _ c.events.lines c.next_event.new.lines _
          (g.S.Source.left c.events.src) (g.S.Source.left c.next_event.new.src) _ _ c.args.version c.args.ids.now _ _
          c.events.number _ _ c.put_due.new.due c.answer.new.due
          (answered_put _ _ _ _ _ _ _ c.args.version c.args.ids.now _ _ c.events.number _ c.events.due
          c.put_due.new.due c.events.invariant.answered c.in-Ok.ensures.bytes)
          (rw c.in-Ok-Some.field-0-is at c.in-Ok-Some.ensures.over) answered.due answered.state;
      taken = taken_more _ _ _ _ c.events.lines.taken _ c.events.invariant.taken c.in-Ok-Some.ensures.taken;
      source = c.in-Ok-Some.ensures.count ∙ c.events.invariant.source;
      sink = c.in-Ok.ensures.count ∙ c.events.invariant.sink;
    }

pub events-preserved-in-Ok-answer : goal.events-preserved-in-Ok-answer
events-preserved-in-Ok-answer g c =
    let read = rw c.in-Ok-Some.field-0-is at c.in-Ok-Some.ensures.events in
    let of = rw c.in-Ok-Some.field-0-is at c.in-Ok-Some.ensures.account in
    let answered = c.in-Ok-answer.ensures in
    let so_far = so_far_put _ _ _ _ _ c.args.version _ _ _ c.events.number _ c.events.due c.put_due.new.due
    c.events.invariant.so_far c.in-Ok.ensures.bytes in
    record {
      few = let a = c.in-Ok-Some.ensures.room in let b = c.events.invariant.few in omega (arith, a, b);
      limit = c.in-Ok-Some.ensures.limit;
      accounts = c.events.invariant.accounts ∙ sym (said_many c.in-Ok-Some.event _ _ _ of answered.state);
      so_far = said_more c.in-Ok-Some.event _ _ _ _ _ c.args.version _ _ _ c.events.number _ _ c.put_due.new.due
          c.answer.new.due so_far read answered.due answered.state;
      answered = answered_said c.in-Ok-Some.event _ c.events.lines c.next_event.new.lines _
          (g.S.Source.left c.events.src) (g.S.Source.left c.next_event.new.src) _ _ c.args.version c.args.ids.now _ _
          c.events.number _ _ c.put_due.new.due c.answer.new.due
          (answered_put _ _ _ _ _ _ _ c.args.version c.args.ids.now _ _ c.events.number _ c.events.due
          c.put_due.new.due c.events.invariant.answered c.in-Ok.ensures.bytes)
          (rw c.in-Ok-Some.field-0-is at c.in-Ok-Some.ensures.over) answered.due answered.state;
      taken = taken_more _ _ _ _ c.events.lines.taken _ c.events.invariant.taken c.in-Ok-Some.ensures.taken;
      source = c.in-Ok-Some.ensures.count ∙ c.events.invariant.source;
      sink = c.in-Ok.ensures.count ∙ c.events.invariant.sink;
    }

pub returns-in-Err-clause-output : goal.returns-in-Err-clause-output
returns-in-Err-clause-output g c =
    so_far_ends _ _ _ _ _ c.args.version _ _ _ c.events.number _ c.events.due _ c.events.invariant.so_far
    (due_breaks _ c.args.version _ (events_at c.args.version c.args.ids.now c.events.number) c.events.due _ _ _
    c.in-Err.ensures.bytes)

pub returns-in-Ok-None-clause-output : goal.returns-in-Ok-None-clause-output
returns-in-Ok-None-clause-output g c =
    let read = rw c.in-Ok-None.field-0-is at c.in-Ok-None.ensures.events in
    let so_far = so_far_put _ _ _ _ _ c.args.version _ _ _ c.events.number _ c.events.due c.put_due.new.due
    c.events.invariant.so_far c.in-Ok.ensures.bytes in
    let put = rw c.as_slice.ensures at c.put_end.ensures.output in
    so_far_ends _ _ _ _ _ c.args.version _ _ _ c.events.number _ c.put_due.new.due _ so_far
    (end_ends _ _ c.args.version _ (events_at c.args.version c.args.ids.now c.events.number)
    (ending_at (c.events.number + 1)) c.put_due.new.due _ _ _ read (rw c.tree-tree.ensures.nodes at put))

pub returns-in-Ok-None-clause-taken : goal.returns-in-Ok-None-clause-taken
returns-in-Ok-None-clause-taken g c =
    taken_more _ _ _ _ c.next_event.new.lines.taken _
    (taken_more _ _ _ _ c.events.lines.taken _ c.events.invariant.taken c.in-Ok-None.ensures.taken)
    c.put_end.ensures.taken

pub returns-in-Err-next_event-clause-output : goal.returns-in-Err-next_event-clause-output
returns-in-Err-next_event-clause-output g c =
    let so_far = so_far_put _ _ _ _ _ c.args.version _ _ _ c.events.number _ c.events.due c.put_due.new.due
    c.events.invariant.so_far c.in-Ok.ensures.bytes in
    so_far_ends _ _ _ _ _ c.args.version _ _ _ c.events.number _ c.put_due.new.due _ so_far
    (halt_ends _ c.args.version _ (events_at c.args.version c.args.ids.now c.events.number)
    c.in-Err-next_event.halt c.put_due.new.due _ _ _ c.in-Err-next_event.ensures.events
    (rw c.as_slice-in-Err-next_event.ensures at c.put_due_and_halt.ensures.bytes))

pub returns-in-Err-next_event-clause-taken : goal.returns-in-Err-next_event-clause-taken
returns-in-Err-next_event-clause-taken g c =
    taken_more _ _ _ _ c.events.lines.taken _ c.events.invariant.taken c.in-Err-next_event.ensures.taken

pub returns-in-Err-next_event-clause-source : goal.returns-in-Err-next_event-clause-source
returns-in-Err-next_event-clause-source g c =
    rw c.events.invariant.source at
    (due_source _ c.in-Err-next_event.halt _ _ _ _ _ c.in-Err-next_event.ensures.count
    c.put_due_and_halt.ensures.bytes)

pub returns-in-Err-answer-clause-output : goal.returns-in-Err-answer-clause-output
returns-in-Err-answer-clause-output g c =
    let so_far = so_far_put _ _ _ _ _ c.args.version _ _ _ c.events.number _ c.events.due c.put_due.new.due
    c.events.invariant.so_far c.in-Ok.ensures.bytes in
    let trace = events_at c.args.version c.args.ids.now c.events.number in
    so_far_ends _ _ _ _ _ c.args.version _ _ _ c.events.number _ c.put_due.new.due _ so_far
    (halt_ends _ c.args.version _ trace halt.Memory c.put_due.new.due _ _ _ (memory_stops _ trace)
    (rw (c.as_slice-in-Err-answer.ensures, c.in-Err-answer.ensures.err)
    at c.put_due_and_halt-in-Err-answer.ensures.bytes))

pub returns-in-Err-answer-clause-taken : goal.returns-in-Err-answer-clause-taken
returns-in-Err-answer-clause-taken g c =
    taken_more _ _ _ _ c.events.lines.taken _ c.events.invariant.taken c.in-Ok-Some.ensures.taken

pub put_due_and_halt-requires : goal.put_due_and_halt-requires
put_due_and_halt-requires g c = record {
  asking = λ read. c.as_slice-in-Err-next_event.ensures
      ∙ c.in-Ok.ensures.all (feedless_at_read _ c.in-Err-next_event.halt c.in-Err-next_event.ensures.asked read);
}

pub returns-in-Err-clause-answered : goal.returns-in-Err-clause-answered
returns-in-Err-clause-answered g c =
    λ is. absurd (part_is_no_fault _ _ c.events.due c.in-Err.exit c.in-Err.ensures.bytes is)

pub returns-in-Ok-None-clause-answered : goal.returns-in-Ok-None-clause-answered
returns-in-Ok-None-clause-answered g c =
    let over = rw c.in-Ok-None.field-0-is at c.in-Ok-None.ensures.over in
    let put = rw c.as_slice.ensures at c.put_end.ensures.answered in
    λ is. answered_all _ c.events.lines _ (g.S.Source.left c.events.src) (g.S.Source.left c.put_end.new.src) _ _
    (g.K.Sink.got c.put_end.new.out) c.args.version c.args.ids.now _ _ c.events.number _ c.put_due.new.due
    (answered_put _ _ _ _ _ _ _ c.args.version c.args.ids.now _ _ c.events.number _ c.events.due
    c.put_due.new.due c.events.invariant.answered c.in-Ok.ensures.bytes)
    (ended_over c.events.lines c.next_event.new.lines (g.S.Source.left c.events.src)
    (g.S.Source.left c.next_event.new.src) (g.S.Source.left c.put_end.new.src) c.next_event.new.lines.taken
    c.put_end.new.lines.taken c.args.version c.args.ids.now c.events.number over c.put_end.ensures.taken) (put is)

pub returns-in-Err-next_event-clause-answered : goal.returns-in-Err-next_event-clause-answered
returns-in-Err-next_event-clause-answered g c = λ is.
    let fault = due_fault _ c.in-Err-next_event.halt _ _ _ c.put_due_and_halt.ensures.bytes is in
    let none = c.in-Ok.ensures.all (feedless_at_read _ c.in-Err-next_event.halt c.in-Err-next_event.ensures.asked
    fault.0) in
    answered_all _ c.events.lines _ (g.S.Source.left c.events.src) (g.S.Source.left c.next_event.new.src) _ _
    (g.K.Sink.got c.put_due_and_halt.new.out) c.args.version c.args.ids.now _ _ c.events.number _ c.put_due.new.due
    (answered_put _ _ _ _ _ _ _ c.args.version c.args.ids.now _ _ c.events.number _ c.events.due
    c.put_due.new.due c.events.invariant.answered c.in-Ok.ensures.bytes)
    (c.in-Err-next_event.ensures.over fault.0) (due_none _ _ c.put_due.new.due none fault.1)

pub returns-in-Err-answer-clause-answered : goal.returns-in-Err-answer-clause-answered
returns-in-Err-answer-clause-answered g c = λ is.
    let fault = due_fault _ halt.Memory _ _ _ c.put_due_and_halt-in-Err-answer.ensures.bytes is in
    absurd (let same = fault.0 in cc)

pub returns-in-Err-clause-kind : goal.returns-in-Err-clause-kind
returns-in-Err-clause-kind g c = part_of_text c.events.due _ _ c.in-Err.exit c.in-Err.ensures.bytes

pub returns-in-Err-clause-ended : goal.returns-in-Err-clause-ended
returns-in-Err-clause-ended g c = part_at_end c.events.due _ _ _ _ c.in-Err.exit c.in-Err.ensures.bytes

pub returns-in-Ok-None-clause-ended : goal.returns-in-Ok-None-clause-ended
returns-in-Ok-None-clause-ended g c =
    ended_later _ (g.S.Source.left c.next_event.new.src) _ c.args.lines.now.taken c.next_event.new.lines.taken
    c.put_end.result
    (taken_more _ _ _ _ c.events.lines.taken _ c.events.invariant.taken c.in-Ok-None.ensures.taken)
    c.put_end.ensures.ended

pub returns-in-Err-next_event-clause-kind : goal.returns-in-Err-next_event-clause-kind
returns-in-Err-next_event-clause-kind g c =
    due_of_text _ c.in-Err-next_event.halt _ _ _ c.put_due_and_halt.ensures.bytes

pub returns-in-Err-next_event-clause-ended : goal.returns-in-Err-next_event-clause-ended
returns-in-Err-next_event-clause-ended g c = λ is.
    absurd (due_not_done _ c.in-Err-next_event.halt _ _ _ c.put_due_and_halt.ensures.bytes is)

pub returns-in-Err-answer-clause-kind : goal.returns-in-Err-answer-clause-kind
returns-in-Err-answer-clause-kind g c =
    due_of_text _ halt.Memory _ _ _ c.put_due_and_halt-in-Err-answer.ensures.bytes

pub returns-in-Err-answer-clause-ended : goal.returns-in-Err-answer-clause-ended
returns-in-Err-answer-clause-ended g c = λ is.
    absurd (due_not_done _ halt.Memory _ _ _ c.put_due_and_halt-in-Err-answer.ensures.bytes is)
