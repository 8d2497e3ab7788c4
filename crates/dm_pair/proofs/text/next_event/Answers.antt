use Rattle.std.proofs.Common.{Ok, arith, length}
use Rattle.dm_pair.specs.declared.events.PairEvent.TheVariants as event
use Rattle.dm_pair.specs.Seen.{seen}
use Rattle.dm_pair.proofs.Turns.{shorter, said_of, events_end, event_goes_on, event_halts}
use Rattle.dm_pair.proofs.Within.{same_counts}
use Rattle.dm_pair.proofs.text.next_event.Goals as goal

pub returns-in-End-clause-said : goal.returns-in-End-clause-said
returns-in-End-clause-said c =
    let said = rw c.in-End.is at c.in-Ok-read_event.ensures.said in
    events_end c.args.number c.args.ids.now (seen c.args.pairing.now) c.args.text.now c.in-Ok.cut.0.now
    c.in-Ok.cut.1.now c.in-Ok.ensures.0 c.in-Ok.ensures.1
    (said_of c.args.ids.now (seen c.args.pairing.now) c.in-Ok.cut.0.now _ _ (Ok event.End) c.len.ensures
    c.len-2.ensures said)

pub returns-in_default : goal.returns-in_default
returns-in_default c =
    let fewer = shorter c.args.text.now c.in-Ok.cut.0.now c.in-Ok.cut.1.now c.in-Ok.ensures.2 in
    record {
      said = event_goes_on c.args.number c.args.ids.now (seen c.args.pairing.now) c.in-Ok-read_event.event
          c.args.text.now c.in-Ok.cut.0.now c.in-Ok.cut.1.now c.in-Ok.ensures.0 c.in-Ok.ensures.1
          (said_of c.args.ids.now (seen c.args.pairing.now) c.in-Ok.cut.0.now _ _ (Ok c.in-Ok-read_event.event)
          c.len.ensures c.len-2.ensures c.in-Ok-read_event.ensures.said)
          c.in_default.not-End;
      range = same_counts (length c.args.ids.now) _ _ _ _ c.in-Ok-read_event.event c.len.ensures c.len-2.ensures
          c.in-Ok-read_event.ensures.range;
      shorter = omega (arith, fewer);
      halt = tt;
    }

pub returns-in-Err-read_event-clause-halt : goal.returns-in-Err-read_event-clause-halt
returns-in-Err-read_event-clause-halt c =
    event_halts c.args.number c.args.ids.now (seen c.args.pairing.now) c.args.text.now c.in-Ok.cut.0.now
    c.in-Ok.cut.1.now _ _ c.in-Err-read_event.error c.halt_at.result c.in-Ok.ensures.0 c.in-Ok.ensures.1
    c.len.ensures c.len-2.ensures c.in-Err-read_event.ensures.said c.halt_at.ensures
