use Rattle.std.proofs.Common.{arith, subst, sym, ◌<◌, ◌^◌}
use Rattle.dm_service.specs.Ready.{AreReadyWaiting}
use Rattle.dm_server.proofs.Sendable.{status_waits}
use Rattle.dm_server.proofs.answering.answered.Goals as goal

pub answer_behind-requires-clause-can_work : goal.answer_behind-requires-clause-can_work
answer_behind-requires-clause-can_work c =
    let w = c.args.work.now in
    let can = c.requires.can_work in
    let low : c.args.code < 2 ^ 32 = omega (arith, c.ranges.code) in
    record {
      holds = record {
        place = can.holds.place;
        queue = subst AreReadyWaiting (sym c.in_ok-front.ensures.ok)
            (status_waits c.in_ok-status.status w.message.now c.header.result.now c.args.code
            w.nonce.now.bytes c.args.outbox.now.queue c.header.ensures.value c.in_ok-status.ensures low
            c.requires.message can.holds.queue);
        commands = can.holds.commands;
        order = can.holds.order;
      };
      max_obj = can.max_obj;
      numbered = can.numbered;
      packages = can.packages;
      limits = can.limits;
      named = can.named;
      number = can.number;
      own = can.own;
      room = can.room;
    }
