use Rattle.std.proofs.Common.{subst, sym}
use Rattle.dm_headers.specs.Checks.{passes}
use Rattle.dm_service.specs.Ready.{AreReadyWaiting}
use Rattle.dm_server.proofs.Sendable.{answers_wait}
use Rattle.dm_server.proofs.answering.queue_behind.Goals as goal

pub queue_next-requires-clause-queue : goal.queue_next-requires-clause-queue
queue_next-requires-clause-queue c =
    subst AreReadyWaiting (sym c.in_ok-push_answers.ensures.ok)
    (answers_wait c.args.work.now.message.now (passes c.args.code) c.in_ok-answers_to.field-0 c.args.queue.now
    c.requires.message c.in_ok-answers_to.ensures c.requires.can_queue.queue)
