use Rattle.std.proofs.Common.{subst, sym}
use Rattle.dm_service.specs.Ready.{AreReadyWaiting}
use Rattle.dm_server.proofs.Rows.{package_numbered, shown_at, shown_ready}
use Rattle.dm_server.proofs.Sendable.{package_waits}
use Rattle.dm_server.proofs.packages.queue_next.Goals as goal

pub push_package-requires-clause-ready : goal.push_package-requires-clause-ready
push_package-requires-clause-ready c =
    let job = c.args.plan.now.job in
    shown_ready job.packages c.args.run.next c.as_slice.result.now
    (shown_at job.packages c.as_slice-packages.result.now c.args.run.next c.index-packages-run.result
    c.as_slice.result.now c.as_slice-packages.ensures c.if-run-packages.false c.index-packages-run.is
    c.as_slice.ensures) c.requires.ready

pub push_package-requires-clause-some : goal.push_package-requires-clause-some
push_package-requires-clause-some c =
    let job = c.args.plan.now.job in
    package_numbered job c.args.run.next c.as_slice.result.now c.requires.job.numbered
    (shown_at job.packages c.as_slice-packages.result.now c.args.run.next c.index-packages-run.result
    c.as_slice.result.now c.as_slice-packages.ensures c.if-run-packages.false c.index-packages-run.is
    c.as_slice.ensures)

pub returns-clause-queue : goal.returns-clause-queue
returns-clause-queue c =
    let job = c.args.plan.now.job in
    subst AreReadyWaiting (sym c.in_ok-push_package.ensures.ok)
    (package_waits c.as_slice.result.now c.args.queue.now
    (shown_ready job.packages c.args.run.next c.as_slice.result.now
    (shown_at job.packages c.as_slice-packages.result.now c.args.run.next c.index-packages-run.result
    c.as_slice.result.now c.as_slice-packages.ensures c.if-run-packages.false c.index-packages-run.is
    c.as_slice.ensures) c.requires.ready) c.requires.queue)
