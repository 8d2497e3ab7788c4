use Rattle.std.proofs.Common.{ap, refl, sym, ◌+◌}
use Rattle.syncml_types.specs.declared.values.Header.{Header}
use Rattle.dm_pack.specs.Filling.{fill}
use Rattle.dm_service.specs.declared.progress.ServiceProgress.{ServiceProgress}
use Rattle.dm_service.specs.Sending.{goes_out}
use Rattle.dm_service.specs.Service.{entries_of}
use Rattle.dm_server.specs.Inside.{at_work}
use Rattle.dm_server.specs.Working.{with_account}
use Rattle.dm_server.proofs.Fillings.{sent_is}
use Rattle.dm_server.proofs.Steps.{header_fits}
use Rattle.dm_server.proofs.sending.send.Goals as goal

pub fill-requires-clause-header : goal.fill-requires-clause-header
fill-requires-clause-header c =
    let w = c.args.work.now in
    let can = c.requires.can_work in
    header_fits w.plan.now.job w.account.now w.progress w.message.now c.in_ok-header.header
    c.in_ok-header.ensures can.limits can.named can.number can.own c.requires.fit

pub returns-clause-state : goal.returns-clause-state
returns-clause-state c before =
    let w = c.args.work.now in
    let job = with_account w.plan.now.job w.account.now in
    let p = w.progress in
    let o = c.args.outbox.now in
    let es = entries_of o.queue in
    let f = fill es c.in_ok-header.header p.standing.room p.standing.heard in
    let v = at_work job w.run p o c.tell.new.gathering c.tell.new.findings before in
    let filled = c.in_ok-filled.filled in
    let is = c.in_ok-filled.ensures in
    sent_is job w.run p c.progress_after.result o (record { queue = c.commit.new.self; sent = c.fill.new.out })
    c.tell.new.gathering c.tell.new.findings before w.message.now c.args.code filled c.runs_in.result
    c.is_last-is_over.result f
    (ap (λ (h : Header). fill es h p.standing.room p.standing.heard) (c.in_ok-header.ensures v refl)) is.message
    is.whole is.cut c.commit.ensures is.sent (c.progress_after.ensures f is.tail)
    (c.is_last-is_over.ensures v f refl refl is.message is.tail)
    (c.runs_in.ensures o.sent (goes_out (p.standing.own + 1) 1 filled.whole filled.cut o.queue) is.sent
    (sym c.len-sent.ensures))

pub returns-clause-reply : goal.returns-clause-reply
returns-clause-reply c =
    let p = c.args.work.now.progress in
    let f = fill (entries_of c.args.outbox.now.queue) c.in_ok-header.header p.standing.room p.standing.heard in
    record {
      answered = ap (λ (x : ServiceProgress). x.answered) (c.progress_after.ensures f c.in_ok-filled.ensures.tail);
      spelled = c.in_ok-filled.ensures.bytes;
    }
