use Rattle.std.proofs.Common.{◌∙◌}
use Rattle.dm_server.specs.Inside.{at_work, session_with}
use Rattle.dm_server.specs.Working.{with_account}
use Rattle.dm_server.proofs.Steps.{abort_told, aborted_is}
use Rattle.dm_server.proofs.working.by_header.Goals as goal

pub returns-then-has_abort-clause-state : goal.returns-then-has_abort-clause-state
returns-then-has_abort-clause-state c before h code second =
    let w = c.args.work.now in
    let job = w.plan.now.job in
    let account = w.account.now in
    let p = w.progress in
    let o = c.args.outbox.now in
    let g = c.args.gathering.now in
    let k = c.args.findings.now in
    let m = w.message.now in
    c.ended.ensures.state job account o g k before
    ∙ aborted_is (at_work (with_account job account) w.run p o g k before) (session_with p o g) m h
    w.nonce.now.bytes
    (abort_told m c.args.heard.now.code c.is_faultless.result c.has_abort.result c.as_slice.result.now
    c.requires.code.faultless c.is_faultless.ensures c.if-is_faultless.true c.has_abort.ensures c.if-has_abort.true
    (c.as_slice.ensures ∙ c.body.ensures.value))
