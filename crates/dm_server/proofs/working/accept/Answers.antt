use Rattle.std.proofs.Common.{◌∙◌, ap, refl, sym}
use Rattle.dm_auth.specs.declared.accounts.Account.{Account}
use Rattle.dm_headers.specs.declared.checks.Side.TheVariants.{User}
use Rattle.dm_headers.specs.Standings.{hears}
use Rattle.dm_server.specs.Working.{machine_behind}
use Rattle.dm_server.proofs.Steps.{accepted_is, can_work, fault_is_told, with_standing}
use Rattle.dm_server.proofs.working.accept.Goals as goal

pub by_status-requires-clause-can_work : goal.by_status-requires-clause-can_work
by_status-requires-clause-can_work c =
    can_work _ c.args.session.now c.in_ok-heard.heard.standing c.requires.can_accept c.requires.message
    (c.renewed_by.ensures ∙ c.in_ok-heard.ensures.tells.account_is) c.in_ok-heard.ensures.tells.standing refl

pub by_status-requires-clause-code : goal.by_status-requires-clause-code
by_status-requires-clause-code c =
    fault_is_told c.args.plan.now.job c.args.session.now.progress c.args.message.now c.args.nonce.now.bytes
    c.in_ok-heard.heard.code c.requires.can_accept.named c.requires.can_accept.room c.in_ok-heard.ensures.tells.code

pub returns-clause-state : goal.returns-clause-state
returns-clause-state c before =
    let job = c.args.plan.now.job in
    let s = c.args.session.now in
    let m = c.args.message.now in
    let nonce = c.args.nonce.now.bytes in
    let h = hears User job.account s.progress.standing m nonce in
    let heard = c.in_ok-heard.ensures.tells in
    let account = c.renewed_by.result.now in
    ap (λ (a : Account). machine_behind job a c.in_ok-next.next c.by_status.new.outbox c.by_status.new.gathering
    c.by_status.new.findings before) (sym c.renewed_by.ensures)
    ∙ accepted_is job c.args.run s.progress (with_standing s.progress c.in_ok-heard.heard.standing) s.outbox s.gathering
    c.args.findings.now before m nonce account c.in_ok-heard.heard.status _
    (c.renewed_by.ensures ∙ heard.account_is) heard.status (ap (with_standing s.progress) heard.standing)
    (c.in_ok-next.ensures.state before h (sym heard.code) (sym heard.second))
