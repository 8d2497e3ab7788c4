use Rattle.std.proofs.Common.{◌∙◌, ap, refl, set, sym, Some}
use Rattle.syncml_types.specs.Message.{Parts}
use Rattle.dm_auth.specs.declared.accounts.Account.{Account}
use Rattle.dm_machine.specs.Machine.{Machine}
use Rattle.dm_machine.specs.Messages.{closed}
use Rattle.dm_session.specs.Inside.{machine_of}
use Rattle.dm_session.specs.Working
use Rattle.dm_session.proofs.Machines.{closed_machine}
use Rattle.dm_session.proofs.Outcomes.{denied_is}
use Rattle.dm_session.proofs.working.by_header.Goals as goal

pub returns-then-heard-clause-state : goal.returns-then-heard-clause-state
returns-then-heard-clause-state c accounts uri p h is at =
    let e = c.args.engine.now in
    let q = c.args.queue.now in
    let account = c.args.work.now.account.now in
    let r = Working.rest_told c.args.work.now.rest.now (set accounts p.account account) uri in
    let before = machine_of e q (Working.rest_told c.args.work.now.rest.now accounts uri) in
    let sent = c.in_ok-farewell.farewell.message in
    denied_is before _ p c.args.work.now.progress c.args.message c.args.nonce.now.bytes h account c.args.heard.now.code
    sent
    (is.second ∙ c.if-heard.true) is.account_is is.code at
    (c.in_ok-farewell.ensures.message (record before { accounts = set before.accounts p.account h.account }) refl refl)
    (ap (λ (x : Machine). record x { farewell = Some sent })
    (closed_machine e c.close.new.engine q c.close.new.queue r c.close.ensures.state c.close.ensures.keeps.clock
    c.close.ensures.queue)
    ∙ ap (λ (x : Account).
    record (closed (machine_of e q (Working.rest_told c.args.work.now.rest.now (set accounts p.account x) uri))) {
      farewell = Some sent;
    })
    (sym is.account_is))
