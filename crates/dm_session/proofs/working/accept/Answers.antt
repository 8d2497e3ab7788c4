use Rattle.std.proofs.Common.{◌<◌, ◌^◌, ◌∙◌, ap, subst, sym}
use Rattle.std.specs.Option.{option_or}
use Rattle.std.proofs.lemmas.Bool.{eq-eqb, ne_eqb}
use Rattle.syncml_types.specs.declared.values.Header.{Header}
use Rattle.dm_headers.specs.declared.checks.Side.TheVariants.{Server}
use Rattle.dm_headers.specs.declared.standings.Standing.{Standing}
use Rattle.dm_headers.specs.Standings.{hears}
use Rattle.dm_machine.specs.Messages.{no_account}
use Rattle.dm_machine.specs.Ready.{IsReadyAccount}
use Rattle.dm_ends.proofs.Hearing.{hears_ready}
use Rattle.dm_machine.proofs.StaysWaiting.{account_ready}
use Rattle.dm_session.specs.Inside.{machine_of}
use Rattle.dm_session.proofs.Machines.{account_is}
use Rattle.dm_session.proofs.Outcomes.{accepted_by_header, accepted_last, heard_progress, own_next, with_standing}
use Rattle.dm_session.proofs.working.accept.Goals as goal

pub returns-then-progress-clause-state : goal.returns-then-progress-clause-state
returns-then-progress-clause-state c =
    accepted_last c.args.engine.now c.close.new.engine c.args.queue.now c.close.new.queue c.args.rest.now
    c.args.progress.now
    c.args.message c.args.nonce.now.bytes c.in_ok-resp_uri.resp_uri
    (eq-eqb c.args.progress.now.standing.own 4294967295 c.if-progress.true) c.close.ensures.state c.close.ensures.keeps.clock
    c.close.ensures.queue (c.in_ok-resp_uri.ensures ∙ ap (λ (h : Header). h.resp_uri) c.header.ensures.value)

pub by_header-requires-clause-can_work : goal.by_header-requires-clause-can_work
by_header-requires-clause-can_work c =
    let before = machine_of c.args.engine.now c.args.queue.now c.args.rest.now in
    let p = c.args.progress.now in
    let m = c.args.message in
    let account = c.index-as_slice-progress.result in
    let is = account_is before.accounts _ p.account account no_account c.as_slice.ensures c.index-as_slice-progress.is
    c.requires.progress.account in
    let ready = subst IsReadyAccount (sym is)
    (account_ready before p.account c.requires.goes_on.ready.accounts c.requires.progress.account) in
    let heard = hears_ready Server account p.standing m c.args.nonce.now.bytes ready c.requires.progress.room in
    let stands = ap (λ (x : Standing). x.own) c.in_ok-heard.ensures.tells.standing ∙ heard.own in
    record {
      goes_on = c.requires.goes_on;
      progress = heard_progress before p m (hears Server account p.standing m c.args.nonce.now.bytes)
          c.in_ok-heard.heard.standing c.requires.progress heard c.requires.message.numbers.header.msg
          c.in_ok-heard.ensures.tells.standing;
      account =
          subst IsReadyAccount (sym (c.renewed_by.ensures ∙ c.in_ok-heard.ensures.tells.account_is)) heard.account;
      own =
          own_next c.in_ok-heard.heard.standing.own p.standing.own stands c.requires.progress.own c.if-progress.false;
    }

pub by_header-requires-clause-code : goal.by_header-requires-clause-code
by_header-requires-clause-code c =
    let before = machine_of c.args.engine.now c.args.queue.now c.args.rest.now in
    let p = c.args.progress.now in
    let account = c.index-as_slice-progress.result in
    let is = account_is before.accounts _ p.account account no_account c.as_slice.ensures c.index-as_slice-progress.is
    c.requires.progress.account in
    let ready = subst IsReadyAccount (sym is)
    (account_ready before p.account c.requires.goes_on.ready.accounts c.requires.progress.account) in
    let heard =
    hears_ready Server account p.standing c.args.message c.args.nonce.now.bytes ready c.requires.progress.room in
    subst (λ n. n < 2 ^ 32) (sym c.in_ok-heard.ensures.tells.code) heard.code

pub returns-clause-state : goal.returns-clause-state
returns-clause-state c =
    let before = machine_of c.args.engine.now c.args.queue.now c.args.rest.now in
    let p = c.args.progress.now in
    let account = c.index-as_slice-progress.result in
    let is = account_is before.accounts _ p.account account no_account c.as_slice.ensures c.index-as_slice-progress.is
    c.requires.progress.account in
    let m = c.args.message in
    let nonce = c.args.nonce.now.bytes in
    let h = hears Server account p.standing m nonce in
    let heard = c.in_ok-heard.ensures.tells in
    let renewed = c.renewed_by.result.now in
    accepted_by_header c.args.engine.now c.by_header.new.engine c.args.queue.now c.by_header.new.queue c.args.rest.now p
    m nonce
    c.in_ok-heard.heard.account account renewed c.in_ok-resp_uri.resp_uri c.in_ok-next.next
    (ne_eqb p.standing.own 4294967295 c.if-progress.false) is c.requires.progress.account c.renewed_by.ensures
    (c.in_ok-resp_uri.ensures ∙ ap (λ (x : Header). x.resp_uri) c.header.ensures.value)
    (c.in_ok-next.ensures.state c.args.rest.now.accounts (option_or m.header.resp_uri c.args.rest.now.resp_uri) p h
    (record {
      code = sym heard.code;
      status = sym heard.status;
      second = sym heard.second;
      account_is = sym (c.renewed_by.ensures ∙ heard.account_is);
    }) (ap (with_standing p) (sym heard.standing)))
