use Rattle.std.proofs.Common.{◌++◌, ◌∙◌, ap, map, length, sym, subst, arith, []}
use Rattle.dm_tree.specs.Rows.{nodes}
use Rattle.dm_pack.specs.Entries.{whole_entry}
use Rattle.dm_pack.specs.Filling.{fill}
use Rattle.dm_machine.specs.Opening.{first_package}
use Rattle.dm_machine.specs.Messages.{no_account}
use Rattle.dm_machine.specs.Ready.{IsReadyAccount}
use Rattle.dm_machine.proofs.StaysWaiting.{account_ready}
use Rattle.dm_session.specs.Inside.{machine_of}
use Rattle.dm_session.proofs.Machines.{account_is, begun_machine, length_fresh, sent_machine, started}
use Rattle.dm_session.proofs.Sendable.{own_header, own_header_ready, opening_waits, opening_ready}
use Rattle.dm_session.proofs.beginning.open.Goals as goal

pub send-requires-clause-ready : goal.send-requires-clause-ready
send-requires-clause-ready c =
    opening_ready c.args.engine.now c.args.rest.now c.args.kind _
    (opening_waits c.args.engine.now c.args.rest.now c.args.kind c.in_ok-first.first _ c.new-queue.result
    c.new-queue.ensures
    c.tree.ensures.nodes c.in_ok-first.ensures) c.requires.device c.requires.results

pub send-requires-clause-header : goal.send-requires-clause-header
send-requires-clause-header c =
    let accounts = c.args.rest.now.accounts in
    let at = c.args.account in
    let account = c.index-as_slice-account.result in
    let is =
    account_is accounts _ at account no_account c.as_slice.ensures c.index-as_slice-account.is c.requires.account in
    own_header_ready c.args.engine.now c.args.rest.now (nodes c.tree-2.result.now.rows)
    (started at c.args.kind c.args.number c.len.result) account c.in_ok-header.header
    c.tree-2.ensures.nodes c.in_ok-header.ensures c.requires.limits c.requires.device
    (subst IsReadyAccount (sym is)
    (account_ready (machine_of c.args.engine.now [] c.args.rest.now) at c.requires.accounts c.requires.account))
    c.ranges.number.fits (omega arith)

pub returns-clause-state : goal.returns-clause-state
returns-clause-state c =
    let e = c.args.engine.now in
    let r = c.args.rest.now in
    let at = c.args.account in
    let account = c.index-as_slice-account.result in
    let is =
    account_is r.accounts _ at account no_account c.as_slice.ensures c.index-as_slice-account.is c.requires.account in
    let waiting = c.new-queue.result ++ map whole_entry c.in_ok-first.first in
    let p = started at c.args.kind c.args.number c.len.result in
    let h = c.in_ok-header.header in
    let f = fill waiting h p.standing.room p.standing.heard in
    let sent = c.in_ok-filled.ensures.packed in
    let first =
    opening_waits e r c.args.kind c.in_ok-first.first _ c.new-queue.result c.new-queue.ensures c.tree.ensures.nodes
    c.in_ok-first.ensures in
    sent_machine e c.send.new.queue waiting r p account h c.session_after.result
    (own_header e waiting r _ p account h c.tree-2.ensures.nodes c.in_ok-header.ensures) c.in_ok-filled.ensures.ok
    (c.session_after.ensures.progress f sent.whole sent.tail) (c.session_after.ensures.message ∙ sent.message)
    ∙ begun_machine (machine_of e [] r) at c.args.kind c.args.number c.len.result account _ waiting
    (first_package (machine_of e [] r) c.args.kind) first
    (c.len.ensures ∙ sym (length_fresh c.in_ok-first.first)
    ∙ ap (λ q. length (q ++ map whole_entry c.in_ok-first.first)) (sym c.new-queue.ensures)) is
