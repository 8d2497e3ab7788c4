use Rattle.std.proofs.Common.{◌∙◌, ap, length}
use Rattle.std.specs.Option.{option_to_list}
use Rattle.dm_pack.specs.Filling.{fill}
use Rattle.dm_machine.specs.Sending.{moved_on}
use Rattle.dm_session.specs.Working.{rest_told, waiting_with}
use Rattle.dm_session.proofs.Machines.{moved_by, sent_machine}
use Rattle.dm_session.proofs.Sendable.{own_header, own_header_ready}
use Rattle.dm_session.proofs.answering.answer.Goals as goal

pub send-requires-clause-header : goal.send-requires-clause-header
send-requires-clause-header c =
    let w = c.args.work.now in
    let can = c.requires.can_answer in
    own_header_ready c.args.engine.now w.rest.now _ w.progress w.account.now c.in_ok-header.header
    c.tree.ensures.nodes c.in_ok-header.ensures can.limits can.device can.account can.number can.own

pub returns-clause-state : goal.returns-clause-state
returns-clause-state c accounts uri =
    let e = c.args.engine.now in
    let w = c.args.work.now in
    let r = rest_told w.rest.now accounts uri in
    let waiting = waiting_with c.args.status c.args.queue.now c.args.made in
    let p = moved_by w.progress (length (option_to_list c.args.status)) in
    let h = c.in_ok-header.header in
    let f = fill waiting h p.standing.room p.standing.heard in
    let sent = c.in_ok-filled.ensures.packed in
    sent_machine e c.send.new.queue waiting r p w.account.now h c.session_after.result
    (own_header e waiting r _ p w.account.now h c.tree.ensures.nodes c.in_ok-header.ensures) c.in_ok-filled.ensures.ok
    (c.session_after.ensures.progress f sent.whole sent.tail
    ∙ ap (λ x. moved_on x f) (c.in_ok-behind.ensures ∙ ap (moved_by w.progress) c.count_of.ensures))
    (c.session_after.ensures.message ∙ sent.message)
