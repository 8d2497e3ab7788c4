use Rattle.std.proofs.Common.{◌∙◌, ap, arith, refl, subst, sym}
use Rattle.std.specs.Option.{option_to_list}
use Rattle.dm_headers.specs.Checks.{is_denied}
use Rattle.dm_atomic.specs.Made.{told}
use Rattle.dm_atomic.specs.Run.{State, Next}
use Rattle.dm_headers.specs.Headers.{header_answer}
use Rattle.dm_machine.specs.Messages.{Waits, queued_again, run_of}
use Rattle.dm_machine.specs.Ready.{IsDevice}
use Rattle.dm_machine.proofs.StaysSending.{apart}
use Rattle.dm_machine.proofs.StaysWaiting.{run_ready}
use Rattle.dm_session.specs.Inside.{machine_of}
use Rattle.dm_session.specs.Stays.{body_covers}
use Rattle.dm_session.specs.Working
use Rattle.dm_session.proofs.Frames.{keeps_then_none}
use Rattle.dm_session.proofs.Outcomes.{again_answered, answered_or_ended, heard_front, heard_run, or_ends_if}
use Rattle.dm_session.proofs.Outcomes.{or_ends_heard}
use Rattle.dm_session.proofs.Sendable.{again_waits, answer_waits}
use Rattle.dm_session.proofs.answering.answered.Goals as goal

pub answer_again-requires-clause-can_answer : goal.answer_again-requires-clause-can_answer
answer_again-requires-clause-can_answer c =
    let work = c.args.work.now in
    let can = c.requires.can_work in
    let before = machine_of c.args.engine.now c.args.queue.now work.rest.now in
    let ran = c.in_ok-made.ensures.ran before refl refl (sym can.goes_on.max_obj) in
    let next = run_ready before work.account.now c.args.message c.args.nonce.now.bytes c.args.heard.now.code
    (apart before can.goes_on.ready) c.requires.message in
    let w : Waits = record { progress = c.in_ok-again.again.1; queue = c.in_ok-again.again.0 } in
    let waits = again_waits before work.progress w can.goes_on.ready can.progress
    (c.in_ok-again.ensures.again before refl refl) in
    let same = waits.own_is in
    let low = can.own in
    record {
      limits = can.goes_on.ready.limits;
      device = subst IsDevice (sym (ap (λ (s : State). s.tree) ran.state_is)) next.state.tree;
      account = can.account;
      number = waits.progress.number;
      own = omega (arith, same, low);
      room = waits.progress.room;
    }

pub answer_again-requires-clause-ready : goal.answer_again-requires-clause-ready
answer_again-requires-clause-ready c =
    let work = c.args.work.now in
    let can = c.requires.can_work in
    let before = machine_of c.args.engine.now c.args.queue.now work.rest.now in
    let ran = c.in_ok-made.ensures.ran before refl refl (sym can.goes_on.max_obj) in
    let w : Waits = record { progress = c.in_ok-again.again.1; queue = c.in_ok-again.again.0 } in
    let waits = again_waits before work.progress w can.goes_on.ready can.progress
    (c.in_ok-again.ensures.again before refl refl) in
    answer_waits before work.account.now c.args.message c.args.nonce.now.bytes c.args.heard.now.code
    c.in_ok-again.again.0
    (option_to_list c.in_ok-status.status) c.in_ok-made.made can.goes_on.ready c.requires.message c.requires.code
    waits.queue
    (c.in_ok-status.ensures
    ∙ ap (λ h. header_answer h c.args.heard.now.code c.args.nonce.now.bytes) c.header.ensures.value)
    ran.made_is

pub returns-then-is_denied-clause-state : goal.returns-then-is_denied-clause-state
returns-then-is_denied-clause-state c accounts uri p h is at =
    let e = c.args.engine.now in
    let q = c.args.queue.now in
    let work = c.args.work.now in
    let r = Working.rest_told work.rest.now accounts uri in
    let m = c.args.message in
    let before = machine_of e q r in
    let ran = c.in_ok-made.ensures.ran before refl refl (sym c.requires.can_work.goes_on.max_obj) in
    let run = run_of before h.account m h.code in
    let same = heard_run before c.args.heard.now work.account.now h m is in
    let front = option_to_list c.in_ok-status.status in
    let told_front =
    heard_front front c.header.result.now c.args.heard.now work.account.now h m c.args.nonce.now.bytes is
    c.in_ok-status.ensures c.header.ensures.value in
    let w : Waits = record { progress = c.in_ok-again.again.1; queue = c.in_ok-again.again.0 } in
    c.in_ok-next.ensures.state accounts uri
    ∙ again_answered e c.run.new.engine q r p w m h c.args.nonce.now.bytes work.account.now run front
    c.in_ok-made.made
    (ap is_denied is.status ∙ sym c.is_denied.ensures ∙ c.if-is_denied.true)
    (c.in_ok-again.ensures.again before refl refl
    ∙ ap (λ x. queued_again before (record { progress = x; queue = q })) (sym at))
    (ran.state_is ∙ ap (λ (n : Next). n.state) same) c.run.ensures.keeps.clock (sym is.account_is) told_front
    (ran.made_is ∙ ap (λ (n : Next). told n.made) same)

pub answer_or_end-requires-clause-can_answer : goal.answer_or_end-requires-clause-can_answer
answer_or_end-requires-clause-can_answer c =
    let work = c.args.work.now in
    let can = c.requires.can_work in
    let before = machine_of c.args.engine.now c.args.queue.now work.rest.now in
    let ran = c.in_ok-made-2.ensures.ran before refl refl (sym can.goes_on.max_obj) in
    let next = run_ready before work.account.now c.args.message c.args.nonce.now.bytes c.args.heard.now.code
    (apart before can.goes_on.ready) c.requires.message in
    record {
      limits = can.goes_on.ready.limits;
      device = subst IsDevice (sym (ap (λ (s : State). s.tree) ran.state_is)) next.state.tree;
      account = can.account;
      number = can.progress.number;
      own = can.own;
      room = can.progress.room;
    }

pub answer_or_end-requires-clause-ready : goal.answer_or_end-requires-clause-ready
answer_or_end-requires-clause-ready c =
    let work = c.args.work.now in
    let can = c.requires.can_work in
    let before = machine_of c.args.engine.now c.args.queue.now work.rest.now in
    let ran = c.in_ok-made-2.ensures.ran before refl refl (sym can.goes_on.max_obj) in
    answer_waits before work.account.now c.args.message c.args.nonce.now.bytes c.args.heard.now.code
    c.args.queue.now
    (option_to_list c.in_ok-status.status) c.in_ok-made-2.made can.goes_on.ready c.requires.message c.requires.code
    can.goes_on.ready.queue
    (c.in_ok-status.ensures
    ∙ ap (λ h. header_answer h c.args.heard.now.code c.args.nonce.now.bytes) c.header.ensures.value)
    ran.made_is

pub returns-clause-state : goal.returns-clause-state
returns-clause-state c accounts uri p h is at =
    let e = c.args.engine.now in
    let q = c.args.queue.now in
    let work = c.args.work.now in
    let r = Working.rest_told work.rest.now accounts uri in
    let m = c.args.message in
    let before = machine_of e q r in
    let ran = c.in_ok-made-2.ensures.ran before refl refl (sym c.requires.can_work.goes_on.max_obj) in
    let run = run_of before h.account m h.code in
    let same = heard_run before c.args.heard.now work.account.now h m is in
    let front = option_to_list c.in_ok-status.status in
    let told_front =
    heard_front front c.header.result.now c.args.heard.now work.account.now h m c.args.nonce.now.bytes is
    c.in_ok-status.ensures c.header.ensures.value in
    c.in_ok-next-2.ensures.state accounts uri
    ∙ ap (λ b. or_ends_if b c.run-2.new.engine q r work.progress work.account.now front c.in_ok-made-2.made)
    c.has_nothing_more-nothing_more.ensures
    ∙ or_ends_heard c.run-2.new.engine q r m c.args.heard.now work.account.now h p work.progress front
    c.in_ok-made-2.made is at
    ∙ answered_or_ended e c.run-2.new.engine q r p m h c.args.nonce.now.bytes work.account.now run front
    c.in_ok-made-2.made
    (ap is_denied is.status ∙ sym c.is_denied.ensures ∙ c.if-is_denied.false)
    (ran.state_is ∙ ap (λ (n : Next). n.state) same) c.run-2.ensures.keeps.clock (sym is.account_is) told_front
    (ran.made_is ∙ ap (λ (n : Next). told n.made) same)

pub returns-clause-keeps : goal.returns-clause-keeps
returns-clause-keeps c =
    keeps_then_none (body_covers c.args.message.body) c.args.engine.now c.run-2.new.engine c.answer_or_end.new.engine
    c.run-2.ensures.keeps c.answer_or_end.ensures.keeps

pub returns-in_err-next-2-clause-keeps : goal.returns-in_err-next-2-clause-keeps
returns-in_err-next-2-clause-keeps c =
    keeps_then_none (body_covers c.args.message.body) c.args.engine.now c.run-2.new.engine c.answer_or_end.new.engine
    c.run-2.ensures.keeps c.answer_or_end.ensures.keeps
