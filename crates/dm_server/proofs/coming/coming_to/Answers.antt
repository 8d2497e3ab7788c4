use Rattle.std.proofs.Common.{◌≡◌, ◌<◌, ◌∙◌, ap, arith, false, subst, sym, true}
use Rattle.dm_service.specs.declared.progress.ServiceProgress.{ServiceProgress}
use Rattle.dm_service.specs.Events.{old_message, reply_of}
use Rattle.dm_server.specs.View.{Tells}
use Rattle.dm_server.proofs.Services.{greater_comes, lower_comes, next_comes, old_comes, new_by}
use Rattle.dm_server.proofs.coming.coming_to.Goals as goal

pub returns-then-progress-number : goal.returns-then-progress-number
returns-then-progress-number c v s m nonce session progress number msg =
    greater_comes v s m nonce c.args.number number session
    (subst (λ (p : ServiceProgress). p.number < c.args.number) (sym progress) c.if-progress-number.true)

pub returns-then-number-progress : goal.returns-then-number-progress
returns-then-number-progress c v s m nonce session progress number msg =
    lower_comes v s m nonce c.args.number number session
    (subst (λ (p : ServiceProgress). c.args.number < p.number) (sym progress) c.if-number-progress.true)

pub returns-then-is_new : goal.returns-then-is_new
returns-then-is_new c v s m nonce session progress number msg =
    let low = c.if-progress-number.false in
    let high = c.if-number-progress.false in
    let same = ap (λ (p : ServiceProgress). p.number) progress in
    next_comes v s m nonce c.args.number number session (omega (arith, low, high, same))
    (new_by s m c.args.progress.now c.args.msg true progress msg (sym c.is_new.ensures ∙ c.if-is_new.true))

pub returns : goal.returns
returns c v s m nonce session progress number msg =
    let low = c.if-progress-number.false in
    let high = c.if-number-progress.false in
    let same = ap (λ (p : ServiceProgress). p.number) progress in
    let is : c.args.progress.now.number ≡ c.args.number = omega (arith, low, high) in
    old_comes v s m nonce c.args.number c.answer_again.result number session (omega (arith, low, high, same))
    (new_by s m c.args.progress.now c.args.msg false progress msg (sym c.is_new.ensures ∙ c.if-is_new.false))
    (λ keeps. subst (λ n. Tells c.answer_again.result v (old_message s n m (reply_of v))) is
    (c.answer_again.ensures v s m session progress msg keeps))
