use Rattle.std.proofs.Common.{◌<◌, ◌/◌, ◌∙◌, length, arith, sym}
use Rattle.std.proofs.lemmas.List.{take_rest}
use Rattle.std.proofs.lemmas.Grind.{common_steps}
use Rattle.dm_report.proofs.SentLemmas.{halved, middle-found, behind-found, front-found, numbered-at}
use Rattle.dm_report.proofs.sending.find_sent.Goals as goal

pub returns-then-is_for-clause-found : goal.returns-then-is_for-clause-found
returns-then-is_for-clause-found c =
    let rest = c.loop-rest.rest.now in
    let half : length rest / 2 < length rest = grind (arith, common_steps) in
    let parts = halved rest c.split_at.result.0.now c.split_at.result.1.now (length rest / 2) _
    c.split_at.ensures.front c.split_at.ensures.back half in
    sym (middle-found c.args.msg c.args.command rest c.split_at.result.0.now c.split_at.result.1.now _ parts
    c.loop-rest.invariant.order (sym c.is_for.ensures ∙ c.if-is_for.true))
    ∙ c.loop-rest.invariant.found

pub returns-then-is_for-clause-number : goal.returns-then-is_for-clause-number
returns-then-is_for-clause-number c =
    numbered-at c.args.msg c.args.command c.args.sent.now _ c.requires.numbered (returns-then-is_for-clause-found c)

pub loop-rest-preserved-then-is_before : goal.loop-rest-preserved-then-is_before
loop-rest-preserved-then-is_before c =
    let rest = c.loop-rest.rest.now in
    let half : length rest / 2 < length rest = grind (arith, common_steps) in
    let parts = halved rest c.split_at.result.0.now c.split_at.result.1.now (length rest / 2) _
    c.split_at.ensures.front c.split_at.ensures.back half in
    let on = behind-found c.args.msg c.args.command rest c.split_at.result.0.now c.split_at.result.1.now _ _ parts
    (take_rest c.split_at.result.1.now 1) c.loop-rest.invariant.order
    (sym c.is_before.ensures ∙ c.if-is_before.true) in
    record { order = on.1; found = sym on.0 ∙ c.loop-rest.invariant.found }

pub loop-rest-preserved : goal.loop-rest-preserved
loop-rest-preserved c =
    let rest = c.loop-rest.rest.now in
    let half : length rest / 2 < length rest = grind (arith, common_steps) in
    let parts = halved rest c.split_at.result.0.now c.split_at.result.1.now (length rest / 2) _
    c.split_at.ensures.front c.split_at.ensures.back half in
    let on = front-found c.args.msg c.args.command rest c.split_at.result.0.now c.split_at.result.1.now _ parts
    c.loop-rest.invariant.order (sym c.is_for.ensures ∙ c.if-is_for.false)
    (sym c.is_before.ensures ∙ c.if-is_before.false) in
    record { order = on.1; found = sym on.0 ∙ c.loop-rest.invariant.found }
