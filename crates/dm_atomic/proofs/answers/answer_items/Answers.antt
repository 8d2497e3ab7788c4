use Rattle.std.proofs.Common.{rules, ◌∷◌, ◌++◌, ◌+◌, ◌∙◌, [], drop, ap, refl}
use Rattle.dm_atomic.specs.Tasks.{item_post}
use Rattle.dm_atomic.specs.Made.{told, Status}
use Rattle.dm_atomic.proofs.Telling.{telling_goes_on, telling_ends, telling_stops}
use Rattle.dm_atomic.proofs.Answering.{items_made, next_item_made, no_item_made}
use Rattle.dm_atomic.proofs.answers.answer_items.Goals as goal

pub returns-in_err-post-clause-err : goal.returns-in_err-post-clause-err
returns-in_err-post-clause-err c =
    let stands = telling_stops c.args.out.now c.loop-place.out c.loop-place.out
    (items_made c.args.code c.args.origin c.args.command.now c.loop-place.place
    (drop c.loop-place.place c.args.command.now.items))
    (items_made c.args.code c.args.origin c.args.command.now 0 c.args.command.now.items)
    c.loop-place.invariant refl in search rules

pub returns-in_err-put_status-clause-err : goal.returns-in_err-put_status-clause-err
returns-in_err-put_status-clause-err c =
    let stands = telling_stops c.args.out.now c.loop-place.out c.put_status.new.out
    (items_made c.args.code c.args.origin c.args.command.now c.loop-place.place
    (drop c.loop-place.place c.args.command.now.items))
    (items_made c.args.code c.args.origin c.args.command.now 0 c.args.command.now.items)
    c.loop-place.invariant c.in_err-put_status.ensures.err in search rules

pub loop-place-preserved : goal.loop-place-preserved
loop-place-preserved c =
    telling_goes_on c.args.out.now c.loop-place.out c.put_status.new.out
    (items_made c.args.code c.args.origin c.args.command.now c.loop-place.place
    (drop c.loop-place.place c.args.command.now.items))
    (Status (item_post c.args.origin c.args.command.now c.loop-place.place c.item-item.result) c.args.code ∷ [])
    (items_made c.args.code c.args.origin c.args.command.now (c.loop-place.place + 1)
    (drop (c.loop-place.place + 1) c.args.command.now.items))
    (items_made c.args.code c.args.origin c.args.command.now 0 c.args.command.now.items)
    c.loop-place.invariant
    (next_item_made c.args.code c.args.origin c.args.command.now c.args.command.now.items
    c.as_slice-item-items.result.now c.loop-place.place c.item-item.result c.as_slice-item-items.ensures
    c.loop-place-test.true c.item-item.is)
    (c.in_ok-put_status.ensures.ok
    ∙ ap (λ p. c.loop-place.out ++ told (Status p c.args.code ∷ [])) c.in_ok-post.ensures)

pub returns-clause-ok : goal.returns-clause-ok
returns-clause-ok c =
    telling_ends c.args.out.now c.loop-place.out
    (items_made c.args.code c.args.origin c.args.command.now c.loop-place.place
    (drop c.loop-place.place c.args.command.now.items))
    (items_made c.args.code c.args.origin c.args.command.now 0 c.args.command.now.items)
    c.loop-place.invariant
    (no_item_made c.args.code c.args.origin c.args.command.now c.args.command.now.items
    c.as_slice-item-items.result.now c.loop-place.place c.as_slice-item-items.ensures c.loop-place-test.false)
