use Rattle.std.proofs.Common.{rules, ◌+◌, drop, refl}
use Rattle.dm_atomic.specs.Run.{container, parts_done}
use Rattle.dm_atomic.proofs.Telling.{telling_goes_on, telling_ends, telling_breaks}
use Rattle.dm_atomic.proofs.MadeAhead.{next_done, none_ahead}
use Rattle.dm_atomic.proofs.containers.put_parts_done.Goals as goal

pub returns-in_err-put_container-clause-err : goal.returns-in_err-put_container-clause-err
returns-in_err-put_container-clause-err c =
    let stands = telling_breaks c.args.out.now c.loop-part.out c.put_container.new.out
    (parts_done (drop c.loop-part.part-index c.args.parts.now)) (parts_done c.args.parts.now)
    c.loop-part.invariant c.in_err-put_container.ensures.err in search rules

pub loop-part-preserved : goal.loop-part-preserved
loop-part-preserved c =
    telling_goes_on c.args.out.now c.loop-part.out c.put_container.new.out
    (parts_done (drop c.loop-part.part-index c.args.parts.now))
    (container c.part-item.result.post 200 c.part-item.result.reports)
    (parts_done (drop (c.loop-part.part-index + 1) c.args.parts.now))
    (parts_done c.args.parts.now)
    c.loop-part.invariant
    (next_done c.args.parts.now c.as_slice-part-items.result.now c.loop-part.part-index c.part-item.result
    c.as_slice-part-items.ensures c.loop-part-test.true c.part-item.is)
    c.in_ok-put_container.ensures.ok

pub returns-clause-ok : goal.returns-clause-ok
returns-clause-ok c =
    telling_ends c.args.out.now c.loop-part.out
    (parts_done (drop c.loop-part.part-index c.args.parts.now)) (parts_done c.args.parts.now)
    c.loop-part.invariant
    (none_ahead parts_done c.args.parts.now c.as_slice-part-items.result.now c.loop-part.part-index
    c.as_slice-part-items.ensures c.loop-part-test.false refl)
