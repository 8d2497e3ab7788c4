use Rattle.std.proofs.Common.{rules, ◌+◌, map, drop, refl}
use Rattle.dm_atomic.specs.Run.{undone, container, parts_undone}
use Rattle.dm_atomic.proofs.Telling.{telling_goes_on, telling_ends, telling_breaks}
use Rattle.dm_atomic.proofs.MadeAhead.{next_part_undone, none_ahead}
use Rattle.dm_atomic.proofs.containers.put_parts_undone.Goals as goal

pub returns-in_err-put_part_undone-clause-err : goal.returns-in_err-put_part_undone-clause-err
returns-in_err-put_part_undone-clause-err c =
    let stands = telling_breaks c.args.out.now c.loop-part.out c.put_part_undone.new.out
    (parts_undone (drop c.loop-part.part-index c.args.parts.now)) (parts_undone c.args.parts.now)
    c.loop-part.invariant c.in_err-put_part_undone.ensures.err in search rules

pub loop-part-preserved : goal.loop-part-preserved
loop-part-preserved c =
    telling_goes_on c.args.out.now c.loop-part.out c.put_part_undone.new.out
    (parts_undone (drop c.loop-part.part-index c.args.parts.now))
    (container c.part-item.result.post 507 (map undone c.part-item.result.reports))
    (parts_undone (drop (c.loop-part.part-index + 1) c.args.parts.now))
    (parts_undone c.args.parts.now)
    c.loop-part.invariant
    (next_part_undone c.args.parts.now c.as_slice-part-items.result.now c.loop-part.part-index c.part-item.result
    c.as_slice-part-items.ensures c.loop-part-test.true c.part-item.is)
    c.in_ok-put_part_undone.ensures.ok

pub returns-clause-ok : goal.returns-clause-ok
returns-clause-ok c =
    telling_ends c.args.out.now c.loop-part.out
    (parts_undone (drop c.loop-part.part-index c.args.parts.now)) (parts_undone c.args.parts.now)
    c.loop-part.invariant
    (none_ahead parts_undone c.args.parts.now c.as_slice-part-items.result.now c.loop-part.part-index
    c.as_slice-part-items.ensures c.loop-part-test.false refl)
