use Rattle.dm_tree.proofs.Common.{arith, get_or_default, blank}
use Rattle.dm_tree.proofs.RowCounts.{off_taken_out, read_off, less_deep, off_up, off_last}
use Rattle.dm_tree.proofs.sizes.count_out.Goals as goal

pub loop-at-init : goal.loop-at-init
loop-at-init c =
    rw (get_or_default c.args.rows.now c.args.id c.index-rows-id.result blank c.requires.inside)
    (off_taken_out c.args.rows.now c.args.id c.requires.inside c.requires.out c.requires.before c.args.sizes.now.items
    c.requires.sizes c.index-fewer.result.now c.index-fewer.ensures)

pub overflow_sub-index_mut : goal.overflow_sub-index_mut
overflow_sub-index_mut c =
    let read = read_off c.loop-at.invariant _ c.index_mut.ensures.value in omega (arith, read, c.requires.shaped.few)

pub returns-then-not-rows-at : goal.returns-then-not-rows-at
returns-then-not-rows-at c =
    let read = read_off c.loop-at.invariant _ c.index_mut.ensures.value in
    off_last c.loop-at.invariant _ c.if-not-rows-at.true _ _ c.index_mut.ensures.value (omega (arith, read))

pub loop-at-smaller : goal.loop-at-smaller
loop-at-smaller c = less_deep c.loop-at.invariant c.requires.shaped _ _ c.if-not-rows-at.false

pub loop-at-preserved : goal.loop-at-preserved
loop-at-preserved c =
    let read = read_off c.loop-at.invariant _ c.index_mut.ensures.value in
    off_up c.loop-at.invariant c.requires.shaped _ _ c.if-not-rows-at.false _ _ c.index_mut.ensures.value
    (omega (arith, read))
