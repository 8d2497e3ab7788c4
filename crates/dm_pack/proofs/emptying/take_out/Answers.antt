use Rattle.std.proofs.Common.{◌∙◌, ◌+◌, sym, ap, arith, drop, subst, Some}
use Rattle.syncml_types.specs.Message.{IsShortData}
use Rattle.syncml_parts.proofs.Short.{short_cut}
use Rattle.dm_pack.specs.Measures.{hollow_next, within}
use Rattle.dm_pack.proofs.Fit.{short_items}
use Rattle.dm_pack.proofs.Measuring.{reached}
use Rattle.dm_pack.proofs.Numbers.{few_ids}
use Rattle.dm_pack.proofs.Taking.{all_rest, one_more, ended, all_taken}
use Rattle.dm_pack.proofs.Moving.{first_left, rest_left, some_left}
use Rattle.dm_pack.proofs.emptying.take_out.Goals as goal

pub first-entry-requires : goal.first-entry-requires
first-entry-requires c =
    let low = c.loop-at-test.true in
    some_left c.args.queue.now c.loop-at.queue c.loop-at.at c.loop-at.invariant.queue (omega arith)

pub with_hollow-hollow-requires-clause-ready : goal.with_hollow-hollow-requires-clause-ready
with_hollow-hollow-requires-clause-ready c =
    (all_rest (drop c.loop-at.at c.args.queue.now) c.first-entry.result.now (drop (c.loop-at.at + 1) c.args.queue.now)
    (first_left c.args.queue.now c.loop-at.queue c.loop-at.at c.first-entry.result.now c.loop-at.invariant.queue
    c.first-entry.ensures)
    c.loop-at.invariant.taken.ready).0

pub with_data-requires-clause-short : goal.with_data-requires-clause-short
with_data-requires-clause-short c =
    let e = c.first-entry.result.now in
    let ready =
    (all_rest (drop c.loop-at.at c.args.queue.now) e (drop (c.loop-at.at + 1) c.args.queue.now)
    (first_left c.args.queue.now c.loop-at.queue c.loop-at.at e c.loop-at.invariant.queue c.first-entry.ensures)
    c.loop-at.invariant.taken.ready).0 in
    subst IsShortData (sym c.left.ensures) (short_cut e.command (short_items e.command ready.fit.short_data))

pub returns-in-None-clause-whole : goal.returns-in-None-clause-whole
returns-in-None-clause-whole c =
    ended c.args.header.now c.args.room c.loop-at.at c.args.queue.now c.first-entry.result.now c.loop-at.place
    c.loop-at.body
    c.loop-at.invariant.taken
    (first_left c.args.queue.now c.loop-at.queue c.loop-at.at c.first-entry.result.now c.loop-at.invariant.queue
    c.first-entry.ensures)
    (c.in-None.ensures
    ∙ ap (within c.args.room)
    (reached c.loop-at.place c.with_hollow-hollow.result c.first-entry.result.now c.left.result.now c.left.ensures
    c.with_hollow-hollow.ensures.place))

pub returns-in-None-clause-hollow : goal.returns-in-None-clause-hollow
returns-in-None-clause-hollow c =
    ap Some c.with_hollow-hollow.ensures.place ∙ ap (hollow_next c.loop-at.place) (sym c.first-entry.ensures)

pub loop-at-preserved : goal.loop-at-preserved
loop-at-preserved c =
    let e = c.first-entry.result.now in
    let first =
    first_left c.args.queue.now c.loop-at.queue c.loop-at.at e c.loop-at.invariant.queue c.first-entry.ensures in
    record {
      taken =
          one_more c.args.header.now c.args.room c.loop-at.at c.args.queue.now e c.loop-at.place
          c.in-Some.next c.loop-at.body
          c.move_first.new.body c.loop-at.invariant.taken c.requires.room first
          (c.in-Some.ensures
          ∙ ap (within c.args.room)
          (reached c.loop-at.place c.with_hollow-hollow.result e c.left.result.now c.left.ensures
          c.with_hollow-hollow.ensures.place))
          (c.in_ok-move_first-in-Some.ensures.body e (drop 1 c.loop-at.queue) c.first-entry.ensures);
      queue =
          c.in_ok-move_first-in-Some.ensures.queue e (drop 1 c.loop-at.queue) c.first-entry.ensures
          ∙ rest_left c.args.queue.now c.loop-at.queue c.loop-at.at c.loop-at.invariant.queue;
    }

pub move_first-requires-clause-room : goal.move_first-requires-clause-room
move_first-requires-clause-room c e es is =
    let few =
    few_ids e (all_rest (drop c.loop-at.at c.args.queue.now) e es (sym c.loop-at.invariant.queue ∙ is)
    c.loop-at.invariant.taken.ready).0 in
    omega (arith, few, c.loop-at.invariant.taken.used_low, c.loop-at.invariant.taken.next_is_low)
