use Rattle.std.proofs.Common.{◌∙◌, ◌+◌, sym, ap, arith, drop, subst, Some}
use Rattle.syncml_types.specs.Message.{IsShortData}
use Rattle.syncml_parts.proofs.Short.{short_cut}
use Rattle.dm_pack.specs.Measures.{hollow_next, within}
use Rattle.dm_pack.proofs.Fit.{short_items}
use Rattle.dm_pack.proofs.Measuring.{reached}
use Rattle.dm_pack.proofs.Numbers.{few_ids}
use Rattle.dm_pack.proofs.Taking.{all_rest, one_more, ended}
use Rattle.dm_pack.proofs.fitting.take_entries.Goals as goal

pub with_data-requires-clause-short : goal.with_data-requires-clause-short
with_data-requires-clause-short c =
    let e = c.entry-entry.result.now in
    let ready =
    (all_rest (drop c.loop-at.at c.args.queue.now) e (drop (c.loop-at.at + 1) c.args.queue.now) c.entry-entry.ensures
    c.loop-at.invariant.ready).0 in
    subst IsShortData (sym c.left.ensures) (short_cut e.command (short_items e.command ready.fit.short_data))

pub returns-in-None-clause-whole : goal.returns-in-None-clause-whole
returns-in-None-clause-whole c =
    ended c.args.header.now c.args.room c.loop-at.at c.args.queue.now c.entry-entry.result.now c.loop-at.place
    c.loop-at.body
    c.loop-at.invariant c.entry-entry.ensures
    (c.in-None.ensures
    ∙ ap (within c.args.room)
    (reached c.loop-at.place c.with_hollow-hollow.result c.entry-entry.result.now c.left.result.now c.left.ensures
    c.with_hollow-hollow.ensures.place))

pub returns-in-None-clause-hollow : goal.returns-in-None-clause-hollow
returns-in-None-clause-hollow c =
    ap Some c.with_hollow-hollow.ensures.place ∙ ap (hollow_next c.loop-at.place) (sym c.entry-entry.ensures)

pub push_entry-requires : goal.push_entry-requires
push_entry-requires c =
    let e = c.entry-entry.result.now in
    let few =
    few_ids e (all_rest (drop c.loop-at.at c.args.queue.now) e (drop (c.loop-at.at + 1) c.args.queue.now)
    c.entry-entry.ensures c.loop-at.invariant.ready).0 in
    omega (arith, few, c.loop-at.invariant.used_low, c.loop-at.invariant.next_is_low)

pub loop-at-preserved : goal.loop-at-preserved
loop-at-preserved c =
    one_more c.args.header.now c.args.room c.loop-at.at c.args.queue.now c.entry-entry.result.now c.loop-at.place
    c.in-Some.next c.loop-at.body
    c.push_entry.new.body c.loop-at.invariant c.requires.room c.entry-entry.ensures
    (c.in-Some.ensures
    ∙ ap (within c.args.room)
    (reached c.loop-at.place c.with_hollow-hollow.result c.entry-entry.result.now c.left.result.now c.left.ensures
    c.with_hollow-hollow.ensures.place))
    c.in_ok-push_entry-in-Some.ensures
