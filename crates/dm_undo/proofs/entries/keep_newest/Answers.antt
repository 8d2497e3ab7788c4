use Rattle.std.proofs.Common.{◌∙◌, sym, subst, suc, arith, length, take, refl}
use Rattle.std.specs.Prelude.{reverse}
use Rattle.std.proofs.lemmas.List.{length-reverse}
use Rattle.dm_undo.specs.Trees.{newest_first}
use Rattle.dm_undo.specs.Sound.{AreAllHeld, AreSoundStages}
use Rattle.dm_undo.proofs.Unwinds.{Giving, giving_first, giving_may, giving_next, told-whole}
use Rattle.dm_undo.proofs.Helds.{given_held}
use Rattle.dm_undo.proofs.entries.keep_newest.Goals as goal

pub returns-then-len-count-clause-trees : goal.returns-then-len-count-clause-trees
returns-then-len-count-clause-trees c =
    told-whole c.args.count (length c.args.entries.now.items) (reverse c.args.entries.now.items) c.args.tree.now.rows
    (omega (arith, c.if-len-count.true, c.len.ensures, c.args.entries.now.ok.0))
    (length-reverse c.args.entries.now.items)

pub loop-entries-init : goal.loop-entries-init
loop-entries-init c = record {
  giving =
      let es = reverse c.args.entries.now.items in
      let long = length-reverse c.args.entries.now.items in
      let g = giving_first c.args.count es c.args.tree.now.rows (omega (arith, long, c.requires.held))
      (subst (λ n. AreSoundStages n es c.args.tree.now.rows) (sym long) c.requires.sound) c.requires.within in
      subst (λ n. Giving c.args.count (take c.args.count es) c.reverse.new.self.items c.args.tree.now.rows
      (take (suc c.args.count) (newest_first n es c.args.tree.now.rows))) long
      (subst (λ l. Giving c.args.count (take c.args.count es) l c.args.tree.now.rows
      (take (suc c.args.count) (newest_first (length es) es c.args.tree.now.rows))) (sym c.reverse.ensures.items)
      g);
  parked = λ all. subst (λ l. AreAllHeld l c.args.tree.now.rows) (sym c.reverse.ensures.items) all;
  room = c.reverse.ensures.capacity;
  clock = refl;
}

pub give_up-requires : goal.give_up-requires
give_up-requires c = record {
  held = giving_may _ _ c.loop-entries.entries.items c.take_last-entry.new.self.items c.take_last-entry.result
      c.loop-entries.tree.rows _ c.loop-entries.invariant.giving
      (omega (arith, c.loop-entries-test.true, c.len-in-loop-entries.ensures, c.loop-entries.entries.ok.0))
      c.take_last-entry.ensures.items;
}

pub loop-entries-preserved : goal.loop-entries-preserved
loop-entries-preserved c = record {
  giving = giving_next _ _ c.loop-entries.entries.items c.take_last-entry.new.self.items c.take_last-entry.result
      c.loop-entries.tree.rows _ _ c.loop-entries.invariant.giving
      (omega (arith, c.loop-entries-test.true, c.len-in-loop-entries.ensures, c.loop-entries.entries.ok.0))
      c.take_last-entry.ensures.items c.give_up.ensures.alike;
  parked = λ all. given_held c.loop-entries.entries.items c.take_last-entry.new.self.items c.take_last-entry.result
      c.loop-entries.tree.rows _ c.take_last-entry.ensures.items c.give_up.ensures.parked
      (c.loop-entries.invariant.parked all);
  room = c.take_last-entry.ensures.capacity ∙ c.loop-entries.invariant.room;
  clock = c.give_up.ensures.clock ∙ c.loop-entries.invariant.clock;
}
