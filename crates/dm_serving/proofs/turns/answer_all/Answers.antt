use Rattle.std.proofs.Common.{refl, Ok, Err, ◌∙◌, ◌+◌}
use Rattle.dm_serving.specs.Turns.{VisitDoes, AllCame, AllDo}
use Rattle.dm_serving.proofs.Gathering.{told_same, told_then, first_came, one_came, one_ended}
use Rattle.dm_serving.proofs.turns.answer_all.Goals as goal

pub loop-init : goal.loop-init
loop-init g c = record {
  empty = c.requires.empty;
  so_far = told_same _ (AllCame g.X.Core.machine 0 c.args.core.now c.args.core.now) (first_came g.X.Core.machine c.args.core.now);
  faults = refl;
}

pub returns-in-Err-clause-turns : goal.returns-in-Err-clause-turns
returns-in-Err-clause-turns g c =
    let m = g.X.Core.machine in
    told_then _ _ _ (AllCame m c.loop.counter c.args.core.now c.loop.core)
    (VisitDoes m c.loop.core c.answer_one.new.core (Err c.in-Err.fault))
    (AllDo m c.args.count c.args.core.now c.answer_one.new.core (Err c.in-Err.fault))
    (one_ended m c.loop.counter c.args.count c.args.core.now c.loop.core c.answer_one.new.core c.in-Err.fault c.loop-test.true)
    c.loop.invariant.so_far c.in-Err.ensures.turn

pub loop-preserved : goal.loop-preserved
loop-preserved g c =
    let m = g.X.Core.machine in
    record {
      empty = c.answer_one.ensures.empty;
      so_far = told_then _ _ _ (AllCame m c.loop.counter c.args.core.now c.loop.core)
          (VisitDoes m c.loop.core c.answer_one.new.core (Ok tt))
          (AllCame m (c.loop.counter + 1) c.args.core.now c.answer_one.new.core)
          (one_came m c.loop.counter c.args.core.now c.loop.core c.answer_one.new.core)
          c.loop.invariant.so_far c.in-Ok.ensures.turn;
      faults = c.in-Ok.ensures.count ∙ c.loop.invariant.faults;
    }
