use Rattle.std.proofs.Common.{◌∙◌, ap, get_or}
use Rattle.std.proofs.Math.ListN.{length-set}
use Rattle.dm_atomic.specs.Run.{run_all}
use Rattle.dm_atomic.specs.Engine.{state_of, running}
use Rattle.dm_atomic.proofs.TasksAhead.{same_next, same_rest}
use Rattle.dm_session.proofs.Frames.{keeps_on}
use Rattle.dm_session.proofs.Runs.{run_goes_on, run_still}
use Rattle.dm_session.proofs.executing.run_all.Goals as goal

pub returns-in_err-run-clause-keeps : goal.returns-in_err-run-clause-keeps
returns-in_err-run-clause-keeps c =
    let now = c.loop-place.body in
    let k = c.loop-place.place in
    let d = get_or now k c.index-body-place.result in
    keeps_on c.args.engine.now c.loop-place.engine c.run.new.self c.args.body.now k d c.loop-place-test.true
    (same_next now c.args.body.now k d c.loop-place.invariant.left (ap (get_or now k) c.index-body-place.is))
    c.loop-place.invariant.keeps
    (record {
      clock = c.run.ensures.clock;
      max_obj = c.run.ensures.max_obj;
      ids = c.run.ensures.ids;
      marks = c.run.ensures.marks;
      sound = c.run.ensures.sound;
    })

pub loop-place-preserved : goal.loop-place-preserved
loop-place-preserved c =
    let e = c.args.engine.now in
    let f = c.loop-place.engine in
    let i = c.loop-place.invariant in
    let r = running e c.args.caller.now in
    let o = c.args.origin in
    let body = c.args.body.now in
    let now = c.loop-place.body in
    let k = c.loop-place.place in
    let d = get_or now k c.index-body-place.result in
    let is = same_next now body k d i.left (ap (get_or now k) c.index-body-place.is) in
    record {
      giving = run_goes_on r o (state_of f) (state_of c.run.new.self) body k d (run_all r o (state_of e) body)
          c.args.out.now c.loop-place.out c.run.new.out i.giving c.loop-place-test.true is
          (run_still e f c.args.caller.now o (state_of f) (state_of c.run.new.self) d c.loop-place.out c.run.new.out
          i.keeps.clock i.keeps.max_obj c.in_ok-run.ensures.gives);
      left = same_rest now body k c.run.new.command i.left;
      long = length-set now k c.run.new.command ∙ i.long;
      keeps = keeps_on e f c.run.new.self body k d c.loop-place-test.true is i.keeps (record {
        clock = c.run.ensures.clock;
        max_obj = c.run.ensures.max_obj;
        ids = c.run.ensures.ids;
        marks = c.run.ensures.marks;
        sound = c.run.ensures.sound;
      });
    }
