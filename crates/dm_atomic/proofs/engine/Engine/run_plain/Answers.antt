use Rattle.std.proofs.Common.{rules, ◌∙◌, ◌+◌, drop, false, refl}
use Rattle.syncml_types.specs.declared.command.Command.TheVariants as commands
use Rattle.dm_atomic.specs.Tasks.{item_tasks, plain_tasks}
use Rattle.dm_atomic.specs.Run.{in_sequence}
use Rattle.dm_atomic.specs.Engine.{state_of, running}
use Rattle.dm_atomic.specs.Marks.{whole_of}
use Rattle.dm_atomic.specs.Stays.{covers}
use Rattle.dm_atomic.proofs.Held.{holds_self, holds_then}
use Rattle.dm_atomic.proofs.Covering.{all_within, left_within, task_stays}
use Rattle.dm_atomic.proofs.Giving.{giving_starts, giving_breaks, tasks_go_on, alone_still}
use Rattle.dm_atomic.proofs.Staying.{stay_self}
use Rattle.dm_atomic.proofs.engine.Engine.run_plain.Goals as goal

pub loop-place-init : goal.loop-place-init
loop-place-init c =
    let e = c.args.self.now in
    let command = c.args.command.now in
    record {
      giving = giving_starts
          (in_sequence (running e c.args.caller.now) (state_of e) (plain_tasks c.args.origin false command))
          c.args.out.now;
      within = all_within c.args.origin command;
      count = refl;
      clock = refl;
      max_obj = refl;
      ids = stay_self (covers (commands.Plain command)) (whole_of e);
      marks = holds_self e;
      sound = c.requires.sound;
    }

pub returns-in_err-one_alone-clause-err : goal.returns-in_err-one_alone-clause-err
returns-in_err-one_alone-clause-err c =
    let r = running c.args.self.now c.args.caller.now in
    let o = c.args.origin in
    let now = c.loop-place.command in
    let stands = giving_breaks
    (in_sequence r (state_of c.loop-place.self)
    (item_tasks o false now c.loop-place.place (drop c.loop-place.place now.items)))
    (in_sequence r (state_of c.args.self.now) (plain_tasks o false c.args.command.now)) c.args.out.now c.loop-place.out
    c.one_alone.new.out c.loop-place.invariant.giving c.in_err-one_alone.ensures.err in search rules

pub returns-in_err-one_alone-clause-ids : goal.returns-in_err-one_alone-clause-ids
returns-in_err-one_alone-clause-ids c =
    let o = c.args.origin in
    let now = c.loop-place.command in
    let new = c.take_task.new.command in
    let k = c.loop-place.place in
    task_stays c.args.command.now (item_tasks o false now k (drop k now.items))
    (item_tasks o false new (k + 1) (drop (k + 1) new.items)) c.in_ok-task.task (whole_of c.args.self.now)
    (whole_of c.loop-place.self) (whole_of c.one_alone.new.self) c.loop-place.invariant.within
    c.in_ok-task.ensures.task c.loop-place.invariant.ids c.one_alone.ensures.ids

pub loop-place-preserved : goal.loop-place-preserved
loop-place-preserved c =
    let e = c.args.self.now in
    let i = c.loop-place.invariant in
    let r = running e c.args.caller.now in
    let o = c.args.origin in
    let s = state_of c.loop-place.self in
    let next = state_of c.one_alone.new.self in
    let now = c.loop-place.command in
    let new = c.take_task.new.command in
    let k = c.loop-place.place in
    let ahead = item_tasks o false now k (drop k now.items) in
    let left = item_tasks o false new (k + 1) (drop (k + 1) new.items) in
    let t = c.in_ok-task.task in
    record {
      giving = tasks_go_on r s next ahead left t
          (in_sequence r (state_of e) (plain_tasks o false c.args.command.now)) c.args.out.now c.loop-place.out
          c.one_alone.new.out i.giving c.in_ok-task.ensures.task
          (alone_still e c.loop-place.self c.args.caller.now s next t c.loop-place.out c.one_alone.new.out i.clock
          i.max_obj c.in_ok-one_alone.ensures.gives);
      within = left_within c.args.command.now ahead left t i.within c.in_ok-task.ensures.task;
      count = c.take_task.ensures.count ∙ i.count;
      clock = c.one_alone.ensures.clock ∙ i.clock;
      max_obj = c.one_alone.ensures.max_obj ∙ i.max_obj;
      ids = task_stays c.args.command.now ahead left t (whole_of e) (whole_of c.loop-place.self)
          (whole_of c.one_alone.new.self) i.within c.in_ok-task.ensures.task i.ids c.one_alone.ensures.ids;
      marks = holds_then e c.loop-place.self c.one_alone.new.self i.marks c.one_alone.ensures.marks;
      sound = c.one_alone.ensures.sound;
    }
