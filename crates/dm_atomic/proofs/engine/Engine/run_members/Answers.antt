use Rattle.std.proofs.Common.{rules, ◌∙◌, ap, drop, get_or}
use Rattle.std.proofs.Math.ListN.{length-set}
use Rattle.dm_atomic.specs.Run.{run_members}
use Rattle.dm_atomic.specs.Engine.{state_of, running}
use Rattle.dm_atomic.proofs.Held.{holds_then}
use Rattle.dm_atomic.proofs.Giving.{giving_breaks, giving_ends, members_over, member_still}
use Rattle.dm_atomic.proofs.Giving as giving
use Rattle.dm_atomic.proofs.Staying.{members_go_on}
use Rattle.dm_atomic.proofs.TasksAhead.{same_next, same_rest}
use Rattle.dm_atomic.proofs.engine.Engine.run_members.Goals as goal

pub returns-in_err-run_member-clause-err : goal.returns-in_err-run_member-clause-err
returns-in_err-run_member-clause-err c =
    let r = running c.args.self.now c.args.caller.now in
    let o = c.args.origin in
    let stands = giving_breaks
    (run_members r o (state_of c.loop-place.self) (drop c.loop-place.place c.args.members.now))
    (run_members r o (state_of c.args.self.now) c.args.members.now) c.args.out.now c.loop-place.out
    c.run_member.new.out c.loop-place.invariant.giving c.in_err-run_member.ensures.err in search rules

pub loop-place-preserved : goal.loop-place-preserved
loop-place-preserved c =
    let e = c.args.self.now in
    let i = c.loop-place.invariant in
    let r = running e c.args.caller.now in
    let o = c.args.origin in
    let now = c.loop-place.members in
    let k = c.loop-place.place in
    let m = get_or now k c.index-members-place.result in
    let is = same_next now c.args.members.now k m i.left (ap (get_or now k) c.index-members-place.is) in
    record {
      giving =
          giving.members_go_on r o (state_of c.loop-place.self) (state_of c.run_member.new.self) c.args.members.now k m
          (run_members r o (state_of e) c.args.members.now) c.args.out.now c.loop-place.out c.run_member.new.out
          i.giving c.loop-place-test.true is
          (member_still e c.loop-place.self c.args.caller.now o (state_of c.loop-place.self)
          (state_of c.run_member.new.self) m c.loop-place.out c.run_member.new.out i.clock i.max_obj
          c.in_ok-run_member.ensures.gives);
      left = same_rest now c.args.members.now k c.run_member.new.member i.left;
      long = length-set now k c.run_member.new.member ∙ i.long;
      clock = c.run_member.ensures.clock ∙ i.clock;
      max_obj = c.run_member.ensures.max_obj ∙ i.max_obj;
      ids = members_go_on e c.loop-place.self c.run_member.new.self c.args.members.now k m c.loop-place-test.true is
          i.ids c.run_member.ensures.ids;
      marks = holds_then e c.loop-place.self c.run_member.new.self i.marks c.run_member.ensures.marks;
      sound = c.run_member.ensures.sound;
    }

pub returns-clause-gives : goal.returns-clause-gives
returns-clause-gives c =
    let r = running c.args.self.now c.args.caller.now in
    let o = c.args.origin in
    giving_ends (run_members r o (state_of c.loop-place.self) (drop c.loop-place.place c.args.members.now))
    (run_members r o (state_of c.args.self.now) c.args.members.now) (state_of c.loop-place.self) c.args.out.now
    c.loop-place.out c.loop-place.invariant.giving
    (members_over r o (state_of c.loop-place.self) c.args.members.now c.loop-place.place c.loop-place-test.false)

pub returns-in_err-run_member-clause-marks : goal.returns-in_err-run_member-clause-marks
returns-in_err-run_member-clause-marks c =
    holds_then c.args.self.now c.loop-place.self c.run_member.new.self c.loop-place.invariant.marks
    c.run_member.ensures.marks

pub returns-in_err-run_member-clause-ids : goal.returns-in_err-run_member-clause-ids
returns-in_err-run_member-clause-ids c =
    let now = c.loop-place.members in
    let k = c.loop-place.place in
    let m = get_or now k c.index-members-place.result in
    members_go_on c.args.self.now c.loop-place.self c.run_member.new.self c.args.members.now k m
    c.loop-place-test.true
    (same_next now c.args.members.now k m c.loop-place.invariant.left (ap (get_or now k) c.index-members-place.is))
    c.loop-place.invariant.ids c.run_member.ensures.ids
