use Rattle.std.proofs.Common.{rules, false, ◌+◌, drop, refl}
use Rattle.dm_atomic.specs.Tasks.{member_tasks}
use Rattle.dm_atomic.specs.Posts.{task_posts}
use Rattle.dm_atomic.specs.Answers.{statuses}
use Rattle.dm_atomic.proofs.Telling.{telling_goes_on, telling_ends, telling_breaks}
use Rattle.dm_atomic.proofs.MadeAhead.{none_ahead}
use Rattle.dm_atomic.proofs.Answering.{members_made, next_member_made}
use Rattle.dm_atomic.proofs.answers.answer_members.Goals as goal

pub returns-in_err-answer_member-clause-err : goal.returns-in_err-answer_member-clause-err
returns-in_err-answer_member-clause-err c =
    let stands = telling_breaks c.args.out.now c.loop-member.out c.answer_member.new.out
    (members_made c.args.code c.args.origin (drop c.loop-member.member-index c.args.members.now))
    (members_made c.args.code c.args.origin c.args.members.now)
    c.loop-member.invariant c.in_err-answer_member.ensures.err in search rules

pub loop-member-preserved : goal.loop-member-preserved
loop-member-preserved c =
    telling_goes_on c.args.out.now c.loop-member.out c.answer_member.new.out
    (members_made c.args.code c.args.origin (drop c.loop-member.member-index c.args.members.now))
    (statuses c.args.code (task_posts (member_tasks c.args.origin false c.member-item.result)))
    (members_made c.args.code c.args.origin (drop (c.loop-member.member-index + 1) c.args.members.now))
    (members_made c.args.code c.args.origin c.args.members.now)
    c.loop-member.invariant
    (next_member_made c.args.code c.args.origin c.args.members.now c.as_slice-member-items.result.now
    c.loop-member.member-index c.member-item.result c.as_slice-member-items.ensures c.loop-member-test.true
    c.member-item.is)
    c.in_ok-answer_member.ensures.ok

pub returns-clause-ok : goal.returns-clause-ok
returns-clause-ok c =
    telling_ends c.args.out.now c.loop-member.out
    (members_made c.args.code c.args.origin (drop c.loop-member.member-index c.args.members.now))
    (members_made c.args.code c.args.origin c.args.members.now)
    c.loop-member.invariant
    (none_ahead (members_made c.args.code c.args.origin) c.args.members.now c.as_slice-member-items.result.now
    c.loop-member.member-index c.as_slice-member-items.ensures c.loop-member-test.false refl)
