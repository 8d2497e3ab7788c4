use Rattle.std.proofs.Common.{rules, ◌+◌, drop, refl}
use Rattle.dm_atomic.specs.Posts.{member_posts}
use Rattle.dm_atomic.specs.Answers.{statuses}
use Rattle.dm_atomic.proofs.Telling.{telling_goes_on, telling_ends, telling_breaks}
use Rattle.dm_atomic.proofs.MadeAhead.{none_ahead}
use Rattle.dm_atomic.proofs.Answering.{seq_made, next_seq_made}
use Rattle.dm_atomic.proofs.answers.answer_seq_members.Goals as goal

pub returns-in_err-answer_seq_member-clause-err : goal.returns-in_err-answer_seq_member-clause-err
returns-in_err-answer_seq_member-clause-err c =
    let stands = telling_breaks c.args.out.now c.loop-member.out c.answer_seq_member.new.out
    (seq_made c.args.code c.args.origin (drop c.loop-member.member-index c.args.members.now))
    (seq_made c.args.code c.args.origin c.args.members.now)
    c.loop-member.invariant c.in_err-answer_seq_member.ensures.err in search rules

pub loop-member-preserved : goal.loop-member-preserved
loop-member-preserved c =
    telling_goes_on c.args.out.now c.loop-member.out c.answer_seq_member.new.out
    (seq_made c.args.code c.args.origin (drop c.loop-member.member-index c.args.members.now))
    (statuses c.args.code (member_posts c.args.origin c.member-item.result))
    (seq_made c.args.code c.args.origin (drop (c.loop-member.member-index + 1) c.args.members.now))
    (seq_made c.args.code c.args.origin c.args.members.now)
    c.loop-member.invariant
    (next_seq_made c.args.code c.args.origin c.args.members.now c.as_slice-member-items.result.now
    c.loop-member.member-index c.member-item.result c.as_slice-member-items.ensures c.loop-member-test.true
    c.member-item.is)
    c.in_ok-answer_seq_member.ensures.ok

pub returns-clause-ok : goal.returns-clause-ok
returns-clause-ok c =
    telling_ends c.args.out.now c.loop-member.out
    (seq_made c.args.code c.args.origin (drop c.loop-member.member-index c.args.members.now))
    (seq_made c.args.code c.args.origin c.args.members.now)
    c.loop-member.invariant
    (none_ahead (seq_made c.args.code c.args.origin) c.args.members.now c.as_slice-member-items.result.now
    c.loop-member.member-index c.as_slice-member-items.ensures c.loop-member-test.false refl)
