use Rattle.std.proofs.Common.{drop}
use Rattle.dm_atomic.proofs.Telling.{IsTelling}
use Rattle.dm_atomic.proofs.Answering.{members_made}
use Rattle.dm_atomic.proofs.answers.answer_members.Given as goal

abbrev pub invariant-loop-member : goal.invariant-loop-member
invariant-loop-member l =
    IsTelling l.fn.out l.out (members_made l.code l.origin (drop l.member-index l.members))
    (members_made l.code l.origin l.members)
