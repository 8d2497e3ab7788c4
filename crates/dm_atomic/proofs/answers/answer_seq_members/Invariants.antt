use Rattle.std.proofs.Common.{drop}
use Rattle.dm_atomic.proofs.Telling.{IsTelling}
use Rattle.dm_atomic.proofs.Answering.{seq_made}
use Rattle.dm_atomic.proofs.answers.answer_seq_members.Given as goal

abbrev pub invariant-loop-member : goal.invariant-loop-member
invariant-loop-member l =
    IsTelling l.fn.out l.out (seq_made l.code l.origin (drop l.member-index l.members))
    (seq_made l.code l.origin l.members)
