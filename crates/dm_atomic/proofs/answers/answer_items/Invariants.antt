use Rattle.std.proofs.Common.{drop}
use Rattle.dm_atomic.proofs.Telling.{IsTelling}
use Rattle.dm_atomic.proofs.Answering.{items_made}
use Rattle.dm_atomic.proofs.answers.answer_items.Given as goal

abbrev pub invariant-loop-place : goal.invariant-loop-place
invariant-loop-place l =
    IsTelling l.fn.out l.out (items_made l.code l.origin l.command l.place (drop l.place l.command.items))
    (items_made l.code l.origin l.command 0 l.command.items)
