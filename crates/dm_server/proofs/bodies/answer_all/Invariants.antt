use Rattle.std.proofs.Common.{◌≡◌, ◌++◌, drop}
use Rattle.dm_atomic.specs.Made.{told}
use Rattle.dm_service.specs.Answers.{answers_all}
use Rattle.dm_server.proofs.bodies.answer_all.Given as goal

abbrev pub invariant-loop-command : goal.invariant-loop-command
invariant-loop-command l =
    l.out ++ told (answers_all l.origin (drop l.command-index l.body)) ≡ l.fn.out ++ told (answers_all l.origin l.body)
