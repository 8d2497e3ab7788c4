use Rattle.std.proofs.Common.{◌≡◌, ◌++◌, map}
use Rattle.dm_service.specs.Messages.{answer_waiting}
use Rattle.dm_waiting.proofs.waiting_list.WaitingList.push_answers.Given as goal

abbrev pub invariant-loop-answer : goal.invariant-loop-answer
invariant-loop-answer l = l.self ≡ l.fn.self ++ map answer_waiting l.yielded
