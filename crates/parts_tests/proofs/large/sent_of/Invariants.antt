use Rattle.std.specs.List.{AllByRecursion}
use Rattle.dm_pack.specs.Entries.{IsReady}
use Rattle.parts_tests.proofs.large.sent_of.Given as goal

abbrev pub invariant-loop : goal.invariant-loop
invariant-loop l = AllByRecursion IsReady l.queue
