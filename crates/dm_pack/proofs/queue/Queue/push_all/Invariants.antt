use Rattle.std.proofs.Common.{◌≡◌, ◌++◌, map}
use Rattle.dm_pack.specs.Entries.{whole_entry}
use Rattle.dm_pack.proofs.queue.Queue.push_all.Given as goal

abbrev pub invariant-loop-entry : goal.invariant-loop-entry
invariant-loop-entry l = l.self ≡ l.fn.self ++ map whole_entry l.yielded
