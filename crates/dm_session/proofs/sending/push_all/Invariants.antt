use Rattle.std.proofs.Common.{◌≡◌, ◌++◌, map}
use Rattle.dm_pack.specs.Entries.{whole_entry}
use Rattle.dm_session.proofs.sending.push_all.Given as goal

abbrev pub invariant-loop-entry : goal.invariant-loop-entry
invariant-loop-entry l = l.queue ≡ l.fn.queue ++ map whole_entry l.yielded
