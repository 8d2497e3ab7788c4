use Rattle.std.proofs.Common.{◌≡◌, ◌+◌, drop}
use Rattle.dm_service.specs.Packages.{commands_in}
use Rattle.dm_server.proofs.packages.commands_in.Given as goal

abbrev pub invariant-loop-entry : goal.invariant-loop-entry
invariant-loop-entry l = l.count + commands_in (drop l.entry-index l.entries) ≡ commands_in l.entries
