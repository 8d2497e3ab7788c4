use Rattle.std.proofs.Common.{◌≡◌, ◌+◌, drop}
use Rattle.dm_job.specs.Sound.{all_entries}
use Rattle.dm_service.specs.Packages.{commands_in}
use Rattle.dm_server.proofs.packages.commands_in_all.Given as goal

abbrev pub invariant-loop-package : goal.invariant-loop-package
invariant-loop-package l =
    l.count + commands_in (all_entries (drop l.package-index l.packages)) ≡ commands_in (all_entries l.packages)
