use Rattle.std.proofs.Common.{◌≡◌, drop}
use Rattle.dm_headers.specs.Checks.{header_status}
use Rattle.dm_headers.proofs.statuses.first_status.Given as goal

abbrev pub invariant-loop-command : goal.invariant-loop-command
invariant-loop-command l = header_status l.own (drop l.command-index l.body) ≡ header_status l.own l.body
