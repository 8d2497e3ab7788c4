use Rattle.std.proofs.Common.{◌≡◌, ◌++◌, drop}
use Rattle.dm_server.specs.Working.{sent_without}
use Rattle.dm_server.proofs.giving_up.sent_without.Given as goal

abbrev pub invariant-loop-command : goal.invariant-loop-command
invariant-loop-command l =
    l.left ++ sent_without l.first l.count (drop l.command-index l.sent) ≡ sent_without l.first l.count l.sent
