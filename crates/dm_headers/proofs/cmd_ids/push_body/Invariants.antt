use Rattle.std.proofs.Common.{◌≡◌, ◌++◌, drop}
use Rattle.dm_headers.specs.CmdIds.{body_ids}
use Rattle.dm_headers.proofs.cmd_ids.push_body.Given as goal

abbrev pub invariant-loop-command : goal.invariant-loop-command
invariant-loop-command l = l.ids ++ body_ids (drop l.command-index l.body) ≡ l.fn.ids ++ body_ids l.body
