use Rattle.std.proofs.Common.{◌≡◌, ◌++◌, drop}
use Rattle.dm_headers.specs.CmdIds.{seq_members_ids}
use Rattle.dm_headers.proofs.cmd_ids.push_seq_members.Given as goal

abbrev pub invariant-loop-member : goal.invariant-loop-member
invariant-loop-member l =
    l.ids ++ seq_members_ids (drop l.member-index l.members) ≡ l.fn.ids ++ seq_members_ids l.members
