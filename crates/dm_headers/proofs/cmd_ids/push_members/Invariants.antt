use Rattle.std.proofs.Common.{◌≡◌, ◌++◌, map, drop}
use Rattle.dm_headers.specs.CmdIds.{member_id}
use Rattle.dm_headers.proofs.cmd_ids.push_members.Given as goal

abbrev pub invariant-loop-member : goal.invariant-loop-member
invariant-loop-member l =
    l.ids ++ map member_id (drop l.member-index l.members) ≡ l.fn.ids ++ map member_id l.members
