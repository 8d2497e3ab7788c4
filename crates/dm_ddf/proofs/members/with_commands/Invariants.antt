use Rattle.std.proofs.Common.{◌≡◌, length}
use Rattle.dm_ddf.specs.Fields.{plus_members, with_commands}
use Rattle.dm_ddf.proofs.members.with_commands.Given as goal

abbrev pub invariant-members : goal.invariant-members
invariant-members l = with_commands l.fn.access (plus_members l.fn.text) ≡ with_commands l.so_far (plus_members l.rest)

abbrev pub decreases-members : goal.decreases-members
decreases-members l = length l.rest
