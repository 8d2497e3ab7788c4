use Rattle.std.proofs.Common.{◌≡◌, [], length}
use Rattle.dm_ddf.specs.Fields.{plus_members, with_formats}
use Rattle.dm_ddf.proofs.members.leaf_formats.Given as goal

abbrev pub invariant-members : goal.invariant-members
invariant-members l = with_formats [] (plus_members l.fn.text) ≡ with_formats l.formats (plus_members l.rest)

abbrev pub decreases-members : goal.decreases-members
decreases-members l = length l.rest
