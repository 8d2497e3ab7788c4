use Rattle.dm_ddf.proofs.Signs.{one_member, first_member}
use Rattle.dm_ddf.proofs.members.cut_member.Goals as goal

pub returns-in-Some-clause-members : goal.returns-in-Some-clause-members
returns-in-Some-clause-members c = first_member c.args.text.now c.in-Some.at c.in-Some.ensures

pub returns-in-None-clause-members : goal.returns-in-None-clause-members
returns-in-None-clause-members c = one_member c.args.text.now c.in-None.ensures
