use Rattle.dm_pack.proofs.TakenMost.{takes_the_most, cuts_the_most}
use Rattle.dm_pack.proofs.laws.the_most_is_taken.Goals as goal

pub returns-clause-whole : goal.returns-clause-whole
returns-clause-whole c = takes_the_most

pub returns-clause-cut : goal.returns-clause-cut
returns-clause-cut c = cuts_the_most
