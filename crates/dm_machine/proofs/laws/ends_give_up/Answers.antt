use Rattle.dm_machine.proofs.Ends.{ends_give_up}
use Rattle.dm_machine.proofs.Counting.{farewells}
use Rattle.dm_machine.proofs.laws.ends_give_up.Goals as goal

pub returns-clause-given_up : goal.returns-clause-given_up
returns-clause-given_up c = ends_give_up

pub returns-clause-farewell : goal.returns-clause-farewell
returns-clause-farewell c = farewells
