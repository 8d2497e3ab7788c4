use Rattle.dm_serving.proofs.Counting.{few_are_accepted, all_are_accepted, once_listens}
use Rattle.dm_serving.proofs.laws.few_are_accepted.Goals as goal

pub returns-clause-most : goal.returns-clause-most
returns-clause-most c = few_are_accepted

pub returns-clause-all : goal.returns-clause-all
returns-clause-all c = all_are_accepted

pub returns-clause-once : goal.returns-clause-once
returns-clause-once c = once_listens
