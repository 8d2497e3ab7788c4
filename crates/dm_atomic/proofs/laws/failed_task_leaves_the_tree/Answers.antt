use Rattle.dm_atomic.proofs.Failures.{failed_task, refused_right_leaves}
use Rattle.dm_atomic.proofs.laws.failed_task_leaves_the_tree.Goals as goal

pub returns-clause-failed : goal.returns-clause-failed
returns-clause-failed c = failed_task

pub returns-clause-refused : goal.returns-clause-refused
returns-clause-refused c = refused_right_leaves
