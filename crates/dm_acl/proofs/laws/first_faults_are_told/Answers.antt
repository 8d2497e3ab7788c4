use Rattle.dm_acl.proofs.Grammars.{first_fault_is_told, only_faults_are_told}
use Rattle.dm_acl.proofs.laws.first_faults_are_told.Goals as goal

pub returns-clause-fault : goal.returns-clause-fault
returns-clause-fault c = first_fault_is_told

pub returns-clause-only : goal.returns-clause-only
returns-clause-only c = only_faults_are_told
