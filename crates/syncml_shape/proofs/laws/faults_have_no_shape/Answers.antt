use Rattle.syncml_shape.proofs.Judging.{faults_have_no_shape as law}
use Rattle.syncml_shape.proofs.laws.faults_have_no_shape.Goals as goal

pub returns : goal.returns
returns c = law
