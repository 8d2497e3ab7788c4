use Rattle.syncml_shape.proofs.Spelling.{one_tree_at_most as law}
use Rattle.syncml_shape.proofs.laws.one_tree.Goals as goal

pub returns : goal.returns
returns c = law
