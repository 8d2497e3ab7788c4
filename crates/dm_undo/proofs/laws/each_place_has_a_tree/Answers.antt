use Rattle.dm_undo.proofs.Returns.{each_place_has_a_tree as law}
use Rattle.dm_undo.proofs.laws.each_place_has_a_tree.Goals as goal

pub returns : goal.returns
returns c = law
