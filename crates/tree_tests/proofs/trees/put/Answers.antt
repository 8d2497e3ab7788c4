use Rattle.std.proofs.Common.{◌∙◌, ap, sym}
use Rattle.dm_uri.specs.Names.{is_within_limits}
use Rattle.tree_tests.proofs.trees.put.Goals as goal

pub put_below-requires : goal.put_below-requires
put_below-requires c = ap is_within_limits (sym c.in-Some.ensures) ∙ c.in-Ok.ensures.ok.within
