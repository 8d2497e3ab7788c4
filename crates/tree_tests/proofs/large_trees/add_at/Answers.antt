use Rattle.std.proofs.Common.{◌∙◌, ap, sym}
use Rattle.dm_uri.specs.Names.{is_within_limits}
use Rattle.tree_tests.proofs.large_trees.add_at.Goals as goal

pub add_below-requires : goal.add_below-requires
add_below-requires c = ap is_within_limits (sym c.in-Some.ensures) ∙ c.in-Ok.ensures.ok.within
