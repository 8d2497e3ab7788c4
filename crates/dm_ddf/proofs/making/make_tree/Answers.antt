use Rattle.std.proofs.Common.{◌≤◌, ap, length, arith, ◌∙◌}
use Rattle.dm_ddf.specs.Making.{asked_tree}
use Rattle.dm_ddf.proofs.Makings.{end_is}
use Rattle.dm_ddf.proofs.making.make_tree.Goals as goal

pub returns : goal.returns
returns c =
    let rules = c.as_slice-rules.result.now in
    let low : length rules ≤ c.loop-at.at = omega (arith, c.loop-at-test.false) in
    end_is rules c.loop-at.tree c.loop-at.made c.loop-at.at low c.loop-at.invariant.whole
    ∙ ap asked_tree c.as_slice-rules.ensures
