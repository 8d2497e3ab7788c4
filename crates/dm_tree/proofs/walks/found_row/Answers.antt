use Rattle.dm_tree.proofs.Common.{◌∙◌, sym}
use Rattle.dm_tree.proofs.FoundRows.{child_is, find_more}
use Rattle.dm_tree.proofs.walks.found_row.Goals as goal

pub loop-name-preserved : goal.loop-name-preserved
loop-name-preserved c = record {
  inside = (child_is _ _ _ _ (sym c.in-Some.ensures)).0;
  same =
      sym (find_more c.args.rows.now c.loop-name.at c.loop-name.name-index c.args.path.now c.name-item.result
      c.in-Some.child c.loop-name-test.true c.name-item.is (sym c.in-Some.ensures)) ∙ c.loop-name.invariant.same;
}
