use Rattle.std.proofs.Common.{sym, ◌∙◌, add-one}
use Rattle.syncml_shape.proofs.MetaRows.{past_row}
use Rattle.syncml_shape.proofs.progress.meta_row_of.Goals as goal

pub loop-at-preserved : goal.loop-at-preserved
loop-at-preserved c =
    rw add-one (c.loop-at.invariant
    ∙ past_row c.args.rows.now c.loop-at.at c.loop-at.at c.args.came.now c.args.element _ c.loop-at-test.true c.requires
    (sym c.eq.ensures ∙ c.if-eq.false))
