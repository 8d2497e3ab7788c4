use Rattle.dm_tree.proofs.Common.{◌+◌, subst, row_at, IsPlacePast}
use Rattle.dm_tree.proofs.NamePlaces.{past_child}
use Rattle.dm_tree.proofs.siblings.place_behind.Goals as goal

pub returns-then-ids-noted : goal.returns-then-ids-noted
returns-then-ids-noted c =
    subst
    (λ k. IsPlacePast c.args.rows.now c.args.ids.now (row_at c.args.rows.now k).name (c.args.noted + 1))
    c.if-ids-noted.true
    (past_child c.args.rows.now c.args.ids.now c.requires.order c.args.noted c.if-noted-ids.true)
