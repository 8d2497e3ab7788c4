use Rattle.dm_undo.proofs.Noted.{notes-then, notes-since}
use Rattle.tree_tests.proofs.journals.rows_before_a_roll_back.Goals as goal

pub back_to-requires-clause-plain : goal.back_to-requires-clause-plain
back_to-requires-clause-plain c =
    let two = notes-then _ _ _ _ _ _ c.in_ok-noted.ensures c.in_ok-noted-2.ensures in
    notes-since _ _ _ _ c.mark-first.result (notes-then _ _ _ _ _ _ two c.in_ok-noted-3.ensures)
    c.mark-first.ensures.place
