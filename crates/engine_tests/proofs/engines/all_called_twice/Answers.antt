use Rattle.engine_tests.proofs.engines.all_called_twice.Goals as goal

pub back-requires-clause-held : goal.back-requires-clause-held
back-requires-clause-held c =
    (c.all_called-answer.ensures.marks.marks c.mark-mark.result _ c.mark-mark.ensures.recalls).held
