use Rattle.engine_tests.proofs.updates.finish_twice.Goals as goal

pub back-requires-clause-held : goal.back-requires-clause-held
back-requires-clause-held c =
    (c.finish-answer.ensures.marks.marks c.mark-mark.result _ c.mark-mark.ensures.recalls).held
