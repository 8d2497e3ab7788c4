use Rattle.engine_tests.proofs.runs.go_back.Goals as goal

pub back-requires-clause-held : goal.back-requires-clause-held
back-requires-clause-held c =
    (c.abandon.ensures.marks.marks c.mark-mark.result _
    (c.all_called-answer.ensures.marks.marks c.mark-mark.result _ c.mark-mark.ensures.recalls)).held
