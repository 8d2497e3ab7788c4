use Rattle.std.proofs.Common.{◌∙◌, sym}
use Rattle.dm_session.proofs.Outcomes.{goes_unless}
use Rattle.dm_session.proofs.answering.answer_or_end.Goals as goal

pub returns-clause-state : goal.returns-clause-state
returns-clause-state c accounts uri =
    goes_unless _ _ _ _ (sym c.is_over.ensures ∙ c.if-is_over.false) (c.in_ok-session.ensures.state accounts uri)
