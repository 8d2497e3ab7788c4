use Rattle.dm_device.proofs.Talking.{fault_heard, refusal_heard}
use Rattle.dm_device.proofs.sessions.turn.Goals as goal

pub returns-in-Fault-clause-turns : goal.returns-in-Fault-clause-turns
returns-in-Fault-clause-turns g c =
    rw c.in-Fault.is (fault_heard _ _ _ _ _ c.lose.ensures.word c.lose.ensures.tally)

pub returns-in-Refused-clause-turns : goal.returns-in-Refused-clause-turns
returns-in-Refused-clause-turns g c =
    rw c.in-Refused.is (refusal_heard _ _ _ _ _ c.lose-in-Refused.ensures.word c.lose-in-Refused.ensures.tally)
