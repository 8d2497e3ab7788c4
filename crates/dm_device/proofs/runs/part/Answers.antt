use Rattle.dm_device.proofs.Told.{idle_after}
use Rattle.dm_device.proofs.Running.{posted_one}
use Rattle.dm_device.proofs.runs.part.Goals as goal

pub returns-in-Denied-clause-idle : goal.returns-in-Denied-clause-idle
returns-in-Denied-clause-idle g c = idle_after _ _ _ _ _ c.ask.ensures.told

pub returns-in-Denied-clause-parts : goal.returns-in-Denied-clause-parts
returns-in-Denied-clause-parts g c =
    rw c.unheard.ensures (rw c.in-Denied.is (posted_one _ _ _ _ _ _
    (rw c.as_slice-address.ensures at (rw c.as_slice-path.ensures at (rw c.farewell.ensures at c.ask.ensures.told)))))
