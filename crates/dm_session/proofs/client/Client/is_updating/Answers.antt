use Rattle.std.proofs.Common.{◌∙◌, ap}
use Rattle.std.specs.Prelude.{is_some}
use Rattle.dm_atomic.specs.Updates.{is_updating}
use Rattle.dm_session.specs.View.{WholeMachine}
use Rattle.dm_session.proofs.client.Client.is_updating.Goals as goal

pub returns : goal.returns
returns c =
    c.is_some.ensures ∙ ap is_some c.started.ensures.started ∙ c.self.invariant.told.told
    ∙ ap (λ (w : WholeMachine). is_updating w.machine.engine.tree) c.self.view_is
