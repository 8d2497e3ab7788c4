use Rattle.std.proofs.Common.{sym, ◌∙◌}
use Rattle.dm_objects.proofs.Takings.{passing_takes}
use Rattle.dm_objects.proofs.inbox.Inbox.passes.Goals as goal

pub returns-clause-takes : goal.returns-clause-takes
returns-clause-takes c = λ t. passing_takes c.args.self.now c.args.piece.now (sym c.is_alone.ensures ∙ t)
