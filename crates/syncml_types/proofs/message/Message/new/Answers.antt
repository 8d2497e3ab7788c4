use Rattle.std.proofs.Common.{sym, subst, ◌∙◌}
use Rattle.syncml_types.specs.Fitness.{IsFit}
use Rattle.syncml_types.proofs.Fitting.{fit_of}
use Rattle.syncml_types.proofs.message.Message.new.Goals as goal

pub invariant_of-result : goal.invariant_of-result
invariant_of-result c =
    subst (λ h. IsFit h c.args.body) (c.deref.ensures ∙ c.header.view_is)
    (fit_of (record { header = c.deref.result.now; body = c.args.body; last = c.args.last }) (sym c.in-None.ensures))
