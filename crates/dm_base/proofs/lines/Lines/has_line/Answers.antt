use Rattle.std.proofs.Common.{◌∙◌, ap, sym}
use Rattle.dm_base.proofs.Pending.{line_there}
use Rattle.dm_base.proofs.lines.Lines.has_line.Goals as goal

pub returns-clause-some : goal.returns-clause-some
returns-clause-some c = λ some.
    let looked = c.as_slice.ensures ∙ ap (λ s. s.pending) c.self.view_is in
    line_there c.args.self.now.pending _ c.feed_from.result looked c.feed_from.ensures (sym c.is_some.ensures ∙ some)
