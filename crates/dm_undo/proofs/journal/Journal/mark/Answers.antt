use Rattle.std.proofs.Common.{◌∙◌, ap}
use Rattle.dm_undo.specs.Journals.{Journal}
use Rattle.dm_undo.proofs.Told.{at_end, long-kept}
use Rattle.dm_undo.proofs.journal.Journal.mark.Goals as goal

pub returns-clause-there : goal.returns-clause-there
returns-clause-there c rows =
    at_end c.args.self.now.entries rows c.len.result (c.len.ensures ∙ c.self.inside.entries.ok.0
    ∙ long-kept c.self.inside.entries.items c.args.self.now.entries
    (ap (λ (k : Journal). k.entries) c.self.view_is))
