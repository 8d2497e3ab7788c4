use Rattle.std.proofs.Common.{refl, sym, ◌∙◌}
use Rattle.dm_objects.proofs.Takings.{next_taken}
use Rattle.dm_objects.proofs.inbox.Inbox.take_next.Goals as goal

pub returns-clause-ok : goal.returns-clause-ok
returns-clause-ok c =
    let came = c.by_rules-verdict.ensures in
    next_taken c.args.self.now c.self.inside.max_obj c.self.inside.past.items c.self.inside.object (sym c.self.view_is)
    c.args.piece.now _ c.by_rules-verdict.result c.change.new.self c.requires.continues
    (record { object_is = came.object_is; what_is = c.in_ok-what.ensures ∙ came.what_is }) refl
    c.in_ok-change.ensures.ok
