use Rattle.std.proofs.Common.{None, refl, sym}
use Rattle.dm_objects.proofs.Takings.{next_taken_over}
use Rattle.dm_objects.proofs.inbox.Inbox.over_next.Goals as goal

pub returns-clause-ok : goal.returns-clause-ok
returns-clause-ok c =
    next_taken_over c.args.self.now c.self.inside.max_obj c.self.inside.past.items c.self.inside.object
    (sym c.self.view_is) c.args.piece.now c.make_whole.new.step
    (record { broken = None; sort = c.sort_of.result })
    c.by_rules-verdict.result c.change.new.self c.requires.continues c.by_rules-verdict.ensures
    c.in_ok-make_whole.ensures refl c.sort_of.ensures c.in_ok-change.ensures.ok
