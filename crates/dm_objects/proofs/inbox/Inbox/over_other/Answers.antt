use Rattle.std.proofs.Common.{sym}
use Rattle.dm_objects.proofs.Takings.{other_taken_over}
use Rattle.dm_objects.proofs.inbox.Inbox.over_other.Goals as goal

pub returns-clause-ok : goal.returns-clause-ok
returns-clause-ok c =
    other_taken_over c.args.self.now c.self.inside.max_obj c.self.inside.past.items c.self.inside.object
    (sym c.self.view_is) c.args.piece.now c.change_alone.new.piece.step
    (record { broken = c.in_ok-broken.broken; sort = c.sort_of.result })
    c.by_rules-verdict.result c.change_alone.new.self c.requires.continues c.by_rules-verdict.ensures
    c.in_ok-broken.ensures c.sort_of.ensures c.in_ok-change_alone.ensures.what c.in_ok-change_alone.ensures.ok
