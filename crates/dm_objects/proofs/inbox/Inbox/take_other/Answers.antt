use Rattle.std.proofs.Common.{sym, ◌∙◌}
use Rattle.dm_objects.proofs.Takings.{other_taken}
use Rattle.dm_objects.proofs.inbox.Inbox.take_other.Goals as goal

pub returns-clause-ok : goal.returns-clause-ok
returns-clause-ok c =
    let came = c.by_rules-verdict.ensures in
    other_taken c.args.self.now c.self.inside.max_obj c.self.inside.past.items c.self.inside.object (sym c.self.view_is)
    c.args.piece.now _ c.in_ok-next.next c.hold.new.self c.requires.continues
    (record {
      object_is = c.in_ok-next.ensures ∙ came.object_is;
      what_is = c.in_ok-what.ensures ∙ came.what_is;
    })
    c.in_ok-broken.ensures c.in_ok-hold.ensures.ok
