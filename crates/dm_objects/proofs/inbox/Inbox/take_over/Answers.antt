use Rattle.std.proofs.Common.{true, false, sym, ◌∙◌}
use Rattle.dm_objects.proofs.Takings.{same_way}
use Rattle.dm_objects.proofs.inbox.Inbox.take_over.Goals as goal

pub over_next-requires : goal.over_next-requires
over_next-requires c = record {
  continues =
      same_way c.args.self.now c.self.inside.max_obj c.self.inside.past.items c.self.inside.object c.self.view_is
      c.args.piece.now true
      (sym c.continues.ensures ∙ c.if-continues.true);
}

pub over_other-requires : goal.over_other-requires
over_other-requires c = record {
  continues =
      same_way c.args.self.now c.self.inside.max_obj c.self.inside.past.items c.self.inside.object c.self.view_is
      c.args.piece.now false
      (sym c.continues.ensures ∙ c.if-continues.false);
}
