use Rattle.std.proofs.Common.{true, false, sym, ◌∙◌}
use Rattle.dm_objects.proofs.Takings.{same_way}
use Rattle.dm_objects.proofs.inbox.Inbox.take.Goals as goal

pub take_next-requires : goal.take_next-requires
take_next-requires c = record {
  continues =
      same_way c.args.self.now c.self.inside.max_obj c.self.inside.past.items c.self.inside.object c.self.view_is
      c.args.piece.now true
      (sym c.continues.ensures ∙ c.if-continues.true);
}

pub take_other-requires : goal.take_other-requires
take_other-requires c = record {
  continues =
      same_way c.args.self.now c.self.inside.max_obj c.self.inside.past.items c.self.inside.object c.self.view_is
      c.args.piece.now false
      (sym c.continues.ensures ∙ c.if-continues.false);
}
