use Rattle.std.proofs.Common.{◌∙◌, sym, ap, subst, drop}
use Rattle.dm_pack.specs.Filling.{HasMore, next_rest, fill}
use Rattle.dm_pack.proofs.Left.{fill_taken, the_rest_is_left}
use Rattle.dm_pack.proofs.Moving.{can_go_on, left_behind}
use Rattle.dm_pack.proofs.emptying.fill_out.Goals as goal

pub go_on-requires : goal.go_on-requires
go_on-requires c =
    can_go_on c.args.queue.now c.fill_by_move.new.queue c.args.header c.args.room c.args.heard
    c.in_ok-filled.filled.whole c.in_ok-filled.filled.cut c.in_ok-filled.ensures.queue c.in_ok-filled.ensures.whole
    c.in_ok-filled.ensures.cut

pub returns-clause-left : goal.returns-clause-left
returns-clause-left c =
    c.go_on.ensures
    ∙ left_behind c.args.queue.now c.fill_by_move.new.queue c.args.header c.args.room c.args.heard
    c.in_ok-filled.filled.whole c.in_ok-filled.filled.cut c.in_ok-filled.ensures.queue c.in_ok-filled.ensures.whole
    c.in_ok-filled.ensures.cut
