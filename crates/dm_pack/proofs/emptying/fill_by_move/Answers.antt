use Rattle.std.proofs.Common.{◌∙◌, refl, sym, ap, arith, length, drop}
use Rattle.dm_pack.proofs.Moving.{packs_left}
use Rattle.dm_pack.proofs.Within.{fill_within}
use Rattle.syncml_types.specs.Canonical.{canonical}
use Rattle.syncml_types.specs.Lengths.{up_to_most}
use Rattle.dm_pack.proofs.Ending.{packed_length}
use Rattle.dm_pack.specs.Filling.{Filling}
use Rattle.dm_pack.proofs.Packed.{if_ok, packed, packed_message, packed_fit}
use Rattle.dm_pack.proofs.emptying.fill_by_move.Goals as goal

pub of_parts-message-requires : goal.of_parts-message-requires
of_parts-message-requires c =
    packed_fit c.args.header c.args.header c.args.queue.now c.args.room c.args.heard
    c.in_ok-taken.taken.whole c.in_ok-cut.cut c.in_ok-taken.taken.place c.in_ok-cut.place c.tail_behind-tail.result
    c.take_out.new.body c.push_first.new.body c.push_tail.new.body
    (packs_left c.args.header c.args.queue.now c.take_out.new.queue c.args.room c.args.heard c.in_ok-taken.taken.whole
    c.in_ok-cut.cut c.in_ok-taken.taken.place c.in_ok-cut.place c.tail_behind-tail.result
    c.take_out.new.body c.push_first.new.body c.push_tail.new.body
    c.in_ok-taken.ensures.queue c.in_ok-taken.ensures.whole c.in_ok-taken.ensures.place c.in_ok-taken.ensures.body
    c.in_ok-cut.ensures.number c.in_ok-cut.ensures.place c.in_ok-cut.ensures.body c.tail_behind-tail.ensures
    c.in_ok-push_tail.ensures)
    refl c.requires.header.fit c.requires.ready

pub spelled-requires : goal.spelled-requires
spelled-requires c =
    packed_length c.args.header c.args.header c.args.queue.now c.args.room c.args.heard
    c.is_final.result c.in_ok-taken.taken.whole c.in_ok-cut.cut c.in_ok-taken.taken.place c.in_ok-cut.place
    c.tail_behind-tail.result
    c.take_out.new.body c.push_first.new.body c.push_tail.new.body c.tail_length.result
    c.saturating_add-message_length.result
    (packs_left c.args.header c.args.queue.now c.take_out.new.queue c.args.room c.args.heard c.in_ok-taken.taken.whole
    c.in_ok-cut.cut c.in_ok-taken.taken.place c.in_ok-cut.place c.tail_behind-tail.result
    c.take_out.new.body c.push_first.new.body c.push_tail.new.body
    c.in_ok-taken.ensures.queue c.in_ok-taken.ensures.whole c.in_ok-taken.ensures.place c.in_ok-taken.ensures.body
    c.in_ok-cut.ensures.number c.in_ok-cut.ensures.place c.in_ok-cut.ensures.body c.tail_behind-tail.ensures
    c.in_ok-push_tail.ensures)
    refl c.is_final.ensures c.requires.ready c.requires.header c.requires.room.0
    c.tail_length.ensures c.saturating_add-message_length.ensures
    ∙ ap (λ m. up_to_most (length (canonical m))) (sym c.of_parts-message.ensures)

pub returns-clause-message : goal.returns-clause-message
returns-clause-message c =
    let message =
    c.of_parts-message.ensures
    ∙ packed_message c.args.header c.args.header c.args.queue.now c.args.room c.args.heard
    c.is_final.result c.in_ok-taken.taken.whole c.in_ok-cut.cut c.in_ok-taken.taken.place c.in_ok-cut.place
    c.tail_behind-tail.result
    c.take_out.new.body c.push_first.new.body c.push_tail.new.body
    (packs_left c.args.header c.args.queue.now c.take_out.new.queue c.args.room c.args.heard c.in_ok-taken.taken.whole
    c.in_ok-cut.cut c.in_ok-taken.taken.place c.in_ok-cut.place c.tail_behind-tail.result
    c.take_out.new.body c.push_first.new.body c.push_tail.new.body
    c.in_ok-taken.ensures.queue c.in_ok-taken.ensures.whole c.in_ok-taken.ensures.place c.in_ok-taken.ensures.body
    c.in_ok-cut.ensures.number c.in_ok-cut.ensures.place c.in_ok-cut.ensures.body c.tail_behind-tail.ensures
    c.in_ok-push_tail.ensures)
    refl c.is_final.ensures in
    if_ok c.spelled.result _ _ (λ f h. h ∙ message) c.spelled.ensures.message

pub returns-clause-bytes : goal.returns-clause-bytes
returns-clause-bytes c =
    let message =
    c.of_parts-message.ensures
    ∙ packed_message c.args.header c.args.header c.args.queue.now c.args.room c.args.heard
    c.is_final.result c.in_ok-taken.taken.whole c.in_ok-cut.cut c.in_ok-taken.taken.place c.in_ok-cut.place
    c.tail_behind-tail.result
    c.take_out.new.body c.push_first.new.body c.push_tail.new.body
    (packs_left c.args.header c.args.queue.now c.take_out.new.queue c.args.room c.args.heard c.in_ok-taken.taken.whole
    c.in_ok-cut.cut c.in_ok-taken.taken.place c.in_ok-cut.place c.tail_behind-tail.result
    c.take_out.new.body c.push_first.new.body c.push_tail.new.body
    c.in_ok-taken.ensures.queue c.in_ok-taken.ensures.whole c.in_ok-taken.ensures.place c.in_ok-taken.ensures.body
    c.in_ok-cut.ensures.number c.in_ok-cut.ensures.place c.in_ok-cut.ensures.body c.tail_behind-tail.ensures
    c.in_ok-push_tail.ensures)
    refl c.is_final.ensures in
    if_ok c.spelled.result _ _ (λ f h. h ∙ ap canonical message) c.spelled.ensures.bytes

pub returns-clause-within : goal.returns-clause-within
returns-clause-within c =
    let message =
    c.of_parts-message.ensures
    ∙ packed_message c.args.header c.args.header c.args.queue.now c.args.room c.args.heard
    c.is_final.result c.in_ok-taken.taken.whole c.in_ok-cut.cut c.in_ok-taken.taken.place c.in_ok-cut.place
    c.tail_behind-tail.result
    c.take_out.new.body c.push_first.new.body c.push_tail.new.body
    (packs_left c.args.header c.args.queue.now c.take_out.new.queue c.args.room c.args.heard c.in_ok-taken.taken.whole
    c.in_ok-cut.cut c.in_ok-taken.taken.place c.in_ok-cut.place c.tail_behind-tail.result
    c.take_out.new.body c.push_first.new.body c.push_tail.new.body
    c.in_ok-taken.ensures.queue c.in_ok-taken.ensures.whole c.in_ok-taken.ensures.place c.in_ok-taken.ensures.body
    c.in_ok-cut.ensures.number c.in_ok-cut.ensures.place c.in_ok-cut.ensures.body c.tail_behind-tail.ensures
    c.in_ok-push_tail.ensures)
    refl c.is_final.ensures in
    let short =
    fill_within c.args.header c.args.queue.now c.args.room c.args.heard c.requires.header c.requires.room.0 in
    if_ok c.spelled.result _ _ (λ f h. let same = ap length (h ∙ ap canonical message) in omega (arith, same, short))
    c.spelled.ensures.bytes

pub returns-clause-whole : goal.returns-clause-whole
returns-clause-whole c =
    let same =
    packed c.args.header c.args.queue.now c.args.room c.args.heard c.in_ok-taken.taken.whole c.in_ok-cut.cut
    c.in_ok-taken.taken.place c.in_ok-cut.place c.tail_behind-tail.result
    c.take_out.new.body c.push_first.new.body c.push_tail.new.body
    (packs_left c.args.header c.args.queue.now c.take_out.new.queue c.args.room c.args.heard c.in_ok-taken.taken.whole
    c.in_ok-cut.cut c.in_ok-taken.taken.place c.in_ok-cut.place c.tail_behind-tail.result
    c.take_out.new.body c.push_first.new.body c.push_tail.new.body
    c.in_ok-taken.ensures.queue c.in_ok-taken.ensures.whole c.in_ok-taken.ensures.place c.in_ok-taken.ensures.body
    c.in_ok-cut.ensures.number c.in_ok-cut.ensures.place c.in_ok-cut.ensures.body c.tail_behind-tail.ensures
    c.in_ok-push_tail.ensures) in
    if_ok c.spelled.result _ _ (λ f h. h.0 ∙ ap (λ (d : Filling). d.whole) same) c.spelled.ensures.counts

pub returns-clause-cut : goal.returns-clause-cut
returns-clause-cut c =
    let same =
    packed c.args.header c.args.queue.now c.args.room c.args.heard c.in_ok-taken.taken.whole c.in_ok-cut.cut
    c.in_ok-taken.taken.place c.in_ok-cut.place c.tail_behind-tail.result
    c.take_out.new.body c.push_first.new.body c.push_tail.new.body
    (packs_left c.args.header c.args.queue.now c.take_out.new.queue c.args.room c.args.heard c.in_ok-taken.taken.whole
    c.in_ok-cut.cut c.in_ok-taken.taken.place c.in_ok-cut.place c.tail_behind-tail.result
    c.take_out.new.body c.push_first.new.body c.push_tail.new.body
    c.in_ok-taken.ensures.queue c.in_ok-taken.ensures.whole c.in_ok-taken.ensures.place c.in_ok-taken.ensures.body
    c.in_ok-cut.ensures.number c.in_ok-cut.ensures.place c.in_ok-cut.ensures.body c.tail_behind-tail.ensures
    c.in_ok-push_tail.ensures) in
    if_ok c.spelled.result _ _ (λ f h. h.1 ∙ ap (λ (d : Filling). d.cut) same) c.spelled.ensures.counts

pub returns-clause-tail : goal.returns-clause-tail
returns-clause-tail c =
    let same =
    packed c.args.header c.args.queue.now c.args.room c.args.heard c.in_ok-taken.taken.whole c.in_ok-cut.cut
    c.in_ok-taken.taken.place c.in_ok-cut.place c.tail_behind-tail.result
    c.take_out.new.body c.push_first.new.body c.push_tail.new.body
    (packs_left c.args.header c.args.queue.now c.take_out.new.queue c.args.room c.args.heard c.in_ok-taken.taken.whole
    c.in_ok-cut.cut c.in_ok-taken.taken.place c.in_ok-cut.place c.tail_behind-tail.result
    c.take_out.new.body c.push_first.new.body c.push_tail.new.body
    c.in_ok-taken.ensures.queue c.in_ok-taken.ensures.whole c.in_ok-taken.ensures.place c.in_ok-taken.ensures.body
    c.in_ok-cut.ensures.number c.in_ok-cut.ensures.place c.in_ok-cut.ensures.body c.tail_behind-tail.ensures
    c.in_ok-push_tail.ensures) in
    if_ok c.spelled.result _ _ (λ f h. h ∙ ap (λ (d : Filling). d.tail) same) c.spelled.ensures.tail

pub returns-clause-queue : goal.returns-clause-queue
returns-clause-queue c =
    if_ok c.spelled.result _ _ (λ f h. c.in_ok-taken.ensures.queue ∙ ap (λ n. drop n c.args.queue.now) (sym h.0))
    c.spelled.ensures.counts
