use Rattle.std.proofs.Common.{◌∙◌, refl, sym, ap, arith, length, map}
use Rattle.syncml_types.specs.Canonical.{canonical}
use Rattle.syncml_types.specs.Lengths.{up_to_most}
use Rattle.dm_pack.specs.Entries.{whole_entry}
use Rattle.dm_pack.specs.Filling.{Filling}
use Rattle.dm_pack.specs.declared.place.Place.{Place}
use Rattle.dm_pack.specs.declared.place.Place.{Place}
use Rattle.dm_pack.proofs.Ending.{packed_length}
use Rattle.dm_pack.proofs.Listed.{packs_listed, left_listed}
use Rattle.dm_pack.proofs.Packed.{if_ok, packed, packed_message, packed_fit}
use Rattle.dm_pack.proofs.Within.{fill_within}
use Rattle.dm_pack.proofs.at_once.fill_listed.Goals as goal

pub number_all-requires : goal.number_all-requires
number_all-requires c =
    let at = ap (λ (p : Place). p.next) c.in-Some.ensures.place in
    let low = c.in-Some.ensures.low in
    omega (arith, at, low)

pub of_parts-message-requires : goal.of_parts-message-requires
of_parts-message-requires c =
    let packs =
    packs_listed c.args.header c.args.commands c.args.room c.args.heard c.in-Some.place c.tail_behind-tail.result
    c.args.queue.now c.number_all.new.commands c.push_tail.new.body c.in-Some.ensures.whole c.in-Some.ensures.place
    c.number_all.ensures c.requires.none c.tail_behind-tail.ensures c.in_ok-push_tail.ensures in
    packed_fit c.args.header c.args.header (map whole_entry c.args.commands) c.args.room c.args.heard
    (length c.args.commands) 0 c.in-Some.place c.in-Some.place c.tail_behind-tail.result c.number_all.new.commands
    c.number_all.new.commands c.push_tail.new.body packs refl
    c.requires.header.fit c.requires.ready

pub spelled-requires : goal.spelled-requires
spelled-requires c =
    let packs =
    packs_listed c.args.header c.args.commands c.args.room c.args.heard c.in-Some.place c.tail_behind-tail.result
    c.args.queue.now c.number_all.new.commands c.push_tail.new.body c.in-Some.ensures.whole c.in-Some.ensures.place
    c.number_all.ensures c.requires.none c.tail_behind-tail.ensures c.in_ok-push_tail.ensures in
    packed_length c.args.header c.args.header (map whole_entry c.args.commands) c.args.room c.args.heard
    c.is_final.result
    (length c.args.commands) 0 c.in-Some.place c.in-Some.place c.tail_behind-tail.result c.number_all.new.commands
    c.number_all.new.commands c.push_tail.new.body
    c.tail_length.result c.saturating_add-message_length.result packs refl c.is_final.ensures c.requires.ready
    c.requires.header c.requires.room.0 c.tail_length.ensures c.saturating_add-message_length.ensures
    ∙ ap (λ m. up_to_most (length (canonical m))) (sym c.of_parts-message.ensures)

pub returns-clause-message : goal.returns-clause-message
returns-clause-message c =
    let packs =
    packs_listed c.args.header c.args.commands c.args.room c.args.heard c.in-Some.place c.tail_behind-tail.result
    c.args.queue.now c.number_all.new.commands c.push_tail.new.body c.in-Some.ensures.whole c.in-Some.ensures.place
    c.number_all.ensures c.requires.none c.tail_behind-tail.ensures c.in_ok-push_tail.ensures in
    let message =
    c.of_parts-message.ensures
    ∙ packed_message c.args.header c.args.header (map whole_entry c.args.commands) c.args.room c.args.heard
    c.is_final.result
    (length c.args.commands) 0 c.in-Some.place c.in-Some.place c.tail_behind-tail.result c.number_all.new.commands
    c.number_all.new.commands c.push_tail.new.body packs refl
    c.is_final.ensures in
    if_ok c.spelled.result _ _ (λ f h. h ∙ message) c.spelled.ensures.message

pub returns-clause-bytes : goal.returns-clause-bytes
returns-clause-bytes c =
    let packs =
    packs_listed c.args.header c.args.commands c.args.room c.args.heard c.in-Some.place c.tail_behind-tail.result
    c.args.queue.now c.number_all.new.commands c.push_tail.new.body c.in-Some.ensures.whole c.in-Some.ensures.place
    c.number_all.ensures c.requires.none c.tail_behind-tail.ensures c.in_ok-push_tail.ensures in
    let message =
    c.of_parts-message.ensures
    ∙ packed_message c.args.header c.args.header (map whole_entry c.args.commands) c.args.room c.args.heard
    c.is_final.result
    (length c.args.commands) 0 c.in-Some.place c.in-Some.place c.tail_behind-tail.result c.number_all.new.commands
    c.number_all.new.commands c.push_tail.new.body packs refl
    c.is_final.ensures in
    if_ok c.spelled.result _ _ (λ f h. h ∙ ap canonical message) c.spelled.ensures.bytes

pub returns-clause-within : goal.returns-clause-within
returns-clause-within c =
    let packs =
    packs_listed c.args.header c.args.commands c.args.room c.args.heard c.in-Some.place c.tail_behind-tail.result
    c.args.queue.now c.number_all.new.commands c.push_tail.new.body c.in-Some.ensures.whole c.in-Some.ensures.place
    c.number_all.ensures c.requires.none c.tail_behind-tail.ensures c.in_ok-push_tail.ensures in
    let message =
    c.of_parts-message.ensures
    ∙ packed_message c.args.header c.args.header (map whole_entry c.args.commands) c.args.room c.args.heard
    c.is_final.result
    (length c.args.commands) 0 c.in-Some.place c.in-Some.place c.tail_behind-tail.result c.number_all.new.commands
    c.number_all.new.commands c.push_tail.new.body packs refl
    c.is_final.ensures in
    let short =
    fill_within c.args.header (map whole_entry c.args.commands) c.args.room c.args.heard c.requires.header
    c.requires.room.0 in
    if_ok c.spelled.result _ _ (λ f h. let same = ap length (h ∙ ap canonical message) in omega (arith, same, short))
    c.spelled.ensures.bytes

pub returns-clause-whole : goal.returns-clause-whole
returns-clause-whole c =
    let packs =
    packs_listed c.args.header c.args.commands c.args.room c.args.heard c.in-Some.place c.tail_behind-tail.result
    c.args.queue.now c.number_all.new.commands c.push_tail.new.body c.in-Some.ensures.whole c.in-Some.ensures.place
    c.number_all.ensures c.requires.none c.tail_behind-tail.ensures c.in_ok-push_tail.ensures in
    let same =
    packed c.args.header (map whole_entry c.args.commands) c.args.room c.args.heard
    (length c.args.commands) 0 c.in-Some.place c.in-Some.place c.tail_behind-tail.result c.number_all.new.commands
    c.number_all.new.commands c.push_tail.new.body packs in
    if_ok c.spelled.result _ _
    (λ f h. h.0 ∙ c.len-whole.ensures ∙ ap (λ (d : Filling). d.whole) same) c.spelled.ensures.counts

pub returns-clause-cut : goal.returns-clause-cut
returns-clause-cut c =
    let packs =
    packs_listed c.args.header c.args.commands c.args.room c.args.heard c.in-Some.place c.tail_behind-tail.result
    c.args.queue.now c.number_all.new.commands c.push_tail.new.body c.in-Some.ensures.whole c.in-Some.ensures.place
    c.number_all.ensures c.requires.none c.tail_behind-tail.ensures c.in_ok-push_tail.ensures in
    let same =
    packed c.args.header (map whole_entry c.args.commands) c.args.room c.args.heard
    (length c.args.commands) 0 c.in-Some.place c.in-Some.place c.tail_behind-tail.result c.number_all.new.commands
    c.number_all.new.commands c.push_tail.new.body packs in
    if_ok c.spelled.result _ _ (λ f h. h.1 ∙ ap (λ (d : Filling). d.cut) same) c.spelled.ensures.counts

pub returns-clause-tail : goal.returns-clause-tail
returns-clause-tail c =
    let packs =
    packs_listed c.args.header c.args.commands c.args.room c.args.heard c.in-Some.place c.tail_behind-tail.result
    c.args.queue.now c.number_all.new.commands c.push_tail.new.body c.in-Some.ensures.whole c.in-Some.ensures.place
    c.number_all.ensures c.requires.none c.tail_behind-tail.ensures c.in_ok-push_tail.ensures in
    let same =
    packed c.args.header (map whole_entry c.args.commands) c.args.room c.args.heard
    (length c.args.commands) 0 c.in-Some.place c.in-Some.place c.tail_behind-tail.result c.number_all.new.commands
    c.number_all.new.commands c.push_tail.new.body packs in
    if_ok c.spelled.result _ _ (λ f h. h ∙ ap (λ (d : Filling). d.tail) same) c.spelled.ensures.tail

pub returns-clause-left : goal.returns-clause-left
returns-clause-left c =
    let packs =
    packs_listed c.args.header c.args.commands c.args.room c.args.heard c.in-Some.place c.tail_behind-tail.result
    c.args.queue.now c.number_all.new.commands c.push_tail.new.body c.in-Some.ensures.whole c.in-Some.ensures.place
    c.number_all.ensures c.requires.none c.tail_behind-tail.ensures c.in_ok-push_tail.ensures in
    let left =
    left_listed c.args.header c.args.commands c.args.room c.args.heard c.in-Some.place c.tail_behind-tail.result
    c.args.queue.now c.number_all.new.commands c.push_tail.new.body packs c.requires.none in
    if_ok c.spelled.result _ _ (λ f h. left) c.spelled.ensures.tail
