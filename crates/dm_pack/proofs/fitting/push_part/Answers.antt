use Rattle.std.proofs.Common.{◌<◌, ◌∙◌, sym, ap, arith, length, take, subst}
use Rattle.syncml_types.specs.Message.{IsShortData}
use Rattle.syncml_parts.specs.Packing.{data_length}
use Rattle.syncml_parts.proofs.Short.{short_cut}
use Rattle.dm_pack.specs.declared.place.Place.{Place}
use Rattle.dm_pack.specs.Entries.{data_left}
use Rattle.dm_pack.proofs.Fit.{short_items}
use Rattle.dm_pack.proofs.Numbers.{few_ids}
use Rattle.dm_pack.proofs.Greatest.{no_part, marks_there, part_behind, part_greatest, part_most, part_pushed}
use Rattle.dm_pack.proofs.Greatest.{part_reached}
use Rattle.dm_pack.proofs.Progress.{hollow_low}
use Rattle.dm_pack.proofs.fitting.push_part.Goals as goal

pub returns-then-left-lt2-clause-number : goal.returns-then-left-lt2-clause-number
returns-then-left-lt2-clause-number c =
    no_part c.args.place c.args.entry.now c.args.room
    (let left = ap length c.left.ensures in omega (arith, left, c.if-left-lt2.true))

pub with_marks-part-requires-clause-some : goal.with_marks-part-requires-clause-some
with_marks-part-requires-clause-some c = let left = ap length c.left.ensures in omega (arith, left, c.if-left-lt2.false)

pub with_marks-part-requires-clause-marks : goal.with_marks-part-requires-clause-marks
with_marks-part-requires-clause-marks c =
    let left = ap length c.left.ensures in
    marks_there c.args.place c.args.hollow c.args.entry.now (omega (arith, left, c.if-left-lt2.false)) c.requires.hollow

pub with_marks-part-requires-clause-low : goal.with_marks-part-requires-clause-low
with_marks-part-requires-clause-low c =
    (hollow_low c.args.place c.args.hollow c.args.entry.now c.requires.ready c.requires.low.0 c.requires.low.1
    c.requires.hollow).0

pub bytes_that_fit-bytes-requires-clause-short : goal.bytes_that_fit-bytes-requires-clause-short
bytes_that_fit-bytes-requires-clause-short c =
    subst IsShortData (sym c.left-2.ensures)
    (short_cut c.args.entry.now.command (short_items c.args.entry.now.command c.requires.ready.fit.short_data))

pub bytes_that_fit-bytes-requires-clause-low : goal.bytes_that_fit-bytes-requires-clause-low
bytes_that_fit-bytes-requires-clause-low c =
    let low =
    (hollow_low c.args.place c.args.hollow c.args.entry.now c.requires.ready c.requires.low.0 c.requires.low.1
    c.requires.hollow).1 in
    let same = ap (λ (p : Place). p.next) c.with_marks-part.ensures.place in
    omega (arith, low, same)

pub returns-then-bytes-eq0-clause-number : goal.returns-then-bytes-eq0-clause-number
returns-then-bytes-eq0-clause-number c =
    let left = ap length c.left.ensures in
    let some : 0 < data_left c.args.entry.now = omega (arith, left, c.if-left-lt2.false) in
    let part =
    c.with_marks-part.ensures.place ∙ part_behind c.args.place c.args.hollow c.args.entry.now some c.requires.hollow in
    let same =
    part_greatest c.args.place c.with_marks-part.result c.args.entry.now c.left-2.result.now c.args.room some part
    c.left-2.ensures in
    omega (arith, same, c.if-bytes-eq0.true, c.bytes_that_fit-bytes.ensures.number)

pub push_bytes-requires-clause-some : goal.push_bytes-requires-clause-some
push_bytes-requires-clause-some c = let left = ap length c.left.ensures in omega (arith, left, c.if-left-lt2.false)

pub push_bytes-requires-clause-there : goal.push_bytes-requires-clause-there
push_bytes-requires-clause-there c =
    let left = ap length c.left.ensures in
    let some : 0 < data_left c.args.entry.now = omega (arith, left, c.if-left-lt2.false) in
    let part =
    c.with_marks-part.ensures.place ∙ part_behind c.args.place c.args.hollow c.args.entry.now some c.requires.hollow in
    let same =
    part_greatest c.args.place c.with_marks-part.result c.args.entry.now c.left-2.result.now c.args.room some part
    c.left-2.ensures in
    let most = part_most c.args.place c.args.entry.now c.args.room in
    omega (arith, same, most, c.bytes_that_fit-bytes.ensures.number)

pub push_bytes-requires-clause-room : goal.push_bytes-requires-clause-room
push_bytes-requires-clause-room c =
    let few = few_ids c.args.entry.now c.requires.ready in
    let low = c.requires.low in
    omega (arith, few, low)

pub returns-clause-number : goal.returns-clause-number
returns-clause-number c =
    let left = ap length c.left.ensures in
    let some : 0 < data_left c.args.entry.now = omega (arith, left, c.if-left-lt2.false) in
    let part =
    c.with_marks-part.ensures.place ∙ part_behind c.args.place c.args.hollow c.args.entry.now some c.requires.hollow in
    c.bytes_that_fit-bytes.ensures.number
    ∙ part_greatest c.args.place c.with_marks-part.result c.args.entry.now c.left-2.result.now c.args.room some part
    c.left-2.ensures

pub returns-clause-place : goal.returns-clause-place
returns-clause-place c =
    let left = ap length c.left.ensures in
    let some : 0 < data_left c.args.entry.now = omega (arith, left, c.if-left-lt2.false) in
    let part =
    c.with_marks-part.ensures.place ∙ part_behind c.args.place c.args.hollow c.args.entry.now some c.requires.hollow in
    let same =
    part_greatest c.args.place c.with_marks-part.result c.args.entry.now c.left-2.result.now c.args.room some part
    c.left-2.ensures in
    let most = part_most c.args.place c.args.entry.now c.args.room in
    let pos : 0 < c.bytes_that_fit-bytes.result.0 = omega (arith, c.if-bytes-eq0.false) in
    part_reached c.args.place c.with_marks-part.result c.args.entry.now c.bytes_that_fit-bytes.result.0
    c.bytes_that_fit-bytes.result.1 pos
    (omega (arith, same, most, c.bytes_that_fit-bytes.ensures.number)) some part
    (c.bytes_that_fit-bytes.ensures.token pos
    ∙ ap (λ v. data_length (take c.bytes_that_fit-bytes.result.0 v)) c.left-2.ensures)

pub returns-clause-body : goal.returns-clause-body
returns-clause-body c =
    c.in_ok-push_bytes.ensures
    ∙ part_pushed c.args.body.now c.args.place.next c.bytes_that_fit-bytes.result.0 c.args.entry.now
    (omega (arith, c.if-bytes-eq0.false))

pub returns-clause-low : goal.returns-clause-low
returns-clause-low c =
    let low =
    (hollow_low c.args.place c.args.hollow c.args.entry.now c.requires.ready c.requires.low.0 c.requires.low.1
    c.requires.hollow).1 in
    let same = ap (λ (p : Place). p.next) c.with_marks-part.ensures.place in
    omega (arith, low, same)
