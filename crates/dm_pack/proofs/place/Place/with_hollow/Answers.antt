use Rattle.std.proofs.Common.{arith}
use Rattle.dm_pack.proofs.Measuring.{hollow_is}
use Rattle.dm_pack.proofs.Numbers.{few_ids}
use Rattle.dm_pack.proofs.Progress.{hollow_most}
use Rattle.dm_pack.proofs.place.Place.with_hollow.Goals as goal

pub hollow_length-bytes-requires-clause-room : goal.hollow_length-bytes-requires-clause-room
hollow_length-bytes-requires-clause-room c =
    let few = few_ids c.args.entry.now c.requires.ready in
    let low = c.requires.low in
    omega (arith, few, low)

pub overflow_add-result : goal.overflow_add-result
overflow_add-result c =
    let low = c.requires.low in
    let most = hollow_most c.args.self.page c.args.self.next c.args.entry.now c.requires.ready (omega (arith, low)) in
    omega (arith, low, most, c.hollow_length-bytes.ensures.length)

pub ids-requires : goal.ids-requires
ids-requires c = let few = few_ids c.args.entry.now c.requires.ready in omega (arith, few)

pub overflow_add-result-2 : goal.overflow_add-result-2
overflow_add-result-2 c =
    let few = few_ids c.args.entry.now c.requires.ready in
    let low = c.requires.low in
    omega (arith, few, low, c.ids.ensures)

pub returns-clause-place : goal.returns-clause-place
returns-clause-place c =
    let low = c.requires.low in
    let most = hollow_most c.args.self.page c.args.self.next c.args.entry.now c.requires.ready (omega (arith, low)) in
    hollow_is c.args.self c.args.entry.now c.hollow_length-bytes.result.0 c.hollow_length-bytes.result.1 c.ids.result
    most
    c.hollow_length-bytes.ensures.length c.hollow_length-bytes.ensures.page c.ids.ensures

pub returns-clause-low : goal.returns-clause-low
returns-clause-low c =
    let few = few_ids c.args.entry.now c.requires.ready in
    let low = c.requires.low in
    let most = hollow_most c.args.self.page c.args.self.next c.args.entry.now c.requires.ready (omega (arith, low)) in
    omega (arith, few, low, most, c.hollow_length-bytes.ensures.length, c.ids.ensures)
