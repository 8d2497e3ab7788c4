use Rattle.std.proofs.Common.{arith}
use Rattle.syncml_types.proofs.Fitting.{spellable}
use Rattle.dm_pack.proofs.Measuring.{head_long, start_is}
use Rattle.dm_pack.proofs.place.Place.behind_head.Goals as goal
use Rattle.std.proofs.Common.{[]}

pub head_length-bytes-requires : goal.head_length-bytes-requires
head_length-bytes-requires c = (spellable c.args.header.now [] c.requires.fit).cred

pub returns-clause-place : goal.returns-clause-place
returns-clause-place c =
    start_is c.args.header.now c.head_length-bytes.result.0 c.head_length-bytes.result.1 c.tag_length.result
    c.requires.short
    c.head_length-bytes.ensures.length c.head_length-bytes.ensures.page c.tag_length.ensures.value

pub returns-clause-low : goal.returns-clause-low
returns-clause-low c =
    let long = head_long c.args.header.now in
    omega (arith, long, c.requires.short, c.head_length-bytes.ensures.length, c.tag_length.ensures.short)
