use Rattle.std.proofs.Common.{arith, ◌++◌, ◌≤◌, ◌+◌, length, length-append, length-take, take}
use Rattle.std.proofs.lemmas.List.{length-take-le}
use Rattle.dm_base.proofs.Known.{takes_more}
use Rattle.dm_base.proofs.wholes.take_all.Goals as goal

pub returns-in-Err-extend-clause-bytes : goal.returns-in-Err-extend-clause-bytes
returns-in-Err-extend-clause-bytes g c =
    let piece = take c.in-Ok.count c.take.new.buf in
    let all = length-append c.loop-buf.bytes piece in
    let one = length-take-le c.in-Ok.count c.take.new.buf c.in-Ok.ensures.bytes.0 in
    let room = length-take (c.min-room.result + 1) c.loop-buf.buf in
    let within : length (c.loop-buf.bytes ++ piece) ≤ c.args.limit + 1 =
    omega (arith, all, one, room, c.take.auto.buf, c.in-Ok.ensures.bytes.0) in
    (c.loop-buf.bytes ++ piece, within, takes_more _ _ _ _ _ c.loop-buf.invariant.taken c.in-Ok.ensures.bytes.1)
