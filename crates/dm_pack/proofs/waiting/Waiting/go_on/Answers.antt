use Rattle.std.proofs.Common.{ap, arith, length}
use Rattle.dm_pack.specs.Measures.{apart_value, apart_sent}
use Rattle.dm_pack.proofs.Parts.{left_long, gone_apart, gone_is}
use Rattle.dm_pack.proofs.waiting.Waiting.go_on.Goals as goal

pub leave-requires : goal.leave-requires
leave-requires c =
    let apart = c.self.inside.apart in
    let long =
    left_long c.self.inside.command (apart_value apart) (apart_sent apart) c.args.self.now
    c.self.invariant c.self.view_is in
    let left = ap length c.left.ensures in
    omega (arith, long, left)

pub invariant_of-self : goal.invariant_of-self
invariant_of-self c =
    let apart = c.self.inside.apart in
    let long =
    left_long c.self.inside.command (apart_value apart) (apart_sent apart) c.args.self.now
    c.self.invariant c.self.view_is in
    let left = ap length c.left.ensures in
    let low = c.self.invariant.within in
    rw (c.keep_last.ensures, c.leave.ensures.value)
    (gone_apart c.self.inside.command (apart_value apart) (apart_sent apart) c.args.bytes (apart_sent c.leave.new.apart)
    c.args.self.now c.self.invariant c.self.view_is c.requires.left
    (omega (arith, long, left, low, c.leave.ensures.sent, c.requires.left)))

pub returns : goal.returns
returns c =
    let apart = c.self.inside.apart in
    let long =
    left_long c.self.inside.command (apart_value apart) (apart_sent apart) c.args.self.now
    c.self.invariant c.self.view_is in
    let left = ap length c.left.ensures in
    let low = c.self.invariant.within in
    rw (c.keep_last.ensures, c.leave.ensures.value)
    (gone_is c.self.inside.command (apart_value apart) (apart_sent apart) c.args.bytes (apart_sent c.leave.new.apart)
    c.args.self.now c.self.invariant c.self.view_is c.requires.some c.requires.left
    (omega (arith, long, left, low, c.leave.ensures.sent, c.requires.left)))
