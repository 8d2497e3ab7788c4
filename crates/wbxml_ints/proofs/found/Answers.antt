use Rattle.std.proofs.Common.{arith}
use Rattle.wbxml_ints.proofs.Reading.{five_found}
use Rattle.wbxml_ints.proofs.found.Goals as goal

pub returns-in-len5-up : goal.returns-in-len5-up
returns-in-len5-up c =
    five_found c.args.bytes.now c.whole-in-len5-up.result (λ i. omega (arith, c.type_inv.bytes i))
    c.in-len5-up.len_at_least c.if-e-lt128.false c.if-e-lt128-2.false
    c.if-e-lt128-3.false c.if-e-lt128-4.false c.if-e-lt128-5.true c.whole-in-len5-up.ensures
