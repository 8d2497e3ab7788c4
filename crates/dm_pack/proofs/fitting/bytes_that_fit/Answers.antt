use Rattle.std.proofs.Common.{◌∙◌, arith}
use Rattle.dm_pack.proofs.Greatest.{budget_greatest}
use Rattle.dm_pack.proofs.fitting.bytes_that_fit.Goals as goal

pub returns-clause-number : goal.returns-clause-number
returns-clause-number c =
    c.greatest_part.ensures.number
    ∙ budget_greatest c.args.part c.args.value.now c.args.room c.end_length-end.result c.saturating_add-used.result
    c.saturating_sub.result
    c.end_length-end.ensures (omega (arith, c.saturating_add.ensures, c.saturating_add-used.ensures)) c.requires.room
    c.saturating_sub.ensures
