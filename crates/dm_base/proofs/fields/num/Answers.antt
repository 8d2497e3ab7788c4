use Rattle.std.proofs.Common.{◌∙◌, sym}
use Rattle.dm_base.proofs.Numbers.{number_read, number_utf8}
use Rattle.dm_base.proofs.fields.num.Goals as goal

pub returns-in-Ok : goal.returns-in-Ok
returns-in-Ok c =
    let holds = sym c.is_numeral.ensures ∙ c.if-not-is_numeral.false in
    c.ok.ensures.value
    ∙ number_read c.args.text.now c.in-Ok.digits.now c.parse.result c.in-Ok.ensures.cases.0 holds
    c.parse.ensures.value.0

pub returns-in-Err : goal.returns-in-Err
returns-in-Err c =
    absurd (c.in-Err.ensures.cases.0
    (number_utf8 c.args.text.now (sym c.is_numeral.ensures ∙ c.if-not-is_numeral.false)))
