use Rattle.std.proofs.Common.{◌∙◌, ap, sym}
use Rattle.dm_pair.specs.Texts.{refuses}
use Rattle.dm_pair.proofs.Turns.{long_line, unended_line}
use Rattle.dm_pair.proofs.lines.next_line.Goals as goal

pub returns-in_default : goal.returns-in_default
returns-in_default c s =
    unended_line c.args.number s c.args.text.now c.in_default.ensures
    ∙ ap (λ why. refuses (c.args.number, why)) (sym c.tail_reason.ensures)

pub returns-then-is_long : goal.returns-then-is_long
returns-then-is_long c s =
    long_line c.args.number s c.args.text.now c.in-Some.line.now c.in-Some.behind.now c.in-Some.ensures.1
    (sym c.is_long.ensures ∙ c.if-is_long.true)

pub returns : goal.returns
returns c = (c.in-Some.ensures.1, sym c.is_long.ensures ∙ c.if-is_long.false, c.in-Some.ensures.0)
