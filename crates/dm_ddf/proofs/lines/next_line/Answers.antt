use Rattle.std.proofs.Common.{◌∙◌, ap, sym, refl, inl, inr}
use Rattle.dm_job.specs.Texts.{segments}
use Rattle.dm_job.proofs.Turns.{some_segments}
use Rattle.dm_ddf.proofs.lines.next_line.Goals as goal

pub returns-in_default : goal.returns-in_default
returns-in_default c = (refl, inl (c.args.text.now, c.in_default.ensures, c.tail_reason.ensures))

pub returns-then-is_long : goal.returns-then-is_long
returns-then-is_long c = (
  refl,
  inr (
    c.in-Some.front.now,
    segments c.in-Some.behind.now,
    c.in-Some.ensures.1,
    some_segments c.in-Some.behind.now,
    sym c.is_long.ensures ∙ c.if-is_long.true,
    refl,
  ),
)

pub returns : goal.returns
returns c = (c.in-Some.ensures.1, sym c.is_long.ensures ∙ c.if-is_long.false, c.in-Some.ensures.0)
