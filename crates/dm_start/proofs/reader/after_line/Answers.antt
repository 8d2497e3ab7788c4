use Rattle.std.proofs.Common.{ap, sym, ◌∙◌}
use Rattle.dm_start.specs.Start.{section_at, after_line}
use Rattle.dm_start.proofs.Sections.{opening_goes_on, opening_line}
use Rattle.dm_start.proofs.reader.after_line.Goals as goal

pub returns-in_ok-next-in-Opening-clause-read : goal.returns-in_ok-next-in-Opening-clause-read
returns-in_ok-next-in-Opening-clause-read c =
    let line = c.args.line.now in (
      ap (λ p. after_line (section_at p) line) c.in-Opening.is ∙ opening_line c.in-Opening.opening line
          ∙ c.in_ok-next-in-Opening.ensures.read,
      sym (opening_goes_on c.in-Opening.opening line
          (section_at c.in_ok-next-in-Opening.next) c.in_ok-next-in-Opening.ensures.read),
    )
