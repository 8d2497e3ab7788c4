use Rattle.std.proofs.Common.{subst}
use Rattle.dm_start.specs.Start.{after_line, section_at, ReadsSection}
use Rattle.dm_start.proofs.Sections.{when_read, when_last, when_bad, when_err}
use Rattle.dm_start.proofs.Sound.{sound_read}
use Rattle.dm_start.proofs.reader.StartReader.line.Goals as goal

-- what is answered, by the place that the reader had come to
reads : (c : goal.After-after_line)
    → ReadsSection (after_line (section_at c.args.self.now) c.args.text.now) (section_at c.args.self.now)
    (section_at c.after_line.new.place) c.after_line.result
reads c =
    subst (λ p. ReadsSection (after_line (section_at p) c.args.text.now) (section_at p) (section_at c.after_line.new.place)
    c.after_line.result) c.self.view_is c.after_line.ensures.read

pub invariant_of-self : goal.invariant_of-self
invariant_of-self c = (
  sound_read _ _ _ c.after_line.result c.self.invariant.0 c.after_line.ensures.read,
  c.after_line.ensures.parked c.self.invariant.1,
)

pub returns-clause-read : goal.returns-clause-read
returns-clause-read c = when_read _ _ _ c.after_line.result (reads c)

pub returns-clause-last : goal.returns-clause-last
returns-clause-last c = when_last _ _ _ c.after_line.result (reads c)

pub returns-clause-bad : goal.returns-clause-bad
returns-clause-bad c = when_bad _ _ _ c.after_line.result (reads c)

pub returns-clause-err : goal.returns-clause-err
returns-clause-err c = when_err _ _ _ c.after_line.result (reads c)
