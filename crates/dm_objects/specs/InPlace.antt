-- A piece that was taken over: its own step is the whole one, where it comes to one.
use Rattle.syncml_types.specs.declared.command.Step.{Step}
use Rattle.dm_objects.specs.declared.object.Object.{Object}
use Rattle.dm_objects.specs.declared.piece.What.{What}
use Rattle.dm_objects.specs.declared.piece.What.TheVariants as whats
use Rattle.dm_objects.specs.declared.piece.Sort.{Sort}
use Rattle.dm_objects.specs.declared.piece.Sort.TheVariants as sorts
use Rattle.dm_objects.specs.declared.piece.Taken.{Taken}
use Rattle.dm_objects.specs.declared.piece.TakenOver.{TakenOver}
use Rattle.dm_objects.specs.declared.rules.Ruling.{Ruling}
use Rattle.dm_objects.specs.declared.rules.Ruling.TheVariants as verdicts
use Rattle.dm_objects.specs.Changes.{completed}

-- what a piece of this sort is, whose step is now this one
abbrev pub what_of : Sort → Step → What
what_of sorts.Whole step = whats.Whole step
what_of sorts.Buffered step = whats.Buffered
what_of (sorts.Refused code) step = whats.Refused code

abbrev pub taken_of : TakenOver → Step → Taken
taken_of over step = record { broken = over.broken; what = what_of over.sort step }

abbrev pub sort_of : Ruling → Sort
sort_of (verdicts.Refuses code) = sorts.Refused code
sort_of verdicts.Passes = sorts.Whole
sort_of (verdicts.Ends code) = sorts.Refused code
sort_of (verdicts.Skips code) = sorts.Refused code
sort_of (verdicts.GivesUp code) = sorts.Refused code
sort_of (verdicts.Begins size) = sorts.Buffered
sort_of verdicts.Grows = sorts.Buffered
sort_of verdicts.Completes = sorts.Whole

-- the piece's step behind a verdict
abbrev pub step_by : Ruling → Object → Step → Step
step_by (verdicts.Refuses code) object step = step
step_by verdicts.Passes object step = step
step_by (verdicts.Ends code) object step = step
step_by (verdicts.Skips code) object step = step
step_by (verdicts.GivesUp code) object step = step
step_by (verdicts.Begins size) object step = step
step_by verdicts.Grows object step = step
step_by verdicts.Completes object step = completed object step
