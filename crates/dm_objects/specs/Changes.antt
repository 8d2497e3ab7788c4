-- What the rules decide of a piece, and what that makes of the object and of the piece.
use Rattle.std.specs.Prelude.{◌≡◌, ℕ}
use Rattle.syncml_types.specs.declared.command.Step.{Step}
use Rattle.dm_objects.specs.declared.object.Object.{Object}
use Rattle.dm_objects.specs.declared.object.Object.TheVariants.{Nothing, Buffering, Skipping}
use Rattle.dm_objects.specs.declared.piece.Piece.{Piece}
use Rattle.dm_objects.specs.declared.piece.What.{What}
use Rattle.dm_objects.specs.declared.piece.What.TheVariants as whats
use Rattle.dm_objects.specs.declared.rules.Ruling.{Ruling}
use Rattle.dm_objects.specs.declared.rules.Ruling.TheVariants as verdicts
use Rattle.dm_objects.specs.Gathering.{Came, key_of, begun_object, whole_step}
use Rattle.dm_objects.specs.Seen.{extended}

-- what continues an object that is being buffered is refused
abbrev pub given_up : Object → ℕ → Object
given_up Nothing code = Nothing
given_up (Buffering begun) code = Skipping begun.key code
given_up (Skipping key other) code = Skipping key other

-- the step of the last piece of an object
abbrev pub completed : Object → Step → Step
completed Nothing step = step
completed (Buffering begun) step = whole_step begun step
completed (Skipping key code) step = step

-- the object behind a piece that meets this one
abbrev pub object_by : Ruling → Object → Piece → Object
object_by (verdicts.Refuses code) object piece = object
object_by verdicts.Passes object piece = object
object_by (verdicts.Ends code) object piece = Nothing
object_by (verdicts.Skips code) object piece = Skipping (key_of piece.step) code
object_by (verdicts.GivesUp code) object piece = given_up object code
object_by (verdicts.Begins size) object piece = Buffering (begun_object piece size)
object_by verdicts.Grows object piece = extended object piece.step.value
object_by verdicts.Completes object piece = Nothing

abbrev pub what_by : Ruling → Object → Piece → What
what_by (verdicts.Refuses code) object piece = whats.Refused code
what_by verdicts.Passes object piece = whats.Whole piece.step
what_by (verdicts.Ends code) object piece = whats.Refused code
what_by (verdicts.Skips code) object piece = whats.Refused code
what_by (verdicts.GivesUp code) object piece = whats.Refused code
what_by (verdicts.Begins size) object piece = whats.Buffered
what_by verdicts.Grows object piece = whats.Buffered
what_by verdicts.Completes object piece = whats.Whole (completed object piece.step)

pub record IsCame (wanted : Came) (object : Object) (what : What) : Type 0 where
  pub object_is : object ≡ wanted.object
  pub what_is : what ≡ wanted.what
