-- What the server's report tells is what the client said.
use Rattle.std.specs.Prelude.{◌≡◌, ℕ, List, slice_get, Some}
use Rattle.std.specs.List.{Contains}
use Rattle.syncml_types.specs.declared.values.Item.{Item}
use Rattle.syncml_types.specs.declared.command.ResultsCmd.{ResultsCmd}
use Rattle.syncml_types.specs.declared.command.StatusCmd.{StatusCmd}
use Rattle.syncml_types.specs.declared.command.Step.{Step}
use Rattle.syncml_types.specs.declared.command.Command.TheVariants as command
use Rattle.syncml_types.specs.Message.{Parts}
use Rattle.dm_objects.specs.declared.object.Object.{Object}
use Rattle.dm_objects.specs.declared.piece.What.TheVariants.{Whole}
use Rattle.dm_objects.specs.Gathering.{gather}
use Rattle.dm_job.specs.declared.job.Job.{Job}
use Rattle.dm_machine.specs.Machine.{Machine}
use Rattle.dm_service.specs.Matching.{result_piece}
use Rattle.dm_service.specs.Laws.{code_at, found_at}
use Rattle.dm_world.specs.World.{World, Happening, run}
use Rattle.dm_world.specs.Start.{at_start}

-- a Status with this code in a message
pub record TellsCode (m : Parts) (code : ℕ) : Type 0 where
  pub status : StatusCmd
  pub within : Contains m.body (command.Status status)
  pub code_is : status.code ≡ code

-- Results in a message by which this value came whole: a single piece, or the last one of an object
pub record TellsValue (max : ℕ) (m : Parts) (value : Step) : Type 0 where
  pub results : ResultsCmd
  pub within : Contains m.body (command.Results results)
  pub item : Item
  pub item_within : Contains results.items item
  pub object : Object
  pub whole : (gather max object (result_piece results item)).what ≡ Whole value

-- a message that the client sent
pub record WasSent (ups : List Parts) (IsSo : Parts → Type 0) : Type 0 where
  pub at : ℕ
  pub message : Parts
  pub was_sent : slice_get ups at ≡ Some message
  pub is_so : IsSo message

-- each code and each value that the server holds stands in a message of the client
pub record ReportsWhatWasSaid (max : ℕ) (w : World) : Type 0 where
  pub codes : (place code : ℕ) → code_at w.server.told place ≡ Some code → WasSent w.ups (λ m. TellsCode m code)
  pub values : (place : ℕ) (value : Step) → Contains (found_at w.server.told place) value
      → WasSent w.ups (λ m. TellsValue max m value)

-- ---- whatever the schedule

abbrev pub ReportsTheSaid : Type 0
ReportsTheSaid =
    (c : Machine) (job : Job) (hs : List Happening) → ReportsWhatWasSaid job.limits.max_obj (run (at_start c job) hs)
