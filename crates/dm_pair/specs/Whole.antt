-- What is written for a whole text tells the world that a schedule makes.
use Rattle.std.specs.Prelude.{◌≡◌, ◌++◌, ℕ, false, List, codes}
use Rattle.dm_base.specs.Lines.{line_feed}
use Rattle.dm_start.specs.TreeText.{tree_text}
use Rattle.dm_job.specs.declared.job.Job.{Job}
use Rattle.dm_job.specs.Texts.{segments}
use Rattle.dm_machine.specs.Machine.{Machine}
use Rattle.dm_service.specs.Report.{report_text}
use Rattle.dm_world.specs.World.{World, Happening, run}
use Rattle.dm_world.specs.Start.{at_start, IsWorldStart, IsSchedule}
use Rattle.dm_pair.specs.Pairing.{Pairing}
use Rattle.dm_pair.specs.Texts.{TextStage, first, written, written_from, whole_ending}
use Rattle.dm_pair.specs.Schedules.{brought, HasEnds}
use Rattle.dm_pair.specs.Begins.{lines_before_long}

-- the text ends with the tree and the report of the ends that its lines come to
pub record EndsWithBoth (s : TextStage) (lines : List (List ℕ)) (text : List ℕ) : Type 0 where
  pub ends : Pairing
  pub comes : HasEnds ends (brought s lines)
  pub before : List ℕ
  pub text_is : text ≡ before ++ whole_ending ends

-- the tree, the report and the last line of a world
abbrev pub world_ending : World → List ℕ
world_ending w = tree_text 1 w.client.engine.tree ++ report_text w.server ++ codes "done" ++ line_feed

-- behind the lines of its events stand the tree of the client and the report of the server to which a schedule brings
-- the world, from such a start as schedules have
pub record TellsWorld (text : List ℕ) : Type 0 where
  pub client : Machine
  pub job : Job
  pub schedule : List Happening
  pub start : IsWorldStart client job
  pub is_schedule : IsSchedule client schedule
  pub before : List ℕ
  pub text_is : (written text).text ≡ before ++ world_ending (run (at_start client job) schedule)

abbrev pub WholeTextsTellWorlds : Type 0
WholeTextsTellWorlds = (text : List ℕ) → (written text).bad ≡ false → TellsWorld text
