-- A client that a start section tells, and a job that is read, are such as schedules begin with.
use Rattle.std.proofs.Common.{◌≡◌, None, refl}
use Rattle.dm_tree.specs.Nodes.{Nodes}
use Rattle.dm_start.specs.declared.telling.Phase.TheVariants as phase
use Rattle.dm_start.specs.Start.{Setup, telling}
use Rattle.dm_job.specs.declared.job.Job.{Job}
use Rattle.dm_job.specs.Sound.{IsSoundJob}
use Rattle.dm_atomic.specs.Updates.{begun}
use Rattle.dm_replay.specs.Output.{client_of}
use Rattle.dm_replay.proofs.ReadyStarts.{client_is_ready}
use Rattle.dm_replay.proofs.StartSections.{IsGoodSection}
use Rattle.dm_world.specs.Start.{AreInRange, IsWorldStart}

begun_has_no_group : (m : Nodes) → (begun m).group ≡ None
unfolding begun
begun_has_no_group m = refl

pub world_start : (told : Setup) (job : Job) → IsGoodSection (telling phase.Begun told) → IsSoundJob job → AreInRange job
    → IsWorldStart (client_of told) job
world_start told job good sound numbers = record {
  unused = (refl, refl);
  empty = refl;
  no_group = begun_has_no_group told.nodes;
  ready = client_is_ready told good;
  sound = sound;
  numbers = numbers;
}
