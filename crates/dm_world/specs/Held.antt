-- Each end can hold what the other sends, and reads the bytes of it as that very message.
use Rattle.std.specs.Prelude.{◌≡◌, ℕ, List, slice_get, Some, Ok}
use Rattle.syncml_types.specs.Message.{Parts}
use Rattle.syncml_types.specs.Canonical.{canonical}
use Rattle.syncml_types.specs.Fitness.{IsFit}
use Rattle.syncml_codec.specs.Ranges.{AreNumbers}
use Rattle.syncml_codec.specs.Decoding.{read_of}
use Rattle.dm_job.specs.declared.job.Job.{Job}
use Rattle.dm_machine.specs.Machine.{Machine}
use Rattle.dm_world.specs.World.{Reply, World, Happening, run}
use Rattle.dm_world.specs.Start.{at_start, IsWorldStart, IsSchedule}

-- a message is fit, and its numbers are in the ranges of their types
pub record IsFitInRange (m : Parts) : Type 0 where
  pub fit : IsFit m.header m.body
  pub numbers : AreNumbers m

-- and the bytes in which it goes out are read as this message, and as no other
pub record IsReadBack (m : Parts) : Type 0 where
  pub held : IsFitInRange m
  pub read : read_of (canonical m) ≡ Ok m

-- so is each message that an end ever sent
pub record AreAllReadBack (w : World) : Type 0 where
  pub client_end : (k : ℕ) (d : Reply) → slice_get w.downs k ≡ Some d → IsReadBack d.message
  pub server_end : (k : ℕ) (m : Parts) → slice_get w.ups k ≡ Some m → IsReadBack m

abbrev pub ReadsTheSent : Type 0
ReadsTheSent = (c : Machine) (job : Job) (hs : List Happening) → IsWorldStart c job → IsSchedule c hs
    → AreAllReadBack (run (at_start c job) hs)
