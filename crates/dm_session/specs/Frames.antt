-- What holds while a message is worked.
use Rattle.std.specs.Prelude.{◌≡◌, ◌≤◌, ◌<◌, ◌+◌, ◌^◌, ℕ, Bool, List, length}
use Rattle.dm_base.specs.Limits.{least_room, message_limit}
use Rattle.syncml_types.specs.Canonical.{canonical}
use Rattle.dm_tree.specs.Nodes.{Path}
use Rattle.dm_pack.specs.declared.filled.Filled.{Filled}
use Rattle.dm_pack.specs.Entries.{Entry}
use Rattle.dm_pack.specs.Filling.{Filling}
use Rattle.dm_atomic.specs.declared.engine.Engine.{Engine}
use Rattle.dm_atomic.specs.Engine.{state_of, IsSoundEngine}
use Rattle.dm_atomic.specs.Marks.{whole_of, Holds}
use Rattle.dm_atomic.specs.Stays.{StayBut}
use Rattle.dm_atomic.specs.Updates.{clock_of, max_obj_of}
use Rattle.dm_machine.specs.Ready.{IsDevice, IsReadyAccount, IsReadyLimits, IsReadyProgress}
use Rattle.dm_session.specs.declared.work.ClientWork.{ClientWork}
use Rattle.dm_session.specs.Inside.{machine_of, CanWorkOn}

-- what an engine keeps: its clock, the size of its largest objects, the number of each node that isn't covered, the way
-- back to a mark, and what holds of it
pub record KeepsBut (covered : Path → Bool) (before after : Engine) : Type 0 where
  pub clock : clock_of after ≡ clock_of before
  pub max_obj : max_obj_of after ≡ max_obj_of before
  pub ids : StayBut covered (whole_of before) (whole_of after)
  pub marks : Holds before after
  pub sound : IsSoundEngine after

-- a message of the client's own can be made
pub record CanAnswer (e : Engine) (w : ClientWork) : Type 0 where
  pub limits : IsReadyLimits w.rest.now.limits
  pub device : IsDevice (state_of e).tree
  pub account : IsReadyAccount w.account.now
  pub number : w.progress.number < 2 ^ 32
  pub own : w.progress.standing.own + 1 < 2 ^ 32
  pub room : (least_room ≤ w.progress.standing.room) × (w.progress.standing.room ≤ message_limit)

-- a message whose header was heard can be worked
pub record CanWork (e : Engine) (q : List Entry) (w : ClientWork) : Type 0 where
  pub goes_on : CanWorkOn e q w.rest.now
  pub progress : IsReadyProgress (machine_of e q w.rest.now) w.progress
  pub account : IsReadyAccount w.account.now
  pub own : w.progress.standing.own + 1 < 2 ^ 32

-- a message is packed as it has to be, and keeps to the room
pub record IsPackedAs (filling : Filling) (room : ℕ) (filled : Filled) : Type 0 where
  pub message : filled.message ≡ filling.message
  pub bytes : filled.bytes ≡ canonical filled.message
  pub whole : filled.whole ≡ filling.whole
  pub tail : filled.tail ≡ filling.tail
  pub within : length filled.bytes ≤ room
