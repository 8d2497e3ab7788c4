-- The state of the client's machine.
use Rattle.std.specs.Prelude.{ℕ, List, Option}
use Rattle.dm_base.specs.declared.values.Limits.{Limits}
use Rattle.syncml_types.specs.Message.{Parts}
use Rattle.dm_tree.specs.declared.nodes.Stamp.{Stamp}
use Rattle.dm_auth.specs.declared.accounts.Account.{Account}
use Rattle.dm_pack.specs.Entries.{Entry}
use Rattle.dm_atomic.specs.Run.{State}
use Rattle.dm_machine.specs.declared.progress.Progress.{Progress}
use Rattle.dm_machine.specs.declared.progress.UpdateResult.{UpdateResult}

-- an open session, and the message that was sent last in it
pub record Session : Type 0 where
  pub progress : Progress
  pub sent : Parts

pub record Machine : Type 0 where
  pub limits : Limits
  pub clock : Stamp
  -- the working tree, the unfinished object, the open group, and the update that was started
  pub engine : State
  pub queue : List Entry
  pub accounts : List Account
  pub session : Option Session
  -- the number of the session begun last; 0 at first
  pub begun : ℕ
  pub results : List UpdateResult
  -- the RespURI told last in the session begun last
  pub resp_uri : Option (List ℕ)
  -- the message with which the session begun last was denied
  pub farewell : Option Parts
