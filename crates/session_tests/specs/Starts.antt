-- What a client may begin with.
use Rattle.std.specs.Prelude.{◌<◌, length}
use Rattle.std.specs.List.{AllByRecursion}
use Rattle.dm_tree.specs.Rows.{nodes, IsNoneParked}
use Rattle.dm_tree.specs.Devices.{IsDeviceTree}
use Rattle.dm_machine.specs.Ready.{IsReadyAccount, IsReadyLimits}
use Rattle.dm_start.specs.declared.telling.Start.{Start}

-- a device's tree, and accounts whose names are SHORT
pub record MayBegin (start : Start) : Type 0 where
  pub some : 0 < length start.accounts
  pub accounts : AllByRecursion IsReadyAccount start.accounts
  pub device : IsDeviceTree (nodes start.tree.rows)
  pub parked : IsNoneParked start.tree.rows
  pub limits : IsReadyLimits start.limits
