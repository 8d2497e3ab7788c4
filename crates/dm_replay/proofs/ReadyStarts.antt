-- A client that a start section tells has nothing to send but what can be sent.
use Rattle.std.proofs.Common.{◌≡◌, ℕ, Bool, true, false, cond, Option, None, Some, refl}
use Rattle.std.specs.Prelude.{IfSome, option_map}
use Rattle.dm_tree.specs.Nodes.{Path, Nodes}
use Rattle.dm_tree.specs.Devices.{update_node}
use Rattle.dm_start.specs.declared.telling.Phase.TheVariants as phase
use Rattle.dm_start.specs.Start.{Setup, telling}
use Rattle.dm_start.proofs.Sound.{sound_told}
use Rattle.dm_atomic.specs.declared.reports.Started.{Started}
use Rattle.dm_atomic.specs.Updates.{is_updating, update_of, begun}
use Rattle.dm_machine.specs.Laws.{IsShort}
use Rattle.dm_machine.specs.Ready.{IsCorrelator, IsDevice, IsReadyMachine, IsReadyState}
use Rattle.dm_replay.specs.Output.{client_of}
use Rattle.dm_replay.specs.Room.{StartsAreReady}
use Rattle.dm_replay.proofs.Beginning.{ready_accounts, ready_limits}
use Rattle.dm_replay.proofs.StartSections.{IsGoodSection, told_is_good}

abbrev told_update : Path → Started
told_update p = record { node = p; correlator = None }

-- what a tree tells of an update has no Correlator
no_correlator : (m : Nodes) → IfSome (update_of m) (λ (u : Started). IfSome u.correlator IsCorrelator)
no_correlator m = by_update (is_updating m) (update_node m)
  where
    by_update : (b : Bool) (o : Option Path)
        → IfSome (cond b (option_map told_update o) None) (λ (u : Started). IfSome u.correlator IsCorrelator)
    by_update true (Some p) = tt
    by_update true None = tt
    by_update false o = tt

begun_is_ready : (max_obj : ℕ) (m : Nodes) → IsDevice m → IsReadyState max_obj (begun m)
unfolding begun
begun_is_ready max_obj m device =
    record { tree = device; fits = tt; object = tt; group = tt; started = no_correlator m }

pub client_is_ready : (told : Setup) → IsGoodSection (telling phase.Begun told) → IsReadyMachine (client_of told)
client_is_ready told good =
    let start = sound_told told good.sound in
    record {
      limits = ready_limits told.limits start.limits;
      clock = good.tells.clock;
      engine =
          begun_is_ready told.limits.max_obj told.nodes
          (record { formed = good.tells.tree; device = start.device });
      queue = tt;
      accounts = ready_accounts told.accounts start.accounts;
      results = tt;
      session = tt;
    }

-- nothing was sent
pub client_is_short : (told : Setup) → IsShort (client_of told)
client_is_short told = record { sent = tt; farewell = tt }

pub starts_are_ready : StartsAreReady
starts_are_ready lines told e =
    (client_is_ready told (told_is_good lines told e), client_is_short told)
