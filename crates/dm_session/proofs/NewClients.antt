-- A client that is new.
use Rattle.std.proofs.Common.{Global, ◌≡◌, ℕ, Bool, true, false, cond, List, [], refl, sym, ◌∙◌, ap, subst, Option}
use Rattle.std.proofs.Common.{None, Some, IfSome}
use Rattle.std.specs.List.{AllByRecursion}
use Rattle.std.specs.Option.{option_map}
use Rattle.dm_base.specs.declared.values.Limits.{Limits}
use Rattle.dm_auth.specs.declared.accounts.Account.{Account}
use Rattle.dm_tree.specs.declared.nodes.Stamp.{Stamp}
use Rattle.dm_tree.specs.Nodes.{Path, Nodes, IsStamp}
use Rattle.dm_tree.specs.Devices.{update_node}
use Rattle.dm_pack.specs.Entries.{Entry}
use Rattle.dm_atomic.specs.declared.reports.Started.{Started}
use Rattle.dm_atomic.specs.declared.engine.Engine.{Engine}
use Rattle.dm_atomic.specs.Run.{State, Running}
use Rattle.dm_atomic.specs.Engine.{state_of, running, IsSoundEngine}
use Rattle.dm_atomic.specs.Marks.{whole_of, past_of, no_past, LeavesNone}
use Rattle.dm_atomic.specs.Updates.{clock_of, is_updating, begun, TellsStarted}
use Rattle.dm_atomic.proofs.Staying.{base_closed}
use Rattle.dm_atomic.proofs.Tellings.{begins_telling}
use Rattle.dm_commands.specs.Outcomes.{asked_by}
use Rattle.dm_machine.specs.declared.progress.UpdateResult.{UpdateResult}
use Rattle.dm_machine.specs.Machine.{Machine}
use Rattle.dm_machine.specs.Ready.{IsCorrelator, IsDevice, IsReadyAccount, IsReadyLimits, IsReadyState, IsReadyMachine}
use Rattle.dm_session.specs.declared.rest.Rest.{Rest}
use Rattle.dm_session.specs.Inside.{machine_of, IsConsistent}

abbrev new_machine : Limits → Stamp → State → List Entry → List Account → List UpdateResult → Machine
new_machine limits clock s q accounts results = record {
  limits = limits;
  clock = clock;
  engine = s;
  queue = q;
  accounts = accounts;
  session = None;
  begun = 0;
  results = results;
  resp_uri = None;
  farewell = None;
}

abbrev new_rest : Global → Limits → Path → List Account → List UpdateResult → Rest
new_rest alloc limits place accounts results = record {
  alloc = alloc;
  limits = limits;
  place = place;
  accounts = accounts;
  session = None;
  begun = 0;
  results = results;
  resp_uri = None;
  farewell = None;
}

begun_state_ready : (max_obj : ℕ) (m : Nodes) → IsDevice m → IsReadyState max_obj (begun m)
unfolding begun
begun_state_ready max_obj m device = record {
  tree = device;
  fits = tt;
  object = tt;
  group = tt;
  started = by_update (is_updating m) (update_node m);
}
  where
    by_update : (b : Bool) (o : Option Path)
        → IfSome (cond b (option_map (λ p. record { node = p; correlator = None }) o) None)
        (λ (u : Started). IfSome u.correlator IsCorrelator)
    by_update true None = tt
    by_update true (Some p) = tt
    by_update false o = tt

no_group : (m : Nodes) → (begun m).group ≡ None
unfolding begun
no_group m = refl

module _ (e : Engine) (q : List Entry) (alloc : Global) (limits : Limits) (place : Path)
    (accounts : List Account) (results : List UpdateResult)
    (clock : Stamp) (m : Nodes) (state : state_of e ≡ begun m) (queue : q ≡ []) (untold : results ≡ [])
    (runs : (caller : List ℕ)
    → running e caller ≡ record { setting = asked_by caller clock; max_obj = limits.max_obj }) where
  pub new_machine_is : machine_of e q (new_rest alloc limits place accounts results)
      ≡ new_machine limits clock (begun m) [] accounts []
  new_machine_is =
      ap (λ s. new_machine limits (clock_of e) s q accounts results) state
      ∙ ap (λ x. new_machine limits x (begun m) q accounts results) (ap (λ (r : Running). r.setting.clock) (runs []))
      ∙ ap (λ x. new_machine limits clock (begun m) x accounts results) queue
      ∙ ap (λ x. new_machine limits clock (begun m) [] accounts x) untold

  pub new_base : (whole_of e).base_ids ≡ None
  new_base = base_closed e (ap (λ (s : State). s.group) state ∙ no_group m)

  pub new_sound : IsSoundEngine e → past_of e ≡ no_past → LeavesNone e → IsReadyLimits limits → IsStamp clock
      → IsDevice m → AllByRecursion IsReadyAccount accounts
      → IsConsistent (record { engine = e; queue = q; rest = new_rest alloc limits place accounts results })
  new_sound sound settled none_left ready stamp device accounts_ready = record {
    goes_on = record {
      engine = sound;
      max_obj = ap (λ (r : Running). r.max_obj) (runs []);
      ready = subst IsReadyMachine (sym new_machine_is) (record {
        limits = ready;
        clock = stamp;
        engine = begun_state_ready limits.max_obj m device;
        queue = tt;
        accounts = accounts_ready;
        results = tt;
        session = tt;
      });
    };
    sent = tt;
    farewell = tt;
    settled = settled;
    none_left = none_left;
    told = subst TellsStarted (sym state) (begins_telling m device.formed device.device.update);
    closed = λ h. ap (λ (s : State). s.group) state ∙ no_group m;
  }
