-- A step, and the end of an update, keep the tree of a device one.
use Rattle.std.proofs.Common.{◌≡◌, ℕ, Bool, true, false, cond, List, [], Option, None, Some, refl, sym, ◌∙◌, ap, subst}
use Rattle.std.proofs.Common.{inr}
use Rattle.std.specs.Prelude.{bytes_eq, unwrap_or, IfSome}
use Rattle.std.specs.Option.{option_map_or}
use Rattle.std.specs.Fmt.{decimal, digits}
use Rattle.std.specs.FinMap.{get, insert}
use Rattle.syncml_types.specs.declared.command.Step.{Step}
use Rattle.dm_fumo.specs.States.{after_result}
use Rattle.dm_tree.specs.declared.nodes.Node.{Node}
use Rattle.dm_tree.specs.declared.nodes.Role.TheVariants as role
use Rattle.dm_tree.specs.declared.nodes.Stamp.{Stamp}
use Rattle.dm_tree.specs.Nodes.{Path, Nodes, IsStamp}
use Rattle.dm_tree.specs.Rows.{blank_node}
use Rattle.dm_tree.specs.Devices.{pkg_data, state_node, value_at, is_update_state, IsDeviceTree, IsText, StaysAlike}
use Rattle.dm_tree.proofs.DeviceTrees.{changed_keeps_device}
use Rattle.dm_commands.specs.Outcomes.{Setting, asked_by, node_at}
use Rattle.dm_commands.specs.Updates.{rewritten, rewritten_at, with_state, package_at, update_ended}
use Rattle.dm_commands.specs.Promises.{IsShortStep}
use Rattle.dm_commands.specs.Table.{act}
use Rattle.dm_commands.proofs.Keeping.{state_there, step_keeps_device}
use Rattle.dm_machine.specs.Ready.{IsDevice}
use Rattle.dm_machine.proofs.FormedSteps.{act_formed, update_formed, package_there, still_state}

-- a step whose Type is a text keeps the tree of a device one
pub act_device : (s : Setting) (m : Nodes) (step : Step) → IsStamp s.clock → IsShortStep step → IfSome step.media IsText
    → IsDevice m → IsDevice (act s m step).tree
act_device s m step stamp short text is = record {
  formed = act_formed s m step stamp short is.formed is.device.update;
  device = (step_keeps_device s m step is.formed is.device text).tree;
}

-- ---- the end of an update

-- a node that isn't only read has other bytes
alike_rewritten : (s : Setting) (x : Node) (bytes : List ℕ) → IsText x.value.media → (x.role ≡ role.ReadOnly → ⊥)
    → (x.role ≡ role.State → is_update_state bytes ≡ true) → StaysAlike x (rewritten s x bytes)
alike_rewritten s x bytes text written state = record {
  interior = refl;
  permanent = λ h. h;
  role = refl;
  value = inr (record { written = written; state = state; media = text });
}

result_is_state : (ok : Bool) → is_update_state (decimal (after_result ok)) ≡ true
unfolding digits
result_is_state true = refl
result_is_state false = refl

module _ (s : Setting) (m n : Nodes) (device : IsDeviceTree n)
    (still : (q : Path) (x : Node) → state_node m ≡ Some q → get m q ≡ Some x → get n q ≡ Some x) (text : List ℕ)
    (is_state : is_update_state text ≡ true) where
  restated : (q : Path) → state_node m ≡ Some q → IsDeviceTree (rewritten_at s m n q text)
  restated q is = by_test (bytes_eq (value_at m q) text)
    where
      by_test : (b : Bool) → IsDeviceTree (cond b n (insert n q (rewritten s (node_at m q) text)))
      by_test true = device
      by_test false =
          let at = state_there m q is in
          let there = still q at.0 is at.1 in
          let here : node_at m q ≡ at.0 = ap (λ o. unwrap_or o blank_node) at.1 in
          subst (λ (x : Node). IsDeviceTree (insert n q (rewritten s x text))) (sym here)
          (changed_keeps_device n q at.0 (rewritten s at.0 text) device there
          (alike_rewritten s at.0 text (device.texts q at.0 there)
          (λ e. absurd (let no : role.ReadOnly ≡ role.State = sym e ∙ at.2 in cc)) (λ _. is_state))).tree

led_device : (s : Setting) (m n : Nodes) → IsDeviceTree n
    → ((q : Path) (x : Node) → state_node m ≡ Some q → get m q ≡ Some x → get n q ≡ Some x)
    → (state : ℕ) → is_update_state (decimal state) ≡ true → IsDeviceTree (with_state s m n state)
led_device s m n device still state is_state = by_place (state_node m) refl
  where
    by_place : (o : Option Path) → state_node m ≡ o
        → IsDeviceTree (option_map_or (λ q. rewritten_at s m n q (decimal state)) o n)
    by_place None is = device
    by_place (Some q) is = restated s m n device still (decimal state) is_state q is

emptied_device : (clock : Stamp) (m : Nodes) → IsDeviceTree m → (p : Path) → pkg_data m ≡ Some p → (ok : Bool)
    → IsDeviceTree (package_at clock m ok p)
emptied_device clock m device p is false = device
emptied_device clock m device p is true =
    let at = package_there m p is in
    let here : node_at m p ≡ at.0 = ap (λ o. unwrap_or o blank_node) at.1 in
    subst (λ (x : Node). IsDeviceTree (insert m p (rewritten (asked_by [] clock) x []))) (sym here)
    (changed_keeps_device m p at.0 (rewritten (asked_by [] clock) at.0 []) device at.1
    (alike_rewritten (asked_by [] clock) at.0 [] (device.texts p at.0 at.1)
    (λ e. absurd (let no : role.ReadOnly ≡ role.PkgData = sym e ∙ at.2 in cc))
    (λ e. absurd (let no : role.State ≡ role.PkgData = sym e ∙ at.2 in cc)))).tree

ended_device : (clock : Stamp) → IsStamp clock → (m : Nodes) → IsDevice m → (ok : Bool)
    → IsDeviceTree (with_state (asked_by [] clock) m (option_map_or (package_at clock m ok) (pkg_data m) m)
    (after_result ok))
ended_device clock stamp m is ok = by_place (pkg_data m) refl
  where
    by_place : (o : Option Path) → pkg_data m ≡ o
        → IsDeviceTree (with_state (asked_by [] clock) m (option_map_or (package_at clock m ok) o m) (after_result ok))
    by_place None none =
        led_device (asked_by [] clock) m m is.device (λ q x _ there. there) (after_result ok) (result_is_state ok)
    by_place (Some p) here =
        led_device (asked_by [] clock) m (package_at clock m ok p) (emptied_device clock m is.device p here ok)
        (still_state clock stamp m is.formed is.device.update p here ok) (after_result ok) (result_is_state ok)

-- the end of an update keeps the tree of a device one
pub update_device : (clock : Stamp) (m : Nodes) (ok : Bool) → IsStamp clock → IsDevice m
    → IsDevice (update_ended clock m ok)
unfolding update_ended
update_device clock m ok stamp is = record {
  formed = update_formed clock m ok stamp is.formed is.device.update;
  device = ended_device clock stamp m is ok;
}
