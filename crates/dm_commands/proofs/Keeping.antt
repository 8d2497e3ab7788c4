-- A step keeps the update part in order, and a device's tree a device's tree.
use Rattle.std.proofs.Common.{◌≡◌, ℕ, Bool, true, false, cond, List, [], ◌∷◌, ◌++◌, length, Option, None, Some, Ok, Err}
use Rattle.std.proofs.Common.{refl, sym, ◌∙◌, ap, subst, inl, inr}
use Rattle.std.specs.Prelude.{⊤, ◌&&◌, ◌||◌, ◌⊎◌, ◌==◌, Result, not, is_some, codes, bytes_eq, unwrap_or, IfSome}
use Rattle.std.specs.Prelude.{option_and_then}
use Rattle.std.specs.List.{find}
use Rattle.std.specs.Option.{option_map_or}
use Rattle.std.specs.Fmt.{decimal, digits}
use Rattle.std.specs.FinMap.{get, insert}
use Rattle.syncml_types.specs.declared.command.Step.{Step}
use Rattle.syncml_types.specs.declared.command.Verb.{Verb}
use Rattle.syncml_types.specs.declared.command.Verb.TheVariants as verb
use Rattle.dm_uri.specs.declared.uri.Prop.{Prop}
use Rattle.dm_uri.specs.declared.uri.Prop.TheVariants as prop
use Rattle.dm_uri.specs.declared.uri.Query.{Query}
use Rattle.dm_uri.specs.declared.uri.Query.TheVariants as query
use Rattle.dm_uri.specs.declared.uri.Uri.{Uri}
use Rattle.dm_uri.proofs.PathParts.{same_bytes}
use Rattle.dm_tree.specs.declared.nodes.Node.{Node}
use Rattle.dm_tree.specs.declared.nodes.Role.{Role}
use Rattle.dm_tree.specs.declared.nodes.Role.TheVariants as role
use Rattle.dm_tree.specs.Rows.{blank_node}
use Rattle.dm_tree.specs.Edits.{pruned}
use Rattle.dm_tree.specs.Nodes.{Path, Nodes, is_node_format, above, changed, with_value, IsWellFormed}
use Rattle.dm_tree.specs.Order.{children}
use Rattle.dm_tree.specs.Devices.{update_node, child_of_role, is_role, is_update_state, has_role, state_node, value_at}
use Rattle.dm_tree.specs.Devices.{IsDeviceTree, IsText, StaysAlike, StaysForUpdate, KeepsUpdate, KeepsDevice}
use Rattle.dm_tree.proofs.BareDevices.{no_type, plain_type}
use Rattle.dm_tree.proofs.NodesKept.{some_node, still_insert}
use Rattle.dm_tree.proofs.Paths.{Ends, ends, none, last}
use Rattle.dm_tree.proofs.LiveRows.{above-append, last_name-append}
use Rattle.dm_tree.proofs.UpdateParts.{changed_keeps_update, added_keeps_update, pruned_keeps_update}
use Rattle.dm_tree.proofs.UpdateParts.{renamed_keeps_update}
use Rattle.dm_tree.proofs.DeviceTrees.{changed_keeps_device, added_keeps_device, pruned_keeps_device}
use Rattle.dm_tree.proofs.DeviceTrees.{renamed_keeps_device}
use Rattle.dm_fumo.specs.States.{idle, ready, progressing, after_write}
use Rattle.dm_commands.specs.Outcomes.{Setting, Done, refused, unless, first_refusal, no_node, node_at}
use Rattle.dm_commands.specs.Updates.{state_in_tree, state_after_write, rewritten, rewritten_at, with_state}
use Rattle.dm_commands.specs.Table as table
use Rattle.dm_commands.specs.Table.{act}
use Rattle.dm_commands.specs.Laws.{StepKeepsUpdate, StepKeepsDevice}

-- ---- roles

same_role : (a b : Role) → is_role a b ≡ true → a ≡ b
same_role role.Plain role.Plain e = refl
same_role role.ReadOnly role.ReadOnly e = refl
same_role role.UpdateNode role.UpdateNode e = refl
same_role role.PkgData role.PkgData e = refl
same_role role.State role.State e = refl
same_role role.Plain role.ReadOnly e = absurd (cc)
same_role role.Plain role.UpdateNode e = absurd (cc)
same_role role.Plain role.PkgData e = absurd (cc)
same_role role.Plain role.State e = absurd (cc)
same_role role.ReadOnly role.Plain e = absurd (cc)
same_role role.ReadOnly role.UpdateNode e = absurd (cc)
same_role role.ReadOnly role.PkgData e = absurd (cc)
same_role role.ReadOnly role.State e = absurd (cc)
same_role role.UpdateNode role.Plain e = absurd (cc)
same_role role.UpdateNode role.ReadOnly e = absurd (cc)
same_role role.UpdateNode role.PkgData e = absurd (cc)
same_role role.UpdateNode role.State e = absurd (cc)
same_role role.PkgData role.Plain e = absurd (cc)
same_role role.PkgData role.ReadOnly e = absurd (cc)
same_role role.PkgData role.UpdateNode e = absurd (cc)
same_role role.PkgData role.State e = absurd (cc)
same_role role.State role.Plain e = absurd (cc)
same_role role.State role.ReadOnly e = absurd (cc)
same_role role.State role.UpdateNode e = absurd (cc)
same_role role.State role.PkgData e = absurd (cc)

is_itself : (r : Role) → is_role r r ≡ true
is_itself role.Plain = refl
is_itself role.ReadOnly = refl
is_itself role.UpdateNode = refl
is_itself role.PkgData = refl
is_itself role.State = refl

progressing_is_state : is_update_state (decimal progressing) ≡ true
unfolding digits
progressing_is_state = refl

ready_is_state : is_update_state (decimal ready) ≡ true
unfolding digits
ready_is_state = refl

idle_is_state : is_update_state (decimal idle) ≡ true
unfolding digits
idle_is_state = refl

-- ---- a code, or an effect

pub unless_is : (P : Nodes → Type 0) (o : Option ℕ) (m : Nodes) (effect : Done) → P m → (o ≡ None → P effect.tree)
    → P (unless o m effect).tree
unless_is P None m effect same then = then refl
unless_is P (Some code) m effect same then = same

-- no test of a list holds
abbrev pub AreFalse : List (Bool × ℕ) → Type 0
AreFalse [] = ⊤
AreFalse (r ∷ rs) = (r.0 ≡ false) × AreFalse rs

pub none_holds : (rs : List (Bool × ℕ)) → first_refusal rs ≡ None → AreFalse rs
none_holds [] e = tt
none_holds (r ∷ rs) e =
    elim r.0 as (λ b. r.0 ≡ b → cond b (Some r.1) (first_refusal rs) ≡ None → (r.0 ≡ false) × AreFalse rs) [
      | true ↦ λ is h. absurd (cc)
      | false ↦ λ is h. (is, none_holds rs h)
    ] refl e

pub is_there : (m : Nodes) (p : Path) → no_node m p ≡ false → get m p ≡ Some (node_at m p)
is_there m p e = by_look (get m p) refl
  where
    by_look : (o : Option Node) → get m p ≡ o → get m p ≡ Some (node_at m p)
    by_look (Some x) is = is ∙ ap (λ n. Some n) (sym (ap (λ o. unwrap_or o blank_node) is))
    by_look None is = absurd (let no : no_node m p ≡ true = ap (λ o. not (is_some o)) is in cc)

nothing_there : (m : Nodes) (p : Path) → is_some (get m p) ≡ false → get m p ≡ None
nothing_there m p e = by_look (get m p) refl
  where
    by_look : (o : Option Node) → get m p ≡ o → get m p ≡ None
    by_look (Some x) is = absurd (let yes : is_some (get m p) ≡ true = ap (λ o. is_some o) is in cc)
    by_look None is = is

-- ---- where State stands

found_holds : (f : Path → Bool) (qs : List Path) (q : Path) → find f qs ≡ Some q → f q ≡ true
found_holds f [] q e = absurd (cc)
found_holds f (r ∷ rs) q e =
    elim (f r) as (λ b. f r ≡ b → cond b (Some r) (find f rs) ≡ Some q → f q ≡ true) [
      | true ↦ λ is h. subst (λ x. f x ≡ true) (let same : r ≡ q = cc in same) is
      | false ↦ λ is h. found_holds f rs q h
    ] refl e

role_there : (m : Nodes) (r : Role) (q : Path) → has_role m r q ≡ true → (x : Node) × (get m q ≡ Some x) × (x.role ≡ r)
role_there m r q e = by_look (get m q) refl
  where
    by_look : (o : Option Node) → get m q ≡ o → (x : Node) × (get m q ≡ Some x) × (x.role ≡ r)
    by_look (Some x) is =
        (x, is, same_role x.role r (sym (ap (λ o. option_map_or (λ (n : Node). is_role n.role r) o false) is) ∙ e))
    by_look None is =
        absurd (let no : has_role m r q ≡ false = ap (λ o. option_map_or (λ (n : Node). is_role n.role r) o false) is in
        cc)

pub state_there : (m : Nodes) (q : Path) → state_node m ≡ Some q
    → (x : Node) × (get m q ≡ Some x) × (x.role ≡ role.State)
state_there m q e = by_update (update_node m) refl
  where
    by_update : (o : Option Path) → update_node m ≡ o → (x : Node) × (get m q ≡ Some x) × (x.role ≡ role.State)
    by_update None is =
        absurd (let none : state_node m ≡ None =
        ap (λ o. option_and_then (λ p. child_of_role m (above p) role.State) o) is in cc)
    by_update (Some u) is =
        let found : child_of_role m (above u) role.State ≡ Some q =
        sym (ap (λ o. option_and_then (λ p. child_of_role m (above p) role.State) o) is) ∙ e in
        role_there m role.State q (found_holds (has_role m role.State) (children m (above u)) q found)

-- ---- edits of one node

-- the node has other bytes, and is State with one of the five states, or neither State nor only read
record MayHave (x : Node) (bytes : List ℕ) : Type 0 where
  written : x.role ≡ role.ReadOnly → ⊥
  state : x.role ≡ role.State → is_update_state bytes ≡ true

update_rewritten : (s : Setting) (x : Node) (bytes : List ℕ) → MayHave x bytes → StaysForUpdate x (rewritten s x bytes)
update_rewritten s x bytes may =
    record { interior = refl; permanent = λ h. h; role = refl; state = λ is. inr (may.state is) }

device_rewritten : (s : Setting) (x : Node) (bytes : List ℕ) → IsText x.value.media → MayHave x bytes
    → StaysAlike x (rewritten s x bytes)
device_rewritten s x bytes text may = record {
  interior = refl;
  permanent = λ h. h;
  role = refl;
  value = inr (record { written = may.written; state = may.state; media = text });
}

-- ---- what is kept

-- the update part, and the parts of a device
record KeepsBoth (m n : Nodes) : Type 0 where
  update : KeepsUpdate m n
  device : IsDeviceTree m → KeepsDevice m n

update_itself : (m : Nodes) → KeepsUpdate m m
update_itself m = record { in_order = λ h. h; update = λ p h. h; no_update = λ h. h }

device_itself : (m : Nodes) → IsDeviceTree m → KeepsDevice m m
device_itself m device = record { tree = device; values = refl; id = refl; update = λ p h. h; no_update = λ h. h }

itself : (m : Nodes) → KeepsBoth m m
itself m = record { update = update_itself m; device = device_itself m }

and_then_update : (m n o : Nodes) → KeepsUpdate m n → KeepsUpdate n o → KeepsUpdate m o
and_then_update m n o a b = record {
  in_order = λ h. b.in_order (a.in_order h);
  update = λ p h. b.update p (a.update p h);
  no_update = λ h. b.no_update (a.no_update h);
}

and_then_device : (m n o : Nodes) → KeepsDevice m n → KeepsDevice n o → KeepsDevice m o
and_then_device m n o first second = record {
  tree = second.tree;
  values = second.values ∙ first.values;
  id = second.id ∙ first.id;
  update = λ p h. second.update p (first.update p h);
  no_update = λ h. second.no_update (first.no_update h);
}

changed_keeps : (m : Nodes) (p : Path) (x y : Node) → get m p ≡ Some x → StaysForUpdate x y
    → (IsDeviceTree m → StaysAlike x y) → KeepsBoth m (insert m p y)
changed_keeps m p x y there stays alike = record {
  update = changed_keeps_update m p x y there stays;
  device = λ device. changed_keeps_device m p x y device there (alike device);
}

-- a node whose value stays
same_value : (m : Nodes) (p : Path) (x y : Node) → get m p ≡ Some x → y.interior ≡ x.interior
    → y.permanent ≡ x.permanent → y.role ≡ x.role → y.value ≡ x.value
    → KeepsBoth m (insert m p y)
same_value m p x y there interior permanent role_is value = changed_keeps m p x y there
    (record { interior = interior; permanent = λ h. permanent ∙ h; role = role_is; state = λ _. inl value })
    (λ _. record { interior = interior; permanent = λ h. permanent ∙ h; role = role_is; value = inl value })

-- ---- State

-- State has another text, in a tree in which it still stands as it did
state_rewritten : (s : Setting) (m n : Nodes) (q : Path) (text : List ℕ) → state_node m ≡ Some q
    → ((x : Node) → get m q ≡ Some x → get n q ≡ Some x)
    → is_update_state text ≡ true → KeepsBoth n (rewritten_at s m n q text)
state_rewritten s m n q text stands still five = by_test (bytes_eq (value_at m q) text)
  where
    by_test : (b : Bool) → KeepsBoth n (cond b n (insert n q (rewritten s (node_at m q) text)))
    by_test true = itself n
    by_test false =
        let at = state_there m q stands in
        let here : node_at m q ≡ at.0 = ap (λ o. unwrap_or o blank_node) at.1 in
        let may : MayHave at.0 text =
        record {
          written = λ e. absurd (let no : role.ReadOnly ≡ role.State = sym e ∙ at.2 in cc);
          state = λ _. five;
        } in
        subst (λ x. KeepsBoth n (insert n q (rewritten s x text))) (sym here)
        (changed_keeps n q at.0 (rewritten s at.0 text) (still at.0 at.1) (update_rewritten s at.0 text may)
        (λ device. device_rewritten s at.0 text (device.texts q at.0 (still at.0 at.1)) may))

state_led : (s : Setting) (m n : Nodes) (state : ℕ)
    → ((q : Path) (x : Node) → state_node m ≡ Some q → get m q ≡ Some x → get n q ≡ Some x)
    → is_update_state (decimal state) ≡ true → KeepsBoth n (with_state s m n state)
state_led s m n state still five = by_place (state_node m) refl
  where
    by_place : (o : Option Path) → state_node m ≡ o
        → KeepsBoth n (option_map_or (λ q. rewritten_at s m n q (decimal state)) o n)
    by_place None is = itself n
    by_place (Some q) is = state_rewritten s m n q (decimal state) is (λ x. still q x is) five

exec_keeps : (s : Setting) (m : Nodes) (step : Step) (uri : Uri) → KeepsBoth m (table.exec s m step uri).tree
exec_keeps s m step uri =
    unless_is (KeepsBoth m) (first_refusal (table.exec_refusals s m step uri)) m (table.started s m) (itself m)
    (λ _. state_led s m m progressing (λ q x is there. there) progressing_is_state)

-- ---- Add

added_type : (step : Step) → IfSome step.media IsText → IsText (table.added_media step)
added_type step text = by_given step.media text
  where
    by_kind : (b : Bool) → IsText (cond b [] (codes "text/plain"))
    by_kind true = no_type
    by_kind false = plain_type

    by_given : (o : Option (List ℕ)) → IfSome o IsText
        → IsText (unwrap_or o (cond (is_node_format (table.added_format step)) [] (codes "text/plain")))
    by_given None t = by_kind (is_node_format (table.added_format step))
    by_given (Some media) t = t

-- what holds where the Type of a step is a text holds of a device's tree
record Keeps (step : Step) (m n : Nodes) : Type 0 where
  update : KeepsUpdate m n
  device : IfSome step.media IsText → IsDeviceTree m → KeepsDevice m n

whatever : (step : Step) (m n : Nodes) → KeepsBoth m n → Keeps step m n
whatever step m n both = record { update = both.update; device = λ _. both.device }

add_keeps : (s : Setting) (m : Nodes) (step : Step) (uri : Uri) → Keeps step m (table.add s m step uri).tree
add_keeps s m step uri =
    unless_is (Keeps step m) (first_refusal (table.add_refusals s m step uri)) m _ (whatever step m m (itself m)) added
  where
    added : first_refusal (table.add_refusals s m step uri) ≡ None
        → Keeps step m (insert m uri.path (table.added_node s.clock step))
    added free_all =
        let tests = none_holds (table.add_refusals s m step uri) free_all in
        let free = nothing_there m uri.path tests.1.1.1.1.1.0 in
        record {
          update = added_keeps_update m uri.path (table.added_node s.clock step) free refl;
          device = λ text device.
              added_keeps_device m uri.path (table.added_node s.clock step) device free refl (added_type step text);
        }

-- ---- Replace of a value

either : (a b : Bool) → a || b ≡ false → (a ≡ false) × (b ≡ false)
either true b e = absurd (cc)
either false b e = (refl, e)

not_role : (r k : Role) → is_role r k ≡ false → r ≡ k → ⊥
not_role r k other e = let yes : is_role r k ≡ true = ap (λ x. is_role x k) e ∙ is_itself k in cc

-- the state that a write leads to
written_state : (state : ℕ) (empty : Bool) → (state == progressing) ≡ false
    → is_update_state (decimal (unwrap_or (after_write state empty) state)) ≡ true
written_state state empty other =
    ap (λ b. is_update_state (decimal (unwrap_or (cond b None (Some (cond empty idle ready))) state))) other
    ∙ by_empty empty
  where
    by_empty : (b : Bool) → is_update_state (decimal (cond b idle ready)) ≡ true
    by_empty true = idle_is_state
    by_empty false = ready_is_state

kept_type : (m : Nodes) (p : Path) (x : Node) (step : Step) → IsDeviceTree m → get m p ≡ Some x
    → IfSome step.media IsText → IsText (table.kept_media x step)
kept_type m p x step device there text = by_given step.media text
  where
    by_given : (o : Option (List ℕ)) → IfSome o IsText → IsText (unwrap_or o x.value.media)
    by_given None t = device.texts p x there
    by_given (Some media) t = t

module _ (s : Setting) (m : Nodes) (step : Step) (p : Path) (x : Node) (there : get m p ≡ Some x)
    (free : table.is_kept_from m x ≡ false) where
  abbrev new : Node
  new = changed s.clock (with_value x (table.replaced_value x step))

  not_owned : is_role x.role role.ReadOnly || is_role x.role role.State ≡ false
  not_owned =
      (either (is_role x.role role.ReadOnly || is_role x.role role.State)
      (is_role x.role role.PkgData && (state_in_tree m == progressing)) free).0

  not_installing : is_role x.role role.PkgData && (state_in_tree m == progressing) ≡ false
  not_installing =
      (either (is_role x.role role.ReadOnly || is_role x.role role.State)
      (is_role x.role role.PkgData && (state_in_tree m == progressing)) free).1

  no_read_only : x.role ≡ role.ReadOnly → ⊥
  no_read_only =
      not_role x.role role.ReadOnly (either (is_role x.role role.ReadOnly) (is_role x.role role.State) not_owned).0

  no_state : x.role ≡ role.State → ⊥
  no_state = not_role x.role role.State (either (is_role x.role role.ReadOnly) (is_role x.role role.State) not_owned).1

  value_keeps : Keeps step m (insert m p new)
  value_keeps = record {
    update =
        changed_keeps_update m p x new there
        (record { interior = refl; permanent = λ h. h; role = refl; state = λ is. absurd (no_state is) });
    device = λ text device. changed_keeps_device m p x new device there (record {
      interior = refl;
      permanent = λ h. h;
      role = refl;
      value =
          inr (record {
            written = no_read_only;
            state = λ is. absurd (no_state is);
            media = kept_type m p x step device there text;
          });
    });
  }

  -- State still stands as it did
  state_stays : (q : Path) (y : Node) → state_node m ≡ Some q → get m q ≡ Some y → get (insert m p new) q ≡ Some y
  state_stays q y is at = elim (still_insert m p q new y at) [
    | inl h ↦ absurd (
        let state = state_there m q is in
        let same : state.0 ≡ x = some_node state.0 x (sym state.1 ∙ ap (get m) h.0 ∙ there) in
        no_state (ap (λ (n : Node). n.role) (sym same) ∙ state.2))
    | inr h ↦ h
  ]

  package_keeps : is_role x.role role.PkgData ≡ true
      → Keeps step m (with_state s m (insert m p new) (state_after_write m (length step.value == 0)))
  package_keeps is =
      let idle_now : (state_in_tree m == progressing) ≡ false =
      sym (ap (λ b. b && (state_in_tree m == progressing)) is) ∙ not_installing in
      let led = state_led s m (insert m p new) (state_after_write m (length step.value == 0)) state_stays
      (written_state (state_in_tree m) (length step.value == 0) idle_now) in
      record {
        update = (and_then_update m (insert m p new) _ value_keeps.update led.update);
        device = λ text device.
            let first = value_keeps.device text device in
            and_then_device m (insert m p new) _ first (led.device first.tree);
      }

value_place_keeps : (s : Setting) (m : Nodes) (step : Step) (p : Path) → get m p ≡ Some (node_at m p)
    → table.is_kept_from m (node_at m p) ≡ false
    → Keeps step m (table.after_value s m step p)
value_place_keeps s m step p there free = by_role (is_role (node_at m p).role role.PkgData) refl
  where
    by_role : (b : Bool) → is_role (node_at m p).role role.PkgData ≡ b
        → Keeps step m (cond b (with_state s m (table.valued s m step p) (state_after_write m (length step.value == 0)))
        (table.valued s m step p))
    by_role true is = package_keeps s m step p (node_at m p) there free is
    by_role false is = value_keeps s m step p (node_at m p) there free

replace_value_keeps : (s : Setting) (m : Nodes) (step : Step) (uri : Uri)
    → Keeps step m (table.replace_value s m step uri).tree
replace_value_keeps s m step uri =
    unless_is (Keeps step m) (first_refusal (table.value_refusals s m step uri)) m _ (whatever step m m (itself m))
    replaced
  where
    replaced : first_refusal (table.value_refusals s m step uri) ≡ None
        → Keeps step m (table.after_value s m step uri.path)
    replaced free_all =
        let tests = none_holds (table.value_refusals s m step uri) free_all in
        value_place_keeps s m step uri.path (is_there m uri.path tests.0) tests.1.1.1.1.0

-- ---- Replace of a property

acl_keeps : (s : Setting) (m : Nodes) (step : Step) (uri : Uri) → KeepsBoth m (table.replace_acl s m step uri).tree
acl_keeps s m step uri = unless_is (KeepsBoth m) (first_refusal (table.acl_refusals s m step uri)) m _ (itself m)
    (λ free. same_value m uri.path (node_at m uri.path) _
    (is_there m uri.path (none_holds (table.acl_refusals s m step uri) free).0) refl refl refl refl)

title_keeps : (s : Setting) (m : Nodes) (step : Step) (uri : Uri) → KeepsBoth m (table.replace_title s m step uri).tree
title_keeps s m step uri = unless_is (KeepsBoth m) (first_refusal (table.title_refusals s m step uri)) m _ (itself m)
    (λ free. same_value m uri.path (node_at m uri.path) _
    (is_there m uri.path (none_holds (table.title_refusals s m step uri) free).0) refl refl refl refl)

other_keeps : (m : Nodes) (uri : Uri) → KeepsBoth m (table.replace_other m uri).tree
other_keeps m uri =
    unless_is (KeepsBoth m) (first_refusal ((no_node m uri.path, 404) ∷ [])) m (refused m 405) (itself m)
    (λ _. itself m)

-- beside a node that has the name stands the node itself
beside_itself : (p : Path) (name : List ℕ) → table.is_own_name p name ≡ true → table.beside p name ≡ p
beside_itself p name own = by_end p (ends p) own
  where
    by_end : (q : Path) → Ends q → table.is_own_name q name ≡ true → table.beside q name ≡ q
    by_end [] none e = absurd (cc)
    by_end q (last front n) e =
        let same : n ≡ name =
        same_bytes n name
        (sym (ap (λ o. option_map_or (λ own. bytes_eq own name) o false) (last_name-append front n)) ∙ e) in
        ap (λ a. a ++ name ∷ []) (above-append front n) ∙ ap (λ k. front ++ k ∷ []) (sym same)

free_beside : (m : Nodes) (p : Path) (name : List ℕ) → table.is_taken_beside m p name ≡ false
    → (get m (table.beside p name) ≡ None) ⊎ (table.beside p name ≡ p)
free_beside m p name free = by_own (table.is_own_name p name) refl
  where
    by_own : (b : Bool) → table.is_own_name p name ≡ b
        → (get m (table.beside p name) ≡ None) ⊎ (table.beside p name ≡ p)
    by_own true is = inr (beside_itself p name is)
    by_own false is =
        inl (nothing_there m (table.beside p name) (by_there (is_some (get m (table.beside p name))) refl))
      where
        by_there : (b : Bool) → is_some (get m (table.beside p name)) ≡ b → b ≡ false
        by_there false e = refl
        by_there true e =
            absurd (let taken : table.is_taken_beside m p name ≡ true = ap (λ b. b && not (table.is_own_name p name)) e
            ∙ ap not is in cc)

name_keeps : (s : Setting) (m : Nodes) (step : Step) (uri : Uri) → IsWellFormed m
    → KeepsBoth m (table.replace_name s m step uri).tree
name_keeps s m step uri formed =
    unless_is (KeepsBoth m) (first_refusal (table.name_refusals s m step uri)) m _ (itself m) renamed_there
  where
    renamed_there : first_refusal (table.name_refusals s m step uri) ≡ None
        → KeepsBoth m (table.renamed_at s m uri.path step.value)
    renamed_there free_all =
        let tests = none_holds (table.name_refusals s m step uri) free_all in
        let there = is_there m uri.path tests.0 in
        let free = free_beside m uri.path step.value tests.1.1.1.1.1.0 in
        record {
          update =
              renamed_keeps_update m uri.path step.value (node_at m uri.path) (changed s.clock (node_at m uri.path))
              formed there tests.1.1.0 free refl;
          device = λ device.
              renamed_keeps_device m uri.path step.value (node_at m uri.path) (changed s.clock (node_at m uri.path))
              formed device there tests.1.1.0 free
              (record { interior = refl; permanent = λ h. h; role = refl; value = inl refl });
        }

delete_keeps : (s : Setting) (m : Nodes) (uri : Uri) → IsWellFormed m → KeepsBoth m (table.delete s m uri).tree
delete_keeps s m uri formed =
    unless_is (KeepsBoth m) (first_refusal (table.delete_refusals s m uri)) m _ (itself m) gone
  where
    gone : first_refusal (table.delete_refusals s m uri) ≡ None → KeepsBoth m (pruned m uri.path)
    gone free_all =
        let tests = none_holds (table.delete_refusals s m uri) free_all in
        let there = is_there m uri.path tests.1.0 in
        record {
          update = pruned_keeps_update m uri.path (node_at m uri.path) formed there tests.1.1.1.0;
          device = λ device. pruned_keeps_device m uri.path (node_at m uri.path) formed device there tests.1.1.1.0;
        }

-- ---- the whole table

prop_keeps : (s : Setting) (m : Nodes) (step : Step) (uri : Uri) (q : Prop) → IsWellFormed m
    → KeepsBoth m (table.replace_prop s m step uri q).tree
prop_keeps s m step uri prop.Acl formed = acl_keeps s m step uri
prop_keeps s m step uri prop.Name formed = name_keeps s m step uri formed
prop_keeps s m step uri prop.Title formed = title_keeps s m step uri
prop_keeps s m step uri prop.Format formed = other_keeps m uri
prop_keeps s m step uri prop.Size formed = other_keeps m uri
prop_keeps s m step uri prop.Media formed = other_keeps m uri
prop_keeps s m step uri prop.VerNo formed = other_keeps m uri
prop_keeps s m step uri prop.TStamp formed = other_keeps m uri

replace_keeps : (s : Setting) (m : Nodes) (step : Step) (uri : Uri) (q : Query) → IsWellFormed m
    → Keeps step m (table.replace s m step uri q).tree
replace_keeps s m step uri query.Plain formed = replace_value_keeps s m step uri
replace_keeps s m step uri (query.Prop p) formed = whatever step m _ (prop_keeps s m step uri p formed)
replace_keeps s m step uri query.Struct formed = whatever step m _ (other_keeps m uri)
replace_keeps s m step uri query.StructData formed = whatever step m _ (other_keeps m uri)

get_keeps : (s : Setting) (m : Nodes) (uri : Uri) → KeepsBoth m (table.get_ s m uri).tree
get_keeps s m uri = unless_is (KeepsBoth m) (first_refusal (table.get_refusals s m uri)) m _ (itself m) (λ _. itself m)

verb_keeps : (s : Setting) (m : Nodes) (step : Step) (uri : Uri) (v : Verb) → IsWellFormed m
    → Keeps step m (table.by_verb s m step uri v).tree
verb_keeps s m step uri verb.Copy formed = whatever step m m (itself m)
verb_keeps s m step uri verb.Exec formed = whatever step m _ (exec_keeps s m step uri)
verb_keeps s m step uri verb.Get formed = whatever step m _ (get_keeps s m uri)
verb_keeps s m step uri verb.Add formed = add_keeps s m step uri
verb_keeps s m step uri verb.Replace formed = replace_keeps s m step uri uri.query formed
verb_keeps s m step uri verb.Delete formed = whatever step m _ (delete_keeps s m uri formed)

target_keeps : (s : Setting) (m : Nodes) (step : Step) (read : Result Uri ℕ) → IsWellFormed m
    → Keeps step m (table.at_target s m step read).tree
target_keeps s m step (Err code) formed = whatever step m m (itself m)
target_keeps s m step (Ok uri) formed = verb_keeps s m step uri step.verb formed

pub step_keeps_update : StepKeepsUpdate
unfolding act
step_keeps_update s m step formed order = (target_keeps s m step (table.target_of step) formed).update.in_order order

pub step_keeps_device : StepKeepsDevice
unfolding act
step_keeps_device s m step formed device text = (target_keeps s m step (table.target_of step) formed).device text device
