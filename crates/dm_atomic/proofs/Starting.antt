-- After a step an update runs exactly where one ran before, or the step started it.
use Rattle.std.proofs.Common.{◌≡◌, ◌<◌, ◌==◌, ℕ, Bool, true, false, not, cond, if◌then◌else◌, List, [], ◌∷◌, ◌++◌}
use Rattle.std.proofs.Common.{length, Option, None, Some, refl, sym, ◌∙◌, ap, subst, inl, inr}
use Rattle.std.specs.Prelude.{◌⊎◌, ◌&&◌, ◌||◌, Result, Ok, Err, is_some, codes, bytes_eq, unwrap_or}
use Rattle.std.specs.Option.{option_map, option_map_or}
use Rattle.std.specs.Fmt.{decimal, digits}
use Rattle.std.specs.FinMap.{get, insert}
use Rattle.std.specs.Str.Parse.{digits_value}
use Rattle.std.proofs.Common.{arith}
use Rattle.syncml_types.specs.declared.command.Step.{Step}
use Rattle.syncml_types.specs.declared.command.Verb.{Verb}
use Rattle.syncml_types.specs.declared.command.Verb.TheVariants as verb
use Rattle.dm_uri.specs.declared.uri.Prop.{Prop}
use Rattle.dm_uri.specs.declared.uri.Prop.TheVariants as prop
use Rattle.dm_uri.specs.declared.uri.Query.{Query}
use Rattle.dm_uri.specs.declared.uri.Query.TheVariants as query
use Rattle.dm_uri.specs.declared.uri.Uri.{Uri}
use Rattle.dm_uri.proofs.PathParts.{same_bytes}
use Rattle.dm_fumo.specs.States.{idle, ready, progressing}
use Rattle.dm_tree.specs.declared.nodes.Node.{Node}
use Rattle.dm_tree.specs.declared.nodes.Value.{Value}
use Rattle.dm_tree.specs.declared.nodes.Role.{Role}
use Rattle.dm_tree.specs.declared.nodes.Role.TheVariants as role
use Rattle.dm_tree.specs.Nodes.{Path, Nodes, changed, with_value}
use Rattle.dm_tree.specs.Rows.{blank_node}
use Rattle.dm_tree.specs.Edits.{pruned}
use Rattle.dm_tree.specs.Devices.{is_role, is_of_update, is_update_state, value_at, HasUpdate, HasNoUpdate}
use Rattle.dm_tree.specs.Devices.{IsUpdateInOrder, StaysForUpdate}
use Rattle.dm_tree.proofs.Devices.{update_is_found}
use Rattle.dm_tree.proofs.NodesKept.{Keeps, still_insert, here_insert, keeps_changed, keeps_added}
use Rattle.dm_tree.proofs.Paths.{Ends, ends, none, last}
use Rattle.dm_tree.proofs.LiveRows.{above-append, last_name-append}
use Rattle.dm_tree.proofs.UpdateParts.{stands, has_update, has_no_update, changed_keeps_update}
use Rattle.dm_commands.specs.Finding.{found_by}
use Rattle.dm_commands.specs.Outcomes.{Setting, Done, refused, changed_to, done_finding, unless, first_refusal, no_node}
use Rattle.dm_commands.specs.Outcomes.{node_at}
use Rattle.dm_commands.specs.Updates.{state_in_tree, state_after_write, rewritten, rewritten_at, with_state}
use Rattle.dm_commands.specs.Table as table
use Rattle.dm_commands.specs.Table.{act}
use Rattle.dm_commands.proofs.Ended.{running_has}
use Rattle.dm_commands.proofs.Keeping.{none_holds, is_there}
use Rattle.dm_commands.proofs.Updating.{at_update, at_package, small_back, progressing_back}
use Rattle.dm_commands.proofs.UpdateParts.{data_not_state}
use Rattle.dm_atomic.specs.Updates.{is_updating, IsAnchored, RunsWhereStarted}
use Rattle.dm_atomic.proofs.Anchors.{Lasts, StayPermanent, lasts_itself, lasts_then, changed_lasts, changed_permanent}
use Rattle.dm_atomic.proofs.Anchors.{added_permanent, pruned_keeps, pruned_permanent, renamed_keeps, renamed_permanent}
use Rattle.dm_atomic.proofs.Anchors.{anchored_of}
use Rattle.dm_atomic.proofs.UpdateEnds.{runs}

-- ---- where State has the value that it had

-- a node has become another one, with the same value where it is State
record KeepsState (x y : Node) : Type 0 where
  stays : StaysForUpdate x y
  value : x.role ≡ role.State → y.value ≡ x.value

itself : (x : Node) → KeepsState x x
itself x = record {
  stays = record { interior = refl; permanent = λ h. h; role = refl; state = λ _. inl refl };
  value = λ _. refl;
}

for_update : (x y : Node) → KeepsState x y → StaysForUpdate x y
for_update x y k = k.stays

kept_lasts : (m n : Nodes) → Keeps KeepsState m n → StayPermanent m n → Lasts m n
kept_lasts m n keeps permanent = record {
  keeps = record {
    still = λ q x there mark.
        let still = keeps.still q x there mark in
        record { new = still.new; there = still.there; alike = still.alike.stays };
    was = keeps.was;
  };
  permanent = permanent;
}

abbrev pub state_path : Path → Path
state_path p = p ++ codes "State" ∷ []

pub number_at : (m : Nodes) (p : Path) (x : Node) → HasUpdate m p → get m (state_path p) ≡ Some x
    → state_in_tree m ≡ digits_value 10 x.value.bytes
number_at m p x has there =
    ap (λ o. digits_value 10 (option_map_or (value_at m) o [])) (update_is_found m p has).2
    ∙ ap (λ o. digits_value 10 (unwrap_or (option_map (λ (n : Node). n.value.bytes) o) [])) there

idle_without : (m : Nodes) → HasNoUpdate m → is_updating m ≡ false
idle_without m without = by_test (is_updating m) refl
  where
    by_test : (b : Bool) → is_updating m ≡ b → b ≡ false
    by_test false e = refl
    by_test true e =
        let has = running_has m (inl without) (runs m e) in
        let never : is_of_update has.1.update.role ≡ false = without _ has.1.update has.1.update_stands.there in
        let yes : is_of_update has.1.update.role ≡ true = ap is_of_update has.1.update_stands.role_is in
        absurd (cc)

same_running : (m n : Nodes) → IsUpdateInOrder m → Keeps KeepsState m n → is_updating n ≡ is_updating m
same_running m n (inl without) keeps =
    idle_without n (has_no_update KeepsState for_update m n keeps without) ∙ sym (idle_without m without)
same_running m n (inr has) keeps =
    let p = has.0 in
    let state = stands KeepsState for_update m n keeps (state_path p) false role.State has.1.state has.1.state_stands in
    let value : state.0.value.bytes ≡ has.1.state.value.bytes =
    ap (λ (v : Value). v.bytes) (state.2.value has.1.state_stands.role_is) in
    ap (λ k. k == progressing)
    (number_at n p state.0 (has_update KeepsState for_update m n keeps p has.1) state.1.there
    ∙ ap (digits_value 10) value ∙ sym (number_at m p has.1.state has.1 has.1.state_stands.there))

-- ---- where State is written

module _ (s : Setting) (m n : Nodes) (p : Path) (has : HasUpdate m p) (behind : HasUpdate n p)
    (still : get n (state_path p) ≡ Some has.state) (k : ℕ) (back : digits_value 10 (decimal k) ≡ k)
    (five : is_update_state (decimal k) ≡ true) where
  abbrev rest : Bool → Nodes
  rest same = if same then n else insert n (state_path p) (rewritten s (node_at m (state_path p)) (decimal k))

  led : with_state s m n k ≡ rest (bytes_eq (value_at m (state_path p)) (decimal k))
  led = ap (λ o. option_map_or (λ q. rewritten_at s m n q (decimal k)) o n) (update_is_found m p has).2

  here : node_at m (state_path p) ≡ has.state
  here = ap (λ o. unwrap_or o blank_node) has.state_stands.there

  text : value_at m (state_path p) ≡ has.state.value.bytes
  text = ap (λ o. unwrap_or (option_map (λ (x : Node). x.value.bytes) o) []) has.state_stands.there

  abbrev new : Node
  new = rewritten s (node_at m (state_path p)) (decimal k)

  stays_new : StaysForUpdate has.state new
  stays_new = record {
    interior = ap (λ (x : Node). x.interior) here;
    permanent = λ h. ap (λ (x : Node). x.permanent) here ∙ h;
    role = ap (λ (x : Node). x.role) here;
    state = λ h. inr five;
  }

  by_text : (same : Bool) → bytes_eq (value_at m (state_path p)) (decimal k) ≡ same → state_in_tree (rest same) ≡ k
  by_text true e =
      number_at n p has.state behind still
      ∙ ap (digits_value 10) (sym text ∙ same_bytes (value_at m (state_path p)) (decimal k) e) ∙ back
  by_text false e =
      number_at (insert n (state_path p) new) p new
      ((changed_keeps_update n (state_path p) has.state new still stays_new).update p behind)
      (here_insert n (state_path p) new)
      ∙ back

  pub written : state_in_tree (with_state s m n k) ≡ k
  written = ap state_in_tree led ∙ by_text (bytes_eq (value_at m (state_path p)) (decimal k)) refl

  rest_lasts : (same : Bool) → Lasts n (rest same)
  rest_lasts true = lasts_itself n
  rest_lasts false = changed_lasts n (state_path p) has.state new still stays_new (ap (λ (x : Node). x.permanent) here)

  pub led_lasts : Lasts n (with_state s m n k)
  led_lasts = subst (Lasts n) (sym led) (rest_lasts (bytes_eq (value_at m (state_path p)) (decimal k)))

-- ---- a code, or an effect

-- what runs after a step
record Starts (m : Nodes) (done : Done) : Type 0 where
  runs : is_updating done.tree ≡ is_updating m || done.started
  lasts : Lasts m done.tree

or-false : (b : Bool) → b ≡ b || false
or-false true = refl
or-false false = refl

or-true : (b : Bool) → true ≡ b || true
or-true true = refl
or-true false = refl

nothing_starts : (m : Nodes) (done : Done) → done.tree ≡ m → done.started ≡ false → Starts m done
nothing_starts m done e f = record {
  runs = ap is_updating e ∙ or-false (is_updating m) ∙ ap (λ b. is_updating m || b) (sym f);
  lasts = subst (Lasts m) (sym e) (lasts_itself m);
}

-- the same where nothing is started
same_starts : (m : Nodes) (done : Done) → done.started ≡ false → is_updating done.tree ≡ is_updating m
    → Lasts m done.tree
    → Starts m done
same_starts m done f e l =
    record { runs = e ∙ or-false (is_updating m) ∙ ap (λ b. is_updating m || b) (sym f); lasts = l }

-- State keeps its value
kept_starts : (m : Nodes) (done : Done) → IsUpdateInOrder m → done.started ≡ false → Keeps KeepsState m done.tree
    → StayPermanent m done.tree → Starts m done
kept_starts m done order f keeps permanent =
    same_starts m done f (same_running m done.tree order keeps) (kept_lasts m done.tree keeps permanent)

by_refusal : (o : Option ℕ) (m : Nodes) (effect : Done) → (o ≡ None → Starts m effect) → Starts m (unless o m effect)
by_refusal None m effect behind = behind refl
by_refusal (Some code) m effect behind = nothing_starts m (refused m code) refl refl

changed_keeps_state : (m : Nodes) (p : Path) (x y : Node) → get m p ≡ Some x → y.interior ≡ x.interior
    → y.permanent ≡ x.permanent → y.role ≡ x.role → (x.role ≡ role.State → y.value ≡ x.value)
    → Keeps KeepsState m (insert m p y)
changed_keeps_state m p x y there interior permanent role_is value =
    keeps_changed KeepsState itself m p x y there (record {
      stays = record {
        interior = interior;
        permanent = λ h. permanent ∙ h;
        role = role_is;
        state = λ h. inl (value h);
      };
      value = value;
    }) role_is

-- a node becomes another one
changed_starts : (m : Nodes) (p : Path) (x y : Node) → IsUpdateInOrder m → get m p ≡ Some x → y.interior ≡ x.interior
    → y.permanent ≡ x.permanent → y.role ≡ x.role → (x.role ≡ role.State → y.value ≡ x.value)
    → Starts m (changed_to (insert m p y))
changed_starts m p x y order there interior permanent role_is value =
    kept_starts m (changed_to (insert m p y)) order refl
    (changed_keeps_state m p x y there interior permanent role_is value)
    (changed_permanent m p x y there permanent)

-- ---- Exec

sixty : is_update_state (decimal progressing) ≡ true
unfolding digits
sixty = refl

exec_starts : (s : Setting) (m : Nodes) (step : Step) (uri : Uri) → IsUpdateInOrder m
    → Starts m (table.exec s m step uri)
exec_starts s m step uri order =
    by_refusal (first_refusal (table.exec_refusals s m step uri)) m (table.started s m) behind
  where
    same_role : (r : Role) → is_role r role.UpdateNode ≡ true → r ≡ role.UpdateNode
    same_role role.UpdateNode e = refl
    same_role role.Plain e = absurd (cc)
    same_role role.ReadOnly e = absurd (cc)
    same_role role.PkgData e = absurd (cc)
    same_role role.State e = absurd (cc)

    yes : (b : Bool) → not b ≡ false → b ≡ true
    yes true e = refl
    yes false e = absurd (cc)

    behind : first_refusal (table.exec_refusals s m step uri) ≡ None → Starts m (table.started s m)
    behind free =
        let tests = none_holds (table.exec_refusals s m step uri) free in
        let at = at_update m order uri.path (node_at m uri.path) (is_there m uri.path tests.1.0)
        (same_role (node_at m uri.path).role (yes (is_role (node_at m uri.path).role role.UpdateNode) tests.1.1.1.0)) in
        record {
          runs =
              ap (λ k. k == progressing)
              (written s m m at.0 at.1 at.1 at.1.state_stands.there progressing progressing_back sixty)
              ∙ or-true (is_updating m);
          lasts = led_lasts s m m at.0 at.1 at.1 at.1.state_stands.there progressing progressing_back sixty;
        }

-- ---- Add, Delete and Replace

nothing_there : (m : Nodes) (p : Path) → is_some (get m p) ≡ false → get m p ≡ None
nothing_there m p e = by_look (get m p) refl
  where
    by_look : (o : Option Node) → get m p ≡ o → get m p ≡ None
    by_look (Some x) is = absurd (let yes : is_some (get m p) ≡ true = ap (λ o. is_some o) is in cc)
    by_look None is = is

add_starts : (s : Setting) (m : Nodes) (step : Step) (uri : Uri) → IsUpdateInOrder m → Starts m (table.add s m step uri)
add_starts s m step uri order = by_refusal (first_refusal (table.add_refusals s m step uri)) m _ behind
  where
    behind : first_refusal (table.add_refusals s m step uri) ≡ None
        → Starts m (changed_to (insert m uri.path (table.added_node s.clock step)))
    behind free =
        let tests = none_holds (table.add_refusals s m step uri) free in
        let none = nothing_there m uri.path tests.1.1.1.1.1.0 in
        kept_starts m (changed_to (insert m uri.path (table.added_node s.clock step))) order refl
        (keeps_added KeepsState itself m uri.path (table.added_node s.clock step) none refl)
        (added_permanent m uri.path (table.added_node s.clock step) refl)

delete_starts : (s : Setting) (m : Nodes) (uri : Uri) → IsAnchored m → IsUpdateInOrder m
    → Starts m (table.delete s m uri)
delete_starts s m uri anchored order = by_refusal (first_refusal (table.delete_refusals s m uri)) m _ behind
  where
    behind : first_refusal (table.delete_refusals s m uri) ≡ None → Starts m (changed_to (pruned m uri.path))
    behind free =
        let tests = none_holds (table.delete_refusals s m uri) free in
        kept_starts m (changed_to (pruned m uri.path)) order refl
        (pruned_keeps KeepsState itself m uri.path (node_at m uri.path) anchored (is_there m uri.path tests.1.0)
        tests.1.1.1.0) (pruned_permanent m uri.path)

acl_starts : (s : Setting) (m : Nodes) (step : Step) (uri : Uri) → IsUpdateInOrder m
    → Starts m (table.replace_acl s m step uri)
acl_starts s m step uri order = by_refusal (first_refusal (table.acl_refusals s m step uri)) m _
    (λ free. changed_starts m uri.path (node_at m uri.path) _ order
    (is_there m uri.path (none_holds (table.acl_refusals s m step uri) free).0) refl refl refl (λ _. refl))

title_starts : (s : Setting) (m : Nodes) (step : Step) (uri : Uri) → IsUpdateInOrder m
    → Starts m (table.replace_title s m step uri)
title_starts s m step uri order = by_refusal (first_refusal (table.title_refusals s m step uri)) m _
    (λ free. changed_starts m uri.path (node_at m uri.path) _ order
    (is_there m uri.path (none_holds (table.title_refusals s m step uri) free).0) refl refl refl (λ _. refl))

other_starts : (m : Nodes) (uri : Uri) → Starts m (table.replace_other m uri)
other_starts m uri =
    by_refusal (first_refusal ((no_node m uri.path, 404) ∷ [])) m (refused m 405)
    (λ _. nothing_starts m (refused m 405) refl refl)

-- beside a node that has the name stands the node itself
beside_itself : (p : Path) (name : List ℕ) → table.is_own_name p name ≡ true → table.beside p name ≡ p
beside_itself p name own = by_end p (ends p) own
  where
    by_end : (q : Path) → Ends q → table.is_own_name q name ≡ true → table.beside q name ≡ q
    by_end [] none e = absurd (cc)
    by_end q (last front n) e =
        let same : n ≡ name = same_bytes n name
        (sym (ap (λ o. option_map_or (λ own. bytes_eq own name) o false) (last_name-append front n)) ∙ e) in
        ap (λ a. a ++ name ∷ []) (above-append front n) ∙ ap (λ k. front ++ k ∷ []) (sym same)

free_beside : (m : Nodes) (p : Path) (name : List ℕ) → table.is_taken_beside m p name ≡ false
    → (get m (table.beside p name) ≡ None) ⊎ (table.beside p name ≡ p)
free_beside m p name free = by_own (table.is_own_name p name) refl
  where
    by_own : (b : Bool) → table.is_own_name p name ≡ b
        → (get m (table.beside p name) ≡ None) ⊎ (table.beside p name ≡ p)
    by_own true is = inr (beside_itself p name is)
    by_own false is =
        inl (nothing_there m (table.beside p name) (by_there (is_some (get m (table.beside p name))) refl))
      where
        by_there : (b : Bool) → is_some (get m (table.beside p name)) ≡ b → b ≡ false
        by_there false e = refl
        by_there true e = absurd (
            let taken : table.is_taken_beside m p name ≡ true =
            ap (λ b. b && not (table.is_own_name p name)) e ∙ ap not is in
            cc)

name_starts : (s : Setting) (m : Nodes) (step : Step) (uri : Uri) → IsAnchored m → IsUpdateInOrder m
    → Starts m (table.replace_name s m step uri)
name_starts s m step uri anchored order = by_refusal (first_refusal (table.name_refusals s m step uri)) m _ behind
  where
    behind : first_refusal (table.name_refusals s m step uri) ≡ None
        → Starts m (changed_to (table.renamed_at s m uri.path step.value))
    behind free =
        let tests = none_holds (table.name_refusals s m step uri) free in
        let there = is_there m uri.path tests.0 in
        let place = free_beside m uri.path step.value tests.1.1.1.1.1.0 in
        let new = changed s.clock (node_at m uri.path) in
        kept_starts m (changed_to (table.renamed_at s m uri.path step.value)) order refl
        (renamed_keeps m uri.path step.value (node_at m uri.path) new anchored there tests.1.1.0 place KeepsState itself
        refl)
        (renamed_permanent m uri.path step.value (node_at m uri.path) new anchored there tests.1.1.0 place tests.1.1.0)

-- ---- Replace of a value

either : (a b : Bool) → a || b ≡ false → (a ≡ false) × (b ≡ false)
either true b e = absurd (cc)
either false b e = (refl, e)

not_state : (r : Role) → is_role r role.State ≡ false → r ≡ role.State → ⊥
not_state r other e = let yes : is_role r role.State ≡ true = ap (λ x. is_role x role.State) e in cc

is_package : (r : Role) → is_role r role.PkgData ≡ true → r ≡ role.PkgData
is_package role.PkgData e = refl
is_package role.Plain e = absurd (cc)
is_package role.ReadOnly e = absurd (cc)
is_package role.UpdateNode e = absurd (cc)
is_package role.State e = absurd (cc)

idle_five : is_update_state (decimal idle) ≡ true
unfolding digits
idle_five = refl

ready_five : is_update_state (decimal ready) ≡ true
unfolding digits
ready_five = refl

module _ (s : Setting) (m : Nodes) (step : Step) (p : Path) (order : IsUpdateInOrder m)
    (there : get m p ≡ Some (node_at m p)) (free : table.is_kept_from m (node_at m p) ≡ false) where
  abbrev x : Node
  x = node_at m p

  abbrev y : Node
  y = changed s.clock (with_value x (table.replaced_value x step))

  abbrev installing : Bool
  installing = is_role x.role role.PkgData && (state_in_tree m == progressing)

  no_state : x.role ≡ role.State → ⊥
  no_state = not_state x.role (either (is_role x.role role.ReadOnly) (is_role x.role role.State)
      (either (is_role x.role role.ReadOnly || is_role x.role role.State) installing free).0).1

  idle_then : is_role x.role role.PkgData ≡ true → is_updating m ≡ false
  idle_then is =
      sym (ap (λ b. b && (state_in_tree m == progressing)) is)
      ∙ (either (is_role x.role role.ReadOnly || is_role x.role role.State) installing free).1

  valued_starts : Starts m (changed_to (insert m p y))
  valued_starts = changed_starts m p x y order there refl refl refl (λ is. absurd (no_state is))

  abbrev next : ℕ
  next = state_after_write m (length step.value == 0)

  -- the state that a write leads to isn't that of an update that runs
  led_idle : is_updating m ≡ false → ((next ≡ idle) ⊎ (next ≡ ready))
  led_idle e = by_empty (length step.value == 0)
      (ap (λ b. unwrap_or (cond b None (Some (cond (length step.value == 0) idle ready))) (state_in_tree m)) e)
    where
      by_empty : (b : Bool) → next ≡ cond b idle ready → (next ≡ idle) ⊎ (next ≡ ready)
      by_empty true h = inl h
      by_empty false h = inr h

  package_starts : (q : Path) → HasUpdate m q → p ≡ q ++ codes "Update" ∷ codes "PkgData" ∷ [] → is_updating m ≡ false
      → Starts m (changed_to (with_state s m (insert m p y) next))
  package_starts q has is e =
      let behind = (changed_keeps_update m p x y there (record {
        interior = refl;
        permanent = λ h. h;
        role = refl;
        state = λ h. absurd (no_state h);
      })).update q has in
      let still : get (insert m p y) (state_path q) ≡ Some has.state =
      elim (still_insert m p (state_path q) y has.state has.state_stands.there) [
        | inl h ↦ absurd (data_not_state q (sym is ∙ sym h.0))
        | inr h ↦ h
      ] in
      by_next behind still (led_idle e)
    where
      at : (k : ℕ) → k < 256 → is_update_state (decimal k) ≡ true → (k == progressing) ≡ false → next ≡ k
          → HasUpdate (insert m p y) q → get (insert m p y) (state_path q) ≡ Some has.state
          → Starts m (changed_to (with_state s m (insert m p y) next))
      at k small five other is_next behind still =
          subst (λ n. Starts m (changed_to (with_state s m (insert m p y) n))) (sym is_next) (same_starts m _ refl
          (ap (λ n. n == progressing) (written s m (insert m p y) q has behind still k (small_back k small) five)
          ∙ other ∙ sym e)
          (lasts_then m (insert m p y) (with_state s m (insert m p y) k) valued_starts.lasts
          (led_lasts s m (insert m p y) q has behind still k (small_back k small) five)))

      by_next : HasUpdate (insert m p y) q → get (insert m p y) (state_path q) ≡ Some has.state
          → (next ≡ idle) ⊎ (next ≡ ready) → Starts m (changed_to (with_state s m (insert m p y) next))
      by_next behind still (inl h) = at idle (omega arith) idle_five refl h behind still
      by_next behind still (inr h) = at ready (omega arith) ready_five refl h behind still

  after_starts : Starts m (changed_to (table.after_value s m step p))
  after_starts = by_role (is_role x.role role.PkgData) refl
    where
      by_role : (b : Bool) → is_role x.role role.PkgData ≡ b
          → Starts m (changed_to (cond b (with_state s m (insert m p y) next) (insert m p y)))
      by_role true is =
          let at = at_package m order p x there (is_package x.role is) in
          package_starts at.0 at.1 at.2 (idle_then is)
      by_role false is = valued_starts

value_starts : (s : Setting) (m : Nodes) (step : Step) (uri : Uri) → IsUpdateInOrder m
    → Starts m (table.replace_value s m step uri)
value_starts s m step uri order = by_refusal (first_refusal (table.value_refusals s m step uri)) m _ behind
  where
    behind : first_refusal (table.value_refusals s m step uri) ≡ None
        → Starts m (changed_to (table.after_value s m step uri.path))
    behind free =
        let tests = none_holds (table.value_refusals s m step uri) free in
        after_starts s m step uri.path order (is_there m uri.path tests.0) tests.1.1.1.1.0

-- ---- the whole table

prop_starts : (s : Setting) (m : Nodes) (step : Step) (uri : Uri) (q : Prop) → IsAnchored m → IsUpdateInOrder m
    → Starts m (table.replace_prop s m step uri q)
prop_starts s m step uri prop.Acl anchored order = acl_starts s m step uri order
prop_starts s m step uri prop.Name anchored order = name_starts s m step uri anchored order
prop_starts s m step uri prop.Title anchored order = title_starts s m step uri order
prop_starts s m step uri prop.Format anchored order = other_starts m uri
prop_starts s m step uri prop.Size anchored order = other_starts m uri
prop_starts s m step uri prop.Media anchored order = other_starts m uri
prop_starts s m step uri prop.VerNo anchored order = other_starts m uri
prop_starts s m step uri prop.TStamp anchored order = other_starts m uri

replace_starts : (s : Setting) (m : Nodes) (step : Step) (uri : Uri) (q : Query) → IsAnchored m → IsUpdateInOrder m
    → Starts m (table.replace s m step uri q)
replace_starts s m step uri query.Plain anchored order = value_starts s m step uri order
replace_starts s m step uri (query.Prop p) anchored order = prop_starts s m step uri p anchored order
replace_starts s m step uri query.Struct anchored order = other_starts m uri
replace_starts s m step uri query.StructData anchored order = other_starts m uri

get_starts : (s : Setting) (m : Nodes) (uri : Uri) → Starts m (table.get_ s m uri)
get_starts s m uri =
    by_refusal (first_refusal (table.get_refusals s m uri)) m _
    (λ _. nothing_starts m (done_finding m (found_by s m uri uri.query)) refl refl)

verb_starts : (s : Setting) (m : Nodes) (step : Step) (uri : Uri) (v : Verb) → IsAnchored m → IsUpdateInOrder m
    → Starts m (table.by_verb s m step uri v)
verb_starts s m step uri verb.Copy anchored order = nothing_starts m (refused m 406) refl refl
verb_starts s m step uri verb.Exec anchored order = exec_starts s m step uri order
verb_starts s m step uri verb.Get anchored order = get_starts s m uri
verb_starts s m step uri verb.Add anchored order = add_starts s m step uri order
verb_starts s m step uri verb.Replace anchored order = replace_starts s m step uri uri.query anchored order
verb_starts s m step uri verb.Delete anchored order = delete_starts s m uri anchored order

target_starts : (s : Setting) (m : Nodes) (step : Step) (read : Result Uri ℕ) → IsAnchored m → IsUpdateInOrder m
    → Starts m (table.at_target s m step read)
target_starts s m step (Err code) anchored order = nothing_starts m (refused m code) refl refl
target_starts s m step (Ok uri) anchored order = verb_starts s m step uri step.verb anchored order

pub step_starts : RunsWhereStarted
unfolding act
step_starts s m step formed order = (target_starts s m step (table.target_of step) (anchored_of m formed) order).runs

pub act_starts : (s : Setting) (m : Nodes) (step : Step) → IsAnchored m → IsUpdateInOrder m
    → is_updating (act s m step).tree ≡ is_updating m || (act s m step).started
unfolding act
act_starts s m step anchored order = (target_starts s m step (table.target_of step) anchored order).runs

pub act_lasts : (s : Setting) (m : Nodes) (step : Step) → IsAnchored m → IsUpdateInOrder m → Lasts m (act s m step).tree
unfolding act
act_lasts s m step anchored order = (target_starts s m step (table.target_of step) anchored order).lasts
