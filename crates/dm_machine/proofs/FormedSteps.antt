-- A step, and the end of an update, keep a tree well-formed.
use Rattle.std.proofs.Common.{◌≡◌, ◌≤◌, ◌<◌, ℕ, Bool, true, false, cond, List, [], ◌∷◌, ◌++◌, length, Option, None}
use Rattle.std.proofs.Common.{Some, Ok, Err, refl, sym, ◌∙◌, ap, subst, arith, inl, inr}
use Rattle.std.specs.Prelude.{◌&&◌, ◌||◌, ◌⊎◌, ◌==◌, Result, not, nat_lt, codes, is_some, bytes_eq, unwrap_or, IfSome}
use Rattle.std.specs.Prelude.{IsSome, is_ok, option_and_then}
use Rattle.std.specs.List.{find}
use Rattle.std.specs.Option.{option_map_or}
use Rattle.std.specs.Fmt.{decimal}
use Rattle.std.specs.FinMap.{get, insert, len}
use Rattle.std.proofs.lemmas.Bool.{and_from, ltb-false}
use Rattle.std.proofs.lemmas.Bool.Decides.{nat_tests}
use Rattle.syncml_types.specs.declared.command.Step.{Step}
use Rattle.syncml_types.specs.declared.command.Verb.{Verb}
use Rattle.syncml_types.specs.declared.command.Verb.TheVariants as verb
use Rattle.syncml_types.specs.Verbs.{is_write}
use Rattle.dm_uri.specs.declared.uri.Prop.{Prop}
use Rattle.dm_uri.specs.declared.uri.Prop.TheVariants as prop
use Rattle.dm_uri.specs.declared.uri.Query.{Query}
use Rattle.dm_uri.specs.declared.uri.Query.TheVariants as query
use Rattle.dm_uri.specs.declared.uri.Uri.{Uri}
use Rattle.dm_uri.specs.declared.uri.UriError.{UriError}
use Rattle.dm_uri.specs.Names.{has_name_form, is_short_name, is_within_limits, IsPath}
use Rattle.dm_uri.specs.Reading.{parse_of}
use Rattle.dm_uri.proofs.BothWays.{reads_grammar}
use Rattle.dm_uri.proofs.Limits.{path_of_limits}
use Rattle.dm_uri.proofs.PathParts.{same_bytes}
use Rattle.dm_acl.specs.declared.values.Entries.{Entries}
use Rattle.dm_acl.specs.declared.values.AclError.{AclError}
use Rattle.dm_acl.specs.Reading.{parse_of as read_acl}
use Rattle.dm_acl.proofs.Grammars.{what_is_read_is_read_again}
use Rattle.dm_fumo.specs.States.{idle, ready, progressing, after_write, after_result}
use Rattle.dm_tree.specs.declared.nodes.Node.{Node}
use Rattle.dm_tree.specs.declared.nodes.Role.{Role}
use Rattle.dm_tree.specs.declared.nodes.Role.TheVariants as role
use Rattle.dm_tree.specs.declared.nodes.Stamp.{Stamp}
use Rattle.dm_tree.specs.Nodes.{Path, Nodes, above, changed, is_format, is_node_format, with_value, with_acl}
use Rattle.dm_tree.specs.Nodes.{with_title, IsReadAgain, IsRoot, IsStamp, IsValue, IsWellFormed}
use Rattle.dm_tree.specs.Rows.{blank_node}
use Rattle.dm_tree.specs.Edits.{pruned, paths_fit}
use Rattle.dm_tree.specs.Order.{children}
use Rattle.dm_tree.specs.Devices.{is_of_update, is_role, update_node, has_role, child_of_role, pkg_data, state_node}
use Rattle.dm_tree.specs.Devices.{value_at, IsUpdateInOrder}
use Rattle.dm_tree.proofs.FieldEdits.{held_changed}
use Rattle.dm_tree.proofs.Devices.{update_is_found}
use Rattle.dm_tree.proofs.NodesKept.{some_node, still_insert}
use Rattle.dm_tree.proofs.Paths.{Ends, ends, none, last}
use Rattle.dm_tree.proofs.LiveRows.{above-append, last_name-append}
use Rattle.dm_commands.specs.Outcomes.{Setting, Done, asked_by, refused, unless, first_refusal, no_node, node_at}
use Rattle.dm_commands.specs.Updates.{state_in_tree, state_after_write, rewritten, rewritten_at, with_state, package_at}
use Rattle.dm_commands.specs.Updates.{update_ended}
use Rattle.dm_commands.specs.Promises.{IsShortStep}
use Rattle.dm_commands.specs.Table as table
use Rattle.dm_commands.specs.Table.{act}
use Rattle.dm_commands.proofs.Keeping.{none_holds, is_there, state_there}
use Rattle.dm_commands.proofs.Updating.{replaced_is_value, restated_is_value}
use Rattle.dm_machine.proofs.FormedTrees.{changed_formed, added_formed, pruned_formed}
use Rattle.dm_machine.proofs.FormedNames.{renamed_formed}

-- ---- tests

either : (a b : Bool) → a || b ≡ false → (a ≡ false) × (b ≡ false)
either true b e = absurd (cc)
either false b e = (refl, e)

negated : (b : Bool) → not b ≡ false → b ≡ true
negated true e = refl
negated false e = absurd (cc)

is_zero : (n : ℕ) → (n == 0) ≡ true → n ≡ 0
is_zero n e = grind (arith, nat_tests)

no_bytes : (text : List ℕ) → (length text == 0) ≡ true → text ≡ []
no_bytes [] e = refl
no_bytes (b ∷ bs) e = absurd (omega (arith, is_zero (length (b ∷ bs)) e))

-- ---- a node that has changed

root_changed : (clock : Stamp) (y : Node) → IsRoot y → IsRoot (changed clock y)
root_changed clock y is = record {
  interior = is.interior;
  permanent = is.permanent;
  acl = is.acl;
  media = is.media;
  role = is.role;
}

-- a node holds something else
pub holds_formed : (clock : Stamp) → IsStamp clock → (m : Nodes) → IsWellFormed m → (p : Path) (x y : Node)
    → get m p ≡ Some x → y.interior ≡ x.interior → y.permanent ≡ x.permanent → IsValue y.interior y.value
    → IfSome y.acl IsReadAgain → length y.title ≤ 255 → (p ≡ [] → IsRoot x → IsRoot y)
    → IsWellFormed (insert m p (changed clock y))
holds_formed clock stamp m formed p x y there interior permanent value acl title root =
    changed_formed m formed p x (changed clock y) there (record {
      node = held_changed clock y stamp value acl title;
      interior = interior;
      permanent = permanent;
      root = λ e is. root_changed clock y (root e is);
    })

-- ---- State

-- State is a leaf
state_leaf : (m : Nodes) → IsUpdateInOrder m → (q : Path) (x : Node) → state_node m ≡ Some q → get m q ≡ Some x
    → (x.interior ≡ false) × (x.role ≡ role.State)
state_leaf m (inl without) q x is there =
    let at = state_there m q is in
    let never : is_of_update at.0.role ≡ false = without q at.0 at.1 in
    let yes : is_of_update at.0.role ≡ true = ap is_of_update at.2 in
    absurd (cc)
state_leaf m (inr has) q x is there =
    let place : Some q ≡ Some (has.0 ++ codes "State" ∷ []) = sym is ∙ (update_is_found m has.0 has.1).2 in
    let same : x ≡ has.1.state = some_node x has.1.state
    (sym there ∙ ap (λ o. option_and_then (get m) o) place ∙ has.1.state_stands.there) in (
      ap (λ (n : Node). n.interior) same ∙ has.1.state_stands.kind,
      ap (λ (n : Node). n.role) same ∙ has.1.state_stands.role_is,
    )

module _ (s : Setting) (stamp : IsStamp s.clock) (m n : Nodes) (order : IsUpdateInOrder m) (before : IsWellFormed m)
    (after : IsWellFormed n)
    (still : (q : Path) (x : Node) → state_node m ≡ Some q → get m q ≡ Some x → get n q ≡ Some x) where
  -- State tells another state
  state_restated : (state : ℕ) → state < 256 → (q : Path) → state_node m ≡ Some q
      → IsWellFormed (rewritten_at s m n q (decimal state))
  state_restated state small q is = by_test (bytes_eq (value_at m q) (decimal state))
    where
      by_test : (b : Bool) → IsWellFormed (cond b n (insert n q (rewritten s (node_at m q) (decimal state))))
      by_test true = after
      by_test false =
          let at = state_there m q is in
          let leaf = (state_leaf m order q at.0 is at.1).0 in
          let held = before.each q at.0 at.1 in
          let here : node_at m q ≡ at.0 = ap (λ o. unwrap_or o blank_node) at.1 in
          subst (λ (x : Node). IsWellFormed (insert n q (rewritten s x (decimal state)))) (sym here)
          (holds_formed s.clock stamp n after q at.0 (with_value at.0 (record at.0.value { bytes = decimal state }))
          (still q at.0 is at.1) refl refl
          (subst (λ b. IsValue b (record at.0.value { bytes = decimal state })) (sym leaf)
          (restated_is_value at.0 state small held leaf))
          held.acl held.title (λ _ root. absurd (let yes : at.0.interior ≡ true = root.interior in cc)))

  pub led_formed : (state : ℕ) → state < 256 → IsWellFormed (with_state s m n state)
  led_formed state small = by_place (state_node m) refl
    where
      by_place : (o : Option Path) → state_node m ≡ o
          → IsWellFormed (option_map_or (λ q. rewritten_at s m n q (decimal state)) o n)
      by_place None is = after
      by_place (Some q) is = state_restated state small q is

-- ---- a code, or an effect

unless_formed : (o : Option ℕ) (m : Nodes) (effect : Done) → IsWellFormed m → (o ≡ None → IsWellFormed effect.tree)
    → IsWellFormed (unless o m effect).tree
unless_formed None m effect same then = then refl
unless_formed (Some code) m effect same then = same

-- ---- each command

module _ (s : Setting) (stamp : IsStamp s.clock) (m : Nodes) (formed : IsWellFormed m) (order : IsUpdateInOrder m)
    (step : Step) (uri : Uri) where
  exec_formed : IsWellFormed (table.exec s m step uri).tree
  exec_formed = unless_formed (first_refusal (table.exec_refusals s m step uri)) m (table.started s m) formed
      (λ _. led_formed s stamp m m order formed formed (λ q x is there. there) progressing (omega arith))

  get_formed : IsWellFormed (table.get_ s m uri).tree
  get_formed = unless_formed (first_refusal (table.get_refusals s m uri)) m _ formed (λ _. formed)

  other_formed : IsWellFormed (table.replace_other m uri).tree
  other_formed = unless_formed (first_refusal ((no_node m uri.path, 404) ∷ [])) m (refused m 405) formed (λ _. formed)

  delete_formed : IsWellFormed (table.delete s m uri).tree
  delete_formed = unless_formed (first_refusal (table.delete_refusals s m uri)) m _ formed gone
    where
      gone : first_refusal (table.delete_refusals s m uri) ≡ None → IsWellFormed (pruned m uri.path)
      gone free =
          let tests = none_holds (table.delete_refusals s m uri) free in
          pruned_formed m formed uri.path (node_at m uri.path) (is_there m uri.path tests.1.0) tests.1.1.1.0

  title_formed : IsWellFormed (table.replace_title s m step uri).tree
  title_formed = unless_formed (first_refusal (table.title_refusals s m step uri)) m _ formed titled
    where
      titled : first_refusal (table.title_refusals s m step uri) ≡ None
          → IsWellFormed (insert m uri.path (changed s.clock (with_title (node_at m uri.path) step.value)))
      titled free =
          let tests = none_holds (table.title_refusals s m step uri) free in
          let there = is_there m uri.path tests.0 in
          let held = formed.each uri.path (node_at m uri.path) there in
          let short = ltb-false 255 (length step.value) (either (nat_lt 255 (length step.value)) _ tests.1.1.0).0 in
          holds_formed s.clock stamp m formed uri.path (node_at m uri.path)
          (with_title (node_at m uri.path) step.value) there refl refl held.value held.acl short
          (λ _ root. record {
            interior = root.interior;
            permanent = root.permanent;
            acl = root.acl;
            media = root.media;
            role = root.role;
          })

  -- ---- an access list

  given_again : (text : List ℕ) → IfSome (table.acl_given text) IsReadAgain
  given_again text = by_test (length text == 0)
    where
      by_read : (r : Result Entries AclError) → read_acl text ≡ r → IfSome (table.entries_read r) IsReadAgain
      by_read (Ok acl) is = what_is_read_is_read_again text acl is
      by_read (Err e) is = tt

      by_test : (b : Bool) → IfSome (cond b None (table.entries_read (read_acl text))) IsReadAgain
      by_test true = tt
      by_test false = by_read (read_acl text) refl

  -- a list that isn't taken away is given
  some_given : (text : List ℕ) → (length text == 0) ≡ false
      → not (length text == 0) && not (is_ok (read_acl text)) ≡ false → IsSome (table.acl_given text)
  some_given text some good =
      let read : is_ok (read_acl text) ≡ true =
      negated (is_ok (read_acl text))
      (sym (ap (λ b. not b && not (is_ok (read_acl text))) some) ∙ good) in
      subst (λ b. IsSome (cond b None (table.entries_read (read_acl text)))) (sym some) (by_read (read_acl text) read)
    where
      by_read : (r : Result Entries AclError) → is_ok r ≡ true → IsSome (table.entries_read r)
      by_read (Ok acl) e = refl
      by_read (Err f) e = absurd (cc)

  acl_formed : IsWellFormed (table.replace_acl s m step uri).tree
  acl_formed = unless_formed (first_refusal (table.acl_refusals s m step uri)) m _ formed listed
    where
      listed : first_refusal (table.acl_refusals s m step uri) ≡ None
          → IsWellFormed (insert m uri.path
          (changed s.clock (with_acl (node_at m uri.path) (table.acl_given step.value))))
      listed free =
          let tests = none_holds (table.acl_refusals s m step uri) free in
          let there = is_there m uri.path tests.0 in
          let held = formed.each uri.path (node_at m uri.path) there in
          holds_formed s.clock stamp m formed uri.path (node_at m uri.path)
          (with_acl (node_at m uri.path) (table.acl_given step.value)) there refl refl
          held.value (given_again step.value) held.title
          (λ at_root root. record {
            interior = root.interior;
            permanent = root.permanent;
            acl = some_given step.value (not_taken at_root tests.1.1.1.0) tests.1.1.0;
            media = root.media;
            role = root.role;
          })
        where
          not_taken : uri.path ≡ [] → length step.value == 0 && table.is_root_path uri.path ≡ false
              → (length step.value == 0) ≡ false
          not_taken at_root free = by_test (length step.value == 0)
              (sym (ap (λ (p : Path). length step.value == 0 && table.is_root_path p) at_root) ∙ free)
            where
              by_test : (b : Bool) → b && true ≡ false → b ≡ false
              by_test true e = e
              by_test false e = refl

  -- ---- a name

  beside_itself : (p : Path) (name : List ℕ) → table.is_own_name p name ≡ true → table.beside p name ≡ p
  beside_itself p name own = by_end p (ends p) own
    where
      by_end : (q : Path) → Ends q → table.is_own_name q name ≡ true → table.beside q name ≡ q
      by_end [] none e = absurd (cc)
      by_end q (last front n) e =
          let same : n ≡ name = same_bytes n name
          (sym (ap (λ o. option_map_or (λ own. bytes_eq own name) o false) (last_name-append front n)) ∙ e) in
          ap (λ a. a ++ name ∷ []) (above-append front n) ∙ ap (λ k. front ++ k ∷ []) (sym same)

  free_beside : (p : Path) (name : List ℕ) → table.is_taken_beside m p name ≡ false
      → (get m (table.beside p name) ≡ None) ⊎ (table.beside p name ≡ p)
  free_beside p name free = by_own (table.is_own_name p name) refl
    where
      by_look : table.is_own_name p name ≡ false → (o : Option Node) → get m (table.beside p name) ≡ o → o ≡ None
      by_look other None is = refl
      by_look other (Some x) is = absurd (
          let taken : table.is_taken_beside m p name ≡ true = ap (λ o. is_some o && not (table.is_own_name p name)) is
          ∙ ap not other in cc)

      by_own : (b : Bool) → table.is_own_name p name ≡ b
          → (get m (table.beside p name) ≡ None) ⊎ (table.beside p name ≡ p)
      by_own true is = inr (beside_itself p name is)
      by_own false is = inl (by_look is (get m (table.beside p name)) refl)

  name_formed : IsWellFormed (table.replace_name s m step uri).tree
  name_formed = unless_formed (first_refusal (table.name_refusals s m step uri)) m _ formed named
    where
      named : first_refusal (table.name_refusals s m step uri) ≡ None
          → IsWellFormed (table.renamed_at s m uri.path step.value)
      named free =
          let tests = none_holds (table.name_refusals s m step uri) free in
          let there = is_there m uri.path tests.0 in
          let held = formed.each uri.path (node_at m uri.path) there in
          renamed_formed m formed uri.path step.value (node_at m uri.path) (changed s.clock (node_at m uri.path))
          (record {
            there = there;
            removable = tests.1.1.0;
            free = free_beside uri.path step.value tests.1.1.1.1.1.0;
            fits = negated (paths_fit m uri.path step.value) tests.1.1.1.1.1.1.0;
            named = and_from (has_name_form step.value) (is_short_name step.value)
                (negated (has_name_form step.value) tests.1.1.1.0) (negated (is_short_name step.value) tests.1.1.1.1.0);
            node = held_changed s.clock (node_at m uri.path) stamp held.value held.acl held.title;
            interior = refl;
            permanent = refl;
          })

  -- ---- Add and Replace of a value, which bring bytes in

  module _ (path : IsPath uri.path) (within : is_within_limits uri.path ≡ true)
      (short : length step.value ≤ 4194304) where
    good_meta : (format media : List ℕ) → table.has_bad_meta format media ≡ false
        → (is_format format ≡ true) × (length media ≤ 255)
    good_meta format media e =
        let parts = either (not (is_format format)) (nat_lt 255 (length media)) e in
        (negated (is_format format) parts.0, ltb-false 255 (length media) parts.1)

    no_value : (b : Bool) (text : List ℕ) → b && not (length text == 0) ≡ false → b ≡ true → text ≡ []
    no_value true text e f = no_bytes text (negated (length text == 0) e)
    no_value false text e f = absurd (cc)

    room : (len m == 65536) ≡ false → len m ≤ 65535
    room e = below (len m) formed.few e
      where
        below : (n : ℕ) → n ≤ 65536 → (n == 65536) ≡ false → n ≤ 65535
        below n h other = grind (arith, nat_tests)

    add_formed : IsWellFormed (table.add s m step uri).tree
    add_formed = unless_formed (first_refusal (table.add_refusals s m step uri)) m _ formed added
      where
        added : first_refusal (table.add_refusals s m step uri) ≡ None
            → IsWellFormed (insert m uri.path (table.added_node s.clock step))
        added free =
            let tests = none_holds (table.add_refusals s m step uri) free in
            let meta = good_meta (table.added_format step) (table.added_media step) tests.1.1.1.1.1.1.0 in
            added_formed m formed uri.path (table.added_node s.clock step) (record {
              node = record {
                value = record {
                  format = meta.0;
                  kind = refl;
                  empty = no_value (is_node_format (table.added_format step)) step.value tests.1.1.1.1.1.1.1.0;
                  media = meta.1;
                  short = short;
                };
                acl = tt;
                title = omega arith;
                verno = omega arith;
                stamp = stamp;
              };
              free = nothing_there (get m uri.path) tests.1.1.1.1.1.0;
              parent = node_at m (above uri.path);
              parent_there = is_there m (above uri.path) tests.1.1.0;
              interior = negated (node_at m (above uri.path)).interior tests.1.1.1.0;
              removable = refl;
              path = path;
              within = within;
              room = room tests.1.1.1.1.1.1.1.1.0;
            })
          where
            nothing_there : (o : Option Node) → is_some o ≡ false → o ≡ None
            nothing_there None e = refl
            nothing_there (Some x) e = absurd (cc)

    module _ (there : get m uri.path ≡ Some (node_at m uri.path)) (leaf : (node_at m uri.path).interior ≡ false)
        (other : option_map_or is_node_format step.format false ≡ false)
        (kept : table.is_kept_from m (node_at m uri.path) ≡ false)
        (good : table.has_bad_meta (table.kept_format (node_at m uri.path) step)
        (table.kept_media (node_at m uri.path) step) ≡ false) where
      abbrev x : Node
      x = node_at m uri.path

      valued_formed : IsWellFormed (table.valued s m step uri.path)
      valued_formed =
          let held = formed.each uri.path x there in
          holds_formed s.clock stamp m formed uri.path x (with_value x (table.replaced_value x step)) there refl refl
          (subst (λ b. IsValue b (table.replaced_value x step)) (sym leaf)
          (replaced_is_value x step held leaf other good short))
          held.acl held.title (λ _ root. absurd (let yes : x.interior ≡ true = root.interior in cc))

      -- State still stands as it did
      state_stays : is_role x.role role.PkgData ≡ true → (q : Path) (y : Node) → state_node m ≡ Some q
          → get m q ≡ Some y → get (table.valued s m step uri.path) q ≡ Some y
      state_stays is q y stands at =
          elim (still_insert m uri.path q (changed s.clock (with_value x (table.replaced_value x step))) y at) [
            | inl h ↦ absurd (
                let state = state_leaf m order q y stands at in
                let same : y ≡ x = some_node y x (sym at ∙ ap (get m) h.0 ∙ there) in
                let yes : is_role role.State role.PkgData ≡ true = ap (λ r. is_role r role.PkgData) (sym state.1)
                ∙ ap (λ (n : Node). is_role n.role role.PkgData) same ∙ is in
                cc)
            | inr h ↦ h
          ]

      -- a write leads to one of two states
      led_to : (state : ℕ) (empty : Bool) → (state == progressing) ≡ false
          → unwrap_or (after_write state empty) state < 256
      led_to state empty e = subst (λ b. unwrap_or (cond b None (Some (cond empty idle ready))) state < 256) (sym e)
          (by_empty empty)
        where
          by_empty : (b : Bool) → cond b idle ready < 256
          by_empty true = omega arith
          by_empty false = omega arith

      package_formed : is_role x.role role.PkgData ≡ true
          → IsWellFormed (with_state s m (table.valued s m step uri.path)
          (state_after_write m (length step.value == 0)))
      package_formed is =
          let installing = (either (is_role x.role role.ReadOnly || is_role x.role role.State)
          (is_role x.role role.PkgData && (state_in_tree m == progressing)) kept).1 in
          let not_now : (state_in_tree m == progressing) ≡ false = sym (ap (λ b. b && (state_in_tree m == progressing)) is)
          ∙ installing in
          led_formed s stamp m (table.valued s m step uri.path) order formed valued_formed (state_stays is)
          (state_after_write m (length step.value == 0)) (led_to (state_in_tree m) (length step.value == 0) not_now)

      after_value_formed : IsWellFormed (table.after_value s m step uri.path)
      after_value_formed = by_role (is_role x.role role.PkgData) refl
        where
          by_role : (b : Bool) → is_role x.role role.PkgData ≡ b
              → IsWellFormed
              (cond b (with_state s m (table.valued s m step uri.path)
              (state_after_write m (length step.value == 0))) (table.valued s m step uri.path))
          by_role true is = package_formed is
          by_role false is = valued_formed

    value_formed : IsWellFormed (table.replace_value s m step uri).tree
    value_formed = unless_formed (first_refusal (table.value_refusals s m step uri)) m _ formed replaced
      where
        replaced : first_refusal (table.value_refusals s m step uri) ≡ None
            → IsWellFormed (table.after_value s m step uri.path)
        replaced free =
            let tests = none_holds (table.value_refusals s m step uri) free in
            after_value_formed (is_there m uri.path tests.0) tests.1.1.0 tests.1.1.1.0 tests.1.1.1.1.0 tests.1.1.1.1.1.0

  -- ---- the whole table

  prop_formed : (q : Prop) → IsWellFormed (table.replace_prop s m step uri q).tree
  prop_formed prop.Acl = acl_formed
  prop_formed prop.Name = name_formed
  prop_formed prop.Title = title_formed
  prop_formed prop.Format = other_formed
  prop_formed prop.Size = other_formed
  prop_formed prop.Media = other_formed
  prop_formed prop.VerNo = other_formed
  prop_formed prop.TStamp = other_formed

  module _ (path : IsPath uri.path) (within : is_within_limits uri.path ≡ true) where
    replace_formed : length step.value ≤ 4194304 → (q : Query) → IsWellFormed (table.replace s m step uri q).tree
    replace_formed short query.Plain = value_formed path within short
    replace_formed short (query.Prop p) = prop_formed p
    replace_formed short query.Struct = other_formed
    replace_formed short query.StructData = other_formed

    verb_formed : (v : Verb) → (is_write v ≡ true → length step.value ≤ 4194304)
        → IsWellFormed (table.by_verb s m step uri v).tree
    verb_formed verb.Copy short = formed
    verb_formed verb.Exec short = exec_formed
    verb_formed verb.Get short = get_formed
    verb_formed verb.Add short = add_formed path within (short refl)
    verb_formed verb.Replace short = replace_formed (short refl) uri.query
    verb_formed verb.Delete short = delete_formed

-- ---- a target

read_as : (r : Result Uri UriError) (uri : Uri) → table.uri_or_code r ≡ Ok uri → r ≡ Ok uri
read_as (Ok u) uri e = cc
read_as (Err f) uri e = absurd (cc)

in_form : (o : Option ℕ) (step : Step) (uri : Uri) → table.target_unless o step ≡ Ok uri
    → IsPath uri.path × (is_within_limits uri.path ≡ true)
in_form (Some code) step uri e = absurd (cc)
in_form None step uri e = by_target step.target e
  where
    by_target : (t : Option (List ℕ)) → table.target_in t ≡ Ok uri
        → IsPath uri.path × (is_within_limits uri.path ≡ true)
    by_target None h = absurd (cc)
    by_target (Some text) h =
        let read = (reads_grammar text uri).0 (read_as (parse_of text) uri h) in
        (path_of_limits uri.path read.path.0 read.within, read.within)

-- a step keeps a tree well-formed whose update part is in order
pub act_formed : (s : Setting) (m : Nodes) (step : Step) → IsStamp s.clock → IsShortStep step → IsWellFormed m
    → IsUpdateInOrder m → IsWellFormed (act s m step).tree
unfolding act
act_formed s m step stamp short formed order = by_target (table.target_of step) refl
  where
    by_target : (r : Result Uri ℕ) → table.target_of step ≡ r → IsWellFormed (table.at_target s m step r).tree
    by_target (Err code) is = formed
    by_target (Ok uri) is =
        let form = in_form (first_refusal (table.step_refusals step)) step uri is in
        verb_formed s stamp m formed order step uri form.0 form.1 step.verb short

-- ---- the end of an update

found_holds : (f : Path → Bool) (qs : List Path) (q : Path) → find f qs ≡ Some q → f q ≡ true
found_holds f [] q e = absurd (cc)
found_holds f (r ∷ rs) q e =
    elim (f r) as (λ b. f r ≡ b → cond b (Some r) (find f rs) ≡ Some q → f q ≡ true) [
      | true ↦ λ is h. subst (λ x. f x ≡ true) (let same : r ≡ q = cc in same) is
      | false ↦ λ is h. found_holds f rs q h
    ] refl e

is_package : (r : Role) → is_role r role.PkgData ≡ true → r ≡ role.PkgData
is_package role.PkgData e = refl
is_package role.Plain e = absurd (cc)
is_package role.ReadOnly e = absurd (cc)
is_package role.UpdateNode e = absurd (cc)
is_package role.State e = absurd (cc)

-- PkgData stands where it is found
pub package_there : (m : Nodes) (p : Path) → pkg_data m ≡ Some p
    → (x : Node) × (get m p ≡ Some x) × (x.role ≡ role.PkgData)
package_there m p e = by_update (update_node m) refl
  where
    by_look : has_role m role.PkgData p ≡ true → (o : Option Node) → get m p ≡ o
        → (x : Node) × (get m p ≡ Some x) × (x.role ≡ role.PkgData)
    by_look has (Some x) is = (
      x,
      is,
      is_package x.role (sym (ap (λ o. option_map_or (λ (n : Node). is_role n.role role.PkgData) o false) is) ∙ has),
    )
    by_look has None is = absurd (
        let no : has_role m role.PkgData p ≡ false =
        ap (λ o. option_map_or (λ (n : Node). is_role n.role role.PkgData) o false) is in cc)

    by_update : (o : Option Path) → update_node m ≡ o → (x : Node) × (get m p ≡ Some x) × (x.role ≡ role.PkgData)
    by_update None is = absurd (
        let none : pkg_data m ≡ None = ap (λ o. option_and_then (λ q. child_of_role m q role.PkgData) o) is in cc)
    by_update (Some u) is =
        let found : child_of_role m u role.PkgData ≡ Some p =
        sym (ap (λ o. option_and_then (λ q. child_of_role m q role.PkgData) o) is) ∙ e in
        by_look (found_holds (has_role m role.PkgData) (children m u) p found) (get m p) refl

module _ (clock : Stamp) (stamp : IsStamp clock) (m : Nodes) (formed : IsWellFormed m) (order : IsUpdateInOrder m) where
  emptied_formed : (p : Path) → pkg_data m ≡ Some p → (ok : Bool) → IsWellFormed (package_at clock m ok p)
  emptied_formed p is false = formed
  emptied_formed p is true =
      let at = package_there m p is in
      let held = formed.each p at.0 at.1 in
      let here : node_at m p ≡ at.0 = ap (λ o. unwrap_or o blank_node) at.1 in
      subst (λ (x : Node). IsWellFormed (insert m p (rewritten (asked_by [] clock) x []))) (sym here)
      (holds_formed clock stamp m formed p at.0 (with_value at.0 (record at.0.value { bytes = [] })) at.1 refl refl
      (record {
        format = held.value.format;
        kind = held.value.kind;
        empty = λ _. refl;
        media = held.value.media;
        short = omega arith;
      })
      held.acl held.title (λ _ root. record {
        interior = root.interior;
        permanent = root.permanent;
        acl = root.acl;
        media = root.media;
        role = root.role;
      }))

  pub still_state : (p : Path) → pkg_data m ≡ Some p → (ok : Bool) → (q : Path) (y : Node) → state_node m ≡ Some q
      → get m q ≡ Some y → get (package_at clock m ok p) q ≡ Some y
  still_state p is false q y stands there = there
  still_state p is true q y stands there =
      elim (still_insert m p q (rewritten (asked_by [] clock) (node_at m p) []) y there) [
        | inl h ↦ absurd (
            let at = package_there m p is in
            let state = state_leaf m order q y stands there in
            let same : y ≡ at.0 = some_node y at.0 (sym there ∙ ap (get m) h.0 ∙ at.1) in
            let no : role.State ≡ role.PkgData = sym state.1 ∙ ap (λ (n : Node). n.role) same ∙ at.2 in
            cc)
        | inr h ↦ h
      ]

  result_small : (ok : Bool) → after_result ok < 256
  result_small true = omega arith
  result_small false = omega arith

  ended : (ok : Bool) → IsWellFormed
      (with_state (asked_by [] clock) m (option_map_or (package_at clock m ok) (pkg_data m) m) (after_result ok))
  ended ok = by_place (pkg_data m) refl
    where
      by_place : (o : Option Path) → pkg_data m ≡ o
          → IsWellFormed (with_state (asked_by [] clock) m (option_map_or (package_at clock m ok) o m)
          (after_result ok))
      by_place None is = led_formed (asked_by [] clock) stamp m m order formed formed (λ q x _ there. there)
          (after_result ok) (result_small ok)
      by_place (Some p) is =
          led_formed (asked_by [] clock) stamp m (package_at clock m ok p) order formed (emptied_formed p is ok)
          (still_state p is ok) (after_result ok) (result_small ok)

-- the end of an update keeps a tree well-formed whose update part is in order
pub update_formed : (clock : Stamp) (m : Nodes) (ok : Bool) → IsStamp clock → IsWellFormed m → IsUpdateInOrder m
    → IsWellFormed (update_ended clock m ok)
unfolding update_ended
update_formed clock m ok stamp formed order = ended clock stamp m formed order ok
