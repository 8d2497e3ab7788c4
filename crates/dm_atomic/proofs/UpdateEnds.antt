-- Where an engine begins, and how an update ends.
use Rattle.std.proofs.Common.{◌≡◌, ◌==◌, Bool, true, false, if◌then◌else◌, [], ◌∷◌, ◌++◌, refl, sym, ◌∙◌, ap, subst}
use Rattle.std.proofs.Common.{arith, None, Some, inl, inr}
use Rattle.std.specs.Prelude.{◌⊎◌, codes, bytes_eq, is_some, unwrap_or, option_map}
use Rattle.std.specs.Option.{option_map_or}
use Rattle.std.specs.Fmt.{decimal, digits}
use Rattle.std.specs.FinMap.{get, insert}
use Rattle.std.specs.Str.Parse.{digits_value}
use Rattle.std.proofs.lemmas.Bool.Decides.{nat_tests}
use Rattle.dm_fumo.specs.States.{progressing, after_result}
use Rattle.dm_tree.specs.declared.nodes.Node.{Node}
use Rattle.dm_tree.specs.declared.nodes.Role.TheVariants as role
use Rattle.dm_tree.specs.declared.nodes.Stamp.{Stamp}
use Rattle.dm_tree.specs.Nodes.{Path, Nodes}
use Rattle.dm_tree.specs.Rows.{blank_node}
use Rattle.dm_tree.specs.Devices.{update_node, pkg_data, state_node, value_at, is_update_state, HasUpdate}
use Rattle.dm_tree.specs.Devices.{IsUpdateInOrder}
use Rattle.dm_tree.proofs.Devices.{update_is_found}
use Rattle.dm_tree.proofs.NodesKept.{some_node, still_insert}
use Rattle.dm_tree.proofs.UpdateParts.{changed_keeps_update}
use Rattle.dm_commands.specs.Outcomes.{asked_by, node_at}
use Rattle.dm_commands.specs.Updates.{state_in_tree, rewritten, rewritten_at, with_state, package_at, update_ended}
use Rattle.dm_commands.proofs.Ended.{running_has, none_left_out}
use Rattle.dm_commands.proofs.Updating.{state_text}
use Rattle.dm_commands.proofs.UpdateParts.{data_not_state}
use Rattle.dm_atomic.specs.declared.reports.Started.{Started}
use Rattle.dm_atomic.specs.Updates.{is_updating, update_of, begun, BegunWithItsUpdate}

-- ---- the update that a tree tells of

same_state : (m : Nodes) (b : Bool) → is_updating m ≡ b → b ≡ true → state_in_tree m ≡ progressing
same_state m b e f = grind (arith, nat_tests, e, f)

pub runs : (m : Nodes) → is_updating m ≡ true → state_in_tree m ≡ progressing
runs m e = same_state m true e refl

-- where its nodes aren't all there, none runs
pub none_runs : (m : Nodes) → IsUpdateInOrder m → (pkg_data m ≡ None) ⊎ (state_node m ≡ None) → is_updating m ≡ false
none_runs m order without = by_test (is_updating m) refl
  where
    by_test : (b : Bool) → is_updating m ≡ b → b ≡ false
    by_test true e = absurd (none_left_out m order (runs m e) without)
    by_test false e = refl

abbrev started_at : Path → Started
started_at p = record { node = p; correlator = None }

pub none_of : (m : Nodes) → is_updating m ≡ false → None ≡ update_of m
none_of m e =
    sym (ap (λ b. if b then option_map started_at (update_node m) else None) e)

pub some_of : (m : Nodes) (p : Path) → is_updating m ≡ true → update_node m ≡ Some p
    → Some (record { node = p; correlator = None }) ≡ update_of m
some_of m p e update =
    sym (ap (λ b. if b then option_map started_at (update_node m) else None) e
    ∙ ap (λ o. option_map started_at o) update)

module _ (m : Nodes) (q : Path) (n : Node) (is : state_node m ≡ Some q) (there : get m q ≡ Some n) where
  number : state_in_tree m ≡ digits_value 10 n.value.bytes
  number =
      ap (λ o. digits_value 10 (option_map_or (value_at m) o [])) is
      ∙ ap (λ o. digits_value 10 (unwrap_or (option_map (λ (x : Node). x.value.bytes) o) [])) there

  five : IsUpdateInOrder m → state_in_tree m ≡ progressing → is_update_state n.value.bytes ≡ true
  five order e =
      let has = running_has m order e in
      let place : has.0 ++ codes "State" ∷ [] ≡ q = same_path _ _ (sym (update_is_found m has.0 has.1).2 ∙ is) in
      let same : has.1.state ≡ n =
      some_node has.1.state n (sym has.1.state_stands.there ∙ ap (get m) place ∙ there) in
      subst (λ (x : Node). is_update_state x.value.bytes ≡ true) same has.1.state_is
    where
      same_path : (a b : Path) → Some a ≡ Some b → a ≡ b
      same_path a b e = cc

  sixty : decimal progressing ≡ codes "60"
  unfolding digits
  sixty = refl

  pub other_text : IsUpdateInOrder m → bytes_eq n.value.bytes (codes "60") ≡ false → is_updating m ≡ false
  other_text order other = by_test (is_updating m) refl
    where
      by_test : (b : Bool) → is_updating m ≡ b → b ≡ false
      by_test false e = refl
      by_test true e =
          let text : n.value.bytes ≡ codes "60" =
          sym (state_text n.value.bytes (five order (runs m e))) ∙ ap decimal (sym number ∙ runs m e) ∙ sixty in
          let same : bytes_eq n.value.bytes (codes "60") ≡ true = ap (λ t. bytes_eq t (codes "60")) text in
          cc

  pub sixty_text : n.value.bytes ≡ codes "60" → is_updating m ≡ true
  sixty_text text = ap (λ k. k == progressing) (number ∙ ap (digits_value 10) text)

pub begun_with_its_update : BegunWithItsUpdate
unfolding begun
begun_with_its_update m order = by_test (is_updating m) refl
  where
    by_test : (b : Bool) → is_updating m ≡ b
        → is_some (if b then option_map started_at (update_node m) else None) ≡ b
    by_test true e =
        let has = running_has m order (runs m e) in
        ap (λ o. is_some (option_map started_at o)) (update_is_found m has.0 has.1).0
    by_test false e = refl

-- ---- an update that ends

module _ (clock : Stamp) (m : Nodes) (p : Path) (has : HasUpdate m p) where
  abbrev pub package_path : Path
  package_path = p ++ codes "Update" ∷ codes "PkgData" ∷ []

  abbrev state_path : Path
  state_path = p ++ codes "State" ∷ []

  pub node_of : (q : Path) (x : Node) → get m q ≡ Some x → node_at m q ≡ x
  node_of q x there = ap (λ o. unwrap_or o blank_node) there

  -- the tree with its package as the result leaves it
  abbrev pub packed : Bool → Nodes
  packed ok = package_at clock m ok package_path

  pub still : (ok : Bool) → get (packed ok) state_path ≡ Some has.state
  still false = has.state_stands.there
  still true = elim (still_insert m package_path state_path (rewritten (asked_by [] clock) (node_at m package_path) [])
      has.state has.state_stands.there) [
        | inl h ↦ absurd (data_not_state p (sym h.0))
        | inr h ↦ h
      ]

  package_keeps : (ok : Bool) → IsUpdateInOrder m → IsUpdateInOrder (packed ok)
  package_keeps false order = order
  package_keeps true order =
      let is = node_of package_path has.data_node has.data_stands.there in
      (changed_keeps_update m package_path has.data_node _ has.data_stands.there (record {
        interior = ap (λ (x : Node). x.interior) is;
        permanent = λ h. ap (λ (x : Node). x.permanent) is ∙ h;
        role = ap (λ (x : Node). x.role) is;
        state = λ h. absurd (let other : role.PkgData ≡ role.State = sym has.data_stands.role_is ∙ h in cc);
      })).in_order order

  five_texts : (ok : Bool) → is_update_state (decimal (after_result ok)) ≡ true
  unfolding digits
  five_texts true = refl
  five_texts false = refl

  state_keeps : (ok same : Bool) → IsUpdateInOrder (packed ok)
      → IsUpdateInOrder (if same then packed ok
      else insert (packed ok) state_path
      (rewritten (asked_by [] clock) (node_at m state_path) (decimal (after_result ok))))
  state_keeps ok true order = order
  state_keeps ok false order =
      let is = node_of state_path has.state has.state_stands.there in
      (changed_keeps_update (packed ok) state_path has.state _ (still ok) (record {
        interior = ap (λ (x : Node). x.interior) is;
        permanent = λ h. ap (λ (x : Node). x.permanent) is ∙ h;
        role = ap (λ (x : Node). x.role) is;
        state = λ h. inr (five_texts ok);
      })).in_order order

  pub ended : (ok : Bool) → update_ended clock m ok
      ≡ rewritten_at (asked_by [] clock) m (packed ok) state_path (decimal (after_result ok))
  unfolding update_ended
  ended ok =
      ap (λ o. with_state (asked_by [] clock) m (option_map_or (package_at clock m ok) o m) (after_result ok))
      (update_is_found m p has).1
      ∙ ap (λ o. option_map_or (λ q. rewritten_at (asked_by [] clock) m (packed ok) q (decimal (after_result ok))) o
      (packed ok))
      (update_is_found m p has).2

  ended_there : (ok : Bool) → IsUpdateInOrder m → IsUpdateInOrder (update_ended clock m ok)
  ended_there ok order = subst IsUpdateInOrder (sym (ended ok))
      (state_keeps ok (bytes_eq (value_at m state_path) (decimal (after_result ok))) (package_keeps ok order))

pub ended_in_order : (clock : Stamp) (m : Nodes) (ok : Bool) → IsUpdateInOrder m → is_updating m ≡ true
    → IsUpdateInOrder (update_ended clock m ok)
ended_in_order clock m ok order e =
    let has = running_has m order (runs m e) in
    ended_there clock m has.0 has.1 ok order
