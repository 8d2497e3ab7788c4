-- The end of an update that runs.
use Rattle.std.proofs.Common.{◌≡◌, ◌≢◌, Bool, true, false, List, [], ◌∷◌, ◌++◌, Option, None, Some, refl, sym, ◌∙◌, ap}
use Rattle.std.proofs.Common.{subst, inl, inr}
use Rattle.std.specs.Prelude.{◌⊎◌, codes, unwrap_or}
use Rattle.std.proofs.Common.{arith}
use Rattle.std.specs.Option.{option_map, option_map_or}
use Rattle.std.specs.Str.Parse.{digits_value}
use Rattle.std.specs.Fmt.{decimal, digits}
use Rattle.std.specs.FinMap.{get, insert}
use Rattle.dm_fumo.specs.States.{progressing, after_result}
use Rattle.dm_tree.specs.declared.nodes.Node.{Node}
use Rattle.dm_tree.specs.declared.nodes.Value.{Value}
use Rattle.dm_tree.specs.declared.nodes.Stamp.{Stamp}
use Rattle.dm_tree.specs.declared.rows.Row.{Row}
use Rattle.dm_tree.specs.declared.update.UpdateIds.{UpdateIds}
use Rattle.dm_tree.specs.Nodes.{Path, Nodes, changed, with_value, IsNode, IsValue}
use Rattle.dm_tree.specs.Rows.{blank_node, nodes, node_of, path_of, IsLive, IsTree}
use Rattle.dm_tree.specs.Devices.{is_of_update, update_node, pkg_data, state_node, value_at, HasUpdate, IsUpdateInOrder}
use Rattle.dm_tree.proofs.Devices.{update_is_found}
use Rattle.dm_tree.proofs.NodesKept.{some_node}
use Rattle.dm_tree.proofs.LiveRows.{node_there}
use Rattle.dm_commands.specs.Outcomes.{asked_by}
use Rattle.dm_commands.specs.Updates.{state_in_tree, rewritten, with_state, package_at, update_ended}
use Rattle.dm_commands.specs.Places.{IsStateAt}
use Rattle.dm_commands.proofs.Keeping.{state_there}
use Rattle.dm_commands.proofs.Updating.{state_at, state_led}
use Rattle.dm_commands.proofs.UpdateParts.{data_not_state}

-- where the state is that of a running update, the update part is there
pub running_has : (m : Nodes) → IsUpdateInOrder m → state_in_tree m ≡ progressing → (q : Path) × HasUpdate m q
running_has m (inr has) e = has
running_has m (inl without) e = by_state (state_node m) refl
  where
    by_state : (o : Option Path) → state_node m ≡ o → (q : Path) × HasUpdate m q
    by_state None is =
        absurd (let zero : 0 ≡ progressing = sym (ap (λ o. digits_value 10 (option_map_or (value_at m) o [])) is) ∙ e in
        cc)
    by_state (Some q) is =
        let at = state_there m q is in
        let never : is_of_update at.0.role ≡ false = without q at.0 at.1 in
        let yes : is_of_update at.0.role ≡ true = ap is_of_update at.2 in
        absurd (cc)

-- none of its nodes is left out
pub none_left_out : (m : Nodes) → IsUpdateInOrder m → state_in_tree m ≡ progressing
    → (pkg_data m ≡ None) ⊎ (state_node m ≡ None) → ⊥
none_left_out m order e (inl h) =
    let has = running_has m order e in
    let some = (update_is_found m has.0 has.1).1 in
    cc
none_left_out m order e (inr h) =
    let has = running_has m order e in
    let some = (update_is_found m has.0 has.1).2 in
    cc

some_path : (p q : Path) → Some p ≡ Some q → p ≡ q
some_path p q e = cc

-- the three nodes by their numbers
pub record AreFound (rows : List Row) (found : UpdateIds) : Type 0 where
  pub live : IsLive rows found.update × (IsLive rows found.pkg_data × IsLive rows found.state)
  pub paths : (update_node (nodes rows) ≡ Some (path_of rows found.update))
      × ((pkg_data (nodes rows) ≡ Some (path_of rows found.pkg_data))
      × (state_node (nodes rows) ≡ Some (path_of rows found.state)))

module _ (rows : List Row) (tree : IsTree rows) (order : IsUpdateInOrder (nodes rows))
    (running : state_in_tree (nodes rows) ≡ progressing) (found : UpdateIds) (are : AreFound rows found) where
  has : (q : Path) × HasUpdate (nodes rows) q
  has = running_has (nodes rows) order running

  package_path : path_of rows found.pkg_data ≡ has.0 ++ codes "Update" ∷ codes "PkgData" ∷ []
  package_path = some_path _ _ (sym are.paths.1.0 ∙ (update_is_found (nodes rows) has.0 has.1).1)

  state_path : path_of rows found.state ≡ has.0 ++ codes "State" ∷ []
  state_path = some_path _ _ (sym are.paths.1.1 ∙ (update_is_found (nodes rows) has.0 has.1).2)

  update_path : path_of rows found.update ≡ has.0 ++ codes "Update" ∷ []
  update_path = some_path _ _ (sym are.paths.0 ∙ (update_is_found (nodes rows) has.0 has.1).0)

  package_is : node_of rows found.pkg_data ≡ has.1.data_node
  package_is = some_node (node_of rows found.pkg_data) has.1.data_node
      (sym (node_there rows tree.shape found.pkg_data are.live.1.0) ∙ ap (get (nodes rows)) package_path
      ∙ has.1.data_stands.there)

  state_is : node_of rows found.state ≡ has.1.state
  state_is = some_node (node_of rows found.state) has.1.state
      (sym (node_there rows tree.shape found.state are.live.1.1) ∙ ap (get (nodes rows)) state_path
      ∙ has.1.state_stands.there)

  update_is : node_of rows found.update ≡ has.1.update
  update_is = some_node (node_of rows found.update) has.1.update
      (sym (node_there rows tree.shape found.update are.live.0) ∙ ap (get (nodes rows)) update_path
      ∙ has.1.update_stands.there)

  pub package_leaf : (node_of rows found.pkg_data).interior ≡ false
  package_leaf = ap (λ (n : Node). n.interior) package_is ∙ has.1.data_stands.kind

  pub state_leaf : (node_of rows found.state).interior ≡ false
  state_leaf = ap (λ (n : Node). n.interior) state_is ∙ has.1.state_stands.kind

  pub two : found.pkg_data ≢ found.state
  two e = data_not_state has.0 (sym package_path ∙ ap (path_of rows) e ∙ state_path)

  stands : IsStateAt rows (record { id = found.state; state = progressing })
  stands = state_at rows tree order found.update (record { id = found.state; state = progressing }) are.live.0
      (ap (λ (n : Node). n.role) update_is ∙ has.1.update_stands.role_is) are.live.1.1 are.paths.1.1
      (sym running ∙ ap (λ o. digits_value 10 (option_map_or (value_at (nodes rows)) o [])) are.paths.1.1
      ∙ ap (λ o. digits_value 10 (unwrap_or (option_map (λ (n : Node). n.value.bytes) o) []))
      (node_there rows tree.shape found.state are.live.1.1))

  led : (clock : Stamp) (ok : Bool) (after : Nodes) → digits_value 10 (decimal (after_result ok)) ≡ after_result ok
      → progressing ≢ after_result ok
      → with_state (asked_by [] clock) (nodes rows) after (after_result ok)
      ≡ insert after (path_of rows found.state)
      (rewritten (asked_by [] clock) (node_of rows found.state) (decimal (after_result ok)))
  led clock ok after back other =
      state_led (asked_by [] clock) rows tree.shape (record { id = found.state; state = progressing }) stands after
      (after_result ok) back other

  package_put : (clock : Stamp)
      → option_map_or (package_at clock (nodes rows) true) (pkg_data (nodes rows)) (nodes rows)
      ≡ insert (nodes rows) (path_of rows found.pkg_data)
      (rewritten (asked_by [] clock) (node_of rows found.pkg_data) [])
  package_put clock =
      ap (λ o. option_map_or (package_at clock (nodes rows) true) o (nodes rows)) are.paths.1.0
      ∙ ap (λ o. insert (nodes rows) (path_of rows found.pkg_data)
      (rewritten (asked_by [] clock) (unwrap_or o blank_node) []))
      (node_there rows tree.shape found.pkg_data are.live.1.0)

  package_stays : (clock : Stamp)
      → option_map_or (package_at clock (nodes rows) false) (pkg_data (nodes rows)) (nodes rows) ≡ nodes rows
  package_stays clock = ap (λ o. option_map_or (package_at clock (nodes rows) false) o (nodes rows)) are.paths.1.0

  back_of : (ok : Bool) → digits_value 10 (decimal (after_result ok)) ≡ after_result ok
  unfolding digits
  back_of true = refl
  back_of false = refl

  other_than : (ok : Bool) → progressing ≢ after_result ok
  other_than true e = omega (arith, e)
  other_than false e = omega (arith, e)

  pub ended_well : (clock : Stamp) (data_value state : Value)
      → data_value ≡ record (node_of rows found.pkg_data).value { bytes = [] }
      → state ≡ record (node_of rows found.state).value { bytes = decimal (after_result true) }
      → insert (insert (nodes rows) (path_of rows found.pkg_data)
      (changed clock (with_value (node_of rows found.pkg_data) data_value)))
      (path_of rows found.state) (changed clock (with_value (node_of rows found.state) state))
      ≡ update_ended clock (nodes rows) true
  unfolding update_ended
  ended_well clock data_value state e f =
      ap (λ (v : Value).
      insert (insert (nodes rows) (path_of rows found.pkg_data)
      (changed clock (with_value (node_of rows found.pkg_data) v)))
      (path_of rows found.state) (changed clock (with_value (node_of rows found.state) state))) e
      ∙ ap (λ (v : Value).
      insert (insert (nodes rows) (path_of rows found.pkg_data)
      (rewritten (asked_by [] clock) (node_of rows found.pkg_data) []))
      (path_of rows found.state) (changed clock (with_value (node_of rows found.state) v))) f
      ∙ sym (led clock true _ (back_of true) (other_than true))
      ∙ ap (λ a. with_state (asked_by [] clock) (nodes rows) a (after_result true)) (sym (package_put clock))

  pub ended_badly : (clock : Stamp) (state : Value)
      → state ≡ record (node_of rows found.state).value { bytes = decimal (after_result false) }
      → insert (nodes rows) (path_of rows found.state) (changed clock (with_value (node_of rows found.state) state))
      ≡ update_ended clock (nodes rows) false
  unfolding update_ended
  ended_badly clock state f =
      ap (λ (v : Value).
      insert (nodes rows) (path_of rows found.state) (changed clock (with_value (node_of rows found.state) v))) f
      ∙ sym (led clock false _ (back_of false) (other_than false))
      ∙ ap (λ a. with_state (asked_by [] clock) (nodes rows) a (after_result false)) (sym (package_stays clock))

pub emptied_is_value : (x : Node) → IsNode x → x.interior ≡ false → IsValue false (record x.value { bytes = [] })
emptied_is_value x node leaf =
    let value = subst (λ b. IsValue b x.value) leaf node.value in
    record { format = value.format; kind = value.kind; empty = λ e. refl; media = value.media; short = omega arith }
