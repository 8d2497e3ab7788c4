-- The update part of a tree where it is in order.
use Rattle.std.proofs.Common.{◌≡◌, ◌==◌, true, false, [], Option, None, Some, refl, sym, ap, inl, inr}
use Rattle.std.specs.Prelude.{◌⊎◌, option_map, option_and_then}
use Rattle.std.specs.List.{find}
use Rattle.std.specs.Option.{option_map_or}
use Rattle.std.specs.Str.Parse.{digits_value}
use Rattle.std.specs.FinMap.{entries}
use Rattle.dm_uri.specs.Names.{printed_path}
use Rattle.dm_fumo.specs.States.{progressing}
use Rattle.dm_tree.specs.declared.nodes.Node.{Node}
use Rattle.dm_tree.specs.declared.nodes.Role.TheVariants as role
use Rattle.dm_tree.specs.Nodes.{Path, Nodes, above}
use Rattle.dm_tree.specs.Devices.{is_update_node, is_of_update, update_node, child_of_role, pkg_data, state_node}
use Rattle.dm_tree.specs.Devices.{value_at, HasNoUpdate, HasUpdate}
use Rattle.dm_tree.specs.Devices.{IsUpdateInOrder}
use Rattle.dm_tree.proofs.Devices.{role_is, update_is_found}
use Rattle.dm_tree.proofs.FirstKeys.{entry_there}
use Rattle.dm_atomic.specs.Updates.{is_updating}
use Rattle.dm_machine.specs.Opening.{update_uri}

no_role : (m : Nodes) → HasNoUpdate m → update_uri m ≡ []
no_role m without = by_entry (find (λ e. is_update_node e.1.role) (entries m)) refl
  where
    by_entry : (o : Option (Path × Node)) → find (λ e. is_update_node e.1.role) (entries m) ≡ o
        → option_map_or printed_path (option_map (λ e. e.0) o) [] ≡ []
    by_entry None is = refl
    by_entry (Some d) is =
        let there = entry_there m (λ e. is_update_node e.1.role) d is in
        let none = without d.0 d.1 there.0 in
        let one : is_of_update d.1.role ≡ true = ap is_of_update (role_is d.1.role there.1) in
        absurd (cc)

has_both : (m : Nodes) (p : Path) → HasUpdate m p → (pkg_data m ≡ None) ⊎ (state_node m ≡ None) → ⊥
has_both m p has (inl h) = let some = (update_is_found m p has).1 in cc
has_both m p has (inr h) = let some = (update_is_found m p has).2 in cc

-- where PkgData or State is missing, there is no update node
pub no_update_uri : (m : Nodes) → IsUpdateInOrder m → (pkg_data m ≡ None) ⊎ (state_node m ≡ None) → [] ≡ update_uri m
no_update_uri m (inl without) h = sym (no_role m without)
no_update_uri m (inr has) h = absurd (has_both m has.0 has.1 h)

no_update_node : (m : Nodes) → HasNoUpdate m → update_node m ≡ None
no_update_node m without = by_entry (find (λ e. is_update_node e.1.role) (entries m)) refl
  where
    by_entry : (o : Option (Path × Node)) → find (λ e. is_update_node e.1.role) (entries m) ≡ o
        → option_map (λ e. e.0) o ≡ None
    by_entry None is = refl
    by_entry (Some d) is =
        let there = entry_there m (λ e. is_update_node e.1.role) d is in
        let none = without d.0 d.1 there.0 in
        let one : is_of_update d.1.role ≡ true = ap is_of_update (role_is d.1.role there.1) in
        absurd (cc)

no_state : (m : Nodes) → HasNoUpdate m → is_updating m ≡ false
no_state m without =
    let none : state_node m ≡ None =
    ap (option_and_then (λ p. child_of_role m (above p) role.State)) (no_update_node m without) in
    ap (λ o. digits_value 10 (option_map_or (value_at m) o []) == progressing) none

-- where an update runs, PkgData and State are there
pub runs_where_it_is : (m : Nodes) → IsUpdateInOrder m → is_updating m ≡ true
    → (pkg_data m ≡ None) ⊎ (state_node m ≡ None) → ⊥
runs_where_it_is m (inl without) on h = let off = no_state m without in cc
runs_where_it_is m (inr has) on h = has_both m has.0 has.1 h
