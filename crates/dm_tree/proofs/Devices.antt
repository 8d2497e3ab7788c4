-- Where the update node of a tree is, PkgData and State.
use Rattle.std.proofs.Common.{◌&&◌, codes, find, filter, option_and_then}
use Rattle.dm_tree.specs.declared.nodes.Role.TheVariants as role
use Rattle.dm_tree.specs.Devices.{child_of_role, HasUpdate}
use Rattle.dm_tree.specs.Laws.{UpdateIsFound}
use Rattle.dm_tree.proofs.Common.{◌≡◌, ℕ, Bool, true, cond, List, [], ◌∷◌, ◌++◌, Some, refl, sym, ◌∙◌, ap, inl, inr}
use Rattle.dm_tree.proofs.Common.{arith, append_assoc, get, keys, and_from, and_parts, cases_Bool, Node, Role, Path}
use Rattle.dm_tree.proofs.Common.{Nodes, above, is_child_of, is_role, is_update_node, is_of_update, has_role}
use Rattle.dm_tree.proofs.Common.{update_node}
use Rattle.dm_tree.proofs.FirstKeys.{first_key}
use Rattle.dm_tree.proofs.PathOrder.{not_before_itself}
use Rattle.dm_tree.proofs.LiveRows.{above-append}
use Rattle.dm_tree.proofs.NextNodes.{child_passes}
use Rattle.dm_tree.proofs.RoleSearch.{is_update, update_key}

-- ---- roles

pub same_role : (a b : Role) → is_role a b ≡ true → a ≡ b
same_role role.Plain role.Plain h = refl
same_role role.ReadOnly role.ReadOnly h = refl
same_role role.UpdateNode role.UpdateNode h = refl
same_role role.PkgData role.PkgData h = refl
same_role role.State role.State h = refl
same_role a b h = absurd (cc)

pub role_is : (r : Role) → is_update_node r ≡ true → r ≡ role.UpdateNode
role_is r h = same_role r role.UpdateNode (is_update r ∙ h)

-- ---- the map

-- in an update part that is in order, there is one place for each role
module _ (m : Nodes) (p : Path) (has : HasUpdate m p) (q : Path) (x : Node) (there : get m q ≡ Some x) where
  update_place : x.role ≡ role.UpdateNode → q ≡ p ++ codes "Update" ∷ []
  update_place h = grind (arith, has.alone q x there (ap is_of_update h))

  data_place : x.role ≡ role.PkgData → q ≡ p ++ codes "Update" ∷ codes "PkgData" ∷ []
  data_place h = grind (arith, has.alone q x there (ap is_of_update h))

  state_place : x.role ≡ role.State → q ≡ p ++ codes "State" ∷ []
  state_place h = grind (arith, has.alone q x there (ap is_of_update h))

-- the first of what is left of a list is the first that passes both
find_filter : (f g : Path → Bool) (qs : List Path) → find f (filter g qs) ≡ find (λ q. g q && f q) qs
find_filter f g [] = refl
find_filter f g (q ∷ qs) = elim (cases_Bool (g q)) [
  | inl is ↦ rw is (ap (λ o. cond (f q) (Some q) o) (find_filter f g qs))
  | inr is ↦ rw is (find_filter f g qs)
]

-- a node that alone has the role
module _ (m : Nodes) (r : Role) (p : Path) (x : Node) (there : get m p ≡ Some x) (role : x.role ≡ r)
    (alone : (q : Path) (y : Node) → get m q ≡ Some y → y.role ≡ r → q ≡ p) (itself : is_role r r ≡ true) where
  -- is the first that passes a test that asks for the role
  first_of_role : (test : Path → Bool) → (has_role m r p ≡ true → test p ≡ true)
      → ((q : Path) → test q ≡ true → has_role m r q ≡ true) → find test (keys m) ≡ Some p
  first_of_role test passes asks = first_key m test p (record {
    value = x;
    there = there;
    passes = passes (rw (there, role) itself);
    least = λ q y e h. rw (alone q y e (same_role y.role r (rw e at (asks q h)))) (not_before_itself p);
  })

-- and so found as a child
child_found : (m : Nodes) (r : Role) (u : Path) (name : List ℕ) (x : Node) → get m (u ++ name ∷ []) ≡ Some x
    → x.role ≡ r → ((q : Path) (y : Node) → get m q ≡ Some y → y.role ≡ r → q ≡ u ++ name ∷ [])
    → is_role r r ≡ true → child_of_role m u r ≡ Some (u ++ name ∷ [])
child_found m r u name x there role alone itself =
    find_filter (has_role m r) (is_child_of u) (keys m)
    ∙ first_of_role m r (u ++ name ∷ []) x there role alone itself (λ q. is_child_of u q && has_role m r q)
    (λ h. and_from _ _ (child_passes u name) h) (λ q h. (and_parts (is_child_of u q) (has_role m r q) h).1)

pub update_is_found : UpdateIsFound
update_is_found m p has = (
  update,
  ap (option_and_then (λ q. child_of_role m q role.PkgData)) update
      ∙ rw longer (child_found m role.PkgData (p ++ codes "Update" ∷ []) (codes "PkgData") has.data_node
      (rw longer at has.data_stands.there) has.data_stands.role_is
      (λ q x there h. data_place m p has q x there h ∙ longer) refl),
  ap (option_and_then (λ q. child_of_role m (above q) role.State)) update
      ∙ rw above-append (child_found m role.State p (codes "State") has.state has.state_stands.there
      has.state_stands.role_is (state_place m p has) refl),
)
  where
    update : update_node m ≡ Some (p ++ codes "Update" ∷ [])
    update =
        update_key m
        ∙ first_of_role m role.UpdateNode (p ++ codes "Update" ∷ []) has.update has.update_stands.there
        has.update_stands.role_is (update_place m p has) refl (has_role m role.UpdateNode) (λ h. h) (λ q h. h)

    longer : p ++ codes "Update" ∷ codes "PkgData" ∷ [] ≡ (p ++ codes "Update" ∷ []) ++ codes "PkgData" ∷ []
    longer = sym (append_assoc p (codes "Update" ∷ []) (codes "PkgData" ∷ []))
