-- The update part comes into a tree.
use Rattle.std.proofs.Common.{◌≡◌, ℕ, Bool, true, false, List, [], ◌∷◌, ◌++◌, length, None, Some, refl, sym, ◌∙◌, ap}
use Rattle.std.proofs.Common.{subst, arith, inl, inr, length-append}
use Rattle.std.specs.Prelude.{codes, bytes_eq}
use Rattle.std.specs.FinMap.{empty, get, insert, get-empty}
use Rattle.dm_acl.specs.declared.values.Entries.{Entries}
use Rattle.dm_tree.specs.declared.nodes.Node.{Node}
use Rattle.dm_tree.specs.declared.nodes.Role.{Role}
use Rattle.dm_tree.specs.declared.nodes.Role.TheVariants as role
use Rattle.dm_tree.specs.Nodes.{Path, Nodes, tree_order, root_node}
use Rattle.dm_tree.specs.Devices.{is_of_update, is_update_state, HasUpdate, HasNoUpdate, IsUpdateInOrder}
use Rattle.dm_tree.proofs.NodesKept.{at_insert, here_insert, still_insert}
use Rattle.dm_tree.proofs.Paths.{same_ends}

-- a node without a part in it changes nothing of it
pub no_update_more : (m : Nodes) (q : Path) (new : Node) → HasNoUpdate m → is_of_update new.role ≡ false
    → HasNoUpdate (insert m q new)
no_update_more m q new without plain r node there = elim (at_insert m q r new node there) [
  | inl h ↦ ap (λ (n : Node). is_of_update n.role) (sym h.1) ∙ plain
  | inr h ↦ without r node h
]

-- nor does a tree that is its root have any
pub none_at_root : (m : Nodes) (acl : Entries) → m ≡ insert empty [] (root_node acl) → HasNoUpdate m
none_at_root m acl e = subst HasNoUpdate (sym e) (no_update_more empty [] (root_node acl) nothing_there refl)
  where
    nothing_there : HasNoUpdate empty
    nothing_there q node there = absurd (none_some (sym (get-empty tree_order q) ∙ there))
      where
        none_some : None ≡ Some node → ⊥
        none_some h = cc

-- a permanent node of this kind and role
pub record IsPart (interior : Bool) (r : Role) (node : Node) : Type 0 where
  pub kind : node.interior ≡ interior
  pub permanent : node.permanent ≡ true
  pub role_is : node.role ≡ r

abbrev pub update_path : Path → Path
update_path p = p ++ codes "Update" ∷ []

abbrev pub data_path : Path → Path
data_path p = p ++ codes "Update" ∷ codes "PkgData" ∷ []

abbrev pub state_path : Path → Path
state_path p = p ++ codes "State" ∷ []

not_same : (a b : List ℕ) → bytes_eq a a ≡ true → bytes_eq a b ≡ false → a ≡ b → ⊥
not_same a b itself other e = let same : bytes_eq a a ≡ bytes_eq a b = ap (bytes_eq a) e in absurd (cc)

update_not_state : (p : Path) → update_path p ≡ state_path p → ⊥
update_not_state p e =
    not_same (codes "Update") (codes "State") refl refl (same_ends p p (codes "Update") (codes "State") e).1

pub data_not_state : (p : Path) → data_path p ≡ state_path p → ⊥
data_not_state p e =
    omega (
      arith,
      ap length e,
      length-append p (codes "Update" ∷ codes "PkgData" ∷ []),
      length-append p (codes "State" ∷ []),
    )

update_not_data : (p : Path) → update_path p ≡ data_path p → ⊥
update_not_data p e =
    omega (
      arith,
      ap length e,
      length-append p (codes "Update" ∷ codes "PkgData" ∷ []),
      length-append p (codes "Update" ∷ []),
    )

-- what stands elsewhere stays
stays : (m : Nodes) (p q : Path) (new x : Node) → (q ≡ p → ⊥) → get m q ≡ Some x → get (insert m p new) q ≡ Some x
stays m p q new x other there = elim (still_insert m p q new x there) [ inl h ↦ absurd (other h.0) | inr h ↦ h ]

-- Update, PkgData below it, and State beside it, below p
pub has_update : (m : Nodes) (p : Path) (update data_node state : Node) → HasNoUpdate m
    → IsPart true role.UpdateNode update
    → IsPart false role.PkgData data_node → IsPart false role.State state → is_update_state state.value.bytes ≡ true
    → HasUpdate (insert (insert (insert m (update_path p) update) (data_path p) data_node) (state_path p) state) p
has_update m p update data_node state without u d s is = record {
  update = update;
  data_node = data_node;
  state = state;
  update_stands = record {
    there =
        stays two (state_path p) (update_path p) state update (update_not_state p)
        (stays one (data_path p) (update_path p) data_node update (update_not_data p)
        (here_insert m (update_path p) update));
    kind = u.kind;
    permanent = u.permanent;
    role_is = u.role_is;
  };
  data_stands = record {
    there =
        stays two (state_path p) (data_path p) state data_node (data_not_state p)
        (here_insert one (data_path p) data_node);
    kind = d.kind;
    permanent = d.permanent;
    role_is = d.role_is;
  };
  state_stands = record {
    there = here_insert two (state_path p) state;
    kind = s.kind;
    permanent = s.permanent;
    role_is = s.role_is;
  };
  state_is = is;
  alone = λ q node there of_update. elim (at_insert two (state_path p) q state node there) [
    | inl h ↦ inr (inr h.0)
    | inr h ↦ elim (at_insert one (data_path p) q data_node node h) [
      | inl g ↦ inr (inl g.0)
      | inr g ↦ elim (at_insert m (update_path p) q update node g) [
        | inl f ↦ inl f.0
        | inr f ↦ let plain = without q node f in absurd (cc)
      ]
    ]
  ];
}
  where
    one : Nodes
    one = insert m (update_path p) update

    two : Nodes
    two = insert one (data_path p) data_node

pub update_in_order : (m : Nodes) (p : Path) (update data_node state : Node) → HasNoUpdate m
    → IsPart true role.UpdateNode update
    → IsPart false role.PkgData data_node → IsPart false role.State state → is_update_state state.value.bytes ≡ true
    → IsUpdateInOrder (insert (insert (insert m (update_path p) update) (data_path p) data_node) (state_path p) state)
update_in_order m p update data_node state without u d s is =
    inr (p, has_update m p update data_node state without u d s is)

-- the same of three trees, one after the other
pub three_in_order : (m one two three : Nodes) (p a b c : Path) (update data_node state : Node)
    → one ≡ insert m a update
    → two ≡ insert one b data_node → three ≡ insert two c state → a ≡ update_path p → b ≡ data_path p → c ≡ state_path p
    → HasNoUpdate m → IsPart true role.UpdateNode update → IsPart false role.PkgData data_node
    → IsPart false role.State state
    → is_update_state state.value.bytes ≡ true → IsUpdateInOrder three
three_in_order m one two three p a b c update data_node state x y z e f g without u d s is =
    rw (z, y, x, e, f, g) (update_in_order m p update data_node state without u d s is)
