-- The first node of a role, sought through the whole tree, and among the children of a node.
use Rattle.std.proofs.Common.{find, filter, option_map, option_and_then}
use Rattle.dm_tree.specs.declared.nodes.Role.TheVariants as role
use Rattle.dm_tree.specs.Devices.{IsUpdateRow, HaveOtherRoles}
use Rattle.dm_tree.proofs.Common.{◌≡◌, ℕ, ◌+◌, ◌<◌, Bool, true, false, cond, nat_eq, List, [], ◌∷◌, length, Option}
use Rattle.dm_tree.proofs.Common.{None, Some, refl, sym, ◌∙◌, ap, arith, inl, inr, option_map_or, get, keys, entries}
use Rattle.dm_tree.proofs.Common.{is_sorted, entries_sorted, get-entries, below_all, and_parts, cases_Bool, Node, Role}
use Rattle.dm_tree.proofs.Common.{Row, Path, Nodes, tree_order, above, last_name, is_below, below, children_behind}
use Rattle.dm_tree.proofs.Common.{row_at, node_of, nodes, ids, path_of, IsLive, IsShaped, IsTree, is_role}
use Rattle.dm_tree.proofs.Common.{is_update_node, update_node, has_role}
use Rattle.dm_tree.proofs.FirstKeys.{value_of, names_of, is_true, behind_first, first_key, no_key}
use Rattle.dm_tree.proofs.LiveRows.{above-append, has_parent, last_name-append, node_there, live_at}
use Rattle.dm_tree.proofs.MapKeys.{tied}
use Rattle.dm_tree.proofs.NextNodes.{Shows}
use Rattle.dm_tree.proofs.NodesBehind.{below-is}
use Rattle.dm_tree.proofs.PathOrder.{not_before_itself}
use Rattle.dm_tree.proofs.Paths.{same_or_not}
use Rattle.dm_tree.proofs.RenamedLengths.{still_to_come}
use Rattle.dm_tree.proofs.RowMaps.{id_of, row_there}
use Rattle.dm_tree.proofs.RowPaths.{same_number}

-- an entry is found where its key is
find_entries : (es : List (Path × Node)) → is_sorted tree_order es ≡ true → (f : Path × Node → Bool) (g : Path → Bool)
    → ((q : Path) (x : Node) → value_of q es ≡ Some x → f (q, x) ≡ g q)
    → option_map (λ e. e.0) (find f es) ≡ find g (names_of es)
find_entries [] s f g all = refl
find_entries (e ∷ es) s f g all =
    let both = and_parts (below_all tree_order e.0 es) (is_sorted tree_order es) s in
    let first : f e ≡ g e.0 = all e.0 e.1 (rw (tied e.0 e.0 refl) refl) in
    elim (f e) as (λ b. f e ≡ b
    → option_map (λ d. d.0) (cond b (Some e) (find f es)) ≡ cond (g e.0) (Some e.0) (find g (names_of es))) [
      | true ↦ λ is. rw (sym first ∙ is) refl
      | false ↦ λ is.
          rw (sym first ∙ is) (find_entries es both.1 f g (λ q x v. all q x (behind_first e es both.0 q x v)))
    ] refl

pub is_update : (r : Role) → is_role r role.UpdateNode ≡ is_update_node r
is_update role.Plain = refl
is_update r = refl

has_update_role : (m : Nodes) (q : Path) (x : Node) → get m q ≡ Some x
    → is_update_node x.role ≡ has_role m role.UpdateNode q
has_update_role m q x there = rw there (sym (is_update x.role))

pub update_key : (m : Nodes) → update_node m ≡ find (has_role m role.UpdateNode) (keys m)
update_key m = find_entries (entries m) (is_true _ (entries_sorted m)) (λ e. is_update_node e.1.role)
    (has_role m role.UpdateNode) (λ q x v. has_update_role m q x (get-entries m q ∙ v))

all_below_root : (qs : List Path) → filter (λ q. is_below [] q) qs ≡ qs
all_below_root [] = refl
all_below_root (q ∷ qs) = ap (λ rs. q ∷ rs) (all_below_root qs)

-- the children from one on
abbrev pub children_from : List Row → Option ℕ → List Path
children_from rows at = option_map_or (λ c. path_of rows c ∷ children_behind (nodes rows) (path_of rows c)) at []

-- no row has the role
pub nowhere : (rows : List Row) → HaveOtherRoles rows 0 (length rows) → Shows rows None (update_node (nodes rows))
nowhere rows no_row = update_key (nodes rows) ∙ no_key (nodes rows) (has_role (nodes rows) role.UpdateNode)
    (λ q x there. let at = row_there rows q x there in
    sym (has_update_role (nodes rows) q x there) ∙ rw at.node_is at (no_row at.row (omega arith) at.inside))

module _ (rows : List Row) (shape : IsShaped rows) where
  -- what has yet to come has the update node, where a node of the tree is one
  pub sought_from_root : (root : ℕ) → IsLive rows root → path_of rows root ≡ []
      → find (has_role (nodes rows) role.UpdateNode) (still_to_come rows root (Some root)) ≡ update_node (nodes rows)
  sought_from_root root live at_top =
      ap (find (has_role (nodes rows) role.UpdateNode))
      (sym (below-is (nodes rows) (path_of rows root) (node_of rows root) (node_there rows shape root live))
      ∙ ap (below (nodes rows)) at_top ∙ all_below_root (keys (nodes rows))) ∙ sym (update_key (nodes rows))

  -- the node of the role that is sought is here
  pub sought_here : (r : Role) (here : ℕ) → IsLive rows here → is_role (node_of rows here).role r ≡ true
      → (rest : List Path) (s : Option Path) → find (has_role (nodes rows) r) (path_of rows here ∷ rest) ≡ s
      → s ≡ Some (path_of rows here)
  sought_here r here live is rest s sought = sym sought ∙ rw (node_there rows shape here live, is) refl

  -- or further on
  pub sought_on : (r : Role) (here : ℕ) → IsLive rows here → is_role (node_of rows here).role r ≡ false
      → (rest next : List Path) (s : Option Path) → find (has_role (nodes rows) r) (path_of rows here ∷ rest) ≡ s
      → rest ≡ next → find (has_role (nodes rows) r) next ≡ s
  sought_on r here live other rest next s sought same =
      rw (← same) (rw (node_there rows shape here live, other) at sought)

  -- one row has it alone
  pub lone_update : (k : ℕ) → IsLive rows k → IsUpdateRow rows k → HaveOtherRoles rows 0 k
      → HaveOtherRoles rows (k + 1) (length rows) → Shows rows (Some k) (update_node (nodes rows))
  lone_update k live is before later = (
    live,
    update_key (nodes rows) ∙ first_key (nodes rows) (has_role (nodes rows) role.UpdateNode) (path_of rows k) (record {
      value = node_of rows k;
      there = node_there rows shape k live;
      passes = sym (has_update_role (nodes rows) _ _ (node_there rows shape k live)) ∙ is.1;
      least = λ q x there passes.
          let at = row_there rows q x there in
          let has_it = rw (← at.node_is) at (has_update_role (nodes rows) q x there ∙ passes) in
          let here : path_of rows k ≡ q = rw (← same_row at.row at.inside has_it) (live_at rows at.row q at.lies).1 in
          rw here (not_before_itself q);
    }),
  )
    where
      same_row : (j : ℕ) → j < length rows → is_update_node (node_of rows j).role ≡ true → j ≡ k
      same_row j l has_it = elim (same_or_not j k) [
        | inl e ↦ e
        | inr d ↦ absurd (grind (arith, has_it, before j (omega arith), later j))
      ]

-- the update node isn't the root, which is for nothing
pub no_parent : (rows : List Row) → IsTree rows → (k : ℕ) → IsLive rows k → (node_of rows k).role ≡ role.UpdateNode
    → None ≡ option_and_then (λ (n : List ℕ). get (ids rows) (above (path_of rows k))) (last_name (path_of rows k)) → ⊥
no_parent rows tree k live role_is found = elim (cases_Bool (nat_eq k 0)) [
  | inl is ↦ let plain = tree.root.role in let root = same_number k 0 is in cc
  | inr other ↦
      let up = has_parent rows tree.shape k live other in
      let there = id_of rows tree.shape (row_at rows k).parent _ up.live in
      let none = rw (up.path, last_name-append, above-append) at found in
      cc
]
