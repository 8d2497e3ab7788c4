-- Edits of the map keep a tree well-formed.
use Rattle.std.proofs.Common.{◌≡◌, ◌≤◌, ◌+◌, ◌-◌, ℕ, zero, suc, Bool, true, false, cond, List, [], ◌∷◌, ◌++◌, length}
use Rattle.std.proofs.Common.{None, Some, refl, sym, ◌∙◌, ap, subst, arith, inl, inr}
use Rattle.std.specs.Prelude.{not, is_some}
use Rattle.std.specs.Ordering.{eq_by_cmp, is_lt}
use Rattle.std.specs.FinMap.{get, insert, remove, len, contains_key, entries, entries_sorted, is_sorted, find}
use Rattle.std.specs.FinMap.{from_entries, len-empty, len-insert, len-remove, len-entries, empty_of_len, get-empty}
use Rattle.std.specs.FinMap.{get-remove, get-entries}
use Rattle.std.specs.FinMap.Entries.{below_all}
use Rattle.std.proofs.lemmas.Bool.{and_parts}
use Rattle.dm_uri.specs.Names.{is_within_limits, IsPath}
use Rattle.dm_tree.specs.declared.nodes.Node.{Node}
use Rattle.dm_tree.specs.Nodes.{Path, Nodes, tree_order, above, is_below, IsNode, IsRoot, IsChildOf, IsWellFormed}
use Rattle.dm_tree.specs.Order.{is_before}
use Rattle.dm_tree.specs.Edits.{pruned}
use Rattle.dm_tree.proofs.Paths.{tree_total, same_path, below_longer, below_none}
use Rattle.dm_tree.proofs.MapKeys.{tied}
use Rattle.dm_tree.proofs.LiveRows.{above-append}
use Rattle.dm_tree.proofs.SubtreeCuts.{get-pruned}
use Rattle.dm_tree.proofs.PathOrder.{not_before_itself}
use Rattle.dm_tree.proofs.FirstKeys.{is_true}
use Rattle.dm_tree.proofs.NodesKept.{some_node, at_insert, still_insert, was_there}

-- ---- how many nodes there are

-- a key of a list in order isn't the one before the list
behind_key : (p : Path) (es : List (Path × Node)) → below_all tree_order p es ≡ true → (q : Path) (x : Node)
    → find tree_order q es ≡ Some x
    → is_before p q ≡ true
behind_key p [] low q x h = absurd (cc)
behind_key p (e ∷ es) low q x h =
    let both = and_parts (is_lt (tree_order p e.0)) (below_all tree_order p es) low in
    elim (eq_by_cmp tree_order q e.0)
    as (λ b. eq_by_cmp tree_order q e.0 ≡ b → cond b (Some e.1) (find tree_order q es) ≡ Some x
    → is_before p q ≡ true) [
      | true ↦ λ is _. ap (is_before p) (same_path q e.0 is) ∙ both.0
      | false ↦ λ is g. behind_key p es both.1 q x g
    ] refl h

some_there : (m : Nodes) (q : Path) → is_some (get m q) ≡ true → 1 ≤ len m
some_there m q h = by_number (len m) refl
  where
    by_number : (n : ℕ) → len m ≡ n → 1 ≤ n
    by_number zero e = absurd (let no : is_some (get m q) ≡ false = ap (λ n. is_some (get n q)) (empty_of_len m e)
        ∙ ap is_some (get-empty tree_order q) in cc)
    by_number (suc n) e = omega arith

-- a map that has each key of a list in order has as many
as_many : (es : List (Path × Node)) (m : Nodes) → is_sorted tree_order es ≡ true
    → ((q : Path) (x : Node) → find tree_order q es ≡ Some x → is_some (get m q) ≡ true) → length es ≤ len m
as_many [] m sorted has = omega arith
as_many (e ∷ es) m sorted has =
    let both = and_parts (below_all tree_order e.0 es) (is_sorted tree_order es) sorted in
    let first : is_some (get m e.0) ≡ true = has e.0 e.1 (rw (tied e.0 e.0 refl) refl) in
    let fewer : len (remove m e.0) ≡ len m - 1 = len-remove tree_total m e.0
    ∙ ap (λ b. cond b (len m - 1) (len m)) first in
    omega (arith, fewer, as_many es (remove m e.0) both.1 (left both.0), some_there m e.0 first)
  where
    left : below_all tree_order e.0 es ≡ true → (q : Path) (x : Node) → find tree_order q es ≡ Some x
        → is_some (get (remove m e.0) q) ≡ true
    left low q x h = by_test (eq_by_cmp tree_order q e.0) refl
      where
        by_test : (b : Bool) → eq_by_cmp tree_order q e.0 ≡ b → is_some (get (remove m e.0) q) ≡ true
        by_test true is =
            let late : is_before e.0 e.0 ≡ true = ap (is_before e.0) (sym (same_path q e.0 is))
            ∙ behind_key e.0 es low q x h in
            let never = not_before_itself e.0 in
            absurd (cc)
        by_test false is =
            ap is_some (get-remove tree_total m e.0 q ∙ ap (λ b. cond b None (get m q)) is)
            ∙ has q x (ap (λ b. cond b (Some e.1) (find tree_order q es)) is ∙ h)

-- a map whose keys another one has, has no more nodes
pub no_more : (n m : Nodes) → ((q : Path) (x : Node) → get n q ≡ Some x → is_some (get m q) ≡ true) → len n ≤ len m
no_more n m has =
    omega (
      arith,
      len-entries n,
      as_many (entries n) m (is_true _ (entries_sorted n))
          (λ q x h. has q x (get-entries n q ∙ h)),
    )

-- the map of a list has no more nodes than the list
pub made_of : (es : List (Path × Node)) → len (from_entries {R = tree_order} es) ≤ length es
made_of [] = omega (arith, len-empty tree_order Node)
made_of (e ∷ es) = one_more (made_of es) (contains_key (from_entries {R = tree_order} es) e.0)
    (len-insert tree_total (from_entries {R = tree_order} es) e.0 e.1)
  where
    one_more : len (from_entries {R = tree_order} es) ≤ length es → (b : Bool)
        → len (insert (from_entries {R = tree_order} es) e.0 e.1) ≡ cond b (len (from_entries {R = tree_order} es))
        (len (from_entries {R = tree_order} es) + 1)
        → len (insert (from_entries {R = tree_order} es) e.0 e.1) ≤ suc (length es)
    one_more less true h = omega (arith, h, less)
    one_more less false h = omega (arith, h, less)

-- ---- a node that has changed

-- a node has become another one that may stand in its place
pub record StaysFormed (p : Path) (old new : Node) : Type 0 where
  pub node : IsNode new
  pub interior : new.interior ≡ old.interior
  pub permanent : new.permanent ≡ old.permanent
  pub root : p ≡ [] → IsRoot old → IsRoot new

module _ (m : Nodes) (formed : IsWellFormed m) (p : Path) (old new : Node) (there : get m p ≡ Some old)
    (stays : StaysFormed p old new) where
  as_parent : (child parent : Node) → parent ≡ old → IsChildOf child parent → IsChildOf child new
  as_parent child parent same is = record {
    interior = stays.interior ∙ ap (λ (n : Node). n.interior) (sym same) ∙ is.interior;
    permanent = λ mark. stays.permanent ∙ ap (λ (n : Node). n.permanent) (sym same) ∙ is.permanent mark;
  }

  as_child : (parent : Node) → IsChildOf old parent → IsChildOf new parent
  as_child parent is = record { interior = is.interior; permanent = λ mark. is.permanent (sym stays.permanent ∙ mark) }

  parent_then : (q : Path) (child : Node) → (parent : Node) × (get m q ≡ Some parent) × IsChildOf child parent
      → (parent : Node) × (get (insert m p new) q ≡ Some parent) × IsChildOf child parent
  parent_then q child up = elim (still_insert m p q new up.0 up.1) [
    | inl h ↦ (
      new,
      ap (get (insert m p new)) h.0 ∙ h.1,
      as_parent child up.0 (some_node up.0 old (sym up.1 ∙ ap (get m) h.0 ∙ there)) up.2,
    )
    | inr h ↦ (up.0, h, up.2)
  ]

  pub changed_formed : IsWellFormed (insert m p new)
  changed_formed = record {
    root =
        let top = formed.root in
        elim (still_insert m p [] new top.0 top.1) [
          | inl h ↦ (
            new,
            ap (get (insert m p new)) h.0 ∙ h.1,
            stays.root (sym h.0) (subst IsRoot (some_node top.0 old (sym top.1 ∙ ap (get m) h.0 ∙ there)) top.2),
          )
          | inr h ↦ (top.0, h, top.2)
        ];
    parents = λ q name child e. elim (at_insert m p (q ++ name ∷ []) new child e) [
      | inl h ↦
          let up = formed.parents q name old (ap (get m) h.0 ∙ there) in
          parent_then q child (up.0, up.1, subst (λ c. IsChildOf c up.0) h.1 (as_child up.0 up.2))
      | inr h ↦ parent_then q child (formed.parents q name child h)
    ];
    each = λ q node e. elim (at_insert m p q new node e) [
      | inl h ↦ subst IsNode h.1 stays.node
      | inr h ↦ formed.each q node h
    ];
    paths = λ q node e. elim (at_insert m p q new node e) [
      | inl h ↦ formed.paths q old (ap (get m) h.0 ∙ there)
      | inr h ↦ formed.paths q node h
    ];
    few = omega (
      arith,
      formed.few,
      len-insert tree_total m p new,
      ap (λ o. cond (is_some o) (len m) (len m + 1)) there,
    );
  }

-- ---- a node that has come in

-- a node may come in at a path
pub record MayCome (m : Nodes) (p : Path) (new : Node) : Type 0 where
  pub node : IsNode new
  pub free : get m p ≡ None
  pub parent : Node
  pub parent_there : get m (above p) ≡ Some parent
  pub interior : parent.interior ≡ true
  pub removable : new.permanent ≡ false
  pub path : IsPath p
  pub within : is_within_limits p ≡ true
  pub room : len m ≤ 65535

module _ (m : Nodes) (formed : IsWellFormed m) (p : Path) (new : Node) (may : MayCome m p new) where
  still_there : (q : Path) (x : Node) → get m q ≡ Some x → get (insert m p new) q ≡ Some x
  still_there q x e = elim (still_insert m p q new x e) [
    | inl h ↦ absurd (let some : get m p ≡ Some x = ap (get m) (sym h.0) ∙ e in let free = may.free in cc)
    | inr h ↦ h
  ]

  pub added_formed : IsWellFormed (insert m p new)
  added_formed = record {
    root = let top = formed.root in (top.0, still_there [] top.0 top.1, top.2);
    parents = λ q name child e. elim (at_insert m p (q ++ name ∷ []) new child e) [
      | inl h ↦
          let here : above p ≡ q = ap above (sym h.0) ∙ above-append q name in (
            may.parent,
            still_there q may.parent (ap (get m) (sym here) ∙ may.parent_there),
            record {
              interior = may.interior;
              permanent = λ mark. absurd (
                  let yes : new.permanent ≡ true = ap (λ (n : Node). n.permanent) h.1 ∙ mark in
                  let no = may.removable in
                  cc);
            },
          )
      | inr h ↦ let up = formed.parents q name child h in (up.0, still_there q up.0 up.1, up.2)
    ];
    each = λ q node e. elim (at_insert m p q new node e) [
      | inl h ↦ subst IsNode h.1 may.node
      | inr h ↦ formed.each q node h
    ];
    paths = λ q node e. elim (at_insert m p q new node e) [
      | inl h ↦ subst (λ r. IsPath r × (is_within_limits r ≡ true)) (sym h.0) (may.path, may.within)
      | inr h ↦ formed.paths q node h
    ];
    few = omega (
      arith,
      may.room,
      len-insert tree_total m p new,
      ap (λ o. cond (is_some o) (len m) (len m + 1)) may.free,
    );
  }

-- ---- a subtree that has gone

-- a node that isn't permanent isn't the root
pub no_root : (m : Nodes) → IsWellFormed m → (p : Path) (node : Node) → get m p ≡ Some node → node.permanent ≡ false
    → p ≡ [] → ⊥
no_root m formed p node there other e =
    let root = formed.root in
    let same : root.0 ≡ node = some_node root.0 node (sym root.1 ∙ ap (get m) (sym e) ∙ there) in
    let yes : node.permanent ≡ true = ap (λ (n : Node). n.permanent) (sym same) ∙ root.2.permanent in
    cc

module _ (m : Nodes) (formed : IsWellFormed m) (p : Path) (node : Node) (there : get m p ≡ Some node)
    (removable : node.permanent ≡ false) where
  stays_there : (q : Path) (x : Node) → get m q ≡ Some x → is_below p q ≡ false → get (pruned m p) q ≡ Some x
  stays_there q x e apart = get-pruned m p q ∙ ap (λ b. cond (not b) (get m q) None) apart ∙ e

  -- above what stays nothing goes
  not_below : (q : Path) (name : List ℕ) (child : Node) → get (pruned m p) (q ++ name ∷ []) ≡ Some child
      → is_below p q ≡ false
  not_below q name child e = by_test (is_below p q) refl
    where
      by_test : (b : Bool) → is_below p q ≡ b → b ≡ false
      by_test false is = refl
      by_test true is =
          let gone : get (pruned m p) (q ++ name ∷ []) ≡ None =
          get-pruned m p (q ++ name ∷ []) ∙ ap (λ b. cond (not b) (get m (q ++ name ∷ [])) None)
          (below_longer p q name is) in
          absurd (cc)

  pub pruned_formed : IsWellFormed (pruned m p)
  pruned_formed = record {
    root =
        let top = formed.root in
        (top.0, stays_there [] top.0 top.1 (below_none p (no_root m formed p node there removable)), top.2);
    parents = λ q name child e.
        let up = formed.parents q name child (was_there m p (q ++ name ∷ []) child e) in
        (up.0, stays_there q up.0 up.1 (not_below q name child e), up.2);
    each = λ q x e. formed.each q x (was_there m p q x e);
    paths = λ q x e. formed.paths q x (was_there m p q x e);
    few = omega (arith, formed.few, no_more (pruned m p) m (λ q x e. ap is_some (was_there m p q x e)));
  }
