-- What edits keep of nodes that stay, whatever it is that makes a node stay alike.
use Rattle.std.proofs.Common.{not}
use Rattle.std.specs.FinMap.{insert}
use Rattle.dm_tree.specs.Nodes.{IsWellFormed}
use Rattle.dm_tree.proofs.Common.{◌≡◌, ℕ, true, false, cond, List, [], ◌∷◌, ◌++◌, length, drop, None, Some, refl, sym}
use Rattle.dm_tree.proofs.Common.{◌∙◌, ap, subst, ◌⊎◌, inl, inr, append_assoc, append-nil, cases_Bool}
use Rattle.dm_tree.proofs.Common.{false_from_ne_true, get, Node, Path, Nodes, above, is_below, pruned, rekeyed, renamed}
use Rattle.dm_tree.proofs.Common.{is_of_update}
use Rattle.dm_tree.proofs.SubtreeCuts.{get-pruned}
use Rattle.dm_tree.proofs.PathOrder.{rest_below}
use Rattle.dm_tree.proofs.MapKeys.{moved_from, moved_to}
use Rattle.dm_tree.proofs.RenamedRows.{rekeyed-apart, rekeyed-below}
use Rattle.dm_tree.proofs.RowMaps.{insert_here, insert_beside}
use Rattle.dm_tree.proofs.Paths.{path_or_not}

-- a node that was there, maybe under another path
pub record Was (m : Nodes) (q : Path) (new : Node) : Type 0 where
  pub at : Path
  pub old : Node
  pub there : get m at ≡ Some old
  pub role : new.role ≡ old.role
  pub unmoved : old.permanent ≡ true → at ≡ q

-- a permanent node of the old tree in the new one
pub record Still (kin : Node → Node → Type 0) (m : Nodes) (q : Path) (old : Node) : Type 0 where
  pub new : Node
  pub there : get m q ≡ Some new
  pub alike : kin old new

-- permanent nodes stay alike, and no node of the update has come in
pub record Keeps (alike : Node → Node → Type 0) (m n : Nodes) : Type 0 where
  pub still : (q : Path) (x : Node) → get m q ≡ Some x → x.permanent ≡ true → Still alike n q x
  pub was : (q : Path) (y : Node) → get n q ≡ Some y → is_of_update y.role ≡ true → Was m q y

pub some_node : (a b : Node) → Some a ≡ Some b → a ≡ b
some_node a b e = cc

-- ---- a node that has changed, or has come in

-- a node at a path is the new one there, or that of the old map elsewhere
pub at_insert : (m : Nodes) (p q : Path) (new y : Node) → get (insert m p new) q ≡ Some y
    → ((q ≡ p) × (new ≡ y)) ⊎ (get m q ≡ Some y)
at_insert m p q new y there = elim (path_or_not q p) [
  | inl is ↦ inl (is, some_node new y (sym (insert_here m p q new is) ∙ there))
  | inr other ↦ inr (sym (insert_beside m p q new other) ∙ there)
]

pub here_insert : (m : Nodes) (p : Path) (new : Node) → get (insert m p new) p ≡ Some new
here_insert m p new = insert_here m p p new refl

-- and a node of the old map is there, unless the new one stands there
pub still_insert : (m : Nodes) (p q : Path) (new x : Node) → get m q ≡ Some x
    → ((q ≡ p) × (get (insert m p new) p ≡ Some new)) ⊎ (get (insert m p new) q ≡ Some x)
still_insert m p q new x there = elim (path_or_not q p) [
  | inl is ↦ inl (is, here_insert m p new)
  | inr other ↦ inr (insert_beside m p q new other ∙ there)
]

-- a node comes into a tree that has kept the nodes of another one
keeps_insert : (alike : Node → Node → Type 0) (m n : Nodes) (p : Path) (new : Node) → Keeps alike m n
    → ((x : Node) → get m p ≡ Some x → x.permanent ≡ true → alike x new)
    → (is_of_update new.role ≡ true → Was m p new) → Keeps alike m (insert n p new)
keeps_insert alike m n p new keeps here was = record {
  still = λ q x e mark.
      let s = keeps.still q x e mark in
      elim (still_insert n p q new s.new s.there) [
        | inl h ↦ record { new = new; there = rw h.0 h.1; alike = here x (rw (← h.0) e) mark }
        | inr h ↦ record { new = s.new; there = h; alike = s.alike }
      ];
  was = λ q y e role. elim (at_insert n p q new y e) [
    | inl h ↦ rw (h.0, ← h.1) (was (rw h.1 role))
    | inr h ↦ keeps.was q y h role
  ];
}

module _ (alike : Node → Node → Type 0) (itself : (x : Node) → alike x x) where
  keeps_itself : (m : Nodes) → Keeps alike m m
  keeps_itself m = record {
    still = λ q x e _. record { new = x; there = e; alike = itself x };
    was = λ q y e _. record { at = q; old = y; there = e; role = refl; unmoved = λ _. refl };
  }

  pub keeps_changed : (m : Nodes) (p : Path) (old new : Node) → get m p ≡ Some old → alike old new → new.role ≡ old.role
      → Keeps alike m (insert m p new)
  keeps_changed m p old new there stays role_is =
      keeps_insert alike m m p new (keeps_itself m)
      (λ x e _. subst (λ o. alike o new) (some_node old x (sym there ∙ e)) stays)
      (λ _. record { at = p; old = old; there = there; role = role_is; unmoved = λ _. refl })

  pub keeps_added : (m : Nodes) (p : Path) (new : Node) → get m p ≡ None → is_of_update new.role ≡ false
      → Keeps alike m (insert m p new)
  keeps_added m p new free other =
      keeps_insert alike m m p new (keeps_itself m) (λ x e _. absurd (cc)) (λ is. absurd (cc))

-- ---- a subtree

-- above a node, k names up, stands a node, which is permanent where that one is
pub top_there : (m : Nodes) → IsWellFormed m → (p : Path) (k : ℕ) (s : Path) → length s ≡ k → (x : Node)
    → get m (p ++ s) ≡ Some x → (top : Node) × (get m p ≡ Some top) × (x.permanent ≡ true → top.permanent ≡ true)
top_there m formed p k [] l x e = (x, ap (get m) (sym (append-nil p)) ∙ e, λ mark. mark)
top_there m formed p k (n ∷ ns) l x e =
    let below = top_there m formed (p ++ n ∷ []) _ ns refl x (ap (get m) (append_assoc p (n ∷ []) ns) ∙ e) in
    let up = formed.parents p n below.0 below.1 in
    (up.0, up.1, λ mark. up.2.permanent (below.2 mark))

-- below a node that isn't permanent none is
apart : (m : Nodes) → IsWellFormed m → (p : Path) (node : Node) → get m p ≡ Some node → node.permanent ≡ false
    → (q : Path) (x : Node) → get m q ≡ Some x → x.permanent ≡ true → is_below p q ≡ false
apart m formed p node there other q x e mark = false_from_ne_true _ (λ is.
    let top = top_there m formed p _ (drop (length p) q) refl x (ap (get m) (sym (rest_below p q is)) ∙ e) in
    let same : top.0 ≡ node = some_node top.0 node (sym top.1 ∙ there) in
    let marked : top.0.permanent ≡ true = top.2 mark in
    cc)

-- what is there after a subtree is taken out was there before
pub was_there : (m : Nodes) (p q : Path) (y : Node) → get (pruned m p) q ≡ Some y → get m q ≡ Some y
was_there m p q y e =
    elim (is_below p q) as (λ b. cond (not b) (get m q) None ≡ Some y → get m q ≡ Some y) [
      | true ↦ λ h. absurd (cc)
      | false ↦ λ h. h
    ] (sym (get-pruned m p q) ∙ e)

pub keeps_pruned : (alike : Node → Node → Type 0) → ((x : Node) → alike x x) → (m : Nodes) (p : Path) (node : Node)
    → IsWellFormed m → get m p ≡ Some node → node.permanent ≡ false → Keeps alike m (pruned m p)
keeps_pruned alike itself m p node formed there other = record {
  still = λ q x e mark. record {
    new = x;
    there = get-pruned m p q ∙ rw (apart m formed p node there other q x e mark) e;
    alike = itself x;
  };
  was = λ q y e _. record { at = q; old = y; there = was_there m p q y e; role = refl; unmoved = λ _. refl };
}

-- ---- another name

module _ (m : Nodes) (p : Path) (name : List ℕ) (old new : Node) (formed : IsWellFormed m) (there : get m p ≡ Some old)
    (other : old.permanent ≡ false)
    (free : (get m (above p ++ name ∷ []) ≡ None) ⊎ (above p ++ name ∷ [] ≡ p)) where
  abbrev t : Path
  t = above p ++ name ∷ []

  not_root : p ≡ [] → ⊥
  not_root e =
      let root = formed.root in
      let same : root.0 ≡ old = some_node root.0 old (sym root.1 ∙ ap (get m) (sym e) ∙ there) in
      let marked = root.2.permanent in
      cc

  -- permanent nodes keep their paths
  fixed : (q : Path) (x : Node) → get m q ≡ Some x → x.permanent ≡ true → rekeyed p name q ≡ q
  fixed q x e mark = rekeyed-apart p name q (apart m formed p old there other q x e mark)

  -- and no other node comes there
  alone : (q : Path) (x : Node) → get m q ≡ Some x → x.permanent ≡ true → (a : Path)
      → rekeyed p name a ≡ rekeyed p name q → a ≡ q
  alone q x e mark a same = elim (cases_Bool (is_below p a)) [
    | inr beside ↦ sym (rekeyed-apart p name a beside) ∙ same ∙ fixed q x e mark
    | inl is ↦
        let to : t ++ drop (length p) a ≡ q = sym (rekeyed-below p name a not_root is) ∙ same ∙ fixed q x e mark in
        elim free [
          | inl empty ↦
              absurd (let top = top_there m formed t _ (drop (length p) a) refl x (ap (get m) to ∙ e) in
              let some = top.1 in cc)
          | inr back ↦ rest_below p a is ∙ ap (λ r. r ++ drop (length p) a) (sym back) ∙ to
        ]
  ]

  not_there : (x : Node) → get m t ≡ Some x → x.permanent ≡ true → ⊥
  not_there x e mark = elim free [ inl empty ↦ cc | inr back ↦ cc ]

  pub keeps_renamed : (alike : Node → Node → Type 0) → ((x : Node) → alike x x) → new.role ≡ old.role
      → Keeps alike m (insert (renamed m p name) t new)
  keeps_renamed alike itself role_is = keeps_insert alike m (renamed m p name) t new (record {
    still = λ q x e mark. record {
      new = x;
      there = ap (get (renamed m p name)) (sym (fixed q x e mark))
          ∙ moved_to (rekeyed p name) m q x (λ a y f same. alone q x e mark a same) e;
      alike = itself x;
    };
    was = λ q y e _. let from = moved_from (rekeyed p name) m q y e in record {
      at = from.0;
      old = y;
      there = from.1;
      role = refl;
      unmoved = λ mark. sym (fixed from.0 y from.1 mark) ∙ from.2;
    };
  }) (λ x e mark. absurd (not_there x e mark))
      (λ _. record { at = p; old = old; there = there; role = role_is; unmoved = λ mark. absurd (cc) })
