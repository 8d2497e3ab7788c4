-- Permanent nodes stay where they are, and so does what stands above them.
use Rattle.std.proofs.Common.{◌≡◌, ℕ, Bool, true, false, zero, suc, List, [], ◌∷◌, ◌++◌, length, drop, None, Some, refl}
use Rattle.std.proofs.Common.{sym, ◌∙◌, ap, subst, arith, inl, inr, append_assoc, length-append}
use Rattle.std.specs.Prelude.{◌⊎◌}
use Rattle.std.specs.FinMap.{get, insert}
use Rattle.dm_tree.specs.declared.nodes.Node.{Node}
use Rattle.dm_tree.specs.declared.nodes.Value.{Value}
use Rattle.dm_tree.specs.Nodes.{Path, Nodes, above, is_below, IsWellFormed}
use Rattle.dm_tree.specs.Edits.{pruned, rekeyed, renamed}
use Rattle.dm_tree.specs.Devices.{is_of_update, is_update_state, StaysForUpdate}
use Rattle.dm_tree.proofs.SubtreeCuts.{get-pruned}
use Rattle.dm_tree.proofs.PathOrder.{rest_below}
use Rattle.dm_tree.proofs.NodesKept.{Was, Keeps, some_node, at_insert, still_insert, was_there, keeps_changed}
use Rattle.dm_tree.proofs.MapKeys.{moved_from, moved_to}
use Rattle.dm_tree.proofs.Paths.{Ends, ends, none, last}
use Rattle.dm_tree.proofs.RenamedRows.{rekeyed-apart, rekeyed-below}
use Rattle.dm_tree.proofs.UpdateParts.{in_order}
use Rattle.dm_atomic.specs.Updates.{IsAnchored, HasFixedUpdate}

pub anchored_of : (m : Nodes) → IsWellFormed m → IsAnchored m
anchored_of m formed = record {
  root = (formed.root.0, formed.root.1, formed.root.2.permanent);
  above = λ p name child there mark.
      let up = formed.parents p name child there in (up.0, up.1, up.2.permanent mark);
}

-- ---- what edits leave

-- a permanent node was one before
abbrev pub StayPermanent : Nodes → Nodes → Type 0
StayPermanent m n = (q : Path) (y : Node) → get n q ≡ Some y → y.permanent ≡ true
    → (x : Node) × (get m q ≡ Some x) × (x.permanent ≡ true)

-- permanent nodes stay alike for the update, no node of the update comes in, and no permanent one
pub record Lasts (m n : Nodes) : Type 0 where
  pub keeps : Keeps StaysForUpdate m n
  pub permanent : StayPermanent m n

for_itself : (x : Node) → StaysForUpdate x x
for_itself x = record { interior = refl; permanent = λ h. h; role = refl; state = λ _. inl refl }

pub lasts_itself : (m : Nodes) → Lasts m m
lasts_itself m = record {
  keeps = record {
    still = λ q x there mark. record { new = x; there = there; alike = for_itself x };
    was = λ q y there role. record { at = q; old = y; there = there; role = refl; unmoved = λ _. refl };
  };
  permanent = λ q y there mark. (y, there, mark);
}

anchored_then : (m n : Nodes) → IsAnchored m → Lasts m n → IsAnchored n
anchored_then m n anchored lasts = record {
  root =
      let root = anchored.root in
      let still = lasts.keeps.still [] root.0 root.1 root.2 in
      (still.new, still.there, still.alike.permanent root.2);
  above = λ p name child there mark.
      let was = lasts.permanent (p ++ name ∷ []) child there mark in
      let up = anchored.above p name was.0 was.1 was.2 in
      let still = lasts.keeps.still p up.0 up.1 up.2 in
      (still.new, still.there, still.alike.permanent up.2);
}

pub fixed_then : (m n : Nodes) → HasFixedUpdate m → Lasts m n → HasFixedUpdate n
fixed_then m n fixed lasts = record {
  order = in_order StaysForUpdate (λ x y h. h) m n lasts.keeps fixed.order;
  anchored = anchored_then m n fixed.anchored lasts;
}

alike_then : (x y z : Node) → StaysForUpdate x y → StaysForUpdate y z → StaysForUpdate x z
alike_then x y z a b = record {
  interior = b.interior ∙ a.interior;
  permanent = λ h. b.permanent (a.permanent h);
  role = b.role ∙ a.role;
  state = λ is. elim (b.state (a.role ∙ is)) [
    | inr five ↦ inr five
    | inl same ↦ elim (a.state is) [
      | inr five ↦ inr (subst (λ (v : Value). is_update_state v.bytes ≡ true) (sym same) five)
      | inl first ↦ inl (same ∙ first)
    ]
  ];
}

was_then : (m n o : Nodes) (q : Path) (z : Node) → Lasts m n → Lasts n o → get o q ≡ Some z → is_of_update z.role ≡ true
    → Was m q z
was_then m n o q z a b there role =
    let second = b.keeps.was q z there role in
    let first = a.keeps.was second.at second.old second.there (ap is_of_update (sym second.role) ∙ role) in
    record {
      at = first.at;
      old = first.old;
      there = first.there;
      role = second.role ∙ first.role;
      unmoved = λ mark.
          let at = first.unmoved mark in
          let still = a.keeps.still first.at first.old first.there mark in
          let same : still.new ≡ second.old =
          some_node still.new second.old (sym still.there ∙ ap (get n) at ∙ second.there) in
          at ∙ second.unmoved (ap (λ (x : Node). x.permanent) (sym same) ∙ still.alike.permanent mark);
    }

pub lasts_then : (m n o : Nodes) → Lasts m n → Lasts n o → Lasts m o
lasts_then m n o a b = record {
  keeps = record {
    still = λ q x there mark.
        let first = a.keeps.still q x there mark in
        let second = b.keeps.still q first.new first.there (first.alike.permanent mark) in
        record {
          new = second.new;
          there = second.there;
          alike = alike_then x first.new second.new first.alike second.alike;
        };
    was = λ q z there role. was_then m n o q z a b there role;
  };
  permanent = λ q z there mark.
      let second = b.permanent q z there mark in a.permanent q second.0 second.1 second.2;
}

-- ---- a node that becomes another one, or comes in

pub changed_permanent : (m : Nodes) (p : Path) (x y : Node) → get m p ≡ Some x → y.permanent ≡ x.permanent
    → StayPermanent m (insert m p y)
changed_permanent m p x y there permanent q z at mark = elim (at_insert m p q y z at) [
  | inl h ↦ (x, ap (get m) h.0 ∙ there, sym permanent ∙ ap (λ (n : Node). n.permanent) h.1 ∙ mark)
  | inr h ↦ (z, h, mark)
]

pub added_permanent : (m : Nodes) (p : Path) (y : Node) → y.permanent ≡ false → StayPermanent m (insert m p y)
added_permanent m p y other q z at mark = elim (at_insert m p q y z at) [
  | inl h ↦ absurd (let yes : y.permanent ≡ true = ap (λ (n : Node). n.permanent) h.1 ∙ mark in cc)
  | inr h ↦ (z, h, mark)
]

pub changed_lasts : (m : Nodes) (p : Path) (x y : Node) → get m p ≡ Some x → StaysForUpdate x y
    → y.permanent ≡ x.permanent → Lasts m (insert m p y)
changed_lasts m p x y there stays permanent = record {
  keeps = keeps_changed StaysForUpdate for_itself m p x y there stays stays.role;
  permanent = changed_permanent m p x y there permanent;
}

-- ---- a subtree

append-none : (q : Path) → q ++ [] ≡ q
append-none [] = refl
append-none (n ∷ ns) = ap (λ s. n ∷ s) (append-none ns)

-- what stands above a permanent node, below p
pub record Above (m : Nodes) (p : Path) (long : ℕ) : Type 0 where
  pub front : Path
  pub node : Node
  pub longer : long ≡ suc (length front)
  pub there : get m (p ++ front) ≡ Some node
  pub permanent : node.permanent ≡ true

module _ (m : Nodes) (anchored : IsAnchored m) (p : Path) where
  upwards : (s : Path) → Ends s → (x : Node) → get m (p ++ s) ≡ Some x → x.permanent ≡ true
      → (get m p ≡ Some x) ⊎ Above m p (length s)
  upwards [] none x e mark = inl (ap (get m) (sym (append-none p)) ∙ e)
  upwards s (last front n) x e mark =
      let up = anchored.above (p ++ front) n x (ap (get m) (append_assoc p front (n ∷ [])) ∙ e) mark in
      inr (record {
        front = front;
        node = up.0;
        longer = omega (arith, length-append front (n ∷ []));
        there = up.1;
        permanent = up.2;
      })

  -- a node stands at p, and is permanent where one below it is
  top_there : (k : ℕ) (s : Path) → length s ≡ k → (x : Node) → get m (p ++ s) ≡ Some x → x.permanent ≡ true
      → (top : Node) × (get m p ≡ Some top) × (top.permanent ≡ true)
  top_there zero s l x e mark = elim (upwards s (ends s) x e mark) [
    | inl h ↦ (x, h, mark)
    | inr h ↦ absurd (omega (arith, h.longer, l))
  ]
  top_there (suc k) s l x e mark = elim (upwards s (ends s) x e mark) [
    | inl h ↦ (x, h, mark)
    | inr h ↦ top_there k h.front (omega (arith, h.longer, l)) h.node h.there h.permanent
  ]

  -- below a node that isn't permanent none is
  apart : (node : Node) → get m p ≡ Some node → node.permanent ≡ false → (q : Path) (x : Node) → get m q ≡ Some x
      → x.permanent ≡ true → is_below p q ≡ false
  apart node there other q x e mark = by_test (is_below p q) refl
    where
      by_test : (b : Bool) → is_below p q ≡ b → b ≡ false
      by_test false is = refl
      by_test true is =
          let top = top_there (length (drop (length p) q)) (drop (length p) q) refl x
          (ap (get m) (sym (rest_below p q is)) ∙ e) mark in
          let same : top.0 ≡ node = some_node top.0 node (sym top.1 ∙ there) in
          let yes : node.permanent ≡ true = ap (λ (n : Node). n.permanent) (sym same) ∙ top.2 in
          absurd (cc)

pub pruned_permanent : (m : Nodes) (p : Path) → StayPermanent m (pruned m p)
pruned_permanent m p q y e mark = (y, was_there m p q y e, mark)

pub pruned_keeps : (alike : Node → Node → Type 0) → ((x : Node) → alike x x) → (m : Nodes) (p : Path) (node : Node)
    → IsAnchored m → get m p ≡ Some node → node.permanent ≡ false → Keeps alike m (pruned m p)
pruned_keeps alike itself m p node anchored there other = record {
  still = λ q x e permanent. record {
    new = x;
    there = get-pruned m p q ∙ rw (apart m anchored p node there other q x e permanent) e;
    alike = itself x;
  };
  was = λ q y e role. record { at = q; old = y; there = was_there m p q y e; role = refl; unmoved = λ _. refl };
}

-- ---- another name

module _ (m : Nodes) (p : Path) (name : List ℕ) (old new : Node) (anchored : IsAnchored m) (there : get m p ≡ Some old)
    (other : old.permanent ≡ false) (free : (get m (above p ++ name ∷ []) ≡ None) ⊎ (above p ++ name ∷ [] ≡ p)) where
  abbrev t : Path
  t = above p ++ name ∷ []

  not_root : p ≡ [] → ⊥
  not_root e =
      let root = anchored.root in
      let same : root.0 ≡ old = some_node root.0 old (sym root.1 ∙ ap (get m) (sym e) ∙ there) in
      let yes : old.permanent ≡ true = ap (λ (n : Node). n.permanent) (sym same) ∙ root.2 in
      cc

  -- permanent nodes keep their paths
  fixed : (q : Path) (x : Node) → get m q ≡ Some x → x.permanent ≡ true → rekeyed p name q ≡ q
  fixed q x e mark = rekeyed-apart p name q (apart m anchored p old there other q x e mark)

  -- and no other node comes there
  alone : (q : Path) (x : Node) → get m q ≡ Some x → x.permanent ≡ true → (a : Path)
      → rekeyed p name a ≡ rekeyed p name q → a ≡ q
  alone q x e mark a same = by_test (is_below p a) refl
    where
      by_test : (b : Bool) → is_below p a ≡ b → a ≡ q
      by_test false is = sym (rekeyed-apart p name a is) ∙ same ∙ fixed q x e mark
      by_test true is =
          let to : t ++ drop (length p) a ≡ q = sym (rekeyed-below p name a not_root is) ∙ same ∙ fixed q x e mark in
          elim free [
            | inl empty ↦ absurd (
                let top = top_there m anchored t (length (drop (length p) a)) (drop (length p) a) refl x
                (ap (get m) to ∙ e) mark in
                let some = top.1 in
                cc)
            | inr back ↦ rest_below p a is ∙ ap (λ r. r ++ drop (length p) a) (sym back) ∙ to
          ]

  not_there : (q : Path) (x : Node) → get m q ≡ Some x → x.permanent ≡ true → q ≡ t → ⊥
  not_there q x e mark same = elim free [
    | inl empty ↦ let some : get m t ≡ Some x = ap (get m) (sym same) ∙ e in cc
    | inr back ↦
        let one : x ≡ old = some_node x old (sym e ∙ ap (get m) (same ∙ back) ∙ there) in
        let no : x.permanent ≡ false = ap (λ (n : Node). n.permanent) one ∙ other in
        cc
  ]

  pub renamed_keeps : (alike : Node → Node → Type 0) → ((x : Node) → alike x x) → new.role ≡ old.role
      → Keeps alike m (insert (renamed m p name) t new)
  renamed_keeps alike itself role_is = record {
    still = λ q x e permanent.
        let moved : get (renamed m p name) q ≡ Some x =
        ap (get (renamed m p name)) (sym (fixed q x e permanent))
        ∙ moved_to (rekeyed p name) m q x (λ a y f same. alone q x e permanent a same) e in
        elim (still_insert (renamed m p name) t q new x moved) [
          | inl h ↦ absurd (not_there q x e permanent h.0)
          | inr h ↦ record { new = x; there = h; alike = itself x }
        ];
    was = λ q y e role. elim (at_insert (renamed m p name) t q new y e) [
      | inl h ↦ record {
        at = p;
        old = old;
        there = there;
        role = ap (λ (x : Node). x.role) (sym h.1) ∙ role_is;
        unmoved = λ mark. absurd (cc);
      }
      | inr h ↦
          let from = moved_from (rekeyed p name) m q y h in
          record {
            at = from.0;
            old = y;
            there = from.1;
            role = refl;
            unmoved = λ mark. sym (fixed from.0 y from.1 mark) ∙ from.2;
          }
    ];
  }

  pub renamed_permanent : new.permanent ≡ false → StayPermanent m (insert (renamed m p name) t new)
  renamed_permanent plain q y e mark = elim (at_insert (renamed m p name) t q new y e) [
    | inl h ↦ absurd (let yes : new.permanent ≡ true = ap (λ (n : Node). n.permanent) h.1 ∙ mark in cc)
    | inr h ↦
        let from = moved_from (rekeyed p name) m q y h in
        (y, ap (get m) (sym (sym (fixed from.0 y from.1 mark) ∙ from.2)) ∙ from.1, mark)
  ]
