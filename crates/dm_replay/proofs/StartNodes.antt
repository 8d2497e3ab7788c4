-- Nodes that a start section brings in keep a tree well-formed.
use Rattle.std.proofs.Common.{◌≡◌, ◌≤◌, ◌+◌, ℕ, Bool, true, false, not, cond, List, [], ◌∷◌, ◌++◌, length, Option, None}
use Rattle.std.proofs.Common.{Some, Ok, Err, refl, sym, ◌∙◌, ap, subst, arith, inl, inr}
use Rattle.std.proofs.lemmas.Bool.{and_parts}
use Rattle.std.proofs.lemmas.Bool.Decides.{nat_tests}
use Rattle.std.specs.Prelude.{◌&&◌, ◌||◌, ◌==◌, ⊤, Result, is_some}
use Rattle.std.specs.List.{list_all}
use Rattle.std.specs.Option.{option_map_or}
use Rattle.std.specs.FinMap.{get, insert, len, len-insert}
use Rattle.dm_base.specs.declared.lines.LineReason.{LineReason}
use Rattle.dm_base.specs.declared.lines.LineReason.TheVariants as reason
use Rattle.dm_uri.specs.Names.{has_name_form, is_within_limits, IsPath}
use Rattle.dm_uri.proofs.Limits.{path_of_limits}
use Rattle.dm_tree.specs.declared.nodes.NewNode.{NewNode}
use Rattle.dm_tree.specs.declared.nodes.Node.{Node}
use Rattle.dm_tree.specs.declared.nodes.Stamp.{Stamp}
use Rattle.dm_tree.specs.Nodes.{Path, Nodes, above, made, with_mark, IsNode, IsNewNode, IsRoot, IsChildOf, IsStamp}
use Rattle.dm_tree.specs.Nodes.{IsWellFormed}
use Rattle.dm_tree.proofs.LiveRows.{above-append}
use Rattle.dm_tree.proofs.FieldEdits.{held_made}
use Rattle.dm_tree.proofs.NodesKept.{some_node, at_insert, still_insert}
use Rattle.dm_tree.proofs.Paths.{tree_total}
use Rattle.dm_start.specs.Growing.{unless_refused, takes_child, is_open, may_stand, with_one, with_all}
use Rattle.dm_start.specs.Growing.{may_be_permanent}
use Rattle.dm_fields.proofs.Told.{allowed, same_ok}

-- ---- a node that comes in, permanent or not

record MayStand (m : Nodes) (p : Path) (new : Node) : Type 0 where
  node : IsNode new
  free : get m p ≡ None
  parent : Node
  parent_there : get m (above p) ≡ Some parent
  child : IsChildOf new parent
  path : IsPath p
  within : is_within_limits p ≡ true
  room : len m ≤ 65535

module _ (m : Nodes) (formed : IsWellFormed m) (p : Path) (new : Node) (may : MayStand m p new) where
  still_there : (q : Path) (x : Node) → get m q ≡ Some x → get (insert m p new) q ≡ Some x
  still_there q x e = elim (still_insert m p q new x e) [
    | inl h ↦ absurd (let some : get m p ≡ Some x = ap (get m) (sym h.0) ∙ e in let free = may.free in cc)
    | inr h ↦ h
  ]

  stood_formed : IsWellFormed (insert m p new)
  stood_formed = record {
    root = let top = formed.root in (top.0, still_there [] top.0 top.1, top.2);
    parents = λ q name child e. elim (at_insert m p (q ++ name ∷ []) new child e) [
      | inl h ↦
          let here : above p ≡ q = ap above (sym h.0) ∙ above-append q name in (
            may.parent,
            still_there q may.parent (ap (get m) (sym here) ∙ may.parent_there),
            subst (λ c. IsChildOf c may.parent) h.1 may.child,
          )
      | inr h ↦ let up = formed.parents q name child h in (up.0, still_there q up.0 up.1, up.2)
    ];
    each = λ q node e. elim (at_insert m p q new node e) [
      | inl h ↦ subst IsNode h.1 may.node
      | inr h ↦ formed.each q node h
    ];
    paths = λ q node e. elim (at_insert m p q new node e) [
      | inl h ↦ subst (λ r. IsPath r × (is_within_limits r ≡ true)) (sym h.0) (may.path, may.within)
      | inr h ↦ formed.paths q node h
    ];
    few = omega (
      arith,
      may.room,
      len-insert tree_total m p new,
      ap (λ o. cond (is_some o) (len m) (len m + 1)) may.free,
    );
  }

-- ---- the tests before it

none_of : (o : Option Node) → not (is_some o) ≡ true → o ≡ None
none_of None h = refl
none_of (Some x) h = absurd (cc)

turned : (b : Bool) → not b ≡ true → b ≡ false
turned false h = refl
turned true h = absurd (cc)

room : (n : ℕ) → n ≤ 65536 → (n == 65536) ≡ false → n ≤ 65535
room n h other = grind (arith, nat_tests)

marked_too : (a b : Bool) → (a || not b) ≡ true → b ≡ true → a ≡ true
marked_too true b h e = refl
marked_too false true h e = absurd (cc)
marked_too false false h e = absurd (cc)

record Takes (o : Option Node) (permanent : Bool) : Type 0 where
  parent : Node
  there : o ≡ Some parent
  interior : parent.interior ≡ true
  marked : permanent ≡ true → parent.permanent ≡ true

takes : (o : Option Node) (permanent : Bool) → option_map_or (takes_child permanent) o false ≡ true → Takes o permanent
takes None permanent h = absurd (cc)
takes (Some x) permanent h =
    let both = and_parts x.interior (x.permanent || not permanent) h in record {
      parent = x;
      there = refl;
      interior = both.0;
      marked = λ e. marked_too x.permanent permanent both.1 e;
    }

-- ---- new nodes, one after another

-- each may be made, and its path has names of their form
abbrev pub AreGood : List (Path × NewNode) → Type 0
AreGood [] = ⊤
AreGood (e ∷ es) = IsNewNode e.1 × (list_all has_name_form e.0 ≡ true) × AreGood es

module _ (clock : Stamp) (stamp : IsStamp clock) where
  pub one_formed : (m n : Nodes) (p : Path) (new : NewNode) → IsNewNode new → list_all has_name_form p ≡ true
      → IsWellFormed m → with_one clock m p new ≡ Ok n → IsWellFormed n
  one_formed m n p new good form formed e =
      let may = allowed (may_stand m p new.permanent) (Ok (insert m p (made clock new))) reason.Tree n e in
      let stands = and_parts (is_open m p new.permanent && is_within_limits p) (not (len m == 65536)) may.0 in
      let opens = and_parts (is_open m p new.permanent) (is_within_limits p) stands.0 in
      let both =
      and_parts (not (is_some (get m p)))
      (option_map_or (takes_child new.permanent) (get m (above p)) false) opens.0 in
      let up = takes (get m (above p)) new.permanent both.1 in
      subst IsWellFormed (same_ok _ n may.1) (stood_formed m formed p (made clock new) (record {
        node = held_made clock new stamp good;
        free = none_of (get m p) both.0;
        parent = up.parent;
        parent_there = up.there;
        child = record { interior = up.interior; permanent = up.marked };
        path = path_of_limits p form opens.1;
        within = opens.1;
        room = room (len m) formed.few (turned (len m == 65536) stands.1);
      }))

  first_formed : (e : Path × NewNode) (es : List (Path × NewNode)) (m n : Nodes) (r : Result Nodes LineReason)
      → AreGood (e ∷ es) → IsWellFormed m → with_one clock m e.0 e.1 ≡ r → unless_refused r (λ k. with_all clock k es) ≡ Ok n
      → ((k : Nodes) → IsWellFormed k → with_all clock k es ≡ Ok n → IsWellFormed n) → IsWellFormed n
  first_formed e es m n (Err why) good formed is h rest = absurd (cc)
  first_formed e es m n (Ok k) good formed is h rest =
      rest k (one_formed m k e.0 e.1 good.0 good.1 formed is) h

  pub all_formed : (es : List (Path × NewNode)) (m n : Nodes) → AreGood es → IsWellFormed m
      → with_all clock m es ≡ Ok n → IsWellFormed n
  all_formed [] m n good formed e = subst IsWellFormed (same_ok m n e) formed
  all_formed (e ∷ es) m n good formed h =
      first_formed e es m n (with_one clock m e.0 e.1) good formed refl h
      (λ k k_formed rest. all_formed es k n good.2 k_formed rest)

-- ---- a node that is marked as permanent

module _ (m : Nodes) (formed : IsWellFormed m) (p : Path) (old : Node) (there : get m p ≡ Some old)
    (below : (parent : Node) → get m (above p) ≡ Some parent → parent.permanent ≡ true) where
  abbrev new : Node
  new = with_mark old

  still_parent : (q : Path) (child parent : Node) → get m q ≡ Some parent → IsChildOf child parent
      → (up : Node) × (get (insert m p new) q ≡ Some up) × IsChildOf child up
  still_parent q child parent e is = elim (still_insert m p q new parent e) [
    | inl h ↦
        let same : parent ≡ old = some_node parent old (sym e ∙ ap (get m) h.0 ∙ there) in (
          new,
          ap (get (insert m p new)) h.0 ∙ h.1,
          record { interior = ap (λ (n : Node). n.interior) (sym same) ∙ is.interior; permanent = λ _. refl },
        )
    | inr h ↦ (parent, h, is)
  ]

  held_marked : IsNode new
  held_marked =
      let held = formed.each p old there in
      record { value = held.value; acl = held.acl; title = held.title; verno = held.verno; stamp = held.stamp }

  pub marked_formed : IsWellFormed (insert m p new)
  marked_formed = record {
    root =
        let top = formed.root in
        elim (still_insert m p [] new top.0 top.1) [
          | inl h ↦
              let is = subst IsRoot (some_node top.0 old (sym top.1 ∙ ap (get m) h.0 ∙ there)) top.2 in (
                new,
                ap (get (insert m p new)) h.0 ∙ h.1,
                record {
                  interior = is.interior;
                  permanent = refl;
                  acl = is.acl;
                  media = is.media;
                  role = is.role;
                },
              )
          | inr h ↦ (top.0, h, top.2)
        ];
    parents = λ q name child e. elim (at_insert m p (q ++ name ∷ []) new child e) [
      | inl h ↦
          let up = formed.parents q name old (ap (get m) h.0 ∙ there) in
          let here : above p ≡ q = ap above (sym h.0) ∙ above-append q name in
          still_parent q child up.0 up.1 (subst (λ c. IsChildOf c up.0) h.1 (record {
            interior = up.2.interior;
            permanent = λ _. below up.0 (ap (get m) here ∙ up.1);
          }))
      | inr h ↦ let up = formed.parents q name child h in still_parent q child up.0 up.1 up.2
    ];
    each = λ q node e. elim (at_insert m p q new node e) [
      | inl h ↦ subst IsNode h.1 held_marked
      | inr h ↦ formed.each q node h
    ];
    paths = λ q node e. elim (at_insert m p q new node e) [
      | inl h ↦ formed.paths q old (ap (get m) h.0 ∙ there)
      | inr h ↦ formed.paths q node h
    ];
    few = omega (
      arith,
      formed.few,
      len-insert tree_total m p new,
      ap (λ o. cond (is_some o) (len m) (len m + 1)) there,
    );
  }

may_below : (o : Option Node) → option_map_or (λ (node : Node). node.permanent) o false ≡ true → (parent : Node)
    → o ≡ Some parent → parent.permanent ≡ true
may_below None h parent e = absurd (cc)
may_below (Some x) h parent e = ap (λ (n : Node). n.permanent) (sym (some_node x parent e)) ∙ h

pub may_be_marked : (m : Nodes) (p : Path) → may_be_permanent m p ≡ true → (parent : Node)
    → get m (above p) ≡ Some parent → parent.permanent ≡ true
may_be_marked m p h parent e =
    may_below (get m (above p))
    (and_parts (not (length p == 0)) (option_map_or (λ (node : Node). node.permanent) (get m (above p)) false) h).1
    parent e
