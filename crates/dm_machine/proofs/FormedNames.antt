-- A tree in which a node bears another name is well-formed.
use Rattle.std.proofs.Common.{◌≡◌, ◌≤◌, ◌+◌, ℕ, Bool, true, false, cond, List, [], ◌∷◌, ◌++◌, length, drop, None, Some}
use Rattle.std.proofs.Common.{refl, sym, ◌∙◌, ap, subst, arith, inl, inr, length-append}
use Rattle.std.specs.Prelude.{is_some, nat_le, ◌⊎◌, ◌&&◌}
use Rattle.std.specs.List.{list_all}
use Rattle.std.specs.Ordering.{eq_by_cmp}
use Rattle.std.specs.FinMap.{get, insert, len, entries, len-insert, len-entries}
use Rattle.std.proofs.lemmas.Bool.{and_from, and_parts}
use Rattle.std.proofs.lemmas.List.{length-map}
use Rattle.std.proofs.lemmas.List.Folds.{list_all-append}
use Rattle.dm_uri.specs.Names.{is_name, printed_path, is_within_limits, IsPath}
use Rattle.dm_uri.proofs.Limits.{limits_of_path}
use Rattle.dm_tree.specs.declared.nodes.Node.{Node}
use Rattle.dm_tree.specs.Nodes.{Path, Nodes, tree_order, above, is_below, IsNode, IsChildOf, IsWellFormed}
use Rattle.dm_tree.specs.Edits.{rekeyed, renamed, paths_fit}
use Rattle.dm_tree.proofs.Paths.{Ends, ends, none, last, same_path, other_path, same_ends, not_empty, below_none}
use Rattle.dm_tree.proofs.Paths.{tree_total}
use Rattle.dm_tree.proofs.MapKeys.{moved, moved_from, moved_to, keys_all}
use Rattle.dm_tree.proofs.LiveRows.{above-append}
use Rattle.dm_tree.proofs.PathOrder.{rest_below, below_append, not_below_shorter}
use Rattle.dm_tree.proofs.RenamedRows.{rekeyed-apart, rekeyed-below, rekeyed-itself, rekeyed-longer}
use Rattle.dm_tree.proofs.NodesKept.{some_node, at_insert, still_insert, top_there}
use Rattle.dm_machine.proofs.FormedTrees.{no_root, made_of}

-- ---- paths

pub append_same : (t a b : Path) → t ++ a ≡ t ++ b → a ≡ b
append_same [] a b e = e
append_same (n ∷ t) a b e = append_same t a b (cc)

append_none : (t a : Path) → t ++ a ≡ t → a ≡ []
append_none [] a e = e
append_none (n ∷ t) a e = append_none t a (cc)

at_most : (m n : ℕ) → nat_le m n ≡ true → m ≤ n
at_most m n e = grind arith

-- a name goes in for the last one
name_in : (p : Path) → (p ≡ [] → ⊥) → (name : List ℕ) (s : Path) → is_name name ≡ true
    → list_all is_name (p ++ s) ≡ true
    → (list_all is_name ((above p ++ name ∷ []) ++ s) ≡ true) × (length ((above p ++ name ∷ []) ++ s) ≡ length (p ++ s))
name_in p some name s named all = by_end p (ends p) some all
  where
    by_end : (q : Path) → Ends q → (q ≡ [] → ⊥) → list_all is_name (q ++ s) ≡ true
        → (list_all is_name ((above q ++ name ∷ []) ++ s) ≡ true)
        × (length ((above q ++ name ∷ []) ++ s) ≡ length (q ++ s))
    by_end [] none nothing h = absurd (nothing refl)
    by_end q (last front n) other h =
        let whole = and_parts (list_all is_name (front ++ n ∷ [])) (list_all is_name s)
        (sym (list_all-append is_name (front ++ n ∷ []) s) ∙ h) in
        let begun = and_parts (list_all is_name front) (is_name n && true)
        (sym (list_all-append is_name front (n ∷ [])) ∙ whole.0) in
        let here : (above (front ++ n ∷ []) ++ name ∷ []) ++ s ≡ (front ++ name ∷ []) ++ s =
        ap (λ r. (r ++ name ∷ []) ++ s) (above-append front n) in (
          ap (list_all is_name) here ∙ list_all-append is_name (front ++ name ∷ []) s
              ∙ and_from (list_all is_name (front ++ name ∷ [])) (list_all is_name s)
              (list_all-append is_name front (name ∷ []) ∙ and_from (list_all is_name front)
              (is_name name && true) begun.0 (and_from (is_name name) true named refl)) whole.1,
          omega (
            arith,
            ap length here,
            length-append (front ++ name ∷ []) s,
            length-append front (name ∷ []),
            length-append (front ++ n ∷ []) s,
            length-append front (n ∷ []),
          ),
        )

-- ---- the whole map

-- what a name asks for
pub record MayBear (m : Nodes) (p : Path) (name : List ℕ) (old new : Node) : Type 0 where
  pub there : get m p ≡ Some old
  pub removable : old.permanent ≡ false
  pub free : (get m (above p ++ name ∷ []) ≡ None) ⊎ (above p ++ name ∷ [] ≡ p)
  pub fits : paths_fit m p name ≡ true
  pub named : is_name name ≡ true
  pub node : IsNode new
  pub interior : new.interior ≡ old.interior
  pub permanent : new.permanent ≡ old.permanent

module _ (m : Nodes) (formed : IsWellFormed m) (p : Path) (name : List ℕ) (old new : Node)
    (may : MayBear m p name old new) where
  abbrev t : Path
  t = above p ++ name ∷ []

  not_root : p ≡ [] → ⊥
  not_root = no_root m formed p old may.there may.removable

  -- a node below p lies elsewhere than one that isn't
  other_place : (a : Path) (q : Path) (x : Node) → get m q ≡ Some x → is_below p a ≡ true → is_below p q ≡ false
      → t ++ drop (length p) a ≡ q → ⊥
  other_place a q x e is apart same = elim may.free [
    | inl empty ↦
        let top = top_there m formed t (length (drop (length p) a)) (drop (length p) a) refl x (ap (get m) same ∙ e) in
        let some = top.1 in
        cc
    | inr back ↦
        let yes : is_below p q ≡ true = ap (is_below p) (sym same ∙ ap (λ r. r ++ drop (length p) a) back)
        ∙ below_append p (drop (length p) a) in
        cc
  ]

  -- no two nodes come to one place
  alone : (q : Path) (x : Node) → get m q ≡ Some x → (a : Path) (y : Node) → get m a ≡ Some y
      → rekeyed p name a ≡ rekeyed p name q → a ≡ q
  alone q x e a y f same = by_tests (is_below p a) (is_below p q) refl refl
    where
      by_tests : (b c : Bool) → is_below p a ≡ b → is_below p q ≡ c → a ≡ q
      by_tests true true is here =
          let rests = append_same t (drop (length p) a) (drop (length p) q)
          (sym (rekeyed-below p name a not_root is) ∙ same ∙ rekeyed-below p name q not_root here) in
          rest_below p a is ∙ ap (λ r. p ++ r) rests ∙ sym (rest_below p q here)
      by_tests true false is here =
          absurd (other_place a q x e is here
          (sym (rekeyed-below p name a not_root is) ∙ same ∙ rekeyed-apart p name q here))
      by_tests false true is here =
          absurd (other_place q a y f here is
          (sym (rekeyed-below p name q not_root here) ∙ sym same ∙ rekeyed-apart p name a is))
      by_tests false false is here = sym (rekeyed-apart p name a is) ∙ same ∙ rekeyed-apart p name q here

  arrived : (q : Path) (x : Node) → get m q ≡ Some x → get (renamed m p name) (rekeyed p name q) ≡ Some x
  arrived q x e = moved_to (rekeyed p name) m q x (λ a y f same. alone q x e a y f same) e

  -- the node itself goes to the new name
  itself : rekeyed p name p ≡ t
  itself = by_end p (ends p) not_root
    where
      by_end : (q : Path) → Ends q → (q ≡ [] → ⊥) → rekeyed q name q ≡ above q ++ name ∷ []
      by_end [] none nothing = absurd (nothing refl)
      by_end q (last front n) other =
          rekeyed-itself front n name ∙ ap (λ r. r ++ name ∷ []) (sym (above-append front n))

  -- ---- parents

  abbrev now : Nodes
  now = insert (renamed m p name) t new

  -- what isn't the node is there, at its new place
  there_now : (q : Path) (x : Node) → get m q ≡ Some x → (parent : Node) × (get now (rekeyed p name q) ≡ Some parent)
      × ((child : Node) → IsChildOf child x → IsChildOf child parent)
  there_now q x e = elim (still_insert (renamed m p name) t (rekeyed p name q) new x (arrived q x e)) [
    | inl h ↦
        let here : q ≡ p = alone p old may.there q x e (h.0 ∙ sym itself) in
        let same : x ≡ old = some_node x old (sym e ∙ ap (get m) here ∙ may.there) in (
          new,
          ap (get now) h.0 ∙ h.1,
          λ child is. record {
            interior = may.interior ∙ ap (λ (n : Node). n.interior) (sym same) ∙ is.interior;
            permanent = λ mark. may.permanent ∙ ap (λ (n : Node). n.permanent) (sym same) ∙ is.permanent mark;
          },
        )
    | inr h ↦ (x, h, λ child is. is)
  ]

  -- the parent of what stood at a path
  parent_of : (k : Path) (x : Node) → get m k ≡ Some x → (q : Path) (n : List ℕ) → rekeyed p name k ≡ q ++ n ∷ []
      → (parent : Node) × (get now q ≡ Some parent) × IsChildOf x parent
  parent_of k x e q n becomes = by_end k (ends k) e becomes
    where
      by_end : (k : Path) → Ends k → get m k ≡ Some x → rekeyed p name k ≡ q ++ n ∷ []
          → (parent : Node) × (get now q ≡ Some parent) × IsChildOf x parent
      by_end [] none there is = absurd (not_empty q n (sym is ∙ rekeyed-apart p name [] (below_none p not_root)))
      by_end k (last front l) there is =
          let up = formed.parents front l x there in
          let then = there_now front up.0 up.1 in
          let place : rekeyed p name front ≡ q = by_same front l is in
          (then.0, ap (get now) (sym place) ∙ then.1, then.2 x up.2)
        where
          by_same : (front : Path) (l : List ℕ) → rekeyed p name (front ++ l ∷ []) ≡ q ++ n ∷ []
              → rekeyed p name front ≡ q
          by_same front l is = by_test (eq_by_cmp tree_order (front ++ l ∷ []) p) refl
            where
              by_test : (b : Bool) → eq_by_cmp tree_order (front ++ l ∷ []) p ≡ b → rekeyed p name front ≡ q
              by_test true same =
                  let here : front ++ l ∷ [] ≡ p = same_path (front ++ l ∷ []) p same in
                  let apart : is_below p front ≡ false = ap (λ r. is_below r front) (sym here)
                  ∙ not_below_shorter front l in
                  let top : above p ≡ front = ap above (sym here) ∙ above-append front l in
                  let ending : above p ++ name ∷ [] ≡ q ++ n ∷ [] = sym itself ∙ ap (rekeyed p name) (sym here) ∙ is in
                  rekeyed-apart p name front apart ∙ sym top ∙ (same_ends (above p) q name n ending).0
              by_test false other =
                  let longer : rekeyed p name (front ++ l ∷ []) ≡ rekeyed p name front ++ l ∷ [] =
                  rekeyed-longer p name front l (λ same. other_path (front ++ l ∷ []) p other (sym same)) in
                  (same_ends (rekeyed p name front) q l n (sym longer ∙ is)).0

  -- ---- paths

  path_then : (k : Path) (x : Node) → get m k ≡ Some x
      → IsPath (rekeyed p name k) × (is_within_limits (rekeyed p name k) ≡ true)
  path_then k x e = (path, limits_of_path (rekeyed p name k) path short)
    where
      by_test : (b : Bool) → is_below p k ≡ b → IsPath (rekeyed p name k)
      by_test true is =
          let before = (formed.paths k x e).0 in
          let below : rekeyed p name k ≡ t ++ drop (length p) k = rekeyed-below p name k not_root is in
          let both = name_in p not_root name (drop (length p) k) may.named
          (ap (list_all is_name) (sym (rest_below p k is)) ∙ before.names) in
          record {
            few = omega (arith, before.few, ap length below, both.1, ap length (rest_below p k is));
            names = ap (list_all is_name) below ∙ both.0;
          }
      by_test false apart = subst IsPath (sym (rekeyed-apart p name k apart)) (formed.paths k x e).0

      path : IsPath (rekeyed p name k)
      path = by_test (is_below p k) refl

      short : length (printed_path (rekeyed p name k)) ≤ 255
      short = at_most _ _ (keys_all m (λ q. nat_le (length (printed_path (rekeyed p name q))) 255) k x may.fits e)

  -- ---- the whole

  as_few : len now ≤ len m
  as_few =
      let there : get (renamed m p name) t ≡ Some old = ap (get (renamed m p name)) (sym itself)
      ∙ arrived p old may.there in
      omega (
        arith,
        len-insert tree_total (renamed m p name) t new,
        ap (λ o. cond (is_some o) (len (renamed m p name)) (len (renamed m p name) + 1)) there,
        made_of (moved (rekeyed p name) (entries m)),
        length-map {B = Path × Node} (entries m) (λ (e : Path × Node). (rekeyed p name e.0, e.1)),
        len-entries m,
      )

  pub renamed_formed : IsWellFormed now
  renamed_formed = record {
    root =
        let top = formed.root in
        let moved_top : get (renamed m p name) [] ≡ Some top.0 =
        ap (get (renamed m p name)) (sym (rekeyed-apart p name [] (below_none p not_root))) ∙ arrived [] top.0 top.1 in
        elim (still_insert (renamed m p name) t [] new top.0 moved_top) [
          | inl h ↦ absurd (not_empty (above p) name (sym h.0))
          | inr h ↦ (top.0, h, top.2)
        ];
    parents = λ q n child e. elim (at_insert (renamed m p name) t (q ++ n ∷ []) new child e) [
      | inl h ↦
          let up = parent_of p old may.there q n (itself ∙ sym h.0) in (
            up.0,
            up.1,
            subst (λ c. IsChildOf c up.0) h.1
                (record { interior = up.2.interior; permanent = λ mark. up.2.permanent (sym may.permanent ∙ mark) }),
          )
      | inr h ↦
          let from = moved_from (rekeyed p name) m (q ++ n ∷ []) child h in
          parent_of from.0 child from.1 q n from.2
    ];
    each = λ q x e. elim (at_insert (renamed m p name) t q new x e) [
      | inl h ↦ subst IsNode h.1 may.node
      | inr h ↦ let from = moved_from (rekeyed p name) m q x h in formed.each from.0 x from.1
    ];
    paths = λ q x e. elim (at_insert (renamed m p name) t q new x e) [
      | inl h ↦ subst (λ r. IsPath r × (is_within_limits r ≡ true)) (itself ∙ sym h.0) (path_then p old may.there)
      | inr h ↦
          let from = moved_from (rekeyed p name) m q x h in
          subst (λ r. IsPath r × (is_within_limits r ≡ true)) from.2 (path_then from.0 x from.1)
    ];
    few = omega (arith, as_few, formed.few);
  }
