-- The first child, the next sibling and the next node are the first of the keys that pass.
use Rattle.std.proofs.Common.{◌==◌, ◌&&◌, not, find, IfSome, option_and_then, is_lt, Ordering, Less, Equal, Greater}
use Rattle.std.proofs.Common.{take_all}
use Rattle.std.specs.Option.{option_or}
use Rattle.std.specs.Ordering.{ordering_then}
use Rattle.std.specs.Cmp.{both_ways}
use Rattle.std.proofs.lemmas.Bool.{not-true}
use Rattle.dm_tree.specs.Walks.{comes_after, next_on_walk}
use Rattle.dm_tree.proofs.Common.{◌≡◌, ℕ, zero, suc, ◌+◌, ◌<◌, Bool, true, false, nat_eq, List, [], ◌∷◌, ◌++◌, length}
use Rattle.dm_tree.proofs.Common.{drop, Option, None, Some, refl, sym, ◌∙◌, ap, ◌⊎◌, inl, inr, arith, length-append}
use Rattle.dm_tree.proofs.Common.{append_assoc, append-nil, take, get, keys, and_from, and_parts, cases_Bool}
use Rattle.dm_tree.proofs.Common.{false_from_ne_true, true_from_ne_false, nat_tests, Node, Row, Path, tree_order, above}
use Rattle.dm_tree.proofs.Common.{is_below, is_child_of, is_before, first_child, next_sibling, next_below, row_at}
use Rattle.dm_tree.proofs.Common.{node_of, ids, nodes, IsShaped, IsLive, path_of, is_later_child, least_child}
use Rattle.dm_tree.proofs.Common.{next_past}
use Rattle.dm_tree.proofs.Paths.{below_last, below_longer, equal_below}
use Rattle.dm_tree.proofs.RowPaths.{child_below, attached_row, one_row, not_zero, same_number, at_bottom}
use Rattle.dm_tree.proofs.RowPaths as climbs
use Rattle.dm_tree.proofs.RowMaps.{id_of, row_there}
use Rattle.dm_tree.proofs.LiveRows.{has_parent, above-append, root_path, root_path_of, live_at, node_there}
use Rattle.dm_tree.proofs.PathOrder.{name_order, name_exact, rest_below, below_append, below_below, fork, before_longer}
use Rattle.dm_tree.proofs.PathOrder.{before_before, not_before_itself, not_back, behind_all, not_below_shorter}
use Rattle.dm_tree.proofs.FirstKeys.{first_key, no_key, same_key, key_passes}
use Rattle.dm_tree.proofs.LeastChild.{IsLeastChild, least-is}

-- ---- tests of paths

pub three_parts : (a b c : Bool) → a && b && c ≡ true → (a ≡ true) × (b ≡ true) × (c ≡ true)
three_parts true true true h = (refl, refl, refl)
three_parts a b c h = absurd (cc)

-- the first name that differs decides, where one path has no more behind it
last_decides : (o : Ordering) (xs : Path) → is_lt (ordering_then o (tree_order xs [])) ≡ is_lt o
last_decides Equal [] = refl
last_decides Equal (n ∷ ns) = refl
last_decides o xs = refl

fork_before : (a : Path) (x y : List ℕ) (xs : Path) → is_before (a ++ x ∷ xs) (a ++ y ∷ []) ≡ is_lt (name_order x y)
fork_before a x y xs = ap is_lt (fork a x y xs []) ∙ last_decides (name_order x y) xs

-- what is behind a name and doesn't go through it goes through a later name
fork_behind : (a : Path) (x y : List ℕ) (ys : Path) → is_before (a ++ x ∷ []) (a ++ y ∷ ys) ≡ true
    → is_below (a ++ x ∷ []) (a ++ y ∷ ys) ≡ false → is_lt (name_order x y) ≡ true
fork_behind a x y ys h f = by_order (name_order x y) refl (sym (ap is_lt (fork a x y [] ys)) ∙ h)
  where
    by_order : (o : Ordering) → name_order x y ≡ o → is_lt (ordering_then o (tree_order [] ys)) ≡ true
        → is_lt (name_order x y) ≡ true
    by_order Less e g = ap is_lt e
    by_order Equal e g =
        let whole : (a ++ x ∷ []) ++ ys ≡ a ++ y ∷ ys =
        append_assoc a (x ∷ []) ys ∙ ap (λ n. a ++ n ∷ ys) (name_exact x y e) in
        let through = below_append (a ++ x ∷ []) ys in
        absurd (cc)
    by_order Greater e g = absurd (cc)

pub child_passes : (a : Path) (m : List ℕ) → is_child_of a (a ++ m ∷ []) ≡ true
child_passes a m = let long : length (a ++ m ∷ []) ≡ length a + 1 = length-append a (m ∷ []) in
    and_from _ _ (grind (arith, nat_tests, long)) (below_append a (m ∷ []))

pub child_path : (a q : Path) → is_child_of a q ≡ true → (m : List ℕ) × (q ≡ a ++ m ∷ [])
child_path a q h =
    let both = and_parts (length q == length a + 1) (is_below a q) h in
    let long : length q ≡ length a + 1 = grind (arith, nat_tests, both.0) in
    let e = rest_below a q both.1 in
    single (drop (length a) q) e (omega (arith, long, ap length e, length-append a (drop (length a) q)))
  where
    single : (r : Path) → q ≡ a ++ r → length r ≡ 1 → (m : List ℕ) × (q ≡ a ++ m ∷ [])
    single (m ∷ []) e l = (m, e)
    single r e l = absurd (omega (arith, l))

-- what is behind p and below it goes on with a name
on_below : (p r : Path) → is_below p r ≡ true → is_before p r ≡ true → (m : List ℕ) × (ms : Path) × (r ≡ p ++ m ∷ ms)
on_below p r b h = by_rest (drop (length p) r) (rest_below p r b)
  where
    by_rest : (s : Path) → r ≡ p ++ s → (m : List ℕ) × (ms : Path) × (r ≡ p ++ m ∷ ms)
    by_rest [] e = let same = append-nil p in let no_more = not_before_itself p in absurd (cc)
    by_rest (m ∷ ms) e = (m, ms, e)

pub some_length : (a : Path) (n : List ℕ) → not (length (a ++ n ∷ []) == 0) ≡ true
some_length a n = let long = length-append a (n ∷ []) in grind (arith, nat_tests, long)

-- the tests of `next_sibling` and `next_below`
abbrev is_sibling : Path → Path → Bool
is_sibling p q = not (length p == 0) && is_child_of (above p) q && is_before p q

abbrev pub is_next : Path → Path → Bool → Path → Bool
is_next t p past q = is_below t q && is_before p q && not (past && is_below p q)

pub next_parts : (t p : Path) (past : Bool) (q : Path) → is_next t p past q ≡ true
    → (is_below t q ≡ true) × (is_before p q ≡ true) × ((past && is_below p q) ≡ false)
next_parts t p past q h =
    let s = three_parts (is_below t q) (is_before p q) (not (past && is_below p q)) h in
    (s.0, s.1, not-true (past && is_below p q) s.2)

-- the root has no sibling
pub root_next : (rows : List Row) (k : ℕ) → k ≡ 0 → next_sibling (nodes rows) (path_of rows k) ≡ None
root_next rows k z = rw (z, root_path_of rows) (no_key (nodes rows) (is_sibling []) (λ q x e. refl))

-- ---- what the search shows

-- a row and its path, or neither
abbrev pub Shows : List Row → Option ℕ → Option Path → Type 0
Shows rows None s = s ≡ None
Shows rows (Some c) s = IsLive rows c × (s ≡ Some (path_of rows c))

pub shown_ids : (rows : List Row) → IsShaped rows → (o : Option ℕ) (s : Option Path) → Shows rows o s
    → o ≡ option_and_then (get (ids rows)) s
shown_ids rows shape None s h = ap (option_and_then (get (ids rows))) (sym h)
shown_ids rows shape (Some c) s h = rw h.1 (sym (id_of rows shape c (path_of rows c) h.0))

pub shown_live : (rows : List Row) (o : Option ℕ) (s : Option Path) → Shows rows o s
    → IfSome o (λ c. IsLive rows c × (s ≡ Some (path_of rows c)))
shown_live rows None s h = tt
shown_live rows (Some c) s h = h

shown_alone : (rows : List Row) (o : Option ℕ) (s : Option Path) → Shows rows (option_or o None) s → Shows rows o s
shown_alone rows None s h = h
shown_alone rows (Some c) s h = h

-- ---- the search among what stands right below a row

-- a path that goes on from a with a name behind `after`
abbrev GoesOn : List Row → Option ℕ → Path → Path → Type 0
GoesOn rows after a q = (m : List ℕ) × (ms : Path) × (q ≡ a ++ m ∷ ms) × (comes_after rows after m ≡ true)

-- what passes the test goes on like that, or passes the one for what lies beyond: behind a, and not below it
record Seeks (rows : List Row) (after : Option ℕ) (a : Path) (test beyond : Path → Bool) : Type 0 where
  passes : (m : List ℕ) → comes_after rows after m ≡ true → test (a ++ m ∷ []) ≡ true
  parts : (q : Path) → test q ≡ true → GoesOn rows after a q ⊎ (beyond q ≡ true)
  far : (q : Path) → beyond q ≡ true → (test q ≡ true) × (is_before a q ≡ true) × (is_below a q ≡ false)

module _ (rows : List Row) where
  first_seeks : (a : Path) → Seeks rows None a (is_child_of a) (λ _. false)
  first_seeks a = record {
    passes = λ m _. child_passes a m;
    parts = λ q is. let m = child_path a q is in inl (m.0, [], m.1, refl);
    far = λ q e. absurd (cc);
  }

  sibling_seeks : (a : Path) (k : ℕ) → Seeks rows (Some k) a (is_sibling (a ++ (row_at rows k).name ∷ [])) (λ _. false)
  sibling_seeks a k = record {
    passes = λ m late. rw (some_length a n, above-append a n, child_passes a m, fork_before a n m []) late;
    parts = λ q is.
        let s =
        three_parts (not (length (a ++ n ∷ []) == 0)) (is_child_of (above (a ++ n ∷ [])) q) (is_before (a ++ n ∷ []) q)
        is in
        let m = child_path a q (rw above-append at s.1) in
        inl (m.0, [], m.1, sym (fork_before a n m.0 []) ∙ ap (is_before (a ++ n ∷ [])) (sym m.1) ∙ s.2);
    far = λ q e. absurd (cc);
  }
    where
      n : List ℕ
      n = (row_at rows k).name

  -- from a itself, and from a name below it
  below_seeks : (t a : Path) → is_below t a ≡ true → Seeks rows None a (is_next t a false) (is_next t a true)
  below_seeks t a tb = record {
    passes = λ m _. rw (below_longer t a m tb, before_longer a m []) refl;
    parts = λ q is. let s = next_parts t a false q is in elim (cases_Bool (is_below a q)) [
      | inl through ↦ let on = on_below a q through s.1 in inl (on.0, on.1, on.2, refl)
      | inr apart ↦ inr (rw (s.0, s.1, apart) refl)
    ];
    far = λ q is. let s = next_parts t a true q is in (rw (s.0, s.1) refl, s.1, s.2);
  }

  past_seeks : (t a : Path) (k : ℕ) → is_below t a ≡ true
      → Seeks rows (Some k) a (is_next t (a ++ (row_at rows k).name ∷ []) true) (is_next t a true)
  past_seeks t a k tb = record {
    passes = λ m late. rw (below_longer t a m tb, fork_before a n m [], late, beside m late) refl;
    parts = λ q is.
        let s = next_parts t p true q is in
        let behind = before_before a p q (before_longer a n []) s.1 in
        elim (cases_Bool (is_below a q)) [
          | inl through ↦
              let on = on_below a q through behind in
              let late = fork_behind a n on.0 on.1 (rw on.2 at s.1) (rw on.2 at s.2) in
              inl (on.0, on.1, on.2, late)
          | inr apart ↦ inr (rw (s.0, behind, apart) refl)
        ];
    far = λ q is.
        let s = next_parts t a true q is in
        let apart = s.2 in
        let none = false_from_ne_true (is_below p q) (λ through.
        let yes = below_below a p q (below_append a (n ∷ [])) through in cc) in
        (rw (s.0, behind_all a q (n ∷ []) s.1 apart, none) refl, s.1, apart);
  }
    where
      n : List ℕ
      n = (row_at rows k).name

      p : Path
      p = a ++ n ∷ []

      beside : (m : List ℕ) → is_lt (name_order n m) ≡ true → is_below p (a ++ m ∷ []) ≡ false
      beside m late = false_from_ne_true _ (λ is.
          let same = below_last p a m is (not_below_shorter a n) in
          let first = fork_before a n m [] in let no_more = not_before_itself p in cc)

module _ (rows : List Row) (shape : IsShaped rows) where
  -- a node that goes on like that has a child of u above it, or is one
  child_through : (u : ℕ) → IsLive rows u → (after : Option ℕ) (q : Path) (x : Node) → get (nodes rows) q ≡ Some x
      → (on : GoesOn rows after (path_of rows u) q)
      → (r : ℕ) × (r < length rows) × (is_later_child rows u after (row_at rows r) ≡ true)
      × ((row_at rows r).name ≡ on.0)
  child_through u live after q x there on =
      let s = row_there rows q x there in
      let up = climbs.above rows shape _ s.row (path_of rows u) on.0 on.1 refl (s.lies ∙ ap (λ p. Some p) on.2) in
      let parent = one_row rows shape _ _ 0 (row_at rows up.row).parent u (path_of rows u) up.parent_there live in (
        up.row,
        (attached_row rows shape up.row up.attached).1,
        rw (up.attached, parent, up.named, on.3) (and_from (nat_eq u u) true (grind (arith, nat_tests)) refl),
        up.named,
      )

  -- the first that passes is the least child behind `after`, or what lies beyond
  seek : (u : ℕ) → IsLive rows u → (after : Option ℕ) (test beyond : Path → Bool)
      → Seeks rows after (path_of rows u) test beyond → (more : Option ℕ)
      → Shows rows more (find beyond (keys (nodes rows)))
      → Shows rows (option_or (least_child rows u after (length rows)) more) (find test (keys (nodes rows)))
  seek u live after test beyond seeks more m = by_least _ (least-is rows u after (length rows))
    where
      by_least : (o : Option ℕ) → IsLeastChild rows u after (length rows) o
          → Shows rows (option_or o more) (find test (keys (nodes rows)))
      by_least None h =
          rw (same_key (nodes rows) test beyond (λ q x there. both_ways _ _ (λ is. elim (seeks.parts q is) [
            | inl on ↦ absurd (let c = child_through u live after q x there on in
                let no_child = h c.0 c.1 in let is_child = c.2 in cc)
            | inr far ↦ far
          ]) (λ far. (seeks.far q far).0))) m
      by_least (Some c) h =
          let joined = and_parts _ _ h.child in
          let below = and_parts _ _ joined.1 in
          let n = (row_at rows c).name in
          let at = live_at rows c _ (child_below rows shape u c (path_of rows u) n live
          (record { attached = joined.0; parent = same_number _ _ below.0; named = refl })) in (
            at.0,
            first_key (nodes rows) test (path_of rows c) (record {
              value = node_of rows c;
              there = node_there rows shape c at.0;
              passes = ap test at.1 ∙ seeks.passes n below.1;
              least = λ q x there is. ap (is_before q) at.1 ∙ elim (seeks.parts q is) [
                | inl on ↦
                    let r = child_through u live after q x there on in
                    ap (λ p. is_before p (path_of rows u ++ n ∷ [])) on.2 ∙ fork_before (path_of rows u) on.0 n on.1
                    ∙ ap (λ k. is_lt (name_order k n)) (sym r.3) ∙ h.least r.0 r.1 r.2
                | inr far ↦
                    let beyond = seeks.far q far in
                    not_back _ q (behind_all (path_of rows u) q (n ∷ []) beyond.1 beyond.2)
              ];
            }),
          )

  -- ---- the first child, and the next sibling

  least_shows : (u : ℕ) → IsLive rows u → (after : Option ℕ) (test : Path → Bool)
      → Seeks rows after (path_of rows u) test (λ _. false)
      → Shows rows (least_child rows u after (length rows)) (find test (keys (nodes rows)))
  least_shows u live after test seeks =
      shown_alone rows _ _ (seek u live after test (λ _. false) seeks None (no_key (nodes rows) _ (λ q x e. refl)))

  pub first-is : (u : ℕ) → IsLive rows u
      → Shows rows (least_child rows u None (length rows)) (first_child (nodes rows) (path_of rows u))
  first-is u live = least_shows u live None _ (first_seeks rows (path_of rows u))

  pub next-is : (k : ℕ) → IsLive rows k → nat_eq k 0 ≡ false
      → Shows rows (least_child rows (row_at rows k).parent (Some k) (length rows))
      (next_sibling (nodes rows) (path_of rows k))
  next-is k live other =
      let up = has_parent rows shape k live other in
      rw up.path (least_shows (row_at rows k).parent up.live (Some k) _ (sibling_seeks rows _ k))

  -- ---- the next node

  past_top : (t p : Path) → p ≡ t → next_below (nodes rows) t p true ≡ None
  past_top t p same = no_key (nodes rows) (is_next t p true) (λ q x e. false_from_ne_true _ (λ is.
      let s = next_parts t p true q is in let below = s.0 in let apart = s.2 in cc))

  -- behind all that stand below
  past-is : (top : ℕ) → IsLive rows top → (d k : ℕ) → IsLive rows k → (row_at rows k).depth ≡ d
      → is_below (path_of rows top) (path_of rows k) ≡ true
      → Shows rows (next_past rows top d k) (next_below (nodes rows) (path_of rows top) (path_of rows k) true)
  past-is top tl zero k live deep b =
      let none = root_path rows shape k (at_bottom rows 0 k _ (rw deep at live)) in
      let at_top : take (length (path_of rows top)) [] ≡ path_of rows top =
      equal_below (path_of rows top) [] (rw none at b) in
      past_top _ _ (none ∙ sym (take_all (length (path_of rows top)) [] (omega arith)) ∙ at_top)
  past-is top tl (suc d) k live deep b = elim (cases_Bool (nat_eq k top)) [
    | inl is ↦ rw is (past_top _ _ (ap (path_of rows) (same_number k top is)))
    | inr other ↦
        let up = has_parent rows shape k live
        (not_zero k (λ z. omega (arith, deep, ap (λ j. (row_at rows j).depth) z, shape.at_root))) in
        let through = top_above other _ up.path in
        rw (other, up.path) (seek (row_at rows k).parent up.live (Some k) _ _
        (past_seeks rows (path_of rows top) (path_of rows (row_at rows k).parent) k through) _
        (past-is top tl d (row_at rows k).parent up.live (omega (arith, up.deep, deep)) through))
  ]
    where
      top_above : nat_eq k top ≡ false → (a : Path) → path_of rows k ≡ a ++ (row_at rows k).name ∷ []
          → is_below (path_of rows top) a ≡ true
      top_above other a path = true_from_ne_false _ (λ no_more.
          let same = below_last (path_of rows top) a (row_at rows k).name (rw path at b) no_more in
          let one = one_row rows shape _ _ 0 k top (path_of rows top) (live ∙ ap (λ p. Some p) (path ∙ sym same)) tl in
          let yes : nat_eq k top ≡ true = grind (arith, nat_tests, one) in cc)

  pub shows_next : (top k : ℕ) → IsLive rows top → IsLive rows k → is_below (path_of rows top) (path_of rows k) ≡ true
      → (past : Bool)
      → Shows rows (next_on_walk rows top k past) (next_below (nodes rows) (path_of rows top) (path_of rows k) past)
  shows_next top k tl kl b true = past-is top tl (row_at rows k).depth k kl refl b
  shows_next top k tl kl b false =
      seek k kl None _ _ (below_seeks rows (path_of rows top) (path_of rows k) b) _
      (past-is top tl (row_at rows k).depth k kl refl b)

-- the next node stands below the top too
pub shown_within : (rows : List Row) (t p : Path) (past : Bool) (o : Option ℕ)
    → Shows rows o (next_below (nodes rows) t p past) → IfSome o (λ c. is_below t (path_of rows c) ≡ true)
shown_within rows t p past None h = tt
shown_within rows t p past (Some c) h =
    (next_parts t p past _ (key_passes (nodes rows) (is_next t p past) (path_of rows c) h.1)).0
