-- A node bears another name: where each row lies then, and that the rows stay a tree.
use Rattle.std.specs.FinMap.{insert}
use Rattle.std.proofs.Math.ListN.{drop_of_length-le}
use Rattle.std.proofs.lemmas.List.{drop-append-le}
use Rattle.std.proofs.lemmas.Bool.{le-leb}
use Rattle.dm_uri.specs.Names.{has_name_form, is_short_name}
use Rattle.dm_tree.specs.Edits.{StayRenamed}
use Rattle.dm_tree.specs.declared.rows.Change.TheVariants as change
use Rattle.dm_tree.proofs.Common.{◌≡◌, ◌≢◌, ℕ, zero, suc, ◌<◌, ◌≤◌, true, false, nat_eq, List, [], ◌∷◌, ◌++◌, length}
use Rattle.dm_tree.proofs.Common.{drop, Option, None, Some, refl, sym, ◌∙◌, ap, arith, inl, inr, append_assoc}
use Rattle.dm_tree.proofs.Common.{append-nil, option_map, get, cases_Bool, false_from_ne_true, get_or-set_same}
use Rattle.dm_tree.proofs.Common.{get_or-set_other, length-take, Node, Row, Path, Nodes, above, is_below, blank, row_at}
use Rattle.dm_tree.proofs.Common.{node_of, walk, path_below, ids, nodes, IsShaped, IsLive, path_of, with_name, rekeyed}
use Rattle.dm_tree.proofs.Common.{renamed, ◌+◌, ◌%◌, ◌^◌, subst, ◌&&◌, nat_le, IfSome, list_all, length-set, and_from}
use Rattle.dm_tree.proofs.Common.{and_parts, is_name, printed_path, is_within_limits, Stamp, changed, IsChildOf, IsRoot}
use Rattle.dm_tree.proofs.Common.{IsStamp, placed, ids_below, IsRow, IsTree, paths_fit, flipped, turned, Change}
use Rattle.dm_tree.proofs.Paths.{not_empty, equal_below, below_longer, below_last, below_none, below_self}
use Rattle.dm_tree.proofs.PathOrder.{not_below_shorter}
use Rattle.dm_tree.proofs.MapKeys.{moved_from, moved_to, keys_all}
use Rattle.dm_tree.proofs.RowPaths.{child_below, one_row, some_path, not_zero, depth_is}
use Rattle.dm_tree.proofs.RowMaps.{id_is, id_of, some_of, ids_are, node_of_path, row_there, nodes_insert}
use Rattle.dm_tree.proofs.NodeEdits.{of_both, live_row, AreOne, each_set, shaped_by}
use Rattle.dm_tree.proofs.LiveRows.{has_parent, above-append, live_at, len-nodes, all_named}
use Rattle.dm_tree.proofs.TreeEdits.{IsKin, child_kin, kin_set, isnt_root}
use Rattle.dm_tree.proofs.FieldEdits.{held_changed}
use Rattle.dm_tree.proofs.UndoPromises.{IsEditBack, edit-back}

-- ---- paths

pub rekeyed-apart : (p : Path) (name : List ℕ) (q : Path) → is_below p q ≡ false → rekeyed p name q ≡ q
rekeyed-apart [] name q f = refl
rekeyed-apart (n ∷ ns) name q f = rw f refl

pub rekeyed-below : (p : Path) (name : List ℕ) (q : Path) → (p ≡ [] → ⊥) → is_below p q ≡ true
    → rekeyed p name q ≡ (above p ++ name ∷ []) ++ drop (length p) q
rekeyed-below [] name q some is = absurd (some refl)
rekeyed-below (n ∷ ns) name q some is = rw is refl

rekeyed-none : (p : Path) (name : List ℕ) → Some [] ≡ option_map (rekeyed p name) (Some [])
rekeyed-none [] name = refl
rekeyed-none (n ∷ ns) name =
    ap (λ q. Some q) (sym (rekeyed-apart (n ∷ ns) name [] (below_none (n ∷ ns) (λ e. absurd (cc)))))

-- the path itself
pub rekeyed-itself : (r : Path) (old name : List ℕ) → rekeyed (r ++ old ∷ []) name (r ++ old ∷ []) ≡ r ++ name ∷ []
rekeyed-itself r old name =
    let p : Path = r ++ old ∷ [] in
    let none : drop (length p) p ≡ [] = drop_of_length-le p (omega arith) in
    rekeyed-below p name p (not_empty r old) (below_self p)
    ∙ rw (above-append r old, none) (append-nil (r ++ name ∷ []))

-- one name longer, and not the path itself
pub rekeyed-longer : (p : Path) (name : List ℕ) (r : Path) (n : List ℕ) → (p ≡ r ++ n ∷ [] → ⊥)
    → rekeyed p name (r ++ n ∷ []) ≡ rekeyed p name r ++ n ∷ []
rekeyed-longer [] name r n other = refl
rekeyed-longer (m ∷ ms) name r n other = elim (cases_Bool (is_below (m ∷ ms) r)) [
  | inl is ↦
      let long : length (m ∷ ms) ≤ length r =
      omega (arith, ap length (equal_below (m ∷ ms) r is), length-take (length (m ∷ ms)) r) in
      rw (below_longer (m ∷ ms) r n is, is, drop-append-le (length (m ∷ ms)) r (n ∷ []) long)
      (sym (append_assoc (above (m ∷ ms) ++ name ∷ []) (drop (length (m ∷ ms)) r) (n ∷ [])))
  | inr is ↦ rw (false_from_ne_true _ (λ on. other (below_last (m ∷ ms) r n on is)), is) refl
]

-- ---- where each row lies

module _ (rows : List Row) (shape : IsShaped rows) (k : ℕ) (live : IsLive rows k) (name : List ℕ) (node : Node) where
  abbrev now : List Row
  now = with_name rows k name node

  -- the path of a row that lay at another
  abbrev then : Path → Path
  then = rekeyed (path_of rows k) name

  inside : k < length rows
  inside = live_row rows shape k live

  pub parent_then : (j : ℕ) → (row_at now j).parent ≡ (row_at rows j).parent
  parent_then j = of_both rows k _ (λ r. r.parent) refl j inside

  pub depth_then : (j : ℕ) → (row_at now j).depth ≡ (row_at rows j).depth
  depth_then j = of_both rows k _ (λ r. r.depth) refl j inside

  pub attached_then : (j : ℕ) → (row_at now j).attached ≡ (row_at rows j).attached
  attached_then j = of_both rows k _ (λ r. r.attached) refl j inside

  pub here_then : row_at now k ≡ record (row_at rows k) { name = name; node = node }
  here_then = get_or-set_same rows k _ blank inside

  pub other_then : (j : ℕ) → j ≢ k → row_at now j ≡ row_at rows j
  other_then j h = get_or-set_other rows k j _ blank h

  abbrev new_row : Row
  new_row = record (row_at rows k) { name = name; node = node }

  -- where no other row has the parent and the new name
  pub shaped_then : ((j : ℕ) → (row_at rows j).attached ≡ true → (row_at rows j).parent ≡ (row_at rows k).parent
      → (row_at rows j).name ≡ name → j ≡ k) → IsShaped now
  shaped_then alone = shaped_by rows now (length-set rows k _) parent_then depth_then attached_then (λ i j.
      each_set rows k new_row inside (λ s. AreOne i j s (row_at now j)) i
      (λ e. each_set rows k _ inside (AreOne i j new_row) j (λ f _ _ _ _. e ∙ sym f)
      (λ _ a b p n. e ∙ sym (alone j b (sym p) (sym n))))
      (λ _. each_set rows k _ inside (AreOne i j (row_at rows i)) j (λ f a b p n. alone i a p n ∙ sym f)
      (λ _. shape.no_twins i j))) shape

  -- one row further down
  step : (d i : ℕ) → (row_at rows i).depth ≡ suc d → (row_at rows i).attached ≡ true → (r : Path)
      → walk rows d 0 (row_at rows i).parent ≡ Some r
      → then r ++ (row_at now i).name ∷ [] ≡ then (r ++ (row_at rows i).name ∷ [])
  step d i deep at r e =
      let parents : (row_at rows (row_at rows i).parent).depth ≡ d = omega (arith, shape.falls i at, deep) in
      let parent : path_below rows 0 (row_at rows i).parent ≡ Some r = rw parents e in
      let lies : path_below rows 0 i ≡ Some (r ++ (row_at rows i).name ∷ []) =
      child_below rows shape (row_at rows i).parent i r (row_at rows i).name parent
      (record { attached = at; parent = refl; named = refl }) in
      each_set rows k new_row inside (λ s. then r ++ s.name ∷ [] ≡ then (r ++ (row_at rows i).name ∷ [])) i
      (λ h.
      let is : path_of rows k ≡ r ++ (row_at rows i).name ∷ [] =
      some_path _ _ (sym live ∙ ap (path_below rows 0) (sym h) ∙ lies) in
      rw is (ap (λ q. q ++ name ∷ []) (rekeyed-apart _ name r (not_below_shorter r (row_at rows i).name))
      ∙ sym (rekeyed-itself r (row_at rows i).name name)))
      (λ h. sym (rekeyed-longer (path_of rows k) name r (row_at rows i).name
      (λ same. h (one_row rows shape _ _ 0 i k (path_of rows k) (lies ∙ ap (λ q. Some q) (sym same)) live))))

  -- going up from each row, the path is the one with the new name
  pub walk_then : (d i : ℕ) → (row_at rows i).depth ≡ d → walk now d 0 i ≡ option_map then (walk rows d 0 i)
  walk_then zero i deep = elim (cases_Bool (nat_eq i 0)) [
    | inl is ↦ rw is (rekeyed-none (path_of rows k) name)
    | inr is ↦ rw is refl
  ]
  walk_then (suc d) i deep = elim (cases_Bool (nat_eq i 0)) [
    | inl is ↦ rw is (rekeyed-none (path_of rows k) name)
    | inr is ↦ elim (cases_Bool (row_at rows i).attached) [
      | inl at ↦
          let parent = walk_then d (row_at rows i).parent (omega (arith, shape.falls i at, deep)) in
          rw (is, at, attached_then i ∙ at, parent_then i, parent)
          (by_parent at (walk rows d 0 (row_at rows i).parent) refl)
      | inr out ↦ rw (is, out, attached_then i ∙ out) refl
    ]
  ]
    where
      by_parent : (row_at rows i).attached ≡ true → (o : Option Path) → walk rows d 0 (row_at rows i).parent ≡ o
          → option_map (λ q. q ++ (row_at now i).name ∷ []) (option_map then o)
          ≡ option_map then (option_map (λ q. q ++ (row_at rows i).name ∷ []) o)
      by_parent at None e = refl
      by_parent at (Some r) e = ap (λ q. Some q) (step d i deep at r e)

  pub path_then : (i : ℕ) → path_below now 0 i ≡ option_map then (path_below rows 0 i)
  path_then i = ap (λ d. walk now d 0 i) (depth_then i) ∙ walk_then (row_at rows i).depth i refl

  pub lies_then : (i : ℕ) (q : Path) → path_below rows 0 i ≡ Some q → path_below now 0 i ≡ Some (then q)
  lies_then i q e = path_then i ∙ ap (option_map then) e

  pub stay_renamed : StayRenamed rows now (path_of rows k) name
  stay_renamed =
      let at = λ (i : ℕ) (there : IsLive rows i). live_at now i _ (lies_then i (path_of rows i) there) in
      record { live = λ i there. (at i there).0; path = λ i there. (at i there).1 }

  -- where a row of the tree lay
  pub was : (i : ℕ) (q : Path) → path_below now 0 i ≡ Some q
      → (p : Path) × (path_below rows 0 i ≡ Some p) × (then p ≡ q)
  was i q e = some_of then (path_below rows 0 i) q (sym (path_then i) ∙ e)

  -- ---- the maps

  module _ (shape' : IsShaped now) where
    -- no two paths become one
    apart : (i : ℕ) (p : Path) → path_below rows 0 i ≡ Some p → (j : ℕ) (a : Path) → path_below rows 0 j ≡ Some a
        → then a ≡ then p → a ≡ p
    apart i p pe j a ae same =
        let one : j ≡ i =
        one_row now shape' _ _ 0 j i (then p) (lies_then j a ae ∙ ap (λ q. Some q) same) (lies_then i p pe) in
        some_path a p (sym ae ∙ ap (path_below rows 0) one ∙ pe)

    pub ids-renamed : ids now ≡ renamed (ids rows) (path_of rows k) name
    ids-renamed = ids_are now shape' (renamed (ids rows) (path_of rows k) name) (λ i q e.
        let w = was i q e in
        ap (get (renamed (ids rows) (path_of rows k) name)) (sym w.2)
        ∙ moved_to then (ids rows) w.0 i (λ a y g same. apart i w.0 w.1 y a (id_is rows a y g).0 same)
        (id_of rows shape i w.0 w.1)) (λ i q e.
        let from = moved_from then (ids rows) q i e in
        lies_then i from.0 (id_is rows from.0 i from.1).0 ∙ ap (λ p. Some p) from.2)

    abbrev before : Nodes
    before = renamed (nodes rows) (path_of rows k) name

    abbrev new : Path
    new = above (path_of rows k) ++ name ∷ []

    pub nodes-renamed : 0 < k → nodes now ≡ insert before new node
    nodes-renamed z =
        nodes_insert now shape' before k new there (λ i q d e.
        let w = was i q e in
        ap (get before) (sym w.2) ∙ moved_to then (nodes rows) w.0 (node_of rows i) (λ a y g same.
        let s = row_there rows a y g in apart i w.0 w.1 s.row a s.lies same) (node_of_path rows shape i w.0 w.1)
        ∙ ap (λ (r : Row). Some r.node) (sym (other_then i d))) (λ q n e.
        let from = moved_from then (nodes rows) q n e in
        let s = row_there rows from.0 n from.1 in
        (s.row, lies_then s.row from.0 s.lies ∙ ap (λ p. Some p) from.2))
        ∙ ap (λ (r : Row). insert before new r.node) here_then
      where
        there : path_below now 0 k ≡ Some new
        there =
            let up = has_parent rows shape k live (not_zero k (omega (arith, z))) in
            let becomes : then (path_of rows k) ≡ new =
            rw up.path (rekeyed-itself _ _ name ∙ ap (λ a. a ++ name ∷ []) (sym (above-append _ _))) in
            lies_then k (path_of rows k) live ∙ ap (λ q. Some q) becomes

-- ---- the tree

-- what a rename asks for
pub record MayRename (rows : List Row) (k : ℕ) (name : List ℕ) (clock : Stamp) : Type 0 where
  pub live : IsLive rows k
  pub removable : (node_of rows k).permanent ≡ false
  pub free : IfSome (get (ids rows) (above (path_of rows k) ++ name ∷ [])) (λ other. other ≡ k)
  pub fits : paths_fit (nodes rows) (path_of rows k) name ≡ true
  pub named : is_name name ≡ true
  pub stamp : IsStamp clock

all_short : (p : Path) → list_all is_name p ≡ true → list_all is_short_name p ≡ true
all_short [] h = refl
all_short (n ∷ ns) h =
    let both = and_parts (is_name n) (list_all is_name ns) h in
    let named = and_parts (has_name_form n) (is_short_name n) both.0 in
    and_from (is_short_name n) (list_all is_short_name ns) named.1 (all_short ns both.1)

module _ (rows : List Row) (tree : IsTree rows) (k : ℕ) (name : List ℕ) (clock : Stamp)
    (may : MayRename rows k name clock) where
  abbrev node : Node
  node = changed clock (node_of rows k)

  abbrev named_rows : List Row
  named_rows = with_name rows k name node

  l : k < length rows
  l = live_row rows tree.shape k may.live

  -- the root is permanent
  pub no_root : 0 < k
  no_root = isnt_root rows tree k may.removable

  -- no other row has the parent and the new name
  alone : (j : ℕ) → (row_at rows j).attached ≡ true → (row_at rows j).parent ≡ (row_at rows k).parent
      → (row_at rows j).name ≡ name → j ≡ k
  alone j at parent named =
      let up = has_parent rows tree.shape k may.live (not_zero k (omega (arith, no_root))) in
      let lies =
      child_below rows tree.shape (row_at rows k).parent j (path_of rows (row_at rows k).parent) name up.live
      (record { attached = at; parent = parent; named = named }) in
      let above_is : above (path_of rows k) ≡ path_of rows (row_at rows k).parent =
      ap above up.path ∙ above-append _ _ in
      let found : get (ids rows) (above (path_of rows k) ++ name ∷ []) ≡ Some j =
      ap (λ p. get (ids rows) (p ++ name ∷ [])) above_is ∙ id_of rows tree.shape j _ lies in
      subst (λ o. IfSome o (λ other. other ≡ k)) found may.free

  abbrev named_row : Row
  named_row = record (row_at rows k) { name = name; node = node }

  pub shaped-renamed : IsShaped named_rows
  shaped-renamed = shaped_then rows tree.shape k may.live name node alone

  row_is : (j : ℕ) → j < length rows → IsRow (row_at named_rows j)
  row_is j jl =
      each_set rows k _ l IsRow j (λ _. record {
        name = may.named;
        node = let held = (tree.each k l).node in
            held_changed clock (node_of rows k) may.stamp held.value held.acl held.title;
        attached = (tree.each k l).attached;
      }) (λ _. tree.each j jl)

  as_many : (n : ℕ) → length (ids_below named_rows 0 n) ≡ length (ids_below rows 0 n)
  as_many zero = refl
  as_many (suc n) =
      rw (path_then rows tree.shape k may.live name node n) (elim (path_below rows 0 n)
      as (λ o. length (placed (option_map (rekeyed (path_of rows k) name) o) n (ids_below named_rows 0 n))
      ≡ length (placed o n (ids_below rows 0 n))) [
        | None ↦ as_many n
        | Some p ↦ ap suc (as_many n)
      ])

  within_then : (j : ℕ) → IsLive named_rows j → is_within_limits (path_of named_rows j) ≡ true
  within_then j there =
      let was = was rows tree.shape k may.live name node j (path_of named_rows j) there in
      let long = length-set rows k named_row in
      let names =
      all_named named_rows shaped-renamed (λ i il. (row_is i (omega (arith, il, long))).name) _ j
      (path_of named_rows j) refl there in
      let deep = depth_is named_rows shaped-renamed (row_at named_rows j).depth j (path_of named_rows j) refl there in
      let few : nat_le (length (path_of named_rows j)) 16 ≡ true =
      le-leb (length (path_of named_rows j)) 16 (omega (arith, deep, shaped-renamed.shallow j)) in
      let print : nat_le (length (printed_path (path_of named_rows j))) 255 ≡ true =
      ap (λ q. nat_le (length (printed_path q)) 255) (sym was.2)
      ∙ keys_all (nodes rows) (λ q. nat_le (length (printed_path (rekeyed (path_of rows k) name q))) 255) was.0
      (node_of rows j) may.fits (node_of_path rows tree.shape j was.0 was.1) in
      and_from (list_all is_short_name (path_of named_rows j) && nat_le (length (path_of named_rows j)) 16) _
      (and_from (list_all is_short_name (path_of named_rows j)) _ (all_short (path_of named_rows j) names) few) print

  kin : (j : ℕ) → IsKin (node_of rows j) (node_of named_rows j)
  kin = kin_set rows k named_row l (record { interior = refl; permanent = refl })

  pub tree-renamed : IsTree named_rows
  tree-renamed = record {
    shape = shaped-renamed;
    each = λ j jl. row_is j (omega (arith, jl, length-set rows k named_row));
    root =
        each_set rows k named_row l (λ s. IsRoot s.node) 0 (λ e. absurd (omega (arith, e, no_root))) (λ _. tree.root);
    children = λ j at.
        subst (λ i. IsChildOf (node_of named_rows j) (node_of named_rows i))
        (sym (parent_then rows tree.shape k may.live name node j)) (child_kin (kin j) (kin (row_at rows j).parent)
        (tree.children j (sym (attached_then rows tree.shape k may.live name node j) ∙ at)));
    within = within_then;
    size = let many = ap (λ n. length (ids_below named_rows 0 n)) (length-set rows k named_row)
        ∙ as_many (length rows) in
        omega (arith, len-nodes named_rows shaped-renamed, len-nodes rows tree.shape, many, tree.size);
  }

-- the change that renames, as a flip
abbrev pub renaming : List Row → ℕ → List ℕ → Stamp → Change
renaming rows k name clock = change.Name k name (((node_of rows k).verno + 1) % 2 ^ 16) clock

pub back-renamed : (rows : List Row) → IsTree rows → (k : ℕ) (name : List ℕ) (clock : Stamp)
    → MayRename rows k name clock
    → IsEditBack (turned rows (renaming rows k name clock)) rows (flipped rows (renaming rows k name clock))
back-renamed rows tree k name clock may =
    edit-back rows (renaming rows k name clock) tree (record {
      inside = live_row rows tree.shape k may.live;
      ready = tt;
      sound = tree-renamed rows tree k name clock may;
    }) refl may.live
