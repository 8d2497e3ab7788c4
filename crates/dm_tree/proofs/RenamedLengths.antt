-- How long the paths of rows are, once one of them bears another name.
use Rattle.std.specs.Prelude.{◌||◌}
use Rattle.std.specs.Cmp.{both_ways}
use Rattle.std.proofs.lemmas.Bool.{le-leb, and_left}
use Rattle.dm_tree.specs.Walks.{name_then, has_room}
use Rattle.dm_tree.proofs.Common.{◌≡◌, ℕ, zero, suc, ◌+◌, ◌-◌, ◌<◌, Bool, true, false, nat_eq, List, [], ◌∷◌, ◌++◌}
use Rattle.dm_tree.proofs.Common.{length, Option, Some, refl, sym, ◌∙◌, ap, arith, inl, inr, length-append, ◌&&◌, not}
use Rattle.dm_tree.proofs.Common.{filter, nat_le, nat_lt, if◌then◌else◌, list_all, option_map_or, get, keys, cases_Bool}
use Rattle.dm_tree.proofs.Common.{nat_tests, printed_path, joined, Node, Row, Path, Nodes, is_below, row_at, node_of}
use Rattle.dm_tree.proofs.Common.{walk, path_below, nodes, IsShaped, IsTree, IsLive, path_of, with_name, rekeyed}
use Rattle.dm_tree.proofs.Common.{paths_fit}
use Rattle.dm_tree.proofs.Common.{behind, below}
use Rattle.dm_tree.proofs.MapKeys.{all_keys, keys_all}
use Rattle.dm_tree.proofs.NodeEdits.{each_set, live_row}
use Rattle.dm_tree.proofs.TreeEdits.{limits_of}
use Rattle.dm_tree.proofs.RowPaths.{not_same, at_top, at_bottom, walk_up, not_zero}
use Rattle.dm_tree.proofs.LiveRows.{node_there, well_formed}
use Rattle.dm_tree.proofs.NodesBehind.{below-is}
use Rattle.dm_tree.proofs.RenamedRows.{parent_then, depth_then, attached_then, lies_then, rekeyed-apart}

-- ---- paths in print

length-joined : (m : List ℕ) (ms : Path) (n : List ℕ)
    → length (joined (m ∷ (ms ++ n ∷ []))) ≡ length (joined (m ∷ ms)) + suc (length n)
length-joined m [] n = length-append m (0x2F ∷ n)
length-joined m (k ∷ ks) n = omega (arith, length-append {A = ℕ}, length-joined k ks n)

-- a path that is one name longer has its bytes and a `/` more
length-printed : (r : Path) (n : List ℕ)
    → length (printed_path (r ++ n ∷ [])) ≡ length (printed_path r) + suc (length n)
length-printed [] n = omega arith
length-printed (m ∷ ms) n = omega (arith, length-joined m ms n)

some_printed : (r : Path) → 0 < length (printed_path r)
some_printed [] = omega arith
some_printed (n ∷ ns) = omega arith

-- p bytes and n more, and a `/`
room_left : (n room p : ℕ) (rest : Bool) → 0 < p → (n < room → rest ≡ nat_le p (room - n - 1 + 1))
    → (if nat_lt n room then rest else false) ≡ nat_le (p + suc n) (room + 1)
room_left n room p rest some h = grind (arith, nat_tests, h)

-- ---- one row

module _ (rows : List Row) (shape : IsShaped rows) (k : ℕ) (live : IsLive rows k) (name : List ℕ) (node : Node) where
  abbrev now : List Row
  now = with_name rows k name node

  name_is : (i : ℕ) → name_then rows k name i ≡ (row_at now i).name
  name_is i =
      each_set rows k _ (live_row rows shape k live) (λ s. name_then rows k name i ≡ s.name) i
      (λ e. let is : nat_eq i k ≡ true = grind (arith, nat_tests) in rw is refl) (λ d. rw (not_same i k d) refl)

  room_is : (d i : ℕ) (q : Path) (room : ℕ) → (row_at rows i).depth ≡ d → walk now d 0 i ≡ Some q
      → has_room rows k name d i room ≡ nat_le (length (printed_path q)) (room + 1)
  room_is zero i q room deep e =
      rw (at_top now zero 0 i q (at_bottom now 0 i q e) e) (sym (le-leb 1 (room + 1) (omega arith)))
  room_is (suc d) i q room deep e =
      let other = not_zero i (λ z. omega (arith, deep, ap (λ j. (row_at rows j).depth) z, shape.at_root)) in
      let u = walk_up now d 0 i q other e in
      let parents : (row_at rows (row_at rows i).parent).depth ≡ d =
      omega (arith, shape.falls i (sym (attached_then rows shape k live name node i) ∙ u.attached), deep) in
      let up : walk now d 0 (row_at rows i).parent ≡ Some u.above =
      ap (walk now d 0) (sym (parent_then rows shape k live name node i)) ∙ u.found in
      let longer : length (printed_path q) ≡ length (printed_path u.above) + suc (length (name_then rows k name i)) =
      ap (λ p. length (printed_path p)) u.named ∙ length-printed u.above _
      ∙ ap (λ n. length (printed_path u.above) + suc (length n)) (sym (name_is i)) in
      room_left (length (name_then rows k name i)) room (length (printed_path u.above)) _ (some_printed u.above)
      (λ l. room_is d (row_at rows i).parent u.above (room - length (name_then rows k name i) - 1) parents up)
      ∙ ap (λ n. nat_le n (room + 1)) (sym longer)

  -- the path of a row of the tree has at most 255 bytes exactly where its names and slashes have 254
  pub path_fit : (i : ℕ) (p : Path) → path_below rows 0 i ≡ Some p
      → has_room rows k name (row_at rows i).depth i 254
      ≡ nat_le (length (printed_path (rekeyed (path_of rows k) name p))) 255
  path_fit i p e =
      room_is (row_at rows i).depth i _ 254 refl
      (ap (λ d. walk now d 0 i) (sym (depth_then rows shape k live name node i))
      ∙ lies_then rows shape k live name node i p e)

-- ---- the rows at and below the one that gets the name

all_filtered : (f g : Path → Bool) (qs : List Path) → list_all f (filter g qs) ≡ list_all (λ q. not (g q) || f q) qs
all_filtered f g [] = refl
all_filtered f g (q ∷ qs) = elim (cases_Bool (g q)) [
  | inl is ↦ rw is (ap (λ b. f q && b) (all_filtered f g qs))
  | inr is ↦ rw is (all_filtered f g qs)
]

-- a test of each path of a map says what another does that agrees with it there
all_agree : (m : Nodes) (f g : Path → Bool) → ((q : Path) (x : Node) → get m q ≡ Some x → f q ≡ g q)
    → list_all f (keys m) ≡ list_all g (keys m)
all_agree m f g same =
    both_ways _ _ (λ all. all_keys m g (λ q x e. sym (same q x e) ∙ keys_all m f q x all e))
    (λ all. all_keys m f (λ q x e. same q x e ∙ keys_all m g q x all e))

abbrev pub then_fits : Path → List ℕ → Path → Bool
then_fits p name q = nat_le (length (printed_path (rekeyed p name q))) 255

-- the other paths keep to the limit as it is
pub below_decides : (rows : List Row) → IsTree rows → (p : Path) (name : List ℕ)
    → list_all (then_fits p name) (below (nodes rows) p) ≡ paths_fit (nodes rows) p name
below_decides rows tree p name =
    all_filtered (then_fits p name) (is_below p) (keys (nodes rows)) ∙ all_agree (nodes rows) _ _ (λ q x e.
    elim (cases_Bool (is_below p q)) [
      | inl is ↦ rw is refl
      | inr apart ↦
          rw apart (sym (ap (λ r. nat_le (length (printed_path r)) 255) (rekeyed-apart p name q apart)
          ∙ (limits_of q ((well_formed rows tree).paths q x e).1).2))
    ])

-- ---- one row after the other

-- the paths from a row on among those at and below the row k; none at the end
abbrev pub still_to_come : List Row → ℕ → Option ℕ → List Path
still_to_come rows k at =
    option_map_or (λ here. path_of rows here ∷ behind (nodes rows) (path_of rows k) (path_of rows here) false) at []

module _ (rows : List Row) (tree : IsTree rows) (k : ℕ) (live : IsLive rows k) (name : List ℕ) where
  abbrev all_fit : List Path → Bool
  all_fit = list_all (then_fits (path_of rows k) name)

  -- those from the row k on are all of them
  pub all_to_come : all_fit (still_to_come rows k (Some k)) ≡ paths_fit (nodes rows) (path_of rows k) name
  all_to_come =
      ap all_fit (sym (below-is (nodes rows) (path_of rows k) (node_of rows k) (node_there rows tree.shape k live)))
      ∙ below_decides rows tree (path_of rows k) name

  pub one_unfit : (here : ℕ) → IsLive rows here → has_room rows k name (row_at rows here).depth here 254 ≡ false
      → all_fit (still_to_come rows k (Some here)) ≡ false
  one_unfit here there unfit =
      and_left (then_fits (path_of rows k) name (path_of rows here)) _
      (sym (path_fit rows tree.shape k live name (node_of rows k) here (path_of rows here) there) ∙ unfit)

  pub one_fits : (here : ℕ) → IsLive rows here → has_room rows k name (row_at rows here).depth here 254 ≡ true
      → (next : Option ℕ) → behind (nodes rows) (path_of rows k) (path_of rows here) false ≡ still_to_come rows k next
      → all_fit (still_to_come rows k next) ≡ all_fit (still_to_come rows k (Some here))
  one_fits here there fit next rest =
      ap all_fit (sym rest)
      ∙ ap (λ b. b && all_fit (behind (nodes rows) (path_of rows k) (path_of rows here) false))
      (sym fit ∙ path_fit rows tree.shape k live name (node_of rows k) here (path_of rows here) there)
