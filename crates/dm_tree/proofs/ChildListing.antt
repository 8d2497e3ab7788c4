-- The children of a node: the first one, and what comes behind each.
use Rattle.std.specs.Prelude.{◌==◌}
use Rattle.std.specs.List.{flat_map}
use Rattle.dm_tree.specs.Order.{children, names_of, child_names}
use Rattle.dm_tree.proofs.Common.{◌≡◌, ℕ, Bool, true, false, List, [], ◌∷◌, ◌++◌, length, Option, None, Some, refl, sym}
use Rattle.dm_tree.proofs.Common.{◌∙◌, ap, append_assoc, ◌&&◌, not, unwrap_or, option_map_or, and_parts, and_right}
use Rattle.dm_tree.proofs.Common.{append-nil, joined, Row, Path, Nodes, above, last_name, is_child_of, is_before}
use Rattle.dm_tree.proofs.Common.{first_child, next_sibling, children_behind, nodes, path_of}
use Rattle.dm_tree.proofs.PathOrder.{before_before}
use Rattle.dm_tree.proofs.FirstKeys.{key_passes, keys_from, keys_none}
use Rattle.dm_tree.proofs.LiveRows.{above-append}
use Rattle.dm_tree.proofs.NextNodes.{Shows, child_path, some_length}

abbrev is_beside : Path → Path → Bool
is_beside p q = not (length p == 0) && is_child_of (above p) q && is_before p q

in_between : (b : Bool) → b ≡ true && b && true
in_between true = refl
in_between false = refl

-- a child is beside the others
child_parts : (p q : Path) → is_child_of p q ≡ true → (above q ≡ p) × (not (length q == 0) ≡ true)
child_parts p q h = let c = child_path p q h in
    (ap above c.1 ∙ above-append p c.0, ap (λ (s : Path). not (length s == 0)) c.1 ∙ some_length p c.0)

not_beside : (q r : Path) → is_before q r ≡ false → is_beside q r ≡ false
not_beside q r early = and_right (not (length q == 0) && is_child_of (above q) r) (is_before q r) early

-- the children are the first and those beside it, and those behind a node the next and those behind that
children_by_first : (m : Nodes) (p q : Path) → first_child m p ≡ Some q → children m p ≡ q ∷ children_behind m q
children_by_first m p q h =
    let c = child_parts p q (key_passes m (is_child_of p) q h) in
    keys_from m (is_child_of p) (is_beside q) q h (not_beside q)
    (λ r y v late. rw (c.1, c.0, late) (in_between (is_child_of p r)))

behind_from : (m : Nodes) (p q : Path) → next_sibling m p ≡ Some q → children_behind m p ≡ q ∷ children_behind m q
behind_from m p q h =
    let outer =
    and_parts (not (length p == 0) && is_child_of (above p) q) (is_before p q) (key_passes m (is_beside p) q h) in
    let inner = and_parts (not (length p == 0)) (is_child_of (above p) q) outer.0 in
    let c = child_parts (above p) q inner.1 in
    keys_from m (is_beside p) (is_beside q) q h (not_beside q)
    (λ r y v late. rw (inner.0, before_before p q r outer.1 late, c.1, c.0, late) refl)

pub shown_children : (rows : List Row) (p : Path) (o : Option ℕ) → Shows rows o (first_child (nodes rows) p)
    → children (nodes rows) p ≡ option_map_or (λ c. path_of rows c ∷ children_behind (nodes rows) (path_of rows c)) o []
shown_children rows p None h = keys_none (nodes rows) (is_child_of p) h
shown_children rows p (Some c) h = children_by_first (nodes rows) p (path_of rows c) h.1

pub shown_beside : (rows : List Row) (p : Path) (o : Option ℕ) → Shows rows o (next_sibling (nodes rows) p)
    → children_behind (nodes rows) p
    ≡ option_map_or (λ c. path_of rows c ∷ children_behind (nodes rows) (path_of rows c)) o []
shown_beside rows p None h = keys_none (nodes rows) (is_beside p) h
shown_beside rows p (Some c) h = behind_from (nodes rows) p (path_of rows c) h.1

-- ---- their names in a row

-- names that come behind others
abbrev pub more_names : List Path → List ℕ
more_names paths = flat_map (λ n. 47 ∷ n) (names_of paths)

pub joined_more : (n : List ℕ) (ns : List (List ℕ)) → joined (n ∷ ns) ≡ n ++ flat_map (λ n. 47 ∷ n) ns
joined_more n [] = sym (append-nil n)
joined_more n (k ∷ ks) = ap (λ t. n ++ 47 ∷ t) (joined_more k ks)

-- the first name, and those that are yet to come
pub first_joined : (m : Nodes) (p q : Path) → children m p ≡ q ∷ children_behind m q → (out : List ℕ)
    → out ≡ unwrap_or (last_name q) []
    → out ++ more_names (children_behind m q) ≡ joined (child_names m p)
first_joined m p q h out e =
    rw (e, h) (sym (joined_more (unwrap_or (last_name q) []) (names_of (children_behind m q))))

-- one more name
pub next_joined : (m : Nodes) (q r : Path) → children_behind m q ≡ r ∷ children_behind m r → (out mid new : List ℕ)
    → mid ≡ out ++ 47 ∷ [] → new ≡ mid ++ unwrap_or (last_name r) []
    → new ++ more_names (children_behind m r) ≡ out ++ more_names (children_behind m q)
next_joined m q r h out mid new f g = rw (g, f, h) (simp append_assoc)

-- no name is left
pub all_joined : (m : Nodes) (q : Path) → children_behind m q ≡ [] → (out : List ℕ)
    → out ++ more_names (children_behind m q) ≡ out
all_joined m q h out = rw h (append-nil out)
