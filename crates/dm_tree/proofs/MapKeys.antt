-- What stands among a map's entries and its keys, and the same under other keys.
use Rattle.std.proofs.Common.{map, T}
use Rattle.std.specs.FinMap.{find}
use Rattle.dm_tree.proofs.Common.{◌≡◌, Bool, true, false, List, [], ◌∷◌, Some, refl, sym, ◌∙◌, ap, subst, ◌⊎◌, inl, inr}
use Rattle.dm_tree.proofs.Common.{Option, list_all, and_from, and_parts, cases_Bool, false_from_ne_true, eq_by_cmp}
use Rattle.dm_tree.proofs.Common.{is_eq, tied_itself, FinMap, get, keys, entries, from_entries, get-from_entries}
use Rattle.dm_tree.proofs.Common.{get-entries, Path, tree_order, is_before, is_sorted, entries_sorted, below_all}
use Rattle.dm_tree.proofs.Paths.{same_path, other_path, tree_total}
use Rattle.dm_tree.proofs.PathOrder.{not_before_itself}

abbrev pub value_of : {X : Type 0} → Path → List (Path × X) → Option X
value_of q es = find tree_order q es

abbrev pub names_of : {X : Type 0} → List (Path × X) → List Path
names_of es = map (λ e. e.0) es

pub is_true : (b : Bool) → T b → b ≡ true
is_true true t = refl
is_true false t = absurd t

pub tied : (q p : Path) → q ≡ p → eq_by_cmp tree_order q p ≡ true
tied q p e = ap (eq_by_cmp tree_order q) (sym e) ∙ ap is_eq (tied_itself tree_total q)

-- ---- what stands in a list

pub data IsAmong {X : Type 0} : X → List X → Type 0 where
  first : {x : X} {xs : List X} → IsAmong x (x ∷ xs)
  later : {x y : X} {xs : List X} → IsAmong x xs → IsAmong x (y ∷ xs)

pub among_map : {X Y : Type 0} (f : X → Y) (xs : List X) {y : Y} → IsAmong y (map f xs)
    → (x : X) × IsAmong x xs × (y ≡ f x)
among_map f [] is = elim is [ ]
among_map f (x ∷ xs) first = (x, first, refl)
among_map f (x ∷ xs) (later is) = let at = among_map f xs is in (at.0, later at.1, at.2)

map_among : {X Y : Type 0} (f : X → Y) {x : X} {xs : List X} → IsAmong x xs → IsAmong (f x) (map f xs)
map_among f first = first
map_among f (later is) = later (map_among f is)

all_among : {X : Type 0} (f : X → Bool) (xs : List X) → ((x : X) → IsAmong x xs → f x ≡ true) → list_all f xs ≡ true
all_among f [] all = refl
all_among f (x ∷ xs) all = and_from (f x) (list_all f xs) (all x first) (all_among f xs (λ y is. all y (later is)))

among_all : {X : Type 0} (f : X → Bool) {x : X} {xs : List X} → IsAmong x xs → list_all f xs ≡ true → f x ≡ true
among_all f first all = (and_parts _ _ all).0
among_all f (later is) all = among_all f is (and_parts _ _ all).1

-- ---- what stands among entries

-- what is found among entries is the first one's, or stands behind it
held : {X : Type 0} (e : Path × X) (es : List (Path × X)) (q : Path) (x : X) → value_of q (e ∷ es) ≡ Some x
    → ((q ≡ e.0) × (e.1 ≡ x)) ⊎ ((eq_by_cmp tree_order q e.0 ≡ false) × (value_of q es ≡ Some x))
held e es q x h = elim (cases_Bool (eq_by_cmp tree_order q e.0)) [
  | inl is ↦ let value : Some e.1 ≡ Some x = rw is at h in inl (same_path q e.0 is, cc)
  | inr isnt ↦ inr (isnt, rw isnt at h)
]

value_among : {X : Type 0} (es : List (Path × X)) (q : Path) (x : X) → value_of q es ≡ Some x → IsAmong (q, x) es
value_among [] q x h = absurd (cc)
value_among (e ∷ es) q x h = elim (held e es q x h) [
  | inl at ↦ subst (λ d. IsAmong d (e ∷ es)) (λ i. (sym at.0 i, at.1 i)) first
  | inr at ↦ later (value_among es q x at.1)
]

-- the keys rise from the first on
pub rises : {X : Type 0} (p : Path) {d : Path × X} {es : List (Path × X)} → IsAmong d es
    → below_all tree_order p es ≡ true → is_before p d.0 ≡ true
rises p first low = (and_parts _ _ low).0
rises p (later is) low = rises p is (and_parts _ _ low).1

-- what stands behind the first key stands there with it
pub behind_first : {X : Type 0} (e : Path × X) (es : List (Path × X)) → below_all tree_order e.0 es ≡ true
    → (r : Path) (y : X) → value_of r es ≡ Some y → value_of r (e ∷ es) ≡ Some y
behind_first e es low r y h =
    let late = rises e.0 (value_among es r y h) low in
    let apart : eq_by_cmp tree_order r e.0 ≡ false =
    false_from_ne_true (eq_by_cmp tree_order r e.0)
    (λ is. (let no_more = ap (is_before e.0) (same_path r e.0 is) ∙ not_before_itself e.0 in cc)) in
    rw apart h

among_value : {X : Type 0} {d : Path × X} {es : List (Path × X)} → IsAmong d es → is_sorted tree_order es ≡ true
    → value_of d.0 es ≡ Some d.1
among_value {X} {d} first s = rw (tied d.0 d.0 refl) refl
among_value {d = d} {es = e ∷ es} (later is) s =
    let both = and_parts (below_all tree_order e.0 es) (is_sorted tree_order es) s in
    behind_first e es both.0 d.0 d.1 (among_value is both.1)

-- ---- what stands in a map

module _ {X : Type 0} (m : FinMap tree_order X) where
  pub among_entries : (q : Path) (x : X) → get m q ≡ Some x → IsAmong (q, x) (entries m)
  among_entries q x h = value_among (entries m) q x (sym (get-entries m q) ∙ h)

  pub entry_held : (d : Path × X) → IsAmong d (entries m) → get m d.0 ≡ Some d.1
  entry_held d is = get-entries m d.0 ∙ among_value is (is_true _ (entries_sorted m))

  pub among_keys : (q : Path) (x : X) → get m q ≡ Some x → IsAmong q (keys m)
  among_keys q x h = map_among (λ e. e.0) (among_entries q x h)

  -- what holds of each key that holds a value holds of each key
  pub each_key : (P : Path → Type 0) → ((q : Path) (x : X) → get m q ≡ Some x → P q) → (q : Path) → IsAmong q (keys m)
      → P q
  each_key P all q is = let e = among_map (λ d. d.0) (entries m) is in
      subst P (sym e.2) (all e.0.0 e.0.1 (entry_held e.0 e.1))

  pub all_keys : (f : Path → Bool) → ((q : Path) (x : X) → get m q ≡ Some x → f q ≡ true) → list_all f (keys m) ≡ true
  all_keys f all = all_among f (keys m) (each_key (λ q. f q ≡ true) all)

  pub keys_all : (f : Path → Bool) (q : Path) (x : X) → list_all f (keys m) ≡ true → get m q ≡ Some x → f q ≡ true
  keys_all f q x all h = among_all f (among_keys q x h) all

-- ---- the same under other keys

abbrev pub moved : {X : Type 0} → (Path → Path) → List (Path × X) → List (Path × X)
moved f es = map (λ e. (f e.0, e.1)) es

arrives : {X : Type 0} (f : Path → Path) (es : List (Path × X)) (p : Path) (x : X)
    → ((d : Path × X) → IsAmong d es → f d.0 ≡ f p → d.0 ≡ p)
    → value_of p es ≡ Some x → value_of (f p) (moved f es) ≡ Some x
arrives f [] p x apart h = absurd (cc)
arrives f (e ∷ es) p x apart h = elim (held e es p x h) [
  | inl at ↦ rw (tied (f p) (f e.0) (ap f at.0)) (ap (λ y. Some y) at.1)
  | inr at ↦ elim (cases_Bool (eq_by_cmp tree_order (f p) (f e.0))) [
    | inl same ↦ absurd (other_path p e.0 at.0 (sym (apart e first (sym (same_path (f p) (f e.0) same)))))
    | inr other ↦ rw other (arrives f es p x (λ d is. apart d (later is)) at.1)
  ]
]

-- what stands under a new key stood under one that became it
pub moved_from : {X : Type 0} (f : Path → Path) (m : FinMap tree_order X) (q : Path) (x : X)
    → get (from_entries {R = tree_order} (moved f (entries m))) q ≡ Some x
    → (p : Path) × (get m p ≡ Some x) × (f p ≡ q)
moved_from f m q x h =
    let is =
    value_among (moved f (entries m)) q x (sym (get-from_entries tree_total (moved f (entries m)) q) ∙ h) in
    let e = among_map (λ d. (f d.0, d.1)) (entries m) is in
    (e.0.0, entry_held m e.0 e.1 ∙ ap (λ c. Some c.1) (sym e.2), ap (λ c. c.0) (sym e.2))

-- what stood under a key stands under what it became, where no other key became that
pub moved_to : {X : Type 0} (f : Path → Path) (m : FinMap tree_order X) (p : Path) (x : X)
    → ((a : Path) (y : X) → get m a ≡ Some y → f a ≡ f p → a ≡ p)
    → get m p ≡ Some x → get (from_entries {R = tree_order} (moved f (entries m))) (f p) ≡ Some x
moved_to f m p x apart h =
    get-from_entries tree_total (moved f (entries m)) (f p)
    ∙ arrives f (entries m) p x (λ d is. apart d.0 d.1 (entry_held m d is)) (sym (get-entries m p) ∙ h)
