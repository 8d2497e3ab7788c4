-- The first of the keys that pass a test, and all of them.
use Rattle.std.specs.Prelude.{⊤}
use Rattle.std.specs.List.{find}
use Rattle.dm_tree.proofs.Common.{◌≡◌, Bool, true, false, List, [], ◌∷◌, None, Some, refl, ◌∙◌, ap, subst, inl, inr}
use Rattle.dm_tree.proofs.Common.{filter, and_parts, cases_Bool, false_from_ne_true, FinMap, get, keys, entries, Path}
use Rattle.dm_tree.proofs.Common.{tree_order, is_before, is_sorted, entries_sorted, below_all}
use Rattle.dm_tree.proofs.MapKeys.{IsAmong, first, later, among_map, rises, among_keys}
use Rattle.dm_tree.proofs.MapKeys.{each_key, entry_held}
use Rattle.dm_tree.proofs.PathOrder.{not_before_itself, not_back}
pub use Rattle.dm_tree.proofs.MapKeys.{value_of, names_of, is_true, behind_first}

-- ---- in any list

module _ {X : Type 0} where
  -- where no member passes, and where two tests agree at each member
  none_pass : (f : X → Bool) (xs : List X) → ((x : X) → IsAmong x xs → f x ≡ false)
      → (find f xs ≡ None) × (filter f xs ≡ [])
  none_pass f [] all = (refl, refl)
  none_pass f (x ∷ xs) all = let rest = none_pass f xs (λ y is. all y (later is)) in
      (rw (all x first) rest.0, rw (all x first) rest.1)

  same_pass : (f g : X → Bool) (xs : List X) → ((x : X) → IsAmong x xs → f x ≡ g x)
      → (find f xs ≡ find g xs) × (filter f xs ≡ filter g xs)
  same_pass f g [] all = (refl, refl)
  same_pass f g (x ∷ xs) all = let rest = same_pass f g xs (λ y is. all y (later is)) in
      (rw (all x first, rest.0) refl, rw (all x first, rest.1) refl)

  -- what is found stands there and passes
  found : (f : X → Bool) (xs : List X) (y : X) → find f xs ≡ Some y → IsAmong y xs × (f y ≡ true)
  found f [] y h = absurd (cc)
  found f (x ∷ xs) y h = elim (cases_Bool (f x)) [
    | inl is ↦
        let e : Some x ≡ Some y = rw is at h in
        let same : x ≡ y = cc in (subst (λ z. IsAmong z (x ∷ xs)) same first, rw same at is)
    | inr isnt ↦ let at = found f xs y (rw isnt at h) in (later at.0, at.1)
  ]

  -- and where nothing is found, nothing passes
  none_passes : (f : X → Bool) {x : X} {xs : List X} → IsAmong x xs → find f xs ≡ None → f x ≡ false
  none_passes f {x} first h = false_from_ne_true (f x) (λ passes. (let e = rw passes at h in cc))
  none_passes f {xs = y ∷ ys} (later is) h =
      let fails : f y ≡ false = false_from_ne_true (f y) (λ passes. (let e = rw passes at h in cc)) in
      none_passes f is (rw fails at h)

-- ---- in a list of paths that rise

abbrev Rise : List Path → Type 0
Rise [] = ⊤
Rise (p ∷ ps) = ((q : Path) → IsAmong q ps → is_before p q ≡ true) × Rise ps

sorted_rise : {X : Type 0} (es : List (Path × X)) → is_sorted tree_order es ≡ true → Rise (names_of es)
sorted_rise [] s = tt
sorted_rise (e ∷ es) s =
    let both = and_parts (below_all tree_order e.0 es) (is_sorted tree_order es) s in (
      λ q is. let d = among_map (λ c. c.0) es is in ap (is_before e.0) d.2 ∙ rises e.0 d.1 both.0,
      sorted_rise es both.1,
    )

first_of : (f : Path → Bool) {p : Path} {ps : List Path} → IsAmong p ps → Rise ps → f p ≡ true
    → ((q : Path) → IsAmong q ps → f q ≡ true → is_before q p ≡ false) → find f ps ≡ Some p
first_of f first up passes least = rw passes refl
first_of f {ps = k ∷ ks} (later is) up passes least =
    let fails : f k ≡ false =
    false_from_ne_true (f k) (λ yes. (let early = up.0 _ is in let late = least k first yes in cc)) in
    rw fails (first_of f is up.1 passes (λ q at. least q (later at)))

filter_from : (f g : Path → Bool) (ps : List Path) → Rise ps → (q : Path) → find f ps ≡ Some q
    → ((r : Path) → is_before q r ≡ false → g r ≡ false)
    → ((r : Path) → IsAmong r ps → is_before q r ≡ true → f r ≡ g r) → filter f ps ≡ q ∷ filter g ps
filter_from f g [] up q h early late = absurd (cc)
filter_from f g (k ∷ ks) up q h early late = elim (cases_Bool (f k)) [
  | inl is ↦
      let e : Some k ≡ Some q = rw is at h in
      let same : k ≡ q = cc in
      rw (is, early k (ap (is_before q) same ∙ not_before_itself q))
      (ap (λ p. p ∷ filter f ks) same
      ∙ ap (λ l. q ∷ l) ((same_pass f g ks (λ r among. late r (later among) (rw same at (up.0 r among)))).1))
  | inr isnt ↦
      let behind = up.0 q (found f ks q (rw isnt at h)).0 in
      rw (isnt, early k (not_back k q behind))
      (filter_from f g ks up.1 q (rw isnt at h) early (λ r among. late r (later among)))
]

-- ---- in a map

module _ {X : Type 0} (m : FinMap tree_order X) (f : Path → Bool) where
  -- p is there and passes, and nothing that passes stands before it
  pub record IsFirst (p : Path) : Type 0 where
    pub value : X
    pub there : get m p ≡ Some value
    pub passes : f p ≡ true
    pub least : (q : Path) (y : X) → get m q ≡ Some y → f q ≡ true → is_before q p ≡ false

  keys_rise : Rise (keys m)
  keys_rise = sorted_rise (entries m) (is_true _ (entries_sorted m))

  pub first_key : (p : Path) → IsFirst p → find f (keys m) ≡ Some p
  first_key p is =
      first_of f (among_keys m p is.value is.there) keys_rise is.passes
      (each_key m (λ q. f q ≡ true → is_before q p ≡ false) is.least)

  pub no_key : ((q : Path) (y : X) → get m q ≡ Some y → f q ≡ false) → find f (keys m) ≡ None
  no_key all = (none_pass f (keys m) (each_key m (λ q. f q ≡ false) all)).0

  pub same_key : (g : Path → Bool) → ((q : Path) (y : X) → get m q ≡ Some y → f q ≡ g q)
      → find f (keys m) ≡ find g (keys m)
  same_key g all = (same_pass f g (keys m) (each_key m (λ q. f q ≡ g q) all)).0

  pub key_passes : (p : Path) → find f (keys m) ≡ Some p → f p ≡ true
  key_passes p h = (found f (keys m) p h).1

  -- the keys that pass are the first and those behind it, where g tells these
  pub keys_from : (g : Path → Bool) (q : Path) → find f (keys m) ≡ Some q
      → ((r : Path) → is_before q r ≡ false → g r ≡ false)
      → ((r : Path) (y : X) → get m r ≡ Some y → is_before q r ≡ true → f r ≡ g r)
      → filter f (keys m) ≡ q ∷ filter g (keys m)
  keys_from g q h early late =
      filter_from f g (keys m) keys_rise q h early (each_key m (λ r. is_before q r ≡ true → f r ≡ g r) late)

  pub keys_none : find f (keys m) ≡ None → filter f (keys m) ≡ []
  keys_none h = (none_pass f (keys m) (λ q is. none_passes f is h)).1

-- ---- the first entry that passes

pub entry_there : {X : Type 0} (m : FinMap tree_order X) (f : Path × X → Bool) (d : Path × X)
    → find f (entries m) ≡ Some d → (get m d.0 ≡ Some d.1) × (f d ≡ true)
entry_there m f d h = let is = found f (entries m) d h in (entry_held m d is.0, is.1)
