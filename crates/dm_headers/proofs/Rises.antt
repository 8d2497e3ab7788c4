-- Numbers that rise are all different, and of sorted numbers that don't rise two are equal.
use Rattle.std.proofs.Common.{◌≡◌, ℕ, suc, ◌+◌, ◌-◌, ◌≤◌, Bool, true, false, cond, List, [], ◌∷◌, length, refl, ◌∙◌, ap}
use Rattle.std.proofs.Common.{sym, subst, arith, drop, length-drop}
use Rattle.std.specs.Prelude.{◌==◌, ◌&&◌, ◌||◌, nat_lt, not}
use Rattle.std.specs.List.{list_any, sum_by}
use Rattle.std.specs.List.Sorted.{IsPermutation, IsSorted, IsNonDecreasingBy}
use Rattle.std.specs.Ordering.{nat_cmp}
use Rattle.std.proofs.lemmas.Bool.{ltb-false, ltb-true}
use Rattle.std.proofs.lemmas.List.Sums.{sum_by-cons}
use Rattle.std.proofs.lemmas.List.Sorted.{sum_by-IsPermutation, IsNonDecreasingBy-from_sort}
use Rattle.dm_headers.specs.CmdIds.{has_twins}
use Rattle.dm_headers.specs.Rising.{is_rising}

-- ---- numbers that rise

above : (k n : ℕ) (ns : List ℕ) → is_rising (n ∷ ns) ≡ true → k ≤ n → list_any (λ m. m == k) ns ≡ false
above k n [] r l = refl
above k n (m ∷ ns) r l = higher k n m ns (nat_lt n m) refl r l (above k m ns)
  where
    higher : (k n m : ℕ) (ns : List ℕ) (b : Bool) → nat_lt n m ≡ b → (b && is_rising (m ∷ ns)) ≡ true → k ≤ n
        → (is_rising (m ∷ ns) ≡ true → k ≤ m → list_any (λ i. i == k) ns ≡ false)
        → list_any (λ i. i == k) (m ∷ ns) ≡ false
    higher k n m ns true e r l next =
        let up = ltb-true n m e in
        let other : (m == k) ≡ false = grind arith in
        rw other (next r (omega (arith, up, l)))
    higher k n m ns false e r l next = absurd (cc)

tail-rises : (n : ℕ) (ns : List ℕ) → is_rising (n ∷ ns) ≡ true → is_rising ns ≡ true
tail-rises n [] r = refl
tail-rises n (m ∷ ns) r = behind (nat_lt n m) (is_rising (m ∷ ns)) r
  where
    behind : (b c : Bool) → (b && c) ≡ true → c ≡ true
    behind true c r = r
    behind false c r = absurd (cc)

pub rising_alone : (ns : List ℕ) → is_rising ns ≡ true → has_twins ns ≡ false
rising_alone [] r = refl
rising_alone (n ∷ ns) r = rw (above n n ns r (omega arith)) (rising_alone ns (tail-rises n ns r))

pub last_alone : (ns : List ℕ) (at : ℕ) → 1 ≤ at → length ns ≤ at → is_rising (drop (at - 1) ns) ≡ true
last_alone ns at h l = few (drop (at - 1) ns) (rw (length-drop (at - 1) ns) (omega (arith, h, l)))
  where
    few : (xs : List ℕ) → length xs ≤ 1 → is_rising xs ≡ true
    few [] l = refl
    few (x ∷ []) l = refl
    few (x ∷ y ∷ xs) l = absurd (omega (arith, l))

-- ---- how often a number stands

or-true : (b : Bool) → (b || true) ≡ true
or-true true = refl
or-true false = refl

abbrev is_one : ℕ → ℕ → ℕ
is_one n m = cond (m == n) 1 0

abbrev count : ℕ → List ℕ → ℕ
count n ms = sum_by (is_one n) ms

counted : (n m : ℕ) (ms : List ℕ) (b c : Bool) → (m == n) ≡ b → (b || c) ≡ true → (c ≡ true → 1 ≤ count n ms)
    → 1 ≤ count n (m ∷ ms)
counted n m ms true c e h k = rw (sum_by-cons (is_one n) m ms, e) (omega arith)
counted n m ms false c e h k = rw (sum_by-cons (is_one n) m ms, e) (omega (arith, k h))

some-counts : (n : ℕ) (ms : List ℕ) → list_any (λ m. m == n) ms ≡ true → 1 ≤ count n ms
some-counts n [] h = absurd (cc)
some-counts n (m ∷ ms) h = counted n m ms (m == n) (list_any (λ i. i == n) ms) refl h (some-counts n ms)

counts-some : (n : ℕ) (ms : List ℕ) → 1 ≤ count n ms → list_any (λ m. m == n) ms ≡ true
counts-some n [] h = absurd (omega (arith, h))
counts-some n (m ∷ ms) h = found (m == n) refl (counts-some n ms)
  where
    found : (b : Bool) → (m == n) ≡ b → (1 ≤ count n ms → list_any (λ i. i == n) ms ≡ true)
        → (b || list_any (λ i. i == n) ms) ≡ true
    found true e next = refl
    found false e next =
        let rest = subst (λ k. 1 ≤ k) (sum_by-cons (is_one n) m ms ∙ ap (λ b. cond b 1 0 + count n ms) e) h in
        next (omega (arith, rest))

twins-count : (ns : List ℕ) → has_twins ns ≡ true → (n : ℕ) × (2 ≤ count n ns)
twins-count [] h = absurd (cc)
twins-count (n ∷ ns) h = either (list_any (λ m. m == n) ns) refl h (twins-count ns)
  where
    either : (b : Bool) → list_any (λ m. m == n) ns ≡ b → (b || has_twins ns) ≡ true
        → (has_twins ns ≡ true → (k : ℕ) × (2 ≤ count k ns)) → (k : ℕ) × (2 ≤ count k (n ∷ ns))
    either true e h next =
        let one = some-counts n ns e in
        let same : (n == n) ≡ true = grind arith in
        (n, rw (sum_by-cons (is_one n) n ns, same) (omega (arith, one)))
    either false e h next =
        let later = next h in
        (later.0, rw (sum_by-cons (is_one later.0) n ns) (omega (arith, later.1)))

count-twins : (n : ℕ) (ns : List ℕ) → 2 ≤ count n ns → has_twins ns ≡ true
count-twins n [] h = absurd (omega (arith, h))
count-twins n (m ∷ ms) h = found (m == n) refl (count-twins n ms)
  where
    found : (b : Bool) → (m == n) ≡ b → (2 ≤ count n ms → has_twins ms ≡ true)
        → (list_any (λ i. i == m) ms || has_twins ms) ≡ true
    found true e next =
        let is : m ≡ n = grind arith in
        let rest = subst (λ k. 2 ≤ k) (sum_by-cons (is_one n) m ms ∙ ap (λ b. cond b 1 0 + count n ms) e) h in
        let one : list_any (λ i. i == m) ms ≡ true = rw is (counts-some n ms (omega (arith, rest))) in
        rw one refl
    found false e next =
        let rest = subst (λ k. 2 ≤ k) (sum_by-cons (is_one n) m ms ∙ ap (λ b. cond b 1 0 + count n ms) e) h in
        let two = next (omega (arith, rest)) in
        rw two (or-true (list_any (λ i. i == m) ms))

-- ---- sorted numbers

falls : (ns : List ℕ) → IsNonDecreasingBy (λ x. x) ns → is_rising ns ≡ false → has_twins ns ≡ true
falls [] s f = absurd (cc)
falls (n ∷ []) s f = absurd (cc)
falls (n ∷ m ∷ ns) s f = first (nat_lt n m) refl f (falls (m ∷ ns) (λ i j d l h. s (suc i) (suc j) d (omega
    (arith, l)) (omega (arith, h))))
  where
    first : (b : Bool) → nat_lt n m ≡ b → (b && is_rising (m ∷ ns)) ≡ false
        → (is_rising (m ∷ ns) ≡ false → has_twins (m ∷ ns) ≡ true) → has_twins (n ∷ m ∷ ns) ≡ true
    first true e f next = rw (next f) (or-true (list_any (λ i. i == n) (m ∷ ns)))
    first false e f next =
        let up : n ≤ m = s 0 1 0 (omega arith) (omega arith) in
        let same : (m == n) ≡ true = grind (arith, up, ltb-false n m e) in
        rw same refl

pub sorted_twins : (xs ys : List ℕ) → is_rising xs ≡ false → IsPermutation xs ys → IsSorted nat_cmp ys
    → has_twins xs ≡ not (is_rising ys)
sorted_twins xs ys f p s = by (is_rising ys) refl
  where
    by : (b : Bool) → is_rising ys ≡ b → has_twins xs ≡ not b
    by true e = alone (has_twins xs) refl
      where
        alone : (c : Bool) → has_twins xs ≡ c → has_twins xs ≡ false
        alone false h = h
        alone true h =
            let two = twins-count xs h in
            let there = count-twins two.0 ys (subst (λ k. 2 ≤ k) (sym (sum_by-IsPermutation
            (is_one two.0) xs ys p)) two.1) in
            let bad : true ≡ false = sym there ∙ rising_alone ys e in
            absurd (cc)
    by false e =
        let two = twins-count ys (falls ys (IsNonDecreasingBy-from_sort (λ x. x) ys s) e) in
        count-twins two.0 xs (subst (λ k. 2 ≤ k) (sum_by-IsPermutation (is_one two.0) xs ys p) two.1)
