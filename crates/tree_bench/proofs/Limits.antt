-- A path of at most three names keeps to the limits, however long they are.
use Rattle.std.proofs.Common.{◌≡◌, ◌≤◌, ℕ, true, List, [], ◌∷◌, ◌++◌, length, codes, arith, length-append, refl}
use Rattle.std.specs.Prelude.{◌&&◌, nat_le}
use Rattle.std.specs.List.{list_all}
use Rattle.std.proofs.lemmas.Bool.{and_from, and_parts}
use Rattle.std.proofs.lemmas.Bool.Decides.{nat_tests}
use Rattle.dm_uri.specs.Names.{IsPath, has_name_form, is_name, is_short_name, is_within_limits, printed_path}

at_most : (m n : ℕ) → nat_le m n ≡ true → m ≤ n
at_most m n e = grind arith

is_at_most : (m n : ℕ) → m ≤ n → nat_le m n ≡ true
is_at_most m n h = grind (arith, nat_tests)

short : (name : List ℕ) → is_name name ≡ true → is_short_name name ≡ true
short name h = (and_parts (has_name_form name) (is_short_name name) h).1

bound : (name : List ℕ) → is_name name ≡ true → length name ≤ 64
bound name h = at_most (length name) 64 (short name h)

within : (names : List (List ℕ)) → list_all is_short_name names ≡ true → length names ≤ 16
    → length (printed_path names) ≤ 255 → is_within_limits names ≡ true
within names h few print =
    and_from (list_all is_short_name names && nat_le (length names) 16) (nat_le (length (printed_path names)) 255)
    (and_from (list_all is_short_name names) (nat_le (length names) 16) h (is_at_most (length names) 16 few))
    (is_at_most (length (printed_path names)) 255 print)

one_fits : (a : List ℕ) → is_name a ≡ true → is_within_limits (a ∷ []) ≡ true
one_fits a h =
    within (a ∷ []) (and_from (is_short_name a) true (short a h) refl) (omega arith)
    (omega (arith, length-append (codes "./") a, bound a h))

two_fit : (a b : List ℕ) → is_name a ≡ true → is_name b ≡ true → is_within_limits (a ∷ b ∷ []) ≡ true
two_fit a b h g =
    within (a ∷ b ∷ []) (and_from (is_short_name a) (is_short_name b && true) (short a h)
    (and_from (is_short_name b) true (short b g) refl)) (omega arith)
    (omega (arith, length-append (codes "./") (a ++ 47 ∷ b), length-append a (47 ∷ b), bound a h, bound b g))

three_fit : (a b c : List ℕ) → is_name a ≡ true → is_name b ≡ true → is_name c ≡ true
    → is_within_limits (a ∷ b ∷ c ∷ []) ≡ true
three_fit a b c h g f =
    within (a ∷ b ∷ c ∷ [])
    (and_from (is_short_name a) (is_short_name b && (is_short_name c && true)) (short a h)
    (and_from (is_short_name b) (is_short_name c && true) (short b g)
    (and_from (is_short_name c) true (short c f) refl)))
    (omega arith)
    (omega (
      arith,
      length-append (codes "./") (a ++ 47 ∷ (b ++ 47 ∷ c)),
      length-append a (47 ∷ (b ++ 47 ∷ c)),
      length-append b (47 ∷ c),
      bound a h,
      bound b g,
      bound c f,
    ))

pub few_names_fit : (p : List (List ℕ)) (name : List ℕ) → IsPath p → is_name name ≡ true → length p ≤ 2
    → is_within_limits (p ++ name ∷ []) ≡ true
few_names_fit [] name path h few = one_fits name h
few_names_fit (a ∷ []) name path h few = two_fit a name (and_parts (is_name a) true path.names).0 h
few_names_fit (a ∷ b ∷ []) name path h few =
    let outer = and_parts (is_name a) (is_name b && true) path.names in
    three_fit a b name outer.0 (and_parts (is_name b) true outer.1).0 h
few_names_fit (a ∷ b ∷ c ∷ p) name path h few = absurd (omega (arith, few))
