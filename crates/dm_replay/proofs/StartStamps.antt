-- The clock that a start section tells is a stamp.
use Rattle.std.proofs.Common.{◌≡◌, ◌≤◌, ◌<◌, ◌+◌, ℕ, zero, suc, Bool, true, false, List, [], ◌∷◌, length, get_or}
use Rattle.std.proofs.Common.{Some, refl, subst, arith, take, drop}
use Rattle.std.proofs.lemmas.Bool.{and_parts, eqb-true}
use Rattle.std.proofs.lemmas.Bool.Decides.{nat_tests}
use Rattle.std.specs.Prelude.{◌&&◌, ◌==◌, nat_le, nat_lt, slice_index}
use Rattle.std.specs.Char.{is_ascii_digit}
use Rattle.std.specs.List.{list_all}
use Rattle.dm_tree.specs.declared.nodes.Stamp.{Stamp}
use Rattle.dm_tree.specs.Nodes.{IsStamp, first_stamp}
use Rattle.dm_start.specs.Fields.{is_stamp, clock_in}
use Rattle.dm_fields.proofs.Told.{some_if}

-- ---- digits

digit_small : (b : ℕ) → is_ascii_digit b ≡ true → b < 256
digit_small b h = at_most b (and_parts (nat_le 48 b) (nat_le b 57) h).1
  where
    at_most : (b : ℕ) → nat_le b 57 ≡ true → b < 256
    at_most b h = grind (arith, nat_tests)

among_first : (n : ℕ) (xs : List ℕ) → list_all is_ascii_digit (take n xs) ≡ true → (k : ℕ) → k < n
    → get_or xs k 0 < 256
among_first zero xs h k l = absurd (omega (arith, l))
among_first (suc n) [] h k l = omega arith
among_first (suc n) (x ∷ xs) h zero l =
    digit_small x (and_parts (is_ascii_digit x) (list_all is_ascii_digit (take n xs)) h).0
among_first (suc n) (x ∷ xs) h (suc k) l =
    among_first n xs (and_parts (is_ascii_digit x) (list_all is_ascii_digit (take n xs)) h).1 k (omega (arith, l))

among_next : (m n : ℕ) (xs : List ℕ) → list_all is_ascii_digit (take n (drop m xs)) ≡ true → (k : ℕ) → m ≤ k
    → k < m + n → get_or xs k 0 < 256
among_next zero n xs h k from to = among_first n xs h k (omega (arith, to))
among_next (suc m) n [] h k from to = omega arith
among_next (suc m) n (x ∷ xs) h zero from to = absurd (omega (arith, from))
among_next (suc m) n (x ∷ xs) h (suc k) from to =
    among_next m n xs h k (omega (arith, from)) (omega (arith, to))

-- ---- the sixteen bytes

under : (k n : ℕ) → nat_lt k n ≡ true → k < n
under k n h = grind (arith, nat_tests)

not_under : (k n : ℕ) → nat_lt k n ≡ false → n ≤ k
not_under k n h = grind (arith, nat_tests)

one_byte : (n b : ℕ) → n ≡ b → b < 256 → n < 256
one_byte n b is small = omega (arith, is, small)

module _ (text : List ℕ) (h : is_stamp text ≡ true) where
  abbrev long : Bool
  long = length text == 16

  abbrev day : Bool
  day = list_all is_ascii_digit (take 8 text)

  abbrev parted : Bool
  parted = slice_index text 8 == 84

  abbrev time : Bool
  time = list_all is_ascii_digit (take 6 (drop 9 text))

  abbrev zone : Bool
  zone = slice_index text 15 == 90

  byte_at : (k : ℕ) → k < 16 → get_or text k 0 < 256
  byte_at k l = by_day (nat_lt k 8) refl
    where
      fourth : ((long && day && parted && time) ≡ true) × (zone ≡ true)
      fourth = and_parts (long && day && parted && time) zone h

      third : ((long && day && parted) ≡ true) × (time ≡ true)
      third = and_parts (long && day && parted) time fourth.0

      second : ((long && day) ≡ true) × (parted ≡ true)
      second = and_parts (long && day) parted third.0

      by_zone : 9 ≤ k → (b : Bool) → nat_lt k 15 ≡ b → get_or text k 0 < 256
      by_zone from true is = among_next 9 6 text third.1 k from (under k 15 is)
      by_zone from false is =
          subst (λ j. get_or text j 0 < 256)
          (let here : 15 ≡ k = omega (arith, l, not_under k 15 is) in here)
          (one_byte (get_or text 15 0) 90 (eqb-true (get_or text 15 0) 90 fourth.1) (omega arith))

      by_parting : 8 ≤ k → (b : Bool) → nat_lt k 9 ≡ b → get_or text k 0 < 256
      by_parting from true is =
          subst (λ j. get_or text j 0 < 256)
          (let here : 8 ≡ k = omega (arith, from, under k 9 is) in here)
          (one_byte (get_or text 8 0) 84 (eqb-true (get_or text 8 0) 84 second.1) (omega arith))
      by_parting from false is = by_zone (not_under k 9 is) (nat_lt k 15) refl

      by_day : (b : Bool) → nat_lt k 8 ≡ b → get_or text k 0 < 256
      by_day true is = among_first 8 text (and_parts long day second.0).1 k (under k 8 is)
      by_day false is = by_parting (not_under k 8 is) (nat_lt k 9) refl

  pub is_of_stamp : IsStamp (record { bytes = text })
  is_of_stamp =
      let fourth = and_parts (long && day && parted && time) zone h in
      let third = and_parts (long && day && parted) time fourth.0 in
      let second = and_parts (long && day) parted third.0 in
      record { long = eqb-true (length text) 16 (and_parts long day second.0).0; bytes = byte_at }

-- ---- what is told

pub first_is_stamp : IsStamp first_stamp
first_is_stamp = is_of_stamp first_stamp.bytes refl

some_stamp : (x y : Stamp) → Some x ≡ Some y → x ≡ y
some_stamp x y h = cc

pub clock_is_stamp : (fields : List (List ℕ)) (clock : Stamp) → clock_in fields ≡ Some clock → IsStamp clock
clock_is_stamp [] clock e = absurd (cc)
clock_is_stamp (w ∷ []) clock e = absurd (cc)
clock_is_stamp (w ∷ s ∷ []) clock e =
    let told = some_if (is_stamp s) (Some (record { bytes = s })) clock e in
    subst IsStamp (some_stamp _ clock told.1) (is_of_stamp s told.0)
clock_is_stamp (w ∷ s ∷ x ∷ rest) clock e = absurd (cc)
