-- One thing at most stands at the front of bytes.
use Rattle.std.proofs.Common.{ℕ, zero, suc, ◌≡◌, ◌≤◌, ◌+◌, ◌*◌, ◌-◌, List, [], ◌∷◌, length, take, inl, inr, refl, sym}
use Rattle.std.proofs.Common.{ap, ◌∙◌, arith}
use Rattle.wbxml_ints.specs.declared.Mb.TheVariants as mb
use Rattle.wbxml_ints.specs.Multibyte.{IsDigitsFrom, AllGoOn, IsTooBig, Finds, OneIsFound}

-- digits end at the first byte that doesn't go on
same_digits : (bytes : List ℕ) (u v value left m n : ℕ) → u ≤ length bytes → v ≤ length bytes
    → IsDigitsFrom m value left (take u bytes)
    → IsDigitsFrom n value left (take v bytes) → (u ≡ v) × (m ≡ n)
same_digits bytes zero v value left m n a b p q = absurd p
same_digits bytes (suc u) zero value left m n a b p q = absurd q
same_digits [] (suc u) (suc v) value left m n a b p q = absurd p
same_digits (x ∷ bs) (suc u) (suc v) value zero m n a b p q = absurd p
same_digits (x ∷ bs) (suc zero) (suc zero) value (suc left) m n a b p q = (refl, p.1 ∙ sym q.1)
same_digits (x ∷ []) (suc zero) (suc (suc v)) value (suc left) m n a b p q = omega (arith, b)
same_digits (x ∷ y ∷ bs) (suc zero) (suc (suc v)) value (suc left) m n a b p q = omega (arith, p.0, q.0)
same_digits (x ∷ []) (suc (suc u)) (suc v) value (suc left) m n a b p q = omega (arith, a)
same_digits (x ∷ y ∷ bs) (suc (suc u)) (suc zero) value (suc left) m n a b p q = omega (arith, p.0, q.0)
same_digits (x ∷ y ∷ bs) (suc (suc u)) (suc (suc v)) value (suc left) m n a b p q =
    let rest =
    same_digits (y ∷ bs) (suc u) (suc v) (value * 128 + (x - 128)) left m n (omega (arith, a)) (omega (arith, b)) p.2
    q.2 in
    (ap suc rest.0, rest.1)

-- and so they are none where all bytes go on
no_digits : (bytes : List ℕ) (u value left n : ℕ) → IsDigitsFrom n value left (take u bytes) → AllGoOn (take left bytes)
    → ⊥
no_digits bytes zero value left n p h = absurd p
no_digits [] (suc u) value left n p h = absurd p
no_digits (x ∷ bs) (suc u) value zero n p h = absurd p
no_digits (x ∷ bs) (suc zero) value (suc left) n p h = omega (arith, p.0, h.0)
no_digits (x ∷ []) (suc (suc u)) value (suc left) n p h = omega (arith, p.0, h.0)
no_digits (x ∷ y ∷ bs) (suc (suc u)) value (suc left) n p h =
    no_digits (y ∷ bs) (suc u) (value * 128 + (x - 128)) left n p.2 h.1

front_goes_on : (n : ℕ) (bytes : List ℕ) → AllGoOn bytes → AllGoOn (take n bytes)
front_goes_on zero bytes h = tt
front_goes_on (suc n) [] h = tt
front_goes_on (suc n) (x ∷ bs) h = (h.0, front_goes_on n bs h.1)

value_not_big : (bytes : List ℕ) (number used : ℕ) → Finds bytes (mb.Value number used) → IsTooBig bytes → ⊥
value_not_big bytes number used p (inl q) = no_digits bytes used 0 5 number p.1.0 q.1
value_not_big bytes number used p (inr q) =
    let same = same_digits bytes used q.0 0 5 number q.1 p.0 q.2 p.1.0 q.3 in omega (arith, same.1, p.1.1, q.4)

value_not_more : (bytes : List ℕ) (number used : ℕ) → Finds bytes (mb.Value number used) → Finds bytes mb.More → ⊥
value_not_more bytes number used p q = no_digits bytes used 0 5 number p.1.0 (front_goes_on 5 bytes q.1)

more_not_big : (bytes : List ℕ) → Finds bytes mb.More → IsTooBig bytes → ⊥
more_not_big bytes p (inl q) = omega (arith, p.0, q.0)
more_not_big bytes p (inr q) = no_digits bytes q.0 0 5 q.1 q.3 (front_goes_on 5 bytes p.1)

same_value : (m n u v : ℕ) → u ≡ v → m ≡ n → mb.Value m u ≡ mb.Value n v
same_value m n u v p q = ap (λ x. mb.Value x u) q ∙ ap (λ x. mb.Value n x) p

pub one_is_found : OneIsFound
one_is_found bytes (mb.Value m u) (mb.Value n v) p q =
    let same = same_digits bytes u v 0 5 m n p.0 q.0 p.1.0 q.1.0 in same_value m n u v same.0 same.1
one_is_found bytes (mb.Value m u) mb.More p q = absurd (value_not_more bytes m u p q)
one_is_found bytes (mb.Value m u) mb.TooBig p q = absurd (value_not_big bytes m u p q)
one_is_found bytes mb.More (mb.Value n v) p q = absurd (value_not_more bytes n v q p)
one_is_found bytes mb.More mb.More p q = refl
one_is_found bytes mb.More mb.TooBig p q = absurd (more_not_big bytes p q)
one_is_found bytes mb.TooBig (mb.Value n v) p q = absurd (value_not_big bytes n v q p)
one_is_found bytes mb.TooBig mb.More p q = absurd (more_not_big bytes q p)
one_is_found bytes mb.TooBig mb.TooBig p q = refl
