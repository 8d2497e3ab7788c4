-- What stands at the front of bytes is the function of them.
use Rattle.std.proofs.Common.{ℕ, zero, suc, ◌≡◌, ◌<◌, ◌≤◌, ◌^◌, ◌+◌, ◌*◌, ◌-◌, List, [], ◌∷◌, length, take, inl, inr}
use Rattle.std.proofs.Common.{◌⊎◌, refl, sym, ap, ◌∙◌, subst, rules, arith}
use Rattle.std.specs.Prelude.{Bool, true, false, nat_lt, if◌then◌else◌}
use Rattle.wbxml_ints.specs.declared.Mb.{Mb}
use Rattle.wbxml_ints.specs.declared.Mb.TheVariants as mb
use Rattle.wbxml_ints.specs.Multibyte.{IsDigitsFrom, IsDigits, AreBytes, AllGoOn, whole_number, integer_from}
use Rattle.wbxml_ints.specs.Multibyte.{integer_at}
use Rattle.wbxml_ints.specs.Multibyte.{IsTooBig, Finds}

ends : (value used left b : ℕ) (bs : List ℕ) → b < 128
    → integer_from value used (suc left) (b ∷ bs) ≡ whole_number (value * 128 + b) (suc used)
ends value used left b bs small =
    let low : nat_lt b 128 ≡ true = grind arith in
    ap (λ (c : Bool). if c then whole_number (value * 128 + b) (suc used)
    else integer_from (value * 128 + (b - 128)) (suc used) left bs) low

goes_on : (value used left b : ℕ) (bs : List ℕ) → 128 ≤ b
    → integer_from value used (suc left) (b ∷ bs) ≡ integer_from (value * 128 + (b - 128)) (suc used) left bs
goes_on value used left b bs large =
    let high : nat_lt b 128 ≡ false = grind arith in
    ap (λ (c : Bool). if c then whole_number (value * 128 + b) (suc used)
    else integer_from (value * 128 + (b - 128)) (suc used) left bs) high

-- digits lead to their number
digits_lead : (bytes : List ℕ) (n value used left k : ℕ) → k ≤ length bytes → IsDigitsFrom n value left (take k bytes)
    → integer_from value used left bytes ≡ whole_number n (used + k)
digits_lead bytes n value used left zero few h = absurd h
digits_lead [] n value used left (suc k) few h = absurd h
digits_lead (b ∷ bs) n value used zero (suc k) few h = absurd h
digits_lead (b ∷ bs) n value used (suc left) (suc zero) few h =
    let one : suc used ≡ used + 1 = omega arith in
    ends value used left b bs h.0 ∙ ap (λ m. whole_number m (suc used)) (sym h.1) ∙ ap (whole_number n) one
digits_lead (b ∷ []) n value used (suc left) (suc (suc k)) few h = absurd (omega (arith, few))
digits_lead (b ∷ c ∷ bs) n value used (suc left) (suc (suc k)) few h =
    let more : suc used + suc k ≡ used + suc (suc k) = omega arith in
    goes_on value used left b (c ∷ bs) h.0
    ∙ digits_lead (c ∷ bs) n (value * 128 + (b - 128)) (suc used) left (suc k) (omega (arith, few)) h.2
    ∙ ap (whole_number n) more

all_go_on : (bytes : List ℕ) (value used left : ℕ) → length bytes < left → AllGoOn bytes
    → integer_from value used left bytes ≡ mb.More
all_go_on [] value used zero short h = absurd (omega (arith, short))
all_go_on [] value used (suc left) short h = refl
all_go_on (b ∷ bs) value used zero short h = absurd (omega (arith, short))
all_go_on (b ∷ bs) value used (suc left) short h =
    goes_on value used left b bs h.0 ∙ all_go_on bs (value * 128 + (b - 128)) (suc used) left (omega (arith, short)) h.1

no_end : (bytes : List ℕ) (value used left : ℕ) → left ≤ length bytes → AllGoOn (take left bytes)
    → integer_from value used left bytes ≡ mb.TooBig
no_end bytes value used zero enough h = refl
no_end [] value used (suc left) enough h = absurd (omega (arith, enough))
no_end (b ∷ bs) value used (suc left) enough h =
    goes_on value used left b bs h.0 ∙ no_end bs (value * 128 + (b - 128)) (suc used) left (omega (arith, enough)) h.1

fits : (n used : ℕ) → n < 2 ^ 32 → whole_number n used ≡ mb.Value n used
fits n used small =
    let low : nat_lt n (2 ^ 32) ≡ true = grind arith in ap (λ (c : Bool). if c then mb.Value n used else mb.TooBig) low

passes : (n used : ℕ) → 2 ^ 32 ≤ n → whole_number n used ≡ mb.TooBig
passes n used large =
    let high : nat_lt n (2 ^ 32) ≡ false = grind arith in
    ap (λ (c : Bool). if c then mb.Value n used else mb.TooBig) high

from_none : (n k : ℕ) → whole_number n (0 + k) ≡ whole_number n k
from_none n k =
    let same : 0 + k ≡ k = omega arith in ap (whole_number n) same

pub found_is_at : (bytes : List ℕ) (found : Mb) → Finds bytes found → found ≡ integer_at bytes
found_is_at bytes (mb.Value n k) h = sym (digits_lead bytes n 0 0 5 k h.0 h.1.0 ∙ from_none n k ∙ fits n k h.1.1)
found_is_at bytes mb.More h = sym (all_go_on bytes 0 0 5 h.0 h.1)
found_is_at bytes mb.TooBig (inl h) = sym (no_end bytes 0 0 5 h.0 h.1)
found_is_at bytes mb.TooBig (inr h) = sym (digits_lead bytes h.1 0 0 5 h.0 h.2 h.3 ∙ passes h.1 (0 + h.0) h.4)

-- ---- the way back, over bytes

-- digits that were read, so many of these bytes
abbrev Digits : ℕ → ℕ → ℕ → ℕ → ℕ → List ℕ → Type 0
Digits n m value used left bytes =
    (k : ℕ) × (m ≡ used + k) × (k ≤ length bytes) × IsDigitsFrom n value left (take k bytes) × (n < 2 ^ 32)

value_is : (a b c d : ℕ) → mb.Value a b ≡ mb.Value c d → (a ≡ c) × (b ≡ d)
value_is a b c d e = (cc, cc)

digits_one : (value used left b n m : ℕ) (bs : List ℕ) (c : Bool) → nat_lt (value * 128 + b) (2 ^ 32) ≡ c → b < 128
    → (if c then mb.Value (value * 128 + b) (suc used) else mb.TooBig) ≡ mb.Value n m
    → Digits n m value used (suc left) (b ∷ bs)
digits_one value used left b n m bs true e small is =
    let same = value_is (value * 128 + b) (suc used) n m is in
    let fits_in : value * 128 + b < 2 ^ 32 = search rules in
    (1, omega (arith, same.1), omega arith, (small, sym same.0), omega (arith, same.0, fits_in))
digits_one value used left b n m bs false e small is = absurd cc

digits_on : (value used left b n m : ℕ) (bs : List ℕ) → 128 ≤ b → b < 256
    → Digits n m (value * 128 + (b - 128)) (suc used) left bs
    → Digits n m value used (suc left) (b ∷ bs)
digits_on value used left b n m [] low high (k, is, few, digits, small) = absurd (none k few digits)
  where
    none : (k : ℕ) → k ≤ 0 → IsDigitsFrom n (value * 128 + (b - 128)) left (take k []) → ⊥
    none zero few h = absurd h
    none (suc k) few h = omega (arith, few)
digits_on value used left b n m (c ∷ cs) low high (zero, is, few, digits, small) = absurd digits
digits_on value used left b n m (c ∷ cs) low high (suc k, is, few, digits, small) =
    (suc (suc k), omega (arith, is), omega (arith, few), (low, high, digits), small)

digits_read : (bytes : List ℕ) (value used left n m : ℕ) → AreBytes bytes
    → integer_from value used left bytes ≡ mb.Value n m → Digits n m value used left bytes
digits_read bytes value used zero n m fit is = absurd cc
digits_read [] value used (suc left) n m fit is = absurd cc
digits_read (b ∷ bs) value used (suc left) n m fit is =
    digits_first value used left b n m bs (nat_lt b 128) refl fit.0 is
    (digits_read bs (value * 128 + (b - 128)) (suc used) left n m fit.1)
  where
    digits_first : (value used left b n m : ℕ) (bs : List ℕ) (c : Bool) → nat_lt b 128 ≡ c → b < 256
        → (if c then whole_number (value * 128 + b) (suc used)
        else integer_from (value * 128 + (b - 128)) (suc used) left bs) ≡ mb.Value n m
        → (integer_from (value * 128 + (b - 128)) (suc used) left bs ≡ mb.Value n m
        → Digits n m (value * 128 + (b - 128)) (suc used) left bs)
        → Digits n m value used (suc left) (b ∷ bs)
    digits_first value used left b n m bs true e high is later =
        digits_one value used left b n m bs (nat_lt (value * 128 + b) (2 ^ 32)) refl (search rules) is
    digits_first value used left b n m bs false e high is later =
        digits_on value used left b n m bs (search rules) high (later is)

-- the integer at the front of bytes is spelled there
pub at_is_found : (bytes : List ℕ) (n used : ℕ) → AreBytes bytes → integer_at bytes ≡ mb.Value n used
    → Finds bytes (mb.Value n used)
at_is_found bytes n used fit is =
    let h = digits_read bytes 0 0 5 n used fit is in
    let same : h.0 ≡ used = omega (arith, h.1) in
    (omega (arith, h.2, same), (subst (λ k. IsDigits n (take k bytes)) same h.3, h.4))

-- bytes that go on, or digits past 32 bits
abbrev Passes : ℕ → ℕ → List ℕ → Type 0
Passes value left bytes =
    ((left ≤ length bytes) × AllGoOn (take left bytes))
    ⊎ ((k : ℕ) × (n : ℕ) × (k ≤ length bytes) × IsDigitsFrom n value left (take k bytes) × (2 ^ 32 ≤ n))

passes_one : (value used left b : ℕ) (bs : List ℕ) (c : Bool) → nat_lt (value * 128 + b) (2 ^ 32) ≡ c → b < 128
    → (if c then mb.Value (value * 128 + b) (suc used) else mb.TooBig) ≡ mb.TooBig → Passes value (suc left) (b ∷ bs)
passes_one value used left b bs true e small is = absurd cc
passes_one value used left b bs false e small is =
    let above : 2 ^ 32 ≤ value * 128 + b = search rules in inr (1, value * 128 + b, omega arith, (small, refl), above)

passes_on : (value left b : ℕ) (bs : List ℕ) → 128 ≤ b → b < 256 → Passes (value * 128 + (b - 128)) left bs
    → Passes value (suc left) (b ∷ bs)
passes_on value left b bs low high (inl (few, all)) = inl (omega (arith, few), (low, all))
passes_on value left b [] low high (inr (zero, n, few, digits, large)) = absurd digits
passes_on value left b [] low high (inr (suc k, n, few, digits, large)) = absurd (omega (arith, few))
passes_on value left b (c ∷ cs) low high (inr (zero, n, few, digits, large)) = absurd digits
passes_on value left b (c ∷ cs) low high (inr (suc k, n, few, digits, large)) =
    inr (suc (suc k), n, omega (arith, few), (low, high, digits), large)

passes_read : (bytes : List ℕ) (value used left : ℕ) → AreBytes bytes → integer_from value used left bytes ≡ mb.TooBig
    → Passes value left bytes
passes_read bytes value used zero fit is = inl (omega arith, tt)
passes_read [] value used (suc left) fit is = absurd cc
passes_read (b ∷ bs) value used (suc left) fit is =
    passes_first value used left b bs (nat_lt b 128) refl fit.0 is
    (passes_read bs (value * 128 + (b - 128)) (suc used) left fit.1)
  where
    passes_first : (value used left b : ℕ) (bs : List ℕ) (c : Bool) → nat_lt b 128 ≡ c → b < 256
        → (if c then whole_number (value * 128 + b) (suc used)
        else integer_from (value * 128 + (b - 128)) (suc used) left bs) ≡ mb.TooBig
        → (integer_from (value * 128 + (b - 128)) (suc used) left bs ≡ mb.TooBig
        → Passes (value * 128 + (b - 128)) left bs) → Passes value (suc left) (b ∷ bs)
    passes_first value used left b bs true e high is later =
        passes_one value used left b bs (nat_lt (value * 128 + b) (2 ^ 32)) refl (search rules) is
    passes_first value used left b bs false e high is later = passes_on value left b bs (search rules) high (later is)

pub big_is_found : (bytes : List ℕ) → AreBytes bytes → integer_at bytes ≡ mb.TooBig → IsTooBig bytes
big_is_found bytes fit is = passes_read bytes 0 0 5 fit is
