-- Words are texts.
use Rattle.std.proofs.Common.{◌≡◌, ◌<◌, ℕ, true, not, List, [], ◌∷◌, refl, ap, arith, ◌∙◌}
use Rattle.std.proofs.lemmas.Bool.{and_parts}
use Rattle.std.proofs.lemmas.Bool.Decides.{nat_tests}
use Rattle.std.proofs.lemmas.Str.{IsUtf8-from_ascii}
use Rattle.std.proofs.lemmas.Str.Ascii.{IsAscii-nil, IsAscii-cons}
use Rattle.std.specs.Prelude.{◌&&◌, ◌==◌, nat_le}
use Rattle.std.specs.List.{list_all}
use Rattle.std.specs.Str.{IsAscii, IsUtf8}
use Rattle.dm_base.specs.Fields.{is_visible, is_word}

visible : (b : ℕ) → is_visible b ≡ true → (b < 128) × (not (b == 0) ≡ true)
visible b h =
    let both = and_parts (nat_le 33 b) (nat_le b 126) h in
    (below b both.1, above b both.0)
  where
    below : (b : ℕ) → nat_le b 126 ≡ true → b < 128
    below b h = grind (arith, nat_tests)

    above : (b : ℕ) → nat_le 33 b ≡ true → not (b == 0) ≡ true
    above b h = grind (arith, nat_tests)

all_ascii : (bytes : List ℕ) → list_all is_visible bytes ≡ true → IsAscii bytes
all_ascii [] h = IsAscii-nil
all_ascii (b ∷ bs) h = let both =
    and_parts (is_visible b) (list_all is_visible bs) h in IsAscii-cons b bs (visible b both.0).0 (all_ascii bs both.1)

no_zero : (bytes : List ℕ) → list_all is_visible bytes ≡ true → list_all (λ b. not (b == 0)) bytes ≡ true
no_zero [] h = refl
no_zero (b ∷ bs) h =
    let both = and_parts (is_visible b) (list_all is_visible bs) h in
    ap (λ c. c && list_all (λ b. not (b == 0)) bs) (visible b both.0).1 ∙ no_zero bs both.1

pub word_is_text : (text : List ℕ) → is_word text ≡ true
    → IsUtf8 text × (list_all (λ b. not (b == 0)) text ≡ true)
word_is_text text h =
    let bytes = (and_parts _ (list_all is_visible text) h).1 in
    (IsUtf8-from_ascii text (all_ascii text bytes), no_zero text bytes)
