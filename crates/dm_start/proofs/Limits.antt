-- A path with a name more, and its limits.
use Rattle.std.proofs.Common.{◌≡◌, ◌≤◌, ◌<◌, ◌+◌, ℕ, true, List, [], ◌∷◌, ◌++◌, length, refl, arith, length-append}
use Rattle.std.proofs.lemmas.Bool.{and_from, and_parts}
use Rattle.std.proofs.lemmas.Bool.Decides.{nat_tests}
use Rattle.std.specs.Prelude.{◌&&◌, nat_le}
use Rattle.std.specs.List.{list_all}
use Rattle.dm_uri.specs.Names.{has_name_form, is_short_name, is_name, is_within_limits, printed_path, IsPath}

all_short : (p : List (List ℕ)) (name : List ℕ) → list_all is_name p ≡ true → is_name name ≡ true
    → list_all is_short_name (p ++ name ∷ []) ≡ true
all_short [] name h named =
    and_from (is_short_name name) true (and_parts (has_name_form name) (is_short_name name) named).1 refl
all_short (n ∷ ns) name h named =
    let both = and_parts (is_name n) (list_all is_name ns) h in
    let form = and_parts (has_name_form n) (is_short_name n) both.0 in
    and_from (is_short_name n) (list_all is_short_name (ns ++ name ∷ [])) form.1 (all_short ns name both.1 named)

one_more : (p : List (List ℕ)) (name : List ℕ) → length (p ++ name ∷ []) ≡ length p + 1
one_more p name = length-append p (name ∷ [])

few : (n : ℕ) → n ≤ 16 → nat_le n 16 ≡ true
few n h = grind (arith, nat_tests)

short : (n : ℕ) → n ≤ 255 → nat_le n 255 ≡ true
short n h = grind (arith, nat_tests)

pub within : (p : List (List ℕ)) (name : List ℕ) → IsPath p → is_name name ≡ true → length p < 16
    → length (printed_path (p ++ name ∷ [])) ≤ 255 → is_within_limits (p ++ name ∷ []) ≡ true
within p name path named room print =
    and_from (list_all is_short_name (p ++ name ∷ []) && nat_le (length (p ++ name ∷ [])) 16)
    (nat_le (length (printed_path (p ++ name ∷ []))) 255)
    (and_from (list_all is_short_name (p ++ name ∷ [])) (nat_le (length (p ++ name ∷ [])) 16)
    (all_short p name path.names named)
    (few _ (omega (arith, one_more p name, room))))
    (short _ print)
