-- The digits of bytes, piece by piece.
use Rattle.std.proofs.Common.{◌≡◌, ◌*◌, ◌/◌, ◌%◌, ◌≤◌, ℕ, List, [], ◌∷◌, ◌++◌, length, take, drop, refl, sym, ap, ◌∙◌}
use Rattle.std.proofs.Common.{arith, append_assoc, take-append-drop, length-take, subst, Ok, Err, Result}
use Rattle.std.proofs.lemmas.List.{take-append-le}
use Rattle.std.proofs.Math.Seq.{take-append_seam}
use Rattle.std.specs.Prelude.{slice_index, OnOk, OnErr}
use Rattle.hex.specs.Hex.{encode_with, encode_lower, lower_digits}
use Rattle.hex.proofs.HexLemmas.{length-encode_with}

encode_append : (t xs ys : List ℕ) → encode_with t (xs ++ ys) ≡ encode_with t xs ++ encode_with t ys
unfolding encode_with
encode_append t [] ys = refl
encode_append t (b ∷ xs) ys =
    ap (λ rest. slice_index t (b / 16) ∷ slice_index t (b % 16) ∷ rest) (encode_append t xs ys)

-- the digits of a front come behind what stands there, and those of the rest are left
pub digits_more : (first out more bytes chunk rest digits : List ℕ) (m : ℕ)
    → out ++ encode_lower bytes ≡ first → chunk ≡ take m bytes → rest ≡ drop m bytes → digits ≡ encode_lower chunk
    → more ≡ out ++ digits → more ++ encode_lower rest ≡ first
digits_more first out more bytes chunk rest digits m so_far front back are is =
    let parts : chunk ++ rest ≡ bytes =
    ap (λ l. l ++ rest) front ∙ ap (λ l. take m bytes ++ l) back ∙ take-append-drop m bytes in
    ap (λ l. l ++ encode_lower rest) (is ∙ ap (λ d. out ++ d) are)
    ∙ append_assoc out (encode_lower chunk) (encode_lower rest)
    ∙ ap (λ l. out ++ l) (sym (encode_append lower_digits chunk rest) ∙ ap encode_lower parts) ∙ so_far

-- the digits of a front are the front of the digits
pub digits_of_front : (bytes front behind digits : List ℕ) → digits ≡ encode_lower (front ++ behind) → front ≡ bytes
    → take (2 * length bytes) digits ≡ encode_lower bytes
digits_of_front bytes front behind digits are is =
    let all : digits ≡ encode_lower bytes ++ encode_lower behind =
    are ∙ ap (λ l. encode_lower (l ++ behind)) is ∙ encode_append lower_digits bytes behind in
    ap (take (2 * length bytes)) all
    ∙ subst (λ n. take n (encode_lower bytes ++ encode_lower behind) ≡ encode_lower bytes)
    (length-encode_with lower_digits bytes) (take-append_seam (encode_lower bytes) (encode_lower behind))

-- what stood in front still does
pub front_stays : (first out digits more : List ℕ) → take (length first) out ≡ first → more ≡ out ++ digits
    → take (length first) more ≡ first
front_stays first out digits more front is =
    let taken : length first ≡ length (take (length first) out) = ap length (sym front) in
    let counted = length-take (length first) out in
    let within : length first ≤ length out = omega (arith, taken, counted) in
    ap (take (length first)) is ∙ take-append-le (length first) out digits within ∙ front

-- the same, whether more came or not
pub front_kept : {A B : Type 0} (r : Result A B) (first out digits more : List ℕ) → take (length first) out ≡ first
    → OnOk r (more ≡ out ++ digits) → OnErr r (more ≡ out) → take (length first) more ≡ first
front_kept (Ok u) first out digits more front ok err = front_stays first out digits more front ok
front_kept (Err e) first out digits more front ok err = ap (take (length first)) err ∙ front
