-- Where a text has a value, and that what is written has its value.
use Rattle.std.proofs.Common.{None, Some, Ok, Err, Bool, true, false, cond, ◌&&◌, ◌||◌, ◌==◌, ◌%◌, ◌≡◌, ◌<◌, ℕ, List}
use Rattle.std.proofs.Common.{[], ◌∷◌, refl, sym, ap, ◌∙◌, length, arith, Result}
use Rattle.std.specs.Prelude.{bytes_eq, codes, nat_lt, is_some, option_map, Option, if◌then◌else◌}
use Rattle.std.specs.Bool.{Decides}
use Rattle.std.specs.List.{list_all}
use Rattle.std.specs.Result.{result_ok}
use Rattle.std.proofs.lemmas.Bool.{lt-ltb}
use Rattle.std.proofs.lemmas.Slice.Eq.{bytes_eq-Decides}
use Rattle.std.proofs.lemmas.List.Sums.{AllPass-from_list_all, list_all-from_AllPass}
use Rattle.hex.specs.Hex.{decode_of, decode_sized, encode_lower, lower_digits, is_hex_digit}
use Rattle.hex.specs.declared.error.FromHexError.{FromHexError}
use Rattle.hex.proofs.HexLemmas.{decode_of-ok, decode_of-digits, decode_sized-ok, decode_sized-twice}
use Rattle.hex.proofs.HexLemmas.{decode_of-encode_lower, length-encode_with}
use Rattle.dm_base.specs.Fields.{is_nonce, is_num}
use Rattle.dm_base.specs.Laws.{HexHasBytes, NonceHasBytes, NumHasNumber, HexIsReadAgain}

-- a test that holds exactly where an answer is a value
decides : (b : Bool) (r : Result (List ℕ) FromHexError) → ((bytes : List ℕ) → r ≡ Ok bytes → b ≡ true)
    → (b ≡ true → (bytes : List ℕ) × (r ≡ Ok bytes)) → b ≡ is_some (result_ok r)
decides b (Ok bytes) holds value = holds bytes refl
decides true (Err e) holds value = cc (value refl).1
decides false (Err e) holds value = refl

both : (a b : Bool) → a ≡ true → b ≡ true → (a && b) ≡ true
both true b e f = f
both false b e f = cc

left : (a b : Bool) → (a && b) ≡ true → a ≡ true
left true b h = refl
left false b h = cc

right : (a b : Bool) → (a && b) ≡ true → b ≡ true
right true b h = h
right false b h = cc

even_digits : (text : List ℕ)
    → (length text % 2 == 0 && list_all is_hex_digit text) ≡ is_some (result_ok (decode_of text))
even_digits text =
    decides (length text % 2 == 0 && list_all is_hex_digit text) (decode_of text)
    (λ bytes h. let ok = decode_of-ok text bytes h in
    both (length text % 2 == 0) _ (rw ok.0 refl) (list_all-from_AllPass is_hex_digit text ok.1))
    (λ h. decode_of-digits text (grind (arith, left (length text % 2 == 0) _ h))
    (AllPass-from_list_all is_hex_digit text (right (length text % 2 == 0) _ h)))

by_cases : (dash some even digits : Bool) (o : Option (List ℕ)) → (even && digits) ≡ is_some o
    → (dash || (some && even && digits)) ≡ is_some (if dash then Some [] else if some then o else None)
by_cases true some even digits o h = refl
by_cases false true even digits o h = h
by_cases false false even digits o h = refl

pub hex_has_bytes : HexHasBytes
hex_has_bytes text =
    by_cases (bytes_eq text (codes "-")) (nat_lt 0 (length text)) (length text % 2 == 0) _ (result_ok (decode_of text))
    (even_digits text)

is_some_map : {X Y : Type 0} (f : X → Y) (o : Option X) → is_some (option_map f o) ≡ is_some o
is_some_map f None = refl
is_some_map f (Some x) = refl

sixteen : (text : List ℕ) → is_nonce text ≡ is_some (result_ok (decode_sized text 16))
sixteen text =
    decides (is_nonce text) (decode_sized text 16)
    (λ bytes h.
    let n = decode_sized-ok text 16 bytes h in
    let ok = decode_of-ok text bytes (sym (decode_sized-twice text 16 n) ∙ h) in
    both (length text == 32) _ (rw n refl) (list_all-from_AllPass is_hex_digit text ok.1))
    (λ h.
    let n : length text ≡ 32 = grind (arith, left (length text == 32) _ h) in
    let r =
    decode_of-digits text (omega (arith, n))
    (AllPass-from_list_all is_hex_digit text (right (length text == 32) _ h)) in
    (r.0, decode_sized-twice text 16 (omega (arith, n)) ∙ r.1))

pub nonce_has_bytes : NonceHasBytes
nonce_has_bytes text = sixteen text ∙ sym (is_some_map _ (result_ok (decode_sized text 16)))

is_some_where : (b : Bool) (n : ℕ) → b ≡ is_some (cond b (Some n) None)
is_some_where true n = refl
is_some_where false n = refl

pub num_has_number : NumHasNumber
num_has_number text = is_some_where (is_num text) _

not_dash : (text : List ℕ) → 1 < length text → (b : Bool) → Decides b (text ≡ codes "-") → b ≡ false
not_dash text long true same = let e = ap length (same.0 refl) in absurd (omega (arith, e, long))
not_dash text long false same = refl

by_value : (dash some : Bool) (o : Option (List ℕ)) (bytes : List ℕ) → dash ≡ false → some ≡ true → o ≡ Some bytes
    → (if dash then Some [] else if some then o else None) ≡ Some bytes
by_value dash some o bytes e f g = rw (e, f) g

pub hex_is_read_again : HexIsReadAgain
hex_is_read_again [] h = refl
hex_is_read_again (b ∷ bs) h =
    let long = length-encode_with lower_digits (b ∷ bs) in
    by_value (bytes_eq (encode_lower (b ∷ bs)) (codes "-")) (nat_lt 0 (length (encode_lower (b ∷ bs))))
    (result_ok (decode_of (encode_lower (b ∷ bs)))) (b ∷ bs)
    (not_dash (encode_lower (b ∷ bs)) (omega (arith, long)) _ (bytes_eq-Decides (encode_lower (b ∷ bs)) (codes "-")))
    (lt-ltb 0 (length (encode_lower (b ∷ bs))) (omega (arith, long)))
    (ap result_ok (decode_of-encode_lower (b ∷ bs) h))
