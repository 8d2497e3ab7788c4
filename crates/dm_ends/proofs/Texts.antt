-- Texts that an end makes itself: names, decimals, base64 and digests.
use Rattle.std.proofs.Common.{◌≡◌, ◌<◌, ◌≤◌, ◌+◌, ◌&&◌, ◌^◌, ◌==◌, ◌/◌, ◌%◌, ◌*◌, ℕ, zero, suc, Bool, true, not, IsTrue}
use Rattle.std.proofs.Common.{List, [], ◌∷◌, ◌++◌, length, length-append, replicate, slice_index, nat_lt, nat_le, refl}
use Rattle.std.proofs.Common.{ap, ◌∙◌, arith}
use Rattle.std.specs.List.{list_all, AllByRecursion}
use Rattle.std.specs.Str.{IsAscii, all_ascii_digits}
use Rattle.std.specs.Fmt.{decimal}
use Rattle.std.specs.Str.Parse.{digits_value}
use Rattle.std.specs.Int.{w32, to_le_bytes}
use Rattle.std.proofs.lemmas.Bool.{and_parts, and_from, leb-true, le-leb, ne_eqb}
use Rattle.std.proofs.lemmas.Grind.{common_steps}
use Rattle.std.proofs.lemmas.Fmt.{length-decimal-le, digits_decimal}
use Rattle.std.proofs.lemmas.Str.{is_utf8-from_IsUtf8, IsUtf8-from_ascii}
use Rattle.std.proofs.lemmas.Str.Ascii.{IsAscii-nil}
use Rattle.std.proofs.lemmas.Str.Parse.{IsNumeralModel, numerals_by_value, tells_all_ascii_digits}
use Rattle.std.proofs.lemmas.List.Folds.{list_all-append}
use Rattle.md5.specs.Md5.{md5, digest_bytes}
use Rattle.base64.specs.Engines.{standard}
use Rattle.base64.specs.Rfc4648.{encode_symbols, padding_len}
use Rattle.base64.proofs.RoundTrip.{length-encode_symbols}
use Rattle.base64.proofs.Tables.{are_tables_alphabet, is_alphabet_symbol}
use Rattle.dm_base.specs.Fields.{is_visible, is_short, is_word}
use Rattle.syncml_types.specs.Message.{Parts}
use Rattle.syncml_types.specs.Canonical.{is_text}
use Rattle.syncml_types.specs.Fitness.{is_number, command_numbers, IsFit}
use Rattle.dm_auth.specs.Digests.{base64_of, digest_of}
use Rattle.dm_pack.proofs.Ready.{IsText, Passes}

-- ---- tests

pub pass_text : (test : List ℕ → Bool) (most : ℕ) (t : List ℕ) → Passes test → most ≤ 1000 → IsText most t
    → test t ≡ true
pass_text test most t passes within is = let few = is.few in passes.pass t is.text (omega (arith, few, within))

pub longer : (few most : ℕ) (t : List ℕ) → few ≤ most → IsText few t → IsText most t
longer few most t more is = record { text = is.text; few = let short = is.few in omega (arith, more, short) }

pub some_number : (n : ℕ) → 0 < n → is_number n ≡ true
some_number n some = ap not (ne_eqb n 0 (λ e. omega (arith, e, some)))

pub known_number : (m : Parts) → IsFit m.header m.body → 0 < m.header.msg
known_number m fit =
    let some = and_parts (is_number m.header.msg) (list_all command_numbers m.body) fit.numbers in
    grind (arith, common_steps, some)

-- ---- bytes from 01 to 7F are a text

abbrev pub is_low : ℕ → Bool
is_low b = nat_le 1 b && nat_le b 127

low_byte : (b : ℕ) → is_low b ≡ true → b < 128
low_byte b h = let top = leb-true b 127 (and_parts (nat_le 1 b) (nat_le b 127) h).1 in omega (arith, top)

low_ascii : (t : List ℕ) → list_all is_low t ≡ true → IsAscii t
low_ascii [] h i = IsAscii-nil i
low_ascii (b ∷ bs) h zero = low_byte b (and_parts (is_low b) _ h).0
low_ascii (b ∷ bs) h (suc i) = low_ascii bs (and_parts (is_low b) _ h).1 i

low_clear : (t : List ℕ) → list_all is_low t ≡ true → list_all (λ b. not (b == 0)) t ≡ true
low_clear [] h = refl
low_clear (b ∷ bs) h =
    let parts = and_parts (is_low b) _ h in
    let some = leb-true 1 b (and_parts (nat_le 1 b) (nat_le b 127) parts.0).0 in
    and_from _ _ (ap not (ne_eqb b 0 (λ e. omega (arith, e, some)))) (low_clear bs parts.1)

pub low_text : (t : List ℕ) → list_all is_low t ≡ true → is_text t ≡ true
low_text t h = and_from _ _ (is_utf8-from_IsUtf8 t (IsUtf8-from_ascii t (low_ascii t h))) (low_clear t h)

pub literal : (n : ℕ) (t : List ℕ) → list_all is_low t ≡ true → length t ≤ n → IsText n t
literal n t low few = record { text = low_text t low; few = few }

pub low_from : (b : ℕ) → 1 ≤ b → b ≤ 127 → is_low b ≡ true
low_from b least most = and_from _ _ (le-leb 1 b least) (le-leb b 127 most)

-- ---- names

visible_low : (t : List ℕ) → list_all is_visible t ≡ true → list_all is_low t ≡ true
visible_low [] h = refl
visible_low (b ∷ bs) h =
    let parts = and_parts (is_visible b) _ h in
    let ends = and_parts (nat_le 33 b) (nat_le b 126) parts.0 in
    let least = leb-true 33 b ends.0 in
    let most = leb-true b 126 ends.1 in
    and_from _ _ (low_from b (omega (arith, least)) (omega (arith, most))) (visible_low bs parts.1)

pub short_text : (t : List ℕ) → IsTrue (is_short t) → IsText 64 t
short_text t h =
    let parts = and_parts (is_word t) (nat_le (length t) 64) h in
    let word = and_parts (nat_lt 0 (length t) && nat_le (length t) 255) (list_all is_visible t) parts.0 in
    record { text = low_text t (visible_low t word.1); few = leb-true (length t) 64 parts.1 }

-- ---- decimals

digits_low : (t : List ℕ) → all_ascii_digits t ≡ true → list_all is_low t ≡ true
digits_low [] h = refl
digits_low (b ∷ bs) h =
    let range = tells_all_ascii_digits.parts b bs h in
    let least = range.0.0 in
    let most = range.0.1 in
    and_from _ _ (low_from b (omega (arith, least)) (omega (arith, most))) (digits_low bs range.1)

own_digits : IsNumeralModel (λ ds. all_ascii_digits ds ≡ true) (digits_value 10)
own_digits = numerals_by_value (λ ds. all_ascii_digits ds ≡ true) tells_all_ascii_digits

pub decimal_text : (n : ℕ) → n < 2 ^ 32 → IsText 10 (decimal n)
decimal_text n low =
    record {
      text = low_text (decimal n) (digits_low (decimal n) (digits_decimal own_digits n (omega (arith, low))));
      few = length-decimal-le 10 n (omega arith) (omega (arith, low)) (omega (arith, low));
    }

-- ---- base64

abbrev pub AreBytes : List ℕ → Type 0
AreBytes = AllByRecursion (λ b. b < 256)

abbrev LowAt : List ℕ → Type 0
LowAt t = (i : ℕ) → i < 64 → is_low (slice_index t i) ≡ true

symbols_low : (t m : List ℕ) → LowAt t → AreBytes m → list_all is_low (encode_symbols t m) ≡ true
unfolding encode_symbols
symbols_low t [] low h = refl
symbols_low t (a ∷ []) low h =
    let x = h.0 in
    and_from _ _ (low (a / 4) (omega (arith, x))) (and_from _ _ (low (a % 4 * 16) (omega arith)) refl)
symbols_low t (a ∷ b ∷ []) low h =
    let x = h.0 in
    let y = h.1.0 in
    and_from _ _ (low (a / 4) (omega (arith, x)))
    (and_from _ _ (low (a % 4 * 16 + b / 16) (omega (arith, y))) (and_from _ _ (low (b % 16 * 4) (omega arith)) refl))
symbols_low t (a ∷ b ∷ c ∷ rest) low h =
    let x = h.0 in
    let y = h.1.0 in
    let z = h.1.1.0 in
    and_from _ _ (low (a / 4) (omega (arith, x)))
    (and_from _ _ (low (a % 4 * 16 + b / 16) (omega (arith, y)))
    (and_from _ _ (low (b % 16 * 4 + c / 64) (omega (arith, z)))
    (and_from _ _ (low (c % 64) (omega arith)) (symbols_low t rest low h.1.1.1))))

padding_low : (n : ℕ) → list_all is_low (replicate n 61) ≡ true
padding_low zero = refl
padding_low (suc n) = padding_low n

standard_low : LowAt standard.encode_table
standard_low i h =
    let symbol = is_alphabet_symbol standard.encode_table standard.padding.value i
    (are_tables_alphabet standard.encode_table standard.decode_table standard.padding.value standard.tables) h in
    let least = symbol.0 in
    let most = symbol.1 in
    low_from (slice_index standard.encode_table i) (omega (arith, least)) (omega (arith, most))

long_padding : (n p : ℕ) → length (replicate n p) ≡ n
long_padding zero p = refl
long_padding (suc n) p = let rest = long_padding n p in omega (arith, rest)

pub base64_text : (m : List ℕ) → AreBytes m → length m ≡ 16 → IsText 24 (base64_of m)
base64_text m bytes long =
    record {
      text = low_text (base64_of m)
          (list_all-append is_low (encode_symbols standard.encode_table m) _
          ∙ and_from _ _ (symbols_low standard.encode_table m standard_low bytes)
          (padding_low (padding_len (length m))));
      few =
          let whole = length-append (encode_symbols standard.encode_table m) (replicate (padding_len (length m)) 61) in
          let symbols = length-encode_symbols standard.encode_table m in
          let padding = long_padding (padding_len (length m)) 61 in
          omega (arith, whole, symbols, padding, long);
    }

-- ---- digests

all_append : {A : Type 0} (P : A → Type 0) (xs ys : List A) → AllByRecursion P xs → AllByRecursion P ys
    → AllByRecursion P (xs ++ ys)
all_append P [] ys a b = b
all_append P (x ∷ xs) ys a b = (a.0, all_append P xs ys a.1 b)

word_bytes : (n : ℕ) → AreBytes (to_le_bytes w32 n)
word_bytes n = (omega arith, (omega arith, (omega arith, (omega arith, tt))))

digest_are_bytes : (h : List ℕ) (n : ℕ) → AreBytes (digest_bytes h n)
unfolding digest_bytes
digest_are_bytes h zero = tt
digest_are_bytes h (suc n) =
    all_append (λ b. b < 256) (digest_bytes h n) _ (digest_are_bytes h n) (word_bytes (slice_index h n))

digest_long : (h : List ℕ) (n : ℕ) → length (digest_bytes h n) ≡ 4 * n
unfolding digest_bytes
digest_long h zero = refl
digest_long h (suc n) =
    let rest = digest_long h n in
    let whole = length-append (digest_bytes h n) (to_le_bytes w32 (slice_index h n)) in
    omega (arith, rest, whole)

md5_text : (m : List ℕ) → IsText 24 (base64_of (md5 m))
unfolding md5
md5_text m = base64_text (md5 m) (digest_are_bytes _ 4) (digest_long _ 4)

pub digest_text : (user password nonce : List ℕ) → IsText 24 (base64_of (digest_of user password nonce))
digest_text user password nonce = md5_text _
