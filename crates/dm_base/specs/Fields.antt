-- The fields of a line: what stands between single spaces (byte 32), and the forms that a field may have.
use Rattle.std.specs.Prelude.{◌==◌, ◌&&◌, ◌||◌, ◌^◌, ◌%◌, ℕ, Bool, not, if◌then◌else◌, nat_lt, nat_le, List, [], ◌∷◌}
use Rattle.std.specs.Prelude.{length, slice_get, slice_index, bytes_eq, codes, Option, Some, None, option_map}
use Rattle.std.specs.List.{list_all, slice_split}
use Rattle.std.specs.Result.{result_ok}
use Rattle.std.specs.Str.{all_ascii_digits}
use Rattle.std.specs.Str.Parse.{digits_value}
use Rattle.hex.specs.Hex.{decode_of, decode_sized, encode_lower, is_hex_digit}
use Rattle.dm_base.specs.declared.fields.FieldForm.{FieldForm}
use Rattle.dm_base.specs.declared.fields.FieldForm.TheVariants.{Word, Id, Short, Opt, Hex, Key, Nonce, Num}
use Rattle.dm_base.specs.declared.values.Nonce.{Nonce as Challenge}

-- the parts of a line between its spaces
abbrev pub parts : List ℕ → List (List ℕ)
parts line = slice_split (λ b. b == 32) line

-- the n-th part, counted from 0
abbrev pub field_of : List ℕ → ℕ → Option (List ℕ)
field_of line n = slice_get (parts line) n

-- 21 to 7E
abbrev pub is_visible : ℕ → Bool
is_visible b = nat_le 33 b && nat_le b 126

-- WORD: 1 to 255 visible bytes
abbrev pub is_word : List ℕ → Bool
is_word text = nat_lt 0 (length text) && nat_le (length text) 255 && list_all is_visible text

-- SHORT: a WORD of at most 64 bytes
abbrev pub is_short : List ℕ → Bool
is_short text = is_word text && nat_le (length text) 64

-- the bytes `&`, `+`, `=` and `*`, which have a meaning in access lists
abbrev pub is_acl_sign : ℕ → Bool
is_acl_sign b = b == 38 || b == 43 || b == 61 || b == 42

-- ID: the name of a server, which is a SHORT without those signs and not `-`
abbrev pub is_id : List ℕ → Bool
is_id text = is_short text && list_all (λ b. not (is_acl_sign b)) text && not (bytes_eq text (codes "-"))

-- HEX: an even number of hexadecimal digits of either case, or `-` for no byte
abbrev pub is_hex : List ℕ → Bool
is_hex text =
    bytes_eq text (codes "-") || (nat_lt 0 (length text) && length text % 2 == 0 && list_all is_hex_digit text)

-- the bytes that a HEX stands for
abbrev pub hex_of : List ℕ → Option (List ℕ)
hex_of text =
    if bytes_eq text (codes "-") then Some [] else if nat_lt 0 (length text) then result_ok (decode_of text) else None

-- the HEX of bytes, in lower case
abbrev pub hex_text : List ℕ → List ℕ
hex_text [] = codes "-"
hex_text (b ∷ bs) = encode_lower (b ∷ bs)

-- KEY: a HEX that stands for at most 64 bytes
abbrev pub is_key : List ℕ → Bool
is_key text = is_hex text && nat_le (length text) 128

-- NONCE: 32 hexadecimal digits
abbrev pub is_nonce : List ℕ → Bool
is_nonce text = length text == 32 && list_all is_hex_digit text

abbrev pub challenge_of : List ℕ → Option Challenge
challenge_of text = option_map (λ bytes. record { bytes = bytes }) (result_ok (decode_sized text 16))

-- decimal digits without a sign or a leading zero
abbrev pub is_numeral : List ℕ → Bool
is_numeral text =
    nat_lt 0 (length text) && all_ascii_digits text && (length text == 1 || not (slice_index text 0 == 48))

-- NUM: such digits, of a number that fits 64 bits
abbrev pub is_num : List ℕ → Bool
is_num text = is_numeral text && nat_lt (digits_value 10 text) (2 ^ 64)

abbrev pub num_of : List ℕ → Option ℕ
num_of text = if is_num text then Some (digits_value 10 text) else None

-- whether a text is of a form
abbrev pub is_form : FieldForm → List ℕ → Bool
is_form Word text = is_word text
is_form Id text = is_id text
is_form Short text = is_short text
is_form Opt text = is_short text
is_form Hex text = is_hex text
is_form Key text = is_key text
is_form Nonce text = is_nonce text
is_form Num text = is_num text
