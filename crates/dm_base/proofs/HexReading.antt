-- Digits are read by pairs: pair by pair, text behind text, and block by block.
use Rattle.std.proofs.Common.{None, Some, Ok, Err, Bool, true, false, cond, ◌&&◌, ◌≡◌, ◌<◌, ◌+◌, ◌-◌, ◌*◌, ◌/◌, ◌%◌}
use Rattle.std.proofs.Common.{◌^◌}
use Rattle.std.proofs.Common.{ℕ, zero, suc, T, eqb, eqb→eq, leb, List, [], ◌∷◌, ◌++◌, refl, sym, ap, ◌∙◌, subst, length}
use Rattle.std.proofs.Common.{map}
use Rattle.std.proofs.Common.{get_or, replicate, bit_or, arith, Result, w8, Fits, inl, inr, eq-zero-or-pos, le-leb}
use Rattle.std.proofs.Common.{take, eqb-true}
use Rattle.std.proofs.Common.{drop, append_assoc, length-append}
use Rattle.std.specs.Prelude.{nat_le, Option, option_map, unwrap_or}
use Rattle.std.specs.List.{list_all}
use Rattle.std.specs.Result.{result_ok}
use Rattle.std.proofs.Math.Seq.{take-append_seam}
use Rattle.std.proofs.Math.Nat.{pow-succ'}
use Rattle.std.proofs.lemmas.Bool.{eq-eqb}
use Rattle.std.proofs.lemmas.List.{length-map}
use Rattle.std.proofs.lemmas.Simd.{mask_l-lt}
use Rattle.std.proofs.lemmas.List.Folds.{list_all-append}
use Rattle.std.proofs.lemmas.List.Sums.{AllPass-from_list_all}
use lib.Ieee.Fits.{and_l, and_r}
use lib.Lanes.{zip2, sel_l, mask_l, top, Each1}
use Rattle.hex.specs.Hex.{decode_of, decode_sized, decode_pairs, digit_or_error, hex_digit_value, is_hex_digit, ◌>>=◌}
use Rattle.hex.specs.declared.error.FromHexError.{FromHexError}
use Rattle.hex.proofs.HexLemmas.{decode_of-even, decode_pairs-ok, decode_pairs-digits, decode_sized-ok}
use Rattle.hex.proofs.HexLemmas.{decode_sized-twice}

-- ---- pair by pair

abbrev pub pair_in_front : Option ℕ → Option ℕ → Option (List ℕ) → Option (List ℕ)
pair_in_front (Some h) (Some l) (Some bytes) = Some ((h * 16 + l) ∷ bytes)
pair_in_front (Some h) (Some l) None = None
pair_in_front (Some h) None rest = None
pair_in_front None low rest = None

-- the bytes of pairs of digits, where all are digits
abbrev pub read : List ℕ → Option (List ℕ)
read [] = Some []
read (a ∷ []) = None
read (a ∷ b ∷ rest) = pair_in_front (hex_digit_value a) (hex_digit_value b) (read rest)

one_pair : (high low : Option ℕ) (a b i j : ℕ) (r : Result (List ℕ) FromHexError)
    → result_ok ((digit_or_error a i high >>= λ h. (digit_or_error b j low >>= λ l. Ok (h * 16 + l)))
    >>= λ byte. (r >>= λ bytes. Ok (byte ∷ bytes))) ≡ pair_in_front high low (result_ok r)
one_pair (Some h) (Some l) a b i j (Ok bytes) = refl
one_pair (Some h) (Some l) a b i j (Err e) = refl
one_pair (Some h) None a b i j r = refl
one_pair None low a b i j r = refl

pub read_is : (i : ℕ) (text : List ℕ) → result_ok (decode_pairs i text) ≡ read text
unfolding decode_pairs
read_is i [] = refl
read_is i (a ∷ []) = refl
read_is i (a ∷ b ∷ rest) =
    one_pair (hex_digit_value a) (hex_digit_value b) a b i (i + 1) (decode_pairs (i + 2) rest)
    ∙ ap (pair_in_front (hex_digit_value a) (hex_digit_value b)) (read_is (i + 2) rest)

-- ---- text behind text

abbrev pub joined : Option (List ℕ) → Option (List ℕ) → Option (List ℕ)
joined (Some xs) (Some ys) = Some (xs ++ ys)
joined (Some xs) None = None
joined None rest = None

pair_joined : (high low : Option ℕ) (p q : Option (List ℕ))
    → pair_in_front high low (joined p q) ≡ joined (pair_in_front high low p) q
pair_joined (Some h) (Some l) (Some xs) (Some ys) = refl
pair_joined (Some h) (Some l) (Some xs) None = refl
pair_joined (Some h) (Some l) None q = refl
pair_joined (Some h) None p q = refl
pair_joined None low p q = refl

none_in_front : (o : Option (List ℕ)) → o ≡ joined (Some []) o
none_in_front (Some ys) = refl
none_in_front None = refl

pub read_append : (s t : List ℕ) → length s % 2 ≡ 0 → read (s ++ t) ≡ joined (read s) (read t)
read_append [] t even = none_in_front (read t)
read_append (a ∷ []) t even = absurd (omega arith)
read_append (a ∷ b ∷ rest) t even =
    ap (pair_in_front (hex_digit_value a) (hex_digit_value b)) (read_append rest t (omega arith))
    ∙ pair_joined (hex_digit_value a) (hex_digit_value b) (read rest) (read t)

-- ---- lane by lane

abbrev pub all_below : (ℕ → Bool) → ℕ → Bool
all_below p zero = true
all_below p (suc n) = p n && all_below p n

every_below : (p : ℕ → Bool) (n : ℕ) → T (all_below p n) → (i : ℕ) → i < n → T (p i)
every_below p zero h i l = absurd (omega arith)
every_below p (suc n) h i l =
    elim (eq-zero-or-pos (n - i)) [
      | inl z ↦ let e : n ≡ i = omega arith in subst (λ x. T (p x)) e (and_l _ _ h)
      | inr g ↦ every_below p n (and_r (p n) _ h) i (omega arith)
    ]

-- a digit's value, and 255 for another byte
abbrev pub value : ℕ → ℕ
value c = unwrap_or (hex_digit_value c) 255

-- the bytes of values in pairs
abbrev pub pairs : List ℕ → List ℕ
pairs [] = []
pairs (h ∷ []) = []
pairs (h ∷ l ∷ rest) = bit_or (h * 2 ^ 4 % 2 ^ 8) l ∷ pairs rest

abbrev pub read_values : List ℕ → Option (List ℕ)
read_values vs = cond (list_all (λ v. nat_le v 15) vs) (Some (pairs vs)) None

small : (high : Option ℕ) → ((v : ℕ) → high ≡ Some v → v < 16) → (v : ℕ) → high ≡ Some v → nat_le v 15 ≡ true
small high below v is = le-leb v 15 (omega (arith, below v is))

pub sums : (h l : ℕ) → h < 16 → l < 16 → bit_or (h * 2 ^ 4 % 2 ^ 8) l ≡ h * 16 + l
sums h l H L =
    let row = every_below (λ x. all_below (λ y. eqb (bit_or (x * 2 ^ 4 % 2 ^ 8) y) (x * 16 + y)) 16) 16 tt h H in
    eqb→eq _ _ (every_below (λ y. eqb (bit_or (h * 2 ^ 4 % 2 ^ 8) y) (h * 16 + y)) 16 row l L)

value_small : (c v : ℕ) → hex_digit_value c ≡ Some v → v < 16
value_small c v h = grind (arith)

whole_pair : (h l : ℕ) (t : Bool) (js : List ℕ) → pair_in_front (Some h) (Some l) (cond t (Some js) None)
    ≡ cond t (Some ((h * 16 + l) ∷ js)) None
whole_pair h l true js = refl
whole_pair h l false js = refl

pair_of_values : (high low : Option ℕ) (t : Bool) (js : List ℕ) → ((v : ℕ) → high ≡ Some v → v < 16)
    → ((v : ℕ) → low ≡ Some v → v < 16) → pair_in_front high low (cond t (Some js) None)
    ≡ cond (nat_le (unwrap_or high 255) 15 && (nat_le (unwrap_or low 255) 15 && t))
    (Some (bit_or (unwrap_or high 255 * 2 ^ 4 % 2 ^ 8) (unwrap_or low 255) ∷ js)) None
pair_of_values (Some h) (Some l) t js H L =
    rw (small (Some h) H h refl, small (Some l) L l refl, sums h l (H h refl) (L l refl)) (whole_pair h l t js)
pair_of_values (Some h) None t js H L = rw (small (Some h) H h refl) refl
pair_of_values None low t js H L = refl

-- a text of even length is read by its values
pub read_by_values : (text : List ℕ) → length text % 2 ≡ 0 → read text ≡ read_values (map value text)
read_by_values [] even = refl
read_by_values (a ∷ []) even = absurd (omega arith)
read_by_values (a ∷ b ∷ rest) even =
    ap (pair_in_front (hex_digit_value a) (hex_digit_value b)) (read_by_values rest (omega arith))
    ∙ pair_of_values (hex_digit_value a) (hex_digit_value b) _ (pairs (map value rest)) (value_small a) (value_small b)

-- ---- the values of a block

abbrev pub less : ℕ → ℕ → ℕ
less a b = (a + (2 ^ 8 - b)) % 2 ^ 8

abbrev pub plus : ℕ → ℕ → ℕ
plus a b = (a + b) % 2 ^ 8

abbrev pub at_most : ℕ → ℕ → ℕ
at_most a b = cond (leb a b) 255 0

abbrev pub up : ℕ → ℕ → ℕ
up a b = a * 2 ^ b % 2 ^ 8

abbrev one_value : ℕ → ℕ
one_value c =
    let letter = less (bit_or c 32) 97 in
    cond (top 7 (at_most (less c 48) 9)) (less c 48) (cond (top 7 (at_most letter 5)) (plus letter 10) 255)

one_value_is : (c : ℕ) → c < 256 → one_value c ≡ value c
one_value_is c h = eqb→eq _ _ (every_below (λ x. eqb (one_value x) (value x)) 256 tt c h)

abbrev pub decimals : List ℕ → ℕ → List ℕ
decimals v n = zip2 less v (replicate n 48)

abbrev pub letters : List ℕ → ℕ → List ℕ
letters v n = zip2 less (zip2 bit_or v (replicate n 32)) (replicate n 97)

pub values_are : (v : List ℕ) (n : ℕ) → length v ≡ n → Each1 (Fits w8) v
    → sel_l (map (top 7) (zip2 at_most (decimals v n) (replicate n 9))) (decimals v n)
    (sel_l (map (top 7) (zip2 at_most (letters v n) (replicate n 5))) (zip2 plus (letters v n) (replicate n 10))
    (replicate n 255)) ≡ map value v
values_are [] n e fits = refl
values_are (x ∷ v) zero e fits = absurd (omega arith)
values_are (x ∷ v) (suc n) e fits = λ i. one_value_is x fits.0.fits i ∷ values_are v n (omega arith) fits.1 i

-- every other lane, from the k-th
abbrev pub every_other : ℕ → ℕ → List ℕ
every_other zero k = []
every_other (suc n) k = k ∷ every_other n (k + 2)

pub in_pairs : (s : List ℕ) → length s ≡ 32
    → zip2 bit_or (zip2 up (map (λ k. get_or s k 0) (every_other 16 0)) (replicate 16 4))
    (map (λ k. get_or s k 0) (every_other 16 1)) ≡ pairs s
in_pairs (a ∷ b ∷ c ∷ d ∷ e ∷ f ∷ g ∷ h ∷ i ∷ j ∷ k ∷ l ∷ m ∷ n ∷ o ∷ p ∷ a' ∷ b' ∷ c' ∷ d' ∷ e' ∷ f' ∷ g' ∷ h' ∷ i'
    ∷ j' ∷ k' ∷ l' ∷ m' ∷ n' ∷ o' ∷ p' ∷ []) is = refl
in_pairs s is = absurd (omega arith)

-- ---- texts of the kit's decoder

map_append : {A B : Type 0} (f : A → B) (xs ys : List A) → map f (xs ++ ys) ≡ map f xs ++ map f ys
map_append f [] ys = refl
map_append f (x ∷ xs) ys = ap (λ l. f x ∷ l) (map_append f xs ys)

-- what the kit's decoder reads in a text of even length
pub decodes : (text : List ℕ) → length text % 2 ≡ 0 → result_ok (decode_of text) ≡ read text
decodes text even = ap result_ok (decode_of-even text even) ∙ read_is 0 text

abbrev pub is_value : ℕ → Bool
is_value v = nat_le v 15

-- two halves of a block, by their values
pub block_read : (a b va vb : List ℕ) (s t : Bool) → length a ≡ 16 → length b ≡ 16 → va ≡ map value a
    → vb ≡ map value b → s ≡ list_all is_value va → t ≡ list_all is_value vb
    → result_ok (decode_of (a ++ b)) ≡ cond (s && t) (Some (pairs (va ++ vb))) None
block_read a b va vb s t long_a long_b of_a of_b first second =
    let even : length (a ++ b) % 2 ≡ 0 = omega (arith, length-append a b) in
    let values : map value (a ++ b) ≡ va ++ vb =
    map_append value a b ∙ ap (λ l. l ++ map value b) (sym of_a) ∙ ap (λ l. va ++ l) (sym of_b) in
    let test : list_all is_value (va ++ vb) ≡ (s && t) =
    list_all-append is_value va vb ∙ ap (λ p. p && list_all is_value vb) (sym first) ∙ ap (λ p. s && p) (sym second) in
    decodes (a ++ b) even ∙ read_by_values (a ++ b) even ∙ ap read_values values
    ∙ ap (λ p. cond p (Some (pairs (va ++ vb))) None) test

pub both_long : (a b va vb : List ℕ) → length a ≡ 16 → length b ≡ 16 → va ≡ map value a → vb ≡ map value b
    → length (va ++ vb) ≡ 32
both_long a b va vb long_a long_b of_a of_b =
    let va_long : length va ≡ 16 = ap length of_a ∙ length-map a value ∙ long_a in
    let vb_long : length vb ≡ 16 = ap length of_b ∙ length-map b value ∙ long_b in
    omega (arith, length-append va vb, va_long, vb_long)

-- a text of 32 digits is a nonce's
pub nonce_read : {Y : Type 0} (f : List ℕ → Y) (text : List ℕ) (o : Option (List ℕ)) → length text ≡ 32
    → o ≡ result_ok (decode_of text) → option_map f o ≡ option_map f (result_ok (decode_sized text 16))
nonce_read f text o long is =
    ap (option_map f) (is ∙ ap result_ok (sym (decode_sized-twice text 16 (omega (arith, long)))))

no_nonce : {Y : Type 0} (f : List ℕ → Y) (text : List ℕ) → (length text ≡ 32 → ⊥) → (r : Result (List ℕ) FromHexError)
    → decode_sized text 16 ≡ r → None ≡ option_map f (result_ok r)
no_nonce f text other (Ok bytes) is = absurd (other (decode_sized-ok text 16 bytes is))
no_nonce f text other (Err e) is = refl

-- a text of another length is none's
pub other_read : {Y : Type 0} (f : List ℕ → Y) (text : List ℕ) → (length text ≡ 32 → ⊥)
    → None ≡ option_map f (result_ok (decode_sized text 16))
other_read f text other = no_nonce f text other (decode_sized text 16) refl

ok_from : (r : Result (List ℕ) FromHexError) (bytes : List ℕ) → result_ok r ≡ Some bytes → r ≡ Ok bytes
ok_from (Ok xs) bytes is = let same : xs ≡ bytes = cc in ap Ok same
ok_from (Err e) bytes is = cc

read_length : (text bytes : List ℕ) → read text ≡ Some bytes → length text ≡ 2 * length bytes
read_length text bytes is =
    (decode_pairs-ok 0 text bytes (ok_from (decode_pairs 0 text) bytes (read_is 0 text ∙ is))).1

-- ---- digits behind a text

follows : (p q : Bool) → (p && q) ≡ true → q ≡ true
follows true q h = h
follows false q h = cc

pub all_drop : (p : ℕ → Bool) (n : ℕ) (xs : List ℕ) → list_all p xs ≡ true → list_all p (drop n xs) ≡ true
all_drop p zero xs h = h
all_drop p (suc n) [] h = refl
all_drop p (suc n) (x ∷ xs) h = all_drop p n xs (follows (p x) (list_all p xs) h)

front_of : (o : Option (List ℕ)) (ys : List ℕ) (n : ℕ) → ((bytes : List ℕ) → o ≡ Some bytes → length bytes ≡ n)
    → option_map (λ bytes. take n bytes) (joined o (Some ys)) ≡ o
front_of (Some xs) ys n long = ap Some (subst (λ m. take m (xs ++ ys) ≡ xs) (long xs refl) (take-append_seam xs ys))
front_of None ys n long = refl

-- what is read of a text with digits behind begins with what is read of the text
pub front_read : (text front behind : List ℕ) (o : Option (List ℕ)) → length text % 2 ≡ 0 → length behind % 2 ≡ 0
    → list_all is_hex_digit behind ≡ true → front ≡ text → o ≡ result_ok (decode_of (front ++ behind))
    → option_map (λ bytes. take (length text / 2) bytes) o ≡ result_ok (decode_of text)
front_read text front behind o even even_behind digits is read_of =
    let d = decode_pairs-digits 0 behind even_behind (AllPass-from_list_all is_hex_digit behind digits) in
    let of_behind : read behind ≡ Some d.0 = sym (read_is 0 behind) ∙ ap result_ok d.1 in
    let all : length (text ++ behind) % 2 ≡ 0 = omega (arith, length-append text behind) in
    let whole : o ≡ joined (read text) (Some d.0) =
    read_of ∙ ap (λ l. result_ok (decode_of (l ++ behind))) is ∙ decodes (text ++ behind) all
    ∙ read_append text behind even ∙ ap (joined (read text)) of_behind in
    ap (option_map (λ bytes. take (length text / 2) bytes)) whole
    ∙ front_of (read text) d.0 (length text / 2) (λ bytes h. omega (arith, read_length text bytes h))
    ∙ sym (decodes text even)

-- ---- block by block

join_more : (out bytes : List ℕ) (o : Option (List ℕ))
    → joined (Some (out ++ bytes)) o ≡ joined (Some out) (joined (Some bytes) o)
join_more out bytes (Some ys) = ap Some (append_assoc out bytes ys)
join_more out bytes None = refl

-- a block was read, and the rest is left
pub more_read : (out bytes more block behind rest : List ℕ) (whole : Option (List ℕ))
    → joined (Some out) (read rest) ≡ whole → block ++ behind ≡ rest → length block % 2 ≡ 0
    → Some bytes ≡ result_ok (decode_of block) → more ≡ out ++ bytes → joined (Some more) (read behind) ≡ whole
more_read out bytes more block behind rest whole so_far parts even is added =
    let of_block : read block ≡ Some bytes = sym (decodes block even) ∙ sym is in
    ap (λ l. joined (Some l) (read behind)) added ∙ join_more out bytes (read behind)
    ∙ ap (λ o. joined (Some out) (joined o (read behind))) (sym of_block)
    ∙ ap (joined (Some out)) (sym (read_append block behind even) ∙ ap read parts) ∙ so_far

-- a block wasn't
pub none_read : (out block behind rest : List ℕ) (whole : Option (List ℕ)) → joined (Some out) (read rest) ≡ whole
    → block ++ behind ≡ rest → length block % 2 ≡ 0 → None ≡ result_ok (decode_of block) → None ≡ whole
none_read out block behind rest whole so_far parts even is =
    let of_block : read block ≡ None = sym (decodes block even) ∙ sym is in
    ap (λ o. joined (Some out) (joined o (read behind))) (sym of_block)
    ∙ ap (joined (Some out)) (sym (read_append block behind even) ∙ ap read parts) ∙ so_far

-- the last bytes were read, or not
pub end_read : (out rest : List ℕ) (last whole : Option (List ℕ)) → joined (Some out) (read rest) ≡ whole
    → length rest % 2 ≡ 0 → last ≡ result_ok (decode_of rest) → joined (Some out) last ≡ whole
end_read out rest last whole so_far even is = ap (joined (Some out)) (is ∙ decodes rest even) ∙ so_far

-- ---- the test of all lanes

abbrev all : List Bool → Bool
all ms = list_all (λ m. m) ms

all_map : (p : ℕ → Bool) (xs : List ℕ) → all (map p xs) ≡ list_all p xs
all_map p [] = refl
all_map p (x ∷ xs) = ap (λ t. p x && t) (all_map p xs)

ones : (ms : List Bool) → all ms ≡ true → mask_l ms + 1 ≡ 2 ^ length ms
ones [] h = refl
ones (true ∷ ms) h = omega (arith, ones ms h, pow-succ' 2 (length ms))
ones (false ∷ ms) h = cc

fewer : (ms : List Bool) → all ms ≡ false → mask_l ms + 1 < 2 ^ length ms
fewer [] h = cc
fewer (true ∷ ms) h = omega (arith, fewer ms h, pow-succ' 2 (length ms))
fewer (false ∷ ms) h = omega (arith, mask_l-lt ms, pow-succ' 2 (length ms))

no_ones : (n : ℕ) → n + 1 < 65536 → eqb n 65535 ≡ false
no_ones n h = go (eqb n 65535) refl
  where
    go : (t : Bool) → eqb n 65535 ≡ t → t ≡ false
    go true e = absurd (omega (arith, eqb-true n 65535 e))
    go false e = refl

mask_is : (ms : List Bool) → length ms ≡ 16 → (t : Bool) → all ms ≡ t → eqb (mask_l ms) 65535 ≡ t
mask_is ms long true h =
    let power : 2 ^ length ms ≡ 65536 = ap (λ n. 2 ^ n) long in
    eq-eqb (mask_l ms) 65535 (omega (arith, ones ms h, power))
mask_is ms long false h =
    let power : 2 ^ length ms ≡ 65536 = ap (λ n. 2 ^ n) long in
    no_ones (mask_l ms) (omega (arith, fewer ms h, power))

pub all_lanes : (p : ℕ → Bool) (xs : List ℕ) → length xs ≡ 16 → eqb (mask_l (map p xs)) 65535 ≡ list_all p xs
all_lanes p xs long =
    mask_is (map p xs) (length-map xs p ∙ long) (all (map p xs)) refl ∙ all_map p xs
