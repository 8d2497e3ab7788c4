-- The URIs of groups and leaves are read as their paths, and the lines that bring them in are parted into their fields.
use Rattle.std.proofs.Common.{◌≡◌, ◌≤◌, ◌<◌, ◌+◌, ◌/◌, ◌%◌, ◌^◌, ◌==◌, ℕ, zero, suc, Bool, true, false, not, List, []}
use Rattle.std.proofs.Common.{◌∷◌}
use Rattle.std.proofs.Common.{◌++◌, length, get_or, Option, None, Some, Ok, Err, refl, sym, ap, subst, ◌∙◌, arith, inr}
use Rattle.std.proofs.Common.{append_assoc, cond, rules}
use Rattle.std.proofs.lemmas.Bool.{and_parts, and_from}
use Rattle.std.proofs.lemmas.Bool.Decides.{nat_tests}
use Rattle.std.proofs.lemmas.Fmt.{decimal_by_steps, length-decimal-le, decimal_nonempty}
use Rattle.std.proofs.lemmas.List.{length-append, append-nil}
use Rattle.std.proofs.lemmas.List.Folds.{list_all-append}
use Rattle.std.proofs.lemmas.List.Splits.{slice_split_none, slice_split_at}
use Rattle.std.specs.Prelude.{◌&&◌, nat_le, nat_lt, bytes_eq, codes, All, Result}
use Rattle.std.specs.Fmt.{decimal}
use Rattle.std.specs.List.{list_all, slice_split, onto_first}
use Rattle.std.proofs.lemmas.List.Elements.{All-cons, All-nil}
use Rattle.std.proofs.lemmas.List.Sums.{list_all-from_AllPass}
use Rattle.std.specs.Result.{result_ok}
use Rattle.hex.specs.declared.error.FromHexError.{FromHexError}
use Rattle.hex.specs.Hex.{IsBytes, decode_of, is_hex_digit}
use Rattle.hex.proofs.HexLemmas.{decode_of-ok}
use Rattle.dm_base.specs.Fields.{hex_text, parts, hex_of}
use Rattle.dm_base.specs.Laws.{HexIsReadAgain}
use Rattle.dm_uri.specs.declared.uri.Query.TheVariants as query
use Rattle.dm_uri.specs.declared.uri.Uri.{Uri}
use Rattle.dm_uri.specs.Names.{is_name_byte, has_name_form, is_short_name, is_within_limits, printed_path}
use Rattle.dm_uri.specs.Reading.{parse_of}
use Rattle.dm_uri.proofs.BothWays.{reads_grammar}
use Rattle.dm_tree.specs.Nodes.{Path}
use Rattle.dm_bench.specs.Start.{group_uri, leaf_uri, workload_leaf}

-- the paths of a group and of a leaf
abbrev pub group_path : ℕ → Path
group_path group = codes "B" ∷ (103 ∷ decimal group) ∷ []

abbrev pub leaf_path : ℕ → Path
leaf_path leaf = codes "B" ∷ (103 ∷ decimal (leaf / 256)) ∷ (110 ∷ decimal leaf) ∷ []

abbrev pub uri_of : Path → Uri
uri_of p = record { path = p; query = query.Plain }

same_text : (xs ys : List ℕ) → bytes_eq xs ys ≡ true → xs ≡ ys
same_text xs ys h = search rules

-- ---- digits

-- so many numbers from one on
abbrev run : ℕ → ℕ → List ℕ
run b zero = []
run b (suc n) = b ∷ run (suc b) n

pass_run : (p : ℕ → Bool) (n b d : ℕ) → list_all p (run b n) ≡ true → d < n → p (b + d) ≡ true
pass_run p zero b d h l = absurd (omega (arith, l))
pass_run p (suc n) b zero h l =
    let here : b ≡ b + 0 = omega arith in
    subst (λ x. p x ≡ true) here (and_parts (p b) (list_all p (run (suc b) n)) h).0
pass_run p (suc n) b (suc d) h l =
    let next : suc b + d ≡ b + suc d = omega arith in
    subst (λ x. p x ≡ true) next
    (pass_run p n (suc b) d (and_parts (p b) (list_all p (run (suc b) n)) h).1 (omega (arith, l)))

-- what each decimal digit passes, all digits of a number pass
pub digits_pass : (p : ℕ → Bool) → list_all p (run 48 10) ≡ true → (n : ℕ) → n < 2 ^ 64 → list_all p (decimal n) ≡ true
digits_pass p h =
    decimal_by_steps (λ n ds. list_all p ds ≡ true)
    (λ n l. and_from (p (48 + n)) true (pass_run p 10 48 n h l) refl)
    (λ n ds l before.
    let low : n % 10 < 10 = omega arith in
    list_all-append p ds ((48 + n % 10) ∷ [])
    ∙ and_from (list_all p ds) (p (48 + n % 10) && true) before
    (and_from (p (48 + n % 10)) true (pass_run p 10 48 (n % 10) h low) refl))

pub few_digits : (n : ℕ) → n < 65536 → length (decimal n) ≤ 5
few_digits n l = length-decimal-le 5 n (omega arith) (omega (arith, l)) (omega (arith, l))

pub within : (n : ℕ) → n < 65536 → n < 2 ^ 64
within n l = omega (arith, l)

-- ---- names

short_enough : (n most : ℕ) → n ≤ most → nat_le n most ≡ true
short_enough n most h = grind (arith, nat_tests)

some_there : (n : ℕ) → not (suc n == 0) ≡ true
some_there n = grind (arith, nat_tests)

lettered : (letter n : ℕ) → n < 65536 → is_name_byte letter ≡ true → bytes_eq (letter ∷ decimal n) (codes ".") ≡ false
    → bytes_eq (letter ∷ decimal n) (codes "..") ≡ false → has_name_form (letter ∷ decimal n) ≡ true
lettered letter n l byte one two =
    and_from _ _ (and_from _ _ (and_from _ _ (some_there (length (decimal n)))
    (and_from (is_name_byte letter) (list_all is_name_byte (decimal n)) byte
    (digits_pass is_name_byte refl n (within n l)))) (ap not one)) (ap not two)

group_form : (n : ℕ) → n < 65536 → has_name_form (103 ∷ decimal n) ≡ true
group_form n l = lettered 103 n l refl refl refl

leaf_form : (n : ℕ) → n < 65536 → has_name_form (110 ∷ decimal n) ≡ true
leaf_form n l = lettered 110 n l refl refl refl

short_name : (letter n : ℕ) → n < 65536 → is_short_name (letter ∷ decimal n) ≡ true
short_name letter n l = short_enough (suc (length (decimal n))) 64 (let few = few_digits n l in omega (arith, few))

-- ---- URIs

pub group_limits : (n : ℕ) → n < 65536 → is_within_limits (group_path n) ≡ true
group_limits n l =
    and_from _ _ (and_from _ _ (and_from _ _ refl (and_from _ _ (short_name 103 n l) refl)) refl)
    (short_enough (length (printed_path (group_path n))) 255 (let few = few_digits n l in omega (arith, few)))

nothing_behind : (xs : List ℕ) → xs ≡ xs ++ []
nothing_behind xs = sym (append-nil xs)

pub group_read : (n : ℕ) → n < 65536 → parse_of (group_uri n) ≡ Ok (uri_of (group_path n))
group_read n l =
    let few = few_digits n l in
    (reads_grammar (group_uri n) (uri_of (group_path n))).1 (record {
      short = omega (arith, few);
      part = group_uri n;
      path = (and_from _ _ refl (and_from _ _ (group_form n l) refl), inr refl);
      within = group_limits n l;
      whole = nothing_behind (group_uri n);
    })

below : (n : ℕ) → n < 65536 → n / 256 < 65536
below n l = omega (arith, l)

-- a leaf's URI is its group's, and its own name
leaf_is : (n : ℕ) → leaf_uri n ≡ group_uri (n / 256) ++ (47 ∷ 110 ∷ decimal n)
leaf_is n = append_assoc (group_uri (n / 256)) (codes "/n") (decimal n)

leaf_size : (n : ℕ) → n < 65536 → length (leaf_uri n) ≤ 17
leaf_size n l =
    let own = few_digits n l in
    let group = few_digits (n / 256) (below n l) in
    let whole = ap length (leaf_is n) in
    let parts = length-append (group_uri (n / 256)) (47 ∷ 110 ∷ decimal n) in
    omega (arith, own, group, whole, parts)

pub leaf_limits : (n : ℕ) → n < 65536 → is_within_limits (leaf_path n) ≡ true
leaf_limits n l =
    let size = leaf_size n l in
    let whole = ap length (leaf_is n) in
    and_from _ _ (and_from _ _ (and_from _ _ refl
    (and_from _ _ (short_name 103 (n / 256) (below n l)) (and_from _ _ (short_name 110 n l) refl))) refl)
    (short_enough (length (printed_path (leaf_path n))) 255 (omega (arith, size, whole)))

pub leaf_read : (n : ℕ) → n < 65536 → parse_of (leaf_uri n) ≡ Ok (uri_of (leaf_path n))
leaf_read n l =
    let size = leaf_size n l in
    (reads_grammar (leaf_uri n) (uri_of (leaf_path n))).1 (record {
      short = omega (arith, size);
      part = leaf_uri n;
      path = (
        and_from _ _ refl (and_from _ _ (group_form (n / 256) (below n l)) (and_from _ _ (leaf_form n l) refl)),
        inr (leaf_is n),
      );
      within = leaf_limits n l;
      whole = nothing_behind (leaf_uri n);
    })

-- ---- lines

abbrev is_space : ℕ → Bool
is_space b = b == 32

abbrev no_space : ℕ → Bool
no_space b = not (b == 32)

turned : (b : Bool) → not b ≡ true → b ≡ false
turned true h = absurd (cc)
turned false h = refl

-- bytes without a space
spaceless : (xs : List ℕ) → list_all no_space xs ≡ true → All (λ x. is_space x ≡ false) xs
spaceless [] h = All-nil (λ x. is_space x ≡ false)
spaceless (x ∷ xs) h =
    let both = and_parts (no_space x) (list_all no_space xs) h in
    All-cons (λ y. is_space y ≡ false) x xs (turned (is_space x) both.0) (spaceless xs both.1)

one_part : (xs : List ℕ) → list_all no_space xs ≡ true → parts xs ≡ xs ∷ []
one_part xs h = slice_split_none is_space xs (spaceless xs h)

more_parts : (xs ys : List ℕ) → list_all no_space xs ≡ true → parts (xs ++ 32 ∷ ys) ≡ xs ∷ parts ys
more_parts xs ys h = slice_split_at is_space xs 32 ys (spaceless xs h) refl

group_spaceless : (n : ℕ) → n < 65536 → list_all no_space (group_uri n) ≡ true
group_spaceless n l = digits_pass no_space refl n (within n l)

leaf_spaceless : (n : ℕ) → n < 65536 → list_all no_space (leaf_uri n) ≡ true
leaf_spaceless n l =
    ap (list_all no_space) (leaf_is n)
    ∙ list_all-append no_space (group_uri (n / 256)) (47 ∷ 110 ∷ decimal n)
    ∙ and_from _ _ (group_spaceless (n / 256) (below n l)) (digits_pass no_space refl n (within n l))

pub group_parts : (n : ℕ) → n < 65536 → parts (codes "interior " ++ group_uri n) ≡ codes "interior" ∷ group_uri n ∷ []
group_parts n l =
    more_parts (codes "interior") (group_uri n) refl
    ∙ ap (λ p. codes "interior" ∷ p) (one_part (group_uri n) (group_spaceless n l))

-- a leaf's line, word by word
line_is : (n : ℕ)
    → workload_leaf n
    ≡ codes "leaf" ++ 32 ∷ (leaf_uri n ++ 32 ∷ (codes "chr" ++ 32 ∷ (codes "text/plain" ++ 32 ∷ hex_text (decimal n))))
line_is n =
    append_assoc (codes "leaf " ++ leaf_uri n) (codes " chr text/plain ") (hex_text (decimal n))
    ∙ append_assoc (codes "leaf ") (leaf_uri n) (codes " chr text/plain " ++ hex_text (decimal n))

pub leaf_parts : (n : ℕ) → n < 65536 → list_all no_space (hex_text (decimal n)) ≡ true
    → parts (workload_leaf n)
    ≡ codes "leaf" ∷ leaf_uri n ∷ codes "chr" ∷ codes "text/plain" ∷ hex_text (decimal n) ∷ []
leaf_parts n l hex =
    let text = hex_text (decimal n) in
    ap parts (line_is n)
    ∙ more_parts (codes "leaf") (leaf_uri n ++ 32 ∷ (codes "chr" ++ 32 ∷ (codes "text/plain" ++ 32 ∷ text))) refl
    ∙ ap (λ p. codes "leaf" ∷ p)
    (more_parts (leaf_uri n) (codes "chr" ++ 32 ∷ (codes "text/plain" ++ 32 ∷ text)) (leaf_spaceless n l)
    ∙ ap (λ p. leaf_uri n ∷ p)
    (more_parts (codes "chr") (codes "text/plain" ++ 32 ∷ text) refl
    ∙ ap (λ p. codes "chr" ∷ p)
    (more_parts (codes "text/plain") text refl ∙ ap (λ p. codes "text/plain" ∷ p) (one_part text hex))))

-- ---- values

digits_are_bytes : (n : ℕ) → n < 65536 → IsBytes (decimal n)
digits_are_bytes n l = of_all (decimal n) (digits_pass (λ b. nat_lt b 256) refl n (within n l))
  where
    low : (b : ℕ) → nat_lt b 256 ≡ true → b < 256
    low b h = grind (arith, nat_tests)

    of_all : (xs : List ℕ) → list_all (λ b. nat_lt b 256) xs ≡ true → IsBytes xs
    of_all [] h i = omega arith
    of_all (x ∷ xs) h zero = low x (and_parts (nat_lt x 256) (list_all (λ b. nat_lt b 256) xs) h).0
    of_all (x ∷ xs) h (suc i) = of_all xs (and_parts (nat_lt x 256) (list_all (λ b. nat_lt b 256) xs) h).1 i

pub value_read : HexIsReadAgain → (n : ℕ) → n < 65536 → hex_of (hex_text (decimal n)) ≡ Some (decimal n)
value_read again n l = again (decimal n) (digits_are_bytes n l)

-- what has a value as HEX has no space
hex_spaceless : (text bytes : List ℕ) → hex_of text ≡ Some bytes → list_all no_space text ≡ true
hex_spaceless text bytes h = by_dash (bytes_eq text (codes "-")) (nat_lt 0 (length text)) refl h
  where
    digit : (b : ℕ) → is_hex_digit b ≡ true → no_space b ≡ true
    digit b h = grind (arith, nat_tests)

    all_digits : (xs : List ℕ) → list_all is_hex_digit xs ≡ true → list_all no_space xs ≡ true
    all_digits [] h = refl
    all_digits (x ∷ xs) h =
        let both = and_parts (is_hex_digit x) (list_all is_hex_digit xs) h in
        and_from _ _ (digit x both.0) (all_digits xs both.1)

    decoded : (r : Result (List ℕ) FromHexError) → decode_of text ≡ r → result_ok r ≡ Some bytes
        → list_all no_space text ≡ true
    decoded (Ok xs) is e = all_digits text (list_all-from_AllPass is_hex_digit text (decode_of-ok text xs is).1)
    decoded (Err x) is e = absurd (cc)

    by_dash : (a b : Bool) → bytes_eq text (codes "-") ≡ a
        → cond a (Some []) (cond b (result_ok (decode_of text)) None) ≡ Some bytes → list_all no_space text ≡ true
    by_dash true b is e = ap (list_all no_space) (same_text text (codes "-") is)
    by_dash false true is e = decoded (decode_of text) refl e
    by_dash false false is e = absurd (cc)

pub leaf_fields : HexIsReadAgain → (n : ℕ) → n < 65536
    → parts (workload_leaf n)
    ≡ codes "leaf" ∷ leaf_uri n ∷ codes "chr" ∷ codes "text/plain" ∷ hex_text (decimal n) ∷ []
leaf_fields again n l =
    leaf_parts n l (hex_spaceless (hex_text (decimal n)) (decimal n) (value_read again n l))
