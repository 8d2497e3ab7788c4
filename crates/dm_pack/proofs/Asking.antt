-- How long the Alert 1222 is.
use Rattle.std.proofs.Common.{◌≡◌, ◌==◌, ◌<◌, ◌+◌, ◌^◌, ◌∙◌, ◌≤◌, ℕ, Bool, true, false, List, [], ◌∷◌, ◌++◌, length}
use Rattle.std.proofs.Common.{length-append, refl, sym, ap, arith}
use Rattle.std.specs.Fmt.{decimal}
use Rattle.std.proofs.lemmas.Bool.{ne_eqb}
use Rattle.std.proofs.lemmas.Fmt.{decimal_nonempty, length-decimal-le}
use Rattle.itoa.proofs.Decimal.{length_two, length_pair}
use Rattle.wbxml_tables.specs.declared.Element.TheVariants.{EAlert, ECmdID, EData}
use Rattle.wbxml_tables.specs.Tables.{page_of}
use Rattle.wbxml_tokens.specs.declared.token.Token.{Token}
use Rattle.wbxml_tokens.specs.declared.token.Token.TheVariants.{Tag, End, Text}
use Rattle.wbxml_tokens.specs.Spelling.{token_bytes, spelled, page_behind}
use Rattle.syncml_types.specs.Canonical.{parent_tokens, text_tokens, number_tokens, flag_tokens, items_tokens}
use Rattle.syncml_types.specs.Canonical.{alert_tokens, command_tokens}
use Rattle.syncml_types.specs.Lengths.{spelled_length}
use Rattle.syncml_parts.specs.Numbering.{with_numbers}
use Rattle.dm_pack.specs.Filling.{asks_next}
use Rattle.dm_pack.proofs.Within.{one_more}

-- an Alert with these digits of a CmdID and of a code
abbrev alert_with : List ℕ → List ℕ → List Token
alert_with v w = parent_tokens EAlert (text_tokens ECmdID v ++ [] ++ text_tokens EData w ++ [] ++ [])

alert_long : (p : ℕ) (v w : List ℕ) → 0 < length v → 0 < length w
    → length (spelled p (alert_with v w)) ≡ length (token_bytes p (Tag EAlert true)) + (9 + length v + length w)
unfolding text_tokens
alert_long p [] w some more = absurd (omega (arith, some))
alert_long p (b ∷ bs) [] some more = absurd (omega (arith, more))
alert_long p (b ∷ bs) (d ∷ ds) some more =
    let behind = Tag EData true ∷ Text (d ∷ ds) ∷ End ∷ End ∷ [] in
    let whole = one_more p (Tag EAlert true) (Tag ECmdID true ∷ Text (b ∷ bs) ∷ End ∷ behind) in
    let first = one_more 0 (Text (b ∷ bs)) (End ∷ behind) in
    let inside = length-append (b ∷ bs) (0 ∷ []) in
    let second = one_more 0 (Text (d ∷ ds)) (End ∷ End ∷ []) in
    let within = length-append (d ∷ ds) (0 ∷ []) in
    omega (arith, whole, first, inside, second, within)

alert_page : (p : ℕ) (v w : List ℕ) → 0 < length v → 0 < length w → page_behind p (alert_with v w) ≡ 0
unfolding text_tokens
alert_page p [] w some more = absurd (omega (arith, some))
alert_page p (b ∷ bs) [] some more = absurd (omega (arith, more))
alert_page p (b ∷ bs) (d ∷ ds) some more = refl

code_long : length (decimal 1222) ≡ 4
code_long = length_pair 1222 (omega arith) (omega arith) ∙ ap (λ n. n + 2) (length_two 12 (omega arith) (omega arith))

asks_long : (p n : ℕ) → n < 2 ^ 32
    → length (spelled p (command_tokens (with_numbers n asks_next)))
    ≡ length (token_bytes p (Tag EAlert true)) + (13 + length (decimal n))
unfolding command_tokens with_numbers alert_tokens flag_tokens number_tokens items_tokens
asks_long p n low =
    let whole = alert_long p (decimal n) (decimal 1222) (decimal_nonempty n (omega (arith, low)))
    (omega (arith, code_long)) in
    omega (arith, whole, code_long)

other_by : (p : ℕ) (same : Bool) → (page_of EAlert == p) ≡ same → same ≡ false
    → length (token_bytes p (Tag EAlert true)) ≡ 3
other_by p true e h = absurd (cc)
other_by p false e h = rw e refl

other_tag : (p : ℕ) → (p ≡ 0 → ⊥) → length (token_bytes p (Tag EAlert true)) ≡ 3
other_tag p h = other_by p (page_of EAlert == p) refl (ne_eqb (page_of EAlert) p (λ e. h (sym e)))

few_digits : (n : ℕ) → n < 2 ^ 32 → length (decimal n) ≤ 10
few_digits n low = length-decimal-le 10 n (omega arith) (omega (arith, low)) (omega (arith, low))

pub asks_on_page : (n digits : ℕ) → n + 1 < 2 ^ 32 → digits ≡ length (decimal n)
    → 14 + digits ≡ spelled_length 0 0 (command_tokens (with_numbers n asks_next))
asks_on_page n digits low is =
    let whole = asks_long 0 n (omega (arith, low)) in
    let few = few_digits n (omega (arith, low)) in
    omega (arith, whole, few, is)

pub asks_on_other : (p n digits : ℕ) → (p ≡ 0 → ⊥) → n + 1 < 2 ^ 32 → digits ≡ length (decimal n)
    → 16 + digits ≡ spelled_length 0 p (command_tokens (with_numbers n asks_next))
asks_on_other p n digits other low is =
    let whole = asks_long p n (omega (arith, low)) in
    let tag = other_tag p other in
    let few = few_digits n (omega (arith, low)) in
    omega (arith, whole, tag, few, is)

pub page_behind_asks : (p n : ℕ) → n + 1 < 2 ^ 32 → 0 ≡ page_behind p (command_tokens (with_numbers n asks_next))
unfolding command_tokens with_numbers alert_tokens flag_tokens number_tokens items_tokens
page_behind_asks p n low =
    sym (alert_page p (decimal n) (decimal 1222) (decimal_nonempty n (omega (arith, low))) (omega (arith, code_long)))
