-- What is spelled stands at the front of bytes, and what stands there is spelled.
use Rattle.std.proofs.Common.{ℕ, zero, suc, ◌≡◌, ◌<◌, ◌≤◌, ◌+◌, ◌%◌, List, [], ◌∷◌, ◌++◌, length, length-append, take}
use Rattle.std.proofs.Common.{drop, refl, sym, ap, ◌∙◌, subst, arith, rules, append_assoc, inl, inr}
use Rattle.std.proofs.lemmas.List.{length-drop, length-take-le, drop_at, take_at}
use Rattle.std.proofs.Math.Seq.{take-add}
use Rattle.std.specs.Prelude.{◌==◌, ◌||◌, Bool, true, false, if◌then◌else◌, nat_lt, nat_le, Option, Some, None, ⊤}
use Rattle.wbxml_ints.specs.declared.Mb.{Mb}
use Rattle.wbxml_ints.specs.declared.Mb.TheVariants as mb
use Rattle.wbxml_ints.specs.Multibyte.{IsMultibyte, AreBytes, integer_at}
use Rattle.wbxml_ints.proofs.Functions.{found_is_at, at_is_found}
use Rattle.wbxml_tables.proofs.Rows.{row_is_right}
use Rattle.wbxml_tables.specs.declared.Element.{Element}
use Rattle.wbxml_tables.specs.declared.Element.TheVariants as elements
use Rattle.wbxml_tables.specs.Tables.{page_of, code_on_page, element_at, HasCode}
use Rattle.wbxml_tokens.specs.declared.reason.Reason.TheVariants as reasons
use Rattle.wbxml_tokens.specs.declared.token.Token.{Token}
use Rattle.wbxml_tokens.specs.declared.token.Token.TheVariants.{Tag, End, Text, Opaque}
use Rattle.wbxml_tokens.specs.Spelling.{tag_byte}
use Rattle.wbxml_tokens.specs.Fronts.{Front, more, wrong, head, switch, token, until_zero, table_string, integer_then}
use Rattle.wbxml_tokens.specs.Fronts.{switch_in, text_in, table_text_in, opaque_in, tag_in, tag_of, front}
use Rattle.wbxml_tokens.specs.Spelled.{HasNoZero, SpellsToken}

-- ---- what is spelled stands at the front

no_zero_front : (text rest : List ℕ) → HasNoZero text → until_zero (text ++ 0 ∷ rest) ≡ text
no_zero_front [] rest h = refl
no_zero_front (b ∷ bs) rest h =
    let positive : 0 < b = h.0 in
    let not_zero : (b == 0) ≡ false = grind arith in
    ap (λ (c : Bool). if c then [] else b ∷ until_zero (bs ++ 0 ∷ rest)) not_zero
    ∙ ap (λ t. b ∷ t) (no_zero_front bs rest h.1)

text_front : (page : ℕ) (table text rest : List ℕ) → HasNoZero text
    → front page table (0x03 ∷ text ++ 0x00 ∷ rest) ≡ token (Text text) (length text + 2)
unfolding front
text_front page table text rest h =
    let same : until_zero (text ++ 0 ∷ rest) ≡ text = no_zero_front text rest h in
    let longer : nat_lt (length text) (length (text ++ 0 ∷ rest)) ≡ true = text_longer in
    ap (λ t. text_in t (text ++ 0 ∷ rest)) same
    ∙ ap (λ (c : Bool). if c then token (Text text) (length text + 2) else more) longer
  where
    text_longer : nat_lt (length text) (length (text ++ 0 ∷ rest)) ≡ true
    text_longer =
        let there : length text < length (text ++ 0 ∷ rest) = omega (arith, length-append text (0 ∷ rest)) in
        grind arith

-- an integer that is spelled at the front
pub integer_front : (number rest : List ℕ) (n : ℕ) → IsMultibyte n number
    → integer_at (number ++ rest) ≡ mb.Value n (length number)
integer_front number rest n h =
    sym (found_is_at (number ++ rest) (mb.Value n (length number)) (
      omega (arith, length-append number rest),
      subst (IsMultibyte n) (sym (take_at number rest (length number) refl)) h,
    ))

table_front : (page : ℕ) (table number rest : List ℕ) (index : ℕ) → IsMultibyte index number → index < length table
    → front page table (0x83 ∷ number ++ rest) ≡ token (Text (table_string table index)) (1 + length number)
unfolding front
table_front page table number rest index h low =
    let below : nat_lt index (length table) ≡ true = grind arith in
    ap (λ r. integer_then 0 1 r (number ++ rest) (table_text_in table)) (integer_front number rest index h)
    ∙ ap (λ (c : Bool). if c then token (Text (table_string table index)) (1 + length number)
    else wrong 0 reasons.Index) below

opaque_front : (page : ℕ) (table number content rest : List ℕ) → IsMultibyte (length content) number
    → front page table (0xc3 ∷ number ++ (content ++ rest))
    ≡ token (Opaque content) (1 + length number + length content)
unfolding front
opaque_front page table number content rest h =
    ap (λ r. integer_then 0 1 r (number ++ (content ++ rest)) opaque_in)
    (integer_front number (content ++ rest) (length content) h)
    ∙ ap (opaque_in (length content) (1 + length number)) (drop_at number (content ++ rest) (length number) refl)
    ∙ ap (λ (c : Bool).
    if c then token (Opaque (take (length content) (content ++ rest))) (1 + length number + length content) else more)
    enough
    ∙ ap (λ t. token (Opaque t) (1 + length number + length content)) (take_at content rest (length content) refl)
  where
    enough : nat_le (length content) (length (content ++ rest)) ≡ true
    enough = let there : length content ≤ length (content ++ rest) = omega (arith, length-append content rest) in
        grind arith

tag_front : (e : Element) (content : Bool) (table rest : List ℕ)
    → front (page_of e) table (tag_byte e content ∷ rest) ≡ token (Tag e content) 1
unfolding front element_at
tag_front elements.EAdd true table rest = refl
tag_front elements.EAdd false table rest = refl
tag_front other true table rest = refl
tag_front other false table rest = refl

sized : (page : ℕ) (table bytes : List ℕ) (t : Token) (m n : ℕ) → m ≡ n → front page table bytes ≡ token t m
    → front page table bytes ≡ token t n
sized page table bytes t m n e is = is ∙ ap (token t) e

end_front : (page : ℕ) (table rest : List ℕ) → front page table (0x01 ∷ rest) ≡ token End 1
unfolding front
end_front page table rest = refl

pub spelled_front : (page : ℕ) (table : List ℕ) (t : Token) (first rest : List ℕ) → SpellsToken page table t first
    → front page table (first ++ rest) ≡ token t (length first)
spelled_front page table (Tag e content) first rest (on, is) =
    subst (λ y. front page table (y ++ rest) ≡ token (Tag e content) (length y)) (sym is)
    (subst (λ p. front p table (tag_byte e content ∷ rest) ≡ token (Tag e content) 1) on
    (tag_front e content table rest))
spelled_front page table End first rest is =
    subst (λ y. front page table (y ++ rest) ≡ token End (length y)) (sym is) (end_front page table rest)
spelled_front page table (Text text) first rest (inl (is, none)) =
    subst (λ y. front page table (y ++ rest) ≡ token (Text text) (length y)) (sym is)
    (ap (λ y. front page table (0x03 ∷ y)) (append_assoc text (0 ∷ []) rest)
    ∙ sized page table (0x03 ∷ text ++ 0x00 ∷ rest) (Text text) (length text + 2) (suc (length (text ++ 0 ∷ [])))
    (omega (arith, length-append text (0 ∷ [])))
    (text_front page table text rest none))
spelled_front page table (Text text) first rest (inr (index, number, is, spells, low, same)) =
    subst (λ y. front page table (y ++ rest) ≡ token (Text text) (length y)) (sym is)
    (subst (λ x. front page table (0x83 ∷ number ++ rest) ≡ token (Text x) (suc (length number))) (sym same)
    (sized page table (0x83 ∷ number ++ rest) (Text (table_string table index)) (1 + length number)
    (suc (length number)) (omega arith)
    (table_front page table number rest index spells low)))
spelled_front page table (Opaque content) first rest (number, is, spells) =
    subst (λ y. front page table (y ++ rest) ≡ token (Opaque content) (length y)) (sym is)
    (ap (λ y. front page table (0xc3 ∷ y)) (append_assoc number content rest)
    ∙ sized page table (0xc3 ∷ number ++ (content ++ rest)) (Opaque content) (1 + length number + length content)
    (suc (length (number ++ content)))
    (omega (arith, length-append number content)) (opaque_front page table number content rest spells))

-- ---- what stands at the front is spelled there

pub bytes_behind : (n : ℕ) (bytes : List ℕ) → AreBytes bytes → AreBytes (drop n bytes)
bytes_behind zero bytes h = h
bytes_behind (suc n) [] h = tt
bytes_behind (suc n) (b ∷ bs) h = bytes_behind n bs h.1

-- the part is spelled by its bytes
abbrev SpeltBy : ℕ → List ℕ → List ℕ → Front → Type 0
SpeltBy page table bytes (token t used) = (used ≤ length bytes) × SpellsToken page table t (take used bytes)
SpeltBy page table bytes (switch other) = (other < 2) × (bytes ≡ 0x00 ∷ other ∷ drop 2 bytes)
SpeltBy page table bytes (head strings used) = ⊥
SpeltBy page table bytes other = ⊤

up_to_first : (x : ℕ) (bs : List ℕ) (c : Bool) → (x == 0) ≡ c
    → (length (until_zero bs) < length bs → (take (suc (length (until_zero bs))) bs ≡ until_zero bs ++ 0 ∷ [])
    × HasNoZero (until_zero bs))
    → length (if c then [] else x ∷ until_zero bs) < suc (length bs)
    → (take (suc (length (if c then [] else x ∷ until_zero bs))) (x ∷ bs) ≡ (if c then [] else x ∷ until_zero bs) ++ 0
    ∷ [])
    × HasNoZero (if c then [] else x ∷ until_zero bs)
up_to_first x bs true e h short = (ap (λ y. y ∷ []) is_zero, tt)
  where
    is_zero : x ≡ 0
    is_zero = search rules
up_to_first x bs false e h short =
    let rest = h (omega (arith, short)) in
    let positive : 0 < x = search rules in
    (ap (λ y. x ∷ y) rest.0, (positive, rest.1))

up_to_zero : (bytes : List ℕ) → length (until_zero bytes) < length bytes
    → (take (suc (length (until_zero bytes))) bytes ≡ until_zero bytes ++ 0 ∷ []) × HasNoZero (until_zero bytes)
up_to_zero [] short = absurd (omega (arith, short))
up_to_zero (x ∷ bs) short = up_to_first x bs (x == 0) refl (up_to_zero bs) short

text_spelt : (page : ℕ) (table bytes : List ℕ) (c : Bool) → nat_lt (length (until_zero bytes)) (length bytes) ≡ c
    → SpeltBy page table (0x03 ∷ bytes)
    (if c then token (Text (until_zero bytes)) (length (until_zero bytes) + 2) else more)
text_spelt page table bytes false e = tt
text_spelt page table bytes true e =
    let short : length (until_zero bytes) < length bytes = search rules in
    let up = up_to_zero bytes short in
    let two : length (until_zero bytes) + 2 ≡ suc (suc (length (until_zero bytes))) = omega arith in
    (omega (arith, short), inl (ap (λ n. take n (0x03 ∷ bytes)) two ∙ ap (λ y. 0x03 ∷ y) up.0, up.1))

table_spelt : (page : ℕ) (table bytes : List ℕ) (r : Mb) → AreBytes bytes → integer_at bytes ≡ r
    → SpeltBy page table (0x83 ∷ bytes) (integer_then 0 1 r bytes (table_text_in table))
table_spelt page table bytes mb.More fit e = tt
table_spelt page table bytes mb.TooBig fit e = tt
table_spelt page table bytes (mb.Value index used) fit e = below (nat_lt index (length table)) refl
  where
    below : (c : Bool) → nat_lt index (length table) ≡ c
        → SpeltBy page table (0x83 ∷ bytes)
        (if c then token (Text (table_string table index)) (1 + used) else wrong 0 reasons.Index)
    below false low = tt
    below true low =
        let number = at_is_found bytes index used fit e in
        let one : 1 + used ≡ suc used = omega arith in (
          omega (arith, number.0),
          inr (index, take used bytes, ap (λ n. take n (0x83 ∷ bytes)) one, number.1, search rules, refl),
        )

opaque_spelt : (page : ℕ) (table bytes : List ℕ) (r : Mb) → AreBytes bytes → integer_at bytes ≡ r
    → SpeltBy page table (0xc3 ∷ bytes) (integer_then 0 1 r bytes opaque_in)
opaque_spelt page table bytes mb.More fit e = tt
opaque_spelt page table bytes mb.TooBig fit e = tt
opaque_spelt page table bytes (mb.Value count used) fit e = below (nat_le count (length (drop used bytes))) refl
  where
    below : (c : Bool) → nat_le count (length (drop used bytes)) ≡ c
        → SpeltBy page table (0xc3 ∷ bytes)
        (if c then token (Opaque (take count (drop used bytes))) (1 + used + count) else more)
    below false low = tt
    below true low =
        let number = at_is_found bytes count used fit e in
        let few : count ≤ length (drop used bytes) = search rules in
        let one : 1 + used + count ≡ suc (used + count) = omega arith in
        let long : length (take count (drop used bytes)) ≡ count = length-take-le count (drop used bytes) few in (
          omega (arith, number.0, few, length-drop used bytes),
          (
            take used bytes,
            ap (λ n. take n (0xc3 ∷ bytes)) one ∙ ap (λ y. 0xc3 ∷ y) (take-add used count bytes),
            subst (λ n. IsMultibyte n (take used bytes)) (sym long) number.1,
          ),
        )

-- a byte with the content bit, or without it, is the tag's
content_is : (e : Element) (x : ℕ) (c : Bool) → nat_le 0x40 x ≡ c → x < 0x80 → code_on_page e ≡ x % 0x40
    → x ≡ (if c then code_on_page e + 0x40 else code_on_page e)
content_is e x true large high code =
    let low : 0x40 ≤ x = search rules in omega (arith, low, high, code)
content_is e x false large high code =
    let low : x < 0x40 = search rules in omega (arith, low, code)

found_spelt : (page : ℕ) (table bs : List ℕ) (x : ℕ) (o : Option Element) → x < 0x80 → element_at page (x % 0x40) ≡ o
    → SpeltBy page table (x ∷ bs) (tag_in o (nat_le 0x40 x))
found_spelt page table bs x None high is = tt
found_spelt page table bs x (Some e) high is =
    let right : HasCode page (x % 0x40) e = row_is_right page (x % 0x40) e is in
    (omega arith, (right.0, ap (λ y. y ∷ []) (content_is e x (nat_le 0x40 x) refl high right.1)))

tag_spelt : (page : ℕ) (table bs : List ℕ) (x : ℕ) (c : Bool) → (nat_le 0x80 x || nat_lt (x % 0x40) 5) ≡ c
    → SpeltBy page table (x ∷ bs)
    (if c then wrong 0 reasons.Token else tag_in (element_at page (x % 0x40)) (nat_le 0x40 x))
tag_spelt page table bs x true e = tt
tag_spelt page table bs x false e = found_spelt page table bs x (element_at page (x % 0x40)) (search rules) refl

page_spelt : (page : ℕ) (table bs : List ℕ) (other : ℕ) (c : Bool) → nat_lt other 2 ≡ c
    → SpeltBy page table (0x00 ∷ other ∷ bs) (if c then switch other else wrong 0 reasons.Tag)
page_spelt page table bs other true low = (search rules, refl)
page_spelt page table bs other false low = tt

switch_spelt : (page : ℕ) (table bs : List ℕ) → SpeltBy page table (0x00 ∷ bs) (switch_in bs)
switch_spelt page table [] = tt
switch_spelt page table (other ∷ bs) = page_spelt page table bs other (nat_lt other 2) refl

-- the same bytes, of which the first is known
first_is : (page : ℕ) (table bs : List ℕ) (x y : ℕ) (f : Front) → (x == y) ≡ true → SpeltBy page table (y ∷ bs) f
    → SpeltBy page table (x ∷ bs) f
first_is page table bs x y f e h =
    let same : x ≡ y = search rules in subst (λ z. SpeltBy page table (z ∷ bs) f) (sym same) h

first_spelt : (page : ℕ) (table : List ℕ) (x : ℕ) (bs : List ℕ) (c0 c1 c3 c83 cc3 : Bool) → AreBytes bs
    → (x == 0x00) ≡ c0 → (x == 0x01) ≡ c1 → (x == 0x03) ≡ c3 → (x == 0x83) ≡ c83 → (x == 0xc3) ≡ cc3
    → SpeltBy page table (x ∷ bs)
    (if c0 then switch_in bs else if c1 then token End 1 else if c3 then text_in (until_zero bs) bs
    else if c83 then integer_then 0 1 (integer_at bs) bs (table_text_in table)
    else if cc3 then integer_then 0 1 (integer_at bs) bs opaque_in else tag_of page x)
first_spelt page table x bs true c1 c3 c83 cc3 fit e0 e1 e3 e83 ec3 =
    first_is page table bs x 0x00 (switch_in bs) e0 (switch_spelt page table bs)
first_spelt page table x bs false true c3 c83 cc3 fit e0 e1 e3 e83 ec3 =
    first_is page table bs x 0x01 (token End 1) e1 (omega arith, refl)
first_spelt page table x bs false false true c83 cc3 fit e0 e1 e3 e83 ec3 =
    first_is page table bs x 0x03 (text_in (until_zero bs) bs) e3
    (text_spelt page table bs (nat_lt (length (until_zero bs)) (length bs)) refl)
first_spelt page table x bs false false false true cc3 fit e0 e1 e3 e83 ec3 =
    first_is page table bs x 0x83 (integer_then 0 1 (integer_at bs) bs (table_text_in table)) e83
    (table_spelt page table bs (integer_at bs) fit refl)
first_spelt page table x bs false false false false true fit e0 e1 e3 e83 ec3 =
    first_is page table bs x 0xc3 (integer_then 0 1 (integer_at bs) bs opaque_in) ec3
    (opaque_spelt page table bs (integer_at bs) fit refl)
first_spelt page table x bs false false false false false fit e0 e1 e3 e83 ec3 =
    tag_spelt page table bs x (nat_le 0x80 x || nat_lt (x % 0x40) 5) refl

pub front_spelt : (page : ℕ) (table bytes : List ℕ) (t : Token) (used : ℕ) → AreBytes bytes
    → front page table bytes ≡ token t used
    → (used ≤ length bytes) × SpellsToken page table t (take used bytes)
unfolding front
front_spelt page table [] t used fit is = absurd cc
front_spelt page table (x ∷ bs) t used fit is =
    subst (SpeltBy page table (x ∷ bs)) is
    (first_spelt page table x bs (x == 0x00) (x == 0x01) (x == 0x03) (x == 0x83) (x == 0xc3) fit.1 refl refl refl refl
    refl)

pub switch_there : (page : ℕ) (table bytes : List ℕ) (other : ℕ) → AreBytes bytes
    → front page table bytes ≡ switch other
    → (other < 2) × (bytes ≡ 0x00 ∷ other ∷ drop 2 bytes)
unfolding front
switch_there page table [] other fit is = absurd cc
switch_there page table (x ∷ bs) other fit is =
    subst (SpeltBy page table (x ∷ bs)) is
    (first_spelt page table x bs (x == 0x00) (x == 0x01) (x == 0x03) (x == 0x83) (x == 0xc3) fit.1 refl refl refl refl
    refl)

pub bytes_after : (n : ℕ) (bytes : List ℕ) → AreBytes bytes → AreBytes (drop n bytes)
bytes_after = bytes_behind

-- no prologue stands in the body
pub no_head : (page : ℕ) (table bytes strings : List ℕ) (used : ℕ) → AreBytes bytes
    → front page table bytes ≡ head strings used → ⊥
unfolding front
no_head page table [] strings used fit is = cc
no_head page table (x ∷ bs) strings used fit is =
    subst (SpeltBy page table (x ∷ bs)) is
    (first_spelt page table x bs (x == 0x00) (x == 0x01) (x == 0x03) (x == 0x83) (x == 0xc3) fit.1 refl refl refl refl
    refl)

-- no token is spelled by no byte
nothing_spelled : (page : ℕ) (table : List ℕ) (t : Token) → SpellsToken page table t [] → ⊥
nothing_spelled page table (Tag e content) h = absurd (no_cons (tag_byte e content) [] h.1)
  where
    no_cons : (b : ℕ) (bs : List ℕ) → [] ≡ b ∷ bs → ⊥
    no_cons b bs e = cc
nothing_spelled page table End h = cc
nothing_spelled page table (Text text) (inl h) = absurd (no_cons 3 (text ++ 0 ∷ []) h.0)
  where
    no_cons : (b : ℕ) (bs : List ℕ) → [] ≡ b ∷ bs → ⊥
    no_cons b bs e = cc
nothing_spelled page table (Text text) (inr h) = absurd (no_cons 0x83 h.1 h.2)
  where
    no_cons : (b : ℕ) (bs : List ℕ) → [] ≡ b ∷ bs → ⊥
    no_cons b bs e = cc
nothing_spelled page table (Opaque content) h = absurd (no_cons 0xc3 (h.0 ++ content) h.1)
  where
    no_cons : (b : ℕ) (bs : List ℕ) → [] ≡ b ∷ bs → ⊥
    no_cons b bs e = cc

some_bytes : (page : ℕ) (table bytes : List ℕ) (t : Token) (used : ℕ) → SpellsToken page table t (take used bytes)
    → 0 < used
some_bytes page table bytes t zero h = absurd (nothing_spelled page table t h)
some_bytes page table bytes t (suc used) h = omega arith

pub token_has_bytes : (page : ℕ) (table bytes : List ℕ) (t : Token) (used : ℕ) → AreBytes bytes
    → front page table bytes ≡ token t used → 0 < used
token_has_bytes page table bytes t used fit is =
    some_bytes page table bytes t used (front_spelt page table bytes t used fit is).1
