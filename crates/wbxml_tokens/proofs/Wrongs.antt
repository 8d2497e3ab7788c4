-- What is refused at the front of bytes of the body.
use Rattle.std.proofs.Common.{ℕ, ◌≡◌, ◌<◌, ◌≤◌, ◌+◌, ◌%◌, List, [], ◌∷◌, length, take, drop, refl, sym, ap, ◌∙◌, subst}
use Rattle.std.proofs.Common.{arith, rules, inl, inr}
use Rattle.std.specs.Prelude.{◌==◌, ◌||◌, Bool, true, false, if◌then◌else◌, nat_lt, nat_le, Option, Some, None, ⊤}
use Rattle.wbxml_ints.specs.declared.Mb.{Mb}
use Rattle.wbxml_ints.specs.declared.Mb.TheVariants as mb
use Rattle.wbxml_ints.specs.Multibyte.{IsTooBig, AreBytes, integer_at}
use Rattle.wbxml_ints.proofs.Functions.{found_is_at, at_is_found, big_is_found}
use Rattle.wbxml_tables.specs.declared.Element.{Element}
use Rattle.wbxml_tables.specs.Tables.{element_at, HasCode}
use Rattle.wbxml_tables.proofs.Rows.{none_at, no_row}
use Rattle.wbxml_tokens.specs.declared.reason.Reason.{Reason}
use Rattle.wbxml_tokens.specs.declared.reason.Reason.TheVariants as reasons
use Rattle.wbxml_tokens.specs.declared.token.Token.TheVariants.{End, Text, Opaque}
use Rattle.wbxml_tokens.specs.Fronts.{Front, more, wrong, switch, token, until_zero, table_string, integer_then}
use Rattle.wbxml_tokens.specs.Fronts.{switch_in, text_in, table_text_in, opaque_in, tag_in, tag_of, front}
use Rattle.wbxml_tokens.specs.Spelled.{IsNoToken, IsNoTag, IsWrong, WrongIsRefused}

-- ---- what is wrong there is refused

token_refused : (page : ℕ) (table rest : List ℕ) (b : ℕ) → IsNoToken b
    → front page table (b ∷ rest) ≡ wrong 0 reasons.Token
unfolding front
token_refused page table rest b (inl (large, not_83, not_c3)) =
    let a : (b == 0x00) ≡ false = grind arith in
    let c : (b == 0x01) ≡ false = grind arith in
    let d : (b == 0x03) ≡ false = grind arith in
    let e : (b == 0x83) ≡ false = search rules in
    let f : (b == 0xc3) ≡ false = search rules in
    let g : nat_le 0x80 b ≡ true = grind arith in
    rw (a, c, d, e, f, g) refl
token_refused page table rest b (inr (small, low, not_0, not_1, not_3)) =
    let a : (b == 0x00) ≡ false = search rules in
    let c : (b == 0x01) ≡ false = search rules in
    let d : (b == 0x03) ≡ false = search rules in
    let e : (b == 0x83) ≡ false = grind arith in
    let f : (b == 0xc3) ≡ false = grind arith in
    let g : nat_le 0x80 b ≡ false = grind arith in
    let h : nat_lt (b % 0x40) 5 ≡ true = grind arith in
    rw (a, c, d, e, f, g, h) refl

tag_refused : (page : ℕ) (table rest : List ℕ) (b : ℕ) → IsNoTag page b
    → front page table (b ∷ rest) ≡ wrong 0 reasons.Tag
unfolding front
tag_refused page table rest b (small, high, none) =
    let a : (b == 0x00) ≡ false = grind arith in
    let c : (b == 0x01) ≡ false = grind arith in
    let d : (b == 0x03) ≡ false = grind arith in
    let e : (b == 0x83) ≡ false = grind arith in
    let f : (b == 0xc3) ≡ false = grind arith in
    let g : nat_le 0x80 b ≡ false = grind arith in
    let h : nat_lt (b % 0x40) 5 ≡ false = grind arith in
    let i : element_at page (b % 0x40) ≡ None = no_row page (b % 0x40) none in
    rw (a, c, d, e, f, g, h, i) refl

page_refused : (page other : ℕ) (table rest : List ℕ) → 2 ≤ other
    → front page table (0x00 ∷ other ∷ rest) ≡ wrong 0 reasons.Tag
unfolding front
page_refused page other table rest large =
    let above : nat_lt other 2 ≡ false = grind arith in
    ap (λ (c : Bool). if c then switch other else wrong 0 reasons.Tag) above

pub too_big : (rest : List ℕ) → IsTooBig rest → integer_at rest ≡ mb.TooBig
too_big rest h = sym (found_is_at rest mb.TooBig h)

pub wrong_refused : (page : ℕ) (table bytes : List ℕ) (reason : Reason) → IsWrong page table bytes reason
    → front page table bytes ≡ wrong 0 reason
unfolding front
wrong_refused page table bytes reasons.Token (b, rest, is, h) =
    ap (front page table) is ∙ token_refused page table rest b h
wrong_refused page table bytes reasons.Tag (inl (other, rest, is, h)) =
    ap (front page table) is ∙ page_refused page other table rest h
wrong_refused page table bytes reasons.Tag (inr (b, rest, is, h)) =
    ap (front page table) is ∙ tag_refused page table rest b h
wrong_refused page table bytes reasons.Integer (b, rest, is, inl first, h) =
    ap (front page table) (is ∙ ap (λ x. x ∷ rest) first)
    ∙ ap (λ r. integer_then 0 1 r rest (table_text_in table)) (too_big rest h)
wrong_refused page table bytes reasons.Integer (b, rest, is, inr first, h) =
    ap (front page table) (is ∙ ap (λ x. x ∷ rest) first) ∙ ap (λ r. integer_then 0 1 r rest opaque_in) (too_big rest h)
wrong_refused page table bytes reasons.Index (rest, index, used, is, few, spells, high) =
    let above : nat_lt index (length table) ≡ false = grind arith in
    ap (front page table) is
    ∙ ap (λ r. integer_then 0 1 r rest (table_text_in table))
    (sym (found_is_at rest (mb.Value index used) (few, spells)))
    ∙ ap (λ (c : Bool). if c then token (Text (table_string table index)) (1 + used) else wrong 0 reasons.Index) above
wrong_refused page table bytes other h = absurd h

-- ---- what is refused is wrong there

abbrev WrongBy : ℕ → List ℕ → List ℕ → Front → Type 0
WrongBy page table bytes (wrong place reason) = (place ≡ 0) × IsWrong page table bytes reason
WrongBy page table bytes other = ⊤

pages_wrong : (page : ℕ) (table bs : List ℕ) (other : ℕ) (c : Bool) → nat_lt other 2 ≡ c
    → WrongBy page table (0x00 ∷ other ∷ bs) (if c then switch other else wrong 0 reasons.Tag)
pages_wrong page table bs other true e = tt
pages_wrong page table bs other false e =
    let large : 2 ≤ other = search rules in (refl, inl (other, bs, refl, large))

switch_wrong : (page : ℕ) (table bs : List ℕ) → WrongBy page table (0x00 ∷ bs) (switch_in bs)
switch_wrong page table [] = tt
switch_wrong page table (other ∷ bs) = pages_wrong page table bs other (nat_lt other 2) refl

text_wrong : (page : ℕ) (table bytes : List ℕ) (c : Bool)
    → WrongBy page table bytes
    (if c then token (Text (until_zero (drop 1 bytes))) (length (until_zero (drop 1 bytes)) + 2) else more)
text_wrong page table bytes true = tt
text_wrong page table bytes false = tt

index_wrong : (page : ℕ) (table bs : List ℕ) (index used : ℕ) (c : Bool) → nat_lt index (length table) ≡ c → AreBytes bs
    → integer_at bs ≡ mb.Value index used
    → WrongBy page table (0x83 ∷ bs)
    (if c then token (Text (table_string table index)) (1 + used) else wrong 0 reasons.Index)
index_wrong page table bs index used true e fit is = tt
index_wrong page table bs index used false e fit is =
    let found = at_is_found bs index used fit is in
    let large : length table ≤ index = search rules in (refl, (bs, index, used, refl, found.0, found.1, large))

table_wrong : (page : ℕ) (table bs : List ℕ) (r : Mb) → AreBytes bs → integer_at bs ≡ r
    → WrongBy page table (0x83 ∷ bs) (integer_then 0 1 r bs (table_text_in table))
table_wrong page table bs mb.More fit is = tt
table_wrong page table bs mb.TooBig fit is = (refl, (0x83, bs, refl, inl refl, big_is_found bs fit is))
table_wrong page table bs (mb.Value index used) fit is =
    index_wrong page table bs index used (nat_lt index (length table)) refl fit is

opaque_by : (page : ℕ) (table bytes payload : List ℕ) (size : ℕ) (c : Bool)
    → WrongBy page table bytes (if c then token (Opaque payload) size else more)
opaque_by page table bytes payload size true = tt
opaque_by page table bytes payload size false = tt

opaque_wrong : (page : ℕ) (table bs : List ℕ) (r : Mb) → AreBytes bs → integer_at bs ≡ r
    → WrongBy page table (0xc3 ∷ bs) (integer_then 0 1 r bs opaque_in)
opaque_wrong page table bs mb.More fit is = tt
opaque_wrong page table bs mb.TooBig fit is = (refl, (0xc3, bs, refl, inr refl, big_is_found bs fit is))
opaque_wrong page table bs (mb.Value count used) fit is =
    opaque_by page table (0xc3 ∷ bs) (take count (drop used bs)) (1 + used + count)
    (nat_le count (length (drop used bs)))

-- no row is found, so no element is there
found_wrong : (page : ℕ) (table bs : List ℕ) (x : ℕ) (o : Option Element) → element_at page (x % 0x40) ≡ o → x < 0x80
    → 5 ≤ x % 0x40
    → WrongBy page table (x ∷ bs) (tag_in o (nat_le 0x40 x))
found_wrong page table bs x (Some e) is small high = tt
found_wrong page table bs x None is small high = (refl, inr (x, bs, refl, (small, high, λ e at. absent e at)))
  where
    absent : (e : Element) → HasCode page (x % 0x40) e → ⊥
    absent e at = none_at page (x % 0x40) e is at

tag_wrong : (page : ℕ) (table bs : List ℕ) (x : ℕ) (c : Bool) → (nat_le 0x80 x || nat_lt (x % 0x40) 5) ≡ c
    → (x == 0x00) ≡ false → (x == 0x01) ≡ false → (x == 0x03) ≡ false → (x == 0x83) ≡ false → (x == 0xc3) ≡ false
    → WrongBy page table (x ∷ bs)
    (if c then wrong 0 reasons.Token else tag_in (element_at page (x % 0x40)) (nat_le 0x40 x))
tag_wrong page table bs x true e e0 e1 e3 e83 ec3 = (refl, (x, bs, refl, which (nat_le 0x80 x) refl))
  where
    which : (d : Bool) → nat_le 0x80 x ≡ d → IsNoToken x
    which true large = inl (search rules, search rules, search rules)
    which false small = inr (search rules, search rules, search rules, search rules, search rules)
tag_wrong page table bs x false e e0 e1 e3 e83 ec3 =
    found_wrong page table bs x (element_at page (x % 0x40)) refl (search rules) (search rules)

first_is : (page : ℕ) (table bs : List ℕ) (x y : ℕ) (f : Front) → (x == y) ≡ true → WrongBy page table (y ∷ bs) f
    → WrongBy page table (x ∷ bs) f
first_is page table bs x y f e h =
    let same : x ≡ y = search rules in subst (λ z. WrongBy page table (z ∷ bs) f) (sym same) h

first_wrong : (page : ℕ) (table : List ℕ) (x : ℕ) (bs : List ℕ) (c0 c1 c3 c83 cc3 : Bool) → AreBytes bs
    → (x == 0x00) ≡ c0 → (x == 0x01) ≡ c1 → (x == 0x03) ≡ c3 → (x == 0x83) ≡ c83 → (x == 0xc3) ≡ cc3
    → WrongBy page table (x ∷ bs)
    (if c0 then switch_in bs else if c1 then token End 1 else if c3 then text_in (until_zero bs) bs
    else if c83 then integer_then 0 1 (integer_at bs) bs (table_text_in table)
    else if cc3 then integer_then 0 1 (integer_at bs) bs opaque_in else tag_of page x)
first_wrong page table x bs true c1 c3 c83 cc3 fit e0 e1 e3 e83 ec3 =
    first_is page table bs x 0x00 (switch_in bs) e0 (switch_wrong page table bs)
first_wrong page table x bs false true c3 c83 cc3 fit e0 e1 e3 e83 ec3 = tt
first_wrong page table x bs false false true c83 cc3 fit e0 e1 e3 e83 ec3 =
    text_wrong page table (x ∷ bs) (nat_lt (length (until_zero bs)) (length bs))
first_wrong page table x bs false false false true cc3 fit e0 e1 e3 e83 ec3 =
    first_is page table bs x 0x83 (integer_then 0 1 (integer_at bs) bs (table_text_in table)) e83
    (table_wrong page table bs (integer_at bs) fit refl)
first_wrong page table x bs false false false false true fit e0 e1 e3 e83 ec3 =
    first_is page table bs x 0xc3 (integer_then 0 1 (integer_at bs) bs opaque_in) ec3
    (opaque_wrong page table bs (integer_at bs) fit refl)
first_wrong page table x bs false false false false false fit e0 e1 e3 e83 ec3 =
    tag_wrong page table bs x (nat_le 0x80 x || nat_lt (x % 0x40) 5) refl e0 e1 e3 e83 ec3

pub wrong_there : (page : ℕ) (table bytes : List ℕ) (place : ℕ) (reason : Reason) → AreBytes bytes
    → front page table bytes ≡ wrong place reason
    → (place ≡ 0) × IsWrong page table bytes reason
unfolding front
wrong_there page table [] place reason fit is = absurd cc
wrong_there page table (x ∷ bs) place reason fit is =
    subst (WrongBy page table (x ∷ bs)) is
    (first_wrong page table x bs (x == 0x00) (x == 0x01) (x == 0x03) (x == 0x83) (x == 0xc3) fit.1 refl refl refl refl
    refl)

pub wrong_is_refused : WrongIsRefused
wrong_is_refused page table bytes at reason fit = (
  λ is. wrong_there page table bytes at reason fit is,
  λ h. wrong_refused page table bytes reason h.1 ∙ ap (λ n. wrong n reason) (sym h.0),
)
