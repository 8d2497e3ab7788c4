-- What stands at the front of bytes is settled by its own bytes alone.
use Rattle.std.proofs.Common.{ℕ, zero, suc, ◌≡◌, ◌<◌, ◌≤◌, ◌+◌, ◌-◌, ◌*◌, ◌%◌, List, [], ◌∷◌, ◌++◌, length}
use Rattle.std.proofs.Common.{length-append, take, drop, take-append-drop, refl, sym, ap, ◌∙◌, subst, arith, rules}
use Rattle.std.proofs.Common.{append_assoc, ◌^◌}
use Rattle.std.specs.Prelude.{◌==◌, ◌&&◌, ◌||◌, Bool, true, false, if◌then◌else◌, nat_lt, nat_le, Option, Some, None, ⊤}
use Rattle.std.proofs.lemmas.List.{drop_at, take_at, take-append-le, length-drop, length-take-le}
use Rattle.std.proofs.Math.Seq.{take-add}
use Rattle.wbxml_ints.specs.declared.Mb.{Mb}
use Rattle.wbxml_ints.specs.declared.Mb.TheVariants as mb
use Rattle.wbxml_ints.specs.Multibyte.{integer_from, integer_at, whole_number}
use Rattle.wbxml_tables.specs.declared.Element.{Element}
use Rattle.wbxml_tables.specs.Tables.{element_at}
use Rattle.wbxml_tokens.specs.declared.reason.Reason.TheVariants as reasons
use Rattle.wbxml_tokens.specs.declared.token.Token.TheVariants.{End, Text, Opaque}
use Rattle.wbxml_tokens.specs.Fronts.{Front, more, wrong, head, switch, token, until_zero, integer_then, switch_in}
use Rattle.wbxml_tokens.specs.Fronts.{text_in, table_text_in, opaque_in, tag_in, tag_of, front, is_identified}
use Rattle.wbxml_tokens.specs.Fronts.{identified_head}
use Rattle.wbxml_tokens.specs.Fronts.{table_in, charset_in, behind_identifier, index_in, identifier_in, prologue_at}
use Rattle.wbxml_tokens.specs.Reading.{size_of}

-- ---- integers

abbrev pub SettledInteger : (List ℕ → Mb) → ℕ → List ℕ → Mb → Type 0
SettledInteger f from bytes mb.More = ⊤
SettledInteger f from bytes mb.TooBig = (b : List ℕ) → f (bytes ++ b) ≡ mb.TooBig
SettledInteger f from bytes (mb.Value n used) =
    (k : ℕ) × (used ≡ from + k) × (k ≤ length bytes) × ((b : List ℕ) → f (take k bytes ++ b) ≡ mb.Value n used)

whole_settled : (value used left b : ℕ) (bs : List ℕ) (m : Bool) → nat_lt b 128 ≡ true
    → nat_lt (value * 128 + b) (2 ^ 32) ≡ m
    → SettledInteger (integer_from value used (suc left)) used (b ∷ bs)
    (if m then mb.Value (value * 128 + b) (suc used) else mb.TooBig)
whole_settled value used left b bs true small fits = (1, omega arith, omega arith, λ x. rw (small, fits) refl)
whole_settled value used left b bs false small fits = λ x. rw (small, fits) refl

later_settled : (value used left b : ℕ) (bs : List ℕ) (r : Mb) → nat_lt b 128 ≡ false
    → SettledInteger (integer_from (value * 128 + (b - 128)) (suc used) left) (suc used) bs r
    → SettledInteger (integer_from value used (suc left)) used (b ∷ bs) r
later_settled value used left b bs mb.More large h = tt
later_settled value used left b bs mb.TooBig large h = λ x. rw large (h x)
later_settled value used left b bs (mb.Value n u) large h =
    (suc h.0, omega (arith, h.1), omega (arith, h.2), λ x. rw large (h.3 x))

first_settled : (value used left b : ℕ) (bs : List ℕ) (c : Bool) → nat_lt b 128 ≡ c
    → SettledInteger (integer_from (value * 128 + (b - 128)) (suc used) left) (suc used) bs
    (integer_from (value * 128 + (b - 128)) (suc used) left bs)
    → SettledInteger (integer_from value used (suc left)) used (b ∷ bs)
    (if c then whole_number (value * 128 + b) (suc used) else integer_from (value * 128 + (b - 128)) (suc used) left bs)
first_settled value used left b bs true e h =
    whole_settled value used left b bs (nat_lt (value * 128 + b) (2 ^ 32)) e refl
first_settled value used left b bs false e h =
    later_settled value used left b bs (integer_from (value * 128 + (b - 128)) (suc used) left bs) e h

from_settled : (bytes : List ℕ) (value used left : ℕ)
    → SettledInteger (integer_from value used left) used bytes (integer_from value used left bytes)
from_settled bytes value used zero = λ x. refl
from_settled [] value used (suc left) = tt
from_settled (b ∷ bs) value used (suc left) =
    first_settled value used left b bs (nat_lt b 128) refl (from_settled bs (value * 128 + (b - 128)) (suc used) left)

integer_settled : (bytes : List ℕ) → SettledInteger integer_at 0 bytes (integer_at bytes)
integer_settled bytes = from_settled bytes 0 0 5

-- ---- parts

-- a function of bytes that stand at a place gives the same, whatever follows the bytes that it is settled by
abbrev pub Settles : ℕ → (List ℕ → Front) → List ℕ → Front → Type 0
Settles at f bytes more = ⊤
Settles at f bytes (wrong place reason) = (b : List ℕ) → f (bytes ++ b) ≡ wrong place reason
Settles at f bytes part =
    (k : ℕ) × (size_of part ≡ at + k) × (k ≤ length bytes) × ((b : List ℕ) → f (take k bytes ++ b) ≡ part)

-- bytes behind an integer that is settled
after_integer : (place at : ℕ) (next : ℕ → ℕ → List ℕ → Front) (bytes rest : List ℕ) (n u : ℕ) → u ≤ length bytes
    → ((b : List ℕ) → integer_at (take u bytes ++ b) ≡ mb.Value n u)
    → integer_then place at (integer_at (take u bytes ++ rest)) (take u bytes ++ rest) next ≡ next n (at + u) rest
after_integer place at next bytes rest n u few is =
    ap (λ r. integer_then place at r (take u bytes ++ rest) next) (is rest)
    ∙ ap (next n (at + u)) (drop_at (take u bytes) rest u (length-take-le u bytes few))

split_at : (u : ℕ) (bytes b : List ℕ) → bytes ++ b ≡ take u bytes ++ (drop u bytes ++ b)
split_at u bytes b = ap (λ x. x ++ b) (sym (take-append-drop u bytes)) ∙ append_assoc (take u bytes) (drop u bytes) b

split_two : (u k : ℕ) (bytes b : List ℕ) → take (u + k) bytes ++ b ≡ take u bytes ++ (take k (drop u bytes) ++ b)
split_two u k bytes b = ap (λ x. x ++ b) (take-add u k bytes) ∙ append_assoc (take u bytes) (take k (drop u bytes)) b

part_after : (place at : ℕ) (next : ℕ → ℕ → List ℕ → Front) (bytes : List ℕ) (n u : ℕ) (part : Front) → u ≤ length bytes
    → ((b : List ℕ) → integer_at (take u bytes ++ b) ≡ mb.Value n u)
    → (k : ℕ) × (size_of part ≡ at + u + k) × (k ≤ length (drop u bytes))
    × ((b : List ℕ) → next n (at + u) (take k (drop u bytes) ++ b) ≡ part)
    → (k : ℕ) × (size_of part ≡ at + k) × (k ≤ length bytes)
    × ((b : List ℕ) → integer_then place at (integer_at (take k bytes ++ b)) (take k bytes ++ b) next ≡ part)
part_after place at next bytes n u part few is t = (
  u + t.0,
  omega (arith, t.1),
  omega (arith, t.2, few, length-drop u bytes),
  λ b.
      ap (λ x. integer_then place at (integer_at x) x next) (split_two u t.0 bytes b)
      ∙ after_integer place at next bytes (take t.0 (drop u bytes) ++ b) n u few is ∙ t.3 b,
)

behind_integer : (place at : ℕ) (next : ℕ → ℕ → List ℕ → Front) (bytes : List ℕ) (n u : ℕ) → u ≤ length bytes
    → ((b : List ℕ) → integer_at (take u bytes ++ b) ≡ mb.Value n u) → (part : Front)
    → Settles (at + u) (next n (at + u)) (drop u bytes) part
    → Settles at (λ bs. integer_then place at (integer_at bs) bs next) bytes part
behind_integer place at next bytes n u few is more t = tt
behind_integer place at next bytes n u few is (wrong p r) t =
    λ b. ap (λ x. integer_then place at (integer_at x) x next) (split_at u bytes b)
    ∙ after_integer place at next bytes (drop u bytes ++ b) n u few is ∙ t b
behind_integer place at next bytes n u few is (head table size) t =
    part_after place at next bytes n u (head table size) few is t
behind_integer place at next bytes n u few is (switch page) t =
    part_after place at next bytes n u (switch page) few is t
behind_integer place at next bytes n u few is (token t0 size) t =
    part_after place at next bytes n u (token t0 size) few is t

-- an integer and a function of what follows it
with_integer : (place at : ℕ) (next : ℕ → ℕ → List ℕ → Front)
    → ((number used : ℕ) (rest : List ℕ) → Settles used (next number used) rest (next number used rest))
    → (bytes : List ℕ) (r : Mb) → SettledInteger integer_at 0 bytes r
    → Settles at (λ bs. integer_then place at (integer_at bs) bs next) bytes (integer_then place at r bytes next)
with_integer place at next h bytes mb.More s = tt
with_integer place at next h bytes mb.TooBig s = λ b. ap (λ r. integer_then place at r (bytes ++ b) next) (s b)
with_integer place at next h bytes (mb.Value n u) s =
    let same : s.0 ≡ u = omega (arith, s.1) in
    behind_integer place at next bytes n u (omega (arith, s.2, same))
    (subst (λ k. (b : List ℕ) → integer_at (take k bytes ++ b) ≡ mb.Value n u) same s.3)
    (next n (at + u) (drop u bytes)) (h n (at + u) (drop u bytes))

settled_integer : (place at : ℕ) (next : ℕ → ℕ → List ℕ → Front)
    → ((number used : ℕ) (rest : List ℕ) → Settles used (next number used) rest (next number used rest))
    → (bytes : List ℕ)
    → Settles at (λ bs. integer_then place at (integer_at bs) bs next) bytes
    (integer_then place at (integer_at bytes) bytes next)
settled_integer place at next h bytes = with_integer place at next h bytes (integer_at bytes) (integer_settled bytes)

-- so many bytes at the front, where they are there
fits_front : (count : ℕ) (bytes b : List ℕ) → count ≤ length bytes
    → nat_le count (length (take count bytes ++ b)) ≡ true
fits_front count bytes b few =
    let there : count ≤ length (take count bytes ++ b) =
    omega (arith, length-append (take count bytes) b, length-take-le count bytes few) in grind arith

same_front : (count : ℕ) (bytes b : List ℕ) → count ≤ length bytes
    → take count (take count bytes ++ b) ≡ take count bytes
same_front count bytes b few = take_at (take count bytes) b count (length-take-le count bytes few)

opaque_either : (count at : ℕ) (bytes : List ℕ) (c : Bool) → nat_le count (length bytes) ≡ c
    → Settles at (opaque_in count at) bytes (if c then token (Opaque (take count bytes)) (at + count) else more)
opaque_either count at bytes false e = tt
opaque_either count at bytes true e =
    let few : count ≤ length bytes = search rules in (
      count,
      refl,
      few,
      λ b.
          ap (λ (c : Bool). if c then token (Opaque (take count (take count bytes ++ b))) (at + count) else more)
          (fits_front count bytes b few)
          ∙ ap (λ x. token (Opaque x) (at + count)) (same_front count bytes b few),
    )

opaque_settled : (count at : ℕ) (bytes : List ℕ) → Settles at (opaque_in count at) bytes (opaque_in count at bytes)
opaque_settled count at bytes = opaque_either count at bytes (nat_le count (length bytes)) refl

-- the bytes of a text up to its 0 settle it
zero_first : (x : ℕ) (bs b : List ℕ) (c : Bool) → (x == 0) ≡ c
    → ((length (until_zero bs) < length bs) → until_zero (take (suc (length (until_zero bs))) bs ++ b) ≡ until_zero bs)
    → length (if c then [] else x ∷ until_zero bs) < suc (length bs)
    → until_zero (take (suc (length (if c then [] else x ∷ until_zero bs))) (x ∷ bs) ++ b)
    ≡ (if c then [] else x ∷ until_zero bs)
zero_first x bs b true e h short = ap (λ (c : Bool). if c then [] else x ∷ until_zero b) e
zero_first x bs b false e h short =
    ap (λ (c : Bool). if c then [] else x ∷ until_zero (take (suc (length (until_zero bs))) bs ++ b)) e
    ∙ ap (λ t. x ∷ t) (h (omega (arith, short)))

up_to_zero : (bytes b : List ℕ) → length (until_zero bytes) < length bytes
    → until_zero (take (suc (length (until_zero bytes))) bytes ++ b) ≡ until_zero bytes
up_to_zero [] b short = absurd (omega (arith, short))
up_to_zero (x ∷ bs) b short = zero_first x bs b (x == 0) refl (up_to_zero bs b) short

text_longer : (bytes b : List ℕ) → length (until_zero bytes) < length bytes
    → nat_lt (length (until_zero bytes)) (length (take (suc (length (until_zero bytes))) bytes ++ b)) ≡ true
text_longer bytes b short =
    let there : length (until_zero bytes) < length (take (suc (length (until_zero bytes))) bytes ++ b) =
    omega (
      arith,
      length-append (take (suc (length (until_zero bytes))) bytes) b,
      length-take-le (suc (length (until_zero bytes))) bytes short,
    ) in grind arith

text_either : (bytes : List ℕ) (c : Bool) → nat_lt (length (until_zero bytes)) (length bytes) ≡ c
    → Settles 1 (λ bs. text_in (until_zero bs) bs) bytes
    (if c then token (Text (until_zero bytes)) (length (until_zero bytes) + 2) else more)
text_either bytes false e = tt
text_either bytes true e =
    let short : length (until_zero bytes) < length bytes = search rules in (
      suc (length (until_zero bytes)),
      omega arith,
      omega (arith, short),
      λ b.
          ap (λ x. text_in x (take (suc (length (until_zero bytes))) bytes ++ b)) (up_to_zero bytes b short)
          ∙ ap (λ (c : Bool). if c then token (Text (until_zero bytes)) (length (until_zero bytes) + 2) else more)
          (text_longer bytes b short),
    )

text_settled : (bytes : List ℕ) → Settles 1 (λ bs. text_in (until_zero bs) bs) bytes (text_in (until_zero bytes) bytes)
text_settled bytes = text_either bytes (nat_lt (length (until_zero bytes)) (length bytes)) refl

-- what no bytes behind change
alone : (at : ℕ) (part : Front) (bytes : List ℕ) → size_of part ≡ at → Settles at (λ _. part) bytes part
alone at more bytes e = tt
alone at (wrong place reason) bytes e = λ b. refl
alone at (head table size) bytes e = (0, omega (arith, e), omega arith, λ b. refl)
alone at (switch page) bytes e = (0, omega (arith, e), omega arith, λ b. refl)
alone at (token t size) bytes e = (0, omega (arith, e), omega arith, λ b. refl)

table_either : (table : List ℕ) (index at : ℕ) (bytes : List ℕ) (c : Bool)
    → Settles at (λ _. if c then token (Text (until_zero (drop index table))) at else wrong 0 reasons.Index) bytes
    (if c then token (Text (until_zero (drop index table))) at else wrong 0 reasons.Index)
table_either table index at bytes true = alone at (token (Text (until_zero (drop index table))) at) bytes refl
table_either table index at bytes false = λ b. refl

table_settled : (table : List ℕ) (index at : ℕ) (bytes : List ℕ)
    → Settles at (table_text_in table index at) bytes (table_text_in table index at bytes)
table_settled table index at bytes = table_either table index at bytes (nat_lt index (length table))

page_either : (page : ℕ) (bs : List ℕ) (c : Bool) → nat_lt page 2 ≡ c
    → Settles 1 switch_in (page ∷ bs) (if c then switch page else wrong 0 reasons.Tag)
page_either page bs true e = (1, omega arith, omega arith, λ b. rw e refl)
page_either page bs false e = λ b. rw e refl

switch_settled : (bytes : List ℕ) → Settles 1 switch_in bytes (switch_in bytes)
switch_settled [] = tt
switch_settled (page ∷ bs) = page_either page bs (nat_lt page 2) refl

found_either : (o : Option Element) (content : Bool) (bytes : List ℕ)
    → Settles 1 (λ _. tag_in o content) bytes (tag_in o content)
found_either None content bytes = λ b. refl
found_either (Some e) content bytes = (0, omega arith, omega arith, λ b. refl)

tag_either : (page x : ℕ) (bytes : List ℕ) (c : Bool)
    → Settles 1 (λ _. if c then wrong 0 reasons.Token else tag_in (element_at page (x % 0x40)) (nat_le 0x40 x)) bytes
    (if c then wrong 0 reasons.Token else tag_in (element_at page (x % 0x40)) (nat_le 0x40 x))
tag_either page x bytes true = λ b. refl
tag_either page x bytes false = found_either (element_at page (x % 0x40)) (nat_le 0x40 x) bytes

-- ---- behind the first byte

-- a function whose first byte leads to another function
behind_byte : (f g : List ℕ → Front) (x : ℕ) → ((bs : List ℕ) → f (x ∷ bs) ≡ g bs) → (bytes : List ℕ) (part : Front)
    → Settles 1 g bytes part → Settles 0 f (x ∷ bytes) part
behind_byte f g x same bytes more t = tt
behind_byte f g x same bytes (wrong place reason) t = λ b. same (bytes ++ b) ∙ t b
behind_byte f g x same bytes (head table size) t =
    (suc t.0, omega (arith, t.1), omega (arith, t.2), λ b. same (take t.0 bytes ++ b) ∙ t.3 b)
behind_byte f g x same bytes (switch page) t =
    (suc t.0, omega (arith, t.1), omega (arith, t.2), λ b. same (take t.0 bytes ++ b) ∙ t.3 b)
behind_byte f g x same bytes (token t0 size) t =
    (suc t.0, omega (arith, t.1), omega (arith, t.2), λ b. same (take t.0 bytes ++ b) ∙ t.3 b)

-- ---- the body

first_byte : (page : ℕ) (table : List ℕ) (x : ℕ) (bs : List ℕ) (c0 c1 c3 c83 cc3 : Bool)
    → (x == 0x00) ≡ c0 → (x == 0x01) ≡ c1 → (x == 0x03) ≡ c3 → (x == 0x83) ≡ c83 → (x == 0xc3) ≡ cc3
    → Settles 0 (front page table) (x ∷ bs)
    (if c0 then switch_in bs else if c1 then token End 1 else if c3 then text_in (until_zero bs) bs
    else if c83 then integer_then 0 1 (integer_at bs) bs (table_text_in table)
    else if cc3 then integer_then 0 1 (integer_at bs) bs opaque_in else tag_of page x)
unfolding front
first_byte page table x bs true c1 c3 c83 cc3 e0 e1 e3 e83 ec3 =
    behind_byte (front page table) switch_in x (λ ys. rw e0 refl) bs (switch_in bs) (switch_settled bs)
first_byte page table x bs false true c3 c83 cc3 e0 e1 e3 e83 ec3 =
    behind_byte (front page table) (λ _. token End 1) x (λ ys. rw (e0, e1) refl) bs (token End 1)
    (alone 1 (token End 1) bs refl)
first_byte page table x bs false false true c83 cc3 e0 e1 e3 e83 ec3 =
    behind_byte (front page table) (λ ys. text_in (until_zero ys) ys) x (λ ys. rw (e0, e1, e3) refl) bs
    (text_in (until_zero bs) bs) (text_settled bs)
first_byte page table x bs false false false true cc3 e0 e1 e3 e83 ec3 =
    behind_byte (front page table) (λ ys. integer_then 0 1 (integer_at ys) ys (table_text_in table)) x
    (λ ys. rw (e0, e1, e3, e83) refl) bs
    (integer_then 0 1 (integer_at bs) bs (table_text_in table))
    (settled_integer 0 1 (table_text_in table) (table_settled table) bs)
first_byte page table x bs false false false false true e0 e1 e3 e83 ec3 =
    behind_byte (front page table) (λ ys. integer_then 0 1 (integer_at ys) ys opaque_in) x
    (λ ys. rw (e0, e1, e3, e83, ec3) refl) bs
    (integer_then 0 1 (integer_at bs) bs opaque_in) (settled_integer 0 1 opaque_in opaque_settled bs)
first_byte page table x bs false false false false false e0 e1 e3 e83 ec3 =
    behind_byte (front page table) (λ _. tag_of page x) x (λ ys. rw (e0, e1, e3, e83, ec3) refl) bs (tag_of page x)
    (tag_either page x bs (nat_le 0x80 x || nat_lt (x % 0x40) 5))

pub front_settled : (page : ℕ) (table bytes : List ℕ) → Settles 0 (front page table) bytes (front page table bytes)
unfolding front
front_settled page table [] = tt
front_settled page table (x ∷ bs) =
    first_byte page table x bs (x == 0x00) (x == 0x01) (x == 0x03) (x == 0x83) (x == 0xc3) refl refl refl refl refl

-- ---- the prologue

head_either : (index : Option ℕ) (count at : ℕ) (bytes : List ℕ) (c : Bool) → count ≤ length bytes
    → is_identified index (take count bytes) ≡ c
    → Settles at (table_in index count at) bytes
    (if c then head (take count bytes) (at + count) else wrong 1 reasons.Publicid)
head_either index count at bytes true few e = (
  count,
  refl,
  few,
  λ b.
      ap (λ (c : Bool). if c then identified_head index (take count (take count bytes ++ b)) (at + count) else more)
      (fits_front count bytes b few)
      ∙ ap (λ x. identified_head index x (at + count)) (same_front count bytes b few)
      ∙ ap (λ (c : Bool). if c then head (take count bytes) (at + count) else wrong 1 reasons.Publicid) e,
)
head_either index count at bytes false few e =
    λ b. ap (λ (c : Bool). if c then identified_head index (take count (bytes ++ b)) (at + count) else more)
    (longer_fits count bytes b few)
    ∙ ap (λ x. identified_head index x (at + count)) (take-append-le count bytes b few)
    ∙ ap (λ (c : Bool). if c then head (take count bytes) (at + count) else wrong 1 reasons.Publicid) e
  where
    longer_fits : (count : ℕ) (bytes b : List ℕ) → count ≤ length bytes → nat_le count (length (bytes ++ b)) ≡ true
    longer_fits count bytes b few =
        let there : count ≤ length (bytes ++ b) = omega (arith, length-append bytes b, few) in grind arith

count_either : (index : Option ℕ) (count at : ℕ) (bytes : List ℕ) (c : Bool) → nat_le count (length bytes) ≡ c
    → Settles at (table_in index count at) bytes (if c then identified_head index (take count bytes) (at + count) else more)
count_either index count at bytes false e = tt
count_either index count at bytes true e =
    head_either index count at bytes (is_identified index (take count bytes)) (search rules) refl

head_settled : (index : Option ℕ) (count at : ℕ) (bytes : List ℕ)
    → Settles at (table_in index count at) bytes (table_in index count at bytes)
head_settled index count at bytes = count_either index count at bytes (nat_le count (length bytes)) refl

charset_either : (index : Option ℕ) (place at : ℕ) (bytes : List ℕ) (c : Bool)
    → Settles at (λ bs. if c then integer_then at at (integer_at bs) bs (table_in index)
    else wrong place reasons.Charset) bytes
    (if c then integer_then at at (integer_at bytes) bytes (table_in index) else wrong place reasons.Charset)
charset_either index place at bytes true = settled_integer at at (table_in index) (head_settled index) bytes
charset_either index place at bytes false = λ b. refl

charset_settled : (index : Option ℕ) (place charset at : ℕ) (bytes : List ℕ)
    → Settles at (charset_in index place charset at) bytes (charset_in index place charset at bytes)
charset_settled index place charset at bytes = charset_either index place at bytes (charset == 106)

behind_settled : (index : Option ℕ) (at : ℕ) (bytes : List ℕ)
    → Settles at (behind_identifier index at) bytes (behind_identifier index at bytes)
behind_settled index at bytes = settled_integer at at (charset_in index at) (charset_settled index at) bytes

index_settled : (index at : ℕ) (bytes : List ℕ) → Settles at (index_in index at) bytes (index_in index at bytes)
index_settled index at bytes = behind_settled (Some index) at bytes

identifier_either : (at : ℕ) (bytes : List ℕ) (c d : Bool)
    → Settles at (λ bs. if c then integer_then at at (integer_at bs) bs index_in else if d
    then behind_identifier None at bs else wrong 1 reasons.Publicid) bytes
    (if c then integer_then at at (integer_at bytes) bytes index_in else if d then behind_identifier None at bytes
    else wrong 1 reasons.Publicid)
identifier_either at bytes true d = settled_integer at at index_in index_settled bytes
identifier_either at bytes false true = behind_settled None at bytes
identifier_either at bytes false false = λ b. refl

identifier_settled : (number at : ℕ) (bytes : List ℕ)
    → Settles at (identifier_in number at) bytes (identifier_in number at bytes)
identifier_settled number at bytes = identifier_either at bytes (number == 0) (number == 0x1201)

version_either : (version : ℕ) (bs : List ℕ) (c : Bool) → (nat_le 1 version && nat_le version 3) ≡ c
    → Settles 0 prologue_at (version ∷ bs)
    (if c then integer_then 1 1 (integer_at bs) bs identifier_in else wrong 0 reasons.Version)
unfolding prologue_at
version_either version bs true e =
    behind_byte prologue_at (λ ys. integer_then 1 1 (integer_at ys) ys identifier_in) version (λ ys. rw e refl) bs
    (integer_then 1 1 (integer_at bs) bs identifier_in) (settled_integer 1 1 identifier_in identifier_settled bs)
version_either version bs false e = λ b. rw e refl

pub prologue_settled : (bytes : List ℕ) → Settles 0 prologue_at bytes (prologue_at bytes)
unfolding prologue_at
prologue_settled [] = tt
prologue_settled (version ∷ bs) = version_either version bs (nat_le 1 version && nat_le version 3) refl
