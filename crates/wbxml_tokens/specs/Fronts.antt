-- What stands at the front of bytes, in the prologue and in the body of a document: WBXML 1.3, sections 5.1 to 5.8,
-- with the choices of this profile.
use Rattle.std.specs.Prelude.{◌==◌, ◌&&◌, ◌||◌, ◌+◌, ◌%◌, ℕ, Bool, true, if◌then◌else◌, nat_lt, nat_le, List, [], ◌∷◌}
use Rattle.std.specs.Prelude.{length, take, drop, Option, Some, None, codes}
use Rattle.std.specs.Str.{bytes_eq}
use Rattle.wbxml_ints.specs.declared.Mb.{Mb}
use Rattle.wbxml_ints.specs.declared.Mb.TheVariants as mb
use Rattle.wbxml_ints.specs.Multibyte.{integer_at}
use Rattle.wbxml_tables.specs.declared.Element.{Element}
use Rattle.wbxml_tables.specs.Tables.{element_at}
use Rattle.wbxml_tokens.specs.declared.reason.Reason.{Reason}
use Rattle.wbxml_tokens.specs.declared.reason.Reason.TheVariants as reasons
use Rattle.wbxml_tokens.specs.declared.token.Token.{Token}
use Rattle.wbxml_tokens.specs.declared.token.Token.TheVariants.{Tag, End, Text, Opaque}

-- what stands at the front of bytes
pub data Front : Type 0 where
  more : Front  -- a part that isn't whole
  wrong : ℕ → Reason → Front  -- a part that is refused, with the place of the byte that is named
  head : List ℕ → ℕ → Front  -- a prologue with this string table, of so many bytes
  switch : ℕ → Front  -- a switch to this page, of two bytes
  token : Token → ℕ → Front  -- a token, of so many bytes

-- the bytes before the first 0
abbrev pub until_zero : List ℕ → List ℕ
until_zero [] = []
until_zero (b ∷ bs) = if b == 0 then [] else b ∷ until_zero bs

-- the string of the table that begins at this index
abbrev pub table_string : List ℕ → ℕ → List ℕ
table_string table index = until_zero (drop index table)

-- an integer at the front of bytes that stand at a place, and what follows it; one that is too big is refused at the
-- first place
abbrev pub integer_then : ℕ → ℕ → Mb → List ℕ → (ℕ → ℕ → List ℕ → Front) → Front
integer_then place at (mb.Value number used) bytes next = next number (at + used) (drop used bytes)
integer_then place at mb.More bytes next = more
integer_then place at mb.TooBig bytes next = wrong place reasons.Integer

-- ---- tokens

abbrev pub switch_in : List ℕ → Front
switch_in [] = more
switch_in (page ∷ bs) = if nat_lt page 2 then switch page else wrong 0 reasons.Tag

abbrev pub text_in : List ℕ → List ℕ → Front
text_in text bytes = if nat_lt (length text) (length bytes) then token (Text text) (length text + 2) else more

abbrev pub table_text_in : List ℕ → ℕ → ℕ → List ℕ → Front
table_text_in table index at bytes =
    if nat_lt index (length table) then token (Text (table_string table index)) at else wrong 0 reasons.Index

abbrev pub opaque_in : ℕ → ℕ → List ℕ → Front
opaque_in count at bytes = if nat_le count (length bytes) then token (Opaque (take count bytes)) (at + count) else more

abbrev pub tag_in : Option Element → Bool → Front
tag_in (Some element) content = token (Tag element content) 1
tag_in None content = wrong 0 reasons.Tag

-- a byte that begins no other token
abbrev pub tag_of : ℕ → ℕ → Front
tag_of page b =
    if nat_le 0x80 b || nat_lt (b % 0x40) 5 then wrong 0 reasons.Token
    else tag_in (element_at page (b % 0x40)) (nat_le 0x40 b)

-- what stands at the front of bytes of the body, on a page and with a string table
unfoldable pub front : ℕ → List ℕ → List ℕ → Front
front page table [] = more
front page table (b ∷ bs) =
    if b == 0x00 then switch_in bs
    else if b == 0x01 then token End 1
    else if b == 0x03 then text_in (until_zero bs) bs
    else if b == 0x83 then integer_then 0 1 (integer_at bs) bs (table_text_in table)
    else if b == 0xc3 then integer_then 0 1 (integer_at bs) bs opaque_in
    else tag_of page b

-- ---- the prologue

-- the public identifier of SyncML 1.2, as a number and as a text
abbrev pub identifier_number : ℕ
identifier_number = 0x1201

abbrev pub identifier_text : List ℕ
identifier_text = codes "-//SYNCML//DTD SyncML 1.2//EN"

-- the number of UTF-8
abbrev pub utf_8 : ℕ
utf_8 = 106

-- whether an identifier's index, where it has one, is that of its text
abbrev pub is_identified : Option ℕ → List ℕ → Bool
is_identified None table = true
is_identified (Some index) table = nat_lt index (length table) && bytes_eq (table_string table index) identifier_text

-- a whole prologue, whose identifier is judged with its table
abbrev pub identified_head : Option ℕ → List ℕ → ℕ → Front
identified_head index table used = if is_identified index table then head table used else wrong 1 reasons.Publicid

abbrev pub table_in : Option ℕ → ℕ → ℕ → List ℕ → Front
table_in index count at bytes =
    if nat_le count (length bytes) then identified_head index (take count bytes) (at + count) else more

abbrev pub charset_in : Option ℕ → ℕ → ℕ → ℕ → List ℕ → Front
charset_in index place charset at bytes =
    if charset == utf_8 then integer_then at at (integer_at bytes) bytes (table_in index)
    else wrong place reasons.Charset

abbrev pub behind_identifier : Option ℕ → ℕ → List ℕ → Front
behind_identifier index at bytes = integer_then at at (integer_at bytes) bytes (charset_in index at)

abbrev pub index_in : ℕ → ℕ → List ℕ → Front
index_in index at bytes = behind_identifier (Some index) at bytes

abbrev pub identifier_in : ℕ → ℕ → List ℕ → Front
identifier_in number at bytes =
    if number == 0 then integer_then at at (integer_at bytes) bytes index_in
    else if number == identifier_number then behind_identifier None at bytes
    else wrong 1 reasons.Publicid

-- what stands at the front of a document
unfoldable pub prologue_at : List ℕ → Front
prologue_at [] = more
prologue_at (version ∷ bytes) =
    if nat_le 1 version && nat_le version 3 then integer_then 1 1 (integer_at bytes) bytes identifier_in
    else wrong 0 reasons.Version
