-- What bytes spell, as WBXML 1.3 has it (sections 5.1 to 5.8), with the choices of this profile; the reader is held to
-- it.
use Rattle.std.specs.Prelude.{◌≡◌, ◌↔◌, ◌+◌, ◌%◌, ◌<◌, ◌≤◌, ◌⊎◌, take, ℕ, true, false, ⊤, List, [], ◌∷◌, ◌++◌, length}
use Rattle.std.specs.Prelude.{Option, None, Some}
use Rattle.wbxml_ints.specs.Multibyte.{IsMultibyte, IsTooBig, AreBytes}
use Rattle.wbxml_tables.specs.declared.Element.{Element}
use Rattle.wbxml_tables.specs.Tables.{page_of, HasCode}
use Rattle.wbxml_tokens.specs.declared.reason.Reason.{Reason}
use Rattle.wbxml_tokens.specs.declared.reason.Reason.TheVariants as reasons
use Rattle.wbxml_tokens.specs.declared.token.Token.{Token}
use Rattle.wbxml_tokens.specs.declared.token.Token.TheVariants.{Tag, End, Text, Opaque}
use Rattle.wbxml_tokens.specs.declared.token.Placed.{Placed}
use Rattle.wbxml_tokens.specs.declared.extent.Extent.{Extent}
use Rattle.wbxml_tokens.specs.declared.extent.Extent.TheVariants as extents
use Rattle.wbxml_tokens.specs.Spelling.{tag_byte}
use Rattle.wbxml_tokens.specs.Fronts.{more, wrong, front, prologue_at, table_string, identifier_number, identifier_text}
use Rattle.wbxml_tokens.specs.Fronts.{utf_8}
use Rattle.wbxml_tokens.specs.Reading.{most_bytes, extent_after, is_whole, reading}

abbrev pub HasNoZero : List ℕ → Type 0
HasNoZero [] = ⊤
HasNoZero (b ∷ bs) = (0 < b) × HasNoZero bs

-- ---- tokens

-- a text as it stands
abbrev pub IsInline : List ℕ → List ℕ → Type 0
IsInline text bytes = (bytes ≡ 0x03 ∷ text ++ 0x00 ∷ []) × HasNoZero text

-- a text by its index in the string table
abbrev pub IsOfTable : List ℕ → List ℕ → List ℕ → Type 0
IsOfTable table text bytes =
    (index : ℕ) × (number : List ℕ) × (bytes ≡ 0x83 ∷ number) × IsMultibyte index number × (index < length table)
    × (text ≡ table_string table index)

-- the bytes spell the token, on this page and with this string table
abbrev pub SpellsToken : ℕ → List ℕ → Token → List ℕ → Type 0
SpellsToken page table (Tag e content) bytes = (page_of e ≡ page) × (bytes ≡ tag_byte e content ∷ [])
SpellsToken page table End bytes = bytes ≡ 0x01 ∷ []
SpellsToken page table (Text text) bytes = IsInline text bytes ⊎ IsOfTable table text bytes
SpellsToken page table (Opaque content) bytes =
    (number : List ℕ) × (bytes ≡ 0xc3 ∷ number ++ content) × IsMultibyte (length content) number

-- Bytes of the body spell the placed tokens: from a page, a place and an extent of the one element on, up to a page and
-- an extent. A token or a page switch stands only where the element isn't whole.
pub data SpellsTokens (table : List ℕ) : ℕ → ℕ → Extent → List Placed → List ℕ → ℕ → Extent → Type 0 where
  none : {page at : ℕ} {extent : Extent} → SpellsTokens table page at extent [] [] page extent
  switch : {page other at last : ℕ} {extent end : Extent} {tokens : List Placed} {bytes : List ℕ}
      → is_whole extent ≡ false → other < 2
      → SpellsTokens table other (at + 2) extent tokens bytes last end
      → SpellsTokens table page at extent tokens (0x00 ∷ other ∷ bytes) last end
  token : {page at last : ℕ} {extent end : Extent} {tokens : List Placed} (t : Token) (first rest bytes : List ℕ)
      → is_whole extent ≡ false
      → SpellsToken page table t first
      → SpellsTokens table page (at + length first) (extent_after extent t) tokens rest last end → bytes ≡ first ++ rest
      → SpellsTokens table page at extent (record { at = at; token = t } ∷ tokens) bytes last end

-- ---- the prologue

-- the public identifier of SyncML 1.2: its number, or the number 0 and the index of its text in the string table
abbrev pub IsIdentifier : List ℕ → List ℕ → Type 0
IsIdentifier table bytes =
    IsMultibyte identifier_number bytes
    ⊎ ((zero : List ℕ) × (number : List ℕ) × (index : ℕ) × (bytes ≡ zero ++ number) × IsMultibyte 0 zero
    × IsMultibyte index number × (index < length table)
    × (table_string table index ≡ identifier_text))

-- the bytes are a prologue with this string table
pub record IsPrologue (table bytes : List ℕ) : Type 0 where
  pub version : ℕ
  pub identifier : List ℕ
  pub charset : List ℕ
  pub count : List ℕ
  pub is_version : (1 ≤ version) × (version ≤ 3)
  pub is_identifier : IsIdentifier table identifier
  pub is_charset : IsMultibyte utf_8 charset
  pub is_count : IsMultibyte (length table) count
  pub whole : bytes ≡ version ∷ identifier ++ (charset ++ (count ++ table))

-- ---- documents

-- The bytes are a prologue, then bytes that spell the placed tokens, then a part that isn't whole; or all of them are
-- of a prologue that isn't whole.
pub record IsReadSo (bytes : List ℕ) (tokens : List Placed) : Type 0 where
  pub table : List ℕ
  pub prologue : List ℕ
  pub body : List ℕ
  pub rest : List ℕ
  pub page : ℕ
  pub extent : Extent
  pub whole : bytes ≡ prologue ++ (body ++ rest)
  pub is_prologue : IsPrologue table prologue
  pub spells : SpellsTokens table 0 (length prologue) extents.Before tokens body page extent
  pub begun : front page table rest ≡ more
  pub ended : is_whole extent ≡ true → rest ≡ []

-- What spells tokens is read as them, in a document that isn't too long: they are read, with their places, and nothing
-- is refused.
abbrev pub SpelledTokensAreRead : Type 0
SpelledTokensAreRead =
    (table prologue body : List ℕ) (tokens : List Placed) (page : ℕ) (extent : Extent) → IsPrologue table prologue
    → SpellsTokens table 0 (length prologue) extents.Before tokens body page extent
    → length (prologue ++ body) ≤ most_bytes
    → ((reading (prologue ++ body)).tokens ≡ tokens) × ((reading (prologue ++ body)).refused ≡ None)
    × ((reading (prologue ++ body)).reader.extent ≡ extent)

-- What is read, where nothing is refused, is spelled by the bytes up to a part that isn't whole.
abbrev pub ReadIsSpelled : Type 0
ReadIsSpelled =
    (bytes : List ℕ) → AreBytes bytes → length bytes ≤ most_bytes → (reading bytes).refused ≡ None
    → IsReadSo bytes (reading bytes).tokens ⊎ (((reading bytes).tokens ≡ []) × (prologue_at bytes ≡ more))

-- ---- refusals

-- a byte that begins no token: entities, literals, extensions, processing instructions, and tags with attributes
abbrev pub IsNoToken : ℕ → Type 0
IsNoToken b =
    ((0x80 ≤ b) × (b ≡ 0x83 → ⊥) × (b ≡ 0xc3 → ⊥))
    ⊎ ((b < 0x80) × (b % 0x40 < 5) × (b ≡ 0x00 → ⊥) × (b ≡ 0x01 → ⊥) × (b ≡ 0x03 → ⊥))

-- a tag whose code no element has on this page
abbrev pub IsNoTag : ℕ → ℕ → Type 0
IsNoTag page b = (b < 0x80) × (5 ≤ b % 0x40) × ((e : Element) → HasCode page (b % 0x40) e → ⊥)

-- why the part at the front of bytes of the body is refused, at its first byte
abbrev pub IsWrong : ℕ → List ℕ → List ℕ → Reason → Type 0
IsWrong page table bytes reasons.Token = (b : ℕ) × (rest : List ℕ) × (bytes ≡ b ∷ rest) × IsNoToken b
IsWrong page table bytes reasons.Tag =
    ((other : ℕ) × (rest : List ℕ) × (bytes ≡ 0x00 ∷ other ∷ rest) × (2 ≤ other))
    ⊎ ((b : ℕ) × (rest : List ℕ) × (bytes ≡ b ∷ rest) × IsNoTag page b)
IsWrong page table bytes reasons.Integer =
    (b : ℕ) × (rest : List ℕ) × (bytes ≡ b ∷ rest) × ((b ≡ 0x83) ⊎ (b ≡ 0xc3)) × IsTooBig rest
IsWrong page table bytes reasons.Index =
    (rest : List ℕ) × (index : ℕ) × (used : ℕ) × (bytes ≡ 0x83 ∷ rest) × (used ≤ length rest)
    × IsMultibyte index (take used rest) × (length table ≤ index)
IsWrong page table bytes other = ⊥

-- The part at the front of bytes of the body is refused exactly where it is wrong, for its reason and at its first
-- byte.
abbrev pub WrongIsRefused : Type 0
WrongIsRefused =
    (page : ℕ) (table bytes : List ℕ) (at : ℕ) (reason : Reason) → AreBytes bytes
    → (front page table bytes ≡ wrong at reason) ↔ ((at ≡ 0) × IsWrong page table bytes reason)

-- a version from 1.1 to 1.3
abbrev pub IsVersion : ℕ → Type 0
IsVersion version = (1 ≤ version) × (version ≤ 3)

-- a public identifier by the number of SyncML 1.2, or by the number 0 and an index, which isn't judged
abbrev pub IsIdentifierBy : Option ℕ → List ℕ → Type 0
IsIdentifierBy None bytes = IsMultibyte identifier_number bytes
IsIdentifierBy (Some index) bytes =
    (zero : List ℕ) × (number : List ℕ) × (bytes ≡ zero ++ number) × IsMultibyte 0 zero × IsMultibyte index number

-- the index of the identifier's text in the string table
abbrev pub IsIndexOfText : List ℕ → ℕ → Type 0
IsIndexOfText table index = (index < length table) × (table_string table index ≡ identifier_text)

-- the first bytes of a prologue, all before its identifier
abbrev pub UpToIdentifier : List ℕ → Type 0
UpToIdentifier bytes = (version : ℕ) × (bytes ≡ version ∷ []) × IsVersion version

-- all before the index of an identifier
abbrev pub UpToIndex : List ℕ → Type 0
UpToIndex bytes = (version : ℕ) × (zero : List ℕ) × (bytes ≡ version ∷ zero) × IsVersion version × IsMultibyte 0 zero

-- all before the charset, with the identifier's index
abbrev pub UpToCharset : Option ℕ → List ℕ → Type 0
UpToCharset index bytes =
    (version : ℕ) × (identifier : List ℕ) × (bytes ≡ version ∷ identifier) × IsVersion version
    × IsIdentifierBy index identifier

-- all before the length of the string table
abbrev pub UpToCount : Option ℕ → List ℕ → Type 0
UpToCount index bytes =
    (before : List ℕ) × (charset : List ℕ) × (bytes ≡ before ++ charset) × UpToCharset index before
    × IsMultibyte utf_8 charset

-- all before an integer of the prologue
abbrev pub UpToInteger : List ℕ → Type 0
UpToInteger bytes =
    UpToIdentifier bytes ⊎ (UpToIndex bytes ⊎ ((index : Option ℕ) × (UpToCharset index bytes ⊎ UpToCount index bytes)))

-- an identifier by another number
abbrev pub HasOtherNumber : List ℕ → Type 0
HasOtherNumber bytes =
    (before identifier rest : List ℕ) × (number : ℕ) × (bytes ≡ before ++ (identifier ++ rest)) × UpToIdentifier before
    × IsMultibyte number identifier
    × (number ≡ 0 → ⊥) × (number ≡ identifier_number → ⊥)

-- an identifier by an index that isn't that of its text, once the string table is whole
abbrev pub HasOtherText : List ℕ → Type 0
HasOtherText bytes =
    (before count table rest : List ℕ) × (index : ℕ) × (bytes ≡ before ++ (count ++ (table ++ rest)))
    × UpToCount (Some index) before
    × IsMultibyte (length table) count × (IsIndexOfText table index → ⊥)

-- why the prologue at the front of bytes is refused, and at which byte
abbrev pub IsWrongPrologue : List ℕ → ℕ → Reason → Type 0
IsWrongPrologue bytes at reasons.Version =
    (at ≡ 0) × (version : ℕ) × (rest : List ℕ) × (bytes ≡ version ∷ rest) × (IsVersion version → ⊥)
IsWrongPrologue bytes at reasons.Publicid = (at ≡ 1) × (HasOtherNumber bytes ⊎ HasOtherText bytes)
IsWrongPrologue bytes at reasons.Charset =
    (before charset rest : List ℕ) × (index : Option ℕ) × (number : ℕ) × (bytes ≡ before ++ (charset ++ rest))
    × (at ≡ length before)
    × UpToCharset index before × IsMultibyte number charset × (number ≡ utf_8 → ⊥)
IsWrongPrologue bytes at reasons.Integer =
    (before rest : List ℕ) × (bytes ≡ before ++ rest) × (at ≡ length before) × UpToInteger before × IsTooBig rest
IsWrongPrologue bytes at other = ⊥

-- The prologue at the front of bytes is refused exactly where it is wrong, at this byte and for this reason.
abbrev pub WrongPrologueIsRefused : Type 0
WrongPrologueIsRefused =
    (bytes : List ℕ) (at : ℕ) (reason : Reason) → AreBytes bytes
    → (prologue_at bytes ≡ wrong at reason) ↔ IsWrongPrologue bytes at reason

-- a prologue that isn't whole: none stands at the front of the bytes, and it isn't wrong
pub record IsUnfinishedPrologue (bytes : List ℕ) : Type 0 where
  pub no_prologue : (table prologue rest : List ℕ) → bytes ≡ prologue ++ rest → IsPrologue table prologue → ⊥
  pub not_wrong : (at : ℕ) (reason : Reason) → IsWrongPrologue bytes at reason → ⊥

-- a part of the body that isn't whole: no token and no page switch stands at the front of the bytes, and it isn't wrong
pub record IsUnfinishedPart (page : ℕ) (table bytes : List ℕ) : Type 0 where
  pub no_token : (t : Token) (first rest : List ℕ) → bytes ≡ first ++ rest → SpellsToken page table t first → ⊥
  pub no_switch : (other : ℕ) (rest : List ℕ) → bytes ≡ 0x00 ∷ other ∷ rest → other < 2 → ⊥
  pub not_wrong : (reason : Reason) → IsWrong page table bytes reason → ⊥

-- The reader waits for more bytes of a prologue exactly where it is unfinished.
abbrev pub UnfinishedPrologueWaits : Type 0
UnfinishedPrologueWaits = (bytes : List ℕ) → AreBytes bytes → (prologue_at bytes ≡ more) ↔ IsUnfinishedPrologue bytes

-- It waits for more bytes of a part of the body exactly where that is unfinished.
abbrev pub UnfinishedPartWaits : Type 0
UnfinishedPartWaits =
    (page : ℕ) (table bytes : List ℕ) → AreBytes bytes
    → (front page table bytes ≡ more) ↔ IsUnfinishedPart page table bytes

-- The bytes are a prologue with this string table, bytes that spell tokens up to a page and an extent, and then the
-- rest, which begins at a place.
pub record ReadsUpTo (bytes table : List ℕ) (page at : ℕ) (extent : Extent) (rest : List ℕ) : Type 0 where
  pub prologue : List ℕ
  pub body : List ℕ
  pub tokens : List Placed
  pub whole : bytes ≡ prologue ++ (body ++ rest)
  pub is_prologue : IsPrologue table prologue
  pub spells : SpellsTokens table 0 (length prologue) extents.Before tokens body page extent
  pub place : at ≡ length prologue + length body

-- Where bytes are refused, and why: the first 65,536 have a prologue that is wrong, or a part of the body that is
-- wrong, or a byte behind the whole element; or they are no whole document, and another byte comes.
pub data RefusedAt (bytes : List ℕ) : ℕ → Reason → Type 0 where
  in_prologue : {at : ℕ} {reason : Reason} → IsWrongPrologue (take most_bytes bytes) at reason
      → RefusedAt bytes at reason
  in_body : {table : List ℕ} {page at : ℕ} {extent : Extent} {rest : List ℕ} {reason : Reason}
      → ReadsUpTo (take most_bytes bytes) table page at extent rest
      → is_whole extent ≡ false → IsWrong page table rest reason → RefusedAt bytes at reason
  trailing : {table : List ℕ} {page at : ℕ} {extent : Extent} {rest : List ℕ}
      → ReadsUpTo bytes table page at extent rest
      → is_whole extent ≡ true → 0 < length rest → at ≤ most_bytes → RefusedAt bytes at reasons.Trailing
  unfinished_prologue : IsUnfinishedPrologue (take most_bytes bytes) → most_bytes < length bytes
      → RefusedAt bytes most_bytes reasons.Toolong
  unfinished_body : {table : List ℕ} {page at : ℕ} {extent : Extent} {rest : List ℕ}
      → ReadsUpTo (take most_bytes bytes) table page at extent rest
      → is_whole extent ≡ false → IsUnfinishedPart page table rest → most_bytes < length bytes
      → RefusedAt bytes most_bytes reasons.Toolong

-- Bytes are refused exactly there and for this reason, so at one place and for one reason at most.
abbrev pub RefusedIsTold : Type 0
RefusedIsTold =
    (bytes : List ℕ) (at : ℕ) (reason : Reason) → AreBytes bytes
    → ((reading bytes).refused ≡ Some (record { at = at; reason = reason })) ↔ RefusedAt bytes at reason
