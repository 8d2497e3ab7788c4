-- What a reader has of a document, byte by byte.
use Rattle.std.specs.Prelude.{◌==◌, ◌+◌, ◌-◌, ℕ, Bool, true, false, if◌then◌else◌, List, [], ◌∷◌, ◌++◌, length, drop}
use Rattle.std.specs.Prelude.{Option, Some, None}
use Rattle.dm_base.specs.Limits.{message_limit}
use Rattle.wbxml_tokens.specs.declared.reason.Reason.{Reason}
use Rattle.wbxml_tokens.specs.declared.reason.Reason.TheVariants as reasons
use Rattle.wbxml_tokens.specs.declared.reason.Refusal.{Refusal}
use Rattle.wbxml_tokens.specs.declared.token.Token.{Token}
use Rattle.wbxml_tokens.specs.declared.token.Token.TheVariants.{Tag, End}
use Rattle.wbxml_tokens.specs.declared.token.Placed.{Placed}
use Rattle.wbxml_tokens.specs.declared.extent.Extent.{Extent}
use Rattle.wbxml_tokens.specs.declared.extent.Extent.TheVariants as extents
use Rattle.wbxml_tokens.specs.Fronts.{Front, more, wrong, head, switch, token, front, prologue_at}

-- the bytes that a document may have
abbrev pub most_bytes : ℕ
most_bytes = message_limit

-- ---- how far the one element of the body has come

abbrev pub behind_end : ℕ → Extent
behind_end depth = if depth == 1 then extents.Whole else extents.Inside (depth - 1)

abbrev pub extent_after : Extent → Token → Extent
extent_after extents.Before (Tag element content) = if content then extents.Inside 1 else extents.Whole
extent_after extents.Before other = extents.Never
extent_after (extents.Inside depth) (Tag element content) =
    if content then extents.Inside (depth + 1) else extents.Inside depth
extent_after (extents.Inside depth) End = behind_end depth
extent_after (extents.Inside depth) other = extents.Inside depth
extent_after extents.Whole other = extents.Whole
extent_after extents.Never other = extents.Never

-- how many elements are open
abbrev pub depth_of : Extent → ℕ
depth_of (extents.Inside depth) = depth
depth_of other = 0

abbrev pub is_whole : Extent → Bool
is_whole extents.Whole = true
is_whole other = false

-- ---- the reader

-- what a reader knows of the bytes before a place, and the bytes from there on of a part that isn't whole
pub record Reader : Type 0 where
  pub place : ℕ
  pub held : List ℕ
  pub is_in_body : Bool
  pub table : List ℕ
  pub page : ℕ
  pub extent : Extent

-- the tokens so far with the places of their first bytes, the first refusal, and the reader
pub record Reading : Type 0 where
  pub tokens : List Placed
  pub refused : Option Refusal
  pub reader : Reader

abbrev pub first_reader : Reader
first_reader = record { place = 0; held = []; is_in_body = false; table = []; page = 0; extent = extents.Before }

abbrev pub begun_by : Reader → Reading
begun_by r = record { tokens = []; refused = None; reader = r }

-- how many bytes it has taken
abbrev pub taken_by : Reader → ℕ
taken_by r = r.place + length r.held

-- what stands at the front of bytes, for this reader
abbrev pub found : Reader → List ℕ → Front
found r bytes = if r.is_in_body then front r.page r.table bytes else prologue_at bytes

-- how many bytes a whole part has, and 0 for what is none
abbrev pub size_of : Front → ℕ
size_of more = 0
size_of (wrong at reason) = 0
size_of (head table used) = used
size_of (switch page) = 2
size_of (token t used) = used

-- a reader behind a part
abbrev pub reader_behind : Reader → Front → Reader
reader_behind r more = r
reader_behind r (wrong at reason) = r
reader_behind r (head table used) = record r { place = r.place + used; is_in_body = true; table = table }
reader_behind r (switch page) = record r { place = r.place + 2; page = page }
reader_behind r (token t used) = record r { place = r.place + used; extent = extent_after r.extent t }

-- the tokens of a part that begins at a place
abbrev pub tokens_of : ℕ → Front → List Placed
tokens_of place (token t used) = record { at = place; token = t } ∷ []
tokens_of place other = []

abbrev pub refuse : Reading → ℕ → Reason → Reading
refuse x at reason = record x { refused = Some (record { at = at; reason = reason }) }

-- it has come upon this at the front of these bytes, which begin at its place
abbrev pub met : Reading → List ℕ → Front → Reading
met x bytes more = record x { reader = record x.reader { held = bytes } }
met x bytes (wrong at reason) = refuse x (x.reader.place + at) reason
met x bytes part = record x {
  tokens = x.tokens ++ tokens_of x.reader.place part;
  reader = record (reader_behind x.reader part) { held = drop (size_of part) bytes };
}

-- why it takes no further byte
abbrev pub limit : Reader → Option Reason
limit r =
    if is_whole r.extent then Some reasons.Trailing else if taken_by r == most_bytes then Some reasons.Toolong else None

abbrev pub step_within : Option Reason → Reading → ℕ → Reading
step_within (Some reason) x byte = refuse x (taken_by x.reader) reason
step_within None x byte = met x (x.reader.held ++ byte ∷ []) (found x.reader (x.reader.held ++ byte ∷ []))

-- after a refusal nothing changes
abbrev pub step_from : Option Refusal → Reading → ℕ → Reading
step_from (Some refusal) x byte = x
step_from None x byte = step_within (limit x.reader) x byte

-- one more byte
abbrev pub step_byte : Reading → ℕ → Reading
step_byte x byte = step_from x.refused x byte

-- more bytes
unfoldable pub reads : Reading → List ℕ → Reading
reads x [] = x
reads x (byte ∷ bytes) = reads (step_byte x byte) bytes

-- what a reader has of these bytes
abbrev pub reading : List ℕ → Reading
reading bytes = reads (begun_by first_reader) bytes

abbrev pub refused_at_end : Option Refusal → Reader → Option Refusal
refused_at_end (Some refusal) r = Some refusal
refused_at_end None r = if is_whole r.extent then None else Some (record { at = taken_by r; reason = reasons.Truncated })

-- why these bytes are no whole document, where nothing follows them
abbrev pub refusal_of : List ℕ → Option Refusal
refusal_of bytes = refused_at_end (reading bytes).refused (reading bytes).reader
