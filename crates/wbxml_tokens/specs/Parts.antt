-- Where a reader stands between two parts.
use Rattle.std.specs.Prelude.{◌≡◌, ◌<◌, ◌≤◌, ◌+◌, ◌^◌, ⊤, ◌⊎◌, true, false, ℕ, List, [], length, Option, Some, None}
use Rattle.std.specs.Prelude.{Result, Ok, Err}
use Rattle.wbxml_tokens.specs.declared.reason.Refusal.{Refusal}
use Rattle.wbxml_tokens.specs.declared.reason.FeedError.{FeedError}
use Rattle.wbxml_tokens.specs.declared.reason.FeedError.TheVariants as errors
use Rattle.wbxml_tokens.specs.declared.reason.Reason.TheVariants as reasons
use Rattle.wbxml_tokens.specs.declared.prologue.WholePrologue.{WholePrologue}
use Rattle.wbxml_tokens.specs.Fronts.{Front, more, wrong, head}
use Rattle.wbxml_tokens.specs.declared.spot.Spot.{Spot}
use Rattle.wbxml_tokens.specs.declared.reader.State.{State}
use Rattle.wbxml_tokens.specs.Reading.{Reader, depth_of, is_whole, found, taken_by, most_bytes}

-- the reader between two parts, with this string table
abbrev pub reader_at : Spot → List ℕ → Reader
reader_at s table = record {
  place = s.place;
  held = [];
  is_in_body = s.is_in_body;
  table = table;
  page = s.page;
  extent = s.extent;
}

-- what reading a prologue gives
abbrev pub GivesHead : Result (Option WholePrologue) Refusal → Front → Type 0
GivesHead (Ok None) part = part ≡ more
GivesHead (Ok (Some h)) part = part ≡ head h.table.now h.size
GivesHead (Err f) part = part ≡ wrong f.at f.reason

-- a prologue of at most so many bytes
abbrev pub Keeps : Result (Option WholePrologue) Refusal → ℕ → Type 0
Keeps (Ok None) count = ⊤
Keeps (Ok (Some h)) count = h.size ≤ count
Keeps (Err f) count = f.at < 2 ^ 32

-- at most as many elements are open as there were bytes, and so many bytes more keep the limit
abbrev pub HasRoom : Spot → ℕ → Type 0
HasRoom s count = (depth_of s.extent ≤ s.place) × (s.place + count ≤ most_bytes)

-- the reader that this state stands for
abbrev pub reader_of : State → Reader
reader_of s = record (reader_at s.spot s.table) { held = s.held }

-- a reader that bytes lead to: what it holds is no whole part, and it is at the document's start or has kept all limits
pub record IsReached (r : Reader) : Type 0 where
  pub begun : found r r.held ≡ more
  pub deep : depth_of r.extent ≤ r.place
  pub within : taken_by r ≤ most_bytes
  pub at_start : r.is_in_body ≡ false → (r.table ≡ []) × (is_whole r.extent ≡ false)
  pub at_end : is_whole r.extent ≡ true → r.held ≡ []

-- the refusal of a byte behind as many bytes as a document may have
abbrev pub IsBeyond : FeedError → Reader → Type 0
IsBeyond e r =
    ((is_whole r.extent ≡ true) × (e ≡ errors.Refused (record { at = r.place; reason = reasons.Trailing })))
    ⊎ ((is_whole r.extent ≡ false) × (e ≡ errors.Refused (record { at = most_bytes; reason = reasons.Toolong })))

-- no byte is behind them, or the first of those is refused
abbrev pub EndsPiece : Result Unit FeedError → Reader → List ℕ → Type 0
EndsPiece (Ok u) r bytes = bytes ≡ []
EndsPiece (Err e) r bytes = (0 < length bytes) × IsBeyond e r
