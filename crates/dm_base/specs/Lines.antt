-- Lines of a source, each ended by a line feed (byte 10).
use Rattle.std.specs.Prelude.{◌≡◌, ◌≢◌, ◌<◌, ◌≤◌, ◌+◌, ◌-◌, ℕ, List, [], ◌∷◌, ◌++◌, length, take, ⊤, Option, Result, Ok}
use Rattle.std.specs.Prelude.{Err, slice_index, Bool, true, false}
use Rattle.std.specs.Io.KnownBytes.{Consumes, IsAtEnd, Keeps, prepend_known}
use Rattle.dm_base.specs.Outside.{OfKnown}
use Rattle.dm_base.specs.declared.outside.TakeError.{TakeError}
use Rattle.dm_base.specs.declared.outside.TakeError.TheVariants as take_error
use Rattle.dm_base.specs.declared.lines.LineReason.TheVariants as reason
use Rattle.dm_base.specs.declared.lines.LineOut.{LineOut}
use Rattle.dm_base.specs.declared.lines.LineOut.TheVariants as line_out

-- how many bytes of its input a run looks at, and how many a line has at most without its line feed
abbrev pub run_limit : ℕ
run_limit = 67108864

abbrev pub line_limit : ℕ
line_limit = 8400000

-- the line that was given last, the bytes that were taken and not yet given, how many that were given up still take
-- room in front of them, and for how many there is room behind them
pub record PendingState : Type 0 where
  pub line : List ℕ
  pub bytes : List ℕ
  pub given_up : ℕ
  pub room : ℕ

abbrev pub no_pending : PendingState
no_pending = record { line = []; bytes = []; given_up = 0; room = 0 }

-- bytes that a source gave, at most so many, stand behind the others; none at its end alone
abbrev pub PutsPending : List ℕ → List ℕ → Option (List ℕ) → Option (List ℕ) → ℕ → Result ℕ TakeError → Type 0
PutsPending old new left rest count (Ok n) =
    (bytes : List ℕ) × (length bytes ≡ n) × (n ≤ count) × (new ≡ old ++ bytes) × Consumes left rest bytes
    × (n ≡ 0 → IsAtEnd rest)
PutsPending old new left rest count (Err take_error.TooLong) = ⊥
PutsPending old new left rest count (Err other) = (new ≡ old) × Keeps left rest

-- the line that was given last; the bytes that were taken and not yet given: those within the limit, and the one past
-- it; and how many were taken
pub record LinesState : Type 0 where
  pub line : List ℕ
  pub pending : List ℕ
  pub past : List ℕ
  pub taken : ℕ

-- what stands behind the pending bytes: the byte past the limit, and the bytes that the source has left
abbrev pub behind_pending : LinesState → Option (List ℕ) → Option (List ℕ)
behind_pending state left = prepend_known state.past left

-- what is still to come
abbrev pub ahead : LinesState → Option (List ℕ) → Option (List ℕ)
ahead state left = prepend_known state.pending (behind_pending state left)

-- how many of these bytes a run looks at: those that are pending, and those that may yet be taken
abbrev pub room : LinesState → ℕ
room state = length state.pending + (run_limit - state.taken)

-- what ends a line
abbrev pub line_feed : List ℕ
line_feed = 10 ∷ []

-- no line feed among the bytes
abbrev pub IsFeedless : List ℕ → Type 0
IsFeedless bytes = (k : ℕ) → k < length bytes → slice_index bytes k ≢ 10

-- a line feed stands among the bytes
abbrev pub HasFeed : List ℕ → Type 0
HasFeed bytes = (at : ℕ) × (at < length bytes) × (slice_index bytes at ≡ 10)

-- all that is to come is the front of a line
pub record IsCutLine (room : ℕ) (bytes : List ℕ) : Type 0 where
  pub some : 0 < length bytes
  pub short : length bytes ≤ line_limit
  pub seen : length bytes ≤ room
  pub feedless : IsFeedless bytes

-- more bytes than a line may have stand in front, without a line feed, and a run looks at them
abbrev pub IsLongLine : ℕ → List ℕ → Type 0
IsLongLine room bytes =
    (line : List ℕ) × (rest : List ℕ) × (bytes ≡ line ++ rest) × IsFeedless line × (line_limit < length line)
    × (length line ≤ room)

-- the bytes that a run looks at hold no whole line, and another byte comes
pub record IsPastRoom (room : ℕ) (bytes : List ℕ) : Type 0 where
  pub more : room < length bytes
  pub short : room ≤ line_limit
  pub feedless : IsFeedless (take room bytes)

-- what an answer says of the bytes that were to come before it and after it, and of the line that it gives
abbrev pub ReadsLine : ℕ → Option (List ℕ) → Option (List ℕ) → List ℕ → Result LineOut TakeError → Type 0
ReadsLine room old new line (Ok line_out.Line) =
    IsFeedless line × (length line ≤ line_limit) × (length line < room) × Consumes old new (line ++ line_feed)
ReadsLine room old new line (Ok (line_out.Bad reason.Cut)) = Keeps old new × OfKnown old (IsCutLine room)
ReadsLine room old new line (Ok (line_out.Bad reason.Long)) = Keeps old new × OfKnown old (IsLongLine room)
ReadsLine room old new line (Ok (line_out.Bad other)) = ⊥
ReadsLine room old new line (Ok line_out.End) = Keeps old new × IsAtEnd old
ReadsLine room old new line (Err take_error.TooLong) = OfKnown old (IsPastRoom room)
ReadsLine room old new line (Err take_error.Read) = Keeps old new
ReadsLine room old new line (Err take_error.Memory) = Keeps old new

-- an answer other than a line leaves all that is to come, and how much of it a run looks at
abbrev pub StaysUnlessLine : Option (List ℕ) → Option (List ℕ) → ℕ → ℕ → Result LineOut TakeError → Type 0
StaysUnlessLine old new before now (Ok line_out.Line) = ⊤
StaysUnlessLine old new before now other = Keeps old new × (now ≡ before)

-- an error comes only where no line feed is among these bytes, so that more were asked for, or were to be
abbrev pub AskedForMore : List ℕ → Result LineOut TakeError → Type 0
AskedForMore pending (Ok out) = ⊤
AskedForMore pending (Err error) = IsFeedless pending

-- after a fault or want of memory no line is among these bytes: no line feed, and no more of them than a line may have
abbrev pub LeavesNoLine : List ℕ → Result LineOut TakeError → Type 0
LeavesNoLine pending (Ok out) = ⊤
LeavesNoLine pending (Err take_error.TooLong) = ⊤
LeavesNoLine pending (Err other) = IsFeedless pending × (length pending ≤ line_limit)

-- bytes that were taken are counted
abbrev pub CountsTaken : Option (List ℕ) → Option (List ℕ) → ℕ → ℕ → Type 0
CountsTaken old new before now = (bytes : List ℕ) × Consumes old new bytes × (now ≡ before + length bytes)

-- how many bytes an answer gave
abbrev pub bytes_given : List ℕ → LineOut → ℕ
bytes_given line line_out.Line = length line + 1
bytes_given line other = 0

-- one more piece was taken and is pending; or the end was met; or why not
abbrev pub FillsPending : LinesState → LinesState → Option (List ℕ) → Option (List ℕ) → Result Bool TakeError → Type 0
FillsPending old new left rest (Ok true) =
    (bytes : List ℕ) × (0 < length bytes)
    × (new ≡ record { line = new.line; pending = old.pending ++ bytes; past = []; taken = old.taken + length bytes })
    × (old.past ≡ [])
    × Consumes left rest bytes × (new.taken ≤ run_limit)
FillsPending old new left rest (Ok false) = (new ≡ record old { line = new.line }) × Keeps left rest × (old.past ≡ []) × IsAtEnd left
FillsPending old new left rest (Err take_error.TooLong) =
    CountsTaken left rest old.taken new.taken × (run_limit ≤ old.taken)
    × OfKnown (behind_pending old left) (λ bytes. 0 < length bytes)
    × (new.pending ≡ old.pending) × Keeps (behind_pending old left) (behind_pending new rest)
FillsPending old new left rest (Err take_error.Read) = (new ≡ record old { line = new.line }) × Keeps left rest × (old.past ≡ [])
FillsPending old new left rest (Err take_error.Memory) =
    (new ≡ record old { line = new.line }) × Keeps left rest × (old.past ≡ [])
