-- The start section of a trace: what each line tells where it stands, or why it is refused there.
use Rattle.std.specs.Prelude.{◌≡◌, ◌==◌, ◌+◌, ◌&&◌, ℕ, Bool, true, false, not, if◌then◌else◌, nat_lt, List, [], ◌∷◌}
use Rattle.std.specs.Prelude.{◌++◌, length, bytes_eq, codes, Option, Some, None, Result, Ok, Err}
use Rattle.std.specs.List.{list_any}
use Rattle.dm_base.specs.declared.lines.LineReason.{LineReason}
use Rattle.dm_base.specs.declared.lines.LineReason.TheVariants as reason
use Rattle.dm_base.specs.declared.values.Limits.{Limits}
use Rattle.dm_base.specs.Fields.{parts}
use Rattle.dm_auth.specs.declared.accounts.Account.{Account}
use Rattle.dm_tree.specs.declared.nodes.Stamp.{Stamp}
use Rattle.dm_tree.specs.Nodes.{Nodes, first_stamp}
use Rattle.dm_tree.specs.Rows.{nodes as nodes_of}
use Rattle.dm_start.specs.declared.heads.DeviceInfo.{DeviceInfo}
use Rattle.dm_start.specs.declared.heads.Head.{Head}
use Rattle.dm_start.specs.declared.heads.Head.TheVariants as head
use Rattle.dm_fields.specs.declared.errors.LineError.{LineError}
use Rattle.dm_start.specs.declared.telling.Phase.{Phase}
use Rattle.dm_start.specs.declared.telling.Phase.TheVariants as phase
use Rattle.dm_start.specs.declared.telling.Start.{Start}
use Rattle.dm_start.specs.declared.reader.SectionPlace.{SectionPlace}
use Rattle.dm_start.specs.declared.reader.SectionPlace.TheVariants as place
use Rattle.dm_start.specs.Fields.{device_in, clock_in}
use Rattle.dm_fields.specs.Fields.{begins_with, limits_in, account_in}
use Rattle.dm_start.specs.Growing.{start_nodes, nodes_after}
use Rattle.dm_fields.specs.Refusing.{or_refused}
use Rattle.dm_fields.specs.Refusing.{Refuses}

-- what the lines told: the version, what the client takes, whom it talks to, and the tree and the clock that it begins
-- with
pub record Setup : Type 0 where
  pub version : ℕ
  pub limits : Limits
  pub accounts : List Account
  pub nodes : Nodes
  pub clock : Stamp

-- how far a section has come: in its first lines, or behind them
pub data Section : Type 0 where
  opening : Head → Section
  telling : Phase → Setup → Section

-- ---- the first lines

-- `dm-trace 1` or `dm-trace 2`, and no other text
abbrev pub version_in : List ℕ → Option ℕ
version_in line =
    if bytes_eq line (codes "dm-trace 1") then Some 1
    else if bytes_eq line (codes "dm-trace 2") then Some 2
    else None

-- the accounts come next
abbrev pub accounts_next : ℕ → DeviceInfo → Limits → Stamp → Section
accounts_next version d limits clock = telling phase.Accounts (record {
  version = version;
  limits = limits;
  accounts = [];
  nodes = start_nodes clock d;
  clock = clock;
})

-- in version 2 the clock is told; in version 1 it is the first stamp
abbrev pub behind_limits : ℕ → DeviceInfo → Limits → Section
behind_limits version d limits =
    if version == 2 then opening (head.Clock d limits) else accounts_next version d limits first_stamp

-- a line that begins with this word, where no other may stand
abbrev pub only : List ℕ → List ℕ → Result Section LineReason → Result Section LineReason
only word line next = if begins_with word line then next else Err reason.Word

abbrev pub after_opening : Head → List ℕ → Result Section LineReason
after_opening head.First line = or_refused reason.Word (version_in line) (λ v. Ok (opening (head.Device v)))
after_opening (head.Device v) line =
    only (codes "device") line (or_refused reason.Fields (device_in (parts line)) (λ d. Ok (opening (head.Limits v d))))
after_opening (head.Limits v d) line =
    only (codes "limits") line
    (or_refused reason.Fields (limits_in (parts line)) (λ limits. Ok (behind_limits v d limits)))
after_opening (head.Clock d limits) line =
    only (codes "clock") line
    (or_refused reason.Fields (clock_in (parts line)) (λ clock. Ok (accounts_next 2 d limits clock)))

-- ---- the lines behind them

abbrev pub is_known : List Account → List ℕ → Bool
is_known accounts server = list_any (λ (a : Account). bytes_eq a.server server) accounts

-- at most 16 accounts, each server once
abbrev pub account_added : Setup → Account → Result Section LineReason
account_added told account =
    if nat_lt (length told.accounts) 16 && not (is_known told.accounts account.server)
    then Ok (telling phase.Accounts (record told { accounts = told.accounts ++ account ∷ [] }))
    else Err reason.Account

abbrev pub account_line : Setup → List ℕ → Result Section LineReason
account_line told line = or_refused reason.Fields (account_in (parts line)) (account_added told)

-- `begin`
abbrev pub begin_line : Setup → List ℕ → Result Section LineReason
begin_line told line = if bytes_eq line (codes "begin") then Ok (telling phase.Begun told) else Err reason.Fields

abbrev pub with_nodes : Setup → Result Nodes LineReason → Result Section LineReason
with_nodes told (Ok m) = Ok (telling phase.Nodes (record told { nodes = m }))
with_nodes told (Err why) = Err why

-- the last line, or one that tells of the tree
abbrev pub later_line : Setup → List ℕ → Result Section LineReason
later_line told line =
    if begins_with (codes "begin") line then begin_line told line
    else with_nodes told (nodes_after told.clock told.nodes line)

-- accounts stand before all lines that tell of the tree, and there is one at least; nothing stands behind `begin`
abbrev pub after_telling : Phase → Setup → List ℕ → Result Section LineReason
after_telling phase.Accounts told line =
    if begins_with (codes "account") line then account_line told line
    else if length told.accounts == 0 then Err reason.Word
    else later_line told line
after_telling phase.Nodes told line = later_line told line
after_telling phase.Begun told line = Err reason.Word

-- ---- any line

unfoldable pub after_line : Section → List ℕ → Result Section LineReason
after_line (opening h) line = after_opening h line
after_line (telling p told) line = after_telling p told line

-- line n was read, and others follow
abbrev pub behind_line : ℕ → Result Section LineReason → (Section → Result Section (ℕ × LineReason))
    → Result Section (ℕ × LineReason)
behind_line n (Ok next) rest = rest next
behind_line n (Err why) rest = Err (n, why)

-- the lines from line n on: the section after them all, or the number of the first that is refused, and why
abbrev pub lines_after : ℕ → Section → List (List ℕ) → Result Section (ℕ × LineReason)
lines_after n s [] = Ok s
lines_after n s (line ∷ lines) = behind_line n (after_line s line) (λ next. lines_after (n + 1) next lines)

abbrev pub section_of_lines : List (List ℕ) → Result Section (ℕ × LineReason)
section_of_lines lines = lines_after 1 (opening head.First) lines

-- ---- what a reader stands for

abbrev pub told_of : Start → Setup
told_of start = record {
  version = start.version;
  limits = start.limits;
  accounts = start.accounts;
  nodes = nodes_of start.tree.rows;
  clock = start.tree.clock;
}

abbrev pub section_at : SectionPlace → Section
section_at (place.Opening h) = opening h
section_at (place.Telling p start) = telling p (told_of start)

-- `begin` came
abbrev pub is_begun : Section → Bool
is_begun (opening h) = false
is_begun (telling phase.Accounts told) = false
is_begun (telling phase.Nodes told) = false
is_begun (telling phase.Begun told) = true

-- what a line is answered: whether it was the last; a line that is refused, and want of memory, leave all
abbrev pub ReadsSection : Result Section LineReason → Section → Section → Result Bool LineError → Type 0
ReadsSection read old new (Ok last) = (read ≡ Ok new) × (last ≡ is_begun new)
ReadsSection read old new (Err e) = Refuses read e × (new ≡ old)

-- a line behind the first ones is answered by how far the section has come
abbrev pub TellsPhase : Result Section LineReason → Start → Start → Result Phase LineError → Type 0
TellsPhase wanted old new (Ok p) = wanted ≡ Ok (telling p (told_of new))
TellsPhase wanted old new (Err e) = Refuses wanted e × (told_of new ≡ told_of old)
