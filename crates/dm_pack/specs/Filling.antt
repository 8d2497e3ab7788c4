-- One message packed from the entries that wait: as many from the front as fit, then a part of the next one where it
-- may be cut.
use Rattle.std.specs.Prelude.{◌≡◌, ◌≤◌, ◌<◌, ◌+◌, ◌-◌, ℕ, zero, suc, Bool, true, false, if◌then◌else◌, List, [], ◌∷◌}
use Rattle.std.specs.Prelude.{◌++◌, length, map, take, drop, None, nat_le}
use Rattle.wbxml_tokens.specs.Spelling.{spelled}
use Rattle.syncml_types.specs.declared.values.Header.{Header}
use Rattle.syncml_types.specs.declared.command.Command.{Command}
use Rattle.syncml_types.specs.declared.command.Command.TheVariants as command
use Rattle.syncml_types.specs.Message.{Parts}
use Rattle.syncml_types.specs.Canonical.{canonical, header_tokens}
use Rattle.syncml_types.specs.Fitness.{IsFit}
use Rattle.syncml_parts.specs.Numbering.{ids_in, with_numbers}
use Rattle.dm_pack.specs.declared.filled.Tail.{Tail}
use Rattle.dm_pack.specs.declared.filled.Tail.TheVariants.{Final, NextMessage, Nothing}
use Rattle.dm_pack.specs.Entries.{Entry, data_left, part_of, rest_of}

-- CmdIDs from a number on, in document order
abbrev pub numbered : ℕ → List Command → List Command
numbered first [] = []
numbered first (c ∷ cs) = with_numbers first c ∷ numbered (first + ids_in c) cs

-- the Alert 1222 that asks for the next message
abbrev pub asks_next : Command
asks_next = command.Alert (record { id = 0; no_resp = false; code = 1222; correlator = None; items = [] })

-- a message fits as if an Alert 1222 and Final stood at its end
unfoldable pub fits_room : Header → ℕ → List Command → Bool
fits_room header room cs =
    nat_le (length (canonical (record { header = header; body = numbered 1 (cs ++ asks_next ∷ []); last = true }))) room

abbrev pub commands_of : List Entry → List Command
commands_of es = map (λ (e : Entry). e.command) es

-- how many entries are taken from the front behind some commands: those with which the message fits
abbrev pub taken : Header → ℕ → List Command → List Entry → ℕ
taken header room before [] = 0
taken header room before (e ∷ es) =
    if fits_room header room (before ++ e.command ∷ []) then suc (taken header room (before ++ e.command ∷ []) es) else 0

-- the greatest number from 1 to a most that passes; 0 where none does
abbrev pub greatest : (ℕ → Bool) → ℕ → ℕ
greatest passes zero = 0
greatest passes (suc most) = if passes (suc most) then suc most else greatest passes most

-- how many bytes of the next entry's Data go out: the greatest number with which the message fits, fewer than are left;
-- 0 where it isn't cut
abbrev pub cut : Header → ℕ → List Command → List Entry → ℕ
cut header room before [] = 0
cut header room before (e ∷ es) = greatest (λ n. fits_room header room (before ++ part_of e n ∷ [])) (data_left e - 1)

abbrev pub next_part : ℕ → List Entry → List Command
next_part zero es = []
next_part (suc n) [] = []
next_part (suc n) (e ∷ es) = part_of e (suc n) ∷ []

abbrev pub next_rest : ℕ → List Entry → List Entry
next_rest zero es = es
next_rest (suc n) [] = []
next_rest (suc n) (e ∷ es) = rest_of e (suc n) ∷ es

-- what is left after a message with so many whole entries and so many bytes of the next
unfoldable pub left_after : List Entry → ℕ → ℕ → List Entry
left_after es whole n = next_rest n (drop whole es)

-- what stands at the message's end
abbrev pub tail_of : List Entry → Bool → Tail
tail_of [] heard = if heard then Final else NextMessage
tail_of (e ∷ es) heard = Nothing

abbrev pub tail_commands : Tail → List Command
tail_commands Final = []
tail_commands NextMessage = asks_next ∷ []
tail_commands Nothing = []

abbrev pub is_final : Tail → Bool
is_final Final = true
is_final NextMessage = false
is_final Nothing = false

-- a message, and what it takes off the queue
pub record Filling : Type 0 where
  pub message : Parts
  pub left : List Entry
  pub whole : ℕ
  pub cut : ℕ
  pub tail : Tail

unfoldable pub fill : List Entry → Header → ℕ → Bool → Filling
fill es header room heard =
    let whole = taken header room [] es in
    let before = commands_of (take whole es) in
    let next = drop whole es in
    let n = cut header room before next in
    let left = next_rest n next in
    let tail = tail_of left heard in
    record {
      message = record {
        header = header;
        body = numbered 1 (before ++ next_part n next ++ tail_commands tail);
        last = is_final tail;
      };
      left = left;
      whole = whole;
      cut = n;
      tail = tail;
    }

-- ---- conditions

-- a header that a message takes, of at most 600 bytes
pub record IsReadyHeader (h : Header) : Type 0 where
  pub fit : IsFit h []
  pub short : length (spelled 0 (header_tokens h)) ≤ 600

abbrev pub HasMore : ℕ → List Entry → Type 0
HasMore n [] = n ≡ 0
HasMore n (e ∷ es) = 0 < n → n < data_left e

-- so many whole entries are there, and where a part goes out, the next one has more bytes than that
pub record CanBeTaken (es : List Entry) (whole n : ℕ) : Type 0 where
  pub whole_there : whole ≤ length es
  pub part_there : HasMore n (drop whole es)
