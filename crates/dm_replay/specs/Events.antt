-- What the lines behind a start section say.
use Rattle.std.specs.Prelude.{◌==◌, ◌&&◌, ◌+◌, ◌^◌, ◌≡◌, ◌<◌, ℕ, Bool, true, false, if◌then◌else◌, nat_lt, List, []}
use Rattle.std.specs.Prelude.{◌∷◌, bytes_eq, codes, Option, Some, None, Result, Ok, Err, ⊤}
use Rattle.dm_base.specs.Fields.{parts, is_id, challenge_of, num_of, hex_of}
use Rattle.dm_base.specs.declared.lines.LineReason.{LineReason}
use Rattle.dm_base.specs.declared.lines.LineReason.TheVariants as reason
use Rattle.dm_base.specs.declared.values.Nonce.{Nonce}
use Rattle.syncml_codec.specs.Decoding.{read_of}
use Rattle.dm_tree.specs.declared.nodes.Stamp.{Stamp}
use Rattle.dm_machine.specs.declared.kinds.Initiator.{Initiator}
use Rattle.dm_machine.specs.declared.kinds.Initiator.TheVariants.{ByServer, ByClient}
use Rattle.dm_machine.specs.Events.{Event as Happening, clock, opened, message, loss, act}
use Rattle.dm_fields.specs.declared.errors.LineError.{LineError}
use Rattle.dm_fields.specs.declared.errors.LineError.TheVariants as line_error
use Rattle.dm_start.specs.Fields.{clock_in}
use Rattle.dm_fields.specs.Fields.{begins_with}
use Rattle.dm_replay.specs.declared.events.Event.{Event}
use Rattle.dm_replay.specs.declared.events.Event.TheVariants as event

-- ---- the fields of each line

abbrev pub kind_of : List ℕ → Option Initiator
kind_of text =
    if bytes_eq text (codes "server") then Some ByServer else if bytes_eq text
    (codes "client") then Some ByClient else None

-- a session's number, 1 to 4,294,967,295
abbrev pub session_by : Option ℕ → Option ℕ
session_by None = None
session_by (Some number) = if nat_lt 0 number && nat_lt number (2 ^ 32) then Some number else None

abbrev pub session_in_text : List ℕ → Option ℕ
session_in_text text = session_by (num_of text)

-- where a server stands among the accounts, of which the first here has this place
abbrev pub place_from : ℕ → List (List ℕ) → List ℕ → Option ℕ
place_from at [] server = None
place_from at (id ∷ ids) server = if bytes_eq id server then Some at else place_from (at + 1) ids server

abbrev pub account_place : List (List ℕ) → List ℕ → Option ℕ
account_place ids server = place_from 0 ids server

abbrev pub opened_at : Option ℕ → Initiator → ℕ → Result Event LineReason
opened_at None kind session = Err reason.Account
opened_at (Some account) kind session = Ok (event.Open account kind session)

-- the account is looked for once all fields are in their forms
abbrev pub opened_by : List (List ℕ) → List ℕ → Option Initiator → Option ℕ → Result Event LineReason
opened_by ids server None session = Err reason.Fields
opened_by ids server (Some kind) None = Err reason.Fields
opened_by ids server (Some kind) (Some session) =
    if is_id server then opened_at (account_place ids server) kind session else Err reason.Fields

-- `open ID KIND NUM`
abbrev pub open_in : List (List ℕ) → List (List ℕ) → Result Event LineReason
open_in ids (word ∷ server ∷ kind ∷ number ∷ []) = opened_by ids server (kind_of kind) (session_in_text number)
open_in ids other = Err reason.Fields

abbrev pub msg_by : Option Nonce → Option (List ℕ) → Result Event LineReason
msg_by None bytes = Err reason.Fields
msg_by (Some nonce) None = Err reason.Fields
msg_by (Some nonce) (Some bytes) = Ok (event.Msg nonce bytes)

-- `msg NONCE HEX`
abbrev pub msg_in : List (List ℕ) → Result Event LineReason
msg_in (word ∷ nonce ∷ bytes ∷ []) = msg_by (challenge_of nonce) (hex_of bytes)
msg_in other = Err reason.Fields

-- `act ok` and `act fail`
abbrev pub act_in : List ℕ → Result Event LineReason
act_in line =
    if bytes_eq line (codes "act ok") then Ok (event.Act true)
    else if bytes_eq line (codes "act fail") then Ok (event.Act false)
    else Err reason.Fields

abbrev pub clock_by : Option Stamp → Result Event LineReason
clock_by None = Err reason.Fields
clock_by (Some stamp) = Ok (event.Clock stamp)

-- `clock STAMP`
abbrev pub clock_event : List (List ℕ) → Result Event LineReason
clock_event fields = clock_by (clock_in fields)

-- a line that is its word alone
abbrev pub alone : List ℕ → List ℕ → Event → Result Event LineReason
alone word line said = if bytes_eq line word then Ok said else Err reason.Fields

-- ---- any line

-- what a line says in a trace of this version whose accounts have these servers, or the first reason why it is refused
unfoldable pub event_of : ℕ → List (List ℕ) → List ℕ → Result Event LineReason
event_of version ids line =
    if begins_with (codes "open") line then open_in ids (parts line)
    else if begins_with (codes "msg") line then msg_in (parts line)
    else if begins_with (codes "loss") line then alone (codes "loss") line event.Loss
    else if begins_with (codes "act") line then act_in line
    else if version == 2 && begins_with (codes "clock") line then clock_event (parts line)
    else if begins_with (codes "end") line then alone (codes "end") line event.End
    else Err reason.Word

-- what happens to the machine; nothing at the end
abbrev pub happening_of : Event → Option Happening
happening_of (event.Open account kind session) = Some (opened account kind session)
happening_of (event.Msg nonce bytes) = Some (message (read_of bytes) nonce.bytes)
happening_of event.Loss = Some loss
happening_of (event.Act ok) = Some (act ok)
happening_of (event.Clock stamp) = Some (clock stamp)
happening_of event.End = None

-- the trace ends
abbrev pub is_end : Event → Bool
is_end (event.Open account kind session) = false
is_end (event.Msg nonce bytes) = false
is_end event.Loss = false
is_end (event.Act ok) = false
is_end (event.Clock stamp) = false
is_end event.End = true

-- an event of a client that has so many accounts
abbrev pub IsEventOf : ℕ → Event → Type 0
IsEventOf accounts (event.Open account kind session) = account < accounts
IsEventOf accounts (event.Msg nonce bytes) = ⊤
IsEventOf accounts event.Loss = ⊤
IsEventOf accounts (event.Act ok) = ⊤
IsEventOf accounts (event.Clock stamp) = ⊤
IsEventOf accounts event.End = ⊥

-- what is answered to a line that says this; want of memory says nothing
abbrev pub Reads : {T : Type 0} → Result T LineReason → Result T LineError → Type 0
Reads said (Ok x) = said ≡ Ok x
Reads said (Err (line_error.Bad why)) = said ≡ Err why
Reads said (Err line_error.Memory) = ⊤
