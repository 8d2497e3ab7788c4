-- What is received of a source: what all of its bytes are, by a piece more of them at most than settles it.
use Rattle.std.specs.Prelude.{◌≡◌, ◌≤◌, ℕ, List, ◌++◌, length, Option, None, Result, Ok, Err, ⊤}
use Rattle.std.specs.Io.KnownBytes.{Consumes, IsAtEnd}
use Rattle.dm_base.specs.Outside.{Rose}
use Rattle.dm_base.specs.declared.outside.Fault.{Fault}
use Rattle.dm_base.specs.declared.outside.Fault.TheVariants as fault
use Rattle.syncml_codec.specs.Decoding.{settled, read_of}
use Rattle.dm_check.specs.declared.message.Received.{Received}
use Rattle.dm_check.specs.declared.message.Received.TheVariants as received

-- one more than a message may have
abbrev pub most_taken : ℕ
most_taken = 65537

abbrev pub most_piece : ℕ
most_piece = 4096

-- the message that the bytes spell and the bytes, or their first refusal
abbrev pub IsReceived : Received → List ℕ → Type 0
IsReceived (received.Message message kept) bytes = (kept ≡ bytes) × (read_of bytes ≡ Ok message)
IsReceived (received.Refused refusal) bytes = read_of bytes ≡ Err refusal

-- after a fault and for want of memory nothing is said of the bytes
abbrev pub Receives : Result Received Fault → List ℕ → Type 0
Receives (Ok r) bytes = IsReceived r bytes
Receives (Err e) bytes = ⊤

-- a message is answered only where the source is at its end
abbrev pub MessageAtEnd : Option (List ℕ) → Result Received Fault → Type 0
MessageAtEnd left (Ok (received.Message message bytes)) = IsAtEnd left
MessageAtEnd left other = ⊤

-- what was taken: all but a last piece of it settles no refusal, and it is no more than a message may have and one byte
abbrev pub TakesNoMore : Option (List ℕ) → Option (List ℕ) → Type 0
TakesNoMore old new = (before : List ℕ) × (last : List ℕ) × Consumes old new (before ++ last) × (settled before ≡ None)
    × (length last ≤ most_piece) × (length (before ++ last) ≤ most_taken)

-- where the source failed it was asked while nothing that was taken settles a refusal
abbrev pub Unsettled : Option (List ℕ) → Option (List ℕ) → Type 0
Unsettled old new = (bytes : List ℕ) × Consumes old new bytes × (settled bytes ≡ None)

-- a fault is answered only where the source's count rose; every other answer leaves the count
abbrev pub ReceiveCounts : ℕ → ℕ → Result Received Fault → Type 0
ReceiveCounts before now (Ok r) = now ≡ before
ReceiveCounts before now (Err fault.Failed) = Rose before now
ReceiveCounts before now (Err fault.Memory) = now ≡ before
