-- What was taken of a source says what all of its bytes are.
use Rattle.std.proofs.Common.{ℕ, ◌≡◌, ◌≤◌, ◌+◌, List, [], ◌++◌, length, take, refl, sym, ap, ◌∙◌, subst, arith}
use Rattle.std.proofs.lemmas.List.{length-append, length-take}
use Rattle.std.proofs.KnownBytes.{Consumes-nil, Consumes-kept, Consumes-trans}
use Rattle.std.specs.Prelude.{Option, Some, None, Result, Ok, Err}
use Rattle.std.specs.Io.KnownBytes.{Consumes, Keeps, IsAtEnd}
use Rattle.dm_base.specs.Outside.{OfKnown}
use Rattle.dm_base.specs.declared.outside.Fault.{Fault}
use Rattle.wbxml_tokens.specs.declared.reason.Refusal.{Refusal}
use Rattle.wbxml_tokens.specs.declared.reason.FeedError.{FeedError}
use Rattle.wbxml_tokens.specs.declared.reason.FeedError.TheVariants as errors
use Rattle.wbxml_tokens.specs.Reading.{reading, reads}
use Rattle.syncml_grammar.specs.Building.{Building}
use Rattle.syncml_codec.specs.Decoding.{settled, built, first_refused, read_of, TellsSettled}
use Rattle.syncml_codec.proofs.Unrefused.{sound_within}
use Rattle.syncml_codec.proofs.Decoded.{settled_more, settled_read}
use Rattle.dm_check.specs.declared.message.Received.{Received}
use Rattle.dm_check.specs.declared.message.Received.TheVariants as received
use Rattle.dm_check.specs.Kept.{answer_to}
use Rattle.dm_base.specs.declared.outside.Fault.TheVariants as fault
use Rattle.dm_check.specs.Receiving.{Receives, ReceiveCounts, MessageAtEnd, TakesNoMore, Unsettled}

-- ---- bytes of which nothing is refused

pub nothing_settled : settled [] ≡ None
unfolding settled reads
nothing_settled = refl

sound_by : (r : Result Building Refusal) (o : Option Refusal) → first_refused r o ≡ None → o ≡ None
sound_by (Ok b) o h = h
sound_by (Err f) o h = cc

pub unsettled_within : (bytes : List ℕ) → settled bytes ≡ None → length bytes ≤ 65536
unfolding settled
unsettled_within bytes h = sound_within bytes (sound_by (built bytes) (reading bytes).refused h)

-- ---- what all of the bytes are

refused_received : (old new : Option (List ℕ)) (bytes : List ℕ) (f : Refusal) → Consumes old new bytes
    → settled bytes ≡ Some f → OfKnown old (λ all. read_of all ≡ Err f)
refused_received None new bytes f taken h = tt
refused_received (Some xs) None bytes f taken h = absurd taken
refused_received (Some xs) (Some ys) bytes f taken h =
    ap read_of taken ∙ settled_read (bytes ++ ys) f (settled_more bytes ys f h)

-- what a decoder answers to some of the bytes holds of all
pub stopped_received : (old new : Option (List ℕ)) (bytes : List ℕ) (e : FeedError) (r : Result Received Fault)
    → Consumes old new bytes → TellsSettled (Err e) (settled bytes)
    → r ≡ answer_to e → OfKnown old (Receives r)
stopped_received old new bytes (errors.Refused f) r taken h is =
    subst (λ x. OfKnown old (Receives x)) (sym is) (refused_received old new bytes f taken h)
stopped_received None new bytes errors.Memory r taken h is = tt
stopped_received (Some xs) new bytes errors.Memory r taken h is = subst (λ x. Receives x xs) (sym is) tt

-- ---- how much was taken

-- a piece behind bytes that settle nothing
pub took : (old mid new : Option (List ℕ)) (before last : List ℕ) → Consumes old mid before → settled before ≡ None
    → Consumes mid new last → length last ≤ 4096
    → length before + length last ≤ 65537 → TakesNoMore old new
took old mid new before last first unsettled then_ short few =
    let all = length-append before last in
    (before, last, Consumes-trans old mid new before last first then_, unsettled, short, omega (arith, few, all))

-- the same of the front of a buffer
pub took_piece : (old mid new : Option (List ℕ)) (before buf : List ℕ) (n room : ℕ) → Consumes old mid before
    → settled before ≡ None → Consumes mid new (take n buf) → length buf ≤ room
    → room ≤ 4096 → length before + room ≤ 65537 → TakesNoMore old new
took_piece old mid new before buf n room first unsettled then_ short few within =
    let front = length-take n buf in
    took old mid new before (take n buf) first unsettled then_ (omega (arith, front, short, few))
    (omega (arith, front, short, within))

-- nothing behind them, where the source failed
pub took_none : (old mid new : Option (List ℕ)) (before : List ℕ) → Consumes old mid before → settled before ≡ None
    → Keeps mid new → length before ≤ 65536
    → TakesNoMore old new
took_none old mid new before first unsettled keeps within =
    took old mid new before [] first unsettled (Consumes-kept mid mid new [] (Consumes-nil mid) keeps) (omega (arith))
    (omega (arith, within))

-- which was asked while nothing was settled
pub asked_unsettled : (old mid new : Option (List ℕ)) (before : List ℕ) → Consumes old mid before
    → settled before ≡ None → Keeps mid new
    → Unsettled old new
asked_unsettled old mid new before first unsettled keeps =
    (before, Consumes-kept old mid new before first keeps, unsettled)

-- an answer that leaves each count tells of no fault
pub no_fault : (r : Result Received Fault) → ((faults : ℕ) → ReceiveCounts faults faults r) → r ≡ Err fault.Failed → ⊥
no_fault r counts is = let rose = subst (ReceiveCounts 0 0) is (counts 0) in omega (arith, rose)

-- nothing was taken yet
pub none_taken : (known : Option (List ℕ)) (bytes : List ℕ) → bytes ≡ [] → Consumes known known bytes
none_taken None bytes is = tt
none_taken (Some xs) bytes is = ap (λ l. l ++ xs) (sym is)

-- ---- the end

pub message_ended : (left : Option (List ℕ)) (r : Result Received Fault) → IsAtEnd left → MessageAtEnd left r
message_ended left (Ok (received.Message message bytes)) h = h
message_ended left (Ok (received.Refused refusal)) h = tt
message_ended left (Err e) h = tt

pub stopped_ended : (left : Option (List ℕ)) (e : FeedError) (r : Result Received Fault) → r ≡ answer_to e
    → MessageAtEnd left r
stopped_ended left (errors.Refused f) r is = subst (MessageAtEnd left) (sym is) tt
stopped_ended left errors.Memory r is = subst (MessageAtEnd left) (sym is) tt
