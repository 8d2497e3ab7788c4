-- What a line says that is read, of a client with these accounts.
use Rattle.std.proofs.Common.{suc, ◌≡◌, ◌<◌, ◌+◌, ◌==◌, ◌&&◌, ℕ, Bool, true, false, None, Some, Ok, Err, List, [], ◌∷◌}
use Rattle.std.proofs.Common.{refl, subst, length, arith, if◌then◌else◌}
use Rattle.std.specs.Prelude.{⊤, bytes_eq, codes}
use Rattle.std.specs.declared.option.Option.{Option}
use Rattle.std.specs.declared.result.Result.{Result}
use Rattle.dm_base.specs.declared.lines.LineReason.{LineReason}
use Rattle.dm_base.specs.declared.lines.LineReason.TheVariants as reason
use Rattle.dm_base.specs.declared.values.Nonce.{Nonce}
use Rattle.dm_base.specs.Fields.{parts, is_id, challenge_of, hex_of}
use Rattle.dm_tree.specs.declared.nodes.Stamp.{Stamp}
use Rattle.dm_machine.specs.declared.kinds.Initiator.{Initiator}
use Rattle.dm_start.specs.Fields.{clock_in}
use Rattle.dm_fields.specs.Fields.{begins_with}
use Rattle.dm_replay.specs.declared.events.Event.{Event}
use Rattle.dm_replay.specs.declared.events.Event.TheVariants as event
use Rattle.dm_replay.specs.Events.{IsEventOf, is_end, event_of, kind_of, session_in_text, place_from, account_place}
use Rattle.dm_replay.specs.Events.{opened_at}
use Rattle.dm_replay.specs.Events.{opened_by, open_in, msg_by, msg_in, act_in, clock_by, clock_event, alone}

-- ---- the account that a session is opened with

place_here : (c : Bool) (at n : ℕ) (later : Option ℕ) (account : ℕ) → (later ≡ Some account → account < at + 1 + n)
    → (if c then Some at else later) ≡ Some account → account < at + suc n
place_here true at n later account rest h = let same : at ≡ account = cc in omega (arith, same)
place_here false at n later account rest h = let less = rest h in omega (arith, less)

place_below : (at : ℕ) (ids : List (List ℕ)) (server : List ℕ) (account : ℕ) → place_from at ids server ≡ Some account
    → account < at + length ids
place_below at [] server account h = cc
place_below at (id ∷ ids) server account h =
    place_here (bytes_eq id server) at (length ids) (place_from (at + 1) ids server) account
    (λ g. place_below (at + 1) ids server account g) h

-- the account of a line that opens a session is one of so many; of another line nothing is said
abbrev pub IsAmong : ℕ → Result Event LineReason → Type 0
IsAmong accounts (Ok (event.Open account kind session)) = account < accounts
IsAmong accounts other = ⊤

opened_among : (ids : List (List ℕ)) (fields : List (List ℕ)) → IsAmong (length ids) (open_in ids fields)
opened_among ids [] = tt
opened_among ids (a ∷ []) = tt
opened_among ids (a ∷ b ∷ []) = tt
opened_among ids (a ∷ b ∷ c ∷ []) = tt
opened_among ids (a ∷ b ∷ c ∷ d ∷ []) = opened (kind_of c) (session_in_text d)
  where
    placed : (o : Option ℕ) (kind : Initiator) (session : ℕ) → account_place ids b ≡ o
        → IsAmong (length ids) (opened_at o kind session)
    placed None kind session is = tt
    placed (Some account) kind session is = let less = place_below 0 ids b account is in omega (arith, less)

    known : (c : Bool) (kind : Initiator) (session : ℕ)
        → IsAmong (length ids) (if c then opened_at (account_place ids b) kind session else Err reason.Fields)
    known true kind session = placed (account_place ids b) kind session refl
    known false kind session = tt

    opened : (k : Option Initiator) (n : Option ℕ) → IsAmong (length ids) (opened_by ids b k n)
    opened None n = tt
    opened (Some kind) None = tt
    opened (Some kind) (Some session) = known (is_id b) kind session
opened_among ids (a ∷ b ∷ c ∷ d ∷ e ∷ fields) = tt

message_among : (n : ℕ) (fields : List (List ℕ)) → IsAmong n (msg_in fields)
message_among n [] = tt
message_among n (a ∷ []) = tt
message_among n (a ∷ b ∷ []) = tt
message_among n (a ∷ b ∷ c ∷ []) = read (challenge_of b) (hex_of c)
  where
    read : (o : Option Nonce) (bytes : Option (List ℕ)) → IsAmong n (msg_by o bytes)
    read None bytes = tt
    read (Some nonce) None = tt
    read (Some nonce) (Some bytes) = tt
message_among n (a ∷ b ∷ c ∷ d ∷ fields) = tt

act_among : (n : ℕ) (a b : Bool)
    → IsAmong n (if a then Ok (event.Act true) else if b then Ok (event.Act false) else Err reason.Fields)
act_among n true b = tt
act_among n false true = tt
act_among n false false = tt

clock_among : (n : ℕ) (o : Option Stamp) → IsAmong n (clock_by o)
clock_among n None = tt
clock_among n (Some stamp) = tt

loss_among : (n : ℕ) (c : Bool) → IsAmong n (if c then Ok event.Loss else Err reason.Fields)
loss_among n true = tt
loss_among n false = tt

end_among : (n : ℕ) (c : Bool) → IsAmong n (if c then Ok event.End else Err reason.Fields)
end_among n true = tt
end_among n false = tt

among_by : (a b c d e f : Bool) (ids : List (List ℕ)) (line : List ℕ)
    → IsAmong (length ids) (if a then open_in ids (parts line) else if b then msg_in (parts line) else if c then alone
    (codes "loss") line event.Loss
    else if d then act_in line else if e then clock_event (parts line) else if f then alone
    (codes "end") line event.End else Err reason.Word)
among_by true b c d e f ids line = opened_among ids (parts line)
among_by false true c d e f ids line = message_among (length ids) (parts line)
among_by false false true d e f ids line = loss_among (length ids) (bytes_eq line (codes "loss"))
among_by false false false true e f ids line =
    act_among (length ids) (bytes_eq line (codes "act ok")) (bytes_eq line (codes "act fail"))
among_by false false false false true f ids line = clock_among (length ids) (clock_in (parts line))
among_by false false false false false true ids line = end_among (length ids) (bytes_eq line (codes "end"))
among_by false false false false false false ids line = tt

said_among : (version : ℕ) (ids : List (List ℕ)) (line : List ℕ) → IsAmong (length ids) (event_of version ids line)
unfolding event_of
said_among version ids line =
    among_by (begins_with (codes "open") line) (begins_with (codes "msg") line) (begins_with (codes "loss") line)
    (begins_with (codes "act") line)
    (version == 2 && begins_with (codes "clock") line) (begins_with (codes "end") line) ids line

pub is_of : (version : ℕ) (ids : List (List ℕ)) (line : List ℕ) (said : Event) → event_of version ids line ≡ Ok said
    → is_end said ≡ false → IsEventOf (length ids) said
is_of version ids line (event.Open account kind session) is other =
    subst (IsAmong (length ids)) is (said_among version ids line)
is_of version ids line (event.Msg nonce bytes) is other = tt
is_of version ids line event.Loss is other = tt
is_of version ids line (event.Act ok) is other = tt
is_of version ids line (event.Clock stamp) is other = tt
is_of version ids line event.End is other = cc
