-- What a line of an event says is an event of both ends, with the number of a session of 32 bits.
use Rattle.std.proofs.Common.{◌≡◌, ◌<◌, ◌≤◌, ◌&&◌, ◌^◌, ℕ, Bool, true, false, cond, List, [], ◌∷◌, Option, None, Some}
use Rattle.std.proofs.Common.{subst, length, codes, nat_lt, nat_le, arith}
use Rattle.std.specs.Prelude.{Result, Ok, Err, bytes_eq}
use Rattle.std.specs.Str.Parse.{digits_value}
use Rattle.std.proofs.lemmas.Bool.Decides.{nat_tests}
use Rattle.dm_base.specs.Fields.{parts, is_id, is_numeral, num_of, challenge_of, hex_of}
use Rattle.dm_base.specs.declared.lines.LineReason.{LineReason}
use Rattle.dm_base.specs.declared.lines.LineReason.TheVariants as reason
use Rattle.dm_base.specs.declared.values.Nonce.{Nonce}
use Rattle.dm_machine.specs.declared.kinds.Initiator.{Initiator}
use Rattle.dm_fields.specs.Fields.{begins_with}
use Rattle.dm_replay.specs.declared.events.Event.{Event as TraceEvent}
use Rattle.dm_replay.specs.declared.events.Event.TheVariants as trace
use Rattle.dm_replay.specs.Events.{event_of as trace_event_of, kind_of, session_by, session_in_text, account_place}
use Rattle.dm_replay.specs.Events.{opened_at}
use Rattle.dm_replay.specs.Events.{opened_by, open_in, msg_by, msg_in}
use Rattle.dm_world.proofs.Lists.{either, either_is, and-left, and-right}
use Rattle.dm_pair.specs.declared.events.PairEvent.{PairEvent}
use Rattle.dm_pair.specs.declared.events.PairEvent.TheVariants as event
use Rattle.dm_pair.specs.Events.{IsPairEvent, sent_number, told_by, up_in, down_in, rounds_by, run_in, said_of_trace}
use Rattle.dm_pair.specs.Events.{trace_line, pair_event_of}
use Rattle.dm_pair.proofs.Within.{AreOf, trace_within}

-- the number of a session is of 32 bits
abbrev pub IsNumber : PairEvent → Type 0
IsNumber (event.Open account kind session) = session < 2 ^ 32
IsNumber (event.Up number) = Unit {0}
IsNumber (event.Down number) = Unit {0}
IsNumber event.Loss = Unit {0}
IsNumber (event.Act ok) = Unit {0}
IsNumber (event.Run count) = Unit {0}
IsNumber event.End = Unit {0}

abbrev Fine : ℕ → ℕ → ℕ → Result PairEvent LineReason → Type 0
Fine accounts ups downs (Ok e) = IsPairEvent accounts ups downs e × IsNumber e
Fine accounts ups downs (Err why) = Unit {0}

lt-yes : (a b : ℕ) → nat_lt a b ≡ true → a < b
lt-yes a b h = grind (arith, nat_tests)

le-yes : (a b : ℕ) → nat_le a b ≡ true → a ≤ b
le-yes a b h = grind (arith, nat_tests)

-- ---- numbers of messages

abbrev IsSent : ℕ → Result ℕ LineReason → Type 0
IsSent count (Ok n) = (0 < n) × (n ≤ count)
IsSent count (Err why) = Unit {0}

sent-is : (count : ℕ) (text : List ℕ) → IsSent count (sent_number count text)
sent-is count text =
    let v = digits_value 10 text in
    either (IsSent count) (is_numeral text) {x = cond (nat_lt 0 v && nat_le v count) (Ok v) (Err reason.Message)}
    {y = Err reason.Fields}
    (either_is (IsSent count) (nat_lt 0 v && nat_le v count) {x = Ok v} {y = Err reason.Message}
    (λ t. (lt-yes 0 v (and-left (nat_lt 0 v) (nat_le v count) t), le-yes v count (and-right (nat_lt 0 v) _ t)))
    (λ t. tt)) tt

told-up : (accounts ups downs : ℕ) (r : Result ℕ LineReason) → IsSent ups r
    → Fine accounts ups downs (told_by (λ n. event.Up n) r)
told-up accounts ups downs (Ok n) h = (h, tt)
told-up accounts ups downs (Err why) h = tt

told-down : (accounts ups downs : ℕ) (r : Result ℕ LineReason) → IsSent downs r
    → Fine accounts ups downs (told_by (λ n. event.Down n) r)
told-down accounts ups downs (Ok n) h = (h, tt)
told-down accounts ups downs (Err why) h = tt

up-fine : (accounts ups downs : ℕ) (fields : List (List ℕ)) → Fine accounts ups downs (up_in ups fields)
up-fine accounts ups downs [] = tt
up-fine accounts ups downs (w ∷ []) = tt
up-fine accounts ups downs (w ∷ n ∷ []) = told-up accounts ups downs (sent_number ups n) (sent-is ups n)
up-fine accounts ups downs (w ∷ n ∷ x ∷ xs) = tt

down-fine : (accounts ups downs : ℕ) (fields : List (List ℕ)) → Fine accounts ups downs (down_in downs fields)
down-fine accounts ups downs [] = tt
down-fine accounts ups downs (w ∷ []) = tt
down-fine accounts ups downs (w ∷ n ∷ []) = told-down accounts ups downs (sent_number downs n) (sent-is downs n)
down-fine accounts ups downs (w ∷ n ∷ x ∷ xs) = tt

rounds-fine : (accounts ups downs : ℕ) (o : Option ℕ) → Fine accounts ups downs (rounds_by o)
rounds-fine accounts ups downs None = tt
rounds-fine accounts ups downs (Some n) =
    either_is (Fine accounts ups downs) (nat_lt 0 n && nat_le n 100000) {x = Ok (event.Run n)} {y = Err reason.Fields}
    (λ t. ((lt-yes 0 n (and-left (nat_lt 0 n) (nat_le n 100000) t), le-yes n 100000 (and-right (nat_lt 0 n) _ t)), tt))
    (λ t. tt)

run-fine : (accounts ups downs : ℕ) (fields : List (List ℕ)) → Fine accounts ups downs (run_in fields)
run-fine accounts ups downs [] = tt
run-fine accounts ups downs (w ∷ []) = tt
run-fine accounts ups downs (w ∷ n ∷ []) = rounds-fine accounts ups downs (num_of n)
run-fine accounts ups downs (w ∷ n ∷ x ∷ xs) = tt

-- ---- the number of a session

abbrev Opens : Result TraceEvent LineReason → Type 0
Opens (Ok (trace.Open account kind session)) = session < 2 ^ 32
Opens (Ok (trace.Msg nonce bytes)) = Unit {0}
Opens (Ok trace.Loss) = Unit {0}
Opens (Ok (trace.Act ok)) = Unit {0}
Opens (Ok (trace.Clock stamp)) = Unit {0}
Opens (Ok trace.End) = Unit {0}
Opens (Err why) = Unit {0}

abbrev IsLow : Option ℕ → Type 0
IsLow None = Unit {0}
IsLow (Some n) = n < 2 ^ 32

session-low : (o : Option ℕ) → IsLow (session_by o)
session-low None = tt
session-low (Some n) =
    either_is IsLow (nat_lt 0 n && nat_lt n (2 ^ 32)) {x = Some n} {y = None}
    (λ t. lt-yes n (2 ^ 32) (and-right (nat_lt 0 n) _ t)) (λ t. tt)

at-opens : (o : Option ℕ) (k : Initiator) (n : ℕ) → n < 2 ^ 32 → Opens (opened_at o k n)
at-opens None k n h = tt
at-opens (Some a) k n h = h

by-opens : (ids : List (List ℕ)) (server : List ℕ) (k : Option Initiator) (s : Option ℕ) → IsLow s
    → Opens (opened_by ids server k s)
by-opens ids server None s h = tt
by-opens ids server (Some k) None h = tt
by-opens ids server (Some k) (Some n) h =
    either Opens (is_id server) {x = opened_at (account_place ids server) k n} {y = Err reason.Fields}
    (at-opens (account_place ids server) k n h) tt

open-opens : (ids fields : List (List ℕ)) → Opens (open_in ids fields)
open-opens ids [] = tt
open-opens ids (w ∷ []) = tt
open-opens ids (w ∷ a ∷ []) = tt
open-opens ids (w ∷ a ∷ b ∷ []) = tt
open-opens ids (w ∷ a ∷ b ∷ c ∷ []) = by-opens ids a (kind_of b) (session_in_text c) (session-low (num_of c))
open-opens ids (w ∷ a ∷ b ∷ c ∷ d ∷ ds) = tt

msg-opens : (n : Option Nonce) (b : Option (List ℕ)) → Opens (msg_by n b)
msg-opens None b = tt
msg-opens (Some n) None = tt
msg-opens (Some n) (Some b) = tt

msgs-open : (fields : List (List ℕ)) → Opens (msg_in fields)
msgs-open [] = tt
msgs-open (w ∷ []) = tt
msgs-open (w ∷ a ∷ []) = tt
msgs-open (w ∷ a ∷ b ∷ []) = msg-opens (challenge_of a) (hex_of b)
msgs-open (w ∷ a ∷ b ∷ c ∷ cs) = tt

trace-opens : (ids : List (List ℕ)) (line : List ℕ) → Opens (trace_event_of 1 ids line)
unfolding trace_event_of
trace-opens ids line =
    either Opens (begins_with (codes "open") line) (open-opens ids (parts line))
    (either Opens (begins_with (codes "msg") line) (msgs-open (parts line))
    (either Opens (begins_with (codes "loss") line)
    (either Opens (bytes_eq line (codes "loss")) {x = Ok trace.Loss} {y = Err reason.Fields} tt tt)
    (either Opens (begins_with (codes "act") line)
    (either Opens (bytes_eq line (codes "act ok")) {x = Ok (trace.Act true)}
    {y = cond (bytes_eq line (codes "act fail")) (Ok (trace.Act false)) (Err reason.Fields)} tt
    (either Opens (bytes_eq line (codes "act fail")) {x = Ok (trace.Act false)} {y = Err reason.Fields} tt tt))
    (either Opens (begins_with (codes "end") line)
    {x = cond (bytes_eq line (codes "end")) (Ok trace.End) (Err reason.Fields)} {y = Err reason.Word}
    (either Opens (bytes_eq line (codes "end")) {x = Ok trace.End} {y = Err reason.Fields} tt tt) tt))))

said-fine : (accounts ups downs : ℕ) (r : Result TraceEvent LineReason) → Opens r
    → AreOf accounts ups downs (said_of_trace r)
    → Fine accounts ups downs (said_of_trace r)
said-fine accounts ups downs (Ok (trace.Open account kind session)) h k = (k, h)
said-fine accounts ups downs (Ok (trace.Msg nonce bytes)) h k = tt
said-fine accounts ups downs (Ok trace.Loss) h k = (k, tt)
said-fine accounts ups downs (Ok (trace.Act ok)) h k = (k, tt)
said-fine accounts ups downs (Ok (trace.Clock stamp)) h k = tt
said-fine accounts ups downs (Ok trace.End) h k = (k, tt)
said-fine accounts ups downs (Err why) h k = tt

trace-fine : (ids : List (List ℕ)) (ups downs : ℕ) (line : List ℕ)
    → Fine (length ids) ups downs (trace_line ids line)
trace-fine ids ups downs line =
    by (begins_with (codes "msg") line) (trace_within ids ups downs line)
  where
    by : (b : Bool)
        → AreOf (length ids) ups downs (cond b (Err reason.Word) (said_of_trace (trace_event_of 1 ids line)))
        → Fine (length ids) ups downs (cond b (Err reason.Word) (said_of_trace (trace_event_of 1 ids line)))
    by true h = tt
    by false h = said-fine (length ids) ups downs (trace_event_of 1 ids line) (trace-opens ids line) h

-- ---- any line

event-fine : (ids : List (List ℕ)) (ups downs : ℕ) (line : List ℕ)
    → Fine (length ids) ups downs (pair_event_of ids ups downs line)
unfolding pair_event_of
event-fine ids ups downs line =
    either (Fine (length ids) ups downs) (begins_with (codes "up") line) (up-fine (length ids) ups downs (parts line))
    (either (Fine (length ids) ups downs) (begins_with (codes "down") line)
    (down-fine (length ids) ups downs (parts line))
    (either (Fine (length ids) ups downs) (begins_with (codes "run") line)
    (run-fine (length ids) ups downs (parts line)) (trace-fine ids ups downs line)))

-- of an event that it says
pub event-is : (ids : List (List ℕ)) (ups downs : ℕ) (line : List ℕ) (e : PairEvent)
    → pair_event_of ids ups downs line ≡ Ok e
    → IsPairEvent (length ids) ups downs e × IsNumber e
event-is ids ups downs line e h = subst (Fine (length ids) ups downs) h (event-fine ids ups downs line)
