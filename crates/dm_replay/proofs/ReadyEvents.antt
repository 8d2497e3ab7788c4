-- What a line says is an event that a client may meet.
use Rattle.std.proofs.Common.{◌≡◌, ◌<◌, ◌*◌, ◌^◌, ℕ, zero, suc, Bool, true, false, cond, List, [], ◌∷◌, length, get_or}
use Rattle.std.proofs.Common.{Option, None, Some, Ok, Err, refl, sym, subst, ◌∙◌, arith}
use Rattle.std.proofs.lemmas.Bool.{and_parts}
use Rattle.std.proofs.lemmas.Bool.Decides.{nat_tests}
use Rattle.std.specs.Prelude.{◌&&◌, ◌==◌, ⊤, Result, IfSome, nat_lt, bytes_eq, codes, option_map}
use Rattle.std.specs.Result.{result_ok}
use Rattle.hex.specs.declared.error.FromHexError.{FromHexError}
use Rattle.hex.specs.Hex.{IsBytes, decode_of, decode_sized}
use Rattle.hex.proofs.HexLemmas.{decode_of-ok, decode_sized-ok, decode_sized-twice}
use Rattle.wbxml_ints.specs.Multibyte.{AreBytes}
use Rattle.wbxml_tokens.specs.declared.reason.Refusal.{Refusal}
use Rattle.dm_base.specs.Fields.{parts, is_id, challenge_of, num_of, hex_of}
use Rattle.dm_base.specs.declared.lines.LineReason.{LineReason}
use Rattle.dm_base.specs.declared.lines.LineReason.TheVariants as reason
use Rattle.dm_base.specs.declared.values.Nonce.{Nonce}
use Rattle.syncml_types.specs.Message.{Parts}
use Rattle.syncml_codec.specs.Decoding.{read_of}
use Rattle.dm_tree.specs.declared.nodes.Stamp.{Stamp}
use Rattle.dm_tree.specs.Nodes.{IsStamp}
use Rattle.dm_machine.specs.declared.kinds.Initiator.{Initiator}
use Rattle.dm_machine.specs.Machine.{Machine}
use Rattle.dm_machine.specs.Events.{Event as Happening, clock, opened, message, loss, act}
use Rattle.dm_machine.specs.Ready.{IsReadyEvent, IsReadyRead}
use Rattle.dm_fields.specs.Fields.{begins_with}
use Rattle.dm_start.specs.Fields.{clock_in}
use Rattle.dm_replay.specs.declared.events.Event.{Event}
use Rattle.dm_replay.specs.declared.events.Event.TheVariants as event
use Rattle.dm_replay.specs.Events.{event_of, kind_of, session_by, session_in_text, account_place, opened_at, opened_by}
use Rattle.dm_replay.specs.Events.{open_in}
use Rattle.dm_replay.specs.Events.{msg_by, msg_in, act_in, clock_by, clock_event, alone, happening_of}
use Rattle.dm_replay.proofs.ReadFit.{read_is_held}
use Rattle.dm_replay.proofs.Saying.{is_of}
use Rattle.dm_replay.proofs.StartStamps.{clock_is_stamp}

-- the numbers, the nonce, the message and the stamp that a line says
abbrev pub InRange : Result Event LineReason → Type 0
InRange (Ok (event.Open account kind session)) = session < 2 ^ 32
InRange (Ok (event.Msg nonce bytes)) = IsReadyRead (read_of bytes) nonce.bytes
InRange (Ok event.Loss) = ⊤
InRange (Ok (event.Act ok)) = ⊤
InRange (Ok (event.Clock stamp)) = IsStamp stamp
InRange (Ok event.End) = ⊤
InRange (Err why) = ⊤

either : (P : Result Event LineReason → Type 0) (b : Bool) {x y : Result Event LineReason} → P x → P y
    → P (cond b x y)
either P true h k = h
either P false h k = k

-- ---- a session's number

abbrev IsLow : Option ℕ → Type 0
IsLow None = ⊤
IsLow (Some n) = n < 2 ^ 32

below : (a b : ℕ) → nat_lt a b ≡ true → a < b
below a b h = grind (arith, nat_tests)

number_low : (n : ℕ) (b : Bool) → (nat_lt 0 n && nat_lt n (2 ^ 32)) ≡ b → IsLow (cond b (Some n) None)
number_low n true h = below n (2 ^ 32) (and_parts (nat_lt 0 n) (nat_lt n (2 ^ 32)) h).1
number_low n false h = tt

session_low : (o : Option ℕ) → IsLow (session_by o)
session_low None = tt
session_low (Some n) = number_low n (nat_lt 0 n && nat_lt n (2 ^ 32)) refl

placed_low : (o : Option ℕ) (kind : Initiator) (n : ℕ) → n < 2 ^ 32 → InRange (opened_at o kind n)
placed_low None kind n h = tt
placed_low (Some account) kind n h = h

opened_low : (ids : List (List ℕ)) (server : List ℕ) (kind : Option Initiator) (n : Option ℕ) → IsLow n
    → InRange (opened_by ids server kind n)
opened_low ids server None n h = tt
opened_low ids server (Some kind) None h = tt
opened_low ids server (Some kind) (Some n) h =
    either InRange (is_id server) {x = opened_at (account_place ids server) kind n} {y = Err reason.Fields}
    (placed_low (account_place ids server) kind n h) tt

open_low : (ids fields : List (List ℕ)) → InRange (open_in ids fields)
open_low ids [] = tt
open_low ids (w ∷ []) = tt
open_low ids (w ∷ a ∷ []) = tt
open_low ids (w ∷ a ∷ b ∷ []) = tt
open_low ids (w ∷ a ∷ b ∷ c ∷ []) = opened_low ids a (kind_of b) (session_in_text c) (session_low (num_of c))
open_low ids (w ∷ a ∷ b ∷ c ∷ d ∷ ds) = tt

-- ---- bytes and nonces

bytes_are : (xs : List ℕ) → IsBytes xs → AreBytes xs
bytes_are [] h = tt
bytes_are (x ∷ xs) h = (h zero, bytes_are xs (λ i. h (suc i)))

abbrev AreAll : Option (List ℕ) → Type 0
AreAll None = ⊤
AreAll (Some bytes) = AreBytes bytes

decoded_bytes : (text : List ℕ) (r : Result (List ℕ) FromHexError) → decode_of text ≡ r → AreAll (result_ok r)
decoded_bytes text (Ok bytes) is = bytes_are bytes (decode_of-ok text bytes is).3
decoded_bytes text (Err e) is = tt

hex_by : (text : List ℕ) (a b : Bool) → AreAll (cond a (Some []) (cond b (result_ok (decode_of text)) None))
hex_by text true b = tt
hex_by text false true = decoded_bytes text (decode_of text) refl
hex_by text false false = tt

hex_bytes : (text : List ℕ) → AreAll (hex_of text)
hex_bytes text = hex_by text (bytes_eq text (codes "-")) (nat_lt 0 (length text))

record IsWhole (bytes : List ℕ) : Type 0 where
  long : length bytes ≡ 16
  bytes_in : (k : ℕ) → k < 16 → get_or bytes k 0 < 256

abbrev OfNonce : Option Nonce → Type 0
OfNonce None = ⊤
OfNonce (Some n) = IsWhole n.bytes

decoded_nonce : (text : List ℕ) (r : Result (List ℕ) FromHexError) → decode_sized text 16 ≡ r
    → OfNonce (option_map (λ bytes. record { bytes = bytes }) (result_ok r))
decoded_nonce text (Ok bytes) is =
    let twice = decode_sized-ok text 16 bytes is in
    let read = decode_of-ok text bytes (sym (decode_sized-twice text 16 twice) ∙ is) in
    let long = read.2 in
    record { long = omega (arith, twice, long); bytes_in = λ k l. read.3 k }
decoded_nonce text (Err e) is = tt

nonce_whole : (text : List ℕ) → OfNonce (challenge_of text)
nonce_whole text = decoded_nonce text (decode_sized text 16) refl

-- ---- a message

read_ready : (bytes nonce : List ℕ) → AreBytes bytes → IsWhole nonce → IsReadyRead (read_of bytes) nonce
read_ready bytes nonce are whole = by_read (read_of bytes) refl
  where
    by_read : (r : Result Parts Refusal) → read_of bytes ≡ r → IsReadyRead r nonce
    by_read (Err refusal) is = tt
    by_read (Ok m) is =
        let held = read_is_held bytes m are is in
        record { fit = held.0; numbers = held.1; nonce_long = whole.long; nonce_bytes = whole.bytes_in }

told_ready : (nonce : Option Nonce) (bytes : Option (List ℕ)) → OfNonce nonce → AreAll bytes → InRange (msg_by nonce bytes)
told_ready None bytes n b = tt
told_ready (Some nonce) None n b = tt
told_ready (Some nonce) (Some bytes) n b = read_ready bytes nonce.bytes b n

msg_ready : (fields : List (List ℕ)) → InRange (msg_in fields)
msg_ready [] = tt
msg_ready (w ∷ []) = tt
msg_ready (w ∷ a ∷ []) = tt
msg_ready (w ∷ a ∷ b ∷ []) = told_ready (challenge_of a) (hex_of b) (nonce_whole a) (hex_bytes b)
msg_ready (w ∷ a ∷ b ∷ c ∷ cs) = tt

-- ---- the others

clock_told : (fields : List (List ℕ)) (o : Option Stamp) → clock_in fields ≡ o → InRange (clock_by o)
clock_told fields None is = tt
clock_told fields (Some stamp) is = clock_is_stamp fields stamp is

alone_ready : (word line : List ℕ) (said : Event) → InRange (Ok said) → InRange (alone word line said)
alone_ready word line said h = either InRange (bytes_eq line word) {x = Ok said} {y = Err reason.Fields} h tt

act_ready : (line : List ℕ) → InRange (act_in line)
act_ready line =
    either InRange (bytes_eq line (codes "act ok")) {x = Ok (event.Act true)}
    {y = cond (bytes_eq line (codes "act fail")) (Ok (event.Act false)) (Err reason.Fields)} tt
    (either InRange (bytes_eq line (codes "act fail")) {x = Ok (event.Act false)} {y = Err reason.Fields} tt tt)

line_in_range : (version : ℕ) (ids : List (List ℕ)) (line : List ℕ) → InRange (event_of version ids line)
unfolding event_of
line_in_range version ids line =
    either InRange (begins_with (codes "open") line) (open_low ids (parts line))
    (either InRange (begins_with (codes "msg") line) (msg_ready (parts line))
    (either InRange (begins_with (codes "loss") line) (alone_ready (codes "loss") line event.Loss tt)
    (either InRange (begins_with (codes "act") line) (act_ready line)
    (either InRange (version == 2 && begins_with (codes "clock") line)
    (clock_told (parts line) (clock_in (parts line)) refl)
    (either InRange (begins_with (codes "end") line) {x = alone (codes "end") line event.End} {y = Err reason.Word}
    (alone_ready (codes "end") line event.End tt) tt)))))

-- ---- any event

same_event : (a b : Happening) → Some a ≡ Some b → a ≡ b
same_event a b h = cc

-- what a line says to a client whose accounts have these servers
pub said_is_ready : (c : Machine) (version : ℕ) (ids : List (List ℕ)) (line : List ℕ) (said : Event) (e : Happening)
    → length ids ≡ length c.accounts → event_of version ids line ≡ Ok said → happening_of said ≡ Some e
    → IsReadyEvent c e
said_is_ready c version ids line (event.Open account kind session) e many is happens =
    let place = is_of version ids line (event.Open account kind session) is refl in
    subst (IsReadyEvent c) (same_event (opened account kind session) e happens)
    (omega (arith, place, many), subst InRange is (line_in_range version ids line))
said_is_ready c version ids line (event.Msg nonce bytes) e many is happens =
    subst (IsReadyEvent c) (same_event (message (read_of bytes) nonce.bytes) e happens)
    (subst InRange is (line_in_range version ids line))
said_is_ready c version ids line event.Loss e many is happens =
    subst (IsReadyEvent c) (same_event loss e happens) tt
said_is_ready c version ids line (event.Act ok) e many is happens =
    subst (IsReadyEvent c) (same_event (act ok) e happens) tt
said_is_ready c version ids line (event.Clock stamp) e many is happens =
    subst (IsReadyEvent c) (same_event (clock stamp) e happens)
    (subst InRange is (line_in_range version ids line))
said_is_ready c version ids line event.End e many is happens = absurd (cc)
