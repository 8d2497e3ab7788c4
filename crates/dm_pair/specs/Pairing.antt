-- Both ends on a schedule: what each event does, and the line that tells it.
use Rattle.std.specs.Prelude.{◌+◌, ◌-◌, ℕ, zero, suc, List, [], ◌∷◌, ◌++◌, codes, get_or, Option, Some}
use Rattle.std.specs.Prelude.{None}
use Rattle.std.specs.Prelude.{option_map}
use Rattle.std.specs.Int.{w128, to_be_bytes}
use Rattle.syncml_types.specs.Message.{Parts}
use Rattle.syncml_types.specs.Canonical.{canonical}
use Rattle.syncml_codec.specs.Decoding.{read_of}
use Rattle.dm_machine.specs.declared.kinds.End.{End}
use Rattle.dm_machine.specs.declared.kinds.End.TheVariants.{Finished, Aborted, Denied}
use Rattle.dm_machine.specs.Machine.{Machine, Session}
use Rattle.dm_machine.specs.Events as client
use Rattle.dm_machine.specs.Events.{opened, message, loss, act}
use Rattle.dm_machine.specs.History as client_runs
use Rattle.dm_service.specs.Service.{Service}
use Rattle.dm_service.specs.Events as server
use Rattle.dm_service.specs.Events.{Arrival}
use Rattle.dm_service.specs.History as server_runs
use Rattle.dm_pair.specs.declared.events.PairEvent.{PairEvent}
use Rattle.dm_pair.specs.declared.events.PairEvent.TheVariants as event

-- both ends, the messages that each has sent in the order in which they were first sent, in their bytes, and how many
-- deliveries there were
pub record Pairing : Type 0 where
  pub client : Machine
  pub server : Service
  pub ups : List (List ℕ)
  pub downs : List (List ℕ)
  pub deliveries : ℕ

-- ---- what an answer sends

-- a farewell too
abbrev pub sent_up : client.Answer → List (List ℕ)
sent_up (client.sent m) = canonical m ∷ []
sent_up (client.ended Denied (Some m)) = canonical m ∷ []
sent_up other = []

abbrev pub sent_down : server.Answer → List (List ℕ)
sent_down (server.sent m) = canonical m ∷ []
sent_down other = []

-- ---- what happens to one end

abbrev pub to_client : Pairing → client.Event → Pairing
to_client p e =
    record p { client = client_runs.next p.client e; ups = p.ups ++ sent_up (client_runs.answer_now p.client e) }

abbrev pub to_server : Pairing → Arrival → Pairing
to_server p e =
    record p { server = server_runs.next p.server e; downs = p.downs ++ sent_down (server_runs.answer_now p.server e) }

-- the challenges of a delivery tell its number, in 16 bytes, the most significant first
abbrev pub nonce_of : Pairing → List ℕ
nonce_of p = to_be_bytes w128 (p.deliveries + 1)

abbrev pub delivery_counted : Pairing → Pairing
delivery_counted p = record p { deliveries = p.deliveries + 1 }

abbrev pub delivered_by : Pairing → List ℕ → Arrival
delivered_by p bytes = record { read = read_of bytes; nonce = nonce_of p }

-- a message comes to the server
abbrev pub comes_up : Pairing → List ℕ → Pairing
comes_up p bytes = delivery_counted (to_server p (delivered_by p bytes))

-- a message comes to the client
abbrev pub comes_down : Pairing → List ℕ → Pairing
comes_down p bytes = delivery_counted (to_client p (message (read_of bytes) (nonce_of p)))

-- ---- words

abbrev pub end_word : End → List ℕ
end_word Finished = codes "finished"
end_word Aborted = codes "aborted"
end_word Denied = codes "denied"

abbrev pub ended_words : End → List ℕ
ended_words Finished = codes "ended finished"
ended_words Aborted = codes "ended aborted"
ended_words Denied = codes "denied"

-- what the client answers, without its message and its numbers
unfoldable pub client_words : client.Answer → List ℕ
client_words client.clocked = codes "clocked"
client_words (client.sent m) = codes "sent"
client_words (client.kept m) = codes "kept"
client_words (client.again m) = codes "again"
client_words (client.stale last) = codes "stale"
client_words client.stranger = codes "stranger"
client_words client.no_session = codes "nosession"
client_words (client.refused refusal) = codes "refused"
client_words (client.exhausted last) = codes "exhausted"
client_words (client.ended end farewell) = ended_words end
client_words client.acted = codes "acted"
client_words client.not_now = codes "notnow"

unfoldable pub server_word : server.Answer → List ℕ
server_word (server.sent m) = codes "sent"
server_word (server.kept m) = codes "kept"
server_word server.stale = codes "stale"
server_word server.stranger = codes "stranger"
server_word (server.refused refusal) = codes "refused"
server_word server.ended = codes "ended"

-- ---- rounds

-- the client's last message, while a session is open
abbrev pub last_up : Pairing → Option (List ℕ)
last_up p = option_map (λ (s : Session). canonical s.sent) p.client.session

-- the server's last message
abbrev pub last_down : Pairing → Option (List ℕ)
last_down p = option_map (λ (m : Parts). canonical m) p.server.sent

-- the state behind a round, and the word that tells why no other follows
pub record Round : Type 0 where
  pub behind : Pairing
  pub stop : Option (List ℕ)

-- another follows where the client answers by a new message
abbrev pub stop_word : client.Answer → Option (List ℕ)
stop_word (client.sent m) = None
stop_word (client.ended end farewell) = Some (end_word end)
stop_word other = Some (client_words other)

abbrev pub half_down : Pairing → Option (List ℕ) → Round
half_down p None = record { behind = delivery_counted p; stop = Some (codes "silent") }
half_down p (Some bytes) = record {
  behind = comes_down p bytes;
  stop = stop_word (client_runs.answer_now p.client (message (read_of bytes) (nonce_of p)));
}

abbrev pub round_up : Pairing → Option (List ℕ) → Round
round_up p None = record { behind = p; stop = Some (codes "nosession") }
round_up p (Some bytes) = half_down (comes_up p bytes) (last_down (comes_up p bytes))

-- the client's last message comes to the server, and then the server's last one to the client
unfoldable pub round : Pairing → Round
round p = round_up p (last_up p)

-- the state behind an event, and the words that tell it
pub record Step : Type 0 where
  pub behind : Pairing
  pub words : List ℕ

abbrev pub stops : Pairing → List ℕ → Step
stops p words = record { behind = p; words = words }

abbrev pub behind_round : Round → Step → Step
behind_round r rest = stopped r.behind r.stop rest
  where
    stopped : Pairing → Option (List ℕ) → Step → Step
    stopped p None rest = rest
    stopped p (Some word) rest = stops p word

-- at most so many rounds
abbrev pub rounds : ℕ → Pairing → Step
rounds zero p = stops p (codes "limit")
rounds (suc n) p = behind_round (round p) (rounds n (round p).behind)

-- ---- any event

-- what happens at the client, with the words of its answer
abbrev pub client_step : Pairing → client.Event → Step
client_step p e = stops (to_client p e) (client_words (client_runs.answer_now p.client e))

abbrev pub up_step : Pairing → List ℕ → Step
up_step p bytes = stops (comes_up p bytes) (server_word (server_runs.answer_now p.server (delivered_by p bytes)))

abbrev pub down_step : Pairing → List ℕ → Step
down_step p bytes =
    stops (comes_down p bytes) (client_words (client_runs.answer_now p.client (message (read_of bytes) (nonce_of p))))

abbrev pub run_step : Step → Step
run_step s = stops s.behind (codes "ran " ++ s.words)

-- the message of this number, from 1
abbrev pub message_numbered : List (List ℕ) → ℕ → List ℕ
message_numbered messages number = get_or messages (number - 1) []

-- what an event does; the end does nothing
unfoldable pub step_of : Pairing → PairEvent → Step
step_of p (event.Open account kind session) = client_step p (opened account kind session)
step_of p (event.Up number) = up_step p (message_numbered p.ups number)
step_of p (event.Down number) = down_step p (message_numbered p.downs number)
step_of p event.Loss = client_step p loss
step_of p (event.Act ok) = client_step p (act ok)
step_of p (event.Run count) = run_step (rounds count p)
step_of p event.End = stops p []
