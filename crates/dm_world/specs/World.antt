-- Both ends, and all that each ever sent, on a schedule: of openings, of deliveries of any message that was ever sent,
-- of losses, ends of updates, moves of the clock, and deliveries that found no memory.
use Rattle.std.specs.Prelude.{ℕ, Bool, if◌then◌else◌, List, [], ◌∷◌, ◌++◌, map, slice_get, Option, None, Some, Ok}
use Rattle.std.specs.Prelude.{option_map}
use Rattle.syncml_types.specs.Message.{Parts}
use Rattle.dm_tree.specs.declared.nodes.Stamp.{Stamp}
use Rattle.dm_headers.specs.declared.checks.Side.TheVariants.{Server}
use Rattle.dm_headers.specs.Standings.{Heard, hears}
use Rattle.dm_atomic.specs.Made.{Made}
use Rattle.dm_machine.specs.declared.kinds.Initiator.{Initiator}
use Rattle.dm_machine.specs.declared.kinds.End.TheVariants.{Denied}
use Rattle.dm_machine.specs.declared.progress.Progress.{Progress}
use Rattle.dm_machine.specs.Machine.{Machine, Session}
use Rattle.dm_machine.specs.Messages.{account_at}
use Rattle.dm_machine.specs.Events as client
use Rattle.dm_machine.specs.History as client_runs
use Rattle.dm_machine.specs.Statuses.{is_executed, executed}
use Rattle.dm_service.specs.Service.{Service}
use Rattle.dm_service.specs.Events as server
use Rattle.dm_service.specs.History as server_runs
use Rattle.dm_service.specs.Events.{arrival}
use Rattle.dm_world.specs.Deeds.{Deed, all_deeds}
use Rattle.dm_ends.specs.Commands.{origin_of}

-- a message of the server, and the message of the client that it answers
pub record Reply : Type 0 where
  pub message : Parts
  pub answers : Parts

-- something of a session of this number
pub record InSession (A : Type 0) : Type 0 where
  pub session : ℕ
  pub what : A

-- what each end ever sent, the newest first; what the client executed, and what it made for it, in order
pub record World : Type 0 where
  pub client : Machine
  pub server : Service
  pub downs : List Reply
  pub ups : List Parts
  pub executed : List (InSession Deed)
  pub made : List (InSession Made)

-- What may happen next. A message is named by its place in what was sent, and the nonce is that of a challenge. One
-- that never comes is no happening; a loss is noticed, and changes nothing.
pub data Happening : Type 0 where
  opens : ℕ → Initiator → ℕ → Happening
  up_comes : ℕ → List ℕ → Happening
  down_comes : ℕ → List ℕ → Happening
  update_ends : Bool → Happening
  clock_moves : Stamp → Happening
  is_lost : Happening
  finds_no_memory : Happening

-- ---- what is sent

abbrev pub with_new : {A : Type 0} → List A → Option A → List A
with_new xs None = xs
with_new xs (Some x) = x ∷ xs

-- a message of the client that wasn't sent before: its next one, or its farewell
abbrev pub said : client.Answer → Option Parts
said (client.ended Denied farewell) = farewell
said other = client_runs.message_sent other

-- a message of the server that wasn't sent before
abbrev pub replied : server.Answer → Parts → Option Reply
replied a m = option_map (λ (sent : Parts). record { message = sent; answers = m }) (server_runs.message_sent a)

-- ---- what the client executes of a message that it takes, and what it makes for it

abbrev pub each_in_session : {A : Type 0} → ℕ → List A → List (InSession A)
each_in_session number xs = map (λ x. record { session = number; what = x }) xs

abbrev pub heard_by : Machine → Progress → Parts → List ℕ → Heard
heard_by c p m nonce = hears Server (account_at c p.account) p.standing m nonce

abbrev pub deeds_in : Machine → Progress → Parts → List ℕ → List (InSession Deed)
deeds_in c p m nonce =
    if is_executed p m (heard_by c p m nonce) then each_in_session p.number (all_deeds (origin_of m) m.body) else []

abbrev pub made_in : Machine → Progress → Parts → List ℕ → List (InSession Made)
made_in c p m nonce = each_in_session p.number (executed c p m (heard_by c p m nonce)).made

abbrev pub deeds_by : Machine → Option Session → Parts → List ℕ → List (InSession Deed)
deeds_by c None m nonce = []
deeds_by c (Some s) m nonce = if client.takes_message (Some s) m then deeds_in c s.progress m nonce else []

abbrev pub made_by : Machine → Option Session → Parts → List ℕ → List (InSession Made)
made_by c None m nonce = []
made_by c (Some s) m nonce = if client.takes_message (Some s) m then made_in c s.progress m nonce else []

-- ---- what happens

-- the client has an event in which the server's messages play no part
abbrev pub client_has : World → client.Event → World
client_has w e =
    record w { client = client_runs.next w.client e; ups = with_new w.ups (said (client_runs.answer_now w.client e)) }

abbrev pub down_delivered : World → Option Reply → List ℕ → World
down_delivered w None nonce = w
down_delivered w (Some d) nonce =
    record (client_has w (client.message (Ok d.message) nonce)) {
      executed = w.executed ++ deeds_by w.client w.client.session d.message nonce;
      made = w.made ++ made_by w.client w.client.session d.message nonce;
    }

abbrev pub up_delivered : World → Option Parts → List ℕ → World
up_delivered w None nonce = w
up_delivered w (Some m) nonce = record w {
  server = server_runs.next w.server (arrival m nonce);
  downs = with_new w.downs (replied (server_runs.answer_now w.server (arrival m nonce)) m);
}

unfoldable pub happens : World → Happening → World
happens w (opens account kind number) = client_has w (client.opened account kind number)
happens w (up_comes k nonce) = up_delivered w (slice_get w.ups k) nonce
happens w (down_comes k nonce) = down_delivered w (slice_get w.downs k) nonce
happens w (update_ends ok) = client_has w (client.act ok)
happens w (clock_moves stamp) = client_has w (client.clock stamp)
happens w is_lost = client_has w client.loss
happens w finds_no_memory = w

-- a whole schedule
abbrev pub run : World → List Happening → World
run w [] = w
run w (h ∷ hs) = run (happens w h) hs
