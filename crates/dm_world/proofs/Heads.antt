-- The message that an end keeps as the one that it sent last is the newest of all that it sent.
use Rattle.std.proofs.Common.{◌≡◌, ◌==◌, ◌&&◌, ℕ, Bool, true, false, cond, not, List, [], ◌∷◌, Option, None, Some, refl}
use Rattle.std.proofs.Common.{sym, ◌∙◌, ap, subst, nat_lt}
use Rattle.std.specs.Prelude.{Ok, slice_get, is_some}
use Rattle.std.specs.List.{list_any}
use Rattle.syncml_types.specs.Message.{Parts}
use Rattle.dm_tree.specs.declared.nodes.Stamp.{Stamp}
use Rattle.dm_headers.specs.declared.checks.Side.TheVariants.{User}
use Rattle.dm_headers.specs.Checks.{fault_of, is_denied}
use Rattle.dm_headers.specs.Standings.{Heard, hears}
use Rattle.dm_ends.specs.Commands.{is_abort}
use Rattle.dm_job.specs.declared.job.Job.{Job}
use Rattle.dm_machine.specs.declared.kinds.Initiator.{Initiator}
use Rattle.dm_machine.specs.Machine.{Machine, Session as Opened}
use Rattle.dm_machine.specs.Messages.{Outcome, goes_on, ends, begins, accepts, ends_update}
use Rattle.dm_machine.specs.Events as client
use Rattle.dm_machine.specs.History as client_runs
use Rattle.dm_service.specs.Service.{Service, Session as Serving}
use Rattle.dm_service.specs.Packages.{gives_up}
use Rattle.dm_service.specs.Sending.{sends}
use Rattle.dm_service.specs.Messages.{ended, denies, after_status}
use Rattle.dm_service.specs.Messages.{in_session, answers_message, by_header, begins as server_begins, first_session}
use Rattle.dm_service.specs.Messages.{accepts as server_accepts}
use Rattle.dm_service.specs.Events as server
use Rattle.dm_service.specs.History as server_runs
use Rattle.dm_service.specs.Events.{arrival}
use Rattle.dm_world.specs.World.{World, Reply, Happening, opens, up_comes, down_comes, update_ends, clock_moves}
use Rattle.dm_world.specs.World.{is_lost}
use Rattle.dm_world.specs.World.{finds_no_memory, with_new, said, replied, down_delivered, up_delivered}
use Rattle.dm_world.specs.World.{happens, run}
use Rattle.dm_world.specs.Start.{at_start, IsWorldStart}
use Rattle.dm_world.proofs.Lists.{either, both-ways}
use Rattle.dm_world.proofs.Client.{Turned, message-turned}
use Rattle.dm_world.proofs.Happens.{refusal-said, loss-said, refusal-silent}

none-some : {A : Type 0} (o : Option A) (x : A) → o ≡ None → o ≡ Some x → ⊥
none-some o x e f = cc

-- ---- the client

abbrev pub UpFirst : Option Opened → List Parts → Type 0
UpFirst o ups = (s : Opened) → o ≡ Some s → slice_get ups 0 ≡ Some s.sent

abbrev Says : List Parts → Machine → client.Answer → Type 0
Says ups c a = UpFirst c.session (with_new ups (said a))

sent-first : (ups : List Parts) (o : Option Opened) → UpFirst o (with_new ups (said (client.sent_in o)))
sent-first ups None s e = absurd (cc)
sent-first ups (Some t) s e = let same : t ≡ s = cc in ap (λ (x : Opened). Some x.sent) same

unsaid-first : (ups : List Parts) (c : Machine) (a : client.Answer) → said a ≡ None → UpFirst c.session ups
    → Says ups c a
unsaid-first ups c a e h = subst (λ o. UpFirst c.session (with_new ups o)) (sym e) h

outcome-first : (ups : List Parts) (s : Opened) (m : Parts) (b : ℕ) (x : Outcome)
    → Turned s.progress m.header.msg b x
    → Says ups (client.outcome_machine x) (client.outcome_answer x)
outcome-first ups s m b (goes_on c) h = sent-first ups c.session
outcome-first ups s m b (ends c end) h = λ t e. absurd (none-some c.session t h.1 e)

opened-first : (ups : List Parts) (c : Machine) (account : ℕ) (kind : Initiator) (n : ℕ) → UpFirst c.session ups
    → Says ups (client_runs.next c (client.opened account kind n)) (client_runs.answer_now c (client.opened account kind
    n))
unfolding client_runs.next client_runs.answer_now client.takes client.after client.taken_answer client.refusal
opened-first ups c account kind n h =
    both-ways (Says ups) (nat_lt c.begun n) (begins c account kind n) c
    (client.sent_in (begins c account kind n).session) (client.exhausted c.begun)
    (λ t. sent-first ups (begins c account kind n).session) (λ t. h)

act-first : (ups : List Parts) (c : Machine) (ok : Bool) → UpFirst c.session ups
    → Says ups (client_runs.next c (client.act ok)) (client_runs.answer_now c (client.act ok))
unfolding client_runs.next client_runs.answer_now client.after client.taken_answer client.refusal ends_update
act-first ups c ok h =
    both-ways (Says ups) (client.takes c (client.act ok)) (ends_update c ok) c client.acted client.not_now (λ t. h)
    (λ t. h)

clock-first : (ups : List Parts) (c : Machine) (stamp : Stamp) → UpFirst c.session ups
    → Says ups (client_runs.next c (client.clock stamp)) (client_runs.answer_now c (client.clock stamp))
unfolding client_runs.next client_runs.answer_now client.takes client.after client.taken_answer
clock-first ups c stamp h = h

loss-first : (ups : List Parts) (c : Machine) → UpFirst c.session ups
    → Says ups (client_runs.next c client.loss) (client_runs.answer_now c client.loss)
unfolding client_runs.next client_runs.answer_now client.takes client.refusal
loss-first ups c h = unsaid-first ups c (client.loss_answer c.session) (loss-said c.session) h

down-first : (ups : List Parts) (c : Machine) (o : Option Opened) (m : Parts) (nonce : List ℕ) (kept : Option Parts)
    → UpFirst c.session ups
    → Says ups (cond (client.takes_message o m) (client.outcome_machine (client.message_outcome c o m nonce)) c)
    (cond (client.takes_message o m) (client.outcome_answer (client.message_outcome c o m nonce))
    (client.message_refusal o m kept))
down-first ups c None m nonce kept h = h
down-first ups c (Some s) m nonce kept h =
    both-ways (Says ups) (client.takes_message (Some s) m) (client.outcome_machine (accepts c s.progress m nonce)) c
    (client.outcome_answer (accepts c s.progress m nonce)) (client.message_refusal (Some s) m kept)
    (λ t. outcome-first ups s m c.begun (accepts c s.progress m nonce) (message-turned c s.progress m nonce))
    (λ t. unsaid-first ups c (client.message_refusal (Some s) m kept) (refusal-said (Some s) m kept) h)

message-first : (ups : List Parts) (c : Machine) (m : Parts) (nonce : List ℕ) → UpFirst c.session ups
    → Says ups (client_runs.next c (client.message (Ok m) nonce)) (client_runs.answer_now c (client.message (Ok m)
    nonce))
unfolding client_runs.next client_runs.answer_now client.takes client.after client.taken_answer client.refusal
message-first ups c m nonce h = down-first ups c c.session m nonce (client_runs.kept_in c.session) h

-- ---- the server: a message that isn't answered leaves the one that was sent last

abbrev Leaves : Service → Service → Type 0
Leaves v x = server.is_answered x.session ≡ false → x.sent ≡ v.sent

header-leaves : (v w : Service) (s : Serving) (m : Parts) (h : Heard) (nonce : List ℕ) → w.sent ≡ v.sent
    → Leaves v (by_header w s m h nonce)
unfolding denies sends
header-leaves v w s m h nonce e =
    either (Leaves v) (not (is_some (fault_of m)) && list_any is_abort m.body) {x = ended w s}
    {y = cond h.second (denies w s m h.code nonce) (answers_message w s m h.code nonce)} (λ f. e)
    (either (Leaves v) h.second {x = denies w s m h.code nonce} {y = answers_message w s m h.code nonce}
    (λ f. absurd (cc)) (λ f. absurd (cc)))

gives-sent : (v : Service) (s : Serving) → (gives_up v s).sent ≡ v.sent
unfolding gives_up
gives-sent v s = refl

accepts-leaves : (v : Service) (s : Serving) (m : Parts) (nonce : List ℕ) → Leaves v (server_accepts v s m nonce)
unfolding server_accepts
accepts-leaves v s m nonce =
    let h = hears User v.job.account s.progress.standing m nonce in
    let t : Serving = record s { progress = record s.progress { standing = h.standing } } in
    let heard : Service = record v { job = record v.job { account = h.account }; session = Some t } in
    let w = after_status heard t s.progress.standing.we_failed h.status in
    header-leaves v w (in_session w t) m h nonce
    (either (λ (x : Service). x.sent ≡ v.sent) (not s.progress.standing.we_failed && is_denied h.status)
    {x = gives_up heard t} {y = heard} (gives-sent heard t) refl)

opens-leaves : (v : Service) (n : ℕ) (m : Parts) (nonce : List ℕ) → Leaves v (server.opens_session v n m nonce)
opens-leaves v n m nonce = accepts-leaves (server_begins v n) (first_session v.job.account n) m nonce

in-leaves : (v : Service) (o : Option Serving) (n : ℕ) (m : Parts) (nonce : List ℕ)
    → Leaves v (server.after_in_session v o n m nonce)
in-leaves v None n m nonce = opens-leaves v n m nonce
in-leaves v (Some s) n m nonce =
    either (Leaves v) (s.progress.number == n) {x = server_accepts v s m nonce} {y = server.opens_session v n m nonce}
    (accepts-leaves v s m nonce) (opens-leaves v n m nonce)

as-leaves : (v : Service) (o : Option ℕ) (m : Parts) (nonce : List ℕ) → Leaves v (server.after_number v o m nonce)
as-leaves v None m nonce = λ f. refl
as-leaves v (Some n) m nonce = in-leaves v v.session n m nonce

pub record IsFirst (downs : List Reply) (m : Parts) : Type 0 where
  pub reply : Reply
  pub first : slice_get downs 0 ≡ Some reply
  pub message_is : reply.message ≡ m

abbrev pub DownFirst : Option Parts → List Reply → Type 0
DownFirst sent downs = (m : Parts) → sent ≡ Some m → IsFirst downs m

reply-first : (b : Bool) (sent old : Option Parts) (downs : List Reply) (u : Parts) → (b ≡ false → sent ≡ old)
    → DownFirst old downs
    → DownFirst sent (with_new downs (replied (server.sent_or_ended (cond b sent None)) u))
reply-first true None old downs u f h m e = absurd (cc)
reply-first true (Some k) old downs u f h m e =
    record { reply = record { message = k; answers = u }; first = refl; message_is = cc }
reply-first false sent old downs u f h m e = h m (sym (f refl) ∙ e)

serve-first : (v : Service) (downs : List Reply) (u : Parts) (nonce : List ℕ) → DownFirst v.sent downs
    → DownFirst (server_runs.next v (arrival u nonce)).sent
    (with_new downs (replied (server_runs.answer_now v (arrival u nonce)) u))
unfolding server_runs.next server_runs.answer_now server.takes server.after server.taken_answer
serve-first v downs u nonce h =
    let x = server.after_number v (server.number_of u) u nonce in
    both-ways (λ (z : Service) a. DownFirst z.sent (with_new downs (replied a u))) (server.takes_message v u) x v
    (server.sent_or_ended (server.reply_of x)) (server.refusal v (arrival u nonce) (server.reply_of v))
    (λ t. reply-first (server.is_answered x.session) x.sent v.sent downs u (as-leaves v (server.number_of u) u nonce) h)
    (λ t. subst (λ o. DownFirst v.sent (with_new downs o)) (sym (refusal-silent v u nonce (server.reply_of v))) h)

-- ---- the world

pub record Heads (w : World) : Type 0 where
  pub up : UpFirst w.client.session w.ups
  pub down : DownFirst w.server.sent w.downs

down-heads : (w : World) (o : Option Reply) (nonce : List ℕ) → Heads w → Heads (down_delivered w o nonce)
down-heads w None nonce h = h
down-heads w (Some d) nonce h = record { up = message-first w.ups w.client d.message nonce h.up; down = h.down }

up-heads : (w : World) (o : Option Parts) (nonce : List ℕ) → Heads w → Heads (up_delivered w o nonce)
up-heads w None nonce h = h
up-heads w (Some u) nonce h = record { up = h.up; down = serve-first w.server w.downs u nonce h.down }

happens-heads : (w : World) (e : Happening) → Heads w → Heads (happens w e)
unfolding happens
happens-heads w (opens account kind n) h =
    record { up = opened-first w.ups w.client account kind n h.up; down = h.down }
happens-heads w (up_comes k nonce) h = up-heads w (slice_get w.ups k) nonce h
happens-heads w (down_comes k nonce) h = down-heads w (slice_get w.downs k) nonce h
happens-heads w (update_ends ok) h = record { up = act-first w.ups w.client ok h.up; down = h.down }
happens-heads w (clock_moves stamp) h = record { up = clock-first w.ups w.client stamp h.up; down = h.down }
happens-heads w is_lost h = record { up = loss-first w.ups w.client h.up; down = h.down }
happens-heads w finds_no_memory h = h

run-heads : (w : World) (es : List Happening) → Heads w → Heads (run w es)
run-heads w [] h = h
run-heads w (e ∷ es) h = run-heads (happens w e) es (happens-heads w e h)

pub all-heads : (c : Machine) (job : Job) (hs : List Happening) → IsWorldStart c job → Heads (run (at_start c job) hs)
all-heads c job hs start =
    run-heads (at_start c job) hs
    (record { up = λ s e. absurd (none-some c.session s start.unused.1 e); down = λ m e. absurd (cc) })
