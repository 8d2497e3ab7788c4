-- What both ends' numbers have of each other holds after every schedule.
use Rattle.std.proofs.Common.{◌≡◌, ◌<◌, ◌+◌, ◌==◌, ◌&&◌, ◌^◌, ℕ, Bool, true, false, cond, not, List, [], ◌∷◌}
use Rattle.std.proofs.Common.{Option, None, Some, refl, sym, ◌∙◌, ap, subst, arith, ◌⊎◌, inl, inr, nat_lt}
use Rattle.std.specs.Prelude.{Ok, slice_get}
use Rattle.syncml_types.specs.Message.{Parts}
use Rattle.dm_tree.specs.declared.nodes.Stamp.{Stamp}
use Rattle.dm_ends.specs.Commands.{session_of, is_same_number}
use Rattle.dm_job.specs.declared.job.Job.{Job}
use Rattle.dm_machine.specs.declared.kinds.Initiator.{Initiator}
use Rattle.dm_machine.specs.Machine.{Machine, Session as Opened}
use Rattle.dm_machine.specs.Messages.{Outcome, goes_on, ends, begins, accepts, ends_update}
use Rattle.dm_machine.specs.Sending.{sends}
use Rattle.dm_machine.specs.Events as client
use Rattle.dm_machine.specs.History as client_runs
use Rattle.dm_service.specs.Service.{Service, Session as Serving}
use Rattle.dm_service.specs.Messages as serving
use Rattle.dm_service.specs.Events as server
use Rattle.dm_service.specs.History as server_runs
use Rattle.dm_service.specs.Events.{arrival}
use Rattle.dm_world.specs.World.{World, Reply, Happening, opens, up_comes, down_comes, update_ends, clock_moves}
use Rattle.dm_world.specs.World.{is_lost, finds_no_memory, with_new, said, replied, down_delivered}
use Rattle.dm_world.specs.World.{up_delivered, happens, run}
use Rattle.dm_world.specs.Start.{at_start, IsWorldStart, IsInRange, IsSchedule}
use Rattle.dm_world.proofs.Lists.{either, both-ways, and-left, and-right, Each, each-within, StandsIn, picked}
use Rattle.dm_world.proofs.Numbers.{session_number, IsRead, Order, order, lt-of, eq-of, same-tests}
use Rattle.dm_world.proofs.Client.{OpenAs, Begun, Turns, Turned, begins-begun, message-turned}
use Rattle.dm_world.proofs.Server.{Served, ServedAs, accepts-served}
use Rattle.dm_world.proofs.Lockstep.{UpOk, DownOk, Holds, ServerOk, Before, NextOk, next-is, begun-holds, turned-holds}
use Rattle.dm_world.proofs.Lockstep.{ended-holds, over-holds, sent-holds, is-next-up}

-- ---- the client

-- what holds after the client's machine did something and said something
abbrev pub Then : Option Serving → List Reply → List Parts → Machine → client.Answer → Type 0
Then v downs ups c a = Holds c.begun c.session v downs (with_new ups (said a))

unsaid : (v : Option Serving) (downs : List Reply) (ups : List Parts) (c : Machine) (a : client.Answer)
    → said a ≡ None
    → Holds c.begun c.session v downs ups
    → Then v downs ups c a
unsaid v downs ups c a e h = rw e h

opened : (b n : ℕ) (v : Option Serving) (downs : List Reply) (ups : List Parts) (o' o : Option Opened)
    → Holds b o' v downs ups → b < n → n < 2 ^ 32
    → OpenAs (Begun n) o
    → Holds n o v downs (with_new ups (said (client.sent_in o)))
opened b n v downs ups o' None h l k g = absurd g
opened b n v downs ups o' (Some t) h l k g = begun-holds b o' v downs ups n t t.sent h l k g g.sent

begins-number : (c : Machine) (account : ℕ) (kind : Initiator) (n : ℕ) → (begins c account kind n).begun ≡ n
unfolding begins sends
begins-number c account kind n = refl

begins-then : (c : Machine) (v : Option Serving) (downs : List Reply) (ups : List Parts) (account : ℕ) (kind : Initiator)
    (n : ℕ)
    → n < 2 ^ 32
    → Holds c.begun c.session v downs ups
    → Then v downs ups (client_runs.next c (client.opened account kind n))
    (client_runs.answer_now c (client.opened account kind n))
unfolding client_runs.next client_runs.answer_now client.takes client.after client.taken_answer client.refusal
begins-then c v downs ups account kind n max h =
    both-ways (Then v downs ups) (nat_lt c.begun n) (begins c account kind n) c
    (client.sent_in (begins c account kind n).session) (client.exhausted c.begun)
    (λ t. subst (λ b. Holds b (begins c account kind n).session v downs
    (with_new ups (said (client.sent_in (begins c account kind n).session))))
    (sym (begins-number c account kind n))
    (opened c.begun n v downs ups c.session (begins c account kind n).session h (lt-of c.begun n t) max
    (begins-begun c account kind n)))
    (λ t. h)

turned : (b : ℕ) (s : Opened) (v : Option Serving) (downs : List Reply) (ups : List Parts) (d : Reply)
    (o : Option Opened)
    → Holds b (Some s) v downs ups → NextOk b s v d
    → OpenAs (Turns s.progress d.message.header.msg) o
    → Holds b o v downs (with_new ups (said (client.sent_in o)))
turned b s v downs ups d None h x g = absurd g
turned b s v downs ups d (Some t) h x g = turned-holds b s t v downs ups d t.sent h x g g.sent

outcome-then : (b : ℕ) (s : Opened) (v : Option Serving) (downs : List Reply) (ups : List Parts) (d : Reply)
    (x : Outcome)
    → Holds b (Some s) v downs ups → NextOk b s v d
    → Turned s.progress d.message.header.msg b x
    → Then v downs ups (client.outcome_machine x) (client.outcome_answer x)
outcome-then b s v downs ups d (goes_on c) h x g =
    subst (λ i. Holds i c.session v downs (with_new ups (said (client.sent_in c.session)))) (sym g.0)
    (turned b s v downs ups d c.session h x g.1)
outcome-then b s v downs ups d (ends c e) h x g =
    subst (λ i. Holds i c.session v downs (with_new ups (said (client.ended e c.farewell)))) (sym g.0)
    (subst (λ i. Holds b i v downs (with_new ups (said (client.ended e c.farewell)))) (sym g.1)
    (ended-holds b s v downs ups d (said (client.ended e c.farewell)) h x g.2))

repeat-said : (s : Opened) (first : Option Parts) → said (client.repeat_answer s first) ≡ None
repeat-said s None = refl
repeat-said s (Some m) = refl

pub refusal-said : (o : Option Opened) (m : Parts) (first : Option Parts)
    → said (client.message_refusal o m first) ≡ None
refusal-said None m first = refl
refusal-said (Some s) m first =
    either (λ a. said a ≡ None) (not (client.is_of s m)) refl
    (either (λ a. said a ≡ None) (client.last_of s == m.header.msg) (repeat-said s first) refl)

-- a text says one number
number-said : (o : Option ℕ) (n : ℕ) → is_same_number o n ≡ true → o ≡ Some n
number-said None n h = cc
number-said (Some k) n h = ap Some (eq-of k n h)

some-same : (a b : ℕ) → ◌≡◌ {A = Option ℕ} (Some a) (Some b) → a ≡ b
some-same a b h = cc

down-read : (v : Option Serving) (ups : List Parts) (d : Reply) → DownOk v ups d → IsRead d.message
down-read None ups d h = absurd h
down-read (Some y) ups d h = h.read

pub taken-next : (b : ℕ) (s : Opened) (v : Option Serving) (downs : List Reply) (ups : List Parts) (d : Reply)
    → Holds b (Some s) v downs ups
    → StandsIn d downs
    → client.takes_message (Some s) d.message ≡ true
    → NextOk b s v d
taken-next b s v downs ups d h w t =
    let mine = and-left (client.is_of s d.message) (nat_lt (client.last_of s) d.message.header.msg) t in
    let above = and-right (client.is_of s d.message) (nat_lt (client.last_of s) d.message.header.msg) t in
    let told = number-said (session_of d.message) s.progress.number mine in
    let read = down-read v ups d (each-within (DownOk v ups) downs d h.downs_ok w) in
    next-is b s v downs ups d h w (some-same (session_number d.message) s.progress.number (sym read.told ∙ told))
    (lt-of (client.last_of s) d.message.header.msg above)

down-then : (c : Machine) (o : Option Opened) (v : Option Serving) (downs : List Reply) (ups : List Parts) (d : Reply)
    (nonce : List ℕ) (kept : Option Parts)
    → c.session ≡ o
    → Holds c.begun o v downs ups
    → StandsIn d downs
    → Then v downs ups
    (cond (client.takes_message o d.message) (client.outcome_machine (client.message_outcome c o d.message nonce)) c)
    (cond (client.takes_message o d.message) (client.outcome_answer (client.message_outcome c o d.message nonce))
    (client.message_refusal o d.message kept))
down-then c None v downs ups d nonce kept e h w = subst (λ (o : Option Opened). Holds c.begun o v downs ups) (sym e) h
down-then c (Some s) v downs ups d nonce kept e h w =
    let x = accepts c s.progress d.message nonce in
    both-ways (Then v downs ups) (client.takes_message (Some s) d.message) (client.outcome_machine x) c
    (client.outcome_answer x) (client.message_refusal (Some s) d.message kept)
    (λ t. outcome-then c.begun s v downs ups d x h (taken-next c.begun s v downs ups d h w t)
    (message-turned c s.progress d.message nonce))
    (λ t. unsaid v downs ups c (client.message_refusal (Some s) d.message kept) (refusal-said (Some s) d.message kept)
    (subst (λ (o : Option Opened). Holds c.begun o v downs ups) (sym e) h))

pub message-then : (c : Machine) (v : Option Serving) (downs : List Reply) (ups : List Parts) (d : Reply)
    (nonce : List ℕ)
    → Holds c.begun c.session v downs ups
    → StandsIn d downs
    → Then v downs ups (client_runs.next c (client.message (Ok d.message) nonce))
    (client_runs.answer_now c (client.message (Ok d.message) nonce))
unfolding client_runs.next client_runs.answer_now client.takes client.after client.taken_answer client.refusal
message-then c v downs ups d nonce h w =
    down-then c c.session v downs ups d nonce (client_runs.kept_in c.session) refl h w

-- events that leave the session
act-then : (c : Machine) (v : Option Serving) (downs : List Reply) (ups : List Parts) (ok : Bool)
    → Holds c.begun c.session v downs ups
    → Then v downs ups (client_runs.next c (client.act ok)) (client_runs.answer_now c (client.act ok))
unfolding client_runs.next client_runs.answer_now client.after client.taken_answer client.refusal ends_update
act-then c v downs ups ok h =
    let e = client.act ok in
    both-ways (Then v downs ups) (client.takes c e) (ends_update c ok) c client.acted client.not_now (λ t. h) (λ t. h)

clock-then : (c : Machine) (v : Option Serving) (downs : List Reply) (ups : List Parts) (stamp : Stamp)
    → Holds c.begun c.session v downs ups
    → Then v downs ups (client_runs.next c (client.clock stamp)) (client_runs.answer_now c (client.clock stamp))
unfolding client_runs.next client_runs.answer_now client.takes client.after client.taken_answer
clock-then c v downs ups stamp h = h

pub loss-said : (o : Option Opened) → said (client.loss_answer o) ≡ None
loss-said None = refl
loss-said (Some s) = refl

loss-then : (c : Machine) (v : Option Serving) (downs : List Reply) (ups : List Parts)
    → Holds c.begun c.session v downs ups
    → Then v downs ups (client_runs.next c client.loss) (client_runs.answer_now c client.loss)
unfolding client_runs.next client_runs.answer_now client.takes client.refusal
loss-then c v downs ups h = unsaid v downs ups c (client.loss_answer c.session) (loss-said c.session) h

-- ---- the server

-- the service and the session that a message was accepted in: a new session was begun, or not
abbrev pub IsBase : Service → ℕ → Service → Serving → Type 0
IsBase v n base from =
    ((base ≡ v) × (v.session ≡ Some from)) ⊎
    ((base ≡ serving.begins v n) × (from ≡ serving.first_session v.job.account n))

-- the message is accepted
pub record TakenUp (v : Service) (o : Option Serving) (n : ℕ) (u : Parts) (nonce : List ℕ) (x : Service) : Type 0 where
  pub base : Service
  pub from : Serving
  pub own : ℕ
  pub before : Before o n own
  pub later : own < u.header.msg
  pub number : from.progress.number ≡ n
  pub own_is : from.progress.standing.own ≡ own
  pub is : x ≡ serving.accepts base from u nonce
  pub base_is : IsBase v n base from

opens-turn : (v : Service) (o : Option Serving) (n : ℕ) (u : Parts) (nonce : List ℕ) → Before o n 0
    → 0 < u.header.msg
    → TakenUp v o n u nonce (server.opens_session v n u nonce)
opens-turn v o n u nonce b l = record {
  base = serving.begins v n;
  from = serving.first_session v.job.account n;
  own = 0;
  before = b;
  later = l;
  number = refl;
  own_is = refl;
  is = refl;
  base_is = inr (refl, refl);
}

same-turn : (v : Service) (y : Serving) (n : ℕ) (u : Parts) (nonce : List ℕ) → v.session ≡ Some y
    → y.progress.number ≡ n
    → y.progress.is_over ≡ false
    → y.progress.standing.own ≡ y.progress.standing.last
    → y.progress.standing.last < u.header.msg
    → TakenUp v (Some y) n u nonce (serving.accepts v y u nonce)
same-turn v y n u nonce s e still even l = record {
  base = v;
  from = y;
  own = y.progress.standing.own;
  before = inr (e, refl, even, still);
  later = omega (arith, even, l);
  number = e;
  own_is = refl;
  is = refl;
  base_is = inl (refl, s);
}

not-true : (b : Bool) → not b ≡ true → b ≡ false
not-true true h = cc
not-true false h = refl

session-turn : (v : Service) (y : Serving) (n : ℕ) (u : Parts) (nonce : List ℕ) → v.session ≡ Some y
    → (y.progress.is_over ≡ false → y.progress.standing.own ≡ y.progress.standing.last) → 0 < u.header.msg
    → Order n y.progress.number
    → server.takes_in (Some y) n u ≡ true
    → TakenUp v (Some y) n u nonce (server.after_in_session v (Some y) n u nonce)
session-turn v y n u nonce s even l (inl h) t = absurd (none t)
  where
    none : server.takes_in (Some y) n u ≡ true → ⊥
    none t = let k = rw (h.no, h.apart') at t in cc
session-turn v y n u nonce s even l (inr (inl h)) t =
    let e = same-tests n y.progress.number h in
    let k : (nat_lt y.progress.standing.last u.header.msg && not y.progress.is_over) ≡ true = rw (e.1, e.3) at t in
    let still = not-true y.progress.is_over (and-right (nat_lt y.progress.standing.last u.header.msg) _ k) in
    rw e.3 (same-turn v y n u nonce s (sym h) still (even still) (lt-of _ _ (and-left _ (not y.progress.is_over) k)))
session-turn v y n u nonce s even l (inr (inr h)) t =
    rw h.apart (opens-turn v (Some y) n u nonce (inl (h.lt, refl)) l)

pub taken-turn : (b : ℕ) (v : Service) (o : Option Serving) (n : ℕ) (u : Parts) (nonce : List ℕ) → v.session ≡ o
    → ServerOk b o → 0 < u.header.msg
    → server.takes_in o n u ≡ true
    → TakenUp v o n u nonce (server.after_in_session v o n u nonce)
taken-turn b v None n u nonce s ok l t = opens-turn v None n u nonce refl l
taken-turn b v (Some y) n u nonce s ok l t = session-turn v y n u nonce s ok.even l (order n y.progress.number) t

-- ---- the server's part of the world

abbrev pub Answered : ℕ → Option Opened → List Reply → List Parts → Parts → Service → server.Answer → Type 0
Answered b o downs ups u x a = Holds b o x.session (with_new downs (replied a u)) ups

answered-by : (b : ℕ) (o : Option Opened) (v : Option Serving) (downs : List Reply) (ups : List Parts) (u : Parts)
    (own : ℕ) (sent : Option Parts) (t : Option Serving)
    → Holds b o v downs ups → UpOk b v u
    → StandsIn u ups
    → Before v (session_number u) own
    → u.header.msg ≡ own + 1
    → ServedAs (session_number u) u.header.msg own sent t
    → Holds b o t (with_new downs (replied (server.sent_or_ended (cond (server.is_answered t) sent None)) u)) ups
answered-by b o v downs ups u own sent None h f w bf e s = absurd s
answered-by b o v downs ups u own None (Some t) h f w bf e (inl s) = absurd s.2
answered-by b o v downs ups u own (Some m) (Some t) h f w bf e (inl s) =
    subst
    (λ c. Holds b o (Some t) (with_new downs (replied (server.sent_or_ended (cond c (Some m) None)) u)) ups)
    (sym s.1)
    (sent-holds b o v downs ups own t u m h
    (record {
      fine = f;
      within = w;
      before = bf;
      next = e;
      number = s.0.number;
      last = s.0.last_is;
      own_is = s.0.own_is;
      low = omega arith;
      high = omega arith;
      even = λ _. refl;
    }) s.2)
answered-by b o v downs ups u own sent (Some t) h f w bf e (inr s) =
    subst
    (λ c. Holds b o (Some t) (with_new downs (replied (server.sent_or_ended (cond c sent None)) u)) ups) (sym s.1)
    (over-holds b o v downs ups own t u h
    (record {
      fine = f;
      within = w;
      before = bf;
      next = e;
      number = s.0.number;
      last = s.0.last_is;
      own_is = s.0.own_is;
      low = omega arith;
      high = omega arith;
      even = λ i. absurd (let j = s.2 in cc);
    }))

-- a message that isn't taken is answered by none that is new
or-ended-silent : (first : Option Parts) (u : Parts) → replied (server.kept_or_ended first) u ≡ None
or-ended-silent None u = refl
or-ended-silent (Some m) u = refl

old-silent : (s : Serving) (n : ℕ) (u : Parts) (first : Option Parts)
    → replied (server.old_message s n u first) u ≡ None
old-silent s n u first =
    either (λ a. replied a u ≡ None) (nat_lt n s.progress.number) refl
    (either (λ a. replied a u ≡ None) (nat_lt u.header.msg (server.last_of s)) refl
    (either (λ a. replied a u ≡ None) (u.header.msg == server.last_of s) (or-ended-silent first u) refl))

number-silent : (v : Service) (o : Option ℕ) (p : Option Serving) (u : Parts) (first : Option Parts) → v.session ≡ p
    → replied (server.number_refusal v o u first) u ≡ None
number-silent v None p u first e = refl
number-silent v (Some n) p u first e = rw e (in-silent p)
  where
    in-silent : (p : Option Serving) → replied (server.old_in p n u first) u ≡ None
    in-silent None = refl
    in-silent (Some s) = old-silent s n u first

pub refusal-silent : (v : Service) (u : Parts) (nonce : List ℕ) (first : Option Parts)
    → replied (server.refusal v (arrival u nonce) first) u ≡ None
unfolding server.refusal
refusal-silent v u nonce first = number-silent v (server.number_of u) v.session u first refl

pub served-by : (b : ℕ) (o : Option Opened) (v : Service) (downs : List Reply) (ups : List Parts) (u : Parts)
    (nonce : List ℕ) (x : Service)
    → Holds b o v.session downs ups → UpOk b v.session u
    → StandsIn u ups
    → TakenUp v v.session (session_number u) u nonce x
    → Answered b o downs ups u x (server.sent_or_ended (server.reply_of x))
served-by b o v downs ups u nonce x h f w t =
    let own : u.header.msg ≡ t.own + 1 =
    is-next-up v.session (session_number u) t.own u.header.msg t.before f.bound t.later in
    let served = accepts-served t.base t.from u nonce in
    let y = serving.accepts t.base t.from u nonce in
    let at : Served (session_number u) u.header.msg t.own y =
    subst (λ i. Served i u.header.msg t.own y) t.number
    (subst (λ k. Served t.from.progress.number u.header.msg k y) t.own_is served) in
    subst (λ z. Answered b o downs ups u z (server.sent_or_ended (server.reply_of z))) (sym t.is)
    (answered-by b o v.session downs ups u t.own y.sent y.session h f w t.before own at)

pub serve-then : (b : ℕ) (o : Option Opened) (v : Service) (downs : List Reply) (ups : List Parts) (u : Parts)
    (nonce : List ℕ)
    → Holds b o v.session downs ups
    → StandsIn u ups
    → Answered b o downs ups u (server_runs.next v (arrival u nonce)) (server_runs.answer_now v (arrival u nonce))
unfolding server_runs.next server_runs.answer_now server.takes server.after server.taken_answer
serve-then b o v downs ups u nonce h w =
    let f = each-within (UpOk b v.session) ups u h.ups_ok w in
    let n = session_number u in
    let read : server.number_of u ≡ Some n = f.read.counted in
    subst
    (λ i. Answered b o downs ups u
    (cond (server.takes_number v.session i u) (server.after_number v i u nonce) v)
    (cond (server.takes_number v.session i u)
    (server.sent_or_ended (server.reply_of (server.after_number v i u nonce)))
    (server.refusal v (arrival u nonce) (server.reply_of v))))
    (sym read)
    (both-ways (Answered b o downs ups u) (server.takes_in v.session n u)
    (server.after_in_session v v.session n u nonce) v
    (server.sent_or_ended (server.reply_of (server.after_in_session v v.session n u nonce)))
    (server.refusal v (arrival u nonce) (server.reply_of v))
    (λ t. served-by b o v downs ups u nonce (server.after_in_session v v.session n u nonce) h f w
    (taken-turn b v v.session n u nonce refl h.server_ok f.first t))
    (λ t. left-as b o v downs ups u nonce h))
  where
    left-as : (b : ℕ) (o : Option Opened) (v : Service) (downs : List Reply) (ups : List Parts) (u : Parts)
        (nonce : List ℕ)
        → Holds b o v.session downs ups
        → Answered b o downs ups u v (server.refusal v (arrival u nonce) (server.reply_of v))
    left-as b o v downs ups u nonce h = rw (refusal-silent v u nonce (server.reply_of v)) h

-- ---- the world

abbrev pub Sound : World → Type 0
Sound w = Holds w.client.begun w.client.session w.server.session w.downs w.ups

up-sound : (w : World) (u : Option Parts) (k : ℕ) (nonce : List ℕ) → slice_get w.ups k ≡ u → Sound w
    → Sound (up_delivered w u nonce)
up-sound w None k nonce e h = h
up-sound w (Some u) k nonce e h =
    serve-then w.client.begun w.client.session w.server w.downs w.ups u nonce h (picked w.ups k u e)

down-sound : (w : World) (d : Option Reply) (k : ℕ) (nonce : List ℕ) → slice_get w.downs k ≡ d → Sound w
    → Sound (down_delivered w d nonce)
down-sound w None k nonce e h = h
down-sound w (Some d) k nonce e h =
    message-then w.client w.server.session w.downs w.ups d nonce h (picked w.downs k d e)

-- numbers of sessions are of 32 bits
abbrev pub InRange : Happening → Type 0
InRange (opens account kind number) = number < 2 ^ 32
InRange other = Unit {0}

pub happens-sound : (w : World) (e : Happening) → InRange e → Sound w → Sound (happens w e)
unfolding happens
happens-sound w (opens account kind n) r h =
    begins-then w.client w.server.session w.downs w.ups account kind n r h
happens-sound w (up_comes k nonce) r h = up-sound w (slice_get w.ups k) k nonce refl h
happens-sound w (down_comes k nonce) r h = down-sound w (slice_get w.downs k) k nonce refl h
happens-sound w (update_ends ok) r h = act-then w.client w.server.session w.downs w.ups ok h
happens-sound w (clock_moves stamp) r h = clock-then w.client w.server.session w.downs w.ups stamp h
happens-sound w is_lost r h = loss-then w.client w.server.session w.downs w.ups h
happens-sound w finds_no_memory r h = h

pub run-sound : (w : World) (es : List Happening) → Each InRange es → Sound w → Sound (run w es)
run-sound w [] r h = h
run-sound w (e ∷ es) r h = run-sound (happens w e) es r.1 (happens-sound w e r.0 h)

pub start-sound : (c : Machine) (job : Job) → IsWorldStart c job → Sound (at_start c job)
start-sound c job h =
    let begun = h.unused.0 in
    let session = h.unused.1 in
    rw (session, begun)
    (record {
      limit = omega arith;
      client_ok = tt;
      server_ok = tt;
      pair_ok = tt;
      downs_ok = tt;
      ups_ok = tt;
      downs_fall = tt;
      ups_fall = tt;
    })

in-range : (c : Machine) (e : Happening) → IsInRange c e → InRange e
in-range c (opens account kind n) h = h.1
in-range c (up_comes k nonce) h = tt
in-range c (down_comes k nonce) h = tt
in-range c (update_ends ok) h = tt
in-range c (clock_moves stamp) h = tt
in-range c is_lost h = tt
in-range c finds_no_memory h = tt

pub schedule-range : (c : Machine) (es : List Happening) → IsSchedule c es → Each InRange es
schedule-range c [] h = tt
schedule-range c (e ∷ es) h = (in-range c e h.0, schedule-range c es h.1)
