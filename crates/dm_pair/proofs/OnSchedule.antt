-- Whatever events come to both ends, a schedule brings the world to what they make of them.
use Rattle.std.proofs.Common.{zero, suc, ◌≡◌, ◌<◌, ◌≤◌, ◌+◌, ◌-◌, ◌^◌, ℕ, Bool, true, false, List, [], ◌∷◌, ◌++◌}
use Rattle.std.proofs.Common.{length}
use Rattle.std.specs.Prelude.{◌/◌, ◌%◌}
use Rattle.std.proofs.Common.{get_or, Option, None, Some, refl, sym, ◌∙◌, ap, subst, arith, nat_lt}
use Rattle.std.specs.Prelude.{Ok, Err, Result, slice_get, option_map}
use Rattle.dm_base.specs.declared.lines.LineReason.{LineReason}
use Rattle.dm_auth.specs.declared.accounts.Account.{Account}
use Rattle.dm_replay.specs.Trace.{servers_of}
use Rattle.std.specs.Int.{byte_at, bytes_high_first}
use Rattle.std.proofs.lemmas.List.{append-nil, length-append}
use Rattle.std.proofs.lemmas.Bool.Decides.{nat_tests}
use Rattle.syncml_types.specs.Message.{Parts}
use Rattle.syncml_types.specs.Canonical.{canonical}
use Rattle.dm_job.specs.declared.job.Job.{Job}
use Rattle.dm_machine.specs.declared.kinds.End.TheVariants.{Finished, Aborted, Denied}
use Rattle.dm_machine.specs.Machine.{Machine, Session}
use Rattle.dm_machine.specs.Events as client
use Rattle.dm_machine.specs.History as client_runs
use Rattle.dm_service.specs.Service.{Service}
use Rattle.dm_service.specs.Events as server
use Rattle.dm_service.specs.History as server_runs
use Rattle.dm_service.specs.Events.{arrival}
use Rattle.dm_world.specs.World.{Reply, World, Happening, opens, up_comes, down_comes, update_ends, is_lost, with_new}
use Rattle.dm_world.specs.World.{said, replied, client_has, down_delivered, up_delivered, happens, run}
use Rattle.dm_world.specs.Start.{at_start, IsWorldStart, IsNonce, IsInRange}
use Rattle.dm_world.proofs.Ranges.{all-append}
use Rattle.dm_world.proofs.ReadAgain.{reads_the_sent}
use Rattle.dm_world.proofs.ToldMade.{run-snoc}
use Rattle.dm_world.proofs.Heads.{all-heads}
use Rattle.dm_pair.specs.declared.events.PairEvent.{PairEvent}
use Rattle.dm_pair.specs.declared.events.PairEvent.TheVariants as event
use Rattle.dm_pair.specs.Events.{IsPairEvent}
use Rattle.dm_pair.specs.Pairing.{Pairing, Round, Step, sent_up, sent_down, to_client, to_server, nonce_of}
use Rattle.dm_pair.specs.Pairing.{delivery_counted}
use Rattle.dm_pair.specs.Pairing.{comes_up, comes_down, half_down, round_up, round}
use Rattle.dm_pair.specs.Pairing.{behind_round, rounds, step_of}
use Rattle.dm_pair.specs.Events.{pair_event_of}
use Rattle.dm_pair.specs.Texts.{happening, over, said_turn, event_turn, text_turn}
use Rattle.dm_pair.specs.Schedules.{in_bytes, itself, reply_message, IsWorld, first_pairing, brought_by, brought}
use Rattle.dm_pair.specs.Schedules.{HasEnds, OnSchedule, RunsOnSchedules}
use Rattle.dm_pair.proofs.EventLines.{IsNumber, event-is}

-- ---- what stands at a place, from the other end

get-left : (l r : List (List ℕ)) (i : ℕ) → i < length l → get_or (l ++ r) i [] ≡ get_or l i []
get-left [] r i h = absurd (omega (arith, h))
get-left (x ∷ xs) r zero h = refl
get-left (x ∷ xs) r (suc i) h = get-left xs r i (omega (arith, h))

get-last : (l : List (List ℕ)) (y : List ℕ) (i : ℕ) → i ≡ length l → get_or (l ++ y ∷ []) i [] ≡ y
get-last [] y zero h = refl
get-last [] y (suc i) h = absurd (omega (arith, h))
get-last (x ∷ xs) y zero h = absurd (omega (arith, h))
get-last (x ∷ xs) y (suc i) h = get-last xs y i (omega (arith, h))

record IsThere (A : Type 0) (message : A → Parts) (xs : List A) (i : ℕ) : Type 0 where
  place : ℕ
  what : A
  at : slice_get xs place ≡ Some what
  bytes : get_or (in_bytes message xs) i [] ≡ canonical (message what)

lt-yes : (a b : ℕ) → nat_lt a b ≡ true → a < b
lt-yes a b h = grind (arith, nat_tests)

lt-no : (a b : ℕ) → nat_lt a b ≡ false → b ≤ a
lt-no a b h = grind (arith, nat_tests)

there : (A : Type 0) (message : A → Parts) (xs : List A) (i : ℕ) → i < length (in_bytes message xs)
    → IsThere A message xs i
there A message [] i h = absurd (omega (arith, h))
there A message (x ∷ xs) i h =
    by (nat_lt i (length (in_bytes message xs))) refl (λ l. there A message xs i l)
  where
    by : (b : Bool) → nat_lt i (length (in_bytes message xs)) ≡ b
        → (i < length (in_bytes message xs) → IsThere A message xs i)
        → IsThere A message (x ∷ xs) i
    by true e f =
        let l = lt-yes i (length (in_bytes message xs)) e in
        let t = f l in
        record {
          place = suc t.place;
          what = t.what;
          at = t.at;
          bytes = get-left (in_bytes message xs) (canonical (message x) ∷ []) i l ∙ t.bytes;
        }
    by false e f =
        let l = lt-no i (length (in_bytes message xs)) e in
        let long = length-append (in_bytes message xs) (canonical (message x) ∷ []) in
        record {
          place = 0;
          what = x;
          at = refl;
          bytes = get-last (in_bytes message xs) (canonical (message x)) i (omega (arith, h, l, long));
        }

-- ---- what an answer sends

sent-up : (ups : List Parts) (a : client.Answer)
    → in_bytes itself (with_new ups (said a)) ≡ in_bytes itself ups ++ sent_up a
sent-up ups client.clocked = sym (append-nil _)
sent-up ups (client.sent m) = refl
sent-up ups (client.kept m) = sym (append-nil _)
sent-up ups (client.again m) = sym (append-nil _)
sent-up ups (client.stale last) = sym (append-nil _)
sent-up ups client.stranger = sym (append-nil _)
sent-up ups client.no_session = sym (append-nil _)
sent-up ups (client.refused refusal) = sym (append-nil _)
sent-up ups (client.exhausted last) = sym (append-nil _)
sent-up ups (client.ended Finished m) = sym (append-nil _)
sent-up ups (client.ended Aborted m) = sym (append-nil _)
sent-up ups (client.ended Denied None) = sym (append-nil _)
sent-up ups (client.ended Denied (Some m)) = refl
sent-up ups client.acted = sym (append-nil _)
sent-up ups client.not_now = sym (append-nil _)

sent-down : (downs : List Reply) (a : server.Answer) (m : Parts)
    → in_bytes reply_message (with_new downs (replied a m)) ≡ in_bytes reply_message downs ++ sent_down a
sent-down downs (server.sent x) m = refl
sent-down downs (server.kept x) m = sym (append-nil _)
sent-down downs server.stale m = sym (append-nil _)
sent-down downs server.stranger m = sym (append-nil _)
sent-down downs (server.refused refusal) m = sym (append-nil _)
sent-down downs server.ended m = sym (append-nil _)

-- ---- one happening

client-world : (p : Pairing) (w : World) (e : client.Event) → IsWorld p w → IsWorld (to_client p e) (client_has w e)
client-world p w e h = record {
  client = ap (λ c. client_runs.next c e) h.client;
  server = h.server;
  ups = ap (λ c. p.ups ++ sent_up (client_runs.answer_now c e)) h.client
      ∙ ap (λ l. l ++ sent_up (client_runs.answer_now w.client e)) h.ups
      ∙ sym (sent-up w.ups (client_runs.answer_now w.client e));
  downs = h.downs;
}

server-world : (p : Pairing) (w : World) (m : Parts) (nonce : List ℕ) → IsWorld p w
    → IsWorld (delivery_counted (to_server p (arrival m nonce))) (up_delivered w (Some m) nonce)
server-world p w m nonce h = record {
  client = h.client;
  server = ap (λ v. server_runs.next v (arrival m nonce)) h.server;
  ups = h.ups;
  downs = ap (λ v. p.downs ++ sent_down (server_runs.answer_now v (arrival m nonce))) h.server
      ∙ ap (λ l. l ++ sent_down (server_runs.answer_now w.server (arrival m nonce))) h.downs
      ∙ sym (sent-down w.downs (server_runs.answer_now w.server (arrival m nonce)) m);
}

down-world : (p : Pairing) (w : World) (d : Reply) (nonce : List ℕ) → IsWorld p w
    → IsWorld (delivery_counted (to_client p (client.message (Ok d.message) nonce))) (down_delivered w (Some d) nonce)
down-world p w d nonce h =
    let x = client-world p w (client.message (Ok d.message) nonce) h in
    record { client = x.client; server = x.server; ups = x.ups; downs = x.downs }

one-more : (c : Machine) (job : Job) (p q : Pairing) (o : OnSchedule c job p) (h : Happening) → IsInRange c h
    → IsWorld q (happens (run (at_start c job) o.schedule) h)
    → OnSchedule c job q
one-more c job p q o h r x = record {
  schedule = o.schedule ++ h ∷ [];
  is_schedule = all-append (IsInRange c) o.schedule (h ∷ []) o.is_schedule (r, tt);
  is_world = subst (IsWorld q) (sym (run-snoc (at_start c job) o.schedule h)) x;
}

-- ---- nonces

high-long : (k n : ℕ) → length (bytes_high_first k n) ≡ k
high-long zero n = refl
high-long (suc k) n = ap suc (high-long k n)

mod-low : (n : ℕ) → n % 256 < 256
mod-low n = omega arith

byte-low : (i n : ℕ) → byte_at i n < 256
byte-low zero n = mod-low n
byte-low (suc i) n = mod-low (n / 256 ^ suc i)

high-low : (k n i : ℕ) → i < k → get_or (bytes_high_first k n) i 0 < 256
high-low zero n i h = absurd (omega (arith, h))
high-low (suc k) n zero h = byte-low k n
high-low (suc k) n (suc i) h = high-low k n i (omega (arith, h))

nonce-is : (p : Pairing) → IsNonce (nonce_of p)
nonce-is p = record { long = high-long 16 (p.deliveries + 1); bytes = λ k h. high-low 16 (p.deliveries + 1) k h }

-- ---- deliveries

up-on : (c : Machine) (job : Job) (p : Pairing) (k : ℕ) (m : Parts) → IsWorldStart c job → (o : OnSchedule c job p)
    → slice_get (run (at_start c job) o.schedule).ups k ≡ Some m
    → OnSchedule c job (comes_up p (canonical m))
unfolding happens
up-on c job p k m start o e =
    let w = run (at_start c job) o.schedule in
    let nonce = nonce_of p in
    let read = ((reads_the_sent c job o.schedule start o.is_schedule).server_end k m e).read in
    one-more c job p (comes_up p (canonical m)) o (up_comes k nonce) (nonce-is p)
    (subst (λ u. IsWorld (comes_up p (canonical m)) (up_delivered w u nonce)) (sym e)
    (subst (λ r. IsWorld (delivery_counted (to_server p (record { read = r; nonce = nonce }))) (up_delivered w (Some m) nonce))
    (sym read) (server-world p w m nonce o.is_world)))

down-on : (c : Machine) (job : Job) (p : Pairing) (k : ℕ) (d : Reply) → IsWorldStart c job → (o : OnSchedule c job p)
    → slice_get (run (at_start c job) o.schedule).downs k ≡ Some d
    → OnSchedule c job (comes_down p (canonical d.message))
unfolding happens
down-on c job p k d start o e =
    let w = run (at_start c job) o.schedule in
    let nonce = nonce_of p in
    let read = ((reads_the_sent c job o.schedule start o.is_schedule).client_end k d e).read in
    one-more c job p (comes_down p (canonical d.message)) o (down_comes k nonce) (nonce-is p)
    (subst (λ r. IsWorld (comes_down p (canonical d.message)) (down_delivered w r nonce)) (sym e)
    (subst
    (λ r. IsWorld (delivery_counted (to_client p (client.message r nonce))) (down_delivered w (Some d) nonce))
    (sym read) (down-world p w d nonce o.is_world)))

-- ---- rounds

-- a delivery of nothing is counted
counted-on : (c : Machine) (job : Job) (p : Pairing) → OnSchedule c job p → OnSchedule c job (delivery_counted p)
counted-on c job p o = record {
  schedule = o.schedule;
  is_schedule = o.is_schedule;
  is_world = record {
    client = o.is_world.client;
    server = o.is_world.server;
    ups = o.is_world.ups;
    downs = o.is_world.downs;
  };
}

half-on : (c : Machine) (job : Job) (p : Pairing) (m : Option Parts) → IsWorldStart c job → (o : OnSchedule c job p)
    → p.server.sent ≡ m
    → OnSchedule c job (half_down p (option_map (λ (m : Parts). canonical m) m)).behind
half-on c job p None start o e = counted-on c job p o
half-on c job p (Some m) start o e =
    let f = (all-heads c job o.schedule start).down m (ap (λ (v : Service). v.sent) (sym o.is_world.server) ∙ e) in
    subst (λ (x : Parts). OnSchedule c job (comes_down p (canonical x))) f.message_is
    (down-on c job p 0 f.reply start o f.first)

round-on : (c : Machine) (job : Job) (p : Pairing) (s : Option Session) → IsWorldStart c job → (o : OnSchedule c job p)
    → p.client.session ≡ s
    → OnSchedule c job (round_up p (option_map (λ (s : Session). canonical s.sent) s)).behind
round-on c job p None start o e = o
round-on c job p (Some s) start o e =
    let first = (all-heads c job o.schedule start).up s (ap (λ (x : Machine). x.session) (sym o.is_world.client) ∙ e) in
    let q = comes_up p (canonical s.sent) in
    half-on c job q q.server.sent start (up-on c job p 0 s.sent start o first) refl

stopped-on : (c : Machine) (job : Job) (r : Round) (rest : Step) → OnSchedule c job r.behind
    → OnSchedule c job rest.behind
    → OnSchedule c job (behind_round r rest).behind
stopped-on c job r rest h k = by r.stop
  where
    by : (s : Option (List ℕ)) → OnSchedule c job (behind_round (record { behind = r.behind; stop = s }) rest).behind
    by None = k
    by (Some word) = h

rounds-on : (c : Machine) (job : Job) (n : ℕ) (p : Pairing) → IsWorldStart c job → OnSchedule c job p
    → OnSchedule c job (rounds n p).behind
unfolding round
rounds-on c job zero p start o = o
rounds-on c job (suc n) p start o =
    let r = round-on c job p p.client.session start o refl in
    stopped-on c job (round p) (rounds n (round p).behind) r (rounds-on c job n (round p).behind start r)

-- ---- any event

step-on : (c : Machine) (job : Job) (p : Pairing) (e : PairEvent) → IsWorldStart c job
    → IsPairEvent (length c.accounts) (length p.ups) (length p.downs) e
    → IsNumber e
    → OnSchedule c job p
    → OnSchedule c job (step_of p e).behind
unfolding step_of happens
step-on c job p (event.Open account kind session) start h n o =
    one-more c job p (to_client p (client.opened account kind session)) o (opens account kind session) (h, n)
    (client-world p (run (at_start c job) o.schedule) (client.opened account kind session) o.is_world)
step-on c job p (event.Up number) start h n o =
    let w = run (at_start c job) o.schedule in
    let long = ap (λ (l : List (List ℕ)). length l) o.is_world.ups in
    let some = h.0 in
    let most = h.1 in
    let t = there Parts itself w.ups (number - 1) (omega (arith, long, some, most)) in
    subst (λ bytes. OnSchedule c job (comes_up p bytes))
    (sym (ap (λ l. get_or l (number - 1) []) o.is_world.ups ∙ t.bytes)) (up-on c job p t.place t.what start o t.at)
step-on c job p (event.Down number) start h n o =
    let w = run (at_start c job) o.schedule in
    let long = ap (λ (l : List (List ℕ)). length l) o.is_world.downs in
    let some = h.0 in
    let most = h.1 in
    let t = there Reply reply_message w.downs (number - 1) (omega (arith, long, some, most)) in
    subst (λ bytes. OnSchedule c job (comes_down p bytes))
    (sym (ap (λ l. get_or l (number - 1) []) o.is_world.downs ∙ t.bytes))
    (down-on c job p t.place t.what start o t.at)
step-on c job p event.Loss start h n o =
    one-more c job p (to_client p client.loss) o is_lost tt
    (client-world p (run (at_start c job) o.schedule) client.loss o.is_world)
step-on c job p (event.Act ok) start h n o =
    one-more c job p (to_client p (client.act ok)) o (update_ends ok) tt
    (client-world p (run (at_start c job) o.schedule) (client.act ok) o.is_world)
step-on c job p (event.Run count) start h n o = rounds-on c job count p start o
step-on c job p event.End start h n o = o

-- ---- lines

ids-long : (accounts : List Account) → length (servers_of accounts) ≡ length accounts
ids-long [] = refl
ids-long (a ∷ more) = ap suc (ids-long more)

accounts-of : (a b ups downs : ℕ) (e : PairEvent) → a ≡ b → IsPairEvent a ups downs e → IsPairEvent b ups downs e
accounts-of a b ups downs e same h = subst (λ n. IsPairEvent n ups downs e) same h

-- behind the end nothing comes any more
over-on : (c : Machine) (job : Job) (lines : List (List ℕ)) (q p : Pairing) → OnSchedule c job q
    → HasEnds p (brought (over q) lines)
    → OnSchedule c job p
unfolding text_turn
over-on c job [] q p o h = subst (OnSchedule c job) h o
over-on c job (line ∷ lines) q p o h = subst (OnSchedule c job) h o

line-on : (c : Machine) (job : Job) (line : List ℕ) (lines : List (List ℕ)) (q p : Pairing) → IsWorldStart c job
    → OnSchedule c job q
    → ((r : Pairing) → OnSchedule c job r → HasEnds p (brought (happening (servers_of c.accounts) r) lines)
    → OnSchedule c job p)
    → HasEnds p (brought (happening (servers_of c.accounts) q) (line ∷ lines))
    → OnSchedule c job p
unfolding text_turn
line-on c job line lines q p start o rest h =
    by (pair_event_of (servers_of c.accounts) (length q.ups) (length q.downs) line) refl h
  where
    goes : (e : PairEvent)
        → IsPairEvent (length (servers_of c.accounts)) (length q.ups) (length q.downs) e × IsNumber e
        → HasEnds p (brought (happening (servers_of c.accounts) (step_of q e).behind) lines)
        → OnSchedule c job p
    goes e k h =
        rest (step_of q e).behind
        (step-on c job q e start
        (accounts-of (length (servers_of c.accounts)) (length c.accounts) (length q.ups) (length q.downs) e
        (ids-long c.accounts) k.0) k.1 o) h

    turned : (e : PairEvent)
        → IsPairEvent (length (servers_of c.accounts)) (length q.ups) (length q.downs) e × IsNumber e
        → HasEnds p (brought (said_turn (servers_of c.accounts) q e).stage lines)
        → OnSchedule c job p
    turned event.End k h = over-on c job lines q p o h
    turned (event.Open account kind session) k h = goes (event.Open account kind session) k h
    turned (event.Up number) k h = goes (event.Up number) k h
    turned (event.Down number) k h = goes (event.Down number) k h
    turned event.Loss k h = goes event.Loss k h
    turned (event.Act ok) k h = goes (event.Act ok) k h
    turned (event.Run count) k h = goes (event.Run count) k h

    by : (r : Result PairEvent LineReason)
        → pair_event_of (servers_of c.accounts) (length q.ups) (length q.downs) line ≡ r
        → HasEnds p
        (brought_by (event_turn (servers_of c.accounts) q r) (happening (servers_of c.accounts) q) (λ t. brought t lines))
        → OnSchedule c job p
    by (Err why) e h = subst (OnSchedule c job) h o
    by (Ok said) e h =
        turned said (event-is (servers_of c.accounts) (length q.ups) (length q.downs) line said e) h

lines-on : (c : Machine) (job : Job) (lines : List (List ℕ)) (q p : Pairing) → IsWorldStart c job → OnSchedule c job q
    → HasEnds p (brought (happening (servers_of c.accounts) q) lines)
    → OnSchedule c job p
lines-on c job [] q p start o h = subst (OnSchedule c job) h o
lines-on c job (line ∷ lines) q p start o h =
    line-on c job line lines q p start o (λ r k g. lines-on c job lines r p start k g) h

pub runs_on_schedules : RunsOnSchedules
runs_on_schedules c job lines p start h =
    lines-on c job lines (first_pairing c job) p start
    (record {
      schedule = [];
      is_schedule = tt;
      is_world = record { client = refl; server = refl; ups = refl; downs = refl };
    }) h
