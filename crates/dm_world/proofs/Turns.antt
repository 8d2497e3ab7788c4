-- The sentences on turns and on understanding each other, from what holds after every schedule.
use Rattle.std.proofs.Common.{zero, suc, ◌≡◌, ◌≤◌, ◌+◌, ℕ, Bool, true, false, cond, List, [], ◌∷◌, ◌++◌}
use Rattle.std.proofs.Common.{Option, None, Some, refl, sym, ◌∙◌, ap, subst, arith, inl, inr}
use Rattle.std.specs.Prelude.{Ok, unwrap_or, slice_get}
use Rattle.std.proofs.lemmas.List.{append-nil}
use Rattle.syncml_types.specs.Message.{Parts}
use Rattle.syncml_types.specs.declared.values.Cred.{Cred}
use Rattle.dm_auth.specs.declared.credentials.Verdict.{Verdict}
use Rattle.dm_auth.specs.declared.credentials.Verdict.TheVariants.{Missing, Accepted, Wrong}
use Rattle.dm_auth.specs.Digests.{verdict}
use Rattle.dm_headers.specs.Checks.{fault_of, judged, judged_by, verdict_code, header_code}
use Rattle.dm_ends.specs.Commands.{is_same_number}
use Rattle.dm_atomic.specs.Made.{Made}
use Rattle.dm_machine.specs.Machine.{Machine, Session as Opened}
use Rattle.dm_machine.specs.Events as client
use Rattle.dm_machine.specs.History as client_runs
use Rattle.dm_service.specs.Service.{Service, Session as Serving}
use Rattle.dm_service.specs.Events as server
use Rattle.dm_service.specs.History as server_runs
use Rattle.dm_service.specs.Events.{arrival}
use Rattle.dm_world.specs.Deeds.{Deed}
use Rattle.dm_world.specs.World.{World, Reply, InSession, opens, up_comes, down_comes, update_ends, clock_moves}
use Rattle.dm_world.specs.World.{is_lost, finds_no_memory, with_new, said, replied, client_has, deeds_by}
use Rattle.dm_world.specs.World.{made_by, down_delivered, up_delivered, happens, run}
use Rattle.dm_world.specs.Start.{at_start}
use Rattle.dm_world.specs.Lockstep.{first_of, newest_in, TakesNewest, ServesNewest, is_down_taken, is_up_taken}
use Rattle.dm_world.specs.Lockstep.{Untaken, TakesTurns, IsFaultCode, IsUnderstood, Understands}
use Rattle.dm_world.proofs.Lists.{either, Each, each-map, each-within, StandsIn, picked}
use Rattle.dm_world.proofs.Numbers.{session_number, eq-of, eq-self}
use Rattle.dm_world.proofs.Lockstep.{Bound, UpOk, DownOk, Below, Falls, itself, message_of, NewestIs, Holds, Before}
use Rattle.dm_world.proofs.Lockstep.{NextOk, is-next-up}
use Rattle.dm_world.proofs.Happens.{refusal-said, taken-next, loss-said, TakenUp, taken-turn, refusal-silent, Sound}
use Rattle.dm_world.proofs.Happens.{run-sound, start-sound, schedule-range}

-- ---- the client

-- a message that is as new as the newest stands first
first-down : (n k : ℕ) (downs : List Reply) (i : ℕ) (d : Reply) → slice_get downs i ≡ Some d → Falls message_of downs
    → Each (λ (x : Reply). (session_number x.message ≤ n) × (session_number x.message ≡ n → x.message.header.msg ≤ k))
    downs
    → session_number d.message ≡ n
    → d.message.header.msg ≡ k
    → first_of downs ≡ Some d
first-down n k [] i d p f h e g = cc
first-down n k (x ∷ xs) zero d p f h e g = p
first-down n k (x ∷ xs) (suc i) d p f h e g =
    let older = λ (y : Reply). Below (session_number x.message) x.message.header.msg y.message in
    let b = each-within older xs d f.0 (picked xs i d p) in
    let bs = b.session in
    let high = h.0.0 in
    let same : session_number x.message ≡ n = omega (arith, bs, high, e) in
    let less = b.id (e ∙ sym same) in
    let most = h.0.1 same in
    absurd (omega (arith, less, most, g))

pub first-up : (ups : List Parts) (n k : ℕ) (u : Parts) → NewestIs n k (first_of ups) → Falls itself ups
    → StandsIn u ups
    → session_number u ≡ n
    → u.header.msg ≡ k
    → first_of ups ≡ Some u
first-up [] n k u t f w e g = absurd w
first-up (x ∷ xs) n k u t f (inl w) e g = ap (λ y. Some y) (sym w)
first-up (x ∷ xs) n k u t f (inr w) e g =
    let b = each-within (λ y. Below (session_number x) x.header.msg y) xs u f.0 w in
    let less = b.id (e ∙ sym t.0) in
    let high = t.1 in
    absurd (omega (arith, less, high, g))

takes-first : (b : ℕ) (s : Opened) (v : Option Serving) (downs : List Reply) (ups : List Parts) (i : ℕ) (d : Reply)
    → slice_get downs i ≡ Some d
    → Holds b (Some s) v downs ups → NextOk b s v d → DownOk v ups d
    → (first_of downs ≡ Some d) × (first_of ups ≡ Some d.answers)
takes-first b s None downs ups i d p h x k = absurd x
takes-first b s (Some y) downs ups i d p h x k = (
  first-down y.progress.number y.progress.standing.own downs i d p h.downs_fall
      (each-map (λ z (g : DownOk (Some y) ups z). (g.high, g.own_is)) downs h.downs_ok) (x.session ∙ sym x.number)
      (sym x.own),
  first-up ups b s.progress.standing.own d.answers h.client_ok.newest h.ups_fall k.there x.answers x.answers_id,
)

pub takes-newest : (b : ℕ) (o : Option Opened) (v : Option Serving) (downs : List Reply) (ups : List Parts) (i : ℕ)
    (d : Reply)
    → slice_get downs i ≡ Some d
    → Holds b o v downs ups
    → client.takes_message o d.message ≡ true
    → (first_of downs ≡ Some d) × (first_of ups ≡ Some d.answers)
takes-newest b None v downs ups i d p h t = cc
takes-newest b (Some s) v downs ups i d p h t =
    let w = picked downs i d p in
    takes-first b s v downs ups i d p h (taken-next b s v downs ups d h w t)
    (each-within (DownOk v ups) downs d h.downs_ok w)

pub client-takes : (w : World) → Sound w → TakesNewest w
client-takes w h i d p t =
    takes-newest w.client.begun w.client.session w.server.session w.downs w.ups i d p h t

-- ---- the server

pub bound-most : (v : Option Serving) (n own k : ℕ) → Before v n own → Bound v n k → k ≤ own + 1
bound-most None n own k b h = omega (arith, b, h)
bound-most (Some y) n own k (inl b) h = let g = h.1 b.0 in omega (arith, g)
bound-most (Some y) n own k (inr b) h = let g = h.0 (sym b.0) in let z = b.2 in omega (arith, g, z)

session-says : (x : Option ℕ) (n : ℕ) → is_same_number x n ≡ true → x ≡ Some n
session-says None n h = cc
session-says (Some k) n h = ap (λ y. Some y) (eq-of k n h)

number-same : (o : Option ℕ) (n : ℕ) → o ≡ Some n → is_same_number o n ≡ true
number-same o n e = rw e (eq-self n)

newest-up : (n k : ℕ) (ups : List Parts) (i : ℕ) (u : Parts) → slice_get ups i ≡ Some u → Falls itself ups
    → Each (λ (x : Parts). session_number x ≡ n → x.header.msg ≤ k) ups
    → server.number_of u ≡ Some n
    → u.header.msg ≡ k
    → newest_in n ups ≡ Some u
newest-up n k [] i u p f h e g = cc
newest-up n k (x ∷ xs) zero u p f h e g =
    let same : server.number_of x ≡ Some n = ap (λ (o : Option Parts). number_or o) p ∙ e in
    rw (number-same (server.number_of x) n same) p
  where
    number_or : Option Parts → Option ℕ
    number_or None = None
    number_or (Some y) = server.number_of y
newest-up n k (x ∷ xs) (suc i) u p f h e g =
    past (is_same_number (server.number_of x) n) refl (newest-up n k xs i u p f.1 h.1 e g)
  where
    past : (c : Bool) → is_same_number (server.number_of x) n ≡ c → newest_in n xs ≡ Some u
        → cond c (Some x) (newest_in n xs) ≡ Some u
    past false s r = r
    past true s r =
        let same : session_number x ≡ n =
        ap (λ (o : Option ℕ). unwrap_or o 0) (session-says (server.number_of x) n s) in
        let mine : session_number u ≡ n = ap (λ (o : Option ℕ). unwrap_or o 0) e in
        let b = each-within (λ (y : Parts). Below (session_number x) x.header.msg y) xs u f.0 (picked xs i u p) in
        let less = b.id (mine ∙ sym same) in
        let most = h.0 same in
        absurd (omega (arith, less, most, g))

served-newest : (b : ℕ) (v : Service) (o : Option Opened) (downs : List Reply) (ups : List Parts) (i : ℕ) (u : Parts)
    (n : ℕ) (x : Service)
    → slice_get ups i ≡ Some u
    → Holds b o v.session downs ups
    → server.number_of u ≡ Some n
    → TakenUp v v.session n u [] x
    → newest_in n ups ≡ Some u
served-newest b v o downs ups i u n x p h e t =
    let f = each-within (UpOk b v.session) ups u h.ups_ok (picked ups i u p) in
    let mine : session_number u ≡ n = ap (λ (o : Option ℕ). unwrap_or o 0) e in
    let k =
    is-next-up v.session n t.own u.header.msg t.before
    (subst (λ j. Bound v.session j u.header.msg) mine f.bound) t.later in
    newest-up n u.header.msg ups i u p h.ups_fall
    (each-map {Q = λ (x : Parts). session_number x ≡ n → x.header.msg ≤ u.header.msg}
    (λ x (g : UpOk b v.session x) (s : session_number x ≡ n).
    subst (λ j. x.header.msg ≤ j) (sym k)
    (bound-most v.session n t.own x.header.msg t.before
    (subst (λ j. Bound v.session j x.header.msg) s g.bound))) ups h.ups_ok)
    e refl

pub server-takes : (w : World) → Sound w → ServesNewest w
server-takes w h i u n p e t =
    let b = w.client.begun in
    let v = w.server in
    let f = each-within (UpOk b v.session) w.ups u h.ups_ok (picked w.ups i u p) in
    let taken : server.takes_in v.session n u ≡ true =
    ap (λ (x : Option ℕ). server.takes_number v.session x u) (sym e) ∙ t in
    served-newest b v w.client.session w.downs w.ups i u n (server.after_in_session v v.session n u []) p h e
    (taken-turn b v v.session n u [] refl h.server_ok f.first taken)

-- ---- what no machine takes

same-world : (w : World) (c : Machine) (v : Service) (downs : List Reply) (ups : List Parts) (d : List (InSession Deed))
    (e : List (InSession Made))
    → c ≡ w.client → v ≡ w.server → downs ≡ w.downs → ups ≡ w.ups → d ≡ w.executed → e ≡ w.made
    → ◌≡◌ {A = World}
    (record { client = c; server = v; downs = downs; ups = ups; executed = d; made = e }) w
same-world w c v downs ups d e p q r s t u =
    λ i. record { client = p i; server = q i; downs = r i; ups = s i; executed = t i; made = u i }

untaken-next : (c : Machine) (e : client.Event) → client.takes c e ≡ false → client_runs.next c e ≡ c
unfolding client_runs.next
untaken-next c e h = rw h refl

untaken-says : (c : Machine) (e : client.Event) → client.takes c e ≡ false
    → said (client.refusal c e (client_runs.kept_in c.session)) ≡ None
    → said (client_runs.answer_now c e) ≡ None
unfolding client_runs.answer_now
untaken-says c e h k = rw h k

untaken-client : (w : World) (e : client.Event) → client.takes w.client e ≡ false
    → said (client.refusal w.client e (client_runs.kept_in w.client.session)) ≡ None
    → client_has w e ≡ w
untaken-client w e h k =
    same-world w (client_runs.next w.client e) w.server w.downs
    (with_new w.ups (said (client_runs.answer_now w.client e))) w.executed w.made (untaken-next w.client e h) refl refl
    (ap (with_new w.ups) (untaken-says w.client e h k)) refl refl

deeds-none : (c : Machine) (o : Option Opened) (m : Parts) (nonce : List ℕ) → client.takes_message o m ≡ false
    → deeds_by c o m nonce ≡ []
deeds-none c None m nonce h = refl
deeds-none c (Some s) m nonce h = rw h refl

made-none : (c : Machine) (o : Option Opened) (m : Parts) (nonce : List ℕ) → client.takes_message o m ≡ false
    → made_by c o m nonce ≡ []
made-none c None m nonce h = refl
made-none c (Some s) m nonce h = rw h refl

said-of-message : (c : Machine) (m : Parts) (nonce : List ℕ)
    → said (client.refusal c (client.message (Ok m) nonce) (client_runs.kept_in c.session)) ≡ None
unfolding client.refusal
said-of-message c m nonce = refusal-said c.session m (client_runs.kept_in c.session)

takes-message : (c : Machine) (m : Parts) (nonce : List ℕ)
    → client.takes c (client.message (Ok m) nonce) ≡ client.takes_message c.session m
unfolding client.takes
takes-message c m nonce = refl

untaken-down : (w : World) (d : Option Reply) (nonce : List ℕ) → is_down_taken w d ≡ false
    → down_delivered w d nonce ≡ w
untaken-down w None nonce h = refl
untaken-down w (Some d) nonce h =
    let e = client.message (Ok d.message) nonce in
    let k = takes-message w.client d.message nonce ∙ h in
    same-world w (client_runs.next w.client e) w.server w.downs
    (with_new w.ups (said (client_runs.answer_now w.client e)))
    (w.executed ++ deeds_by w.client w.client.session d.message nonce)
    (w.made ++ made_by w.client w.client.session d.message nonce) (untaken-next w.client e k) refl refl
    (ap (with_new w.ups) (untaken-says w.client e k (said-of-message w.client d.message nonce)))
    (ap (λ x. w.executed ++ x) (deeds-none w.client w.client.session d.message nonce h) ∙ append-nil w.executed)
    (ap (λ x. w.made ++ x) (made-none w.client w.client.session d.message nonce h) ∙ append-nil w.made)

untaken-server : (v : Service) (u : Parts) (nonce : List ℕ) → server.takes_message v u ≡ false
    → server_runs.next v (arrival u nonce) ≡ v
unfolding server_runs.next server.takes
untaken-server v u nonce h = rw h refl

untaken-replies : (v : Service) (u : Parts) (nonce : List ℕ) → server.takes_message v u ≡ false
    → replied (server_runs.answer_now v (arrival u nonce)) u ≡ None
unfolding server_runs.answer_now server.takes
untaken-replies v u nonce h = rw h (refusal-silent v u nonce (server.reply_of v))

untaken-up : (w : World) (u : Option Parts) (nonce : List ℕ) → is_up_taken w u ≡ false → up_delivered w u nonce ≡ w
untaken-up w None nonce t = refl
untaken-up w (Some u) nonce t =
    same-world w w.client (server_runs.next w.server (arrival u nonce))
    (with_new w.downs (replied (server_runs.answer_now w.server (arrival u nonce)) u)) w.ups w.executed w.made refl
    (untaken-server w.server u nonce t) (ap (with_new w.downs) (untaken-replies w.server u nonce t)) refl refl refl

loss-untaken : (c : Machine) → client.takes c client.loss ≡ false
unfolding client.takes
loss-untaken c = refl

said-of-loss : (c : Machine) → said (client.refusal c client.loss (client_runs.kept_in c.session)) ≡ None
unfolding client.refusal
said-of-loss c = loss-said c.session

pub untaken : (w : World) → Untaken w
unfolding happens client.refusal
untaken w (opens account kind n) t = untaken-client w (client.opened account kind n) t refl
untaken w (up_comes k nonce) t = untaken-up w (slice_get w.ups k) nonce t
untaken w (down_comes k nonce) t = untaken-down w (slice_get w.downs k) nonce t
untaken w (update_ends ok) t = untaken-client w (client.act ok) t refl
untaken w (clock_moves stamp) t = cc
untaken w is_lost t = untaken-client w client.loss (loss-untaken w.client) (said-of-loss w.client)
untaken w finds_no_memory t = refl

pub takes_turns : TakesTurns
takes_turns c job hs start range =
    let w = run (at_start c job) hs in
    let s = run-sound (at_start c job) hs (schedule-range c hs range) (start-sound c job start) in
    record { untaken = untaken w; client_takes = client-takes w s; server_takes = server-takes w s }

-- ---- no end refuses the other's messages

abbrev IsFine : ℕ → Type 0
IsFine code = IsFaultCode code → ⊥

fine-code : IsFine 200
fine-code (inl h) = omega (arith, h)
fine-code (inr (inl h)) = omega (arith, h)
fine-code (inr (inr h)) = omega (arith, h)

verdict-fine : (v : Verdict) → IsFine (verdict_code v)
verdict-fine Missing (inl h) = omega (arith, h)
verdict-fine Missing (inr (inl h)) = omega (arith, h)
verdict-fine Missing (inr (inr h)) = omega (arith, h)
verdict-fine Wrong (inl h) = omega (arith, h)
verdict-fine Wrong (inr (inl h)) = omega (arith, h)
verdict-fine Wrong (inr (inr h)) = omega (arith, h)
verdict-fine Accepted (inl h) = omega (arith, h)
verdict-fine Accepted (inr (inl h)) = omega (arith, h)
verdict-fine Accepted (inr (inr h)) = omega (arith, h)

judged-fine : (accepted : Bool) (name password : Option (List ℕ)) (nonce : List ℕ) (cred : Option Cred)
    → IsFine (judged accepted name password nonce cred)
judged-fine accepted None password nonce cred = fine-code
judged-fine accepted (Some name) None nonce cred = fine-code
judged-fine accepted (Some name) (Some password) nonce cred =
    either IsFine accepted fine-code (verdict-fine (verdict name password nonce cred))

faultless-fine : (m : Parts) → fault_of m ≡ None → IsUnderstood m
unfolding header_code
faultless-fine m e accepted login =
    subst (λ x. IsFine (unwrap_or x (judged_by accepted login m.header.cred))) (sym e)
    (judged-fine accepted login.name login.password login.nonce m.header.cred)

down-fault : (v : Option Serving) (ups : List Parts) (d : Reply) → DownOk v ups d → fault_of d.message ≡ None
down-fault None ups d h = absurd h
down-fault (Some y) ups d h = h.sound

pub understands : Understands
understands c job hs start range =
    let w = run (at_start c job) hs in
    let s = run-sound (at_start c job) hs (schedule-range c hs range) (start-sound c job start) in
    record {
      client_end = λ k d p.
          faultless-fine d.message
          (down-fault w.server.session w.ups d
          (each-within (DownOk w.server.session w.ups) w.downs d s.downs_ok (picked w.downs k d p)));
      server_end = λ k u p.
          faultless-fine u
          (each-within (UpOk w.client.begun w.server.session) w.ups u s.ups_ok (picked w.ups k u p)).sound;
    }
