-- Both ends behind what happens to them.
use Rattle.std.proofs.Common.{◌≡◌, ◌∙◌, ◌++◌, ◌+◌, ◌-◌, ◌<◌, ◌≤◌, ℕ, zero, suc, List, [], Option, Some, None, refl}
use Rattle.std.proofs.Common.{sym, ap, arith, codes, length, append-nil, append_assoc, get_or, Bool}
use Rattle.std.proofs.lemmas.List.{get_or_default}
use Rattle.std.specs.Prelude.{true, false, Result, Ok, Err, OnOk}
use Rattle.dm_base.specs.declared.bytes.Memory.{Memory}
use Rattle.syncml_codec.specs.Decoding.{read_of}
use Rattle.dm_machine.specs.declared.kinds.Initiator.{Initiator}
use Rattle.dm_machine.specs.Machine.{Machine}
use Rattle.dm_machine.specs.Events as client
use Rattle.dm_machine.specs.Events.{message as came, opened, loss, act}
use Rattle.dm_machine.specs.History as client_runs
use Rattle.dm_machine.proofs.Accounts.{accounts_stay}
use Rattle.dm_service.specs.Service.{Service}
use Rattle.dm_service.specs.History as server_runs
use Rattle.dm_session.specs.View.{sent_last}
use Rattle.dm_server.specs.View.{sent_last as server_last, arrival_of as arrival}
use Rattle.dm_pair.specs.declared.events.PairEvent.{PairEvent}
use Rattle.dm_pair.specs.declared.events.PairEvent.TheVariants as event
use Rattle.dm_pair.specs.Pairing.{Pairing, Round, Step, sent_up, sent_down, nonce_of, comes_up, comes_down}
use Rattle.dm_pair.specs.Pairing.{client_words, server_word, stop_word, last_up, last_down, half_down, round_up, round}
use Rattle.dm_pair.specs.Pairing.{stops, behind_round, rounds, client_step, up_step, down_step, step_of}
use Rattle.dm_pair.specs.Pairing.{to_client, message_numbered}
use Rattle.dm_pair.specs.Seen.{round_behind}

abbrev pub ends : Machine → Service → List (List ℕ) → List (List ℕ) → ℕ → Pairing
ends c s ups downs n = record { client = c; server = s; ups = ups; downs = downs; deliveries = n }

-- ---- a delivery

-- what a message brings that comes to the server
pub record CameUp (p : Pairing) (bytes : List ℕ) (s : Service) (downs : List (List ℕ)) (n : ℕ) : Type 0 where
  pub nonce : List ℕ
  pub told : nonce ≡ nonce_of p
  pub server : s ≡ server_runs.next p.server (arrival bytes nonce)
  pub downs_are : downs ≡ p.downs ++ sent_down (server_runs.answer_now p.server (arrival bytes nonce))
  pub count : n ≡ p.deliveries + 1

pub came_up : (p : Pairing) (bytes : List ℕ) (s : Service) (downs : List (List ℕ)) (n : ℕ) → CameUp p bytes s downs n
    → ends p.client s p.ups downs n ≡ comes_up p bytes
came_up p bytes s downs n h =
    ap (λ x. ends p.client x p.ups downs n) (h.server ∙ ap (λ x. server_runs.next p.server (arrival bytes x)) h.told)
    ∙ ap (λ x. ends p.client (server_runs.next p.server (arrival bytes (nonce_of p))) p.ups x n)
    (h.downs_are ∙ ap (λ x. p.downs ++ sent_down (server_runs.answer_now p.server (arrival bytes x))) h.told)
    ∙ ap (λ x. ends p.client (server_runs.next p.server (arrival bytes (nonce_of p))) p.ups
    (p.downs ++ sent_down (server_runs.answer_now p.server (arrival bytes (nonce_of p)))) x) h.count

abbrev pub coming : List ℕ → List ℕ → client.Event
coming bytes nonce = came (read_of bytes) nonce

-- what a message brings that comes to the client
pub record CameDown (p : Pairing) (bytes : List ℕ) (c : Machine) (ups : List (List ℕ)) (n : ℕ) : Type 0 where
  pub nonce : List ℕ
  pub told : nonce ≡ nonce_of p
  pub client : c ≡ client_runs.next p.client (coming bytes nonce)
  pub ups_are : ups ≡ p.ups ++ sent_up (client_runs.answer_now p.client (coming bytes nonce))
  pub count : n ≡ p.deliveries + 1

pub came_down : (p : Pairing) (bytes : List ℕ) (c : Machine) (ups : List (List ℕ)) (n : ℕ) → CameDown p bytes c ups n
    → ends c p.server ups p.downs n ≡ comes_down p bytes
came_down p bytes c ups n h =
    ap (λ x. ends x p.server ups p.downs n) (h.client ∙ ap (λ x. client_runs.next p.client (coming bytes x)) h.told)
    ∙ ap (λ x. ends (client_runs.next p.client (coming bytes (nonce_of p))) p.server x p.downs n)
    (h.ups_are ∙ ap (λ x. p.ups ++ sent_up (client_runs.answer_now p.client (coming bytes x))) h.told)
    ∙ ap (λ x. ends (client_runs.next p.client (coming bytes (nonce_of p))) p.server
    (p.ups ++ sent_up (client_runs.answer_now p.client (coming bytes (nonce_of p)))) p.downs x) h.count

-- ---- `up` and `down`

-- the message of a number that was sent
pub sent_at : (messages : List (List ℕ)) (number : ℕ) (bytes : List ℕ) → 0 < number → number ≤ length messages
    → bytes ≡ get_or messages (number - 1) bytes → bytes ≡ get_or messages (number - 1) []
sent_at messages number bytes some most is =
    is ∙ get_or_default messages (number - 1) bytes [] (omega (arith, some, most))

pub up_stepped : (p : Pairing) (bytes asked word : List ℕ) (s : Service) (downs : List (List ℕ)) (n : ℕ)
    → bytes ≡ asked → (h : CameUp p bytes s downs n)
    → word ≡ server_word (server_runs.answer_now p.server (arrival bytes h.nonce))
    → up_step p asked ≡ stops (ends p.client s p.ups downs n) word
up_stepped p bytes asked word s downs n is h told =
    ap (up_step p) (sym is)
    ∙ ap (λ x. stops (comes_up p bytes) x)
    (ap (λ x. server_word (server_runs.answer_now p.server (arrival bytes x))) (sym h.told) ∙ sym told)
    ∙ ap (λ x. stops x word) (sym (came_up p bytes s downs n h))

pub down_stepped : (p : Pairing) (bytes asked word : List ℕ) (c : Machine) (ups : List (List ℕ)) (n : ℕ)
    → bytes ≡ asked → (h : CameDown p bytes c ups n)
    → word ≡ client_words (client_runs.answer_now p.client (coming bytes h.nonce))
    → down_step p asked ≡ stops (ends c p.server ups p.downs n) word
down_stepped p bytes asked word c ups n is h told =
    ap (down_step p) (sym is)
    ∙ ap (λ x. stops (comes_down p bytes) x)
    (ap (λ x. client_words (client_runs.answer_now p.client (coming bytes x))) (sym h.told) ∙ sym told)
    ∙ ap (λ x. stops x word) (sym (came_down p bytes c ups n h))

-- ---- a round

pub up_half : (p : Pairing) (bytes : List ℕ) (s : Service) (downs : List (List ℕ)) (n : ℕ)
    → Some bytes ≡ sent_last p.client → CameUp p bytes s downs n
    → round p ≡ round_behind true (ends p.client s p.ups downs n)
unfolding round
up_half p bytes s downs n last h =
    ap (round_up p) (sym last) ∙ ap (round_behind true) (sym (came_up p bytes s downs n h))

pub no_half : (p : Pairing) → (let none : Option (List ℕ) = None in none) ≡ sent_last p.client
    → round p ≡ round_behind false p
unfolding round
no_half p last = ap (round_up p) (sym last)

abbrev pub ended_round : Pairing → Option (List ℕ) → Round
ended_round p stop = record { behind = p; stop = stop }

pub down_half : (p : Pairing) (bytes : List ℕ) (stop : Option (List ℕ)) (c : Machine) (ups : List (List ℕ)) (n : ℕ)
    → Some bytes ≡ server_last p.server → (h : CameDown p bytes c ups n)
    → stop ≡ stop_word (client_runs.answer_now p.client (coming bytes h.nonce))
    → half_down p (last_down p) ≡ ended_round (ends c p.server ups p.downs n) stop
down_half p bytes stop c ups n last h told =
    ap (half_down p) (sym last)
    ∙ ap (λ x. ended_round (comes_down p bytes) x)
    (ap (λ x. stop_word (client_runs.answer_now p.client (coming bytes x))) (sym h.told) ∙ sym told)
    ∙ ap (λ x. ended_round x stop) (sym (came_down p bytes c ups n h))

-- ---- rounds

pub round_more : (n : ℕ) (p q : Pairing) → 0 < n → round p ≡ ended_round q None → rounds n p ≡ rounds (n - 1) q
round_more zero p q some is = absurd (omega (arith, some))
round_more (suc n) p q some is =
    ap (λ r. behind_round r (rounds n r.behind)) is ∙ ap (λ m. rounds m q) less
  where
    less : n ≡ suc n - 1
    less = omega arith

-- ---- what happens at the client

pub client_stepped : (p : Pairing) (e : client.Event) (c : Machine) (ups : List (List ℕ)) (words : List ℕ)
    → c ≡ client_runs.next p.client e → ups ≡ p.ups ++ sent_up (client_runs.answer_now p.client e)
    → words ≡ client_words (client_runs.answer_now p.client e)
    → client_step p e ≡ stops (ends c p.server ups p.downs p.deliveries) words
client_stepped p e c ups words is_c is_ups is_words =
    ap (λ x. stops (ends (client_runs.next p.client e) p.server
    (p.ups ++ sent_up (client_runs.answer_now p.client e)) p.downs p.deliveries) x) (sym is_words)
    ∙ ap (λ x. stops (ends x p.server (p.ups ++ sent_up (client_runs.answer_now p.client e)) p.downs p.deliveries)
    words) (sym is_c)
    ∙ ap (λ x. stops (ends c p.server x p.downs p.deliveries) words) (sym is_ups)

-- where it sends nothing
pub quiet_step : (p : Pairing) (e : client.Event) (c : Machine) (words : List ℕ)
    → c ≡ client_runs.next p.client e → sent_up (client_runs.answer_now p.client e) ≡ []
    → words ≡ client_words (client_runs.answer_now p.client e)
    → client_step p e ≡ stops (ends c p.server p.ups p.downs p.deliveries) words
quiet_step p e c words is quiet told =
    client_stepped p e c p.ups words is (sym (ap (λ x. p.ups ++ x) quiet ∙ append-nil p.ups)) told

-- ---- any event

pub step_open : (p : Pairing) (account : ℕ) (kind : Initiator) (session : ℕ)
    → step_of p (event.Open account kind session) ≡ client_step p (opened account kind session)
unfolding step_of
step_open p account kind session = refl

pub step_up : (p : Pairing) (number : ℕ) → step_of p (event.Up number) ≡ up_step p (message_numbered p.ups number)
unfolding step_of
step_up p number = refl

pub step_down : (p : Pairing) (number : ℕ) → step_of p (event.Down number) ≡ down_step p (message_numbered p.downs number)
unfolding step_of
step_down p number = refl

pub step_loss : (p : Pairing) → step_of p event.Loss ≡ client_step p loss
unfolding step_of
step_loss p = refl

pub step_act : (p : Pairing) (ok : Bool) → step_of p (event.Act ok) ≡ client_step p (act ok)
unfolding step_of
step_act p ok = refl

pub end_words : (p : Pairing) (e : PairEvent) (out : List ℕ) → e ≡ event.End → out ≡ out ++ (step_of p e).words
unfolding step_of
end_words p e out is = sym (ap (λ x. out ++ (step_of p x).words) is ∙ append-nil out)

pub end_state : (p : Pairing) (e : PairEvent) → e ≡ event.End → p ≡ (step_of p e).behind
unfolding step_of
end_state p e is = sym (ap (λ x. (step_of p x).behind) is)

step_words : (p q : Pairing) (e x : PairEvent) (s : Step) (words out now : List ℕ) → e ≡ x → step_of p x ≡ s
    → s ≡ stops q words → now ≡ out ++ words → now ≡ out ++ (step_of p e).words
step_words p q e x s words out now is does comes adds =
    adds ∙ ap (λ w. out ++ w) (sym (ap (λ t. t.words) (ap (step_of p) is ∙ does ∙ comes)))

pub step_state : (p q : Pairing) (e x : PairEvent) (s : Step) (words : List ℕ) → e ≡ x → step_of p x ≡ s
    → s ≡ stops q words → q ≡ (step_of p e).behind
step_state p q e x s words is does comes = sym (ap (λ t. t.behind) (ap (step_of p) is ∙ does ∙ comes))

run_words : (p q : Pairing) (n : ℕ) (out mid now word : List ℕ) → rounds n p ≡ stops q word
    → mid ≡ out ++ codes "ran " → now ≡ mid ++ word → now ≡ out ++ (step_of p (event.Run n)).words
unfolding step_of
run_words p q n out mid now word ran first second =
    second ∙ ap (λ l. l ++ word) first ∙ append_assoc out (codes "ran ") word
    ∙ ap (λ s. out ++ (codes "ran " ++ s.words)) (sym ran)

pub run_state : (p q : Pairing) (n : ℕ) (word : List ℕ) → rounds n p ≡ stops q word
    → q ≡ (step_of p (event.Run n)).behind
unfolding step_of
run_state p q n word ran = sym (ap (λ s. s.behind) ran)

pub words_then : (r : Result (Unit {0}) Memory) (p q : Pairing) (e x : PairEvent) (s : Step) (words out now : List ℕ)
    → e ≡ x → step_of p x ≡ s → s ≡ stops q words → OnOk r (now ≡ out ++ words)
    → OnOk r (now ≡ out ++ (step_of p e).words)
words_then (Ok u) p q e x s words out now is does comes adds = step_words p q e x s words out now is does comes adds
words_then (Err memory) p q e x s words out now is does comes adds = tt

pub run_then : (r : Result (Unit {0}) Memory) (p q : Pairing) (n : ℕ) (out mid now word : List ℕ)
    → rounds n p ≡ stops q word → mid ≡ out ++ codes "ran " → OnOk r (now ≡ mid ++ word)
    → OnOk r (now ≡ out ++ (step_of p (event.Run n)).words)
run_then (Ok u) p q n out mid now word ran first second = run_words p q n out mid now word ran first second
run_then (Err memory) p q n out mid now word ran first second = tt

-- ---- the accounts stay as many

abbrev pub many : Pairing → ℕ
many p = length p.client.accounts

client_keeps : (p : Pairing) (e : client.Event) → many (to_client p e) ≡ many p
client_keeps p e = accounts_stay p.client e

half_keeps : (p : Pairing) (o : Option (List ℕ)) → many (half_down p o).behind ≡ many p
half_keeps p None = refl
half_keeps p (Some bytes) = client_keeps p (coming bytes (nonce_of p))

round_keeps : (p : Pairing) → many (round p).behind ≡ many p
unfolding round
round_keeps p = by_last (last_up p)
  where
    by_last : (o : Option (List ℕ)) → many (round_up p o).behind ≡ many p
    by_last None = refl
    by_last (Some bytes) = half_keeps (comes_up p bytes) (last_down (comes_up p bytes))

behind_keeps : (r : Round) (rest : Step) (n : ℕ) → many r.behind ≡ n → many rest.behind ≡ n
    → many (behind_round r rest).behind ≡ n
behind_keeps r rest n here later = by_stop r.stop
  where
    by_stop : (o : Option (List ℕ)) → many (behind_round (ended_round r.behind o) rest).behind ≡ n
    by_stop None = later
    by_stop (Some word) = here

rounds_keep : (n : ℕ) (p : Pairing) → many (rounds n p).behind ≡ many p
rounds_keep zero p = refl
rounds_keep (suc n) p =
    behind_keeps (round p) (rounds n (round p).behind) (many p) (round_keeps p)
    (rounds_keep n (round p).behind ∙ round_keeps p)

step_keeps : (p : Pairing) (e : PairEvent) → many (step_of p e).behind ≡ many p
unfolding step_of
step_keeps p (event.Open account kind session) = client_keeps p (opened account kind session)
step_keeps p (event.Up number) = refl
step_keeps p (event.Down number) = client_keeps p (coming (get_or p.downs (number - 1) []) (nonce_of p))
step_keeps p event.Loss = client_keeps p loss
step_keeps p (event.Act ok) = client_keeps p (act ok)
step_keeps p (event.Run count) = rounds_keep count p
step_keeps p event.End = refl

pub accounts_kept : (p q : Pairing) (e : PairEvent) → q ≡ (step_of p e).behind → many q ≡ many p
accounts_kept p q e is = ap many is ∙ step_keeps p e
