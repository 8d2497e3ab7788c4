-- What a run sends keeps to the room: a ready machine stays one at each event of a session and behind it.
use Rattle.std.proofs.Common.{◌≡◌, ◌<◌, ◌+◌, ◌++◌, ℕ, suc, zero, Bool, true, false, List, [], ◌∷◌, refl, sym, subst}
use Rattle.std.proofs.Common.{inl, inr, arith, length, get_or, drop, replicate, Ok, Err, Some, None, if◌then◌else◌}
use Rattle.std.specs.Prelude.{◌^◌, Option, Result}
use Rattle.wbxml_ints.specs.Multibyte.{AreBytes}
use Rattle.syncml_types.specs.Message.{Parts}
use Rattle.syncml_codec.specs.Decoding.{read_of}
use Rattle.wbxml_tokens.specs.declared.reason.Refusal.{Refusal}
use Rattle.dm_machine.specs.declared.kinds.Initiator.TheVariants.{ByClient}
use Rattle.dm_machine.specs.Events.{Event, Answer, clocked, sent, kept, again, stale, stranger, no_session, refused}
use Rattle.dm_machine.specs.Events.{exhausted, ended, acted, not_now, opened, act}
use Rattle.dm_machine.specs.History.{answer_now, next}
use Rattle.dm_machine.specs.Laws.{IsShort}
use Rattle.dm_machine.specs.Machine.{Machine}
use Rattle.dm_machine.specs.Ready.{IsReadyMachine, IsReadyEvent, IsReadyRead}
use Rattle.dm_machine.proofs.Accounts.{accounts_stay}
use Rattle.dm_machine.proofs.StaysReady.{stays_ready, sends_within_room}
use Rattle.dm_outside.specs.Updates.{first_nonce}
use Rattle.dm_replay.proofs.ReadFit.{read_is_held}
use Rattle.dm_device.specs.declared.exchanging.ReplyHeard.{ReplyHeard}
use Rattle.dm_device.specs.declared.exchanging.ReplyHeard.TheVariants as heard
use Rattle.dm_device.specs.declared.tally.Word.{Word}
use Rattle.dm_device.specs.declared.tally.Word.TheVariants as word
use Rattle.dm_device.specs.Sessions.{Going, SessionRun, turn_answering, arrives, delivered, turn, session}
use Rattle.dm_device.specs.Sessions.{unless_over}
use Rattle.dm_device.specs.Runs.{Route, Heards, Run, farewells, closing, closing_by, last_session, telling, follow_up}
use Rattle.dm_device.specs.Runs.{leaves_update, behind_first, device_run, ended_well}
use Rattle.dm_device.specs.Rooms.{AllAskedWithinRoom, HeardBytes, IsNonceOfBytes, NoncesOfBytes, RunsKeepToRoom}

-- ---- nonces

zeros_low : (n k : ℕ) → get_or (replicate n 0) k 0 < 256
zeros_low zero k = omega arith
zeros_low (suc n) zero = omega arith
zeros_low (suc n) (suc k) = zeros_low n k

first_of_bytes : (ns : List (List ℕ)) → NoncesOfBytes ns → IsNonceOfBytes (first_nonce ns)
first_of_bytes [] all = (refl, λ k low. zeros_low 16 k)
first_of_bytes (n ∷ ns) all = all.0

rest_of_bytes : (ns : List (List ℕ)) → NoncesOfBytes ns → NoncesOfBytes (drop 1 ns)
rest_of_bytes [] all = tt
rest_of_bytes (n ∷ ns) all = all.1

-- ---- a machine, from event to event

record IsAt (account : ℕ) (c : Machine) : Type 0 where
  many : account < length c.accounts
  ready : IsReadyMachine c
  short : IsShort c

one_more : (account : ℕ) (c : Machine) (e : Event) → IsAt account c → IsReadyEvent c e → IsAt account (next c e)
one_more account c e at is = record {
  many = subst (λ n. account < n) (sym (accounts_stay c e)) at.many;
  ready = stays_ready c e at.ready is;
  short = sends_within_room c e at.ready is at.short;
}

read_is_ready : (bytes nonce : List ℕ) → AreBytes bytes → IsNonceOfBytes nonce → (r : Result Parts Refusal)
    → read_of bytes ≡ r → IsReadyRead r nonce
read_is_ready bytes nonce are is (Err e) read = tt
read_is_ready bytes nonce are is (Ok m) read =
    let held = read_is_held bytes m are read in record {
      fit = held.0;
      numbers = held.1;
      nonce_long = is.0;
      nonce_bytes = is.1;
    }

-- ---- a session

record Stands (account : ℕ) (g : Going) : Type 0 where
  at : IsAt account g.machine
  nonces : NoncesOfBytes g.nonces

answers_stand : (account : ℕ) (g : Going) (a : Answer) → Stands account g → Stands account (turn_answering g a).going
answers_stand account g (sent m) s = record { at = s.at; nonces = s.nonces }
answers_stand account g (ended end farewell) s = s
answers_stand account g clocked s = record { at = s.at; nonces = s.nonces }
answers_stand account g (kept m) s = record { at = s.at; nonces = s.nonces }
answers_stand account g (again m) s = record { at = s.at; nonces = s.nonces }
answers_stand account g (stale last) s = record { at = s.at; nonces = s.nonces }
answers_stand account g stranger s = record { at = s.at; nonces = s.nonces }
answers_stand account g no_session s = record { at = s.at; nonces = s.nonces }
answers_stand account g (refused refusal) s = record { at = s.at; nonces = s.nonces }
answers_stand account g (exhausted last) s = record { at = s.at; nonces = s.nonces }
answers_stand account g acted s = record { at = s.at; nonces = s.nonces }
answers_stand account g not_now s = record { at = s.at; nonces = s.nonces }

turn_stands : (account : ℕ) (g : Going) (h : ReplyHeard) → Stands account g → HeardBytes (h ∷ [])
    → Stands account (turn g h).going
unfolding turn
turn_stands account g heard.Fault s are = record { at = s.at; nonces = s.nonces }
turn_stands account g heard.Refused s are = record { at = s.at; nonces = s.nonces }
turn_stands account g (heard.Body bytes) s are =
    answers_stand account (delivered g bytes) (answer_now g.machine (arrives g bytes)) (record {
      at = one_more account g.machine (arrives g bytes) s.at
          (read_is_ready bytes (first_nonce g.nonces) are.0 (first_of_bytes g.nonces s.nonces) (read_of bytes) refl);
      nonces = rest_of_bytes g.nonces s.nonces;
    })

front_heard : (h : ReplyHeard) (hs : List ReplyHeard) → HeardBytes (h ∷ hs) → HeardBytes (h ∷ [])
front_heard heard.Fault hs are = tt
front_heard heard.Refused hs are = tt
front_heard (heard.Body bytes) hs are = (are.0, tt)

rest_heard : (h : ReplyHeard) (hs : List ReplyHeard) → HeardBytes (h ∷ hs) → HeardBytes hs
rest_heard heard.Fault hs are = are
rest_heard heard.Refused hs are = are
rest_heard (heard.Body bytes) hs are = are.1

record Held (account : ℕ) (address path : List ℕ) (s : SessionRun) : Type 0 where
  keep : AllAskedWithinRoom address path s.requests
  stands : Stands account s.going

unless_held : (account : ℕ) (address path : List ℕ) (w : Option Word) (g : Going) (s : SessionRun)
    → Stands account g → Held account address path s → Held account address path (unless_over w g s)
unless_held account address path None g s stands rest = rest
unless_held account address path (Some w) g s stands rest = record { keep = tt; stands = stands }

session_held : (account : ℕ) (address path : List ℕ) (g : Going) (hs : List ReplyHeard) → Stands account g → HeardBytes hs
    → Held account address path (session address path g hs)
session_held account address path g [] s are = record { keep = tt; stands = s }
session_held account address path g (h ∷ hs) s are =
    let then' = turn_stands account g h s (front_heard h hs are) in
    let rest = unless_held account address path (turn g h).word (turn g h).going
    (session address path (turn g h).going hs) then'
    (session_held account address path (turn g h).going hs then' (rest_heard h hs are)) in record {
      keep = ((g.machine, s.at.short, inl refl), rest.keep);
      stands = rest.stands;
    }

-- ---- what follows it

keep_both : (address path : List ℕ) (xs ys : List (List ℕ)) → AllAskedWithinRoom address path xs
    → AllAskedWithinRoom address path ys → AllAskedWithinRoom address path (xs ++ ys)
keep_both address path [] ys p q = q
keep_both address path (x ∷ xs) ys p q = (p.0, keep_both address path xs ys p.1 q)

farewells_keep : (address path : List ℕ) (c : Machine) (w : Word) → IsShort c
    → AllAskedWithinRoom address path (farewells address path c w)
farewells_keep address path c word.Denied short = ((c, short, inr refl), tt)
farewells_keep address path c word.Finished short = tt
farewells_keep address path c word.Aborted short = tt
farewells_keep address path c word.GaveUp short = tt
farewells_keep address path c word.Peer short = tt

closing_keeps : (r : Route) (c : Machine) (ns : List (List ℕ)) (w : Option Word) → IsShort c
    → AllAskedWithinRoom r.address r.path (closing_by r c ns w).requests
closing_keeps r c ns None short = tt
closing_keeps r c ns (Some w) short = farewells_keep r.address r.path c w short

last_keeps : (account : ℕ) (r : Route) (number : ℕ) (s : SessionRun) → Held account r.address r.path s
    → AllAskedWithinRoom r.address r.path (last_session r number s).requests
last_keeps account r number s held =
    keep_both r.address r.path s.requests (closing_by r s.going.machine s.going.nonces s.word).requests held.keep
    (closing_keeps r s.going.machine s.going.nonces s.word held.stands.at.short)

telling_stands : (account number : ℕ) (c : Machine) (ns : List (List ℕ)) (answer : Option Bool) → number < 2 ^ 32
    → IsAt account c → NoncesOfBytes ns → Stands account (telling account number c ns answer)
telling_stands account number c ns answer low at nonces =
    let told = one_more account c (act (ended_well answer)) at tt in record {
      at = one_more account (next c (act (ended_well answer))) (opened account ByClient number) told (told.many, low);
      nonces = nonces;
    }

either_keeps : (b : Bool) (r : Route) (x y : Run) → AllAskedWithinRoom r.address r.path x.requests
    → AllAskedWithinRoom r.address r.path y.requests → AllAskedWithinRoom r.address r.path (if b then x else y).requests
either_keeps true r x y p q = p
either_keeps false r x y p q = q

behind_keeps : (r : Route) (account number : ℕ) (c : Machine) (ns : List (List ℕ)) (h : Heards) (w : Option Word)
    → number + 1 < 2 ^ 32 → IsAt account c → NoncesOfBytes ns → HeardBytes h.second
    → AllAskedWithinRoom r.address r.path (behind_first r account number c ns h w).requests
behind_keeps r account number c ns h None low at nonces are = tt
behind_keeps r account number c ns h (Some w) low at nonces are =
    either_keeps (leaves_update w c) r (follow_up r account (number + 1) c ns h.updated h.second) (closing r c ns w)
    (last_keeps account r (number + 1)
    (session r.address r.path (telling account (number + 1) c ns h.updated) h.second)
    (session_held account r.address r.path (telling account (number + 1) c ns h.updated) h.second
    (telling_stands account (number + 1) c ns h.updated low at nonces) are))
    (farewells_keep r.address r.path c w at.short)

pub runs_keep : RunsKeepToRoom
unfolding device_run
runs_keep r account number g h ready short many low first second nonces =
    let stands : Stands account g = record {
      at = record { many = many; ready = ready; short = short };
      nonces = nonces;
    } in
    let held = session_held account r.address r.path g h.first stands first in
    let s = session r.address r.path g h.first in
    keep_both r.address r.path s.requests
    (behind_first r account number s.going.machine s.going.nonces h s.word).requests held.keep
    (behind_keeps r account number s.going.machine s.going.nonces h s.word low held.stands.at held.stands.nonces
    second)
