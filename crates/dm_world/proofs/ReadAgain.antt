-- Each message that an end sends can be held by the other, and is read again, on every schedule.
use Rattle.std.proofs.Common.{◌≡◌, ◌<◌, ℕ, List, [], ◌∷◌, length, Option, None, Some, IfSome, refl, sym, ◌∙◌}
use Rattle.std.proofs.Common.{subst, arith}
use Rattle.std.specs.Prelude.{Ok, slice_get}
use Rattle.std.specs.List.{AllByRecursion}
use Rattle.syncml_types.specs.Message.{Parts}
use Rattle.syncml_codec.proofs.CanonicalBytes.{canonical_spells}
use Rattle.syncml_codec.proofs.Decoded.{spelled_read}
use Rattle.syncml_types.specs.Canonical.{canonical}
use Rattle.syncml_codec.specs.Ranges.{CommandRange}
use Rattle.dm_atomic.specs.Run.{Group}
use Rattle.dm_ends.specs.Ready.{IsReadyMessage}
use Rattle.dm_job.specs.declared.job.Job.{Job}
use Rattle.dm_job.specs.declared.job.JobEntry.{JobEntry}
use Rattle.dm_job.specs.Sound.{CanBeSent, all_entries}
use Rattle.dm_machine.specs.Machine.{Machine}
use Rattle.dm_machine.specs.Events as client
use Rattle.dm_machine.specs.History as client_runs
use Rattle.dm_machine.specs.Ready.{IsReadyMachine, IsReadyEvent}
use Rattle.dm_machine.proofs.StaysReady.{stays_ready as client_stays}
use Rattle.dm_machine.proofs.Accounts.{accounts_stay}
use Rattle.dm_service.specs.Ready.{IsReadyService}
use Rattle.dm_service.proofs.First.{first_is_ready}
use Rattle.dm_service.proofs.Stays.{stays_ready as server_stays}
use Rattle.dm_service.specs.Events.{arrival}
use Rattle.dm_world.specs.World.{World, Reply, Happening, opens, up_comes, down_comes, update_ends, clock_moves}
use Rattle.dm_world.specs.World.{is_lost, finds_no_memory, said, client_has, down_delivered, up_delivered}
use Rattle.dm_world.specs.World.{happens, run}
use Rattle.dm_world.specs.Start.{at_start, IsWorldStart, IsNonce, IsInRange, IsSchedule}
use Rattle.dm_world.specs.Held.{IsReadBack, ReadsTheSent}
use Rattle.dm_world.proofs.Lists.{Each, each-within, each-new, picked}
use Rattle.dm_world.proofs.Ranges.{IsShortHeld, AllEntryRange}
use Rattle.dm_world.proofs.RangedRuns.{GroupRange}
use Rattle.dm_world.proofs.RangedClient.{Ranged, Moves, message-moves, opened-moves, act-moves, clock-moves, loss-moves}
use Rattle.dm_world.proofs.RangedServer.{JobGoes, JobsGo, Stock, arrival-moves}

-- ---- the world

pub record Reads (many : ℕ) (w : World) : Type 0 where
  pub client : IsReadyMachine w.client
  pub accounts : length w.client.accounts ≡ many
  pub ranged : Ranged w.client
  pub server : IsReadyService w.server
  pub stock : Stock w.server
  pub downs : Each (λ (d : Reply). IsShortHeld d.message) w.downs
  pub ups : Each IsShortHeld w.ups

arrives : (m : Parts) (nonce : List ℕ) → IsShortHeld m → IsNonce nonce → IsReadyMessage m nonce
arrives m nonce h is =
    record { fit = h.held.fit; numbers = h.held.numbers; nonce_long = is.long; nonce_bytes = is.bytes }

client-reads : (many : ℕ) (w : World) (e : client.Event) → Reads many w → IsReadyEvent w.client e → Moves w.client e
    → Reads many (client_has w e)
client-reads many w e h is moves = record {
  client = client_stays w.client e h.client is;
  accounts = accounts_stay w.client e ∙ h.accounts;
  ranged = moves.0;
  server = h.server;
  stock = h.stock;
  downs = h.downs;
  ups = each-new IsShortHeld w.ups (said (client_runs.answer_now w.client e)) h.ups moves.1;
}

up-reads : (many : ℕ) (w : World) (o : Option Parts) (k : ℕ) (nonce : List ℕ) → slice_get w.ups k ≡ o → IsNonce nonce
    → Reads many w
    → Reads many (up_delivered w o nonce)
up-reads many w None k nonce e is h = h
up-reads many w (Some m) k nonce e is h =
    let message = arrives m nonce (each-within IsShortHeld w.ups m h.ups (picked w.ups k m e)) is in
    let moves = arrival-moves w.server m nonce message h.server h.stock in
    record {
      client = h.client;
      accounts = h.accounts;
      ranged = h.ranged;
      server = server_stays w.server (arrival m nonce) h.server message;
      stock = moves.0;
      downs = each-new (λ (d : Reply). IsShortHeld d.message) w.downs _ h.downs moves.1;
      ups = h.ups;
    }

down-reads : (many : ℕ) (w : World) (o : Option Reply) (k : ℕ) (nonce : List ℕ) → slice_get w.downs k ≡ o
    → IsNonce nonce
    → Reads many w
    → Reads many (down_delivered w o nonce)
down-reads many w None k nonce e is h = h
down-reads many w (Some d) k nonce e is h =
    let sent = each-within (λ (d : Reply). IsShortHeld d.message) w.downs d h.downs (picked w.downs k d e) in
    let message = arrives d.message nonce sent is in
    let x =
    client-reads many w (client.message (Ok d.message) nonce) h message
    (message-moves w.client d.message nonce h.client message h.ranged) in
    record {
      client = x.client;
      accounts = x.accounts;
      ranged = x.ranged;
      server = x.server;
      stock = x.stock;
      downs = x.downs;
      ups = x.ups;
    }

happens-reads : (c : Machine) (w : World) (e : Happening) → IsInRange c e → Reads (length c.accounts) w
    → Reads (length c.accounts) (happens w e)
unfolding happens
happens-reads c w (opens account kind n) r h =
    let few = r.0 in
    let same = h.accounts in
    let low : account < length w.client.accounts = omega (arith, few, same) in
    client-reads (length c.accounts) w (client.opened account kind n) h (low, r.1)
    (opened-moves w.client account kind n h.client low r.1 h.ranged)
happens-reads c w (up_comes k nonce) r h = up-reads (length c.accounts) w (slice_get w.ups k) k nonce refl r h
happens-reads c w (down_comes k nonce) r h = down-reads (length c.accounts) w (slice_get w.downs k) k nonce refl r h
happens-reads c w (update_ends ok) r h =
    client-reads (length c.accounts) w (client.act ok) h tt (act-moves w.client ok h.ranged)
happens-reads c w (clock_moves stamp) r h =
    client-reads (length c.accounts) w (client.clock stamp) h r (clock-moves w.client stamp h.ranged)
happens-reads c w is_lost r h = client-reads (length c.accounts) w client.loss h tt (loss-moves w.client h.ranged)
happens-reads c w finds_no_memory r h = h

run-reads : (c : Machine) (w : World) (es : List Happening) → IsSchedule c es → Reads (length c.accounts) w
    → Reads (length c.accounts) (run w es)
run-reads c w [] r h = h
run-reads c w (e ∷ es) r h = run-reads c (happens w e) es r.1 (happens-reads c w e r.0 h)

-- ---- the beginning

jobs-go : (es : List JobEntry) → AllByRecursion CanBeSent es
    → AllByRecursion (λ (e : JobEntry). CommandRange e.command) es
    → AllByRecursion JobGoes es
jobs-go [] h k = tt
jobs-go (e ∷ es) h k = ((h.0.ready, k.0), jobs-go es h.1 k.1)

start-reads : (c : Machine) (job : Job) → IsWorldStart c job → Reads (length c.accounts) (at_start c job)
start-reads c job h =
    let server = first_is_ready job h.sound in
    let all : JobsGo job.packages = jobs-go (all_entries job.packages) h.sound.entries h.numbers in
    record {
      client = h.ready;
      accounts = refl;
      ranged = record {
        queue = subst AllEntryRange (sym h.empty) tt;
        engine = subst (λ (g : Option Group). IfSome g GroupRange) (sym h.no_group) tt;
      };
      server = server;
      stock = record {
        limits = server.limits;
        account = server.account;
        job = all;
        packages = all;
        newest = tt;
        queue = tt;
      };
      downs = tt;
      ups = tt;
    }

pub all-read : (c : Machine) (job : Job) (hs : List Happening) → IsWorldStart c job → IsSchedule c hs
    → Reads (length c.accounts) (run (at_start c job) hs)
all-read c job hs start range = run-reads c (at_start c job) hs range (start-reads c job start)

-- ---- the law

read-again : (m : Parts) → IsShortHeld m → IsReadBack m
read-again m h = record {
  held = h.held;
  read = spelled_read (canonical m) m (canonical_spells m h.held.fit h.held.numbers h.short);
}

pub reads_the_sent : ReadsTheSent
reads_the_sent c job hs start range =
    let w = run (at_start c job) hs in
    let h = all-read c job hs start range in
    record {
      client_end = λ k d e.
          read-again d.message
          (each-within (λ (d : Reply). IsShortHeld d.message) w.downs d h.downs (picked w.downs k d e));
      server_end = λ k m e. read-again m (each-within IsShortHeld w.ups m h.ups (picked w.ups k m e));
    }
