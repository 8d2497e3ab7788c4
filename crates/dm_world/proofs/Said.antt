-- What the server holds of codes and values was told in messages of the client.
use Rattle.std.proofs.Common.{zero, suc, ◌≡◌, ◌==◌, ℕ, List, [], ◌∷◌, Option, None, Some}
use Rattle.std.proofs.Common.{refl, ◌∙◌, ap, subst, arith, ◌⊎◌, inl, inr, get_or, replicate}
use Rattle.std.specs.Prelude.{Ok, slice_get, ◌++◌, map}
use Rattle.std.specs.List.{Contains}
use Rattle.syncml_types.specs.declared.command.Step.{Step}
use Rattle.syncml_types.specs.declared.command.Command.TheVariants as command
use Rattle.syncml_types.specs.Message.{Parts}
use Rattle.dm_base.specs.declared.values.Limits.{Limits}
use Rattle.dm_job.specs.declared.job.Job.{Job}
use Rattle.dm_job.specs.Sound.{all_entries}
use Rattle.dm_machine.specs.Machine.{Machine}
use Rattle.dm_machine.specs.Events as client
use Rattle.dm_machine.specs.History as client_runs
use Rattle.dm_service.specs.Service.{Told, Session, Service}
use Rattle.dm_service.specs.Matching.{untold, result_piece}
use Rattle.dm_service.specs.Packages.{commands_in}
use Rattle.dm_service.specs.Messages.{begins, first_session}
use Rattle.dm_service.specs.Messages.{accepts}
use Rattle.dm_service.specs.Events as server
use Rattle.dm_service.specs.History as server_runs
use Rattle.dm_objects.specs.Laws.{gather_all}
use Rattle.dm_service.specs.Pieces.{still_sent, pieces_in}
use Rattle.dm_service.specs.Laws.{code_at, found_at}
use Rattle.dm_service.proofs.Codes.{codes_are_told}
use Rattle.dm_service.proofs.Limits.{limit-stays}
use Rattle.dm_service.proofs.Values.{values_are_found, stands-in}
use Rattle.dm_service.specs.Events.{arrival}
use Rattle.dm_world.specs.World.{World, Reply, Happening, opens, up_comes, down_comes, update_ends, clock_moves}
use Rattle.dm_world.specs.World.{is_lost}
use Rattle.dm_world.specs.World.{finds_no_memory, with_new, said, client_has, down_delivered, up_delivered}
use Rattle.dm_world.specs.World.{happens, run}
use Rattle.dm_world.specs.Start.{at_start}
use Rattle.dm_world.proofs.Lists.{either}
use Rattle.dm_world.specs.Report.{TellsCode, TellsValue, WasSent, ReportsWhatWasSaid, ReportsTheSaid}

-- ---- a message at the server

-- what a service holds more than another was told in this message
pub record Tells (max : ℕ) (v x : Service) (m : Parts) : Type 0 where
  pub codes : (place code : ℕ) → code_at x.told place ≡ Some code
      → (code_at v.told place ≡ Some code) ⊎ TellsCode m code
  pub values : (place : ℕ) (value : Step) → Contains (found_at x.told place) value
      → Contains (found_at v.told place) value ⊎ TellsValue max m value
  pub limit : x.job.limits.max_obj ≡ v.job.limits.max_obj

itself : (max : ℕ) (v : Service) (m : Parts) → Tells max v v m
itself max v m = record { codes = λ place code h. inl h; values = λ place value h. inl h; limit = refl }

or-map : {A B D : Type 0} → A ⊎ B → (B → D) → A ⊎ D
or-map (inl a) f = inl a
or-map (inr b) f = inr (f b)

-- ---- what a message tells

accepts-tells : (v : Service) (s : Session) (m : Parts) (nonce : List ℕ)
    → Tells v.job.limits.max_obj v (accepts v s m nonce) m
accepts-tells v s m nonce = record {
  codes = λ place code h.
      or-map (codes_are_told v s m nonce place code h)
      (λ t. record { status = t.0.status; within = t.0.within; code_is = t.0.code_is });
  values = λ place value h.
      or-map (values_are_found v s m nonce place value h)
      (λ t. record {
        results = t.0.results;
        within = stands-in t.0.front (command.Results t.0.results) t.0.behind m.body t.0.stands;
        item = t.0.item;
        item_within = stands-in t.0.earlier t.0.item t.0.later t.0.results.items t.0.items_are;
        object = gather_all v.job.limits.max_obj s.object
            (pieces_in (still_sent v s m nonce) t.0.front ++ map (result_piece t.0.results) t.0.earlier);
        whole = t.0.whole;
      });
  limit = ap (λ (l : Limits). l.max_obj) (limit-stays v s m nonce);
}

-- a session that begins forgets nothing
begins-tells : (v : Service) (n : ℕ) (m : Parts) (nonce : List ℕ)
    → Tells v.job.limits.max_obj v (server.opens_session v n m nonce) m
begins-tells v n m nonce =
    let x = accepts-tells (begins v n) (first_session v.job.account n) m nonce in
    record { codes = x.codes; values = x.values; limit = x.limit }

in-tells : (v : Service) (o : Option Session) (n : ℕ) (m : Parts) (nonce : List ℕ)
    → Tells v.job.limits.max_obj v (server.after_in_session v o n m nonce) m
in-tells v None n m nonce = begins-tells v n m nonce
in-tells v (Some s) n m nonce =
    either (λ (x : Service). Tells v.job.limits.max_obj v x m) (s.progress.number == n) (accepts-tells v s m nonce)
    (begins-tells v n m nonce)

as-tells : (v : Service) (o : Option ℕ) (m : Parts) (nonce : List ℕ)
    → Tells v.job.limits.max_obj v (server.after_number v o m nonce) m
as-tells v None m nonce = itself v.job.limits.max_obj v m
as-tells v (Some n) m nonce = in-tells v v.session n m nonce

next-tells : (v : Service) (m : Parts) (nonce : List ℕ)
    → Tells v.job.limits.max_obj v (server_runs.next v (arrival m nonce)) m
unfolding server_runs.next server.takes server.after
next-tells v m nonce =
    either (λ (x : Service). Tells v.job.limits.max_obj v x m) (server.takes_message v m)
    (as-tells v (server.number_of m) m nonce) (itself v.job.limits.max_obj v m)

-- ---- the world

record Holds (max : ℕ) (w : World) : Type 0 where
  said_so : ReportsWhatWasSaid max w
  limit : w.server.job.limits.max_obj ≡ max

sent-later : (IsSo : Parts → Type 0) (ups : List Parts) (m : Option Parts) → WasSent ups IsSo
    → WasSent (with_new ups m) IsSo
sent-later IsSo ups None h = h
sent-later IsSo ups (Some m) h =
    record { at = suc h.at; message = h.message; was_sent = h.was_sent; is_so = h.is_so }

client-holds : (max : ℕ) (w : World) (e : client.Event) → Holds max w → Holds max (client_has w e)
client-holds max w e h = record {
  said_so = record {
    codes = λ place code k.
        sent-later (λ m. TellsCode m code) w.ups (said (client_runs.answer_now w.client e))
        (h.said_so.codes place code k);
    values = λ place value k.
        sent-later (λ m. TellsValue max m value) w.ups (said (client_runs.answer_now w.client e))
        (h.said_so.values place value k);
  };
  limit = h.limit;
}

up-holds : (max : ℕ) (w : World) (k : ℕ) (o : Option Parts) (nonce : List ℕ) → slice_get w.ups k ≡ o → Holds max w
    → Holds max (up_delivered w o nonce)
up-holds max w k None nonce e h = h
up-holds max w k (Some m) nonce e h =
    let x = subst (λ i. Tells i w.server (server_runs.next w.server (arrival m nonce)) m) h.limit
    (next-tells w.server m nonce) in
    record {
      said_so = record {
        codes = λ place code q. code-by place code (x.codes place code q);
        values = λ place value q. value-by place value (x.values place value q);
      };
      limit = x.limit ∙ h.limit;
    }
  where
    code-by : (place code : ℕ) → (code_at w.server.told place ≡ Some code) ⊎ TellsCode m code
        → WasSent w.ups (λ m. TellsCode m code)
    code-by place code (inl q) = h.said_so.codes place code q
    code-by place code (inr q) = record { at = k; message = m; was_sent = e; is_so = q }

    value-by : (place : ℕ) (value : Step) → Contains (found_at w.server.told place) value ⊎ TellsValue max m value
        → WasSent w.ups (λ m. TellsValue max m value)
    value-by place value (inl q) = h.said_so.values place value q
    value-by place value (inr q) = record { at = k; message = m; was_sent = e; is_so = q }

down-holds : (max : ℕ) (w : World) (d : Option Reply) (nonce : List ℕ) → Holds max w
    → Holds max (down_delivered w d nonce)
down-holds max w None nonce h = h
down-holds max w (Some d) nonce h =
    let x = client-holds max w (client.message (Ok d.message) nonce) h in
    record { said_so = record { codes = x.said_so.codes; values = x.said_so.values }; limit = x.limit }

happens-holds : (max : ℕ) (w : World) (e : Happening) → Holds max w → Holds max (happens w e)
unfolding happens
happens-holds max w (opens account kind n) h = client-holds max w (client.opened account kind n) h
happens-holds max w (up_comes k nonce) h = up-holds max w k (slice_get w.ups k) nonce refl h
happens-holds max w (down_comes k nonce) h = down-holds max w (slice_get w.downs k) nonce h
happens-holds max w (update_ends ok) h = client-holds max w (client.act ok) h
happens-holds max w (clock_moves stamp) h = client-holds max w (client.clock stamp) h
happens-holds max w is_lost h = client-holds max w client.loss h
happens-holds max w finds_no_memory h = h

run-holds : (max : ℕ) (w : World) (hs : List Happening) → Holds max w → Holds max (run w hs)
run-holds max w [] h = h
run-holds max w (e ∷ es) h = run-holds max (happens w e) es (happens-holds max w e h)

-- at first nothing was told
untold-at : (n place : ℕ) → get_or (replicate n untold) place untold ≡ untold
untold-at zero place = refl
untold-at (suc n) zero = refl
untold-at (suc n) (suc place) = untold-at n place

start-holds : (c : Machine) (job : Job) → Holds job.limits.max_obj (at_start c job)
start-holds c job = record {
  said_so = record {
    codes = λ place code h.
        absurd (let e = ap (λ (t : Told). t.code) (untold-at (commands_in (all_entries job.packages)) place) in cc);
    values = λ place value h.
        absurd (none value (subst (λ xs. Contains xs value)
        (ap (λ (t : Told). t.found) (untold-at (commands_in (all_entries job.packages)) place)) h));
  };
  limit = refl;
}
  where
    none : (value : Step) → Contains [] value → ⊥
    none value h = let low = h.1 in omega (arith, low)

pub reports_the_said : ReportsTheSaid
reports_the_said c job hs = (run-holds job.limits.max_obj (at_start c job) hs (start-holds c job)).said_so
