-- Each value that the server holds at a place is one that the client found for what it executed for this place.
use Rattle.std.proofs.Common.{◌≡◌, ◌≤◌, ℕ, List, [], ◌∷◌, ◌++◌, replicate, get_or, Option, None, Some, refl}
use Rattle.std.proofs.Common.{sym, ◌∙◌, subst, arith, ◌⊎◌, inl, inr, append_assoc, zero, suc}
use Rattle.std.specs.Prelude.{slice_get}
use Rattle.std.specs.List.{Contains}
use Rattle.std.proofs.lemmas.List.{append-nil}
use Rattle.std.proofs.lemmas.List.Elements.{Contains-append_left}
use Rattle.syncml_types.specs.declared.command.Step.{Step}
use Rattle.syncml_types.specs.declared.command.ResultsCmd.{ResultsCmd}
use Rattle.syncml_types.specs.declared.command.Command.{Command}
use Rattle.syncml_types.specs.declared.command.Command.TheVariants as command
use Rattle.syncml_types.specs.Message.{Parts}
use Rattle.dm_atomic.specs.Made.{Made, Result}
use Rattle.dm_ends.specs.Commands.{session_of, origin_of}
use Rattle.dm_job.specs.declared.job.Job.{Job}
use Rattle.dm_job.specs.Sound.{all_entries}
use Rattle.dm_machine.specs.Machine.{Machine}
use Rattle.dm_service.specs.Service.{Told, Session as Serving}
use Rattle.dm_service.specs.Matching.{untold}
use Rattle.dm_service.specs.Packages.{commands_in}
use Rattle.dm_service.specs.Laws.{found_at}
use Rattle.dm_service.proofs.Codes.{first_in, later_in}
use Rattle.dm_world.specs.Deeds.{Deed, all_deeds}
use Rattle.dm_world.specs.World.{InSession, World, Reply, Happening, opens, up_comes, down_comes, update_ends}
use Rattle.dm_world.specs.World.{clock_moves, is_lost, finds_no_memory, down_delivered, up_delivered, happens, run}
use Rattle.dm_world.specs.Start.{at_start, IsWorldStart, IsInRange, IsSchedule}
use Rattle.dm_world.specs.Acts.{deeds_acts, job_acts}
use Rattle.dm_world.specs.Commands.{SaysWhatItFound}
use Rattle.dm_world.specs.Places.{IsExecutedAt, IsFoundAt, ValuesAreFoundByPlace}
use Rattle.dm_world.proofs.Lists.{Each, each-within, picked}
use Rattle.dm_world.proofs.Numbers.{session_number}
use Rattle.dm_world.proofs.Lockstep.{UpOk, DownOk, Holds}
use Rattle.dm_world.proofs.Happens.{InRange, schedule-range}
use Rattle.dm_world.proofs.Ranges.{all-first}
use Rattle.dm_world.proofs.SaysMade.{each-contains, says_the_found}
use Rattle.dm_world.proofs.Answered.{answers_the_executed, executes_the_sent}
use Rattle.dm_world.proofs.GivenCodes.{IsOf, all-of, said-number, down-read}
use Rattle.dm_world.proofs.InOrder.{all-fair}
use Rattle.dm_world.proofs.ToldMade.{IsMore, run-snoc, made-snoc}
use Rattle.dm_world.proofs.PlacedCodes.{IsMoreDone, done-snoc, at-later, done-at}
use Rattle.dm_world.proofs.Position.{sent_by}
use Rattle.dm_world.proofs.Flows.{Going, WasFoundAs, IsSilent, FoundNone}
use Rattle.dm_world.proofs.Paired.{all-pairs}
use Rattle.dm_world.proofs.Holding.{Keeps}
use Rattle.dm_world.proofs.ServerKeeps.{Beside, CameNow, Values, serve-keeps}
use Rattle.dm_world.proofs.ClientKeeps.{begins-keeps, act-keeps, clock-keeps, loss-keeps, message-keeps}

-- ---- what was found was found for a message that the server has sent

-- a message of the server that it has, and no later one
message-low : (w : World) (y : Serving) (r : Reply) (at : ℕ) (d : Deed) → w.server.session ≡ Some y
    → Holds w.client.begun w.client.session w.server.session w.downs w.ups
    → slice_get w.downs at ≡ Some r
    → session_of r.message ≡ Some y.progress.number
    → Contains (all_deeds (origin_of r.message) r.message.body) d
    → d.post.msg ≤ sent_by y
message-low w y r at d e h p s k =
    let ok = each-within (DownOk w.server.session w.ups) w.downs r h.downs_ok (picked w.downs at r p) in
    let read = down-read w.server.session w.ups r ok in
    let fine = subst (λ o. DownOk o w.ups r) e ok in
    let number = said-number r y.progress.number read s in
    let low = fine.own_is number in
    let is = each-contains (IsOf (origin_of r.message)) (all_deeds (origin_of r.message) r.message.body) d
    (all-of (origin_of r.message) r.message.body) k in
    omega (arith, low, is)

found-low : (c : Machine) (job : Job) (hs : List Happening) (z : Going) (y : Serving) → IsWorldStart c job
    → IsSchedule c hs
    → (run (at_start c job) hs).server.session ≡ Some y
    → WasFoundAs (run (at_start c job) hs).made y.progress.number z
    → z.msg ≤ sent_by y
found-low c job hs z y start range e f =
    let w = run (at_start c job) hs in
    let n = y.progress.number in
    let status = all-pairs c job hs n f.post z.found f.within in
    let done =
    answers_the_executed c job hs n f.post.msg f.post.command status.0 start range
    (record { post = f.post; within = status.1; msg_is = refl; command_is = refl }) in
    let stands =
    executes_the_sent c job hs (record { session = n; what = done.deed }) start range done.within in
    let low =
    message-low w y stands.reply stands.at done.deed e (all-fair c job hs start range).sound stands.was_sent
    stands.session_is stands.within in
    let post = f.msg_is in
    let deed = done.msg_is in
    omega (arith, low, post, deed)

-- ---- a message of a session in which nothing was found

silent-by : (cs : List Command) → ((r : ResultsCmd) → Contains cs (command.Results r) → ⊥) → Each IsSilent cs
silent-by [] h = tt
silent-by (command.Results r ∷ cs) h = absurd (h r (first_in (command.Results r) cs))
silent-by (command.Plain p ∷ cs) h =
    (tt, silent-by cs (λ r k. h r (later_in (command.Results r) (command.Plain p) cs k)))
silent-by (command.Alert a ∷ cs) h =
    (tt, silent-by cs (λ r k. h r (later_in (command.Results r) (command.Alert a) cs k)))
silent-by (command.Atomic b ∷ cs) h =
    (tt, silent-by cs (λ r k. h r (later_in (command.Results r) (command.Atomic b) cs k)))
silent-by (command.Sequence b ∷ cs) h =
    (tt, silent-by cs (λ r k. h r (later_in (command.Results r) (command.Sequence b) cs k)))
silent-by (command.Status s ∷ cs) h =
    (tt, silent-by cs (λ r k. h r (later_in (command.Results r) (command.Status s) cs k)))

up-silent : (w : World) (k : ℕ) (u : Parts) → slice_get w.ups k ≡ Some u
    → session_of u ≡ Some (session_number u)
    → SaysWhatItFound w
    → FoundNone w.made (session_number u)
    → Each IsSilent u.body
up-silent w k u e read says none =
    silent-by u.body
    (λ r within.
    (let x = says k u (session_number u) r e read within in none x.post x.found x.within))

-- ---- the world

abbrev KeepsWorld : World → Type 0
KeepsWorld w = Keeps w.client w.server w.ups w.made (deeds_acts w.executed)

beside-of : (c : Machine) (job : Job) (hs : List Happening) (k : ℕ) (u : Parts) → IsWorldStart c job → IsSchedule c hs
    → slice_get (run (at_start c job) hs).ups k ≡ Some u
    → KeepsWorld (run (at_start c job) hs)
    → Beside (job_acts job.packages) (deeds_acts (run (at_start c job) hs).executed) (run (at_start c job) hs).client
    (run (at_start c job) hs).server (run (at_start c job) hs).downs (run (at_start c job) hs).ups
    (run (at_start c job) hs).made u
beside-of c job hs k u start range e h =
    let w = run (at_start c job) hs in
    let fair = all-fair c job hs start range in
    let within = picked w.ups k u e in
    let ok = each-within (UpOk w.client.begun w.server.session) w.ups u fair.sound.ups_ok within in
    record {
      holds = fair.sound;
      placed = fair.placed;
      keeps = h;
      within = within;
      silent = up-silent w k u e ok.read.told (says_the_found c job hs start range);
      low = λ z y f g. found-low c job hs z y start range f g;
    }

down-values : (w : World) (o : Option Reply) (nonce : List ℕ) → Values w.made w.server (down_delivered w o nonce).server
down-values w None nonce place value k = inl k
down-values w (Some d) nonce place value k = inl k

-- what an event leaves, and the values that came with it
record Kept (w x : World) : Type 0 where
  keeps : KeepsWorld x
  values : Values w.made w.server x.server

same-values : (w : World) → Values w.made w.server w.server
same-values w place value k = inl k

up-keeps : (c : Machine) (job : Job) (hs : List Happening) (k : ℕ) (o : Option Parts) (nonce : List ℕ)
    → IsWorldStart c job
    → IsSchedule c hs
    → slice_get (run (at_start c job) hs).ups k ≡ o
    → KeepsWorld (run (at_start c job) hs)
    → Kept (run (at_start c job) hs) (up_delivered (run (at_start c job) hs) o nonce)
up-keeps c job hs k None nonce start range e h = record { keeps = h; values = same-values (run (at_start c job) hs) }
up-keeps c job hs k (Some u) nonce start range e h =
    let w = run (at_start c job) hs in
    let x =
    serve-keeps (job_acts job.packages) (deeds_acts w.executed) w.client w.server w.downs w.ups w.made u nonce
    (beside-of c job hs k u start range e h) in
    record { keeps = x.keeps; values = x.values }

down-keeps : (c : Machine) (job : Job) (hs : List Happening) (k : ℕ) (o : Option Reply) (nonce : List ℕ)
    → IsWorldStart c job
    → IsSchedule c hs
    → slice_get (run (at_start c job) hs).downs k ≡ o
    → KeepsWorld (run (at_start c job) hs)
    → KeepsWorld (down_delivered (run (at_start c job) hs) o nonce)
down-keeps c job hs k None nonce start range e h = h
down-keeps c job hs k (Some d) nonce start range e h =
    let w = run (at_start c job) hs in
    let fair = all-fair c job hs start range in
    message-keeps (job_acts job.packages) w.executed w.client w.server w.downs w.ups w.made k d nonce e fair.sound
    fair.placed fair.ready h

happens-keeps : (c : Machine) (job : Job) (hs : List Happening) (e : Happening) → IsWorldStart c job → IsSchedule c hs
    → InRange e
    → KeepsWorld (run (at_start c job) hs)
    → Kept (run (at_start c job) hs) (happens (run (at_start c job) hs) e)
unfolding happens
happens-keeps c job hs (opens account kind n) start range r h =
    let w = run (at_start c job) hs in
    record {
      keeps =
          begins-keeps w.client w.server w.ups w.made (deeds_acts w.executed) account kind n
          (all-fair c job hs start range).sound.server_ok r h;
      values = same-values w;
    }
happens-keeps c job hs (up_comes k nonce) start range r h =
    up-keeps c job hs k (slice_get (run (at_start c job) hs).ups k) nonce start range refl h
happens-keeps c job hs (down_comes k nonce) start range r h =
    let w = run (at_start c job) hs in
    record {
      keeps = down-keeps c job hs k (slice_get w.downs k) nonce start range refl h;
      values = down-values w (slice_get w.downs k) nonce;
    }
happens-keeps c job hs (update_ends ok) start range r h =
    let w = run (at_start c job) hs in
    record {
      keeps = act-keeps w.client w.server w.ups w.made (deeds_acts w.executed) ok h;
      values = same-values w;
    }
happens-keeps c job hs (clock_moves stamp) start range r h =
    let w = run (at_start c job) hs in
    record {
      keeps = clock-keeps w.client w.server w.ups w.made (deeds_acts w.executed) stamp h;
      values = same-values w;
    }
happens-keeps c job hs is_lost start range r h =
    let w = run (at_start c job) hs in
    record {
      keeps = loss-keeps w.client w.server w.ups w.made (deeds_acts w.executed) h;
      values = same-values w;
    }
happens-keeps c job hs finds_no_memory start range r h =
    record { keeps = h; values = same-values (run (at_start c job) hs) }

-- at first nothing was made, sent and told
start-keeps : (c : Machine) (job : Job) → IsWorldStart c job → KeepsWorld (at_start c job)
start-keeps c job h = record {
  low = λ x k. none k;
  none_yet = λ y e. absurd (cc);
  unmade = λ e n post found k. none k;
  before = λ k n e l. absurd (cc);
  client = λ s e. absurd (let z = h.unused.1 in cc);
  pends = λ u w. absurd w;
}
  where
    none : {A : Type 0} {x : A} → Contains [] x → ⊥
    none k = let low = k.1 in omega (arith, low)

-- ---- each value

now-found : (c : Machine) (job : Job) (hs : List Happening) (place : ℕ) (value : Step) → IsWorldStart c job
    → IsSchedule c hs
    → CameNow (run (at_start c job) hs).made (run (at_start c job) hs).server place value
    → IsFoundAt (run (at_start c job) hs) place value
now-found c job hs place value start range h =
    let w = run (at_start c job) hs in
    let n = h.session.progress.number in
    let y = h.new.command in
    let post = h.new.post in
    let status = all-pairs c job hs n post h.new.found h.new.within in
    let done =
    answers_the_executed c job hs n y.msg y.command status.0 start range
    (record { post = post; within = status.1; msg_is = h.new.msg_is; command_is = h.new.command_is }) in
    let at = done-at c job hs h.session y start range h.is_open h.new.was_sent done in
    record {
      k = at.k;
      deed = at.deed;
      executed = subst (λ p. IsExecutedAt w.executed at.k p at.deed) h.new.place_is at.at;
      post = post;
      found = h.new.found;
      within =
          subst (λ i. Contains w.made (record { session = i; what = Result post h.new.found })) (sym at.session)
          h.new.within;
      msg_is = h.new.msg_is ∙ sym at.msg_is;
      command_is = h.new.command_is ∙ sym at.command_is;
      value_is = h.new.value_is;
    }

more-contains : (made all : List (InSession Made)) (x : InSession Made) → IsMore made all → Contains made x
    → Contains all x
more-contains made all x m h = subst (λ l. Contains l x) (sym m.1) (Contains-append_left made m.0 x h)

later-value : (w x : World) (place : ℕ) (value : Step) → IsMore w.made x.made → IsMoreDone w.executed x.executed
    → IsFoundAt w place value
    → IsFoundAt x place value
later-value w x place value more done h = record {
  k = h.k;
  deed = h.deed;
  executed = at-later w.executed x.executed h.k place h.deed done h.executed;
  post = h.post;
  found = h.found;
  within = more-contains w.made x.made _ more h.within;
  msg_is = h.msg_is;
  command_is = h.command_is;
  value_is = h.value_is;
}

record Traced (c : Machine) (job : Job) (hs : List Happening) : Type 0 where
  keeps : KeepsWorld (run (at_start c job) hs)
  values : (place : ℕ) (value : Step) → Contains (found_at (run (at_start c job) hs).server.told place) value
      → IsFoundAt (run (at_start c job) hs) place value

step-range : (c : Machine) (done : List Happening) (e : Happening) → IsSchedule c (done ++ e ∷ []) → InRange e
step-range c done e range = of done (schedule-range c (done ++ e ∷ []) range)
  where
    of : (done : List Happening) → Each InRange (done ++ e ∷ []) → InRange e
    of [] h = h.0
    of (x ∷ xs) h = of xs h.1

step-traced : (c : Machine) (job : Job) (done : List Happening) (e : Happening) → IsWorldStart c job
    → IsSchedule c (done ++ e ∷ [])
    → Traced c job done
    → Traced c job (done ++ e ∷ [])
step-traced c job done e start all h =
    let w = run (at_start c job) done in
    let range = all-first (IsInRange c) done (e ∷ []) all in
    let kept = happens-keeps c job done e start range (step-range c done e all) h.keeps in
    let same = run-snoc (at_start c job) done e in
    record {
      keeps = subst KeepsWorld (sym same) kept.keeps;
      values = λ place value k.
          later-value w (run (at_start c job) (done ++ e ∷ [])) place value
          (made-snoc (at_start c job) done e) (done-snoc (at_start c job) done e)
          (by place value
          (kept.values place value
          (subst (λ (x : World). Contains (found_at x.server.told place) value) same k)));
    }
  where
    by : (place : ℕ) (value : Step)
        → Contains (found_at (run (at_start c job) done).server.told place) value
        ⊎ CameNow (run (at_start c job) done).made (run (at_start c job) done).server place value
        → IsFoundAt (run (at_start c job) done) place value
    by place value (inl x) = h.values place value x
    by place value (inr x) =
        now-found c job done place value start (all-first (IsInRange c) done (e ∷ []) all) x

all-traced : (c : Machine) (job : Job) (done es : List Happening) → IsWorldStart c job → IsSchedule c (done ++ es)
    → Traced c job done
    → Traced c job (done ++ es)
all-traced c job done [] start range h = subst (Traced c job) (sym (append-nil done)) h
all-traced c job done (e ∷ es) start range h =
    let split : (done ++ e ∷ []) ++ es ≡ done ++ e ∷ es = append_assoc done (e ∷ []) es in
    subst (Traced c job) split
    (all-traced c job (done ++ e ∷ []) es start (subst (IsSchedule c) (sym split) range)
    (step-traced c job done e start
    (all-first (IsInRange c) (done ++ e ∷ []) es (subst (IsSchedule c) (sym split) range)) h))

-- at first nothing was told
untold-at : (n place : ℕ) → get_or (replicate n untold) place untold ≡ untold
untold-at zero place = refl
untold-at (suc n) zero = refl
untold-at (suc n) (suc place) = untold-at n place

start-traced : (c : Machine) (job : Job) → IsWorldStart c job → Traced c job []
start-traced c job start = record {
  keeps = start-keeps c job start;
  values = λ place value h.
      absurd
      (none
      (subst (λ (t : Told). Contains t.found value) (untold-at (commands_in (all_entries job.packages)) place) h));
}
  where
    none : {A : Type 0} {x : A} → Contains [] x → ⊥
    none k = let low = k.1 in omega (arith, low)

pub values_are_found_by_place : ValuesAreFoundByPlace
values_are_found_by_place c job hs place value start range h =
    (all-traced c job [] hs start range (start-traced c job start)).values place value h
