-- Each code that the server holds at a place was given by the client to what it executed for this place.
use Rattle.std.proofs.Common.{zero, suc, ◌≡◌, ◌-◌, ℕ, Bool, true, List, [], ◌∷◌, ◌++◌, replicate, get_or, Option, None}
use Rattle.std.proofs.Common.{Some, IfSome, refl, sym, ◌∙◌, ap, subst, arith, ◌⊎◌, inl, inr, append_assoc}
use Rattle.std.specs.Prelude.{slice_get}
use Rattle.std.specs.List.{Contains}
use Rattle.std.proofs.lemmas.List.{append-nil}
use Rattle.syncml_types.specs.Message.{Parts}
use Rattle.dm_atomic.specs.Made.{Status}
use Rattle.dm_job.specs.declared.job.Job.{Job}
use Rattle.dm_job.specs.declared.job.JobEntry.{JobEntry}
use Rattle.dm_job.specs.Sound.{all_entries}
use Rattle.dm_machine.specs.Machine.{Machine}
use Rattle.dm_service.specs.declared.sent.Sent.{Sent}
use Rattle.dm_service.specs.Service.{Told, Session}
use Rattle.dm_service.specs.Matching.{untold}
use Rattle.dm_service.specs.Packages.{commands_in}
use Rattle.dm_world.specs.Acts.{job_acts}
use Rattle.dm_world.specs.Deeds.{Deed}
use Rattle.dm_world.specs.World.{InSession, World, Reply, Happening, opens, up_comes, down_comes, update_ends}
use Rattle.dm_world.specs.World.{clock_moves, is_lost, finds_no_memory, deeds_by, down_delivered, up_delivered}
use Rattle.dm_world.specs.World.{happens, run}
use Rattle.dm_world.specs.Start.{at_start, IsWorldStart, IsInRange, IsSchedule}
use Rattle.dm_world.specs.Commands.{WasMade, WasExecuted, IsWholeDeed}
use Rattle.dm_world.specs.Places.{IsExecutedAt, CodesAreGivenByPlace}
use Rattle.dm_world.proofs.Ranges.{all-first}
use Rattle.dm_world.proofs.Happens.{run-sound, start-sound, schedule-range}
use Rattle.dm_world.proofs.SaysMade.{says_the_made}
use Rattle.dm_world.proofs.Answered.{answers_the_executed, executes_the_sent}
use Rattle.dm_world.proofs.Noted.{notes_the_sent, all-rise}
use Rattle.dm_world.proofs.ToldMade.{CodeIs, NewCode, happens-code, run-ids, IsMore, more-made, run-snoc, made-snoc}
use Rattle.dm_world.proofs.GivenCodes.{same-deed, each-read}
use Rattle.dm_world.proofs.Stay.{places-stay}
use Rattle.dm_world.proofs.RowTaken.{IsOver, IsOverAt, IsPlaced, over-later}
use Rattle.dm_world.proofs.PlacedLast.{none-later}
use Rattle.dm_world.proofs.RowWorld.{SentPlaced, all-rows}

-- ---- what was executed stays executed

abbrev pub IsMoreDone : List (InSession Deed) → List (InSession Deed) → Type 0
IsMoreDone done all = (more : List (InSession Deed)) × (all ≡ done ++ more)

same-done : (done : List (InSession Deed)) → IsMoreDone done done
same-done done = ([], sym (append-nil done))

down-done : (w : World) (o : Option Reply) (nonce : List ℕ)
    → IsMoreDone w.executed (down_delivered w o nonce).executed
down-done w None nonce = same-done w.executed
down-done w (Some d) nonce = (deeds_by w.client w.client.session d.message nonce, refl)

up-done : (w : World) (o : Option Parts) (nonce : List ℕ) → IsMoreDone w.executed (up_delivered w o nonce).executed
up-done w None nonce = same-done w.executed
up-done w (Some m) nonce = same-done w.executed

happens-done : (w : World) (e : Happening) → IsMoreDone w.executed (happens w e).executed
unfolding happens
happens-done w (opens account kind n) = same-done w.executed
happens-done w (up_comes k nonce) = up-done w (slice_get w.ups k) nonce
happens-done w (down_comes k nonce) = down-done w (slice_get w.downs k) nonce
happens-done w (update_ends ok) = same-done w.executed
happens-done w (clock_moves stamp) = same-done w.executed
happens-done w is_lost = same-done w.executed
happens-done w finds_no_memory = same-done w.executed

pub done-snoc : (w : World) (done : List Happening) (e : Happening)
    → IsMoreDone (run w done).executed (run w (done ++ e ∷ [])).executed
done-snoc w done e =
    subst (λ (x : World). IsMoreDone (run w done).executed x.executed) (sym (run-snoc w done e))
    (happens-done (run w done) e)

pub at-later : (done all : List (InSession Deed)) (k place : ℕ) (x : InSession Deed) → IsMoreDone done all
    → IsExecutedAt done k place x
    → IsExecutedAt all k place x
at-later done all k place x more h = subst (λ l. IsExecutedAt l k place x) (sym more.1)
    (places-stay done more.0 k place x h)

-- ---- what answers two numbers

contains-at : {A : Type 0} (xs : List A) (x : A) → Contains xs x → (k : ℕ) × (slice_get xs k ≡ Some x)
contains-at [] x (k, low, at) = absurd (omega (arith, low))
contains-at (y ∷ ys) x (zero, low, at) = (zero, ap Some at)
contains-at (y ∷ ys) x (suc k, low, at) = let rest = contains-at ys x (k, omega (arith, low), at) in
    (suc rest.0, rest.1)

-- what was executed under the numbers of a command that is noted as sent, at its place
pub record DoneAt (packages : List (List JobEntry)) (w : World) (n msg command number : ℕ)
    (counts : Bool) : Type 0 where
  pub k : ℕ
  pub deed : InSession Deed
  pub session : deed.session ≡ n
  pub at : IsExecutedAt w.executed k (number - 1) deed
  pub msg_is : deed.what.post.msg ≡ msg
  pub command_is : deed.what.post.command ≡ command
  pub within : Contains w.executed (record { session = n; what = deed.what })
  pub over : counts ≡ true → IsOverAt packages w.executed k number deed

pub done-at : (c : Machine) (job : Job) (hs : List Happening) (s : Session) (y : Sent) → IsWorldStart c job
    → IsSchedule c hs
    → (run (at_start c job) hs).server.session ≡ Some s
    → Contains s.sent y
    → WasExecuted (run (at_start c job) hs).executed s.progress.number y.msg y.command
    → DoneAt job.packages (run (at_start c job) hs) s.progress.number y.msg y.command y.number y.counts
done-at c job hs s y start range e within h =
    let w = run (at_start c job) hs in
    let rows = all-rows c job hs start range in
    let placed : IsPlaced job.packages w.executed s.progress.number y =
    (subst (λ o. IfSome o (SentPlaced job.packages
    (job_acts job.packages) w.executed w.server w.downs)) e rows.sent y within).0 in
    let x : InSession Deed = record { session = s.progress.number; what = h.deed } in
    let k = contains-at w.executed x h.within in
    record {
      k = k.0;
      deed = x;
      session = refl;
      at = (placed k.0 x k.1 refl h.msg_is h.command_is).0;
      msg_is = h.msg_is;
      command_is = h.command_is;
      within = h.within;
      over = (placed k.0 x k.1 refl h.msg_is h.command_is).1;
    }

-- ---- codes

-- what was executed for this place, of which nothing is left, and a Status with this code that was made for it
record GaveAt (packages : List (List JobEntry)) (w : World) (place code : ℕ) : Type 0 where
  k : ℕ
  deed : InSession Deed
  executed : IsExecutedAt w.executed k place deed
  whole : IsWholeDeed deed.what
  number : ℕ
  number_is : number - 1 ≡ place
  over : IsOverAt packages w.executed k number deed
  made : WasMade w.made deed.session deed.what.post.msg deed.what.post.command code

abbrev Given : Machine → Job → List Happening → Type 0
Given c job hs = (place code : ℕ) → CodeIs (run (at_start c job) hs) place code
    → GaveAt job.packages (run (at_start c job) hs) place code

given-later : (packages : List (List JobEntry)) (w x : World) (place code : ℕ) → IsMoreDone w.executed x.executed
    → IsMore w.made x.made
    → GaveAt packages w place code
    → GaveAt packages x place code
given-later packages w x place code done made h = record {
  k = h.k;
  deed = h.deed;
  executed = at-later w.executed x.executed h.k place h.deed done h.executed;
  whole = h.whole;
  number = h.number;
  number_is = h.number_is;
  over = λ name e.
      subst (λ l. IsOver packages l h.k h.number) (sym done.1)
      (over-later packages w.executed done.0 h.k h.number (h.over name e));
  made =
      more-made w.made x.made h.deed.session h.deed.what.post.msg h.deed.what.post.command code made h.made;
}

given-now : (c : Machine) (job : Job) (hs : List Happening) (place code : ℕ) → IsWorldStart c job → IsSchedule c hs
    → NewCode job.packages (run (at_start c job) hs) place code
    → GaveAt job.packages (run (at_start c job) hs) place code
given-now c job hs place code start range h =
    let w = run (at_start c job) hs in
    let n = h.session.progress.number in
    let y = h.command in
    let done = answers_the_executed c job hs n y.msg y.command code start range h.made in
    let at = done-at c job hs h.session y start range h.is_open h.was_sent done in
    let sound = run-sound (at_start c job) hs (schedule-range c hs range) (start-sound c job start) in
    let stands = executes_the_sent c job hs (record { session = n; what = at.deed.what }) start range at.within in
    let same =
    same-deed job.packages w.downs n y at.deed.what sound.downs_fall
    (each-read w.server.session w.ups w.downs sound.downs_ok) (all-rise c job hs start) h.stands stands at.msg_is
    at.command_is in
    record {
      k = at.k;
      deed = at.deed;
      executed = subst (λ p. IsExecutedAt w.executed at.k p at.deed) h.number at.at;
      whole = subst IsWholeDeed same (h.stands.last h.counts);
      number = y.number;
      number_is = h.number;
      over = at.over h.counts;
      made = record {
        post = h.made.post;
        within =
            subst (λ i. Contains w.made (record { session = i; what = Status h.made.post code })) (sym at.session)
            h.made.within;
        msg_is = h.made.msg_is ∙ sym at.msg_is;
        command_is = h.made.command_is ∙ sym at.command_is;
      };
    }

step-given : (c : Machine) (job : Job) (done : List Happening) (e : Happening) → IsWorldStart c job
    → IsSchedule c (done ++ e ∷ [])
    → Given c job done
    → Given c job (done ++ e ∷ [])
step-given c job done e start all h place code k =
    let range = all-first (IsInRange c) done (e ∷ []) all in
    given-later job.packages (run (at_start c job) done) (run (at_start c job) (done ++ e ∷ [])) place code
    (done-snoc (at_start c job) done e) (made-snoc (at_start c job) done e)
    (by range
    (happens-code job.packages (run (at_start c job) done) e place code (says_the_made c job done start range)
    (λ s x. notes_the_sent c job done s x start range) (run-ids (at_start c job) done tt)
    (subst (λ (x : World). CodeIs x place code) (run-snoc (at_start c job) done e) k)))
  where
    by : IsSchedule c done → CodeIs (run (at_start c job) done) place code
        ⊎ NewCode job.packages (run (at_start c job) done) place code
        → GaveAt job.packages (run (at_start c job) done) place code
    by range (inl x) = h place code x
    by range (inr x) = given-now c job done place code start range x

all-given : (c : Machine) (job : Job) (done es : List Happening) → IsWorldStart c job → IsSchedule c (done ++ es)
    → Given c job done
    → Given c job (done ++ es)
all-given c job done [] start range h = subst (Given c job) (sym (append-nil done)) h
all-given c job done (e ∷ es) start range h =
    let split : (done ++ e ∷ []) ++ es ≡ done ++ e ∷ es = append_assoc done (e ∷ []) es in
    subst (Given c job) split
    (all-given c job (done ++ e ∷ []) es start (subst (IsSchedule c) (sym split) range)
    (step-given c job done e start
    (all-first (IsInRange c) (done ++ e ∷ []) es (subst (IsSchedule c) (sym split) range)) h))

-- at first nothing was told
untold-at : (n place : ℕ) → get_or (replicate n untold) place untold ≡ untold
untold-at zero place = refl
untold-at (suc n) zero = refl
untold-at (suc n) (suc place) = untold-at n place

none-given : (c : Machine) (job : Job) → Given c job []
none-given c job place code h =
    absurd (let e = ap (λ (t : Told). t.code) (untold-at (commands_in (all_entries job.packages)) place) in cc)

pub codes_are_given_by_place : CodesAreGivenByPlace
codes_are_given_by_place c job hs place code start range h =
    let w = run (at_start c job) hs in
    let x = all-given c job [] hs start range (none-given c job) place code h in
    record {
      k = x.k;
      deed = x.deed;
      executed = record {
        at = x.executed;
        last =
            none-later job.packages start.sound.numbered start.sound.entries w.executed
            (all-rows c job hs start range).done x.k x.number place x.deed x.executed x.whole x.over x.number_is;
      };
      whole = x.whole;
      made = x.made;
    }
