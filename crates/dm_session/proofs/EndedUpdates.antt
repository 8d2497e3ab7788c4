-- A client whose update ends.
use Rattle.std.proofs.Common.{◌≡◌, ℕ, Bool, true, false, cond, List, [], ◌∷◌, ◌++◌, length, take, refl, sym, ◌∙◌, ap}
use Rattle.std.proofs.Common.{subst, arith, length-append, Option, None, Some}
use Rattle.std.specs.Prelude.{MatchOption}
use Rattle.std.proofs.Math.Seq.{take-append_seam}
use Rattle.dm_pack.specs.Entries.{Entry}
use Rattle.dm_tree.specs.declared.nodes.Stamp.{Stamp}
use Rattle.dm_atomic.specs.declared.engine.Engine.{Engine}
use Rattle.dm_atomic.specs.Run.{State}
use Rattle.dm_atomic.specs.Engine.{state_of, IsSoundEngine}
use Rattle.dm_atomic.specs.Marks.{Whole, whole_of, past_of, no_past, LeavesNone}
use Rattle.dm_atomic.specs.Updates.{clock_of, max_obj_of, update_finished, TellsStarted}
use Rattle.dm_machine.specs.declared.progress.UpdateResult.{UpdateResult}
use Rattle.dm_machine.specs.Machine.{Machine}
use Rattle.dm_machine.specs.Messages.{ends_update, correlator_of}
use Rattle.dm_machine.specs.Events.{act, takes, after}
use Rattle.dm_machine.specs.History.{next}
use Rattle.dm_machine.specs.Ready.{IsReadyMachine}
use Rattle.dm_machine.proofs.StaysReady.{stays_ready}
use Rattle.dm_machine.proofs.Steady.{stays_steady}
use Rattle.dm_session.specs.declared.rest.Rest.{Rest}
use Rattle.dm_session.specs.Inside.{machine_of, whole_client, IsConsistent}
use Rattle.dm_session.specs.View.{WholeMachine as Seen}
use Rattle.dm_session.proofs.Clients.{same_client, steady_of}

-- ---- nothing has changed

never_empty : {A : Type 0} (l : List A) (x : A) → l ++ x ∷ [] ≡ [] → ⊥
never_empty [] x h = cc
never_empty (y ∷ l) x h = cc

same_front : {A : Type 0} (a b : List A) (x y : A) → a ++ x ∷ [] ≡ b ++ y ∷ [] → a ≡ b
same_front a b x y h =
    let long : length a ≡ length b =
    omega (arith, ap length h, length-append a (x ∷ []), length-append b (y ∷ [])) in
    sym (take-append_seam a (x ∷ [])) ∙ ap (take (length a)) h ∙ ap (λ n. take n (b ++ y ∷ [])) long
    ∙ take-append_seam b (y ∷ [])

-- what was put behind a list is taken off again
pub popped : (old before after : List UpdateResult) (x : UpdateResult) (o : Option UpdateResult)
    → before ≡ old ++ x ∷ []
    → MatchOption o ((before ≡ []) × (after ≡ [])) (λ y. before ≡ after ++ y ∷ []) → after ≡ old
popped old before after x None is h = absurd (never_empty old x (sym is ∙ h.0))
popped old before after x (Some y) is h = same_front after old y x (sym h ∙ is)

abbrev with_results : Rest → List UpdateResult → Rest
with_results r results = record r { results = results }

module _ (e f : Engine) (q : List Entry) (r : Rest) (results : List UpdateResult) (w : whole_of f ≡ whole_of e)
    (k : clock_of f ≡ clock_of e) (is : results ≡ r.results) where
  pub still_client : whole_client (record { engine = f; queue = q; rest = with_results r results })
      ≡ whole_client (record { engine = e; queue = q; rest = r })
  still_client =
      same_client e f q q (with_results r results) w k refl
      ∙ ap (λ x. whole_client (record { engine = e; queue = q; rest = with_results r x })) is

  pub still_sound : IsConsistent (record { engine = e; queue = q; rest = r }) → max_obj_of f ≡ max_obj_of e → IsSoundEngine f
      → past_of f ≡ past_of e → LeavesNone f → IsConsistent (record { engine = f; queue = q; rest = with_results r results })
  still_sound s m sound past none_left = record {
    goes_on = record {
      engine = sound;
      max_obj = m ∙ s.goes_on.max_obj;
      ready = subst IsReadyMachine (sym (ap (λ (x : Seen). x.machine) still_client)) s.goes_on.ready;
    };
    sent = s.sent;
    farewell = s.farewell;
    settled = past ∙ s.settled;
    none_left = none_left;
    told = subst (λ (x : Whole). TellsStarted x.state) (sym w) s.told;
    closed = λ h. ap (λ (x : Whole). x.state.group) w ∙ s.closed h;
  }

-- ---- it has ended

abbrev moved : Machine → State → Stamp → List UpdateResult → Machine
moved c s clock results = record c { engine = s; clock = clock; results = results }

next_if : (b : Bool) (c d : Machine) → b ≡ true → d ≡ cond b d c
next_if true c d h = refl
next_if false c d h = absurd (cc)

module _ (e f : Engine) (q : List Entry) (r : Rest) (results : List UpdateResult) (ok : Bool)
    (correlator : Option (List ℕ)) (takes_it : takes (machine_of e q r) (act ok) ≡ true)
    (state : state_of f ≡ update_finished (clock_of e) (state_of e) ok) (k : clock_of f ≡ clock_of e)
    (is : correlator ≡ correlator_of (state_of e).started)
    (more : results ≡ r.results ++ record { correlator = correlator; ok = ok } ∷ []) where
  acts_so : machine_of f q (with_results r results) ≡ after (machine_of e q r) (act ok)
  unfolding after ends_update
  acts_so =
      ap (λ s. moved (machine_of e q r) s (clock_of f) results) state
      ∙ ap (λ x. moved (machine_of e q r) (update_finished (clock_of e) (state_of e) ok) x results) k
      ∙ ap (λ x. moved (machine_of e q r) (update_finished (clock_of e) (state_of e) ok) (clock_of e) x)
      (more ∙ ap (λ x. r.results ++ record { correlator = x; ok = ok } ∷ []) is)

  pub ended_next : machine_of f q (with_results r results) ≡ next (machine_of e q r) (act ok)
  unfolding next
  ended_next = acts_so ∙ next_if _ (machine_of e q r) (after (machine_of e q r) (act ok)) takes_it

  pub ended_sound : IsConsistent (record { engine = e; queue = q; rest = r }) → max_obj_of f ≡ max_obj_of e → IsSoundEngine f
      → past_of f ≡ no_past → LeavesNone f → IsConsistent (record { engine = f; queue = q; rest = with_results r results })
  ended_sound s m sound settled none_left = record {
    goes_on = record {
      engine = sound;
      max_obj = m ∙ s.goes_on.max_obj;
      ready = subst IsReadyMachine (sym ended_next) (stays_ready (machine_of e q r) (act ok) s.goes_on.ready tt);
    };
    sent = s.sent;
    farewell = s.farewell;
    settled = settled;
    none_left = none_left;
    told = subst (λ (x : Machine). TellsStarted x.engine) (sym ended_next)
        (stays_steady (machine_of e q r) (act ok) (steady_of (record { engine = e; queue = q; rest = r }) s)).started;
    closed = λ h. ap (λ (x : State). x.group) state ∙ s.closed h;
  }
