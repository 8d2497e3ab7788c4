-- In each state that a server comes to, no command of the job was sent twice in its session, which is the one of the
-- job's run.
use Rattle.std.proofs.Common.{None, Some, ◌≡◌, ◌≤◌, ◌==◌, ◌⊎◌, ℕ, Bool, true, false, cond, inl, inr, List, [], ◌∷◌}
use Rattle.std.proofs.Common.{refl, sym, subst, ◌∙◌, arith}
use Rattle.std.specs.Prelude.{Option, Result, Ok, Err, is_some}
use Rattle.syncml_types.specs.Message.{Parts}
use Rattle.wbxml_tokens.specs.declared.reason.Refusal.{Refusal}
use Rattle.dm_job.specs.declared.job.Job.{Job}
use Rattle.dm_job.specs.declared.job.JobEntry.{JobEntry}
use Rattle.dm_job.specs.Sound.{all_entries, AreNumbered}
use Rattle.dm_service.specs.Service.{Session, Service}
use Rattle.dm_service.specs.Messages.{first_service, first_session, begins, accepts}
use Rattle.dm_service.specs.Events.{Arrival, number_of, takes, opens_session, after_in_session, after_number}
use Rattle.dm_service.specs.Events.{after_read, after}
use Rattle.dm_service.specs.History.{next, state_from}
use Rattle.dm_service.specs.Laws.{times_sent, sent_in, SendsOnce, IsOfRun, RunsInOneSession}
use Rattle.dm_service.proofs.Steps.{either}
use Rattle.dm_service.proofs.Gone.{is, weigh_entries, times_weigh, job_once, Once, Holds, accepts_once}

-- a server that no message has come to, or one in a session
abbrev Comes : ℕ → Service → Type 0
Comes n v = ((v.session ≡ None) × (weigh_entries (is n) (all_entries v.job.packages) ≤ 1)) ⊎ Holds n v

job-of : (n : ℕ) (v : Service) → Comes n v → weigh_entries (is n) (all_entries v.job.packages) ≤ 1
job-of n v (inl h) = h.1
job-of n v (inr h) = h.once.job

packages-once : (n : ℕ) (b : Bool) (ps : List (List JobEntry)) → weigh_entries (is n) (all_entries ps) ≤ 1
    → weigh_entries (is n) (all_entries (cond b [] ps)) ≤ 1
packages-once n true ps h = omega arith
packages-once n false ps h = h

begins-once : (n : ℕ) (v : Service) (number : ℕ) → weigh_entries (is n) (all_entries v.job.packages) ≤ 1
    → Once n (begins v number) (first_session v.job.account number)
begins-once n v number h =
    let most = packages-once n (is_some v.runs_in) v.job.packages h in
    record { job = h; total = omega (arith, most); packages = omega (arith, most); queue = tt; run = tt }

same-session : (s x : Session) (o : Option Session) → o ≡ Some s → o ≡ Some x → x ≡ s
same-session s x o e f = cc

-- a machine in a session is sound in it
sound-in : (n : ℕ) (v : Service) (s : Session) → v.session ≡ Some s → Comes n v → Once n v s
sound-in n v s e (inl h) = let f = sym e ∙ h.0 in absurd (cc)
sound-in n v s e (inr h) = subst (λ x. Once n v x) (same-session s h.session v.session e h.is_it) h.once

acts-once : (n : ℕ) (v : Service) (o : Option Session) (number : ℕ) (m : Parts) (nonce : List ℕ) → v.session ≡ o
    → Comes n v → Holds n (after_in_session v o number m nonce)
acts-once n v None number m nonce e h =
    accepts_once n (begins v number) (first_session v.job.account number) m nonce
    (begins-once n v number (job-of n v h))
acts-once n v (Some s) number m nonce e h =
    either (Holds n) (s.progress.number == number) (accepts v s m nonce) (opens_session v number m nonce)
    (accepts_once n v s m nonce (sound-in n v s e h))
    (accepts_once n (begins v number) (first_session v.job.account number) m nonce
    (begins-once n v number (job-of n v h)))

as-once : (n : ℕ) (v : Service) (o : Option ℕ) (m : Parts) (nonce : List ℕ) → Comes n v
    → Comes n (after_number v o m nonce)
as-once n v None m nonce h = h
as-once n v (Some number) m nonce h = inr (acts-once n v v.session number m nonce refl h)

read-once : (n : ℕ) (v : Service) (read : Result Parts Refusal) (nonce : List ℕ) → Comes n v
    → Comes n (after_read v read nonce)
read-once n v (Ok m) nonce h = as-once n v (number_of m) m nonce h
read-once n v (Err place) nonce h = h

next-once : (n : ℕ) (v : Service) (e : Arrival) → Comes n v → Comes n (next v e)
unfolding next after
next-once n v e h = either (Comes n) (takes v e) (after_read v e.read e.nonce) v (read-once n v e.read e.nonce h) h

comes : (n : ℕ) (v : Service) (es : List Arrival) → Comes n v → Comes n (state_from v es)
comes n v [] h = h
comes n v (e ∷ es) h = comes n (next v e) es (next-once n v e h)

starts : (n : ℕ) (job : Job) → AreNumbered 1 (all_entries job.packages) → Comes n (first_service job)
starts n job h = inl (refl, job_once n job.packages h)

sent-once : (n : ℕ) (v : Service) (o : Option Session) → v.session ≡ o → Comes n v → times_sent n (sent_in o) ≤ 1
sent-once n v None e h = omega arith
sent-once n v (Some s) e h =
    let most = (sound-in n v s e h).total in
    let times = times_weigh n s.sent in
    omega (arith, most, times)

pub sends_once : SendsOnce
sends_once job es n h =
    let v = state_from (first_service job) es in
    sent-once n v v.session refl (comes n (first_service job) es (starts n job h))

run-of : (v : Service) (o : Option Session) → v.session ≡ o → Comes 0 v → IsOfRun v.runs_in o
run-of v None e h = tt
run-of v (Some s) e h = (sound-in 0 v s e h).run

pub runs_in_one_session : RunsInOneSession
runs_in_one_session job es h =
    let v = state_from (first_service job) es in
    run-of v v.session refl (comes 0 (first_service job) es (starts 0 job h))
