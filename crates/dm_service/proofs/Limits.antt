-- Whatever comes, the limits of the job stay.
use Rattle.std.proofs.Common.{Bool, true, false, cond, Some, ◌≡◌, ℕ, List, [], ◌∷◌, refl, ◌∙◌, not, ◌&&◌}
use Rattle.std.specs.Prelude.{is_some}
use Rattle.std.specs.List.{list_any}
use Rattle.syncml_types.specs.Message.{Parts}
use Rattle.dm_headers.specs.declared.checks.Side.TheVariants.{User}
use Rattle.dm_headers.specs.declared.standings.Standing.{Standing}
use Rattle.dm_headers.specs.Checks.{fault_of, is_denied, passes}
use Rattle.dm_headers.specs.Standings.{Heard, hears}
use Rattle.dm_ends.specs.Commands.{is_abort}
use Rattle.dm_job.specs.declared.job.JobEntry.{JobEntry}
use Rattle.dm_service.specs.Service.{Session, Service}
use Rattle.dm_service.specs.Packages.{is_of_job, queues_package, next_package, gives_up}
use Rattle.dm_service.specs.Sending.{sends}
use Rattle.dm_service.specs.Messages.{denies, after_status, tells, queues_answers, in_session, answers_message}
use Rattle.dm_service.specs.Messages.{by_header}
use Rattle.dm_service.specs.Messages.{accepts}

-- whichever way a test goes
either : {A : Type 0} (P : A → Type 0) (b : Bool) {x y : A} → P x → P y → P (cond b x y)
either P true h k = h
either P false h k = k

abbrev pub SameLimits : Service → Service → Type 0
SameLimits v x = x.job.limits ≡ v.job.limits

sends-limits : (v : Service) (s : Session) (m : Parts) (code : ℕ) → SameLimits v (sends v s m code)
unfolding sends
sends-limits v s m code = refl

denies-limits : (v : Service) (s : Session) (m : Parts) (code : ℕ) (nonce : List ℕ)
    → SameLimits v (denies v s m code nonce)
unfolding denies
denies-limits v s m code nonce = refl

gives-limits : (v : Service) (s : Session) → SameLimits v (gives_up v s)
unfolding gives_up
gives-limits v s = refl

next-limits : (v : Service) (s : Standing) → SameLimits v (next_package v s)
next-limits v s =
    either (SameLimits v) (s.accepted && s.heard && not (list_any is_of_job v.queue)) (queued v.packages) refl
  where
    queued : (ps : List (List JobEntry)) → SameLimits v (queues_package v ps)
    queued [] = refl
    queued (p ∷ ps) = refl

answers-limits : (v : Service) (s : Session) (m : Parts) (code : ℕ) (nonce : List ℕ)
    → SameLimits v (answers_message v s m code nonce)
answers-limits v s m code nonce =
    let told = tells v s m code in
    let t = in_session told s in
    let queued = queues_answers told m code nonce in
    sends-limits (next_package queued t.progress.standing) t m code ∙ next-limits queued t.progress.standing
    ∙ either (SameLimits v) (passes code) refl refl

header-limits : (v : Service) (s : Session) (m : Parts) (h : Heard) (nonce : List ℕ)
    → SameLimits v (by_header v s m h nonce)
header-limits v s m h nonce =
    either (SameLimits v) (not (is_some (fault_of m)) && list_any is_abort m.body) refl
    (either (SameLimits v) h.second (denies-limits v s m h.code nonce) (answers-limits v s m h.code nonce))

pub limit-stays : (v : Service) (s : Session) (m : Parts) (nonce : List ℕ) → SameLimits v (accepts v s m nonce)
unfolding accepts
limit-stays v s m nonce =
    let h = hears User v.job.account s.progress.standing m nonce in
    let t : Session = record s { progress = record s.progress { standing = h.standing } } in
    let heard : Service = record v { job = record v.job { account = h.account }; session = Some t } in
    let w = after_status heard t s.progress.standing.we_failed h.status in
    header-limits w (in_session w t) m h nonce
    ∙ either (SameLimits v) (not s.progress.standing.we_failed && is_denied h.status) (gives-limits heard t) refl
