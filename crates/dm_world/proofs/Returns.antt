-- What waits at the server beside the job are reports, so what is given up leaves the acts of packages alone.
use Rattle.std.proofs.Common.{◌≡◌, ◌<◌, ◌==◌, ◌&&◌, ℕ, Bool, true, cond, not, List, [], ◌∷◌}
use Rattle.std.proofs.Common.{◌++◌}
use Rattle.std.proofs.Common.{Option, None, Some, map, refl, ◌∙◌, ap, subst, arith}
use Rattle.std.specs.Prelude.{is_some, Result, Ok, Err}
use Rattle.std.specs.List.{list_any, filter, AllByRecursion}
use Rattle.syncml_types.specs.declared.values.Header.{Header}
use Rattle.syncml_types.specs.declared.command.Command.{Command}
use Rattle.syncml_types.specs.declared.command.Command.TheVariants as command
use Rattle.syncml_types.specs.Message.{Parts}
use Rattle.syncml_parts.specs.Numbering.{ids_in}
use Rattle.wbxml_tokens.specs.declared.reason.Refusal.{Refusal}
use Rattle.dm_headers.specs.declared.checks.Side.TheVariants.{User}
use Rattle.dm_headers.specs.declared.standings.Standing.{Standing}
use Rattle.dm_headers.specs.Checks.{fault_of, is_denied, passes}
use Rattle.dm_headers.specs.Headers.{is_withheld as header_withheld, header_answer}
use Rattle.dm_headers.specs.Standings.{Heard, hears}
use Rattle.dm_atomic.specs.declared.tasks.Origin.{Origin}
use Rattle.dm_atomic.specs.declared.tasks.Post.{Post}
use Rattle.dm_atomic.specs.Posts.{asked_posts}
use Rattle.dm_atomic.specs.Made.{Made, Status, told as made_told}
use Rattle.dm_ends.specs.Commands.{is_abort, is_report, origin_of}
use Rattle.dm_job.specs.declared.job.JobEntry.{JobEntry}
use Rattle.dm_service.specs.declared.sent.Carried.{Carried}
use Rattle.dm_service.specs.Service.{Waiting, Session, Service}
use Rattle.dm_service.specs.Packages.{is_of_job, job_waiting, queues_package, next_package, package_put_back, gives_up}
use Rattle.dm_service.specs.Answers.{command_answers, answers_all, code_for}
use Rattle.dm_service.specs.Sending.{header_for, sends}
use Rattle.dm_service.specs.Messages.{first_service, begins, first_session, denies, after_status, answer_waiting}
use Rattle.dm_service.specs.Messages.{tells, queues_answers, in_session, answers_message, by_header, accepts}
use Rattle.dm_service.specs.Events.{Arrival, number_of, takes, opens_session, after_in_session, after_number}
use Rattle.dm_service.specs.Events.{after_read, after}
use Rattle.dm_service.specs.History.{next, state_from}
use Rattle.dm_world.specs.Acts.{entries_acts, job_acts, join}
use Rattle.dm_world.specs.Packing.{acts_to_send, IsCarried, IsOfJobOrReport}
use Rattle.dm_world.specs.Packing.{QueuesReports}
use Rattle.dm_world.specs.Packing.{PutsBack}
use Rattle.dm_world.proofs.Lists.{either, Each, each-append}
use Rattle.dm_world.proofs.Waits.{waiting_acts, report-acts, left-ok, job-acts}
use Rattle.dm_world.proofs.Keeps.{header-keeps}

-- ---- answers are reports

abbrev pub IsReport : Command → Type 0
IsReport c = is_report c ≡ true

statuses-told : (code : ℕ) (ps : List Post) (more : List Made) → Each IsReport (made_told more)
    → Each IsReport (made_told (map (λ (p : Post). Status p code) ps ++ more))
statuses-told code [] more h = h
statuses-told code (p ∷ ps) more h =
    either (Each IsReport) p.quiet (statuses-told code ps more h) (refl, statuses-told code ps more h)

all-told : (o : Origin) (cs : List Command) → Each IsReport (made_told (answers_all o cs))
all-told o [] = tt
all-told o (c ∷ cs) = statuses-told (code_for c) (asked_posts o c) (answers_all o cs) (all-told o cs)

answers-reports : (m : Parts) → Each IsReport (command_answers m)
unfolding command_answers
answers-reports m = all-told (origin_of m) m.body

pub made-reports : (m : Parts) (code : ℕ) → Each IsReport (cond (passes code) (command_answers m) [])
made-reports m code = either (Each IsReport) (passes code) (answers-reports m) tt

pub header-reports : (h : Header) (code : ℕ) (nonce : List ℕ) → Each IsReport (header_answer h code nonce)
unfolding header_answer
header-reports h code nonce = either (Each IsReport) (header_withheld h code) tt (refl, tt)

answer-ok : (cs : List Command) → Each IsReport cs → Each IsOfJobOrReport (map answer_waiting cs)
answer-ok [] h = tt
answer-ok (c ∷ cs) h = (h.0, answer-ok cs h.1)

ids-some : (c : Command) → 0 < ids_in c
unfolding ids_in
ids-some (command.Plain p) = omega arith
ids-some (command.Alert a) = omega arith
ids-some (command.Atomic b) = omega arith
ids-some (command.Sequence b) = omega arith
ids-some (command.Status c) = omega arith
ids-some (command.Results c) = omega arith

jobs-ok : (es : List JobEntry) → Each IsOfJobOrReport (map job_waiting es)
jobs-ok [] = tt
jobs-ok (e ∷ es) = (ids-some e.command, jobs-ok es)

-- ---- so is all that waits, whatever comes

abbrev IsOk : Service → Type 0
IsOk v = Each IsOfJobOrReport v.queue

sends-ok : (v : Service) (s : Session) (m : Parts) (code : ℕ) → IsOk v → IsOk (sends v s m code)
unfolding sends
sends-ok v s m code h =
    let p = s.progress in
    left-ok v.queue (header_for v p m) p.standing.room p.standing.heard h

denies-ok : (v : Service) (s : Session) (m : Parts) (code : ℕ) (nonce : List ℕ) → IsOk v
    → IsOk (denies v s m code nonce)
unfolding denies
denies-ok v s m code nonce h = h

queues-ok : (v : Service) (ps : List (List JobEntry)) → IsOk v → IsOk (queues_package v ps)
queues-ok v [] h = h
queues-ok v (p ∷ ps) h = each-append IsOfJobOrReport v.queue (map job_waiting p) h (jobs-ok p)

pub next-ok : (v : Service) (s : Standing) → IsOk v → IsOk (next_package v s)
next-ok v s h =
    either IsOk (s.accepted && s.heard && not (list_any is_of_job v.queue)) (queues-ok v v.packages h) h

pub answered-ok : (v : Service) (m : Parts) (code : ℕ) (nonce : List ℕ) → IsOk v → IsOk (queues_answers v m code nonce)
answered-ok v m code nonce h =
    let own = map answer_waiting (header_answer m.header code nonce) in
    each-append IsOfJobOrReport (own ++ v.queue) _
    (each-append IsOfJobOrReport own v.queue (answer-ok _ (header-reports m.header code nonce)) h)
    (answer-ok _ (made-reports m code))

pub tells-ok : (v : Service) (s : Session) (m : Parts) (code : ℕ) → IsOk v → IsOk (tells v s m code)
tells-ok v s m code h = either IsOk (passes code) h h

message-ok : (v : Service) (s : Session) (m : Parts) (code : ℕ) (nonce : List ℕ) → IsOk v
    → IsOk (answers_message v s m code nonce)
message-ok v s m code nonce h =
    let told = tells v s m code in
    let t = in_session told s in
    let queued = queues_answers told m code nonce in
    sends-ok (next_package queued t.progress.standing) t m code
    (next-ok queued t.progress.standing (answered-ok told m code nonce (tells-ok v s m code h)))

header-ok : (v : Service) (s : Session) (m : Parts) (h : Heard) (nonce : List ℕ) → IsOk v
    → IsOk (by_header v s m h nonce)
header-ok v s m h nonce k =
    either IsOk (not (is_some (fault_of m)) && list_any is_abort m.body) k
    (either IsOk h.second (denies-ok v s m h.code nonce k) (message-ok v s m h.code nonce k))

-- ---- what is given up

abbrev rest_of_queue : List Waiting → List Waiting
rest_of_queue ws = filter (λ w. not (is_of_job w)) ws

one-kept : (w : Waiting) (ws : List Waiting) (j : Option Carried) → w.carries ≡ j → IsOfJobOrReport w
    → Each IsOfJobOrReport ws
    → Each IsOfJobOrReport (cond (not (is_some j)) (w ∷ ws) ws)
one-kept w ws None e h k = (h, k)
one-kept w ws (Some j) e h k = k

pub kept-ok : (ws : List Waiting) → Each IsOfJobOrReport ws → Each IsOfJobOrReport (rest_of_queue ws)
kept-ok [] h = tt
kept-ok (w ∷ ws) h = one-kept w (rest_of_queue ws) w.carries refl h.0 (kept-ok ws h.1)

gives-ok : (v : Service) (s : Session) → IsOk v → IsOk (gives_up v s)
unfolding gives_up
gives-ok v s h = kept-ok v.queue h

status-ok : (v : Service) (s : Session) (failed : Bool) (status : ℕ) → IsOk v → IsOk (after_status v s failed status)
status-ok v s failed status h = either IsOk (not failed && is_denied status) (gives-ok v s h) h

accepts-ok : (v : Service) (s : Session) (m : Parts) (nonce : List ℕ) → IsOk v → IsOk (accepts v s m nonce)
unfolding accepts
accepts-ok v s m nonce k =
    let h = hears User v.job.account s.progress.standing m nonce in
    let t : Session = record s { progress = record s.progress { standing = h.standing } } in
    let heard : Service = record v { job = record v.job { account = h.account }; session = Some t } in
    let w = after_status heard t s.progress.standing.we_failed h.status in
    header-ok w (in_session w t) m h nonce (status-ok heard t s.progress.standing.we_failed h.status k)

opens-ok : (v : Service) (n : ℕ) (m : Parts) (nonce : List ℕ) → IsOk (opens_session v n m nonce)
opens-ok v n m nonce = accepts-ok (begins v n) (first_session v.job.account n) m nonce tt

in-ok : (v : Service) (o : Option Session) (n : ℕ) (m : Parts) (nonce : List ℕ) → IsOk v
    → IsOk (after_in_session v o n m nonce)
in-ok v None n m nonce h = opens-ok v n m nonce
in-ok v (Some s) n m nonce h =
    either IsOk (s.progress.number == n) (accepts-ok v s m nonce h) (opens-ok v n m nonce)

as-ok : (v : Service) (o : Option ℕ) (m : Parts) (nonce : List ℕ) → IsOk v → IsOk (after_number v o m nonce)
as-ok v None m nonce h = h
as-ok v (Some n) m nonce h = in-ok v v.session n m nonce h

read-ok : (v : Service) (read : Result Parts Refusal) (nonce : List ℕ) → IsOk v → IsOk (after_read v read nonce)
read-ok v (Ok m) nonce h = as-ok v (number_of m) m nonce h
read-ok v (Err place) nonce h = h

next-arrival-ok : (v : Service) (e : Arrival) → IsOk v → IsOk (next v e)
unfolding next after
next-arrival-ok v e h = either IsOk (takes v e) (read-ok v e.read e.nonce h) h

run-ok : (v : Service) (es : List Arrival) → IsOk v → IsOk (state_from v es)
run-ok v [] h = h
run-ok v (e ∷ es) h = run-ok (next v e) es (next-arrival-ok v e h)

each-all : (ws : List Waiting) → Each IsOfJobOrReport ws → AllByRecursion IsOfJobOrReport ws
each-all [] h = tt
each-all (w ∷ ws) h = (h.0, each-all ws h.1)

all-each : (ws : List Waiting) → AllByRecursion IsOfJobOrReport ws → Each IsOfJobOrReport ws
all-each [] h = tt
all-each (w ∷ ws) h = (h.0, all-each ws h.1)

pub queues_reports : QueuesReports
queues_reports job es = each-all _ (run-ok (first_service job) es tt)

-- ---- what is given up is to be sent again

kept-acts : (w : Waiting) (ws : List Waiting) (j : Option Carried) → w.carries ≡ j → IsOfJobOrReport w
    → waiting_acts ws ≡ []
    → waiting_acts (cond (not (is_some j)) (w ∷ ws) ws) ≡ []
kept-acts w ws None e h k =
    ap (λ x. x ++ waiting_acts ws) (report-acts w.entry.command (none-report w e h)) ∙ k
  where
    none-report : (w : Waiting) → w.carries ≡ None → IsOfJobOrReport w → is_report w.entry.command ≡ true
    none-report w e h = subst (λ o. IsCarried o w.entry.command) e h
kept-acts w ws (Some j) e h k = k

pub rest-acts : (ws : List Waiting) → Each IsOfJobOrReport ws → waiting_acts (rest_of_queue ws) ≡ []
rest-acts [] h = refl
rest-acts (w ∷ ws) h = kept-acts w (rest_of_queue ws) w.carries refl h.0 (rest-acts ws h.1)

pub put-acts : (p : List JobEntry) (ps : List (List JobEntry))
    → job_acts (package_put_back p ps) ≡ entries_acts p ++ job_acts ps
put-acts [] ps = refl
put-acts (e ∷ es) ps = job-acts (e ∷ es) ps

gives-acts : (v : Service) (s : Session) → IsOk v
    → acts_to_send (gives_up v s) ≡ entries_acts v.newest ++ job_acts v.packages
unfolding gives_up
gives-acts v s h =
    ap (λ x. x ++ job_acts (package_put_back v.newest v.packages)) (rest-acts v.queue h) ∙ put-acts v.newest v.packages

status-acts : (v : Service) (s : Session) (failed : Bool) (status : ℕ) → IsOk v
    → (not failed && is_denied status) ≡ true
    → acts_to_send (after_status v s failed status) ≡ entries_acts v.newest ++ job_acts v.packages
status-acts v s failed status h e = ap (λ b. acts_to_send (cond b (gives_up v s) v)) e ∙ gives-acts v s h

pub puts_back : PutsBack
unfolding accepts
puts_back v s m nonce part ok tells =
    let h = hears User v.job.account s.progress.standing m nonce in
    let t : Session = record s { progress = record s.progress { standing = h.standing } } in
    let heard : Service = record v { job = record v.job { account = h.account }; session = Some t } in
    let w = after_status heard t s.progress.standing.we_failed h.status in
    header-keeps w (in_session w t) m h nonce part
    ∙ ap (join part) (status-acts heard t s.progress.standing.we_failed h.status (all-each v.queue ok) tells)
