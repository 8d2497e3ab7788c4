-- What the server has still to send: its reply and what it keeps have the acts of what was to be sent.
use Rattle.std.proofs.Common.{◌≡◌, ◌&&◌, ℕ, Bool, false, cond, not, List, [], ◌∷◌, ◌++◌, Option, None, Some, map}
use Rattle.std.proofs.Common.{refl, ◌∙◌, ap}
use Rattle.std.specs.Prelude.{is_some}
use Rattle.std.specs.List.{list_any}
use Rattle.std.proofs.lemmas.List.{append-nil}
use Rattle.syncml_types.specs.declared.command.Step.{Step}
use Rattle.syncml_types.specs.Message.{Parts}
use Rattle.dm_headers.specs.declared.checks.Side.TheVariants.{User}
use Rattle.dm_headers.specs.Checks.{fault_of, is_denied, passes}
use Rattle.dm_headers.specs.Headers.{header_answer}
use Rattle.dm_headers.specs.Standings.{Heard, hears}
use Rattle.dm_ends.specs.Commands.{alert, is_abort, origin_of}
use Rattle.dm_service.specs.Service.{Session, Service}
use Rattle.dm_service.specs.Packages.{gives_up, next_package}
use Rattle.dm_service.specs.Answers.{command_answers, answers_all}
use Rattle.dm_service.specs.Sending.{sends}
use Rattle.dm_service.specs.Messages.{ended, denies, after_status, answer_waiting, tells, queues_answers, in_session}
use Rattle.dm_service.specs.Messages.{answers_message, by_header, accepts}
use Rattle.dm_service.specs.Events.{reply_of}
use Rattle.dm_world.specs.Acts.{Act, acts, job_acts, join}
use Rattle.dm_world.specs.Packing.{acts_to_send, reply_acts, SendsOrKeeps}
use Rattle.dm_world.proofs.Lists.{either}
use Rattle.dm_world.proofs.Joins.{acts-append}
use Rattle.dm_world.proofs.Packing.{numbered-acts}
use Rattle.dm_world.proofs.Waits.{waiting_acts, waiting-append, told-acts, header-acts, answers-acts, next-rest}
use Rattle.dm_world.proofs.Waits.{sends-joined}

-- a service from which this one came has been answered: the reply and the rest are what was to be sent
abbrev pub Keeps : Option Step → List Act → Service → Type 0
Keeps part before x = join part (reply_acts (reply_of x) ++ acts_to_send x) ≡ join part before

sends-keeps : (v : Service) (s : Session) (m : Parts) (code : ℕ) (part : Option Step)
    → Keeps part (acts_to_send v) (sends v s m code)
unfolding sends
sends-keeps v s m code part = sends-joined v s m code part

ended-keeps : (v : Service) (s : Session) (part : Option Step) → Keeps part (acts_to_send v) (ended v s)
ended-keeps v s part = refl

pub farewell-acts : (m : Parts) (code : ℕ) (nonce : List ℕ)
    → acts (header_answer m.header code nonce ++ alert 1223 None [] ∷ []) ≡ []
farewell-acts m code nonce =
    acts-append (header_answer m.header code nonce) (alert 1223 None [] ∷ [])
    ∙ ap (λ x. x ++ []) (header-acts m.header code nonce)

denies-keeps : (v : Service) (s : Session) (m : Parts) (code : ℕ) (nonce : List ℕ) (part : Option Step)
    → Keeps part (acts_to_send v) (denies v s m code nonce)
unfolding denies
denies-keeps v s m code nonce part =
    ap (λ x. join part (x ++ acts_to_send v))
    (numbered-acts 1 (header_answer m.header code nonce ++ alert 1223 None [] ∷ []) ∙ farewell-acts m code nonce)

pub tells-rest : (v : Service) (s : Session) (m : Parts) (code : ℕ) → acts_to_send (tells v s m code) ≡ acts_to_send v
tells-rest v s m code = either (λ (x : Service). acts_to_send x ≡ acts_to_send v) (passes code) refl refl

answers-none : (m : Parts) → acts (command_answers m) ≡ []
unfolding command_answers
answers-none m = told-acts (answers_all (origin_of m) m.body)

made-none : (m : Parts) (code : ℕ) → acts (cond (passes code) (command_answers m) []) ≡ []
made-none m code = either (λ x. acts x ≡ []) (passes code) (answers-none m) refl

pub queued-rest : (v : Service) (m : Parts) (code : ℕ) (nonce : List ℕ)
    → acts_to_send (queues_answers v m code nonce) ≡ acts_to_send v
queued-rest v m code nonce =
    let own = map answer_waiting (header_answer m.header code nonce) in
    let made = map answer_waiting (cond (passes code) (command_answers m) []) in
    ap (λ x. x ++ job_acts v.packages)
    (waiting-append (own ++ v.queue) made
    ∙ ap (λ x. x ++ waiting_acts made) (waiting-append own v.queue
    ∙ ap (λ x. x ++ waiting_acts v.queue) (answers-acts (header_answer m.header code nonce)
    ∙ header-acts m.header code nonce))
    ∙ ap (λ x. waiting_acts v.queue ++ x) (answers-acts (cond (passes code) (command_answers m) []) ∙ made-none m code)
    ∙ append-nil (waiting_acts v.queue))

answers-keeps : (v : Service) (s : Session) (m : Parts) (code : ℕ) (nonce : List ℕ) (part : Option Step)
    → Keeps part (acts_to_send v) (answers_message v s m code nonce)
answers-keeps v s m code nonce part =
    let told = tells v s m code in
    let t = in_session told s in
    let queued = queues_answers told m code nonce in
    sends-keeps (next_package queued t.progress.standing) t m code part
    ∙ ap (join part)
    (next-rest queued t.progress.standing ∙ queued-rest told m code nonce ∙ tells-rest v s m code)

pub header-keeps : (v : Service) (s : Session) (m : Parts) (h : Heard) (nonce : List ℕ) (part : Option Step)
    → Keeps part (acts_to_send v) (by_header v s m h nonce)
header-keeps v s m h nonce part =
    either (Keeps part (acts_to_send v)) (not (is_some (fault_of m)) && list_any is_abort m.body)
    (ended-keeps v s part)
    (either (Keeps part (acts_to_send v)) h.second (denies-keeps v s m h.code nonce part)
    (answers-keeps v s m h.code nonce part))

status-rest : (v : Service) (s : Session) (failed : Bool) (status : ℕ) → (not failed && is_denied status) ≡ false
    → acts_to_send (after_status v s failed status) ≡ acts_to_send v
status-rest v s failed status calm = ap (λ b. acts_to_send (cond b (gives_up v s) v)) calm

pub sends_or_keeps : SendsOrKeeps
unfolding accepts
sends_or_keeps v s m nonce part calm =
    let h = hears User v.job.account s.progress.standing m nonce in
    let t : Session = record s { progress = record s.progress { standing = h.standing } } in
    let heard : Service = record v { job = record v.job { account = h.account }; session = Some t } in
    let w = after_status heard t s.progress.standing.we_failed h.status in
    header-keeps w (in_session w t) m h nonce part
    ∙ ap (join part) (status-rest heard t s.progress.standing.we_failed h.status calm)
