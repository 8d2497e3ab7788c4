-- What is put to what waits can be sent.
use Rattle.std.proofs.Common.{◌≡◌, ◌<◌, ◌^◌, ℕ, Bool, true, false, cond, not, List, [], ◌∷◌, ◌++◌, map, sym, ap, subst}
use Rattle.std.proofs.Common.{◌∙◌, arith}
use Rattle.std.specs.Prelude.{Option}
use Rattle.std.specs.List.{AllByRecursion, filter}
use Rattle.std.specs.Option.{option_to_list}
use Rattle.syncml_types.specs.declared.command.Command.{Command}
use Rattle.syncml_types.specs.declared.values.Header.{Header}
use Rattle.syncml_types.specs.Fitness.{IsFit}
use Rattle.syncml_types.specs.Message.{Parts}
use Rattle.syncml_codec.specs.Ranges.{CommandRange, AreNumbers}
use Rattle.dm_atomic.specs.declared.tasks.Post.{Post}
use Rattle.dm_atomic.specs.Made.{Status}
use Rattle.dm_headers.specs.Headers.{header_answer}
use Rattle.dm_pack.specs.Entries.{IsReady, whole_entry}
use Rattle.dm_ends.specs.Ready.{IsReadyMessage}
use Rattle.dm_ends.proofs.Answers.{nonce_is, answer_ready}
use Rattle.dm_ends.proofs.Statuses.{AreReadyPosts, AreReadyMade, origin_ready, posts_ready, status_is_ready, told_ready}
use Rattle.dm_ends.proofs.Texts.{known_number}
use Rattle.dm_ends.specs.Commands.{origin_of}
use Rattle.dm_job.specs.declared.job.JobEntry.{JobEntry}
use Rattle.dm_service.specs.Answers.{code_for, answers_command, answers_all, command_answers}
use Rattle.dm_service.specs.Messages.{answer_waiting}
use Rattle.dm_service.specs.Packages.{is_of_job, job_waiting}
use Rattle.dm_service.specs.Ready.{IsReadyEntry, AreReadyWaiting}
use Rattle.dm_service.specs.Service.{Waiting}
use Rattle.dm_server.specs.Working.{IsReadyBody}

both : {A : Type 0} (P : A → Type 0) (xs ys : List A) → AllByRecursion P xs → AllByRecursion P ys
    → AllByRecursion P (xs ++ ys)
both P [] ys h k = k
both P (x ∷ xs) ys h k = (h.0, both P xs ys h.1 k)

-- ---- answers

answers-ready : (cs : List Command) → AllByRecursion IsReady (map whole_entry cs)
    → AreReadyWaiting (map answer_waiting cs)
answers-ready [] h = tt
answers-ready (c ∷ cs) h = (h.0, answers-ready cs h.1)

-- the Status of a header
pub status_waits : (status : Option Command) (m : Parts) (header : Header) (code : ℕ) (nonce : List ℕ)
    (queue : List Waiting) → header ≡ m.header → option_to_list status ≡ header_answer header code nonce → code < 2 ^ 32
    → IsReadyMessage m nonce → AreReadyWaiting queue
    → AreReadyWaiting (map answer_waiting (option_to_list status) ++ queue)
status_waits status m header code nonce queue same is low ready waits =
    both _ (map answer_waiting (option_to_list status)) queue
    (answers-ready (option_to_list status)
    (subst (λ cs. AllByRecursion IsReady (map whole_entry cs)) (sym (is ∙ ap (λ h. header_answer h code nonce) same))
    (answer_ready m.header code nonce (known_number m ready.fit) ready.numbers.header.msg low
    (nonce_is nonce ready.nonce_long ready.nonce_bytes)))) waits

code-low : (c : Command) → code_for c < 2 ^ 32
code-low c = grind arith

made-ready : (code : ℕ) (ps : List Post) → code < 2 ^ 32 → AreReadyPosts ps
    → AreReadyMade (map (λ (post : Post). Status post code) ps)
made-ready code [] low h = tt
made-ready code (p ∷ ps) low h = (status_is_ready p h.0 code low, made-ready code ps low h.1)

all-ready : (m : Parts) (cs : List Command) → IsFit m.header m.body → AreNumbers m → AllByRecursion CommandRange cs
    → AreReadyMade (answers_all (origin_of m) cs)
all-ready m [] fit numbers h = tt
all-ready m (c ∷ cs) fit numbers h =
    both _ (answers_command (origin_of m) c) (answers_all (origin_of m) cs)
    (made-ready (code_for c) _ (code-low c) (posts_ready (origin_of m) c (origin_ready m fit numbers) h.0))
    (all-ready m cs fit numbers h.1)

body-answers : (m : Parts) → IsReadyBody m → AllByRecursion IsReady (map whole_entry (command_answers m))
unfolding command_answers
body-answers m is =
    told_ready (answers_all (origin_of m) m.body) (all-ready m m.body is.fit is.numbers is.numbers.body)

if-answers : (b : Bool) (m : Parts) → IsReadyBody m
    → AllByRecursion IsReady (map whole_entry (cond b (command_answers m) []))
if-answers true m is = body-answers m is
if-answers false m is = tt

-- what the commands of a message are answered
pub answers_wait : (m : Parts) (b : Bool) (made : List Command) (queue : List Waiting) → IsReadyBody m
    → made ≡ cond b (command_answers m) [] → AreReadyWaiting queue → AreReadyWaiting (queue ++ map answer_waiting made)
answers_wait m b made queue is e waits =
    both _ queue (map answer_waiting made) waits
    (answers-ready made (subst (λ cs. AllByRecursion IsReady (map whole_entry cs)) (sym e) (if-answers b m is)))

-- ---- the job

job-ready : (es : List JobEntry) → AllByRecursion IsReadyEntry es → AreReadyWaiting (map job_waiting es)
job-ready [] h = tt
job-ready (e ∷ es) h = (h.0, job-ready es h.1)

pub package_waits : (es : List JobEntry) (queue : List Waiting) → AllByRecursion IsReadyEntry es → AreReadyWaiting queue
    → AreReadyWaiting (queue ++ map job_waiting es)
package_waits es queue h waits = both _ queue (map job_waiting es) waits (job-ready es h)

others-step : (w : Waiting) (ws : List Waiting) (b : Bool) → IsReady w.entry → AreReadyWaiting ws
    → AreReadyWaiting (cond b (w ∷ ws) ws)
others-step w ws true first rest = (first, rest)
others-step w ws false first rest = rest

pub others_wait : (ws : List Waiting) → AreReadyWaiting ws → AreReadyWaiting (filter (λ w. not (is_of_job w)) ws)
others_wait [] h = tt
others_wait (w ∷ ws) h =
    others-step w (filter (λ w. not (is_of_job w)) ws) (not (is_of_job w)) h.0 (others_wait ws h.1)
