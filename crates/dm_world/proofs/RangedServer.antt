-- Each message that the server sends can be read again: over what its machine does at a message.
use Rattle.std.proofs.Common.{◌≡◌, ◌<◌, ◌+◌, ◌==◌, ◌&&◌, ◌^◌, ℕ, Bool, true, false, cond, not, List, [], ◌∷◌, ◌++◌}
use Rattle.std.proofs.Common.{map, drop, Option, None, Some, IfSome, refl, sym, subst, arith, nat_lt}
use Rattle.std.specs.Prelude.{is_some}
use Rattle.std.specs.List.{AllByRecursion, list_any, filter}
use Rattle.syncml_types.specs.declared.command.Command.{Command}
use Rattle.syncml_types.specs.Message.{Parts}
use Rattle.syncml_types.specs.Fitness.{IsFit}
use Rattle.syncml_codec.specs.Ranges.{CommandRange, AreNumbers}
use Rattle.dm_headers.specs.declared.checks.Side.TheVariants.{User, Server}
use Rattle.dm_headers.specs.declared.standings.Standing.{Standing}
use Rattle.dm_headers.specs.Checks.{fault_of, is_denied, passes, login_of}
use Rattle.dm_headers.specs.Standings.{Heard, hears}
use Rattle.dm_headers.specs.Headers.{header_answer}
use Rattle.dm_atomic.specs.declared.tasks.Post.{Post}
use Rattle.dm_atomic.specs.Made.{Status}
use Rattle.dm_atomic.specs.Posts.{asked_posts}
use Rattle.dm_pack.specs.Entries.{Entry, whole_entry}
use Rattle.dm_pack.specs.Filling.{fill}
use Rattle.dm_ends.specs.Commands.{is_abort, session_of, origin_of}
use Rattle.dm_ends.specs.Ready.{IsReadyAccount, IsReadyLimits, IsReadyMessage}
use Rattle.dm_ends.proofs.Answers.{nonce_is, answer_ready}
use Rattle.dm_ends.proofs.Hearing.{IsRoom, hears_ready}
use Rattle.dm_ends.proofs.Statuses.{AreReadyPosts, AreReadyMade, origin_ready, posts_ready, status_is_ready, told_ready}
use Rattle.dm_ends.proofs.Texts.{known_number}
use Rattle.dm_job.specs.declared.job.JobEntry.{JobEntry}
use Rattle.dm_job.specs.Sound.{all_entries}
use Rattle.dm_service.specs.declared.progress.ServiceProgress.{ServiceProgress}
use Rattle.dm_service.specs.Service.{Waiting, Session, Service}
use Rattle.dm_service.specs.Packages.{is_of_job, job_waiting, queues_package, next_package, package_put_back, gives_up}
use Rattle.dm_service.specs.Answers.{code_for, answers_command, answers_all, command_answers}
use Rattle.dm_service.specs.Sending.{client_target, header_for, carried_on, sends}
use Rattle.dm_service.specs.Messages.{first_session, begins, ended, denies, answer_waiting, after_status, tells}
use Rattle.dm_service.specs.Messages.{matched_in, with_matched, queues_answers, in_session, answers_message, by_header}
use Rattle.dm_service.specs.Messages.{accepts}
use Rattle.dm_service.specs.Events as server
use Rattle.dm_service.specs.History as server_runs
use Rattle.dm_service.specs.Ready.{IsReadyProgress, IsReadyService}
use Rattle.dm_service.proofs.Headers.{header_ready}
use Rattle.dm_service.specs.Events.{arrival}
use Rattle.dm_world.specs.World.{Reply, replied}
use Rattle.dm_world.proofs.Lists.{either, both-ways}
use Rattle.dm_world.proofs.Numbers.{lt-of}
use Rattle.dm_world.proofs.Server.{HasProgress, status-has, tells-has, session-has, has-itself}
use Rattle.dm_world.proofs.Happens.{refusal-silent}
use Rattle.dm_world.proofs.Ranges.{all-append, all-first, all-rest, IsShortHeld, CanGo, CanAllGo, both-go}
use Rattle.dm_world.proofs.Ranges.{fresh-range, fill-held, left-goes}
use Rattle.dm_world.proofs.RangedRuns.{MadeRange, AllMadeRange, status-made, told-range}
use Rattle.dm_world.proofs.RangedHeaders.{header-range, answer-range, farewell-held}

-- ---- what the server has to send

abbrev pub JobGoes : JobEntry → Type 0
JobGoes e = CanGo (whole_entry e.command)

abbrev pub JobsGo : List (List JobEntry) → Type 0
JobsGo packages = AllByRecursion JobGoes (all_entries packages)

abbrev WaitingGoes : List Waiting → Type 0
WaitingGoes = AllByRecursion (λ (w : Waiting). CanGo w.entry)

pub record Stock (v : Service) : Type 0 where
  pub limits : IsReadyLimits v.job.limits
  pub account : IsReadyAccount v.job.account
  pub job : JobsGo v.job.packages
  pub packages : JobsGo v.packages
  pub newest : AllByRecursion JobGoes v.newest
  pub queue : AllByRecursion (λ (w : Waiting). CanGo w.entry) v.queue

-- a session with which a message can be sent
record CanSend (p : ServiceProgress) : Type 0 where
  number : p.number < 2 ^ 32
  own : p.standing.own + 1 < 2 ^ 32
  room : IsRoom p.standing.room

-- a server, and its reply
abbrev Goes : Service → Type 0
Goes v = Stock v × IfSome (server.reply_of v) IsShortHeld

-- ---- lists

job-waits : (es : List JobEntry) → AllByRecursion JobGoes es → WaitingGoes (map job_waiting es)
job-waits [] h = tt
job-waits (e ∷ es) h = (h.0, job-waits es h.1)

answers-wait : (cs : List Command) → CanAllGo (map whole_entry cs) → WaitingGoes (map answer_waiting cs)
answers-wait [] h = tt
answers-wait (c ∷ cs) h = (h.0, answers-wait cs h.1)

entries-go : (ws : List Waiting) → WaitingGoes ws → CanAllGo (map (λ (w : Waiting). w.entry) ws)
entries-go [] h = tt
entries-go (w ∷ ws) h = (h.0, entries-go ws h.1)

carried-go : (es : List Entry) (ws : List Waiting) → CanAllGo es → WaitingGoes (carried_on es ws)
carried-go [] ws h = tt
carried-go (e ∷ es) [] h = tt
carried-go (e ∷ es) (w ∷ ws) h = (h.0, carried-go es ws h.1)

others-go : (ws : List Waiting) → WaitingGoes ws → WaitingGoes (filter (λ w. not (is_of_job w)) ws)
others-go [] h = tt
others-go (w ∷ ws) h =
    let rest = filter (λ w. not (is_of_job w)) ws in
    either WaitingGoes (not (is_of_job w)) {x = w ∷ rest} {y = rest} (h.0, others-go ws h.1) (others-go ws h.1)

put-back-goes : (p : List JobEntry) (ps : List (List JobEntry)) → AllByRecursion JobGoes p → JobsGo ps
    → JobsGo (package_put_back p ps)
put-back-goes [] ps h k = k
put-back-goes (e ∷ es) ps h k = all-append JobGoes (e ∷ es) (all_entries ps) h k

-- ---- answers

code-low : (c : Command) → code_for c < 2 ^ 32
code-low c = grind arith

made-ready : (code : ℕ) (ps : List Post) → code < 2 ^ 32 → AreReadyPosts ps
    → AreReadyMade (map (λ (post : Post). Status post code) ps)
made-ready code [] low h = tt
made-ready code (p ∷ ps) low h = (status_is_ready p h.0 code low, made-ready code ps low h.1)

made-range : (code : ℕ) (ps : List Post) → code < 2 ^ 32 → AreReadyPosts ps
    → AllMadeRange (map (λ (post : Post). Status post code) ps)
made-range code [] low h = tt
made-range code (p ∷ ps) low h = (status-made p code h.0 low, made-range code ps low h.1)

all-ready : (m : Parts) (cs : List Command) → IsFit m.header m.body → AreNumbers m → AllByRecursion CommandRange cs
    → AreReadyMade (answers_all (origin_of m) cs)
all-ready m [] fit numbers h = tt
all-ready m (c ∷ cs) fit numbers h =
    all-append _ (answers_command (origin_of m) c) (answers_all (origin_of m) cs)
    (made-ready (code_for c) (asked_posts (origin_of m) c) (code-low c)
    (posts_ready (origin_of m) c (origin_ready m fit numbers) h.0))
    (all-ready m cs fit numbers h.1)

all-range : (m : Parts) (cs : List Command) → IsFit m.header m.body → AreNumbers m → AllByRecursion CommandRange cs
    → AllMadeRange (answers_all (origin_of m) cs)
all-range m [] fit numbers h = tt
all-range m (c ∷ cs) fit numbers h =
    all-append MadeRange (answers_command (origin_of m) c) (answers_all (origin_of m) cs)
    (made-range (code_for c) (asked_posts (origin_of m) c) (code-low c)
    (posts_ready (origin_of m) c (origin_ready m fit numbers) h.0))
    (all-range m cs fit numbers h.1)

answers-go : (m : Parts) → IsFit m.header m.body → AreNumbers m → CanAllGo (map whole_entry (command_answers m))
unfolding command_answers
answers-go m fit numbers =
    let all = answers_all (origin_of m) m.body in
    both-go _ (told_ready all (all-ready m m.body fit numbers numbers.body))
    (told-range all (all-range m m.body fit numbers numbers.body))

-- ---- what is told and asked

gives-stock : (v : Service) (s : Session) → Stock v → Stock (gives_up v s)
unfolding gives_up
gives-stock v s h = record {
  limits = h.limits;
  account = h.account;
  job = h.job;
  packages = put-back-goes v.newest v.packages h.newest h.packages;
  newest = tt;
  queue = others-go v.queue h.queue;
}

status-stock : (v : Service) (s : Session) (failed : Bool) (status : ℕ) → Stock v
    → Stock (after_status v s failed status)
status-stock v s failed status h =
    either Stock (not failed && is_denied status) {x = gives_up v s} {y = v} (gives-stock v s h) h

tells-stock : (v : Service) (s : Session) (m : Parts) (code : ℕ) → Stock v → Stock (tells v s m code)
tells-stock v s m code h =
    either Stock (passes code) {x = with_matched v s (matched_in v s m)} {y = v}
    (record {
      limits = h.limits;
      account = h.account;
      job = h.job;
      packages = h.packages;
      newest = h.newest;
      queue = h.queue;
    }) h

answers-stock : (v : Service) (m : Parts) (code : ℕ) (nonce : List ℕ) → code < 2 ^ 32 → IsReadyMessage m nonce
    → Stock v
    → Stock (queues_answers v m code nonce)
answers-stock v m code nonce low is h =
    let answer = header_answer m.header code nonce in
    let msg = is.numbers.header.msg in
    let first = map answer_waiting answer in
    let made = map answer_waiting (cond (passes code) (command_answers m) []) in
    record {
      limits = h.limits;
      account = h.account;
      job = h.job;
      packages = h.packages;
      newest = h.newest;
      queue =
          all-append (λ (w : Waiting). CanGo w.entry) (first ++ v.queue) made
          (all-append (λ (w : Waiting). CanGo w.entry) first v.queue
          (answers-wait answer
          (both-go (map whole_entry answer)
          (answer_ready m.header code nonce (known_number m is.fit) msg low
          (nonce_is nonce is.nonce_long is.nonce_bytes))
          (fresh-range answer (answer-range m.header code nonce msg low)))) h.queue)
          (answers-wait (cond (passes code) (command_answers m) [])
          (either (λ cs. CanAllGo (map whole_entry cs)) (passes code) {x = command_answers m} {y = []}
          (answers-go m is.fit is.numbers) tt));
    }

queues-stock : (v : Service) (ps : List (List JobEntry)) → v.packages ≡ ps → Stock v → Stock (queues_package v ps)
queues-stock v [] e h = h
queues-stock v (p ∷ ps) e h =
    let whole : JobsGo (p ∷ ps) = subst JobsGo e h.packages in
    let first = all-first JobGoes p (all_entries ps) whole in
    record {
      limits = h.limits;
      account = h.account;
      job = h.job;
      packages = all-rest JobGoes p (all_entries ps) whole;
      newest = first;
      queue = all-append (λ (w : Waiting). CanGo w.entry) v.queue (map job_waiting p) h.queue (job-waits p first);
    }

package-stock : (v : Service) (t : Standing) → Stock v → Stock (next_package v t)
package-stock v t h =
    either Stock (t.accepted && t.heard && not (list_any is_of_job v.queue)) {x = queues_package v v.packages} {y = v}
    (queues-stock v v.packages refl h) h

-- ---- what is sent

sends-goes : (v : Service) (s : Session) (m : Parts) (code : ℕ) → IsFit m.header m.body → Stock v
    → CanSend s.progress
    → Goes (sends v s m code)
unfolding sends
sends-goes v s m code fit h can =
    let p = s.progress in
    let es = map (λ (w : Waiting). w.entry) v.queue in
    let header = header_for v p m in
    let ready = header_ready v p m h.limits h.account can.number can.own fit in
    let range =
    header-range (login_of Server v.job.account) p.standing v.job.limits p.number (client_target m)
    (record { uri = v.job.account.server; name = None }) can.own h.limits in
    let all = entries-go v.queue h.queue in
    let f = fill es header p.standing.room p.standing.heard in (
      record {
        limits = h.limits;
        account = h.account;
        job = h.job;
        packages = h.packages;
        newest = h.newest;
        queue =
            carried-go f.left (drop f.whole v.queue) (left-goes es header p.standing.room p.standing.heard all);
      },
      fill-held es header p.standing.room p.standing.heard ready range all can.room,
    )

denies-goes : (v : Service) (s : Session) (m : Parts) (code : ℕ) (nonce : List ℕ) → code < 2 ^ 32
    → IsReadyMessage m nonce → Stock v → CanSend s.progress
    → Goes (denies v s m code nonce)
unfolding denies
denies-goes v s m code nonce low is h can =
    let p = s.progress in
    let ready = header_ready v p m h.limits h.account can.number can.own is.fit in
    let range =
    header-range (login_of Server v.job.account) p.standing v.job.limits p.number (client_target m)
    (record { uri = v.job.account.server; name = None }) can.own h.limits in (
      record {
        limits = h.limits;
        account = h.account;
        job = h.job;
        packages = h.packages;
        newest = h.newest;
        queue = h.queue;
      },
      farewell-held (header_for v p m) m code nonce ready range is low,
    )

ended-goes : (v : Service) (s : Session) → Stock v → Goes (ended v s)
ended-goes v s h = (
  record {
    limits = h.limits;
    account = h.account;
    job = h.job;
    packages = h.packages;
    newest = h.newest;
    queue = h.queue;
  },
  tt,
)

-- ---- a message

message-goes : (v : Service) (s : Session) (m : Parts) (code : ℕ) (nonce : List ℕ) → code < 2 ^ 32
    → IsReadyMessage m nonce → HasProgress s.progress v.session → Stock v → CanSend s.progress
    → Goes (answers_message v s m code nonce)
message-goes v s m code nonce low is k h can =
    let told = tells v s m code in
    let t = in_session told s in
    let same = session-has s.progress told.session s (tells-has v s m code k) in
    let waits = queues_answers told m code nonce in
    sends-goes (next_package waits t.progress.standing) t m code is.fit
    (package-stock waits t.progress.standing (answers-stock told m code nonce low is (tells-stock v s m code h)))
    (subst CanSend (sym same) can)

header-goes : (v : Service) (s : Session) (m : Parts) (h : Heard) (nonce : List ℕ) → h.code < 2 ^ 32
    → IsReadyMessage m nonce → HasProgress s.progress v.session → Stock v → CanSend s.progress
    → Goes (by_header v s m h nonce)
header-goes v s m h nonce low is k stock can =
    either Goes (not (is_some (fault_of m)) && list_any is_abort m.body) {x = ended v s}
    {y = cond h.second (denies v s m h.code nonce) (answers_message v s m h.code nonce)} (ended-goes v s stock)
    (either Goes h.second {x = denies v s m h.code nonce} {y = answers_message v s m h.code nonce}
    (denies-goes v s m h.code nonce low is stock can) (message-goes v s m h.code nonce low is k stock can))

accepts-goes : (v : Service) (s : Session) (m : Parts) (nonce : List ℕ) → IsReadyMessage m nonce → Stock v
    → s.progress.number < 2 ^ 32 → s.progress.standing.own < m.header.msg → IsRoom s.progress.standing.room
    → Goes (accepts v s m nonce)
unfolding accepts
accepts-goes v s m nonce is h number above room =
    let heard = hears User v.job.account s.progress.standing m nonce in
    let x = hears_ready User v.job.account s.progress.standing m nonce h.account room in
    let t : Session = record s { progress = record s.progress { standing = heard.standing } } in
    let w : Service = record v { job = record v.job { account = heard.account }; session = Some t } in
    let stock : Stock w = record {
      limits = h.limits;
      account = x.account;
      job = h.job;
      packages = h.packages;
      newest = h.newest;
      queue = h.queue;
    } in
    let u = after_status w t s.progress.standing.we_failed heard.status in
    let k = status-has w t s.progress.standing.we_failed heard.status refl in
    let y = in_session u t in
    let same = session-has t.progress u.session t k in
    let own = x.own in
    let msg = is.numbers.header.msg in
    header-goes u y m heard nonce x.code is (has-itself t.progress u.session t k)
    (status-stock w t s.progress.standing.we_failed heard.status stock)
    (subst CanSend (sym same) (record { number = number; own = omega (arith, own, above, msg); room = x.room }))

-- ---- what comes

range-low : (k n : ℕ) (a b : Bool) → nat_lt k (2 ^ 32) ≡ b → cond (a && b) (Some k) None ≡ Some n → n < 2 ^ 32
range-low k n true true h e = let f : k ≡ n = cc in let l = lt-of k (2 ^ 32) h in omega (arith, f, l)
range-low k n true false h e = absurd (cc)
range-low k n false b h e = absurd (cc)

low-number : (o : Option ℕ) (n : ℕ) → server.in_range o ≡ Some n → n < 2 ^ 32
low-number None n e = absurd (cc)
low-number (Some k) n e = range-low k n (nat_lt 0 k) (nat_lt k (2 ^ 32)) refl e

opens-goes : (v : Service) (n : ℕ) (m : Parts) (nonce : List ℕ) → n < 2 ^ 32 → IsReadyMessage m nonce → Stock v
    → Goes (server.opens_session v n m nonce)
opens-goes v n m nonce low is h =
    accepts-goes (begins v n) (first_session v.job.account n) m nonce is
    (record {
      limits = h.limits;
      account = h.account;
      job = h.job;
      packages = either JobsGo (is_some v.runs_in) {x = []} {y = v.job.packages} tt h.job;
      newest = tt;
      queue = tt;
    }) low (known_number m is.fit) (omega arith, omega arith)

taken-msg : (s : Session) (n : ℕ) (m : Parts) → (s.progress.number == n) ≡ true → server.takes_in (Some s) n m ≡ true
    → server.last_of s < m.header.msg
taken-msg s n m e h = grind (arith, e, h)

in-goes : (v : Service) (o : Option Session) (n : ℕ) (m : Parts) (nonce : List ℕ) → v.session ≡ o → n < 2 ^ 32
    → server.takes_in o n m ≡ true → IsReadyMessage m nonce → Stock v
    → IfSome o (λ (s : Session). IsReadyProgress s.progress)
    → Goes (server.after_in_session v o n m nonce)
in-goes v None n m nonce e low h is stock k = opens-goes v n m nonce low is stock
in-goes v (Some s) n m nonce e low h is stock k = same-or-new (s.progress.number == n) refl
  where
    same-or-new : (b : Bool) → (s.progress.number == n) ≡ b
        → Goes (cond b (accepts v s m nonce) (server.opens_session v n m nonce))
    same-or-new true f =
        let above = taken-msg s n m f h in
        let own = k.own in
        accepts-goes v s m nonce is stock k.number (omega (arith, above, own)) k.room
    same-or-new false f = opens-goes v n m nonce low is stock

-- a server, and the message that it sends first now
abbrev pub Moves : Service → server.Answer → Parts → Type 0
Moves v a m = Stock v × IfSome (replied a m) (λ (d : Reply). IsShortHeld d.message)

reply-sent : (o : Option Parts) (m : Parts) → IfSome o IsShortHeld
    → IfSome (replied (server.sent_or_ended o) m) (λ (d : Reply). IsShortHeld d.message)
reply-sent None m h = tt
reply-sent (Some sent) m h = h

unmoved : (v : Service) (m : Parts) (nonce : List ℕ) → Stock v
    → Moves v (server.refusal v (arrival m nonce) (server.reply_of v)) m
unmoved v m nonce stock = (
  stock,
  subst (λ o. IfSome o (λ (d : Reply). IsShortHeld d.message)) (sym (refusal-silent v m nonce (server.reply_of v))) tt,
)

by-number : (v : Service) (o : Option ℕ) (m : Parts) (nonce : List ℕ) → server.number_of m ≡ o → IsReadyMessage m nonce
    → IsReadyService v → Stock v
    → Moves (cond (server.takes_number v.session o m) (server.after_number v o m nonce) v)
    (cond (server.takes_number v.session o m) (server.sent_or_ended (server.reply_of (server.after_number v o m nonce)))
    (server.refusal v (arrival m nonce) (server.reply_of v)))
    m
by-number v None m nonce e is ready stock = unmoved v m nonce stock
by-number v (Some n) m nonce e is ready stock =
    let x = server.after_in_session v v.session n m nonce in
    both-ways (λ v a. Moves v a m) (server.takes_in v.session n m) x v
    (server.sent_or_ended (server.reply_of x)) (server.refusal v (arrival m nonce) (server.reply_of v))
    (λ t. moved x (in-goes v v.session n m nonce refl (low-number (session_of m) n e) t is stock ready.session))
    (λ t. unmoved v m nonce stock)
  where
    moved : (x : Service) → Goes x → Moves x (server.sent_or_ended (server.reply_of x)) m
    moved x h = (h.0, reply-sent (server.reply_of x) m h.1)

pub arrival-moves : (v : Service) (m : Parts) (nonce : List ℕ) → IsReadyMessage m nonce → IsReadyService v → Stock v
    → Moves (server_runs.next v (arrival m nonce)) (server_runs.answer_now v (arrival m nonce)) m
unfolding server_runs.next server_runs.answer_now server.takes server.after server.taken_answer
arrival-moves v m nonce is ready stock = by-number v (server.number_of m) m nonce refl is ready stock
