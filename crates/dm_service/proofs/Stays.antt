-- A machine that has nothing to send but what can be sent stays one, and its messages keep to the room.
use Rattle.std.proofs.Common.{None, Some, ◌≡◌, ◌<◌, ◌+◌, ◌&&◌, ◌^◌, ◌==◌, ℕ, Bool, true, false, cond, not, List, []}
use Rattle.std.proofs.Common.{◌∷◌, ◌++◌, map, take, drop, refl, sym, ap, subst, ◌∙◌, arith, IfSome}
use Rattle.std.specs.Prelude.{Option, Result, Ok, Err, is_some, if◌then◌else◌, nat_lt}
use Rattle.std.specs.List.{AllByRecursion, list_any, filter}
use Rattle.syncml_types.specs.declared.command.Command.{Command}
use Rattle.syncml_types.specs.Message.{Parts}
use Rattle.syncml_types.specs.Fitness.{IsFit}
use Rattle.syncml_codec.specs.Ranges.{CommandRange, AreNumbers}
use Rattle.wbxml_tokens.specs.declared.reason.Refusal.{Refusal}
use Rattle.dm_headers.specs.declared.checks.Side.TheVariants.{User}
use Rattle.dm_headers.specs.declared.standings.Standing.{Standing}
use Rattle.dm_headers.specs.Checks.{fault_of, is_denied, passes}
use Rattle.dm_headers.specs.Headers.{header_answer}
use Rattle.dm_headers.specs.Standings.{Heard, hears}
use Rattle.dm_atomic.specs.declared.tasks.Post.{Post}
use Rattle.dm_atomic.specs.Made.{Status}
use Rattle.dm_atomic.specs.Posts.{asked_posts}
use Rattle.dm_pack.specs.Entries.{Entry, IsReady, whole_entry}
use Rattle.dm_pack.specs.Filling.{next_rest, left_after, fill, taken, cut, commands_of, IsReadyHeader}
use Rattle.dm_pack.proofs.Left.{what_is_left_is_ready}
use Rattle.dm_pack.proofs.Within.{fill_within}
use Rattle.dm_ends.specs.Commands.{is_abort, session_of, origin_of}
use Rattle.dm_ends.specs.Ready.{IsReadyAccount, IsReadyLimits, IsReadyMessage}
use Rattle.dm_ends.proofs.Answers.{IsNonce, nonce_is, answer_ready}
use Rattle.dm_ends.proofs.ShortFarewells.{farewell_short}
use Rattle.dm_ends.proofs.Hearing.{IsRoom, hears_ready}
use Rattle.dm_ends.proofs.Statuses.{AreReadyPosts, AreReadyMade, origin_ready, posts_ready, status_is_ready, told_ready}
use Rattle.dm_ends.proofs.Texts.{known_number}
use Rattle.dm_job.specs.declared.job.JobEntry.{JobEntry}
use Rattle.dm_job.specs.Sound.{all_entries}
use Rattle.dm_service.specs.Service.{Waiting, Session, Service}
use Rattle.dm_service.specs.Packages.{is_of_job, job_waiting, queues_package, next_package, package_put_back, gives_up}
use Rattle.dm_service.specs.Answers.{code_for, answers_command, answers_all, command_answers}
use Rattle.dm_service.specs.Sending.{header_for, carried_on, sends}
use Rattle.dm_service.specs.Messages.{first_session, begins, ended, denies, answer_waiting, after_status, tells}
use Rattle.dm_service.specs.Messages.{queues_answers, in_session, answers_message, by_header, accepts}
use Rattle.dm_service.specs.Events.{Arrival, number_of, in_range, takes_in, takes_number, takes_read, takes}
use Rattle.dm_service.specs.Events.{opens_session}
use Rattle.dm_service.specs.Events.{after_in_session, after_number, after_read, after, last_of}
use Rattle.dm_service.specs.History.{next}
use Rattle.dm_service.specs.Ready.{IsReadyEntry, AreReadyPackages, AreReadyWaiting, IsReadyProgress, IsReadyService}
use Rattle.dm_service.specs.Ready.{IsReadyArrival}
use Rattle.dm_service.specs.Laws.{IsShort, StaysReady, SendsWithinRoom}
use Rattle.dm_service.proofs.Steps.{either, lt_of}
use Rattle.dm_service.proofs.Gone.{found}
use Rattle.dm_service.proofs.Headers.{header_ready}

-- ---- lists of what can be sent

both : {A : Type 0} (P : A → Type 0) (xs ys : List A) → AllByRecursion P xs → AllByRecursion P ys
    → AllByRecursion P (xs ++ ys)
both P [] ys h k = k
both P (x ∷ xs) ys h k = (h.0, both P xs ys h.1 k)

first-of : {A : Type 0} (P : A → Type 0) (xs ys : List A) → AllByRecursion P (xs ++ ys) → AllByRecursion P xs
first-of P [] ys h = tt
first-of P (x ∷ xs) ys h = (h.0, first-of P xs ys h.1)

rest-of : {A : Type 0} (P : A → Type 0) (xs ys : List A) → AllByRecursion P (xs ++ ys) → AllByRecursion P ys
rest-of P [] ys h = h
rest-of P (x ∷ xs) ys h = rest-of P xs ys h.1

job-ready : (es : List JobEntry) → AllByRecursion IsReadyEntry es → AreReadyWaiting (map job_waiting es)
job-ready [] h = tt
job-ready (e ∷ es) h = (h.0, job-ready es h.1)

answers-ready : (cs : List Command) → AllByRecursion IsReady (map whole_entry cs)
    → AreReadyWaiting (map answer_waiting cs)
answers-ready [] h = tt
answers-ready (c ∷ cs) h = (h.0, answers-ready cs h.1)

entries-ready : (ws : List Waiting) → AreReadyWaiting ws → AllByRecursion IsReady (map (λ (w : Waiting). w.entry) ws)
entries-ready [] h = tt
entries-ready (w ∷ ws) h = (h.0, entries-ready ws h.1)

carried-ready : (es : List Entry) (ws : List Waiting) → AllByRecursion IsReady es → AreReadyWaiting (carried_on es ws)
carried-ready [] ws h = tt
carried-ready (e ∷ es) [] h = tt
carried-ready (e ∷ es) (w ∷ ws) h = (h.0, carried-ready es ws h.1)

others-step : (w : Waiting) (ws : List Waiting) (b : Bool) → IsReady w.entry → AreReadyWaiting ws
    → AreReadyWaiting (cond b (w ∷ ws) ws)
others-step w ws true first rest = (first, rest)
others-step w ws false first rest = rest

others-ready : (ws : List Waiting) → AreReadyWaiting ws → AreReadyWaiting (filter (λ w. not (is_of_job w)) ws)
others-ready [] h = tt
others-ready (w ∷ ws) h =
    others-step w (filter (λ w. not (is_of_job w)) ws) (not (is_of_job w)) h.0 (others-ready ws h.1)

put-back-ready : (p : List JobEntry) (ps : List (List JobEntry)) → AllByRecursion IsReadyEntry p → AreReadyPackages ps
    → AreReadyPackages (package_put_back p ps)
put-back-ready [] ps h k = k
put-back-ready (e ∷ es) ps h k = both IsReadyEntry (e ∷ es) (all_entries ps) h k

begin-ready : (b : Bool) (ps : List (List JobEntry)) → AreReadyPackages ps → AreReadyPackages (cond b [] ps)
begin-ready true ps h = tt
begin-ready false ps h = h

-- ---- answers

verb-low : (c : Command) → code_for c < 2 ^ 32
verb-low c = grind arith

made-ready : (code : ℕ) (ps : List Post) → code < 2 ^ 32 → AreReadyPosts ps
    → AreReadyMade (map (λ (post : Post). Status post code) ps)
made-ready code [] low h = tt
made-ready code (p ∷ ps) low h = (status_is_ready p h.0 code low, made-ready code ps low h.1)

all-ready : (m : Parts) (cs : List Command) → IsFit m.header m.body → AreNumbers m → AllByRecursion CommandRange cs
    → AreReadyMade (answers_all (origin_of m) cs)
all-ready m [] fit numbers h = tt
all-ready m (c ∷ cs) fit numbers h =
    both _ (answers_command (origin_of m) c) (answers_all (origin_of m) cs)
    (made-ready (code_for c) (asked_posts (origin_of m) c) (verb-low c)
    (posts_ready (origin_of m) c (origin_ready m fit numbers) h.0))
    (all-ready m cs fit numbers h.1)

made-answers : (m : Parts) → IsFit m.header m.body → AreNumbers m
    → AllByRecursion IsReady (map whole_entry (command_answers m))
unfolding command_answers
made-answers m fit numbers = told_ready (answers_all (origin_of m) m.body) (all-ready m m.body fit numbers numbers.body)

if-answers : (b : Bool) (cs : List Command) → AllByRecursion IsReady (map whole_entry cs)
    → AllByRecursion IsReady (map whole_entry (cond b cs []))
if-answers true cs h = h
if-answers false cs h = tt

-- ---- a machine in its session

-- while a message is worked its answer isn't made yet, so it can have a MsgID of its own
pub record Fit (v : Service) (s : Session) : Type 0 where
  pub limits : IsReadyLimits v.job.limits
  pub account : IsReadyAccount v.job.account
  pub job : AreReadyPackages v.job.packages
  pub packages : AreReadyPackages v.packages
  pub newest : AllByRecursion IsReadyEntry v.newest
  pub queue : AreReadyWaiting v.queue
  pub number : s.progress.number < 2 ^ 32
  pub last : s.progress.standing.last < 2 ^ 32
  pub own : s.progress.standing.own < s.progress.standing.last
  pub room : IsRoom s.progress.standing.room

pub record Holds (v : Service) : Type 0 where
  pub session : Session
  pub is_it : v.session ≡ Some session
  pub fit : Fit v session

-- a machine that can be sent, and whose answer keeps to the room
pub record Done (v : Service) : Type 0 where
  pub ready : IsReadyService v
  pub short : IsShort v

gives-fit : (v : Service) (s : Session) → Fit v s → Holds (gives_up v s)
unfolding gives_up
gives-fit v s h = record {
  session = _;
  is_it = refl;
  fit = record {
    limits = h.limits;
    account = h.account;
    job = h.job;
    packages = put-back-ready v.newest v.packages h.newest h.packages;
    newest = tt;
    queue = others-ready v.queue h.queue;
    number = h.number;
    last = h.last;
    own = h.own;
    room = h.room;
  };
}

kept : (v : Service) (s : Session) → v.session ≡ Some s → Fit v s → Holds v
kept v s e h = record { session = s; is_it = e; fit = h }

status-fit : (v : Service) (s : Session) (failed : Bool) (status : ℕ) → v.session ≡ Some s → Fit v s
    → Holds (after_status v s failed status)
status-fit v s failed status e h =
    either Holds (not failed && is_denied status) (gives_up v s) v (gives-fit v s h) (kept v s e h)

tells-fit : (v : Service) (s : Session) (m : Parts) (code : ℕ) → v.session ≡ Some s → Fit v s → Holds (tells v s m code)
tells-fit v s m code e h =
    either Holds (passes code) _ v
    (record {
      session = _;
      is_it = refl;
      fit = record {
        limits = h.limits;
        account = h.account;
        job = h.job;
        packages = h.packages;
        newest = h.newest;
        queue = h.queue;
        number = h.number;
        last = h.last;
        own = h.own;
        room = h.room;
      };
    }) (kept v s e h)

with-queue : (v w : Service) (s : Session) → Fit v s → w.job ≡ v.job → AreReadyPackages w.packages
    → AllByRecursion IsReadyEntry w.newest → AreReadyWaiting w.queue → Fit w s
with-queue v w s h e packages newest queue = record {
  limits = subst (λ j. IsReadyLimits j.limits) (sym e) h.limits;
  account = subst (λ j. IsReadyAccount j.account) (sym e) h.account;
  job = subst (λ j. AreReadyPackages j.packages) (sym e) h.job;
  packages = packages;
  newest = newest;
  queue = queue;
  number = h.number;
  last = h.last;
  own = h.own;
  room = h.room;
}

nonce-of : (m : Parts) (nonce : List ℕ) → IsReadyMessage m nonce → IsNonce nonce
nonce-of m nonce is = nonce_is nonce is.nonce_long is.nonce_bytes

answers-fit : (v : Service) (s : Session) (m : Parts) (code : ℕ) (nonce : List ℕ) → code < 2 ^ 32
    → IsReadyMessage m nonce
    → Fit v s → Fit (queues_answers v m code nonce) s
answers-fit v s m code nonce low is h =
    let first = map answer_waiting (header_answer m.header code nonce) in
    let made = map answer_waiting (if passes code then command_answers m else []) in
    with-queue v (queues_answers v m code nonce) s h refl h.packages h.newest
    (both _ (first ++ v.queue) made
    (both _ first v.queue
    (answers-ready (header_answer m.header code nonce)
    (answer_ready m.header code nonce (known_number m is.fit) is.numbers.header.msg low (nonce-of m nonce is))) h.queue)
    (answers-ready (if passes code then command_answers m else [])
    (if-answers (passes code) (command_answers m) (made-answers m is.fit is.numbers))))

queues-fit : (v : Service) (s : Session) (ps : List (List JobEntry)) → v.packages ≡ ps → Fit v s
    → Fit (queues_package v ps) s
queues-fit v s [] e h = h
queues-fit v s (p ∷ ps) e h =
    let whole : AreReadyPackages (p ∷ ps) = subst AreReadyPackages e h.packages in
    let first = first-of IsReadyEntry p (all_entries ps) whole in
    with-queue v (queues_package v (p ∷ ps)) s h refl (rest-of IsReadyEntry p (all_entries ps) whole) first
    (both _ v.queue (map job_waiting p) h.queue (job-ready p first))

package-fit : (v : Service) (s : Session) (t : Standing) → Fit v s → Fit (next_package v t) s
package-fit v s t h =
    either (λ w. Fit w s) (t.accepted && t.heard && not (list_any is_of_job v.queue))
    (queues_package v v.packages) v (queues-fit v s v.packages refl h) h

-- ---- what is sent

own-next : (v : Service) (s : Session) → Fit v s → s.progress.standing.own + 1 < 2 ^ 32
own-next v s h = let a = h.own in let b = h.last in omega (arith, a, b)

header-fit : (v : Service) (s : Session) (m : Parts) → Fit v s → IsFit m.header m.body
    → IsReadyHeader (header_for v s.progress m)
header-fit v s m h fit = header_ready v s.progress m h.limits h.account h.number (own-next v s h) fit

sends-done : (v : Service) (s : Session) (m : Parts) (code : ℕ) → IsFit m.header m.body → Fit v s
    → Done (sends v s m code)
unfolding sends fill left_after
sends-done v s m code fit h =
    let p = s.progress in
    let es = map (λ (w : Waiting). w.entry) v.queue in
    let header = header_for v p m in
    let whole = taken header p.standing.room [] es in
    let n = cut header p.standing.room (commands_of (take whole es)) (drop whole es) in
    let own = h.own in
    record {
      ready = record {
        limits = h.limits;
        account = h.account;
        job = h.job;
        packages = h.packages;
        newest = h.newest;
        queue = carried-ready (next_rest n (drop whole es)) (drop whole v.queue)
            (what_is_left_is_ready es whole n (entries-ready v.queue h.queue));
        session = record { number = h.number; last = h.last; own = omega (arith, own); room = h.room };
      };
      short = fill_within header es p.standing.room p.standing.heard (header-fit v s m h fit) h.room.0;
    }

denies-done : (v : Service) (s : Session) (m : Parts) (code : ℕ) (nonce : List ℕ) → code < 2 ^ 32
    → IsReadyMessage m nonce
    → Fit v s → Done (denies v s m code nonce)
unfolding denies
denies-done v s m code nonce low is h =
    let own = h.own in
    let least = h.room.0 in
    let most = farewell_short (header_for v s.progress m) m code nonce (header-fit v s m h is.fit) is.numbers.header.msg
    low (nonce-of m nonce is) in
    record {
      ready = record {
        limits = h.limits;
        account = h.account;
        job = h.job;
        packages = h.packages;
        newest = h.newest;
        queue = h.queue;
        session = record { number = h.number; last = h.last; own = omega (arith, own); room = h.room };
      };
      short = omega (arith, most, least);
    }

ended-done : (v : Service) (s : Session) → Fit v s → Done (ended v s)
ended-done v s h =
    let own = h.own in
    record {
      ready = record {
        limits = h.limits;
        account = h.account;
        job = h.job;
        packages = h.packages;
        newest = h.newest;
        queue = h.queue;
        session = record { number = h.number; last = h.last; own = omega (arith, own); room = h.room };
      };
      short = tt;
    }

-- ---- a message

message-done : (v : Service) (s : Session) (m : Parts) (code : ℕ) (nonce : List ℕ) → code < 2 ^ 32
    → IsReadyMessage m nonce
    → v.session ≡ Some s → Fit v s → Done (answers_message v s m code nonce)
message-done v s m code nonce low is e h =
    let told = tells v s m code in
    let k = tells-fit v s m code e h in
    let t = in_session told s in
    let is_t : t ≡ k.session = found told.session s k.session k.is_it in
    let fit : Fit told t = subst (λ x. Fit told x) (sym is_t) k.fit in
    let waits = queues_answers told m code nonce in
    sends-done (next_package waits t.progress.standing) t m code is.fit
    (package-fit waits t t.progress.standing (answers-fit told t m code nonce low is fit))

header-done : (v : Service) (s : Session) (m : Parts) (h : Heard) (nonce : List ℕ) → h.code < 2 ^ 32
    → IsReadyMessage m nonce → v.session ≡ Some s → Fit v s → Done (by_header v s m h nonce)
header-done v s m h nonce low is e fit =
    either Done (not (is_some (fault_of m)) && list_any is_abort m.body) (ended v s)
    (cond h.second (denies v s m h.code nonce) (answers_message v s m h.code nonce)) (ended-done v s fit)
    (either Done h.second (denies v s m h.code nonce) (answers_message v s m h.code nonce)
    (denies-done v s m h.code nonce low is fit) (message-done v s m h.code nonce low is e fit))

-- a machine that may take a message of its session
record Takes (v : Service) (s : Session) (m : Parts) : Type 0 where
  limits : IsReadyLimits v.job.limits
  account : IsReadyAccount v.job.account
  job : AreReadyPackages v.job.packages
  packages : AreReadyPackages v.packages
  newest : AllByRecursion IsReadyEntry v.newest
  queue : AreReadyWaiting v.queue
  number : s.progress.number < 2 ^ 32
  own : s.progress.standing.own < m.header.msg
  room : IsRoom s.progress.standing.room

accepts-done : (v : Service) (s : Session) (m : Parts) (nonce : List ℕ) → IsReadyMessage m nonce → Takes v s m
    → Done (accepts v s m nonce)
unfolding accepts
accepts-done v s m nonce is h =
    let heard = hears User v.job.account s.progress.standing m nonce in
    let k = hears_ready User v.job.account s.progress.standing m nonce h.account h.room in
    let t : Session = record s { progress = record s.progress { standing = heard.standing } } in
    let w : Service = record v { job = record v.job { account = heard.account }; session = Some t } in
    let msg = is.numbers.header.msg in
    let last = k.last in
    let own = k.own in
    let before = h.own in
    let fit : Fit w t = record {
      limits = h.limits;
      account = k.account;
      job = h.job;
      packages = h.packages;
      newest = h.newest;
      queue = h.queue;
      number = h.number;
      last = omega (arith, last, msg);
      own = omega (arith, last, own, before);
      room = k.room;
    } in
    let u = after_status w t s.progress.standing.we_failed heard.status in
    let g = status-fit w t s.progress.standing.we_failed heard.status refl fit in
    let x = in_session u t in
    let is_x : x ≡ g.session = found u.session t g.session g.is_it in
    header-done u x m heard nonce k.code is (g.is_it ∙ ap Some (sym is_x)) (subst (λ y. Fit u y) (sym is_x) g.fit)

-- ---- what comes

range-low : (k n : ℕ) (a b : Bool) → nat_lt k (2 ^ 32) ≡ b → cond (a && b) (Some k) None ≡ Some n → n < 2 ^ 32
range-low k n true true h e = let f : k ≡ n = cc in let l = lt_of k (2 ^ 32) h in omega (arith, f, l)
range-low k n true false h e = absurd (cc)
range-low k n false b h e = absurd (cc)

low-number : (o : Option ℕ) (n : ℕ) → in_range o ≡ Some n → n < 2 ^ 32
low-number None n e = absurd (cc)
low-number (Some k) n e = range-low k n (nat_lt 0 k) (nat_lt k (2 ^ 32)) refl e

opens-done : (v : Service) (n : ℕ) (m : Parts) (nonce : List ℕ) → n < 2 ^ 32 → IsReadyMessage m nonce → IsReadyService v
    → Done (opens_session v n m nonce)
opens-done v n m nonce low is ready =
    let some = known_number m is.fit in
    accepts-done (begins v n) (first_session v.job.account n) m nonce is (record {
      limits = ready.limits;
      account = ready.account;
      job = ready.job;
      packages = begin-ready (is_some v.runs_in) v.job.packages ready.job;
      newest = tt;
      queue = tt;
      number = low;
      own = some;
      room = (omega arith, omega arith);
    })

taken-msg : (s : Session) (n : ℕ) (m : Parts) → (s.progress.number == n) ≡ true → takes_in (Some s) n m ≡ true
    → last_of s < m.header.msg
taken-msg s n m e h = grind (arith, e, h)

acts-done : (v : Service) (o : Option Session) (n : ℕ) (m : Parts) (nonce : List ℕ) → v.session ≡ o → n < 2 ^ 32
    → takes_in o n m ≡ true → IsReadyMessage m nonce → IsReadyService v
    → IfSome o (λ (s : Session). IsReadyProgress s.progress) → Done (after_in_session v o n m nonce)
acts-done v None n m nonce e low h is ready k = opens-done v n m nonce low is ready
acts-done v (Some s) n m nonce e low h is ready k =
    same-or-new (s.progress.number == n) refl
  where
    same-or-new : (b : Bool) → (s.progress.number == n) ≡ b → Done (cond b (accepts v s m nonce) (opens_session v n m nonce))
    same-or-new true f =
        let above = taken-msg s n m f h in
        let own = k.own in
        accepts-done v s m nonce is (record {
          limits = ready.limits;
          account = ready.account;
          job = ready.job;
          packages = ready.packages;
          newest = ready.newest;
          queue = ready.queue;
          number = k.number;
          own = omega (arith, above, own);
          room = k.room;
        })
    same-or-new false f = opens-done v n m nonce low is ready

as-done : (v : Service) (o : Option ℕ) (m : Parts) (nonce : List ℕ) → number_of m ≡ o
    → takes_number v.session o m ≡ true
    → IsReadyMessage m nonce → IsReadyService v → Done (after_number v o m nonce)
as-done v None m nonce e h is ready = absurd (cc)
as-done v (Some n) m nonce e h is ready =
    acts-done v v.session n m nonce refl (low-number (session_of m) n e) h is ready ready.session

read-done : (v : Service) (read : Result Parts Refusal) (nonce : List ℕ) → takes_read v read ≡ true
    → IsReadyArrival (record { read = read; nonce = nonce }) → IsReadyService v → Done (after_read v read nonce)
read-done v (Ok m) nonce h is ready = as-done v (number_of m) m nonce refl h is ready
read-done v (Err place) nonce h is ready = absurd (cc)

-- ---- the laws

next-ready : (v : Service) (e : Arrival) (b : Bool) → takes v e ≡ b → IsReadyService v → IsReadyArrival e
    → IsReadyService (cond b (after v e) v)
unfolding takes after
next-ready v e true h ready is = (read-done v e.read e.nonce h is ready).ready
next-ready v e false h ready is = ready

pub stays_ready : StaysReady
unfolding next
stays_ready v e ready is = next-ready v e (takes v e) refl ready is

next-short : (v : Service) (e : Arrival) (b : Bool) → takes v e ≡ b → IsReadyService v → IsReadyArrival e → IsShort v
    → IsShort (cond b (after v e) v)
unfolding takes after
next-short v e true h ready is short = (read-done v e.read e.nonce h is ready).short
next-short v e false h ready is short = short

pub sends_within_room : SendsWithinRoom
unfolding next
sends_within_room v e ready is short = next-short v e (takes v e) refl ready is short
