-- What the server notes of its present session stands so in its messages.
use Rattle.std.proofs.Common.{zero, suc, ◌≡◌, ◌<◌, ◌+◌, ◌==◌, ◌&&◌, ◌^◌, ℕ, Bool, true, false, cond, not, List, []}
use Rattle.std.proofs.Common.{◌∷◌, ◌++◌, map, take, drop, Option, None, Some, IfSome, refl, sym, ◌∙◌, ap, subst}
use Rattle.std.proofs.Common.{arith, ◌⊎◌, inl, inr, nat_lt}
use Rattle.std.specs.Prelude.{slice_get, is_some}
use Rattle.std.specs.Fmt.{decimal}
use Rattle.std.specs.List.{AllByRecursion, Contains, list_any, filter}
use Rattle.std.proofs.lemmas.List.{drop-map}
use Rattle.std.proofs.lemmas.List.Elements.{Contains-append_cases}
use Rattle.syncml_types.specs.declared.values.Header.{Header}
use Rattle.syncml_types.specs.declared.command.Command.{Command}
use Rattle.syncml_types.specs.Message.{Parts}
use Rattle.dm_base.specs.Fields.{num_of}
use Rattle.dm_headers.specs.declared.checks.Side.TheVariants.{User}
use Rattle.dm_headers.specs.declared.standings.Standing.{Standing}
use Rattle.dm_headers.specs.Checks.{fault_of, is_denied, passes}
use Rattle.dm_headers.specs.Standings.{Heard, hears}
use Rattle.dm_headers.specs.Headers.{header_answer, next_header}
use Rattle.dm_pack.specs.Filling.{commands_of, taken, cut, next_rest, tail_of, tail_commands, fill}
use Rattle.dm_ends.specs.Commands.{is_abort, session_of, origin_of}
use Rattle.dm_job.specs.declared.job.Job.{Job}
use Rattle.dm_job.specs.declared.job.JobEntry.{JobEntry}
use Rattle.dm_job.specs.Sound.{CanBeSent, all_entries}
use Rattle.dm_machine.specs.Machine.{Machine}
use Rattle.dm_service.specs.declared.progress.ServiceProgress.{ServiceProgress}
use Rattle.dm_service.specs.declared.sent.Sent.{Sent}
use Rattle.dm_service.specs.Service.{Waiting, Session, Service}
use Rattle.dm_service.specs.Packages.{is_of_job, job_waiting, queues_package, next_package, package_put_back}
use Rattle.dm_service.specs.Packages.{holds_number}
use Rattle.dm_service.specs.Packages.{gives_up}
use Rattle.dm_service.specs.Answers.{command_answers}
use Rattle.dm_service.specs.Sending.{header_for}
use Rattle.dm_service.specs.Sending.{goes_out, carried_on, sends}
use Rattle.dm_service.specs.Messages.{first_session, begins, ended, denies, answer_waiting, after_status, matched_in}
use Rattle.dm_service.specs.Messages.{with_matched, tells, queues_answers, session_or, in_session, answers_message}
use Rattle.dm_service.specs.Messages.{by_header, accepts}
use Rattle.dm_service.specs.Events as server
use Rattle.dm_service.specs.History as server_runs
use Rattle.dm_service.proofs.Codes.{first_in, later_in, filter_in}
use Rattle.dm_service.specs.Events.{arrival}
use Rattle.dm_world.specs.Deeds.{all_deeds}
use Rattle.dm_world.specs.World.{World, Reply, Happening, opens, up_comes, down_comes, update_ends, clock_moves}
use Rattle.dm_world.specs.World.{is_lost}
use Rattle.dm_world.specs.World.{finds_no_memory, with_new, replied, down_delivered, up_delivered, happens}
use Rattle.dm_world.specs.World.{run}
use Rattle.dm_world.specs.Start.{at_start, IsWorldStart}
use Rattle.dm_world.specs.Commands.{StandsAs, NotesTheSent}
use Rattle.dm_world.proofs.Lists.{either, both-ways, Each, each-new}
use Rattle.dm_world.proofs.Rising.{IsRising, fill-rises, farewell-rises}
use Rattle.dm_world.proofs.Numbers.{num-decimal, lt-of, eq-of}
use Rattle.dm_world.proofs.Client.{fill-header}
use Rattle.dm_world.proofs.Server.{HasProgress, status-has, tells-has, session-has, has-itself}
use Rattle.dm_world.proofs.Happens.{refusal-silent}
use Rattle.dm_world.proofs.Ranges.{all-append, all-first, all-rest, all-behind}
use Rattle.dm_world.proofs.Returns.{IsReport, header-reports, made-reports}
use Rattle.dm_world.proofs.SaysMade.{each-contains}
use Rattle.dm_world.proofs.Outlines.{job-each}
use Rattle.dm_world.proofs.Lasts.{job-whole}
use Rattle.dm_world.proofs.Marks.{WaitsOf, AreOf, JobIs, HasMark, job-carries, rest-waits, out-marks}

-- ---- what the server has to send

pub record Notes (packages : List (List JobEntry)) (v : Service) : Type 0 where
  pub job : AreOf packages (all_entries v.job.packages)
  pub packages_are : AreOf packages (all_entries v.packages)
  pub newest : AreOf packages v.newest
  pub queue : AllByRecursion (WaitsOf packages) v.queue

answers-wait : (packages : List (List JobEntry)) (cs : List Command) → Each IsReport cs
    → AllByRecursion (WaitsOf packages) (map answer_waiting cs)
answers-wait packages [] h = tt
answers-wait packages (c ∷ cs) h = ((h.0, tt), answers-wait packages cs h.1)

job-waits : (packages : List (List JobEntry)) (es : List JobEntry) → JobIs packages → AreOf packages es
    → AllByRecursion (WaitsOf packages) (map job_waiting es)
job-waits packages [] is h = tt
job-waits packages (e ∷ es) is h = (job-carries packages e is h.0, job-waits packages es is h.1)

others-wait : (packages : List (List JobEntry)) (ws : List Waiting) → AllByRecursion (WaitsOf packages) ws
    → AllByRecursion (WaitsOf packages) (filter (λ w. not (is_of_job w)) ws)
others-wait packages [] h = tt
others-wait packages (w ∷ ws) h =
    let rest = filter (λ w. not (is_of_job w)) ws in
    either (AllByRecursion (WaitsOf packages)) (not (is_of_job w)) {x = w ∷ rest} {y = rest}
    (h.0, others-wait packages ws h.1) (others-wait packages ws h.1)

put-back-of : (packages : List (List JobEntry)) (p : List JobEntry) (ps : List (List JobEntry)) → AreOf packages p
    → AreOf packages (all_entries ps)
    → AreOf packages (all_entries (package_put_back p ps))
put-back-of packages [] ps h k = k
put-back-of packages (e ∷ es) ps h k = all-append (Contains (all_entries packages)) (e ∷ es) (all_entries ps) h k

pub gives-notes : (packages : List (List JobEntry)) (v : Service) (s : Session) → Notes packages v
    → Notes packages (gives_up v s)
unfolding gives_up
gives-notes packages v s h = record {
  job = h.job;
  packages_are = put-back-of packages v.newest v.packages h.newest h.packages_are;
  newest = tt;
  queue = others-wait packages v.queue h.queue;
}

pub tells-notes : (packages : List (List JobEntry)) (v : Service) (s : Session) (m : Parts) (code : ℕ)
    → Notes packages v
    → Notes packages (tells v s m code)
tells-notes packages v s m code h =
    either (Notes packages) (passes code) {x = with_matched v s (matched_in v s m)} {y = v}
    (record { job = h.job; packages_are = h.packages_are; newest = h.newest; queue = h.queue }) h

pub answers-notes : (packages : List (List JobEntry)) (v : Service) (m : Parts) (code : ℕ) (nonce : List ℕ)
    → Notes packages v
    → Notes packages (queues_answers v m code nonce)
answers-notes packages v m code nonce h =
    let first = map answer_waiting (header_answer m.header code nonce) in
    let made = map answer_waiting (cond (passes code) (command_answers m) []) in
    record {
      job = h.job;
      packages_are = h.packages_are;
      newest = h.newest;
      queue =
          all-append (WaitsOf packages) (first ++ v.queue) made
          (all-append (WaitsOf packages) first v.queue
          (answers-wait packages (header_answer m.header code nonce) (header-reports m.header code nonce)) h.queue)
          (answers-wait packages (cond (passes code) (command_answers m) []) (made-reports m code));
    }

queues-notes : (packages : List (List JobEntry)) (v : Service) (ps : List (List JobEntry)) → JobIs packages
    → v.packages ≡ ps
    → Notes packages v
    → Notes packages (queues_package v ps)
queues-notes packages v [] is e h = h
queues-notes packages v (p ∷ ps) is e h =
    let whole = subst (λ l. AreOf packages (all_entries l)) e h.packages_are in
    let first = all-first (Contains (all_entries packages)) p (all_entries ps) whole in
    record {
      job = h.job;
      packages_are = all-rest (Contains (all_entries packages)) p (all_entries ps) whole;
      newest = first;
      queue = all-append (WaitsOf packages) v.queue (map job_waiting p) h.queue (job-waits packages p is first);
    }

pub package-notes : (packages : List (List JobEntry)) (v : Service) (t : Standing) → JobIs packages → Notes packages v
    → Notes packages (next_package v t)
package-notes packages v t is h =
    either (Notes packages) (t.accepted && t.heard && not (list_any is_of_job v.queue))
    {x = queues_package v v.packages} {y = v} (queues-notes packages v v.packages is refl h) h

-- ---- what it notes

-- the reply has it
abbrev InReply : List (List JobEntry) → Option Parts → ℕ → Sent → Type 0
InReply packages None n y = ⊥
InReply packages (Some m) n y =
    (m.header.session ≡ decimal n) × HasMark packages (all_deeds (origin_of m) m.body) m.header.msg y

-- it was noted before, or the reply has it
abbrev Known : List (List JobEntry) → List Sent → Option Parts → ℕ → Session → Type 0
Known packages old reply n t =
    (t.progress.number ≡ n) × ((y : Sent) → Contains t.sent y → Contains old y ⊎ InReply packages reply n y)

record Noted (packages : List (List JobEntry)) (old : List Sent) (n : ℕ) (x : Service) : Type 0 where
  notes : Notes packages x
  known : IfSome x.session (Known packages old (server.reply_of x) n)
  rising : IfSome (server.reply_of x) IsRising

abbrev pub IsIn : List Sent → List Sent → Type 0
IsIn xs old = (y : Sent) → Contains xs y → Contains old y

pub next-numbers : (v : Service) (p : ServiceProgress) (m : Parts)
    → ((header_for v p m).session ≡ decimal p.number) × ((header_for v p m).msg ≡ p.standing.own + 1)
unfolding next_header
next-numbers v p m = (refl, refl)

out-known : (packages : List (List JobEntry)) (old sent out : List Sent) (n msg : ℕ) (m : Parts) → IsIn sent old
    → m.header.session ≡ decimal n → m.header.msg ≡ msg
    → Each (HasMark packages (all_deeds (origin_of m) m.body) msg) out
    → (y : Sent) → Contains (sent ++ out) y
    → Contains old y ⊎ InReply packages (Some m) n y
out-known packages old sent out n msg m within e f marks y h = by (Contains-append_cases sent out y h)
  where
    by : Contains sent y ⊎ Contains out y → Contains old y ⊎ InReply packages (Some m) n y
    by (inl k) = inl (within y k)
    by (inr k) =
        let x = each-contains (HasMark packages (all_deeds (origin_of m) m.body) msg) out y marks k in
        inr (e, subst (λ i. HasMark packages (all_deeds (origin_of m) m.body) i y) (sym f) x)

-- the message that is filled from a queue has what goes out
fill-marks : (packages : List (List JobEntry)) (ws : List Waiting) (h : Header) (room msg : ℕ) (heard : Bool)
    → AllByRecursion (WaitsOf packages) ws
    → Each (HasMark packages
    (all_deeds (origin_of (fill (map (λ (w : Waiting). w.entry) ws) h room heard).message)
    (fill (map (λ (w : Waiting). w.entry) ws) h room heard).message.body) msg)
    (goes_out msg 1 (fill (map (λ (w : Waiting). w.entry) ws) h room heard).whole
    (fill (map (λ (w : Waiting). w.entry) ws) h room heard).cut ws)
unfolding fill
fill-marks packages ws h room msg heard all =
    let es = map (λ (w : Waiting). w.entry) ws in
    let whole = taken h room [] es in
    let n = cut h room (commands_of (take whole es)) (drop whole es) in
    out-marks packages _ msg 1 whole n ws (tail_commands (tail_of (next_rest n (drop whole es)) heard)) all

pub fill-waits : (packages : List (List JobEntry)) (ws : List Waiting) (h : Header) (room : ℕ) (heard : Bool)
    → AllByRecursion (WaitsOf packages) ws
    → AllByRecursion (WaitsOf packages)
    (carried_on (fill (map (λ (w : Waiting). w.entry) ws) h room heard).left
    (drop (fill (map (λ (w : Waiting). w.entry) ws) h room heard).whole ws))
unfolding fill
fill-waits packages ws h room heard all =
    let es = map (λ (w : Waiting). w.entry) ws in
    let whole = taken h room [] es in
    let n = cut h room (commands_of (take whole es)) (drop whole es) in
    subst (λ l. AllByRecursion (WaitsOf packages) (carried_on (next_rest n l) (drop whole ws)))
    (sym (drop-map (λ (w : Waiting). w.entry) whole ws))
    (rest-waits packages n (drop whole ws) (all-behind (WaitsOf packages) whole ws all))

sends-noted : (packages : List (List JobEntry)) (v : Service) (s : Session) (m : Parts) (code : ℕ) (old : List Sent)
    → IsIn s.sent old
    → Notes packages v
    → Noted packages old s.progress.number (sends v s m code)
unfolding sends
sends-noted packages v s m code old within h =
    let p = s.progress in
    let header = header_for v p m in
    let f = fill (map (λ (w : Waiting). w.entry) v.queue) header p.standing.room p.standing.heard in
    let same = fill-header (map (λ (w : Waiting). w.entry) v.queue) header p.standing.room p.standing.heard in
    let numbers = next-numbers v p m in
    record {
      notes = record {
        job = h.job;
        packages_are = h.packages_are;
        newest = h.newest;
        queue = fill-waits packages v.queue header p.standing.room p.standing.heard h.queue;
      };
      known = (
        refl,
        out-known packages old s.sent (goes_out (p.standing.own + 1) 1 f.whole f.cut v.queue) p.number
            (p.standing.own + 1) f.message within (ap (λ (h : Header). h.session) same ∙ numbers.0)
            (ap (λ (h : Header). h.msg) same ∙ numbers.1)
            (fill-marks packages v.queue header p.standing.room (p.standing.own + 1) p.standing.heard h.queue),
      );
      rising = fill-rises packages v.queue header p.standing.room p.standing.heard h.queue;
    }

denies-noted : (packages : List (List JobEntry)) (v : Service) (s : Session) (m : Parts) (code : ℕ) (nonce : List ℕ)
    (old : List Sent) → IsIn s.sent old
    → Notes packages v
    → Noted packages old s.progress.number (denies v s m code nonce)
unfolding denies
denies-noted packages v s m code nonce old within h = record {
  notes = record { job = h.job; packages_are = h.packages_are; newest = h.newest; queue = h.queue };
  known = (refl, λ y k. inl (within y k));
  rising = farewell-rises (header_for v s.progress m) m code nonce;
}

ended-noted : (packages : List (List JobEntry)) (v : Service) (s : Session) (old : List Sent) → IsIn s.sent old
    → Notes packages v
    → Noted packages old s.progress.number (ended v s)
ended-noted packages v s old within h = record {
  notes = record { job = h.job; packages_are = h.packages_are; newest = h.newest; queue = h.queue };
  known = (refl, λ y k. inl (within y k));
  rising = tt;
}

-- ---- a message

-- the session in a step has sent nothing else
abbrev pub Within : List Sent → Option Session → Type 0
Within old o = IfSome o (λ (t : Session). IsIn t.sent old)

pub session-within : (old : List Sent) (o : Option Session) (s : Session) → Within old o → IsIn s.sent old
    → IsIn (session_or o s).sent old
session-within old None s h k = k
session-within old (Some t) s h k = h

pub status-within : (v : Service) (s : Session) (failed : Bool) (status : ℕ) (old : List Sent) → IsIn s.sent old
    → Within old v.session
    → Within old (after_status v s failed status).session
unfolding gives_up
status-within v s failed status old h k =
    either (λ (w : Service). Within old w.session) (not failed && is_denied status) {x = gives_up v s} {y = v}
    (λ y i. h y (filter_in (λ (x : Sent). not (holds_number v.newest x.number)) s.sent y i)) k

pub status-notes : (packages : List (List JobEntry)) (v : Service) (s : Session) (failed : Bool) (status : ℕ)
    → Notes packages v
    → Notes packages (after_status v s failed status)
status-notes packages v s failed status h =
    either (Notes packages) (not failed && is_denied status) {x = gives_up v s} {y = v} (gives-notes packages v s h) h

pub tells-within : (v : Service) (s : Session) (m : Parts) (code : ℕ) (old : List Sent) → IsIn s.sent old
    → Within old v.session
    → Within old (tells v s m code).session
tells-within v s m code old h k =
    either (λ (w : Service). Within old w.session) (passes code) {x = with_matched v s (matched_in v s m)} {y = v} h k

message-noted : (packages : List (List JobEntry)) (v : Service) (s : Session) (m : Parts) (code : ℕ) (nonce : List ℕ)
    (old : List Sent) → JobIs packages → IsIn s.sent old
    → Within old v.session
    → HasProgress s.progress v.session
    → Notes packages v
    → Noted packages old s.progress.number (answers_message v s m code nonce)
message-noted packages v s m code nonce old is h k p notes =
    let told = tells v s m code in
    let t = in_session told s in
    let same = session-has s.progress told.session s (tells-has v s m code p) in
    let waits = queues_answers told m code nonce in
    subst (λ i. Noted packages old i (answers_message v s m code nonce)) (ap (λ (q : ServiceProgress). q.number) same)
    (sends-noted packages (next_package waits t.progress.standing) t m code old
    (session-within old told.session s (tells-within v s m code old h k) h)
    (package-notes packages waits t.progress.standing is
    (answers-notes packages told m code nonce (tells-notes packages v s m code notes))))

header-noted : (packages : List (List JobEntry)) (v : Service) (s : Session) (m : Parts) (h : Heard) (nonce : List ℕ)
    (old : List Sent) → JobIs packages → IsIn s.sent old
    → Within old v.session
    → HasProgress s.progress v.session
    → Notes packages v
    → Noted packages old s.progress.number (by_header v s m h nonce)
header-noted packages v s m h nonce old is within k p notes =
    let n = s.progress.number in
    either (Noted packages old n) (not (is_some (fault_of m)) && list_any is_abort m.body) {x = ended v s}
    {y = cond h.second (denies v s m h.code nonce) (answers_message v s m h.code nonce)}
    (ended-noted packages v s old within notes)
    (either (Noted packages old n) h.second {x = denies v s m h.code nonce} {y = answers_message v s m h.code nonce}
    (denies-noted packages v s m h.code nonce old within notes)
    (message-noted packages v s m h.code nonce old is within k p notes))

accepts-noted : (packages : List (List JobEntry)) (v : Service) (s : Session) (m : Parts) (nonce : List ℕ)
    → JobIs packages
    → Notes packages v
    → Noted packages s.sent s.progress.number (accepts v s m nonce)
unfolding accepts
accepts-noted packages v s m nonce is notes =
    let h = hears User v.job.account s.progress.standing m nonce in
    let t : Session = record s { progress = record s.progress { standing = h.standing } } in
    let heard : Service = record v { job = record v.job { account = h.account }; session = Some t } in
    let failed = s.progress.standing.we_failed in
    let w = after_status heard t failed h.status in
    let k = status-has heard t failed h.status refl in
    let y = in_session w t in
    let within = status-within heard t failed h.status s.sent (λ y i. i) (λ y i. i) in
    let same = session-has t.progress w.session t k in
    subst (λ i. Noted packages s.sent i (by_header w y m h nonce)) (ap (λ (q : ServiceProgress). q.number) same)
    (header-noted packages w y m h nonce s.sent is (session-within s.sent w.session t within (λ y i. i)) within
    (has-itself t.progress w.session t k)
    (status-notes packages heard t failed h.status
    (record { job = notes.job; packages_are = notes.packages_are; newest = notes.newest; queue = notes.queue })))

opens-noted : (packages : List (List JobEntry)) (v : Service) (n : ℕ) (m : Parts) (nonce : List ℕ) → JobIs packages
    → Notes packages v
    → Noted packages [] n (server.opens_session v n m nonce)
opens-noted packages v n m nonce is h =
    accepts-noted packages (begins v n) (first_session v.job.account n) m nonce is
    (record {
      job = h.job;
      packages_are =
          either (λ ps. AreOf packages (all_entries ps)) (is_some v.runs_in) {x = []} {y = v.job.packages} tt h.job;
      newest = tt;
      queue = tt;
    })

-- ---- in the world

abbrev pub AllNoted : List (List JobEntry) → List Reply → Session → Type 0
AllNoted packages downs t =
    (y : Sent) → Contains t.sent y → StandsAs packages downs t.progress.number y

pub stands-later : (packages : List (List JobEntry)) (downs : List Reply) (r : Option Reply) (n : ℕ) (x : Sent)
    → StandsAs packages downs n x
    → StandsAs packages (with_new downs r) n x
stands-later packages downs None n x h = h
stands-later packages downs (Some r) n x h = record {
  at = suc h.at;
  reply = h.reply;
  was_sent = h.was_sent;
  session_is = h.session_is;
  msg_is = h.msg_is;
  deed = h.deed;
  within = h.within;
  command_is = h.command_is;
  act = h.act;
  act_is = h.act_is;
  of_job = h.of_job;
  last = h.last;
}

reply-stands : (packages : List (List JobEntry)) (downs : List Reply) (reply : Option Parts) (u : Parts) (n : ℕ)
    (y : Sent) → 0 < n → n < 2 ^ 32
    → InReply packages reply n y
    → StandsAs packages (with_new downs (replied (server.sent_or_ended reply) u)) n y
reply-stands packages downs None u n y low high h = absurd h
reply-stands packages downs (Some m) u n y low high h =
    let mark = h.1 in
    let place = mark.place in
    record {
      at = 0;
      reply = record { message = m; answers = u };
      was_sent = refl;
      session_is = ap num_of h.0 ∙ num-decimal n low high;
      msg_is = sym place.msg_is;
      deed = place.deed;
      within = place.within;
      command_is = place.command_is;
      act = place.act;
      act_is = place.act_is;
      of_job = place.of_job;
      last = mark.last;
    }

abbrev pub ReplyRises : Reply → Type 0
ReplyRises r = IsRising r.message

reply-rises : (o : Option Parts) (u : Parts) → IfSome o IsRising
    → IfSome (replied (server.sent_or_ended o) u) ReplyRises
reply-rises None u h = tt
reply-rises (Some m) u h = h

-- a server whose notes stand in its messages, once it answered
record Stands (packages : List (List JobEntry)) (downs : List Reply) (x : Service) (a : server.Answer) (u : Parts)
    : Type 0 where
  notes : Notes packages x
  noted : IfSome x.session (AllNoted packages (with_new downs (replied a u)))
  rising : IfSome (replied a u) ReplyRises

all-noted : (packages : List (List JobEntry)) (downs : List Reply) (reply : Option Parts) (u : Parts) (n : ℕ)
    (old : List Sent) (t : Session) → 0 < n → n < 2 ^ 32
    → ((y : Sent) → Contains old y → StandsAs packages downs n y)
    → Known packages old reply n t
    → AllNoted packages (with_new downs (replied (server.sent_or_ended reply) u)) t
all-noted packages downs reply u n old t low high before h y k =
    let r = replied (server.sent_or_ended reply) u in
    subst (λ i. StandsAs packages (with_new downs r) i y) (sym h.0) (by (h.1 y k))
  where
    by : Contains old y ⊎ InReply packages reply n y
        → StandsAs packages (with_new downs (replied (server.sent_or_ended reply) u)) n y
    by (inl i) =
        stands-later packages downs (replied (server.sent_or_ended reply) u) n y (before y i)
    by (inr i) = reply-stands packages downs reply u n y low high i

noted-stands : (packages : List (List JobEntry)) (downs : List Reply) (x : Service) (u : Parts) (n : ℕ)
    (old : List Sent) → 0 < n → n < 2 ^ 32
    → ((y : Sent) → Contains old y → StandsAs packages downs n y)
    → Noted packages old n x
    → Stands packages downs x (server.sent_or_ended (server.reply_of x)) u
noted-stands packages downs x u n old low high before h = record {
  notes = h.notes;
  noted = by x.session (server.reply_of x) h.known;
  rising = reply-rises (server.reply_of x) u h.rising;
}
  where
    by : (o : Option Session) (reply : Option Parts) → IfSome o (Known packages old reply n)
        → IfSome o (AllNoted packages (with_new downs (replied (server.sent_or_ended reply) u)))
    by None reply k = tt
    by (Some t) reply k = all-noted packages downs reply u n old t low high before k

in-stands : (packages : List (List JobEntry)) (downs : List Reply) (v : Service) (o : Option Session) (n : ℕ)
    (u : Parts) (nonce : List ℕ) → JobIs packages → 0 < n → n < 2 ^ 32
    → Notes packages v
    → IfSome o (AllNoted packages downs)
    → Stands packages downs (server.after_in_session v o n u nonce)
    (server.sent_or_ended (server.reply_of (server.after_in_session v o n u nonce))) u
in-stands packages downs v None n u nonce is low high h k =
    noted-stands packages downs (server.opens_session v n u nonce) u n [] low high (λ y i. absurd (no-element i))
    (opens-noted packages v n u nonce is h)
  where
    no-element : {y : Sent} → Contains [] y → ⊥
    no-element i = let none = i.1 in omega (arith, none)
in-stands packages downs v (Some s) n u nonce is low high h k = by (s.progress.number == n) refl
  where
    no-element : {y : Sent} → Contains [] y → ⊥
    no-element i = let none = i.1 in omega (arith, none)

    by : (b : Bool) → (s.progress.number == n) ≡ b
        → Stands packages downs (cond b (accepts v s u nonce) (server.opens_session v n u nonce))
        (server.sent_or_ended (server.reply_of (cond b (accepts v s u nonce) (server.opens_session v n u nonce)))) u
    by true e =
        let same = eq-of s.progress.number n e in
        noted-stands packages downs (accepts v s u nonce) u n s.sent low high
        (λ y i. subst (λ j. StandsAs packages downs j y) same (k y i))
        (subst (λ j. Noted packages s.sent j (accepts v s u nonce)) same (accepts-noted packages v s u nonce is h))
    by false e =
        noted-stands packages downs (server.opens_session v n u nonce) u n [] low high (λ y i. absurd (no-element i))
        (opens-noted packages v n u nonce is h)

unmoved : (packages : List (List JobEntry)) (downs : List Reply) (v : Service) (u : Parts) (nonce : List ℕ)
    → Notes packages v
    → IfSome v.session (AllNoted packages downs)
    → Stands packages downs v (server.refusal v (arrival u nonce) (server.reply_of v)) u
unmoved packages downs v u nonce h k = record {
  notes = h;
  noted =
      subst (λ r. IfSome v.session (AllNoted packages (with_new downs r)))
      (sym (refusal-silent v u nonce (server.reply_of v))) k;
  rising = subst (λ r. IfSome r ReplyRises) (sym (refusal-silent v u nonce (server.reply_of v))) tt;
}

range-of : (k n : ℕ) (a b : Bool) → nat_lt 0 k ≡ a → nat_lt k (2 ^ 32) ≡ b → cond (a && b) (Some k) None ≡ Some n
    → (0 < n) × (n < 2 ^ 32)
range-of k n true true f g e =
    let same : k ≡ n = cc in
    let low = lt-of 0 k f in
    let high = lt-of k (2 ^ 32) g in
    (omega (arith, same, low), omega (arith, same, high))
range-of k n true false f g e = absurd (cc)
range-of k n false b f g e = absurd (cc)

number-range : (o : Option ℕ) (n : ℕ) → server.in_range o ≡ Some n → (0 < n) × (n < 2 ^ 32)
number-range None n e = absurd (cc)
number-range (Some k) n e = range-of k n (nat_lt 0 k) (nat_lt k (2 ^ 32)) refl refl e

by-number : (packages : List (List JobEntry)) (downs : List Reply) (v : Service) (o : Option ℕ) (u : Parts)
    (nonce : List ℕ) → JobIs packages
    → server.number_of u ≡ o
    → Notes packages v
    → IfSome v.session (AllNoted packages downs)
    → Stands packages downs (cond (server.takes_number v.session o u) (server.after_number v o u nonce) v)
    (cond (server.takes_number v.session o u) (server.sent_or_ended (server.reply_of (server.after_number v o u nonce)))
    (server.refusal v (arrival u nonce) (server.reply_of v)))
    u
by-number packages downs v None u nonce is e h k = unmoved packages downs v u nonce h k
by-number packages downs v (Some n) u nonce is e h k =
    let x = server.after_in_session v v.session n u nonce in
    let range = number-range (session_of u) n e in
    both-ways (λ v a. Stands packages downs v a u) (server.takes_in v.session n u) x v
    (server.sent_or_ended (server.reply_of x)) (server.refusal v (arrival u nonce) (server.reply_of v))
    (λ t. in-stands packages downs v v.session n u nonce is range.0 range.1 h k)
    (λ t. unmoved packages downs v u nonce h k)

arrival-stands : (packages : List (List JobEntry)) (downs : List Reply) (v : Service) (u : Parts) (nonce : List ℕ)
    → JobIs packages
    → Notes packages v
    → IfSome v.session (AllNoted packages downs)
    → Stands packages downs (server_runs.next v (arrival u nonce)) (server_runs.answer_now v (arrival u nonce)) u
unfolding server_runs.next server_runs.answer_now server.takes server.after server.taken_answer
arrival-stands packages downs v u nonce is h k =
    by-number packages downs v (server.number_of u) u nonce is refl h k

pub record WorldNotes (packages : List (List JobEntry)) (w : World) : Type 0 where
  pub notes : Notes packages w.server
  pub noted : IfSome w.server.session (AllNoted packages w.downs)
  pub rising : Each ReplyRises w.downs

up-notes : (packages : List (List JobEntry)) (w : World) (o : Option Parts) (nonce : List ℕ) → JobIs packages
    → WorldNotes packages w
    → WorldNotes packages (up_delivered w o nonce)
up-notes packages w None nonce is h = h
up-notes packages w (Some u) nonce is h =
    let x = arrival-stands packages w.downs w.server u nonce is h.notes h.noted in
    record { notes = x.notes; noted = x.noted; rising = each-new ReplyRises w.downs _ h.rising x.rising }

down-notes : (packages : List (List JobEntry)) (w : World) (o : Option Reply) (nonce : List ℕ) → WorldNotes packages w
    → WorldNotes packages (down_delivered w o nonce)
down-notes packages w None nonce h = h
down-notes packages w (Some d) nonce h = record { notes = h.notes; noted = h.noted; rising = h.rising }

happens-notes : (packages : List (List JobEntry)) (w : World) (e : Happening) → JobIs packages → WorldNotes packages w
    → WorldNotes packages (happens w e)
unfolding happens
happens-notes packages w (opens account kind n) is h = record { notes = h.notes; noted = h.noted; rising = h.rising }
happens-notes packages w (up_comes k nonce) is h = up-notes packages w (slice_get w.ups k) nonce is h
happens-notes packages w (down_comes k nonce) is h = down-notes packages w (slice_get w.downs k) nonce h
happens-notes packages w (update_ends ok) is h = record { notes = h.notes; noted = h.noted; rising = h.rising }
happens-notes packages w (clock_moves stamp) is h = record { notes = h.notes; noted = h.noted; rising = h.rising }
happens-notes packages w is_lost is h = record { notes = h.notes; noted = h.noted; rising = h.rising }
happens-notes packages w finds_no_memory is h = h

run-notes : (packages : List (List JobEntry)) (w : World) (es : List Happening) → JobIs packages → WorldNotes packages w
    → WorldNotes packages (run w es)
run-notes packages w [] is h = h
run-notes packages w (e ∷ es) is h = run-notes packages (happens w e) es is (happens-notes packages w e is h)

-- ---- the beginning

all-contained : {A : Type 0} (all xs : List A) → ((x : A) → Contains xs x → Contains all x)
    → AllByRecursion (Contains all) xs
all-contained all [] f = tt
all-contained all (x ∷ xs) f = (f x (first_in x xs), all-contained all xs (λ y h. f y (later_in y x xs h)))

all-within : {A : Type 0} (P : A → Type 0) (xs : List A) (x : A) → AllByRecursion P xs → Contains xs x → P x
all-within P [] x h (k, low, at) = absurd (omega (arith, low))
all-within P (y ∷ ys) x h (zero, low, at) = subst P at h.0
all-within P (y ∷ ys) x h (suc k, low, at) = all-within P ys x h.1 (k, omega (arith, low), at)

pub job-is : (packages : List (List JobEntry)) → AllByRecursion CanBeSent (all_entries packages) → JobIs packages
job-is packages h e within =
    let steps = (all-within CanBeSent (all_entries packages) e h within).steps in
    (job-each e.command steps, job-whole e.command steps)

start-notes : (c : Machine) (job : Job) → WorldNotes job.packages (at_start c job)
start-notes c job =
    let all = all-contained (all_entries job.packages) (all_entries job.packages) (λ x h. h) in
    record { notes = record { job = all; packages_are = all; newest = tt; queue = tt }; noted = tt; rising = tt }

session-noted : (packages : List (List JobEntry)) (downs : List Reply) (o : Option Session) (s : Session)
    → IfSome o (AllNoted packages downs) → o ≡ Some s
    → AllNoted packages downs s
session-noted packages downs o s h e = subst (λ o. IfSome o (AllNoted packages downs)) e h

pub all-notes : (c : Machine) (job : Job) (hs : List Happening) → IsWorldStart c job
    → WorldNotes job.packages (run (at_start c job) hs)
all-notes c job hs start =
    run-notes job.packages (at_start c job) hs (job-is job.packages start.sound.entries) (start-notes c job)

pub all-rise : (c : Machine) (job : Job) (hs : List Happening) → IsWorldStart c job
    → Each ReplyRises (run (at_start c job) hs).downs
all-rise c job hs start = (all-notes c job hs start).rising

pub notes_the_sent : NotesTheSent
notes_the_sent c job hs s x start range e within =
    let w = run (at_start c job) hs in
    let h = all-notes c job hs start in
    session-noted job.packages w.downs w.server.session s h.noted e x within
