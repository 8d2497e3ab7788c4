-- What a message that the server accepts does to its job: it is kept and sent on, or a package is given up first.
use Rattle.std.proofs.Common.{zero, suc, ◌≡◌, ◌+◌, ◌&&◌, ◌||◌, ℕ, Bool, true, false, cond, not, List}
use Rattle.std.proofs.Common.{[]}
use Rattle.std.proofs.Common.{◌∷◌, ◌++◌, Option, None, Some, map, refl, sym, ◌∙◌, ap, subst, ◌⊎◌, inl, inr}
use Rattle.std.proofs.Common.{drop}
use Rattle.std.specs.Prelude.{is_some}
use Rattle.std.specs.List.{list_any, filter}
use Rattle.std.proofs.lemmas.List.{append-nil}
use Rattle.syncml_types.specs.declared.command.Step.{Step}
use Rattle.syncml_types.specs.declared.command.Command.{Command}
use Rattle.syncml_types.specs.Message.{Parts}
use Rattle.syncml_parts.specs.Numbering.{ids_in}
use Rattle.dm_auth.specs.declared.accounts.Account.{Account}
use Rattle.dm_headers.specs.declared.checks.Side.TheVariants.{User}
use Rattle.dm_headers.specs.declared.standings.Standing.{Standing}
use Rattle.dm_headers.specs.Checks.{fault_of, is_denied, passes, status_read, code_read, header_status}
use Rattle.dm_headers.specs.Headers.{header_answer}
use Rattle.dm_headers.specs.Standings.{Heard, hears}
use Rattle.dm_pack.specs.Entries.{Entry}
use Rattle.dm_pack.specs.Filling.{fill}
use Rattle.dm_ends.specs.Commands.{alert, is_abort}
use Rattle.dm_job.specs.declared.job.JobEntry.{JobEntry}
use Rattle.dm_service.specs.declared.sent.Carried.{Carried}
use Rattle.dm_service.specs.declared.progress.ServiceProgress.{ServiceProgress}
use Rattle.dm_service.specs.declared.sent.Sent.{Sent}
use Rattle.dm_service.specs.Service.{Waiting, Session, Service, entries_of}
use Rattle.dm_service.specs.Packages.{is_of_job, queues_package, next_package, package_put_back, not_sent}
use Rattle.dm_service.specs.Packages.{runs_after}
use Rattle.dm_service.specs.Packages.{gives_up}
use Rattle.dm_service.specs.Sending.{header_for, rest_holds, part_holds, goes_out, carried_on, runs_in_after, sends}
use Rattle.dm_service.specs.Messages.{ended, denies, answer_waiting, tells, queues_answers, session_or}
use Rattle.dm_service.specs.Messages.{in_session, answers_message, by_header, accepts}
use Rattle.dm_service.specs.Events.{reply_of}
use Rattle.dm_world.specs.Acts.{Act, acts, entries_acts, job_acts, join}
use Rattle.dm_world.specs.Packing.{acts_to_send, reply_acts, IsOfJobOrReport}
use Rattle.dm_world.proofs.Lists.{either, either_is, Each, each-append, each-drop}
use Rattle.dm_world.proofs.Client.{OpenAs}
use Rattle.dm_world.proofs.Server.{heard-numbers}
use Rattle.dm_world.proofs.Packing.{message-acts, numbered-acts}
use Rattle.dm_world.proofs.Waits.{waiting_acts, out-acts, job-acts, next-rest, sends-joined, left-ok}
use Rattle.dm_world.proofs.Keeps.{farewell-acts, tells-rest, queued-rest}
use Rattle.dm_world.proofs.Returns.{kept-ok, rest-acts, put-acts, next-ok, answered-ok, tells-ok}
use Rattle.dm_world.proofs.Calm.{says}

-- ---- what a service has of its job

abbrev pub NoJob : Waiting → Type 0
NoJob w = w.carries ≡ None

-- nothing of the job is left to send
pub record Idle (v : Service) : Type 0 where
  pub queue : Each NoJob v.queue
  pub packages : v.packages ≡ []
  pub newest : v.newest ≡ []

-- what is to be sent where the package that was queued last is given up
abbrev pub returned : Service → List Act
returned v = entries_acts v.newest ++ job_acts v.packages

abbrev pub Runs : Option ℕ → Option ℕ → List Sent → List Sent → ℕ → List Act → Type 0
Runs before then ss ts n message =
    ((then ≡ before) × (message ≡ []) × (ts ≡ ss)) ⊎ ((then ≡ Some n) × (ts ≡ [] → ⊥))

-- a service that went on from another, with this message
pub record Goes (v x : Service) (ss ts : List Sent) (n : ℕ) (message : List Act) : Type 0 where
  pub joined : (o : Option Step) → join o (message ++ acts_to_send x) ≡ join o (acts_to_send v)
  pub queue_ok : Each IsOfJobOrReport x.queue
  pub job : x.job.packages ≡ v.job.packages
  pub runs : Runs v.runs_in x.runs_in ss ts n message
  pub idle : Idle v → Idle x × (x.runs_in ≡ v.runs_in) × (message ≡ []) × (ts ≡ ss)
  pub fresh : v.newest ≡ [] → returned x ≡ job_acts v.packages

-- a service that stopped: its session is over, and nothing of the job went out
pub record Stops (v x : Service) (ss ts : List Sent) (over : Bool) (message : List Act) : Type 0 where
  pub rest : acts_to_send x ≡ acts_to_send v
  pub queue_ok : Each IsOfJobOrReport x.queue
  pub job : x.job.packages ≡ v.job.packages
  pub runs_in : x.runs_in ≡ v.runs_in
  pub idle : Idle v → Idle x
  pub none : message ≡ []
  pub sent_is : ts ≡ ss
  pub given : returned x ≡ returned v
  pub is_over : over ≡ true

-- a service that gave up what was queued last
pub record GaveUp (v g : Service) (ss gs : List Sent) : Type 0 where
  pub rest : acts_to_send g ≡ returned v
  pub ok : Each IsOfJobOrReport g.queue
  pub newest : g.newest ≡ []
  pub packages : job_acts g.packages ≡ returned v
  pub job : g.job.packages ≡ v.job.packages
  pub idle : Idle v → ss ≡ [] → Idle g × (g.runs_in ≡ v.runs_in) × (gs ≡ [])
  pub runs : ((g.runs_in ≡ None) × (gs ≡ [])) ⊎ ((g.runs_in ≡ v.runs_in) × (ss ≡ []) × (gs ≡ []))
      ⊎ ((g.runs_in ≡ v.runs_in) × (ss ≡ [] → ⊥) × (gs ≡ [] → ⊥))

-- ---- sending

pub idle-out : (msg id whole n : ℕ) (ws : List Waiting) → Each NoJob ws → goes_out msg id whole n ws ≡ []
idle-out msg id whole n [] h = refl
idle-out msg id zero zero (w ∷ ws) h = refl
idle-out msg id zero (suc n) (w ∷ ws) h = ap (λ j. part_holds (rest_holds msg id w.entry.begun j)) h.0
idle-out msg id (suc whole) n (w ∷ ws) h =
    ap (λ j. rest_holds msg id w.entry.begun j ++ goes_out msg (id + ids_in w.entry.command) whole n ws) h.0
    ∙ idle-out msg (id + ids_in w.entry.command) whole n ws h.1

pub idle-left : (es : List Entry) (ws : List Waiting) → Each NoJob ws → Each NoJob (carried_on es ws)
idle-left [] ws h = tt
idle-left (e ∷ es) [] h = tt
idle-left (e ∷ es) (w ∷ ws) h = (h.0, idle-left es ws h.1)

not-nil : {A : Type 0} (a b : List A) (x : A) → a ++ x ∷ b ≡ [] → ⊥
not-nil [] b x h = cc
not-nil (y ∷ a) b x h = cc

runs-by : (runs : Option ℕ) (number : ℕ) (ss out : List Sent) (message : List Act) → (out ≡ [] → message ≡ [])
    → Runs runs (runs_in_after runs number out) ss (ss ++ out) number message
runs-by runs number ss [] message h = inl (refl, h refl, append-nil ss)
runs-by runs number ss (x ∷ xs) message h = inr (refl, not-nil ss xs x)

sends-goes : (v : Service) (s : Session) (m : Parts) (code : ℕ) → Each IsOfJobOrReport v.queue
    → OpenAs (λ (t : Session). (t.progress.standing.own ≡ s.progress.standing.own + 1)
    × (t.progress.standing.we_failed ≡ s.progress.standing.we_failed)
    × Goes v (sends v s m code) s.sent t.sent s.progress.number (reply_acts (reply_of (sends v s m code))))
    (sends v s m code).session
unfolding sends
sends-goes v s m code ok =
    let p = s.progress in
    let es = entries_of v.queue in
    let header = header_for v p m in
    let f = fill es header p.standing.room p.standing.heard in
    let out = goes_out (p.standing.own + 1) 1 f.whole f.cut v.queue in
    let silent : out ≡ [] → acts f.message.body ≡ [] =
    λ e. message-acts es header p.standing.room p.standing.heard
    ∙ out-acts (p.standing.own + 1) 1 f.whole f.cut v.queue ok e in (
      refl,
      refl,
      record {
        joined = sends-joined v s m code;
        queue_ok = left-ok v.queue header p.standing.room p.standing.heard ok;
        job = refl;
        runs = runs-by v.runs_in p.number s.sent out (acts f.message.body) silent;
        idle = λ i.
            let none = idle-out (p.standing.own + 1) 1 f.whole f.cut v.queue i.queue in (
              record {
                queue = idle-left f.left (drop f.whole v.queue) (each-drop NoJob f.whole v.queue i.queue);
                packages = i.packages;
                newest = i.newest;
              },
              ap (runs_in_after v.runs_in p.number) none,
              silent none,
              ap (λ x. s.sent ++ x) none ∙ append-nil s.sent,
            );
        fresh = λ e. ap (λ z. entries_acts z ++ job_acts v.packages) e;
      },
    )

-- ---- from the service before

pub open-map : {S : Type 0} {P Q : S → Type 0} (o : Option S) → ((t : S) → P t → Q t) → OpenAs P o → OpenAs Q o
open-map None f h = h
open-map (Some t) f h = f t h

goes-from : (v w x : Service) (ss ts : List Sent) (n : ℕ) (message : List Act) → acts_to_send w ≡ acts_to_send v
    → w.job.packages ≡ v.job.packages
    → w.runs_in ≡ v.runs_in
    → (Idle v → Idle w)
    → (v.newest ≡ [] → returned x ≡ job_acts v.packages)
    → Goes w x ss ts n message
    → Goes v x ss ts n message
goes-from v w x ss ts n message r j i e fresh h = record {
  joined = λ o. h.joined o ∙ ap (join o) r;
  queue_ok = h.queue_ok;
  job = h.job ∙ j;
  runs = subst (λ z. Runs z x.runs_in ss ts n message) i h.runs;
  idle = λ d. let k = h.idle (e d) in (k.0, k.1 ∙ i, k.2, k.3);
  fresh = fresh;
}

returned-next : (q : Service) (s : Standing) → q.newest ≡ [] → returned (next_package q s) ≡ job_acts q.packages
returned-next q s e =
    either (λ (x : Service). returned x ≡ job_acts q.packages)
    (s.accepted && s.heard && not (list_any is_of_job q.queue))
    (queued q.packages refl) (ap (λ z. entries_acts z ++ job_acts q.packages) e)
  where
    queued : (ps : List (List JobEntry)) → q.packages ≡ ps → returned (queues_package q ps) ≡ job_acts ps
    queued [] k = ap (λ z. entries_acts z ++ job_acts q.packages) e ∙ ap job_acts k
    queued (p ∷ ps) k = sym (job-acts p ps)

sends-returned : (v : Service) (s : Session) (m : Parts) (code : ℕ) → returned (sends v s m code) ≡ returned v
unfolding sends
sends-returned v s m code = refl

pub answers-idle : (cs : List Command) → Each NoJob (map answer_waiting cs)
answers-idle [] = tt
answers-idle (c ∷ cs) = (refl, answers-idle cs)

queues-idle : (v : Service) (ps : List (List JobEntry)) → ps ≡ [] → Idle v → Idle (queues_package v ps)
queues-idle v [] e h = h
queues-idle v (p ∷ ps) e h = absurd (cc)

next-idle : (v : Service) (s : Standing) → Idle v → Idle (next_package v s)
next-idle v s h =
    either Idle (s.accepted && s.heard && not (list_any is_of_job v.queue)) (queues-idle v v.packages h.packages h) h

queued-idle : (v : Service) (m : Parts) (code : ℕ) (nonce : List ℕ) → Idle v → Idle (queues_answers v m code nonce)
queued-idle v m code nonce h = record {
  queue =
      each-append NoJob (map answer_waiting (header_answer m.header code nonce) ++ v.queue) _
      (each-append NoJob (map answer_waiting (header_answer m.header code nonce)) v.queue (answers-idle _) h.queue)
      (answers-idle _);
  packages = h.packages;
  newest = h.newest;
}

-- what is told of commands leaves the rest
pub record Same (v x : Service) : Type 0 where
  pub queue : x.queue ≡ v.queue
  pub packages : x.packages ≡ v.packages
  pub job : x.job.packages ≡ v.job.packages
  pub runs_in : x.runs_in ≡ v.runs_in
  pub newest : x.newest ≡ v.newest

tells-same : (v : Service) (s : Session) (m : Parts) (code : ℕ) → Same v (tells v s m code)
tells-same v s m code =
    either (Same v) (passes code)
    (record { queue = refl; packages = refl; job = refl; runs_in = refl; newest = refl })
    (record { queue = refl; packages = refl; job = refl; runs_in = refl; newest = refl })

same-idle : (v x : Service) → Same v x → Idle v → Idle x
same-idle v x h i = record {
  queue = subst (Each NoJob) (sym h.queue) i.queue;
  packages = h.packages ∙ i.packages;
  newest = h.newest ∙ i.newest;
}

-- the session that a message is answered in
abbrev pub IsOf : Session → Session → Type 0
IsOf s t = (t.sent ≡ s.sent) × (t.progress ≡ s.progress)

pub told-session : (v : Service) (s : Session) (m : Parts) (code : ℕ) → v.session ≡ Some s
    → IsOf s (in_session (tells v s m code) s)
told-session v s m code e =
    either (λ (x : Service). IsOf s (session_or x.session s)) (passes code) (refl, refl)
    (subst (λ o. IsOf s (session_or o s)) (sym e) (refl, refl))

next-runs : (q : Service) (s : Standing) → (next_package q s).runs_in ≡ q.runs_in
next-runs q s =
    either (λ (x : Service). x.runs_in ≡ q.runs_in) (s.accepted && s.heard && not (list_any is_of_job q.queue))
    (queued q.packages) refl
  where
    queued : (ps : List (List JobEntry)) → (queues_package q ps).runs_in ≡ q.runs_in
    queued [] = refl
    queued (p ∷ ps) = refl

next-job : (q : Service) (s : Standing) → (next_package q s).job.packages ≡ q.job.packages
next-job q s =
    either (λ (x : Service). x.job.packages ≡ q.job.packages)
    (s.accepted && s.heard && not (list_any is_of_job q.queue))
    (queued q.packages) refl
  where
    queued : (ps : List (List JobEntry)) → (queues_package q ps).job.packages ≡ q.job.packages
    queued [] = refl
    queued (p ∷ ps) = refl

-- how an answer goes out of a session
abbrev Answered : Service → Session → Service → Session → Type 0
Answered v s x t =
    (t.progress.standing.own ≡ s.progress.standing.own + 1)
    × (t.progress.standing.we_failed ≡ s.progress.standing.we_failed)
    × Goes v x s.sent t.sent s.progress.number (reply_acts (reply_of x))

answers-goes : (v : Service) (s : Session) (m : Parts) (code : ℕ) (nonce : List ℕ) → v.session ≡ Some s
    → Each IsOfJobOrReport v.queue
    → OpenAs (Answered v s (answers_message v s m code nonce)) (answers_message v s m code nonce).session
answers-goes v s m code nonce e ok =
    let told = tells v s m code in
    let t = in_session told s in
    let queued = queues_answers told m code nonce in
    let q = next_package queued t.progress.standing in
    let x = sends q t m code in
    let same = tells-same v s m code in
    let of = told-session v s m code e in
    let rest : acts_to_send q ≡ acts_to_send v =
    next-rest queued t.progress.standing ∙ queued-rest told m code nonce ∙ tells-rest v s m code in
    let fresh : v.newest ≡ [] → returned x ≡ job_acts v.packages =
    λ z. sends-returned q t m code ∙ returned-next queued t.progress.standing (same.newest ∙ z)
    ∙ ap job_acts same.packages in
    open-map x.session
    (λ u h. (
      h.0 ∙ ap (λ (p : ServiceProgress). p.standing.own + 1) of.1,
      h.1
          ∙ ap (λ (p : ServiceProgress). p.standing.we_failed) of.1,
      goes-from v q x s.sent u.sent s.progress.number (reply_acts (reply_of x)) rest
          (next-job queued t.progress.standing ∙ same.job) (next-runs queued t.progress.standing ∙ same.runs_in)
          (λ i. next-idle queued t.progress.standing (queued-idle told m code nonce (same-idle v told same i))) fresh
          (subst (λ k. Goes q x s.sent u.sent k (reply_acts (reply_of x))) (ap (λ (p : ServiceProgress). p.number) of.1)
          (subst (λ z. Goes q x z u.sent t.progress.number (reply_acts (reply_of x))) of.0 h.2)),
    ))
    (sends-goes q t m code
    (next-ok queued t.progress.standing
    (answered-ok told m code nonce (tells-ok v s m code ok))))

-- ---- a message behind its header

abbrev Stopped : Service → Session → Service → Session → Type 0
Stopped v s x t =
    (t.progress.standing.we_failed ≡ s.progress.standing.we_failed)
    × Stops v x s.sent t.sent t.progress.is_over (reply_acts (reply_of x))

abbrev ByHeader : Bool → Service → Session → Service → Session → Type 0
ByHeader second v s x t = ((second ≡ false) × Answered v s x t) ⊎ Stopped v s x t

stops : (v x : Service) (ss : List Sent) (message : List Act) → Same v x → message ≡ [] → Each IsOfJobOrReport v.queue
    → Stops v x ss ss true message
stops v x ss message s e ok = record {
  rest = ap (λ q. waiting_acts q ++ job_acts x.packages) s.queue
      ∙ ap (λ p. waiting_acts v.queue ++ job_acts p) s.packages;
  queue_ok = subst (Each IsOfJobOrReport) (sym s.queue) ok;
  job = s.job;
  runs_in = s.runs_in;
  idle = same-idle v x s;
  none = e;
  sent_is = refl;
  given = ap (λ n. entries_acts n ++ job_acts x.packages) s.newest
      ∙ ap (λ p. entries_acts v.newest ++ job_acts p) s.packages;
  is_over = refl;
}

denies-stops : (v : Service) (s : Session) (m : Parts) (code : ℕ) (nonce : List ℕ) → Each IsOfJobOrReport v.queue
    → OpenAs (Stopped v s (denies v s m code nonce)) (denies v s m code nonce).session
unfolding denies
denies-stops v s m code nonce ok = (
  refl,
  stops v (denies v s m code nonce) s.sent _
      (record { queue = refl; packages = refl; job = refl; runs_in = refl; newest = refl })
      (numbered-acts 1 (header_answer m.header code nonce ++ alert 1223 None [] ∷ []) ∙ farewell-acts m code nonce) ok,
)

header-outcome : (v : Service) (s : Session) (m : Parts) (h : Heard) (nonce : List ℕ) → v.session ≡ Some s
    → Each IsOfJobOrReport v.queue
    → OpenAs (ByHeader h.second v s (by_header v s m h nonce)) (by_header v s m h nonce).session
header-outcome v s m h nonce e ok =
    either (λ (x : Service). OpenAs (ByHeader h.second v s x) x.session)
    (not (is_some (fault_of m)) && list_any is_abort m.body) {x = ended v s}
    {y = cond h.second (denies v s m h.code nonce) (answers_message v s m h.code nonce)}
    (inr (
      refl,
      stops v (ended v s) s.sent []
          (record { queue = refl; packages = refl; job = refl; runs_in = refl; newest = refl }) refl ok,
    ))
    (either_is (λ (x : Service). OpenAs (ByHeader h.second v s x) x.session) h.second {x = denies v s m h.code nonce}
    {y = answers_message v s m h.code nonce}
    (λ t. open-map (denies v s m h.code nonce).session (λ u k. inr k) (denies-stops v s m h.code nonce ok))
    (λ t. open-map (answers_message v s m h.code nonce).session (λ u k. inl (t, k))
    (answers-goes v s m h.code nonce e ok)))

-- ---- a package is given up

kept-none : (w : Waiting) (ws : List Waiting) (j : Option Carried) → w.carries ≡ j → Each NoJob ws
    → Each NoJob (cond (not (is_some j)) (w ∷ ws) ws)
kept-none w ws None e k = (e, k)
kept-none w ws (Some j) e k = k

pub filter-none : (ws : List Waiting) → Each NoJob (filter (λ w. not (is_of_job w)) ws)
filter-none [] = tt
filter-none (w ∷ ws) = kept-none w (filter (λ w. not (is_of_job w)) ws) w.carries refl (filter-none ws)

runs-gave : (runs : Option ℕ) (ss gs : List Sent) → (ss ≡ [] → gs ≡ [])
    → ((runs_after runs ss gs ≡ None) × (gs ≡ []))
    ⊎ ((runs_after runs ss gs ≡ runs) × (ss ≡ []) × (gs ≡ []))
    ⊎ ((runs_after runs ss gs ≡ runs) × (ss ≡ [] → ⊥) × (gs ≡ [] → ⊥))
runs-gave runs [] gs f = inr (inl (refl, refl, f refl))
runs-gave runs (s ∷ ss) [] f = inl (refl, refl)
runs-gave runs (s ∷ ss) (x ∷ xs) f = inr (inr (refl, (λ e. cc), (λ e. cc)))

gave-idle : (runs : Option ℕ) (newest : List JobEntry) (ss : List Sent) → ss ≡ []
    → (runs_after runs ss (not_sent newest ss) ≡ runs) × (not_sent newest ss ≡ [])
gave-idle runs newest [] e = (refl, refl)
gave-idle runs newest (s ∷ ss) e = absurd (cc)

none-back : (newest : List JobEntry) (ps : List (List JobEntry)) → newest ≡ [] → ps ≡ [] → package_put_back newest ps ≡ []
none-back [] ps e f = f
none-back (x ∷ xs) ps e f = absurd (cc)

gave-up : (v : Service) (s : Session) → Each IsOfJobOrReport v.queue
    → GaveUp v (gives_up v s) s.sent (not_sent v.newest s.sent)
unfolding gives_up
gave-up v s ok = record {
  rest = ap (λ x. x ++ job_acts (package_put_back v.newest v.packages)) (rest-acts v.queue ok) ∙ put-acts v.newest v.packages;
  ok = kept-ok v.queue ok;
  newest = refl;
  packages = put-acts v.newest v.packages;
  job = refl;
  idle = λ i e.
      (let k = gave-idle v.runs_in v.newest s.sent e in (
        record {
          queue = filter-none v.queue;
          packages = none-back v.newest v.packages i.newest i.packages;
          newest = refl;
        },
        k.0,
        k.1,
      ));
  runs = runs-gave v.runs_in s.sent (not_sent v.newest s.sent) (λ e. ap (not_sent v.newest) e);
}

-- ---- the whole message

abbrev pub Outcome_of : Service → Session → Parts → Service → Session → Type 0
Outcome_of v s m x t =
    ((says s.progress.standing.own m ≡ false) × (t.progress.standing.own ≡ s.progress.standing.own + 1)
    × Goes v x s.sent t.sent s.progress.number (reply_acts (reply_of x)))
    ⊎ Stops v x s.sent t.sent t.progress.is_over (reply_acts (reply_of x))
    ⊎ ((g : Service) × (gs : List Sent) × (says s.progress.standing.own m ≡ true)
    × (s.progress.standing.we_failed ≡ false) × GaveUp v g s.sent gs
    × (((t.progress.standing.own ≡ s.progress.standing.own + 1)
    × Goes g x gs t.sent s.progress.number (reply_acts (reply_of x)))
    ⊎ Stops g x gs t.sent t.progress.is_over (reply_acts (reply_of x))))

pub record AfterMessage (v : Service) (s : Session) (m : Parts) (x : Service) (t : Session) : Type 0 where
  pub failed : t.progress.standing.we_failed ≡ (s.progress.standing.we_failed || says s.progress.standing.own m)
  pub outcome : Outcome_of v s m x t

-- what the header's Status comes to, in a message without fault
pub record StatusIs (s : Standing) (m : Parts) (h : Heard) : Type 0 where
  pub denied : is_denied h.status ≡ says s.own m
  pub failed : h.standing.we_failed ≡ (s.we_failed || says s.own m)
  pub second : h.second ≡ false → (s.we_failed && says s.own m) ≡ false

second-false : (a b : Bool) → (a || b) ≡ false → b ≡ false
second-false true b h = absurd (cc)
second-false false b h = h

pub status-is : (a : Account) (s : Standing) (m : Parts) (nonce : List ℕ) → fault_of m ≡ None
    → StatusIs s m (hears User a s m nonce)
unfolding hears status_read
status-is a s m nonce f =
    let same : is_denied (code_read (status_read s.own m)) ≡ says s.own m =
    ap (λ o. is_denied (code_read (cond (is_some o) None (header_status s.own m.body)))) f in
    record {
      denied = same;
      failed = ap (λ b. s.we_failed || b) same;
      second = λ e. ap (λ b. s.we_failed && b) (sym same) ∙ second-false _ _ e;
    }

not-said : (failed said : Bool) → (not failed && said) ≡ false → (failed && said) ≡ false → said ≡ false
not-said true b h k = k
not-said false b h k = h

first-said : (failed said : Bool) → (not failed && said) ≡ true → (said ≡ true) × (failed ≡ false)
first-said true b h = absurd (cc)
first-said false b h = (h, refl)

goes-same : (v w x : Service) (ss ts : List Sent) (n : ℕ) (message : List Act) → Same v w
    → Goes w x ss ts n message
    → Goes v x ss ts n message
goes-same v w x ss ts n message s h =
    goes-from v w x ss ts n message
    (ap (λ q. waiting_acts q ++ job_acts w.packages) s.queue ∙ ap (λ p. waiting_acts v.queue ++ job_acts p) s.packages)
    s.job s.runs_in (same-idle v w s) (λ e. h.fresh (s.newest ∙ e) ∙ ap job_acts s.packages) h

stops-same : (v w x : Service) (ss ts : List Sent) (over : Bool) (message : List Act) → Same v w
    → Stops w x ss ts over message
    → Stops v x ss ts over message
stops-same v w x ss ts over message s h = record {
  rest = h.rest
      ∙ ap (λ q. waiting_acts q ++ job_acts w.packages) s.queue
      ∙ ap (λ p. waiting_acts v.queue ++ job_acts p) s.packages;
  queue_ok = h.queue_ok;
  job = h.job ∙ s.job;
  runs_in = h.runs_in ∙ s.runs_in;
  idle = λ i. h.idle (same-idle v w s i);
  none = h.none;
  sent_is = h.sent_is;
  given = h.given
      ∙ ap (λ n. entries_acts n ++ job_acts w.packages) s.newest
      ∙ ap (λ p. entries_acts v.newest ++ job_acts p) s.packages;
  is_over = h.is_over;
}

gave-same : (v w g : Service) (ss gs : List Sent) → Same v w → GaveUp w g ss gs → GaveUp v g ss gs
gave-same v w g ss gs s h =
    let given : returned w ≡ returned v =
    ap (λ n. entries_acts n ++ job_acts w.packages) s.newest
    ∙ ap (λ p. entries_acts v.newest ++ job_acts p) s.packages in
    record {
      rest = h.rest ∙ given;
      ok = h.ok;
      newest = h.newest;
      packages = h.packages ∙ given;
      job = h.job ∙ s.job;
      idle = λ i e. (let k = h.idle (same-idle v w s i) e in (k.0, k.1 ∙ s.runs_in, k.2));
      runs = subst
          (λ r. ((g.runs_in ≡ None) × (gs ≡ [])) ⊎ ((g.runs_in ≡ r) × (ss ≡ []) × (gs ≡ []))
          ⊎ ((g.runs_in ≡ r) × (ss ≡ [] → ⊥) × (gs ≡ [] → ⊥))) s.runs_in h.runs;
    }

calm-outcome : (v w : Service) (s t' : Session) (m : Parts) (h : Heard) (x : Service) (t : Session) → Same v w
    → StatusIs s.progress.standing m h
    → (not s.progress.standing.we_failed && says s.progress.standing.own m) ≡ false
    → t'.sent ≡ s.sent
    → t'.progress.number ≡ s.progress.number
    → t'.progress.standing.own ≡ s.progress.standing.own
    → t'.progress.standing.we_failed ≡ h.standing.we_failed
    → ByHeader h.second w t' x t
    → AfterMessage v s m x t
calm-outcome v w s t' m h x t same st calm sent number own failed (inl k) = record {
  failed = k.1.1 ∙ failed ∙ st.failed;
  outcome =
      inl (
        not-said s.progress.standing.we_failed (says s.progress.standing.own m) calm (st.second k.0),
        k.1.0 ∙ ap (λ z. z + 1) own,
        goes-same v w x s.sent t.sent s.progress.number _ same
            (subst (λ z. Goes w x z t.sent s.progress.number (reply_acts (reply_of x))) sent
            (subst (λ z. Goes w x t'.sent t.sent z (reply_acts (reply_of x))) number k.1.2)),
      );
}
calm-outcome v w s t' m h x t same st calm sent number own failed (inr k) = record {
  failed = k.0 ∙ failed ∙ st.failed;
  outcome =
      inr (inl (stops-same v w x s.sent t.sent t.progress.is_over _ same
      (subst (λ z. Stops w x z t.sent t.progress.is_over (reply_acts (reply_of x))) sent k.1)));
}

given-outcome : (v w g : Service) (s t' : Session) (gs : List Sent) (m : Parts) (h : Heard) (x : Service) (t : Session)
    → Same v w
    → StatusIs s.progress.standing m h
    → (not s.progress.standing.we_failed && says s.progress.standing.own m) ≡ true
    → GaveUp w g s.sent gs
    → t'.sent ≡ gs
    → t'.progress.number ≡ s.progress.number
    → t'.progress.standing.own ≡ s.progress.standing.own
    → t'.progress.standing.we_failed ≡ h.standing.we_failed
    → ByHeader h.second g t' x t
    → AfterMessage v s m x t
given-outcome v w g s t' gs m h x t same st calm gave sent number own failed k =
    let f = first-said s.progress.standing.we_failed (says s.progress.standing.own m) calm in
    record {
      failed = by-failed k ∙ failed ∙ st.failed;
      outcome = inr (inr (g, gs, f.0, f.1, gave-same v w g s.sent gs same gave, by k));
    }
  where
    by-failed : ByHeader h.second g t' x t → t.progress.standing.we_failed ≡ t'.progress.standing.we_failed
    by-failed (inl k) = k.1.1
    by-failed (inr k) = k.0

    by : ByHeader h.second g t' x t
        → ((t.progress.standing.own ≡ s.progress.standing.own + 1)
        × Goes g x gs t.sent s.progress.number (reply_acts (reply_of x)))
        ⊎ Stops g x gs t.sent t.progress.is_over (reply_acts (reply_of x))
    by (inl k) =
        inl (
          k.1.0 ∙ ap (λ z. z + 1) own,
          subst (λ z. Goes g x z t.sent s.progress.number (reply_acts (reply_of x))) sent
              (subst (λ z. Goes g x t'.sent t.sent z (reply_acts (reply_of x))) number k.1.2),
        )
    by (inr k) = inr (subst (λ z. Stops g x z t.sent t.progress.is_over (reply_acts (reply_of x))) sent k.1)

-- the service and the session behind the header's Status
record BehindStatus (v : Service) (s : Session) (g : Service) (t' : Session) : Type 0 where
  session : g.session ≡ Some t'
  number : t'.progress ≡ s.progress
  ok : Each IsOfJobOrReport g.queue

gives-behind : (v : Service) (s : Session) → Each IsOfJobOrReport v.queue
    → (t' : Session) × BehindStatus v s (gives_up v s) t' × (t'.sent ≡ not_sent v.newest s.sent)
unfolding gives_up
gives-behind v s ok = (_, record { session = refl; number = refl; ok = kept-ok v.queue ok }, refl)

or-session : (o : Option Session) (s t : Session) → o ≡ Some t → session_or o s ≡ t
or-session o s t e = ap (λ z. session_or z s) e

pub accepts-outcome : (v : Service) (s : Session) (m : Parts) (nonce : List ℕ) → fault_of m ≡ None
    → Each IsOfJobOrReport v.queue
    → OpenAs (AfterMessage v s m (accepts v s m nonce)) (accepts v s m nonce).session
unfolding accepts
accepts-outcome v s m nonce f ok = by-status (not s.progress.standing.we_failed && is_denied h.status) refl
  where
    h : Heard
    h = hears User v.job.account s.progress.standing m nonce

    st : StatusIs s.progress.standing m (hears User v.job.account s.progress.standing m nonce)
    st = status-is v.job.account s.progress.standing m nonce f

    t : Session
    t = record s { progress = record s.progress { standing = h.standing } }

    heard : Service
    heard = record v { job = record v.job { account = h.account }; session = Some t }

    own-is : (hears User v.job.account s.progress.standing m nonce).standing.own ≡ s.progress.standing.own
    own-is = (heard-numbers v.job.account s.progress.standing m nonce).1

    same : Same v heard
    same = record { queue = refl; packages = refl; job = refl; runs_in = refl; newest = refl }

    said : (b : Bool) → (not s.progress.standing.we_failed && is_denied h.status) ≡ b
        → (not s.progress.standing.we_failed && says s.progress.standing.own m) ≡ b
    said b e = ap (λ z. not s.progress.standing.we_failed && z) (sym st.denied) ∙ e

    by-status : (b : Bool) → (not s.progress.standing.we_failed && is_denied h.status) ≡ b
        → OpenAs
        (AfterMessage v s m (by_header (cond b (gives_up heard t) heard)
        (session_or (cond b (gives_up heard t) heard).session t) m h nonce))
        (by_header (cond b (gives_up heard t) heard) (session_or (cond b (gives_up heard t) heard).session t) m h
        nonce).session
    by-status false e =
        open-map (by_header heard t m h nonce).session
        (λ u k. calm-outcome v heard s t m h (by_header heard t m h nonce) u same st (said false e) refl refl own-is
        refl k)
        (header-outcome heard t m h nonce refl ok)
    by-status true e =
        let behind = gives-behind heard t ok in
        let t' = behind.0 in
        let g = gives_up heard t in
        let at = behind.1 in
        subst
        (λ z. OpenAs (AfterMessage v s m (by_header g z m h nonce)) (by_header g z m h nonce).session)
        (sym (or-session g.session t t' at.session))
        (open-map (by_header g t' m h nonce).session
        (λ u k. given-outcome v heard g s t' (not_sent heard.newest t.sent) m h (by_header g t' m h nonce) u same st
        (said true e) (gave-up heard t ok) behind.2 (ap (λ (p : ServiceProgress). p.number) at.number)
        (ap (λ (p : ServiceProgress). p.standing.own) at.number ∙ own-is)
        (ap (λ (p : ServiceProgress). p.standing.we_failed) at.number) k)
        (header-outcome g t' m h nonce at.session at.ok))
