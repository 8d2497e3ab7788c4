-- What a message that the server accepts does to the value that it gathers, to what it notes as sent and to what it was
-- told.
use Rattle.std.proofs.Common.{zero, suc, ◌≡◌, ◌+◌, ◌&&◌, ◌||◌, ℕ, Bool, true, false, cond, not, List, [], ◌∷◌, ◌++◌}
use Rattle.std.proofs.Common.{drop, map, Option, None, Some, refl, sym, ◌∙◌, ap, subst, arith, ◌⊎◌, inl, inr, nat_lt}
use Rattle.std.specs.Prelude.{is_some, unwrap_or}
use Rattle.std.specs.List.{Contains, list_any}
use Rattle.std.proofs.lemmas.List.{append-nil}
use Rattle.syncml_types.specs.declared.values.Cred.{Cred}
use Rattle.syncml_types.specs.declared.command.Step.{Step}
use Rattle.syncml_types.specs.Message.{Parts}
use Rattle.syncml_parts.specs.Numbering.{ids_in}
use Rattle.dm_auth.specs.declared.accounts.Account.{Account}
use Rattle.dm_headers.specs.declared.checks.Side.TheVariants.{User}
use Rattle.dm_headers.specs.declared.standings.Standing.{Standing}
use Rattle.dm_headers.specs.Checks.{fault_of, is_denied, passes, judged, judged_by, header_code, login_of}
use Rattle.dm_headers.specs.Headers.{header_answer}
use Rattle.dm_headers.specs.Standings.{Heard, hears}
use Rattle.dm_pack.specs.Filling.{fill}
use Rattle.dm_ends.specs.Commands.{is_abort}
use Rattle.dm_job.specs.declared.job.JobEntry.{JobEntry}
use Rattle.dm_service.specs.declared.progress.ServiceProgress.{ServiceProgress}
use Rattle.dm_service.specs.declared.sent.Carried.{Carried}
use Rattle.dm_service.specs.declared.sent.Sent.{Sent}
use Rattle.dm_service.specs.Service.{Waiting, Told, Session, Service, entries_of}
use Rattle.dm_service.specs.Matching.{untold, Finding}
use Rattle.dm_service.specs.Packages.{is_of_job, queues_package, next_package, holds_number, forgotten, not_sent}
use Rattle.dm_service.specs.Packages.{gives_up}
use Rattle.dm_service.specs.Sending.{header_for, in_a_row, last_part_sent, rest_holds, but_the_last, part_holds}
use Rattle.dm_service.specs.Sending.{goes_out}
use Rattle.dm_service.specs.Sending.{sends}
use Rattle.dm_service.specs.Messages.{ended, denies, answer_waiting, matched_in, with_matched, tells}
use Rattle.dm_service.specs.Messages.{queues_answers, session_or, in_session, answers_message, by_header, accepts}
use Rattle.dm_service.specs.Laws.{found_at}
use Rattle.dm_service.proofs.Codes.{filter_in}
use Rattle.dm_world.proofs.Lists.{either, Each, each-append, each-drop}
use Rattle.dm_world.proofs.Client.{OpenAs}
use Rattle.dm_world.proofs.Server.{heard-numbers}
use Rattle.dm_world.proofs.Serves.{NoJob, idle-out, idle-left, answers-idle, filter-none, open-map, told-session}
use Rattle.dm_world.proofs.Gathers.{AreNext}

-- ---- what goes out stands in the next message

abbrev OfMessage : ℕ → Sent → Type 0
OfMessage msg s = s.msg ≡ msg

row-of : (msg command number n : ℕ) → Each (OfMessage msg) (in_a_row msg command number n)
row-of msg command number zero = tt
row-of msg command number (suc n) = (refl, row-of msg (command + 1) (number + 1) n)

alone-of : (msg command : ℕ) (c : Carried) → Each (OfMessage msg) (last_part_sent msg command c)
alone-of msg command c = (refl, either (Each (OfMessage msg)) (nat_lt 1 c.count) {y = []} (refl, tt) tt)

rest-of : (msg command : ℕ) (begun : Bool) (o : Option Carried) → Each (OfMessage msg) (rest_holds msg command begun o)
rest-of msg command begun None = tt
rest-of msg command false (Some c) = row-of msg command c.first c.count
rest-of msg command true (Some c) = alone-of msg command c

last-of : (msg : ℕ) (ss : List Sent) → Each (OfMessage msg) ss → Each (OfMessage msg) (but_the_last ss)
last-of msg [] h = tt
last-of msg (s ∷ []) h = (h.0, tt)
last-of msg (s ∷ t ∷ ss) h = (h.0, last-of msg (t ∷ ss) h.1)

part-of : (msg : ℕ) (ss : List Sent) → Each (OfMessage msg) ss → Each (OfMessage msg) (part_holds ss)
part-of msg [] h = tt
part-of msg (s ∷ ss) h = (h.0, last-of msg ss h.1)

out-of : (msg command whole cut : ℕ) (ws : List Waiting) → Each (OfMessage msg) (goes_out msg command whole cut ws)
out-of msg command whole cut [] = tt
out-of msg command zero zero (w ∷ ws) = tt
out-of msg command zero (suc n) (w ∷ ws) =
    part-of msg (rest_holds msg command w.entry.begun w.carries) (rest-of msg command w.entry.begun w.carries)
out-of msg command (suc whole) cut (w ∷ ws) =
    each-append (OfMessage msg) (rest_holds msg command w.entry.begun w.carries) _
    (rest-of msg command w.entry.begun w.carries) (out-of msg (command + ids_in w.entry.command) whole cut ws)

-- ---- before the client is accepted

-- nothing of the job was sent in the session, and nothing of it waits
abbrev pub HasNone : Service → Session → Type 0
HasNone v s = s.progress.standing.accepted ≡ false → (s.sent ≡ []) × Each NoJob v.queue

-- ---- what a message leaves

-- what is told of the job's commands behind its header, and the value that is gathered
abbrev pub finding_by : Service → Session → Parts → ℕ → Finding
finding_by v s m code =
    cond (passes code) (matched_in v s m).finding (record { object = s.object; told = v.told })

-- it is answered
pub record Works (v : Service) (s : Session) (m : Parts) (code : ℕ) (x : Service) (t : Session) : Type 0 where
  pub object : t.object ≡ (finding_by v s m code).object
  pub told : x.told ≡ (finding_by v s m code).told
  pub out : List Sent
  pub sent : t.sent ≡ s.sent ++ out
  pub next : AreNext s.progress.standing.own out

-- or the session is over, and nothing is told
pub record Leaves (v : Service) (s : Session) (m : Parts) (code : ℕ) (x : Service) (t : Session) : Type 0 where
  pub none : HasNone v s → HasNone x t
  pub outcome : ((t.progress.is_over ≡ true) × (x.told ≡ v.told)) ⊎ Works v s m code x t

next-nojob : (v : Service) (s : Standing) → s.accepted ≡ false → Each NoJob v.queue
    → Each NoJob (next_package v s).queue
next-nojob v s e h =
    subst (λ b. Each NoJob (cond (b && s.heard && not (list_any is_of_job v.queue)) (queues_package v v.packages)
    v).queue) (sym e) h

next-told : (v : Service) (s : Standing) → (next_package v s).told ≡ v.told
next-told v s =
    either (λ (x : Service). x.told ≡ v.told) (s.accepted && s.heard && not (list_any is_of_job v.queue))
    {x = queues_package v v.packages} {y = v} (queued v.packages) refl
  where
    queued : (ps : List (List JobEntry)) → (queues_package v ps).told ≡ v.told
    queued [] = refl
    queued (p ∷ ps) = refl

-- the session that it is answered in has the object that it leaves
told-object : (v : Service) (s : Session) (m : Parts) (code : ℕ) → v.session ≡ Some s
    → ((in_session (tells v s m code) s).object ≡ (finding_by v s m code).object)
    × ((tells v s m code).told ≡ (finding_by v s m code).told)
told-object v s m code e = by (passes code)
  where
    by : (b : Bool) → ((session_or (cond b (with_matched v s (matched_in v s m)) v).session s).object
        ≡ (cond b (matched_in v s m).finding (record { object = s.object; told = v.told })).object)
        × ((cond b (with_matched v s (matched_in v s m)) v).told
        ≡ (cond b (matched_in v s m).finding (record { object = s.object; told = v.told })).told)
    by true = (refl, refl)
    by false = (ap (λ o. (session_or o s).object) e, refl)

-- the message that goes out of a session
record Goes (v : Service) (s : Session) (x : Service) (t : Session) : Type 0 where
  object : t.object ≡ s.object
  told : x.told ≡ v.told
  out : List Sent
  sent : t.sent ≡ s.sent ++ out
  next : AreNext s.progress.standing.own out
  none : t.progress.standing.accepted ≡ false → s.sent ≡ [] → Each NoJob v.queue → (t.sent ≡ []) × Each NoJob x.queue
  accepted : t.progress.standing.accepted ≡ s.progress.standing.accepted

sends-leave : (v : Service) (s : Session) (m : Parts) (code : ℕ)
    → OpenAs (Goes v s (sends v s m code)) (sends v s m code).session
unfolding sends
sends-leave v s m code =
    let p = s.progress in
    let f = fill (entries_of v.queue) (header_for v p m) p.standing.room p.standing.heard in
    let out = goes_out (p.standing.own + 1) 1 f.whole f.cut v.queue in
    record {
      object = refl;
      told = refl;
      out = out;
      sent = refl;
      next = out-of (p.standing.own + 1) 1 f.whole f.cut v.queue;
      none = λ a e q.
          (let silent = idle-out (p.standing.own + 1) 1 f.whole f.cut v.queue q in (
            ap (λ x. s.sent ++ x) silent ∙ append-nil s.sent ∙ e,
            idle-left f.left (drop f.whole v.queue) (each-drop NoJob f.whole v.queue q),
          ));
      accepted = refl;
    }

tells-queue : (v : Service) (s : Session) (m : Parts) (code : ℕ) → (tells v s m code).queue ≡ v.queue
tells-queue v s m code =
    either (λ (x : Service). x.queue ≡ v.queue) (passes code) {x = with_matched v s (matched_in v s m)} {y = v} refl
    refl

queued-nojob : (v : Service) (m : Parts) (code : ℕ) (nonce : List ℕ) → Each NoJob v.queue
    → Each NoJob (queues_answers v m code nonce).queue
queued-nojob v m code nonce h =
    each-append NoJob (map answer_waiting (header_answer m.header code nonce) ++ v.queue) _
    (each-append NoJob (map answer_waiting (header_answer m.header code nonce)) v.queue (answers-idle _) h)
    (answers-idle _)

answers-leave : (v : Service) (s : Session) (m : Parts) (code : ℕ) (nonce : List ℕ) → v.session ≡ Some s
    → OpenAs (Leaves v s m code (answers_message v s m code nonce)) (answers_message v s m code nonce).session
answers-leave v s m code nonce e =
    let told = tells v s m code in
    let t = in_session told s in
    let queued = queues_answers told m code nonce in
    let q = next_package queued t.progress.standing in
    let x = sends q t m code in
    let of = told-session v s m code e in
    let behind = told-object v s m code e in
    open-map x.session
    (λ u h. record {
      none = λ has a.
          (let no : t.progress.standing.accepted ≡ false = sym h.accepted ∙ a in
          let k = has (ap (λ (p : ServiceProgress). p.standing.accepted) (sym of.1) ∙ no) in
          h.none a (of.0 ∙ k.0)
          (next-nojob queued t.progress.standing no
          (queued-nojob told m code nonce (subst (Each NoJob) (sym (tells-queue v s m code)) k.1))));
      outcome =
          inr (record {
            object = h.object ∙ behind.0;
            told = h.told ∙ next-told queued t.progress.standing ∙ behind.1;
            out = h.out;
            sent = h.sent ∙ ap (λ l. l ++ h.out) of.0;
            next = subst (λ k. AreNext k h.out) (ap (λ (p : ServiceProgress). p.standing.own) of.1) h.next;
          });
    })
    (sends-leave q t m code)

denies-leave : (v : Service) (s : Session) (m : Parts) (code : ℕ) (nonce : List ℕ)
    → OpenAs (Leaves v s m code (denies v s m code nonce)) (denies v s m code nonce).session
unfolding denies
denies-leave v s m code nonce = record { none = λ h. h; outcome = inl (refl, refl) }

header-leave : (v : Service) (s : Session) (m : Parts) (h : Heard) (nonce : List ℕ) → v.session ≡ Some s
    → OpenAs (Leaves v s m h.code (by_header v s m h nonce)) (by_header v s m h nonce).session
header-leave v s m h nonce e =
    either (λ (x : Service). OpenAs (Leaves v s m h.code x) x.session)
    (not (is_some (fault_of m)) && list_any is_abort m.body) {x = ended v s}
    {y = cond h.second (denies v s m h.code nonce) (answers_message v s m h.code nonce)}
    (record { none = λ k. k; outcome = inl (refl, refl) })
    (either (λ (x : Service). OpenAs (Leaves v s m h.code x) x.session) h.second {x = denies v s m h.code nonce}
    {y = answers_message v s m h.code nonce} (denies-leave v s m h.code nonce)
    (answers-leave v s m h.code nonce e))

-- ---- a package is given up

forgotten-found : (given : List JobEntry) (n : ℕ) (told : List Told) (place : ℕ) (value : Step)
    → Contains (found_at (forgotten given n told) place) value → Contains (found_at told place) value
forgotten-found given n [] place value h = h
forgotten-found given n (t ∷ ts) zero value h = here (holds_number given n) h
  where
    here : (b : Bool) → Contains (cond b untold t).found value → Contains t.found value
    here true (k, l, e) = absurd (omega (arith, l))
    here false h = h
forgotten-found given n (t ∷ ts) (suc place) value h = forgotten-found given (n + 1) ts place value h

-- ---- the whole message

-- what the header's Status comes to: whether it tells for the first time in the session that the last was refused
abbrev pub tells_first : Service → Session → Parts → List ℕ → Bool
tells_first v s m nonce =
    not s.progress.standing.we_failed && is_denied (hears User v.job.account s.progress.standing m nonce).status

pub record Accepted (v : Service) (s : Session) (m : Parts) (nonce : List ℕ) (x : Service) (t : Session) : Type 0 where
  -- the service behind the header's Status
  pub base : Service
  pub from : Session
  pub object : from.object ≡ s.object
  pub own : from.progress.standing.own ≡ s.progress.standing.own
  pub limit : base.job.limits.max_obj ≡ v.job.limits.max_obj
  pub sent : (tells_first v s m nonce ≡ true) ⊎ (from.sent ≡ s.sent)
  pub within : (y : Sent) → Contains from.sent y → Contains s.sent y
  pub told : (place : ℕ) (value : Step) → Contains (found_at base.told place) value
      → Contains (found_at v.told place) value
  pub none : HasNone v s → HasNone base from
  pub leaves : Leaves base from m (hears User v.job.account s.progress.standing m nonce).code x t

or-none : (a b : Bool) → (a || b) ≡ false → a ≡ false
or-none true b e = absurd (cc)
or-none false b e = refl

still-none : (a : Account) (s : Standing) (m : Parts) (nonce : List ℕ)
    → (hears User a s m nonce).standing.accepted ≡ false
    → s.accepted ≡ false
unfolding hears
still-none a s m nonce e = or-none s.accepted _ e

none-sent : (given : List JobEntry) (sent : List Sent) → sent ≡ [] → not_sent given sent ≡ []
none-sent given sent e = ap (not_sent given) e

or-session : (o : Option Session) (s t : Session) → o ≡ Some t → session_or o s ≡ t
or-session o s t e = ap (λ z. session_or z s) e

record Gave (v g : Service) (s t : Session) : Type 0 where
  session : g.session ≡ Some t
  object : t.object ≡ s.object
  progress : t.progress ≡ s.progress
  limit : g.job.limits.max_obj ≡ v.job.limits.max_obj
  within : (y : Sent) → Contains t.sent y → Contains s.sent y
  told : (place : ℕ) (value : Step) → Contains (found_at g.told place) value → Contains (found_at v.told place) value
  none : s.sent ≡ [] → (t.sent ≡ []) × Each NoJob g.queue

gives-gave : (v : Service) (s : Session) → (t : Session) × Gave v (gives_up v s) s t
unfolding gives_up
gives-gave v s = (
  _,
  record {
    session = refl;
    object = refl;
    progress = refl;
    limit = refl;
    within = λ y h. filter_in (λ (x : Sent). not (holds_number v.newest x.number)) s.sent y h;
    told = λ place value h. forgotten-found v.newest 1 v.told place value h;
    none = λ e. (none-sent v.newest s.sent e, filter-none v.queue);
  },
)

pub accepts-leave : (v : Service) (s : Session) (m : Parts) (nonce : List ℕ)
    → OpenAs (Accepted v s m nonce (accepts v s m nonce)) (accepts v s m nonce).session
unfolding accepts
accepts-leave v s m nonce = by-status (tells_first v s m nonce) refl
  where
    h : Heard
    h = hears User v.job.account s.progress.standing m nonce

    t : Session
    t = record s { progress = record s.progress { standing = h.standing } }

    heard : Service
    heard = record v { job = record v.job { account = h.account }; session = Some t }

    own-is : (hears User v.job.account s.progress.standing m nonce).standing.own ≡ s.progress.standing.own
    own-is = (heard-numbers v.job.account s.progress.standing m nonce).1

    by-status : (b : Bool) → tells_first v s m nonce ≡ b
        → OpenAs
        (Accepted v s m nonce (by_header (cond b (gives_up heard t) heard)
        (session_or (cond b (gives_up heard t) heard).session t) m h nonce))
        (by_header (cond b (gives_up heard t) heard) (session_or (cond b (gives_up heard t) heard).session t) m h
        nonce).session
    by-status false e =
        open-map (by_header heard t m h nonce).session
        (λ u k. record {
          base = heard;
          from = t;
          object = refl;
          own = own-is;
          limit = refl;
          sent = inr refl;
          within = λ y i. i;
          told = λ place value i. i;
          none = λ has a. has (still-none v.job.account s.progress.standing m nonce a);
          leaves = k;
        })
        (header-leave heard t m h nonce refl)
    by-status true e =
        let gave = gives-gave heard t in
        let t' = gave.0 in
        let at = gave.1 in
        let g = gives_up heard t in
        subst
        (λ z. OpenAs (Accepted v s m nonce (by_header g z m h nonce)) (by_header g z m h nonce).session)
        (sym (or-session g.session t t' at.session))
        (open-map (by_header g t' m h nonce).session
        (λ u k. record {
          base = g;
          from = t';
          object = at.object;
          own = ap (λ (p : ServiceProgress). p.standing.own) at.progress ∙ own-is;
          limit = at.limit;
          sent = inl e;
          within = at.within;
          told = at.told;
          none = λ has a.
              at.none
              (has
              (still-none v.job.account s.progress.standing m nonce
              (ap (λ (p : ServiceProgress). p.standing.accepted) (sym at.progress) ∙ a))).0;
          leaves = k;
        })
        (header-leave g t' m h nonce at.session))

-- ---- its code

judged-passes : (name password : Option (List ℕ)) (nonce : List ℕ) (cred : Option Cred)
    → passes (judged true name password nonce cred) ≡ true
judged-passes (Some name) (Some password) nonce cred = refl
judged-passes (Some name) None nonce cred = refl
judged-passes None password nonce cred = refl

-- once the client is accepted, its messages pass
pub accepted-passes : (a : Account) (s : Standing) (m : Parts) (nonce : List ℕ) → fault_of m ≡ None
    → s.accepted ≡ true
    → passes (hears User a s m nonce).code ≡ true
unfolding hears header_code
accepted-passes a s m nonce f e =
    ap (λ o. passes (unwrap_or o (judged_by s.accepted (login_of User a) m.header.cred))) f
    ∙ ap (λ b. passes (judged_by b (login_of User a) m.header.cred)) e
    ∙ judged-passes (login_of User a).name (login_of User a).password (login_of User a).nonce m.header.cred
