-- A job that runs in a session stays there: in a later one nothing of it waits, and nothing of it is sent.
use Rattle.std.proofs.Common.{None, Some, ◌≡◌, ◌+◌, ◌&&◌, ◌||◌, ◌==◌, ◌⊎◌, ℕ, zero, suc, Bool, true, false, cond, not}
use Rattle.std.proofs.Common.{inl, inr}
use Rattle.std.proofs.Common.{List, [], ◌∷◌, ◌++◌, map, take, drop, refl, sym, ap, subst, ◌∙◌}
use Rattle.std.specs.Prelude.{Option, Result, Ok, Err, is_some, if◌then◌else◌}
use Rattle.std.specs.List.{filter, list_any}
use Rattle.syncml_types.specs.Message.{Parts}
use Rattle.syncml_types.specs.declared.command.Command.{Command}
use Rattle.syncml_parts.specs.Numbering.{ids_in}
use Rattle.wbxml_tokens.specs.declared.reason.Refusal.{Refusal}
use Rattle.dm_headers.specs.declared.checks.Side.TheVariants.{User}
use Rattle.dm_headers.specs.declared.standings.Standing.{Standing}
use Rattle.dm_headers.specs.Checks.{fault_of, is_denied, passes}
use Rattle.dm_headers.specs.Headers.{header_answer}
use Rattle.dm_headers.specs.Standings.{Heard, hears}
use Rattle.dm_pack.specs.Entries.{Entry}
use Rattle.dm_pack.specs.Filling.{next_rest, fill, taken, cut, commands_of}
use Rattle.dm_ends.specs.Commands.{is_abort}
use Rattle.dm_job.specs.declared.job.JobEntry.{JobEntry}
use Rattle.dm_service.specs.declared.sent.Carried.{Carried}
use Rattle.dm_service.specs.declared.sent.Sent.{Sent}
use Rattle.dm_service.specs.Service.{Waiting, Session, Service}
use Rattle.dm_service.specs.Packages.{is_of_job, queues_package, next_package, not_sent, package_put_back, runs_after}
use Rattle.dm_service.specs.Packages.{gives_up}
use Rattle.dm_service.specs.Answers.{command_answers}
use Rattle.dm_service.specs.Sending.{header_for, rest_holds, goes_out, carried_on, runs_in_after, sends}
use Rattle.dm_service.specs.Messages.{first_service, first_session, begins, ended, denies, answer_waiting, after_status}
use Rattle.dm_service.specs.Messages.{tells, queues_answers, in_session, answers_message, by_header, accepts}
use Rattle.dm_service.specs.Events.{Arrival, number_of, takes, opens_session, after_in_session, after_number}
use Rattle.dm_service.specs.Events.{after_read, after}
use Rattle.dm_service.specs.History.{next, state_from}
use Rattle.dm_service.specs.Laws.{StaysInSession, JobKeepsItsSession, session_number}
use Rattle.dm_service.proofs.Steps.{either}
use Rattle.dm_service.proofs.Gone.{found}

-- ---- nothing of the job waits

no-more : (a b : Bool) → (a || b) ≡ false → (a ≡ false) × (b ≡ false)
no-more true b h = absurd (cc)
no-more false b h = (refl, h)

none-both : (vs ws : List Waiting) → list_any is_of_job vs ≡ false → list_any is_of_job ws ≡ false
    → list_any is_of_job (vs ++ ws) ≡ false
none-both [] ws h k = k
none-both (v ∷ vs) ws h k =
    let parts = no-more (is_of_job v) (list_any is_of_job vs) h in
    ap (λ b. b || list_any is_of_job (vs ++ ws)) parts.0 ∙ none-both vs ws parts.1 k

none-answers : (cs : List Command) → list_any is_of_job (map answer_waiting cs) ≡ false
none-answers [] = refl
none-answers (c ∷ cs) = none-answers cs

none-others-step : (w : Waiting) (ws : List Waiting) (b : Bool) → is_of_job w ≡ b → list_any is_of_job ws ≡ false
    → list_any is_of_job (cond (not b) (w ∷ ws) ws) ≡ false
none-others-step w ws true e h = h
none-others-step w ws false e h = ap (λ b. b || list_any is_of_job ws) e ∙ h

none-others : (ws : List Waiting) → list_any is_of_job (filter (λ w. not (is_of_job w)) ws) ≡ false
none-others [] = refl
none-others (w ∷ ws) =
    none-others-step w (filter (λ w. not (is_of_job w)) ws) (is_of_job w) refl (none-others ws)

none-left : (n : ℕ) (ws : List Waiting) → list_any is_of_job ws ≡ false → list_any is_of_job (drop n ws) ≡ false
none-left zero ws h = h
none-left (suc n) [] h = refl
none-left (suc n) (w ∷ ws) h = none-left n ws (no-more (is_of_job w) (list_any is_of_job ws) h).1

none-carried : (es : List Entry) (ws : List Waiting) → list_any is_of_job ws ≡ false
    → list_any is_of_job (carried_on es ws) ≡ false
none-carried [] ws h = refl
none-carried (e ∷ es) [] h = refl
none-carried (e ∷ es) (w ∷ ws) h =
    let parts = no-more (is_of_job w) (list_any is_of_job ws) h in
    ap (λ b. b || list_any is_of_job (carried_on es ws)) parts.0 ∙ none-carried es ws parts.1

holds-none : (msg command : ℕ) (begun : Bool) (o : Option Carried) → is_some o ≡ false
    → rest_holds msg command begun o ≡ []
holds-none msg command begun None h = refl
holds-none msg command begun (Some c) h = absurd (cc)

none-out : (msg command whole n : ℕ) (ws : List Waiting) → list_any is_of_job ws ≡ false
    → goes_out msg command whole n ws ≡ []
none-out msg command zero zero [] h = refl
none-out msg command zero (suc n) [] h = refl
none-out msg command (suc whole) n [] h = refl
none-out msg command zero zero (w ∷ ws) h = refl
none-out msg command zero (suc n) (w ∷ ws) h =
    let parts = no-more (is_of_job w) (list_any is_of_job ws) h in
    rw (holds-none msg command w.entry.begun w.carries parts.0) refl
none-out msg command (suc whole) n (w ∷ ws) h =
    let parts = no-more (is_of_job w) (list_any is_of_job ws) h in
    rw (
      holds-none msg command w.entry.begun w.carries parts.0,
      none-out msg (command + ids_in w.entry.command) whole n ws parts.1,
    ) refl

-- ---- where the job runs

record Rests (v : Service) (s : Session) : Type 0 where
  packages : v.packages ≡ []
  newest : v.newest ≡ []
  sent : s.sent ≡ []
  queue : list_any is_of_job v.queue ≡ false

-- it runs in no session, in this one, or it rests
abbrev IdleBy : Option ℕ → Service → Session → Type 0
IdleBy None v s = Unit {0}
IdleBy (Some k) v s = (k ≡ s.progress.number) ⊎ Rests v s

-- what a message of a session with this number makes of it
abbrev Moves : ℕ → Option ℕ → Option ℕ → Type 0
Moves n None p = (p ≡ None) ⊎ (p ≡ Some n)
Moves n (Some k) p = (p ≡ Some k) ⊎ ((k ≡ n) × (p ≡ None))

moves-none : (n : ℕ) (o : Option ℕ) → Moves n o o
moves-none n None = inl refl
moves-none n (Some k) = inl refl

moves-both : (n : ℕ) (o p q : Option ℕ) → Moves n o p → Moves n p q → Moves n o q
moves-both n None None q a b = b
moves-both n None (Some k) q (inl a) b = absurd (cc)
moves-both n None (Some k) q (inr a) (inl b) = inr (b ∙ a)
moves-both n None (Some k) q (inr a) (inr b) = inl b.1
moves-both n (Some k) None q (inl a) b = absurd (cc)
moves-both n (Some k) None q (inr a) (inl b) = inr (a.0, b)
moves-both n (Some k) None q (inr a) (inr b) = inl (b ∙ ap Some (sym a.0))
moves-both n (Some k) (Some j) q (inl a) (inl b) = inl (b ∙ a)
moves-both n (Some k) (Some j) q (inl a) (inr b) = let e : j ≡ k = cc in inr (sym e ∙ b.0, b.1)
moves-both n (Some k) (Some j) q (inr a) b = absurd (cc)

record Goes (o : Option ℕ) (n : ℕ) (w : Service) : Type 0 where
  session : Session
  is_it : w.session ≡ Some session
  number : session.progress.number ≡ n
  idle : IdleBy w.runs_in w session
  moves : Moves n o w.runs_in

-- the machine has other fields, and rests as before
rests-as : (o : Option ℕ) (v w : Service) (s t : Session) → t.progress.number ≡ s.progress.number
    → (Rests v s → Rests w t)
    → IdleBy o v s → IdleBy o w t
rests-as None v w s t e f h = tt
rests-as (Some k) v w s t e f (inl h) = inl (h ∙ sym e)
rests-as (Some k) v w s t e f (inr h) = inr (f h)

-- ---- a package is given up

given-moves : (o : Option ℕ) (v : Service) (s : Session) (left : List Sent) → IdleBy o v s
    → Moves s.progress.number o (runs_after o s.sent left)
given-moves o v s left h = by o s.sent left refl h
  where
    by : (o : Option ℕ) (sent left : List Sent) → s.sent ≡ sent → IdleBy o v s
        → Moves s.progress.number o (runs_after o sent left)
    by None [] left e h = inl refl
    by None (x ∷ xs) [] e h = inl refl
    by None (x ∷ xs) (y ∷ ys) e h = inl refl
    by (Some k) [] left e h = inl refl
    by (Some k) (x ∷ xs) [] e (inl h) = inr (h, refl)
    by (Some k) (x ∷ xs) [] e (inr h) = let f = sym h.sent ∙ e in absurd (cc)
    by (Some k) (x ∷ xs) (y ∷ ys) e h = inl refl

given-idle : (o : Option ℕ) (v : Service) (s : Session) (sent left : List Sent) (w : Service) (t : Session)
    → t.progress.number ≡ s.progress.number → (Rests v s → Rests w t) → s.sent ≡ sent → IdleBy o v s
    → IdleBy (runs_after o sent left) w t
given-idle o v s [] left w t e f g h = rests-as o v w s t e f h
given-idle o v s (x ∷ xs) [] w t e f g h = tt
given-idle o v s (x ∷ xs) (y ∷ ys) w t e f g h = rests-as o v w s t e f h

back-none : (p : List JobEntry) (ps : List (List JobEntry)) → p ≡ [] → ps ≡ [] → package_put_back p ps ≡ []
back-none p ps e f = rw (e, f) refl

sent-none : (p : List JobEntry) (ss : List Sent) → ss ≡ [] → not_sent p ss ≡ []
sent-none p ss e = rw e refl

gives-goes : (v : Service) (s : Session) → IdleBy v.runs_in v s → Goes v.runs_in s.progress.number (gives_up v s)
unfolding gives_up
gives-goes v s h = record {
  session = _;
  is_it = refl;
  number = refl;
  idle = given-idle v.runs_in v s s.sent (not_sent v.newest s.sent) _ _ refl
      (λ r. record {
        packages = back-none v.newest v.packages r.newest r.packages;
        newest = refl;
        sent = sent-none v.newest s.sent r.sent;
        queue = none-others v.queue;
      }) refl h;
  moves = given-moves v.runs_in v s (not_sent v.newest s.sent) h;
}

stays-goes : (v : Service) (s : Session) → v.session ≡ Some s → IdleBy v.runs_in v s
    → Goes v.runs_in s.progress.number v
stays-goes v s e h =
    record { session = s; is_it = e; number = refl; idle = h; moves = moves-none s.progress.number v.runs_in }

status-goes : (v : Service) (s : Session) (failed : Bool) (status : ℕ) → v.session ≡ Some s → IdleBy v.runs_in v s
    → Goes v.runs_in s.progress.number (after_status v s failed status)
status-goes v s failed status e h =
    either (Goes v.runs_in s.progress.number) (not failed && is_denied status) (gives_up v s) v (gives-goes v s h)
    (stays-goes v s e h)

-- ---- a message

tells-goes : (v : Service) (s : Session) (m : Parts) (code : ℕ) → v.session ≡ Some s → IdleBy v.runs_in v s
    → Goes v.runs_in s.progress.number (tells v s m code)
tells-goes v s m code e h =
    either (Goes v.runs_in s.progress.number) (passes code) _ v
    (record {
      session = _;
      is_it = refl;
      number = refl;
      idle = rests-as v.runs_in v _ s _ refl
          (λ r. record { packages = r.packages; newest = r.newest; sent = r.sent; queue = r.queue }) h;
      moves = moves-none s.progress.number v.runs_in;
    }) (stays-goes v s e h)

answers-idle : (v : Service) (s : Session) (m : Parts) (code : ℕ) (nonce : List ℕ) → IdleBy v.runs_in v s
    → IdleBy v.runs_in (queues_answers v m code nonce) s
answers-idle v s m code nonce h =
    let first = map answer_waiting (header_answer m.header code nonce) in
    let made = map answer_waiting (if passes code then command_answers m else []) in
    rests-as v.runs_in v (queues_answers v m code nonce) s s refl
    (λ r. record {
      packages = r.packages;
      newest = r.newest;
      sent = r.sent;
      queue = none-both (first ++ v.queue) made
          (none-both first v.queue (none-answers (header_answer m.header code nonce)) r.queue)
          (none-answers (if passes code then command_answers m else []));
    }) h

queues-runs : (v : Service) (ps : List (List JobEntry)) → (queues_package v ps).runs_in ≡ v.runs_in
queues-runs v [] = refl
queues-runs v (p ∷ ps) = refl

queues-rests : (v : Service) (s : Session) (ps : List (List JobEntry)) → v.packages ≡ ps → Rests v s
    → Rests (queues_package v ps) s
queues-rests v s [] e r = r
queues-rests v s (p ∷ ps) e r = let f = sym e ∙ r.packages in absurd (cc)

package-runs : (v : Service) (t : Standing) → (next_package v t).runs_in ≡ v.runs_in
package-runs v t =
    either (λ (w : Service). w.runs_in ≡ v.runs_in) (t.accepted && t.heard && not (list_any is_of_job v.queue))
    (queues_package v v.packages) v (queues-runs v v.packages) refl

package-rests : (v : Service) (s : Session) (t : Standing) → Rests v s → Rests (next_package v t) s
package-rests v s t r =
    either (λ w. Rests w s) (t.accepted && t.heard && not (list_any is_of_job v.queue)) (queues_package v v.packages) v
    (queues-rests v s v.packages refl r) r

out-moves : (n : ℕ) (o : Option ℕ) (out : List Sent) (v : Service) (s : Session) → s.progress.number ≡ n → IdleBy o v s
    → (Rests v s → out ≡ []) → Moves n o (runs_in_after o n out)
out-moves n o [] v s e h f = moves-none n o
out-moves n None (x ∷ xs) v s e h f = inr refl
out-moves n (Some k) (x ∷ xs) v s e (inl h) f = inl (ap Some (sym (h ∙ e)))
out-moves n (Some k) (x ∷ xs) v s e (inr h) f = let g = f h in absurd (cc)

out-idle : (o : Option ℕ) (out : List Sent) (v w : Service) (s t : Session) → t.progress.number ≡ s.progress.number
    → (Rests v s → Rests w t) → (Rests v s → out ≡ []) → IdleBy o v s
    → IdleBy (runs_in_after o s.progress.number out) w t
out-idle o [] v w s t e f g h = rests-as o v w s t e f h
out-idle o (x ∷ xs) v w s t e f g h = inl (sym e)

no-sent : (sent out : List Sent) → sent ≡ [] → out ≡ [] → sent ++ out ≡ []
no-sent sent out e f = rw (e, f) refl

sends-goes : (v : Service) (s : Session) (m : Parts) (code : ℕ) → IdleBy v.runs_in v s
    → Goes v.runs_in s.progress.number (sends v s m code)
unfolding sends fill
sends-goes v s m code h =
    let p = s.progress in
    let es = map (λ (w : Waiting). w.entry) v.queue in
    let header = header_for v p m in
    let whole = taken header p.standing.room [] es in
    let bytes = cut header p.standing.room (commands_of (take whole es)) (drop whole es) in
    let out = goes_out (p.standing.own + 1) 1 whole bytes v.queue in
    let none : Rests v s → out ≡ [] = λ r. none-out (p.standing.own + 1) 1 whole bytes v.queue r.queue in
    record {
      session = _;
      is_it = refl;
      number = refl;
      idle = out-idle v.runs_in out v _ s _ refl
          (λ r. record {
            packages = r.packages;
            newest = r.newest;
            sent = no-sent s.sent out r.sent (none r);
            queue = none-carried (next_rest bytes (drop whole es)) (drop whole v.queue)
                (none-left whole v.queue r.queue);
          }) none h;
      moves = out-moves p.number v.runs_in out v s refl h none;
    }

-- the same from another place
goes-from : (o p : Option ℕ) (n k : ℕ) (w : Service) → k ≡ n → Moves n o p → Goes p k w → Goes o n w
goes-from o p n k w e a g = record {
  session = g.session;
  is_it = g.is_it;
  number = g.number ∙ e;
  idle = g.idle;
  moves = moves-both n o p w.runs_in a (subst (λ j. Moves j p w.runs_in) e g.moves);
}

ended-goes : (v : Service) (s : Session) → IdleBy v.runs_in v s → Goes v.runs_in s.progress.number (ended v s)
ended-goes v s h = record {
  session = _;
  is_it = refl;
  number = refl;
  idle = rests-as v.runs_in v (ended v s) s _ refl
      (λ r. record { packages = r.packages; newest = r.newest; sent = r.sent; queue = r.queue }) h;
  moves = moves-none s.progress.number v.runs_in;
}

denies-goes : (v : Service) (s : Session) (m : Parts) (code : ℕ) (nonce : List ℕ) → IdleBy v.runs_in v s
    → Goes v.runs_in s.progress.number (denies v s m code nonce)
unfolding denies
denies-goes v s m code nonce h = record {
  session = _;
  is_it = refl;
  number = refl;
  idle = rests-as v.runs_in v _ s _ refl
      (λ r. record { packages = r.packages; newest = r.newest; sent = r.sent; queue = r.queue }) h;
  moves = moves-none s.progress.number v.runs_in;
}

message-goes : (v : Service) (s : Session) (m : Parts) (code : ℕ) (nonce : List ℕ) → v.session ≡ Some s
    → IdleBy v.runs_in v s → Goes v.runs_in s.progress.number (answers_message v s m code nonce)
message-goes v s m code nonce e h =
    let told = tells v s m code in
    let k = tells-goes v s m code e h in
    let t = in_session told s in
    let is_t : t ≡ k.session = found told.session s k.session k.is_it in
    let number : t.progress.number ≡ s.progress.number = ap (λ (x : Session). x.progress.number) is_t ∙ k.number in
    let idle : IdleBy told.runs_in told t = subst (λ x. IdleBy told.runs_in told x) (sym is_t) k.idle in
    let waits = queues_answers told m code nonce in
    let queued = next_package waits t.progress.standing in
    let same = package-runs waits t.progress.standing in
    let ready : IdleBy queued.runs_in queued t =
    subst (λ o. IdleBy o queued t) (sym same)
    (rests-as told.runs_in waits queued t t refl (package-rests waits t t.progress.standing)
    (answers-idle told t m code nonce idle)) in
    goes-from v.runs_in queued.runs_in s.progress.number t.progress.number (sends queued t m code) number
    (subst (λ o. Moves s.progress.number v.runs_in o) (sym same) k.moves) (sends-goes queued t m code ready)

header-goes : (v : Service) (s : Session) (m : Parts) (h : Heard) (nonce : List ℕ) → v.session ≡ Some s
    → IdleBy v.runs_in v s → Goes v.runs_in s.progress.number (by_header v s m h nonce)
header-goes v s m h nonce e idle =
    either (Goes v.runs_in s.progress.number) (not (is_some (fault_of m)) && list_any is_abort m.body) (ended v s)
    (cond h.second (denies v s m h.code nonce) (answers_message v s m h.code nonce)) (ended-goes v s idle)
    (either (Goes v.runs_in s.progress.number) h.second (denies v s m h.code nonce) (answers_message v s m h.code nonce)
    (denies-goes v s m h.code nonce idle) (message-goes v s m h.code nonce e idle))

accepts-goes : (v : Service) (s : Session) (m : Parts) (nonce : List ℕ) → IdleBy v.runs_in v s
    → Goes v.runs_in s.progress.number (accepts v s m nonce)
unfolding accepts
accepts-goes v s m nonce h =
    let heard = hears User v.job.account s.progress.standing m nonce in
    let t : Session = record s { progress = record s.progress { standing = heard.standing } } in
    let u : Service = record v { job = record v.job { account = heard.account }; session = Some t } in
    let failed = s.progress.standing.we_failed in
    let idle : IdleBy u.runs_in u t = rests-as v.runs_in v u s t refl
    (λ r. record { packages = r.packages; newest = r.newest; sent = r.sent; queue = r.queue }) h in
    let w = after_status u t failed heard.status in
    let g = status-goes u t failed heard.status refl idle in
    let x = in_session w t in
    let is_x : x ≡ g.session = found w.session t g.session g.is_it in
    let ready : IdleBy w.runs_in w x = subst (λ y. IdleBy w.runs_in w y) (sym is_x) g.idle in
    goes-from v.runs_in w.runs_in s.progress.number x.progress.number (by_header w x m heard nonce)
    (ap (λ (y : Session). y.progress.number) is_x ∙ g.number) g.moves
    (header-goes w x m heard nonce (g.is_it ∙ ap Some (sym is_x)) ready)

-- ---- what comes

-- a machine in each state
abbrev Idles : Service → Option Session → Type 0
Idles v None = Unit {0}
Idles v (Some s) = IdleBy v.runs_in v s

goes-idles : (o : Option ℕ) (n : ℕ) (w : Service) → Goes o n w → Idles w w.session
goes-idles o n w g = subst (λ x. Idles w x) (sym g.is_it) g.idle

begins-idle : (v : Service) (n : ℕ) (o : Option ℕ) → v.runs_in ≡ o
    → IdleBy o (begins v n) (first_session v.job.account n)
begins-idle v n None e = tt
begins-idle v n (Some k) e =
    inr (record {
      packages = ap (λ b. cond b [] v.job.packages) (ap (λ (o : Option ℕ). is_some o) e);
      newest = refl;
      sent = refl;
      queue = refl;
    })

-- a message of a session with this number was taken
record Taken (o : Option ℕ) (w : Service) : Type 0 where
  number : ℕ
  goes : Goes o number w

opens-goes : (v : Service) (n : ℕ) (m : Parts) (nonce : List ℕ) → Taken v.runs_in (opens_session v n m nonce)
opens-goes v n m nonce = record {
  number = n;
  goes = accepts-goes (begins v n) (first_session v.job.account n) m nonce (begins-idle v n v.runs_in refl);
}

acts-goes : (v : Service) (o : Option Session) (n : ℕ) (m : Parts) (nonce : List ℕ) → Idles v o
    → Taken v.runs_in (after_in_session v o n m nonce)
acts-goes v None n m nonce h = opens-goes v n m nonce
acts-goes v (Some s) n m nonce h =
    either (Taken v.runs_in) (s.progress.number == n) (accepts v s m nonce) (opens_session v n m nonce)
    (record { number = s.progress.number; goes = accepts-goes v s m nonce h }) (opens-goes v n m nonce)

-- the state goes on idle, and the job stays in its session
record Steps (v w : Service) : Type 0 where
  idle : Idles w w.session
  stays : (k : ℕ) → v.runs_in ≡ Some k → StaysInSession k w

unmoved : (v : Service) → Idles v v.session → Steps v v
unmoved v h = record { idle = h; stays = λ k e. inl e }

moved : (o : Option ℕ) (n k : ℕ) (w : Service) (s : Session) → w.session ≡ Some s → s.progress.number ≡ n → o ≡ Some k
    → Moves n o w.runs_in → StaysInSession k w
moved None n k w s f g e m = absurd (cc)
moved (Some j) n k w s f g e (inl m) = inl (m ∙ e)
moved (Some j) n k w s f g e (inr m) =
    let is : j ≡ k = cc in
    inr (m.1, ap session_number f ∙ ap Some (g ∙ sym m.0 ∙ is))

taken-steps : (v w : Service) → Taken v.runs_in w → Steps v w
taken-steps v w t =
    let g = t.goes in
    record {
      idle = goes-idles v.runs_in t.number w g;
      stays = λ k e. moved v.runs_in t.number k w g.session g.is_it g.number e g.moves;
    }

as-steps : (v : Service) (o : Option ℕ) (m : Parts) (nonce : List ℕ) → Idles v v.session
    → Steps v (after_number v o m nonce)
as-steps v None m nonce h = unmoved v h
as-steps v (Some n) m nonce h =
    taken-steps v (after_in_session v v.session n m nonce) (acts-goes v v.session n m nonce h)

read-steps : (v : Service) (read : Result Parts Refusal) (nonce : List ℕ) → Idles v v.session
    → Steps v (after_read v read nonce)
read-steps v (Ok m) nonce h = as-steps v (number_of m) m nonce h
read-steps v (Err place) nonce h = unmoved v h

next-steps : (v : Service) (e : Arrival) → Idles v v.session → Steps v (next v e)
unfolding next after
next-steps v e h =
    either (Steps v) (takes v e) (after_read v e.read e.nonce) v (read-steps v e.read e.nonce h) (unmoved v h)

comes-idle : (v : Service) (es : List Arrival) → Idles v v.session → Idles (state_from v es) (state_from v es).session
comes-idle v [] h = h
comes-idle v (e ∷ es) h = comes-idle (next v e) es (next-steps v e h).idle

pub job_keeps_its_session : JobKeepsItsSession
job_keeps_its_session job es e k h =
    (next-steps (state_from (first_service job) es) e (comes-idle (first_service job) es tt)).stays k h
