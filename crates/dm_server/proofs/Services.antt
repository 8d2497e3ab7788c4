-- A server's calls, as steps of its machine.
use Rattle.std.proofs.Common.{◌≡◌, ◌<◌, ◌&&◌, ◌||◌, ◌==◌, ◌++◌, ℕ, Bool, true, false, cond, not, List}
use Rattle.std.proofs.Common.{[], ◌∷◌, drop, None, Some, refl, sym, ap, ◌∙◌, subst, arith, if◌then◌else◌}
use Rattle.std.specs.Prelude.{replicate}
use Rattle.std.specs.Prelude.{Option, is_some, nat_lt, option_map, unwrap_or, IfSome, IsSomeAnd}
use Rattle.std.specs.Option.{option_or}
use Rattle.syncml_types.specs.Message.{Parts}
use Rattle.dm_auth.specs.declared.accounts.Account.{Account}
use Rattle.dm_ends.specs.declared.farewells.LastMessage.{LastMessage}
use Rattle.dm_ends.specs.Ready.{IsReadyMessage}
use Rattle.dm_job.specs.declared.job.Job.{Job}
use Rattle.dm_job.specs.Sound.{all_entries}
use Rattle.dm_job.specs.Sound.{IsSoundJob}
use Rattle.dm_report.specs.Known.{Known}
use Rattle.dm_service.specs.declared.progress.ServiceProgress.{ServiceProgress}
use Rattle.dm_service.specs.Events as events
use Rattle.dm_service.specs.Events.{Arrival, number_of, last_of, takes, takes_in, takes_number, after, after_in_session}
use Rattle.dm_service.specs.Events.{after_number, arrival}
use Rattle.dm_service.specs.Events.{opens_session, old_message, old_in, number_refusal, refusal, reply_of, is_answered}
use Rattle.dm_service.specs.Events.{kept_or_ended, taken_answer, sent_or_ended}
use Rattle.dm_service.specs.History.{answer_now, next, state_from}
use Rattle.dm_service.specs.Laws.{AreInOrder, sent_in}
use Rattle.dm_service.specs.Matching.{untold}
use Rattle.dm_service.specs.Packages.{commands_in}
use Rattle.dm_service.proofs.First.{first_is_ready}
use Rattle.dm_service.specs.Messages.{first_service, first_session, begins, accepts}
use Rattle.dm_service.specs.Ready.{AreReadyWaiting, IsReadyProgress, IsReadyService}
use Rattle.dm_service.specs.Service.{Waiting, Session, Service}
use Rattle.dm_service.proofs.Order.{sent_in_order}
use Rattle.dm_service.proofs.Stays.{stays_ready}
use Rattle.dm_server.specs.declared.answers.ServerAnswer.{ServerAnswer}
use Rattle.dm_server.specs.declared.answers.ServerAnswer.TheVariants as answer
use Rattle.dm_server.specs.declared.coming.Coming.TheVariants as coming
use Rattle.dm_server.specs.declared.drafts.ServerChanges.{ServerChanges}
use Rattle.dm_server.specs.declared.held.Run.{Run}
use Rattle.dm_server.specs.declared.held.Plan.{Plan}
use Rattle.dm_server.specs.declared.held.PresentSession.{PresentSession as Held}
use Rattle.dm_server.specs.declared.server.Server.TheInside.{Inside}
use Rattle.dm_server.specs.Inside.{at_work, message_in, newest_of, queue_in, server_of, service_of, session_in}
use Rattle.dm_server.specs.Inside.{IsNumberedJob, IsWithinJob, MessagesLeadTo, IsConsistent, IsSpelled, KeepsReply}
use Rattle.dm_server.specs.Inside.{Stands}
use Rattle.dm_server.specs.View.{Tells}
use Rattle.dm_server.specs.Working.{answer_with, drafted, with_account, CanAccept, ComesAs, IsReply}
use Rattle.dm_server.proofs.Steps.{if_so, if_not}

-- ---- what a message is to a machine

pub strange : (v : Service) (m : Parts) (nonce : List ℕ) → number_of m ≡ None
    → ComesAs (coming.Old answer.Stranger) v m nonce
unfolding takes refusal
strange v m nonce e = (
  ap (λ o. takes_number v.session o m) e,
  λ keeps. ap (λ o. number_refusal v o m (reply_of v)) e,
)

pub first_comes : (v : Service) (m : Parts) (nonce : List ℕ) (n : ℕ) → number_of m ≡ Some n → v.session ≡ None
    → ComesAs (coming.Begins n) v m nonce
unfolding takes after
first_comes v m nonce n e none = (
  ap (λ o. takes_number v.session o m) e ∙ ap (λ s. takes_in s n m) none,
  ap (λ o. after_number v o m nonce) e ∙ ap (λ s. after_in_session v s n m nonce) none,
)

-- in a machine that has a session
record ComesTo (v : Service) (s : Session) (m : Parts) (nonce : List ℕ) (n : ℕ) : Type 0 where
  takes_is : takes v (arrival m nonce) ≡ takes_in (Some s) n m
  after_is : after v (arrival m nonce) ≡ after_in_session v (Some s) n m nonce
  refusal_is : refusal v (arrival m nonce) (reply_of v) ≡ old_message s n m (reply_of v)

comes-to : (v : Service) (s : Session) (m : Parts) (nonce : List ℕ) (n : ℕ) → number_of m ≡ Some n
    → v.session ≡ Some s → ComesTo v s m nonce n
unfolding takes after refusal
comes-to v s m nonce n e is = record {
  takes_is = ap (λ o. takes_number v.session o m) e ∙ ap (λ t. takes_in t n m) is;
  after_is = ap (λ o. after_number v o m nonce) e ∙ ap (λ t. after_in_session v t n m nonce) is;
  refusal_is = ap (λ o. number_refusal v o m (reply_of v)) e ∙ ap (λ t. old_in t n m (reply_of v)) is;
}

greater-takes : (a n last msg : ℕ) (over : Bool) → a < n
    → (nat_lt a n || (a == n && nat_lt last msg && not over)) ≡ true
greater-takes a n last msg over h = grind (arith, h)

not-same : (a n : ℕ) → a < n → (a == n) ≡ false
not-same a n h = grind (arith, h)

pub greater_comes : (v : Service) (s : Session) (m : Parts) (nonce : List ℕ) (n : ℕ) → number_of m ≡ Some n
    → v.session ≡ Some s → s.progress.number < n → ComesAs (coming.Begins n) v m nonce
greater_comes v s m nonce n e is h =
    let c = comes-to v s m nonce n e is in (
      c.takes_is ∙ greater-takes s.progress.number n (last_of s) m.header.msg s.progress.is_over h,
      c.after_is ∙ if_not _ (accepts v s m nonce) (opens_session v n m nonce) (not-same s.progress.number n h),
    )

lower-takes : (a n last msg : ℕ) (over : Bool) → n < a
    → (nat_lt a n || (a == n && nat_lt last msg && not over)) ≡ false
lower-takes a n last msg over h = grind (arith, h)

is-lower : (a n : ℕ) → n < a → nat_lt n a ≡ true
is-lower a n h = grind (arith, h)

pub lower_comes : (v : Service) (s : Session) (m : Parts) (nonce : List ℕ) (n : ℕ) → number_of m ≡ Some n
    → v.session ≡ Some s → n < s.progress.number → ComesAs (coming.Old answer.Stale) v m nonce
lower_comes v s m nonce n e is h =
    let c = comes-to v s m nonce n e is in (
      c.takes_is ∙ lower-takes s.progress.number n (last_of s) m.header.msg s.progress.is_over h,
      λ keeps. c.refusal_is ∙ if_so (nat_lt n s.progress.number) events.stale _ (is-lower s.progress.number n h),
    )

same-takes : (a n last msg : ℕ) (over b : Bool) → a ≡ n → (nat_lt last msg && not over) ≡ b
    → (nat_lt a n || (a == n && nat_lt last msg && not over)) ≡ b
same-takes a n last msg over b h k = grind (arith, h, k)

is-same : (a n : ℕ) → a ≡ n → (a == n) ≡ true
is-same a n h = grind (arith, h)

is-above : (last msg : ℕ) (over : Bool) → (nat_lt last msg && not over) ≡ true → last < msg
is-above last msg over h = grind (arith, h)

pub next_comes : (v : Service) (s : Session) (m : Parts) (nonce : List ℕ) (n : ℕ) → number_of m ≡ Some n
    → v.session ≡ Some s → s.progress.number ≡ n
    → (nat_lt (last_of s) m.header.msg && not s.progress.is_over) ≡ true
    → ComesAs coming.Follows v m nonce
next_comes v s m nonce n e is h k =
    let c = comes-to v s m nonce n e is in (
      c.takes_is ∙ same-takes s.progress.number n (last_of s) m.header.msg s.progress.is_over true h k,
      subst (λ o. IsSomeAnd o (λ (t : Session). (last_of t < m.header.msg)
          × (after v (arrival m nonce) ≡ accepts v t m nonce))) (sym is) (
            is-above (last_of s) m.header.msg s.progress.is_over k,
            c.after_is ∙ if_so _ (accepts v s m nonce) (opens_session v n m nonce) (is-same s.progress.number n h),
          ),
    )

-- whether it is new, by how far the session is
pub new_by : (s : Session) (m : Parts) (p : ServiceProgress) (msg : ℕ) (b : Bool) → s.progress ≡ p → m.header.msg ≡ msg
    → (nat_lt p.standing.last msg && not p.is_over) ≡ b
    → (nat_lt (last_of s) m.header.msg && not s.progress.is_over) ≡ b
new_by s m p msg b e f h =
    ap (λ (q : ServiceProgress). nat_lt q.standing.last m.header.msg && not q.is_over) e
    ∙ ap (λ n. nat_lt p.standing.last n && not p.is_over) f ∙ h

pub old_comes : (v : Service) (s : Session) (m : Parts) (nonce : List ℕ) (n : ℕ) (a : ServerAnswer) → number_of m ≡ Some n
    → v.session ≡ Some s → s.progress.number ≡ n
    → (nat_lt (last_of s) m.header.msg && not s.progress.is_over) ≡ false
    → (KeepsReply v → Tells a v (old_message s n m (reply_of v))) → ComesAs (coming.Old a) v m nonce
old_comes v s m nonce n a e is h k told =
    let c = comes-to v s m nonce n e is in (
      c.takes_is ∙ same-takes s.progress.number n (last_of s) m.header.msg s.progress.is_over false h k,
      λ keeps. subst (Tells a v) (sym c.refusal_is) (told keeps),
    )

-- ---- what is taken

pub next_taken : (v : Service) (e : Arrival) (w : Service) → takes v e ≡ true → after v e ≡ w → w ≡ next v e
unfolding next
next_taken v e w t a = sym (if_so (takes v e) (after v e) v t ∙ a)

pub next_old : (v : Service) (e : Arrival) → takes v e ≡ false → v ≡ next v e
unfolding next
next_old v e t = sym (if_not (takes v e) (after v e) v t)

-- the answer, where a message is sent or none is
reply-is : (w : Service) (d : ServerChanges) (s : Session) (before : Option Parts) → w.session ≡ Some s
    → s.progress.answered ≡ is_some d.sent → w.sent ≡ option_or (option_map message_in d.sent) before
    → Tells (answer_with d.sent) w (sent_or_ended (reply_of w))
reply-is w d s before is answered sent = by-sent d.sent refl
  where
    told : (o : Option LastMessage) → d.sent ≡ o → is_answered w.session ≡ is_some o
    told o e = ap is_answered is ∙ answered ∙ ap is_some e

    by-sent : (o : Option LastMessage) → d.sent ≡ o
        → Tells (cond (is_some o) answer.Sent answer.Ended) w (sent_or_ended (reply_of w))
    by-sent None e = ap sent_or_ended (if_not (is_answered w.session) w.sent None (told None e))
    by-sent (Some m) e =
        let is_m : w.sent ≡ Some m.message = sent ∙ ap (λ o. option_or (option_map message_in o) before) e in
        let reply : reply_of w ≡ Some m.message =
        if_so (is_answered w.session) w.sent None (told (Some m) e) ∙ is_m in
        subst (λ o. IsSomeAnd o (λ n. sent_or_ended (reply_of w) ≡ events.sent n)) (sym is_m)
        (ap sent_or_ended reply)

pub taken_tells : (v w : Service) (e : Arrival) (d : ServerChanges) (s : Held) (before : Option Parts) → takes v e ≡ true
    → after v e ≡ w → w.session ≡ Some (session_in s) → IsReply s.progress d.sent
    → w.sent ≡ option_or (option_map message_in d.sent) before
    → Tells (answer_with d.sent) w (answer_now v e)
unfolding answer_now taken_answer
taken_tells v w e d s before t a is reply sent =
    subst (Tells (answer_with d.sent) w)
    (sym (if_so (takes v e) (sent_or_ended (reply_of (after v e))) (refusal v e (reply_of v)) t
    ∙ ap (λ x. sent_or_ended (reply_of x)) a))
    (reply-is w d (session_in s) before is reply.answered sent)

pub old_tells : (v : Service) (e : Arrival) (a : ServerAnswer) → takes v e ≡ false → Tells a v (refusal v e (reply_of v))
    → Tells a v (answer_now v e)
unfolding answer_now
old_tells v e a t told = subst (Tells a v) (sym (if_not (takes v e) (taken_answer v e) _ t)) told

-- ---- what a draft makes of a server

sent-over : (a b : Option LastMessage)
    → option_map message_in (option_or a b) ≡ option_or (option_map message_in a) (option_map message_in b)
sent-over None b = refl
sent-over (Some m) b = refl

pub taken_up : (job : Job) (plan : Plan) (run : Run) (d : ServerChanges) (s : Held) (k : Known) (old sent : Option LastMessage)
    → plan.job ≡ with_account job (unwrap_or d.account job.account) → run ≡ d.run → sent ≡ option_or d.sent old
    → service_of plan.job run s.outbox.queue k (Some (session_in s)) (option_map message_in sent)
    ≡ drafted job d s k (option_map message_in old)
taken_up job plan run d s k old sent e f g =
    let o : Option Session = Some (session_in s) in
    let q : List Waiting = s.outbox.queue in
    ap (λ j. service_of j run q k o (option_map message_in sent)) e
    ∙ ap (λ r. service_of (with_account job (unwrap_or d.account job.account)) r q k o (option_map message_in sent)) f
    ∙ ap (λ m. service_of (with_account job (unwrap_or d.account job.account)) d.run q k o m)
    (ap (option_map message_in) g ∙ sent-over d.sent old)

-- ---- what holds of it

pub reached_next : (v w : Service) (e : Arrival) → MessagesLeadTo v → w ≡ next v e → MessagesLeadTo w
reached_next v w e r is = record {
  job = r.job;
  arrivals = r.arrivals ++ e ∷ [];
  reached = one-more (first_service r.job) r.arrivals ∙ ap (λ x. next x e) r.reached ∙ sym is;
}
  where
    one-more : (u : Service) (es : List Arrival) → state_from u (es ++ e ∷ []) ≡ next (state_from u es) e
    one-more u [] = refl
    one-more u (a ∷ es) = one-more (next u a) es

pub order_reached : (v : Service) (s : Session) → MessagesLeadTo v → v.session ≡ Some s → AreInOrder s.sent
order_reached v s r is =
    subst (λ o. AreInOrder (sent_in o)) is
    (subst (λ (w : Service). AreInOrder (sent_in w.session)) r.reached (sent_in_order r.job r.arrivals))

same-job : (job : Job) (account : Account) → IsNumberedJob job → IsNumberedJob (with_account job account)
same-job job account h = record { filled = h.filled; numbered = h.numbered }

spelled-over : (a b : Option LastMessage) → IfSome a IsSpelled → IfSome b IsSpelled → IfSome (option_or a b) IsSpelled
spelled-over None b h k = k
spelled-over (Some m) b h k = h

pub sound_draft : (old new : Inside) (d : ServerChanges) (s : Held) (m : Parts) (nonce : List ℕ) → IsConsistent old
    → new.plan.job ≡ with_account old.plan.job (unwrap_or d.account old.plan.job.account) → new.run ≡ d.run
    → new.session ≡ Some s → new.sent ≡ option_or d.sent old.sent
    → Stands old.plan.job d.run s.outbox s.gathering → IsReply s.progress d.sent
    → server_of new ≡ next (server_of old) (arrival m nonce) → IsReadyMessage m nonce → IsConsistent new
sound_draft old new d s m nonce h job run session sent stands reply is ready =
    let account : Account = unwrap_or d.account old.plan.job.account in
    let numbered : IsNumberedJob new.plan.job =
    subst IsNumberedJob (sym job) (same-job old.plan.job account h.job) in
    let place : IsWithinJob new.plan.job new.run =
    subst (λ j. IsWithinJob j new.run) (sym job)
    (subst (IsWithinJob (with_account old.plan.job account)) (sym run)
    (record { within = stands.place.within; behind = stands.place.behind })) in
    let of_session : Stands new.plan.job new.run s.outbox s.gathering = record {
      place = place;
      commands = stands.commands;
      max_obj = stands.max_obj ∙ ap (λ (j : Job). j.limits.max_obj) (sym job);
    } in
    record {
      job = numbered;
      place = place;
      session = subst (λ o. IfSome o (λ (t : Held). Stands new.plan.job new.run t.outbox t.gathering)) (sym session)
          of_session;
      sent = subst (λ o. IfSome o IsSpelled) (sym sent) (spelled-over d.sent old.sent reply.spelled h.sent);
      ready = subst IsReadyService (sym is) (stays_ready (server_of old) (arrival m nonce) h.ready ready);
      reached = reached_next (server_of old) (server_of new) (arrival m nonce) h.reached is;
      reply = keeps;
    }
  where
    some-over : (a b : Option LastMessage) → is_some a ≡ true → is_some (option_map message_in (option_or a b)) ≡ true
    some-over None b e = absurd (cc)
    some-over (Some x) b e = refl

    keeps : KeepsReply (server_of new)
    keeps e =
        let answered : s.progress.answered ≡ true = sym (ap (λ o. is_answered (option_map session_in o)) session) ∙ e in
        ap (λ o. is_some (option_map message_in o)) sent ∙ some-over d.sent old.sent (sym reply.answered ∙ answered)

-- ---- what a message of the session can be taken with

abbrev IsProgressReady : Session → Type 0
IsProgressReady s = IsReadyProgress s.progress

abbrev IsQueueReady : Option Held → Type 0
IsQueueReady o = AreReadyWaiting (queue_in o)

pub can_follow : (c : Inside) (s : Held) (m : Parts) → IsConsistent c → c.session ≡ Some s
    → last_of (session_in s) < m.header.msg → CanAccept c.plan.job c.run s m.header.msg
can_follow c s m h is above =
    let stands = subst (λ o. IfSome o (λ (t : Held). Stands c.plan.job c.run t.outbox t.gathering)) is h.session in
    let ready = subst (λ o. IfSome (option_map session_in o) (λ (t : Session). IsProgressReady t)) is h.ready.session in
    let own = ready.own in
    record {
      holds = record {
        place = h.place;
        queue = subst (λ o. IsQueueReady o) is h.ready.queue;
        commands = stands.commands;
        order = order_reached (server_of c) (session_in s) h.reached (ap (option_map session_in) is);
      };
      max_obj = stands.max_obj;
      numbered = h.job;
      packages = h.ready.job;
      limits = h.ready.limits;
      named = h.ready.account;
      number = ready.number;
      own = omega (arith, own, above);
      room = ready.room;
    }

-- a server that has taken a message
pub record Taken (old new : Inside) (d : ServerChanges) (m : Parts) (nonce : List ℕ) : Type 0 where
  pub sound : IsConsistent new
  pub next_is : server_of new ≡ next (server_of old) (arrival m nonce)
  pub told : Tells (answer_with d.sent) (server_of new) (answer_now (server_of old) (arrival m nonce))

pub taken : (old new : Inside) (d : ServerChanges) (s : Held) (m : Parts) (nonce : List ℕ) → IsConsistent old
    → IsReadyMessage m nonce
    → new.plan.job ≡ with_account old.plan.job (unwrap_or d.account old.plan.job.account) → new.run ≡ d.run
    → new.session ≡ Some s → new.sent ≡ option_or d.sent old.sent
    → Stands old.plan.job d.run s.outbox s.gathering → IsReply s.progress d.sent
    → takes (server_of old) (arrival m nonce) ≡ true
    → after (server_of old) (arrival m nonce) ≡ server_of new → Taken old new d m nonce
taken old new d s m nonce h ready job run session sent stands reply t is =
    let e = arrival m nonce in
    let next_is = next_taken (server_of old) e (server_of new) t is in
    record {
      sound = sound_draft old new d s m nonce h job run session sent stands reply next_is ready;
      next_is = next_is;
      told = taken_tells (server_of old) (server_of new) e d s (option_map message_in old.sent) t is
          (ap (option_map session_in) session) reply
          (ap (option_map message_in) sent ∙ sent-over d.sent old.sent);
    }

pub told_as : (old new : Inside) (d : ServerChanges) (v : Service) (m : Parts) (nonce : List ℕ) (a : ServerAnswer)
    → Taken old new d m nonce → server_of old ≡ v → a ≡ answer_with d.sent
    → Tells a (server_of new) (answer_now v (arrival m nonce))
told_as old new d v m nonce a t view e =
    subst (λ x. Tells x (server_of new) (answer_now v (arrival m nonce))) (sym e)
    (subst (λ x. Tells (answer_with d.sent) (server_of new) (answer_now x (arrival m nonce))) view t.told)

at-new : (c new : Inside) (t : Held) (d : ServerChanges)
    → new.plan.job ≡ with_account c.plan.job (unwrap_or d.account c.plan.job.account) → new.run ≡ d.run
    → new.session ≡ Some t → new.sent ≡ option_or d.sent c.sent
    → server_of new ≡ drafted c.plan.job d t new.findings (option_map message_in c.sent)
at-new c new t d job run session sent =
    ap (λ (o : Option Held). service_of new.plan.job new.run (queue_in o) new.findings (option_map session_in o)
    (option_map message_in new.sent)) session
    ∙ taken_up c.plan.job new.plan new.run d t new.findings c.sent new.sent job run sent

-- a message of the session
record Followed (v : Service) (s : Session) (m : Parts) (nonce : List ℕ) : Type 0 where
  takes_it : takes v (arrival m nonce) ≡ true
  above : last_of s < m.header.msg
  after_is : after v (arrival m nonce) ≡ accepts v s m nonce

followed : (c : Inside) (s : Held) (v : Service) (m : Parts) (nonce : List ℕ) → server_of c ≡ v → c.session ≡ Some s
    → ComesAs coming.Follows v m nonce → Followed (server_of c) (session_in s) m nonce
followed c s v m nonce view is comes =
    let at = subst (λ w. ComesAs coming.Follows w m nonce) (sym view) comes in
    let x = subst (λ (o : Option Held). IsSomeAnd (option_map session_in o) (λ (t : Session).
    (last_of t < m.header.msg) × (after (server_of c) (arrival m nonce) ≡ accepts (server_of c) t m nonce))) is at.1 in
    record { takes_it = at.0; above = x.0; after_is = x.1 }

at-session : (c : Inside) (s : Held) → c.session ≡ Some s
    → at_work c.plan.job c.run s.progress s.outbox s.gathering c.findings (option_map message_in c.sent) ≡ server_of c
at-session c s is =
    ap (λ (o : Option Held). service_of c.plan.job c.run (queue_in o) c.findings (option_map session_in o)
    (option_map message_in c.sent)) (sym is)

pub follow_taken : (c new : Inside) (s t : Held) (d : ServerChanges) (v : Service) (m : Parts) (nonce : List ℕ) → IsConsistent c
    → IsReadyMessage m nonce → server_of c ≡ v → c.session ≡ Some s → ComesAs coming.Follows v m nonce
    → new.plan.job ≡ with_account c.plan.job (unwrap_or d.account c.plan.job.account) → new.run ≡ d.run
    → new.session ≡ Some t → new.sent ≡ option_or d.sent c.sent
    → Stands c.plan.job d.run t.outbox t.gathering → IsReply t.progress d.sent
    → drafted c.plan.job d t new.findings (option_map message_in c.sent)
    ≡ accepts (at_work c.plan.job c.run s.progress s.outbox s.gathering c.findings (option_map message_in c.sent))
    (session_in s) m nonce
    → Taken c new d m nonce
follow_taken c new s t d v m nonce h ready view is comes job run session sent stands reply state =
    let f = followed c s v m nonce view is comes in
    taken c new d t m nonce h ready job run session sent stands reply f.takes_it
    (f.after_is
    ∙ sym (at-new c new t d job run session sent ∙ state
    ∙ ap (λ w. accepts w (session_in s) m nonce) (at-session c s is)))

pub follow_above : (c : Inside) (s : Held) (v : Service) (m : Parts) (nonce : List ℕ) → IsConsistent c → server_of c ≡ v
    → c.session ≡ Some s → ComesAs coming.Follows v m nonce → CanAccept c.plan.job c.run s m.header.msg
follow_above c s v m nonce h view is comes = can_follow c s m h is (followed c s v m nonce view is comes).above

-- ---- another session

pub begins_is : (v w : Service) (n : ℕ) → w.job ≡ v.job → w.queue ≡ []
    → w.packages ≡ (if is_some v.runs_in then [] else v.job.packages) → w.newest ≡ [] → w.runs_in ≡ v.runs_in
    → w.told ≡ v.told → w.alerts ≡ v.alerts → w.session ≡ Some (first_session v.job.account n) → w.sent ≡ v.sent
    → w ≡ begins v n
begins_is v w n job queue packages newest runs told alerts session sent =
    ap (λ x. record w { job = x }) job
    ∙ ap (λ x. record w { job = v.job; queue = x }) queue
    ∙ ap (λ x. record w { job = v.job; queue = []; packages = x }) packages
    ∙ ap (λ x. record (begins v n) {
      newest = x;
      runs_in = w.runs_in;
      told = w.told;
      alerts = w.alerts;
      session = w.session;
      sent = w.sent;
    }) newest
    ∙ ap (λ x. record (begins v n) {
      runs_in = x;
      told = w.told;
      alerts = w.alerts;
      session = w.session;
      sent = w.sent;
    }) runs
    ∙ ap (λ x. record (begins v n) { told = x; alerts = w.alerts; session = w.session; sent = w.sent }) told
    ∙ ap (λ x. record (begins v n) { alerts = x; session = w.session; sent = w.sent }) alerts
    ∙ ap (λ x. record (begins v n) { session = x; sent = w.sent }) session
    ∙ ap (λ x. record (begins v n) { sent = x }) sent

pub begin_taken : (c new : Inside) (first t : Held) (begun : Run) (d : ServerChanges) (v : Service) (n : ℕ)
    (m : Parts) (nonce : List ℕ) → IsConsistent c → IsReadyMessage m nonce → server_of c ≡ v
    → ComesAs (coming.Begins n) v m nonce
    → session_in first ≡ first_session c.plan.job.account n → first.outbox.queue ≡ []
    → drop begun.next c.plan.job.packages ≡ (if is_some c.run.runs_in then [] else c.plan.job.packages)
    → newest_of c.plan.job.packages begun ≡ [] → begun.runs_in ≡ c.run.runs_in
    → new.plan.job ≡ with_account c.plan.job (unwrap_or d.account c.plan.job.account) → new.run ≡ d.run
    → new.session ≡ Some t → new.sent ≡ option_or d.sent c.sent
    → Stands c.plan.job d.run t.outbox t.gathering → IsReply t.progress d.sent
    → drafted c.plan.job d t new.findings (option_map message_in c.sent)
    ≡ accepts (at_work c.plan.job begun first.progress first.outbox first.gathering c.findings
    (option_map message_in c.sent)) (session_in first) m nonce
    → Taken c new d m nonce
begin_taken c new first t begun d v n m nonce h ready view comes is empty packages newest runs job run session sent
    stands reply state =
    let at = subst (λ w. ComesAs (coming.Begins n) w m nonce) (sym view) comes in
    let w : Service = at_work c.plan.job begun first.progress first.outbox first.gathering c.findings
    (option_map message_in c.sent) in
    let begins_so : w ≡ begins (server_of c) n =
    begins_is (server_of c) w n refl empty packages newest runs refl refl (ap Some is) refl in
    taken c new d t m nonce h ready job run session sent stands reply at.0
    (at.1
    ∙ sym (at-new c new t d job run session sent ∙ state ∙ ap (λ x. accepts x (session_in first) m nonce) begins_so
    ∙ ap (λ x. accepts (begins (server_of c) n) x m nonce) is))

-- ---- a new server

-- how far its job is
abbrev pub first_run : Run
first_run = record { next = 0; queued = false; runs_in = None }

abbrev pub first_known : ℕ → Known
first_known commands = record { told = replicate commands untold; alerts = [] }

first-is : (job : Job) (k : Known) (commands : ℕ) → k ≡ first_known commands
    → commands ≡ commands_in (all_entries job.packages)
    → service_of job first_run [] k None None ≡ first_service job
first-is job k commands e many =
    ap (λ x. service_of job first_run [] x None None) (e ∙ ap first_known many)

pub new_sound : (c : Inside) (commands : ℕ) → IsSoundJob c.plan.job → c.run ≡ first_run → c.session ≡ None
    → c.sent ≡ None → c.findings ≡ first_known commands → commands ≡ commands_in (all_entries c.plan.job.packages)
    → IsConsistent c
new_sound c commands sound run session sent known many =
    let is : server_of c ≡ first_service c.plan.job =
    ap (λ r. service_of c.plan.job r (queue_in c.session) c.findings (option_map session_in c.session)
    (option_map message_in c.sent)) run
    ∙ ap (λ (o : Option Held). service_of c.plan.job first_run (queue_in o) c.findings (option_map session_in o)
    (option_map message_in c.sent)) session
    ∙ ap (λ (o : Option LastMessage). service_of c.plan.job first_run [] c.findings None (option_map message_in o))
    sent
    ∙ first-is c.plan.job c.findings commands known many in
    record {
      job = record { filled = sound.filled; numbered = sound.numbered };
      place = subst (IsWithinJob c.plan.job) (sym run) (record { within = omega arith; behind = λ e. absurd (cc) });
      session = subst (λ o. IfSome o (λ (t : Held). Stands c.plan.job c.run t.outbox t.gathering)) (sym session) tt;
      sent = subst (λ o. IfSome o IsSpelled) (sym sent) tt;
      ready = subst IsReadyService (sym is) (first_is_ready c.plan.job sound);
      reached = record { job = c.plan.job; arrivals = []; reached = sym is };
      reply = subst KeepsReply (sym is) (λ e. absurd (cc));
    }
