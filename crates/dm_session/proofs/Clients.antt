-- A client's calls, as steps of its machine.
use Rattle.std.proofs.Common.{◌≡◌, ◌<◌, ◌^◌, ℕ, Bool, true, false, cond, List, [], length, refl, sym, ◌∙◌, ap}
use Rattle.std.proofs.Common.{subst, None, Some, Ok}
use Rattle.std.specs.Prelude.{Option, Result, IfOk, IfSome, IsSomeAnd, option_map, nat_lt}
use Rattle.std.specs.Option.{option_or}
use Rattle.syncml_types.specs.Message.{Parts}
use Rattle.wbxml_tokens.specs.declared.reason.Refusal.{Refusal}
use Rattle.dm_tree.specs.declared.nodes.Stamp.{Stamp}
use Rattle.dm_tree.specs.Nodes.{IsStamp}
use Rattle.dm_pack.specs.Entries.{Entry}
use Rattle.dm_atomic.specs.declared.engine.Engine.{Engine}
use Rattle.dm_atomic.specs.Run.{State, abandoned}
use Rattle.dm_atomic.specs.Engine.{state_of, IsSoundEngine}
use Rattle.dm_atomic.specs.Marks.{whole_of, past_of, no_past, LeavesNone}
use Rattle.dm_atomic.specs.Marks as engine
use Rattle.dm_atomic.specs.Updates.{clock_of, max_obj_of, TellsStarted}
use Rattle.dm_ends.specs.declared.farewells.LastMessage.{LastMessage}
use Rattle.dm_machine.specs.declared.kinds.Initiator.{Initiator}
use Rattle.dm_machine.specs.Machine.{Machine, Session}
use Rattle.dm_machine.specs.Opening.{first_package}
use Rattle.dm_machine.specs.Sending.{sends}
use Rattle.dm_machine.specs.Messages.{goes_on, accepts, account_at, first_progress, begins}
use Rattle.dm_machine.specs.Events as events
use Rattle.dm_machine.specs.Events.{Event, message, opened, takes, message_outcome, outcome_machine}
use Rattle.dm_machine.specs.History.{answer_now, next, kept_in}
use Rattle.dm_machine.specs.Ready.{IsReadyMachine, IsReadyMessage, IsReadyEvent}
use Rattle.dm_machine.specs.Laws.{IsSteady}
use Rattle.dm_machine.proofs.StaysReady.{stays_ready}
use Rattle.dm_machine.proofs.Steady.{stays_steady}
use Rattle.dm_machine.proofs.StaysSending.{apart}
use Rattle.dm_machine.proofs.StaysWaiting.{begins_ready}
use Rattle.dm_session.specs.declared.answers.Answer.{Answer}
use Rattle.dm_session.specs.declared.client.Client.TheInside.{Inside}
use Rattle.dm_session.specs.declared.drafts.ClientChanges.{ClientChanges}
use Rattle.dm_session.specs.declared.drafts.Next.{Next}
use Rattle.dm_session.specs.declared.drafts.Next.TheVariants as drafts
use Rattle.dm_session.specs.declared.rest.Rest.{Rest}
use Rattle.dm_session.specs.declared.rest.Session.{Session as Held}
use Rattle.dm_session.specs.Inside as inside
use Rattle.dm_session.specs.Inside.{CanWorkOn, IsSpelled, session_in}
use Rattle.dm_session.specs.View.{WholeMachine, Tells}
use Rattle.dm_session.proofs.Closed.{closed_behind}
use Rattle.dm_session.specs.Working.{outcome, rest_behind, rest_told, begun_rest, account_behind}
use Rattle.dm_session.specs.Working.{drafted, IsNextSpelled}

-- ---- an engine that is as it was

abbrev seen_as : engine.Whole → Stamp → List Entry → Rest → WholeMachine
seen_as w stamp q r = record {
  machine = record {
    limits = r.limits;
    clock = stamp;
    engine = w.state;
    queue = q;
    accounts = r.accounts;
    session = option_map session_in r.session;
    begun = r.begun;
    results = r.results;
    resp_uri = r.resp_uri;
    farewell = option_map inside.message_in r.farewell;
  };
  ids = w.ids;
  base_ids = w.base_ids;
}

pub same_client : (e f : Engine) (q p : List Entry) (r : Rest) → whole_of f ≡ whole_of e → clock_of f ≡ clock_of e
    → p ≡ q
    → seen_as (whole_of f) (clock_of f) p r ≡ seen_as (whole_of e) (clock_of e) q r
same_client e f q p r w k h =
    ap (λ x. seen_as x (clock_of f) p r) w ∙ ap (λ x. seen_as (whole_of e) x p r) k
    ∙ ap (λ x. seen_as (whole_of e) (clock_of e) x r) h

pub same_machine : (e f : Engine) (q : List Entry) (r : Rest) → whole_of f ≡ whole_of e → clock_of f ≡ clock_of e
    → inside.machine_of f q r ≡ inside.machine_of e q r
same_machine e f q r w k = ap (λ (x : WholeMachine). x.machine) (same_client e f q q r w k refl)

-- ---- a message that is new

machine_is : (c : Machine) (n : Next) → outcome_machine (outcome c n) ≡ c
machine_is c (drafts.GoesOn s) = refl
machine_is c (drafts.Ends end farewell) = refl

next_if : (b : Bool) (c d : Machine) → b ≡ true → cond b d c ≡ d
next_if true c d e = refl
next_if false c d e = absurd (cc)

answer_if : (b : Bool) (a d : events.Answer) → b ≡ true → cond b d a ≡ d
answer_if true a d e = refl
answer_if false a d e = absurd (cc)

came_to : (c : Machine) (o : Option Session) (s : Session) (m : Parts) (nonce : List ℕ) → o ≡ Some s
    → message_outcome c o m nonce ≡ accepts c s.progress m nonce
came_to c o s m nonce e = ap (λ x. message_outcome c x m nonce) e

pub accepted_next : (c d : Machine) (s : Session) (n : Next) (m : Parts) (nonce : List ℕ)
    → takes c (message (Ok m) nonce) ≡ true
    → c.session ≡ Some s → outcome d n ≡ accepts c s.progress m nonce → d ≡ next c (message (Ok m) nonce)
unfolding next events.after
accepted_next c d s n m nonce t o e =
    sym (machine_is d n) ∙ ap outcome_machine (e ∙ sym (came_to c c.session s m nonce o))
    ∙ after_is
    ∙ sym (next_if (takes c (message (Ok m) nonce)) c (events.after c (message (Ok m) nonce)) t)
  where
    after_is : outcome_machine (message_outcome c c.session m nonce) ≡ events.after c (message (Ok m) nonce)
    after_is = refl

-- ---- what is kept with its bytes

pub sent_spelled : (r : Rest) (accounts : _) (uri : _) (n : Next) → IsNextSpelled n
    → IfSome r.session (λ (s : Held). IsSpelled s.sent)
    → IfSome (rest_behind (rest_told r accounts uri) n).session (λ (s : Held). IsSpelled s.sent)
sent_spelled r accounts uri (drafts.GoesOn s) is kept = is
sent_spelled r accounts uri (drafts.Ends end farewell) is kept = tt

or_spelled : (a b : Option LastMessage) → IfSome a IsSpelled → IfSome b IsSpelled → IfSome (option_or a b) IsSpelled
or_spelled None b x y = y
or_spelled (Some s) b x y = x

pub farewell_spelled : (r : Rest) (accounts : _) (uri : _) (n : Next) → IsNextSpelled n → IfSome r.farewell IsSpelled
    → IfSome (rest_behind (rest_told r accounts uri) n).farewell IsSpelled
farewell_spelled r accounts uri (drafts.GoesOn s) is kept = kept
farewell_spelled r accounts uri (drafts.Ends end farewell) is kept = or_spelled farewell r.farewell is kept

-- ---- what was before

pub old_answer : (c : Machine) (e : Event) (a : Answer) → takes c e ≡ false
    → Tells a c (events.refusal c e (kept_in c.session))
    → Tells a c (answer_now c e)
unfolding answer_now
old_answer c e a t rest_told =
    subst (Tells a c) (sym (refused_if (takes c e) _ (events.refusal c e (kept_in c.session)) t)) rest_told
  where
    refused_if : (b : Bool) (x y : events.Answer) → b ≡ false → cond b x y ≡ y
    refused_if true x y e = absurd (cc)
    refused_if false x y e = refl

pub old_next : (c : Machine) (e : Event) → takes c e ≡ false → c ≡ next c e
unfolding next
old_next c e t = sym (kept_if (takes c e) (events.after c e) c t)
  where
    kept_if : (b : Bool) (x y : Machine) → b ≡ false → cond b x y ≡ y
    kept_if true x y e = absurd (cc)
    kept_if false x y e = refl

-- ---- a client that can go on

pub back_goes_on : (e f : Engine) (q p : List Entry) (r : Rest) → CanWorkOn e q r → whole_of f ≡ whole_of e
    → clock_of f ≡ clock_of e
    → max_obj_of f ≡ max_obj_of e → IsSoundEngine f → p ≡ q → CanWorkOn f p r
back_goes_on e f q p r g w k m s h = record {
  engine = s;
  max_obj = m ∙ g.max_obj;
  ready = subst IsReadyMachine (sym (ap (λ (x : WholeMachine). x.machine) (same_client e f q p r w k h))) g.ready;
}

pub next_goes_on : (f : Engine) (q : List Entry) (r : Rest) (c : Machine) (e : Event) → IsSoundEngine f
    → max_obj_of f ≡ r.limits.max_obj → inside.machine_of f q r ≡ next c e → IsReadyMachine c → IsReadyEvent c e
    → CanWorkOn f q r
next_goes_on f q r c e s m is ready event = record {
  engine = s;
  max_obj = m;
  ready = subst IsReadyMachine (sym is) (stays_ready c e ready event);
}

no_session : (o : Option Held) → option_map session_in o ≡ None → o ≡ None
no_session None h = refl
no_session (Some s) h = absurd (cc)

pub steady_of : (i : Inside) → inside.IsConsistent i → IsSteady (inside.machine_of i.engine i.queue i.rest)
steady_of i s = record { started = s.told; closed = λ h. s.closed (no_session i.rest.session h) }

-- ---- the clock is set

clocked_next : (e f : Engine) (q : List Entry) (r : Rest) → whole_of f ≡ whole_of e
    → inside.machine_of f q r ≡ next (inside.machine_of e q r) (events.clock (clock_of f))
unfolding next takes events.after
clocked_next e f q r w =
    ap (λ (x : engine.Whole). record (inside.machine_of e q r) { clock = clock_of f; engine = x.state }) w

pub clocked_sound : (e f : Engine) (q : List Entry) (r : Rest)
    → inside.IsConsistent (record { engine = e; queue = q; rest = r }) → IsSoundEngine f → max_obj_of f ≡ max_obj_of e
    → whole_of f ≡ whole_of e → past_of f ≡ past_of e → LeavesNone f → IsStamp (clock_of f)
    → inside.IsConsistent (record { engine = f; queue = q; rest = r })
clocked_sound e f q r s sound m w p none_left stamp = record {
  goes_on = next_goes_on f q r (inside.machine_of e q r) (events.clock (clock_of f)) sound (m ∙ s.goes_on.max_obj)
      (clocked_next e f q r w) s.goes_on.ready stamp;
  sent = s.sent;
  farewell = s.farewell;
  settled = p ∙ s.settled;
  none_left = none_left;
  told = subst (λ (x : engine.Whole). TellsStarted x.state) (sym w) s.told;
  closed = λ h. ap (λ (x : engine.Whole). x.state.group) w ∙ s.closed h;
}

-- ---- a session that begins

abbrev with_begun : ℕ → Machine → Machine
with_begun number c = record c { begun = number; resp_uri = None; farewell = None }

abbrev begun_over : Rest → ℕ → Initiator → ℕ → Stamp → State → Machine
begun_over r account kind number stamp s =
    let d : Machine = record {
      limits = r.limits;
      clock = stamp;
      engine = s;
      queue = [];
      accounts = r.accounts;
      session = None;
      begun = r.begun;
      results = r.results;
      resp_uri = r.resp_uri;
      farewell = option_map inside.message_in r.farewell;
    } in
    let first = first_package d kind in
    sends (record d { queue = first; begun = number; resp_uri = None; farewell = None })
    (first_progress account kind number first)
    (account_at d account)

abbrev opened_as : Engine → Rest → ℕ → Initiator → ℕ → Machine
opened_as f r account kind number =
    let first = first_package (inside.machine_of f [] r) kind in
    sends (inside.machine_of f first r) (first_progress account kind number first)
    (account_at (inside.machine_of f [] r) account)

begun_same : (f : Engine) (r : Rest) (account : ℕ) (kind : Initiator) (number : ℕ)
    → with_begun number (opened_as f r account kind number) ≡ begun_over r account kind number (clock_of f) (state_of f)
unfolding sends
begun_same f r account kind number = refl

begins_same : (e : Engine) (q : List Entry) (r : Rest) (account : ℕ) (kind : Initiator) (number : ℕ)
    → begins (inside.machine_of e q r) account kind number
    ≡ begun_over r account kind number (clock_of e) (abandoned (state_of e))
unfolding begins
begins_same e q r account kind number = refl

pub begun_is : (e f g : Engine) (q p : List Entry) (r : Rest) (account : ℕ) (kind : Initiator) (number : ℕ) (first : Held)
    → state_of f ≡ abandoned (state_of e) → clock_of f ≡ clock_of e → whole_of g ≡ whole_of f → clock_of g ≡ clock_of f
    → inside.machine_of f p (record r { session = Some first }) ≡ opened_as f r account kind number
    → inside.machine_of g p (begun_rest r number first) ≡ begins (inside.machine_of e q r) account kind number
begun_is e f g q p r account kind number first s k w j is =
    same_machine f g p (begun_rest r number first) w j ∙ ap (with_begun number) is ∙ begun_same f r account kind number
    ∙ ap (λ x. begun_over r account kind number x (state_of f)) k ∙ ap (begun_over r account kind number (clock_of e)) s
    ∙ sym (begins_same e q r account kind number)

begun_takes : (c : Machine) (account : ℕ) (kind : Initiator) (number : ℕ) → nat_lt c.begun number ≡ true
    → takes c (opened account kind number) ≡ true
unfolding takes
begun_takes c account kind number t = t

pub begun_next : (c d : Machine) (account : ℕ) (kind : Initiator) (number : ℕ) → nat_lt c.begun number ≡ true
    → d ≡ begins c account kind number → d ≡ next c (opened account kind number)
unfolding next events.after
begun_next c d account kind number t is =
    is
    ∙ sym (next_if (takes c (opened account kind number)) c (begins c account kind number)
    (begun_takes c account kind number t))

pub begun_answer : (c d : Machine) (account : ℕ) (kind : Initiator) (number : ℕ) (s : Session) → nat_lt c.begun number ≡ true
    → d ≡ begins c account kind number → d.session ≡ Some s
    → answer_now c (opened account kind number) ≡ events.sent s.sent
unfolding answer_now events.taken_answer
begun_answer c d account kind number s t is o =
    answer_if (takes c (opened account kind number)) _ (events.sent_in (begins c account kind number).session)
    (begun_takes c account kind number t)
    ∙ ap events.sent_in (sym (ap (λ (x : Machine). x.session) is) ∙ o)

-- ---- bytes that were read

pub read_as : {T : Type 0} (res : Result Answer T) (d c : Machine) (x y : Result Parts Refusal) (nonce : List ℕ) → x ≡ y
    → IfOk res (λ a. Tells a d (answer_now c (message y nonce)))
    → IfOk res (λ a. Tells a d (answer_now c (message x nonce)))
read_as res d c x y nonce e = subst (λ z. IfOk res (λ a. Tells a d (answer_now c (message z nonce)))) (sym e)

pub read_untaken : (c : Machine) (x y : Result Parts Refusal) (nonce : List ℕ) (P : Type 0) → x ≡ y
    → (takes c (message y nonce) ≡ false → P) → takes c (message x nonce) ≡ false → P
read_untaken c x y nonce P e = subst (λ z. takes c (message z nonce) ≡ false → P) (sym e)

-- ---- a session that has begun

pub begun_lives : (g : Engine) (q : List Entry) (r x : Rest) (number : ℕ) (first : Held) (c : Machine) (account : ℕ)
    (kind : Initiator)
    → x ≡ begun_rest r number first → IsSoundEngine g → max_obj_of g ≡ r.limits.max_obj → IsSpelled first.sent
    → inside.machine_of g q (begun_rest r number first) ≡ begins c account kind number → IsReadyMachine c
    → account < length c.accounts → number < 2 ^ 32 → past_of g ≡ no_past → LeavesNone g → TellsStarted (state_of g)
    → inside.IsConsistent (record { engine = g; queue = q; rest = x })
begun_lives g q r x number first c account kind e s m spelled is ready low small settled none_left tells =
    subst (λ y. inside.IsConsistent (record { engine = g; queue = q; rest = y })) (sym e)
    (record {
      goes_on = record {
        engine = s;
        max_obj = m;
        ready = subst IsReadyMachine (sym is) (begins_ready c account kind number (apart c ready) low small);
      };
      sent = spelled;
      farewell = tt;
      settled = settled;
      none_left = none_left;
      told = tells;
      closed = λ h. absurd (cc);
    })

pub begun_machine_is : (g : Engine) (q : List Entry) (r x : Rest) (number : ℕ) (first : Held) (c d : Machine)
    (account : ℕ) (kind : Initiator)
    → x ≡ begun_rest r number first → inside.machine_of g q (begun_rest r number first) ≡ begins c account kind number
    → c ≡ d
    → inside.machine_of g q x ≡ begins d account kind number
begun_machine_is g q r x number first c d account kind e is same =
    ap (inside.machine_of g q) e ∙ is ∙ ap (λ y. begins y account kind number) same

pub begun_some : (x r : Rest) (number : ℕ) (first : Held) (a : events.Answer) → x ≡ begun_rest r number first
    → a ≡ events.sent (session_in first).sent
    → IsSomeAnd (option_map session_in x.session) (λ (s : Session). a ≡ events.sent s.sent)
begun_some x r number first a e is =
    subst (λ (y : Rest). IsSomeAnd (option_map session_in y.session) (λ (s : Session). a ≡ events.sent s.sent)) (sym e)
    is

-- ---- a message that was accepted

pub drafted_lives : (f g : Engine) (q : List Entry) (r x : Rest) (at : ℕ) (d : ClientChanges) (c : Machine) (s : Session)
    (m : Parts) (nonce : List ℕ)
    → x ≡ drafted r at d → takes c (message (Ok m) nonce) ≡ true → c.session ≡ Some s
    → outcome (inside.machine_of f q (drafted r at d)) d.next ≡ accepts c s.progress m nonce
    → whole_of g ≡ whole_of f → clock_of g ≡ clock_of f → IsSoundEngine g → max_obj_of g ≡ r.limits.max_obj
    → IsReadyMachine c → IsReadyMessage m nonce → IsNextSpelled d.next
    → IfSome r.session (λ (y : Held). IsSpelled y.sent)
    → IfSome r.farewell IsSpelled → past_of g ≡ no_past → LeavesNone g → IsSteady c
    → inside.IsConsistent (record { engine = g; queue = q; rest = x })
drafted_lives f g q r x at d c s m nonce e t o is w k sound obj ready event spelled sent farewell settled none_left
    steady =
    subst (λ y. inside.IsConsistent (record { engine = g; queue = q; rest = y })) (sym e)
    (record {
      goes_on = next_goes_on g q (drafted r at d) c (message (Ok m) nonce) sound (obj ∙ limits_stay d.next) goes
          ready event;
      sent =
          sent_spelled r (account_behind r.accounts at d.account) (option_or d.resp_uri r.resp_uri) d.next spelled sent;
      farewell =
          farewell_spelled r (account_behind r.accounts at d.account) (option_or d.resp_uri r.resp_uri) d.next spelled
          farewell;
      settled = settled;
      none_left = none_left;
      told = subst (λ (y : Machine). TellsStarted y.engine) (sym goes)
          (stays_steady c (message (Ok m) nonce) steady).started;
      closed = λ h. ap (λ (y : engine.Whole). y.state.group) w
          ∙ closed_behind c s.progress m nonce f q
          (rest_told r (account_behind r.accounts at d.account) (option_or d.resp_uri r.resp_uri))
          d.next is h;
    })
  where
    goes : inside.machine_of g q (drafted r at d) ≡ next c (message (Ok m) nonce)
    goes =
        same_machine f g q (drafted r at d) w k
        ∙ accepted_next c (inside.machine_of f q (drafted r at d)) s d.next m nonce t o is

    limits_stay : (n : Next) → r.limits.max_obj
        ≡ (rest_behind (rest_told r (account_behind r.accounts at d.account) (option_or d.resp_uri r.resp_uri))
        n).limits.max_obj
    limits_stay (drafts.GoesOn y) = refl
    limits_stay (drafts.Ends end y) = refl
