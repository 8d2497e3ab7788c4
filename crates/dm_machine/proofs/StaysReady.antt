-- A machine stays one that has nothing else to send than what can be sent.
use Rattle.std.proofs.Common.{◌≡◌, ◌<◌, ◌≤◌, ◌+◌, ◌^◌, ◌&&◌, ℕ, Bool, true, false, cond, List, [], ◌∷◌, length, set}
use Rattle.std.proofs.Common.{None, Some, refl, sym, subst, arith}
use Rattle.std.specs.Prelude.{Option, Ok, Err, IfSome}
use Rattle.std.specs.Option.{option_or}
use Rattle.std.specs.List.{list_any}
use Rattle.std.proofs.lemmas.Bool.{eqb-false}
use Rattle.syncml_types.specs.Message.{Parts}
use Rattle.syncml_types.specs.Canonical.{canonical}
use Rattle.dm_auth.specs.declared.accounts.Account.{Account}
use Rattle.dm_headers.specs.declared.checks.Side.TheVariants.{Server}
use Rattle.dm_headers.specs.Checks.{passes}
use Rattle.dm_headers.specs.Standings.{Heard, hears}
use Rattle.dm_atomic.specs.Run.{Next}
use Rattle.dm_pack.specs.Entries.{Entry}
use Rattle.dm_pack.proofs.Within.{fill_within}
use Rattle.dm_machine.specs.declared.kinds.End.TheVariants.{Aborted}
use Rattle.dm_machine.specs.declared.progress.Progress.{Progress}
use Rattle.dm_machine.specs.declared.progress.UpdateResult.{UpdateResult}
use Rattle.dm_machine.specs.Machine.{Session, Machine}
use Rattle.dm_machine.specs.Messages.{Outcome, ends, Waits, waits_after, account_at, closed, finished, denied, is_over}
use Rattle.dm_machine.specs.Messages.{is_abort, answered, run_of, by_header, is_last_own, accepts, ends_update, begins}
use Rattle.dm_machine.specs.Messages.{first_progress, correlator_of}
use Rattle.dm_machine.specs.Opening.{first_package}
use Rattle.dm_machine.specs.Sending.{header_from, sends}
use Rattle.dm_machine.specs.Events.{Event, clock, opened, message, loss, act, takes, message_outcome, outcome_machine}
use Rattle.dm_machine.specs.Events.{after}
use Rattle.dm_machine.specs.History.{next}
use Rattle.dm_machine.specs.Ready.{IsCorrelator, IsReadyAccount, IsReadyProgress, IsReadyMachine, IsReadyMessage}
use Rattle.dm_machine.specs.Ready.{IsReadyEvent}
use Rattle.dm_machine.specs.Laws.{StaysReady, IsShort, SendsWithinRoom}
use Rattle.dm_machine.proofs.ToldGroups.{IsReadyNext, all_append}
use Rattle.dm_machine.proofs.ToldMessages.{finished_update_ready, started_correlator_ready}
use Rattle.dm_ends.proofs.Answers.{nonce_is}
use Rattle.dm_machine.proofs.OwnFarewells.{farewell_short}
use Rattle.dm_machine.proofs.OwnHeaders.{header_ready as own_ready}
use Rattle.dm_machine.proofs.StaysSending.{IsReadyApart, apart}
use Rattle.dm_ends.proofs.Hearing.{IsReadyHeard, hears_ready}
use Rattle.dm_machine.proofs.StaysWaiting.{all_set, set_long, account_ready, IsToSend, to_send_ready, waits_after_ready}
use Rattle.dm_machine.proofs.StaysWaiting.{run_ready, answering, behind_answer, answer_to_send, closed_apart}
use Rattle.dm_machine.proofs.StaysWaiting.{IsReadyWaits, header_to_send, beginning, begins_to_send, begins_ready}

-- ---- what is heard

-- the machine with the RespURI and the account that a message leaves
abbrev pub heard_by : Machine → Progress → Parts → Heard → Machine
heard_by c p m h = record c {
  resp_uri = option_or m.header.resp_uri c.resp_uri;
  accounts = set c.accounts p.account h.account;
}

heard_apart : (c : Machine) (p : Progress) (m : Parts) (h : Heard) → IsReadyApart c → IsReadyHeard p.standing m h
    → IsReadyApart (heard_by c p m h)
heard_apart c p m h ready heard = record {
  limits = ready.limits;
  clock = ready.clock;
  engine = ready.engine;
  queue = ready.queue;
  accounts = all_set IsReadyAccount c.accounts p.account h.account ready.accounts heard.account;
  results = ready.results;
}

heard_progress : (c : Machine) (p : Progress) (m : Parts) (h : Heard) → IsReadyProgress c p
    → IsReadyProgress (heard_by c p m h) p
heard_progress c p m h is = record {
  number = is.number;
  account = let long = set_long c.accounts p.account h.account in let low = is.account in omega (arith, long, low);
  last = is.last;
  own = is.own;
  room = is.room;
  opening = is.opening;
}

abbrev pub heard_in : Machine → Progress → Parts → List ℕ → Heard
heard_in c p m nonce =
    hears Server
    (account_at (record c { resp_uri = option_or m.header.resp_uri c.resp_uri }) p.account) p.standing m nonce

heard_ready : (c : Machine) (p : Progress) (m : Parts) (nonce : List ℕ) → IsReadyApart c → IsReadyProgress c p
    → IsReadyHeard p.standing m (heard_in c p m nonce)
heard_ready c p m nonce ready is =
    hears_ready Server (account_at c p.account) p.standing m nonce
    (account_ready c p.account ready.accounts is.account) is.room

own_next : (p : Progress) → is_last_own p ≡ false → p.standing.own < 2 ^ 32 → p.standing.own + 1 < 2 ^ 32
own_next p is low =
    let other = eqb-false p.standing.own 4294967295 is in
    omega (arith, other, low)

-- ---- the message that answers

-- what goes out for a message that is answered can be sent
pub waits_ready : (c : Machine) (p : Progress) (m : Parts) (h : Heard) (nonce : List ℕ) → IsReadyApart c
    → IsReadyProgress c p
    → IsReadyMessage m nonce → IsReadyHeard p.standing m h → p.standing.own + 1 < 2 ^ 32
    → IsToSend
    (answering (heard_by c p m h) (waits_after (heard_by c p m h) p h) m h nonce
    (run_of (heard_by c p m h) h.account m h.code))
    (behind_answer (waits_after (heard_by c p m h) p h) m h nonce) h.account
waits_ready c p m h nonce ready progress is heard own =
    let d = heard_by c p m h in
    let still = heard_apart c p m h ready heard in
    answer_to_send d p (waits_after d p h) m h nonce (run_of d h.account m h.code) still
    (waits_after_ready d p m h still (heard_progress c p m h progress) is.numbers.header.msg heard) heard is
    (run_ready d h.account m nonce h.code still is) own

-- ---- how a message ends

abbrev IsReadyOutcome : Outcome → Type 0
IsReadyOutcome x = IsReadyMachine (outcome_machine x)

ready_either : (b : Bool) (x y : Outcome) → IsReadyOutcome x → IsReadyOutcome y → IsReadyOutcome (cond b x y)
ready_either true x y a b = a
ready_either false x y a b = b

closed_ready : (c : Machine) → IsReadyApart c → IsReadyMachine (closed c)
closed_ready c ready =
    let is = closed_apart c ready in
    record {
      limits = is.limits;
      clock = is.clock;
      engine = is.engine;
      queue = is.queue;
      accounts = is.accounts;
      results = is.results;
      session = tt;
    }

denied_ready : (c : Machine) (w : Waits) (m : Parts) (h : Heard) (nonce : List ℕ) → IsReadyApart c
    → IsReadyOutcome (denied c w m h nonce)
denied_ready c w m h nonce ready =
    let is = closed_apart c ready in
    record {
      limits = is.limits;
      clock = is.clock;
      engine = is.engine;
      queue = is.queue;
      accounts = is.accounts;
      results = is.results;
      session = tt;
    }

finished_ready : (c : Machine) → IsReadyApart c → IsReadyMachine (finished c)
finished_ready c ready =
    let is = closed_apart c ready in
    record {
      limits = is.limits;
      clock = is.clock;
      engine = is.engine;
      queue = is.queue;
      accounts = is.accounts;
      results = tt;
      session = tt;
    }

ran_apart : (c : Machine) (run : Next) → IsReadyApart c → IsReadyNext c.limits.max_obj run
    → IsReadyApart (record c { engine = run.state })
ran_apart c run ready ran = record {
  limits = ready.limits;
  clock = ready.clock;
  engine = ran.state;
  queue = ready.queue;
  accounts = ready.accounts;
  results = ready.results;
}

answered_ready : (c : Machine) (w : Waits) (m : Parts) (h : Heard) (nonce : List ℕ) (run : Next) → IsReadyApart c
    → IsReadyNext c.limits.max_obj run → IsToSend (answering c w m h nonce run) (behind_answer w m h nonce) h.account
    → IsReadyOutcome (answered c w m h nonce run)
answered_ready c w m h nonce run ready ran is =
    ready_either (is_over m h.code _) _ _ (finished_ready (record c { engine = run.state }) (ran_apart c run ready ran))
    (to_send_ready (answering c w m h nonce run) (behind_answer w m h nonce) h.account is)

header_ready : (c : Machine) (p : Progress) (m : Parts) (nonce : List ℕ) (h : Heard) → IsReadyApart c
    → IsReadyProgress c p → IsReadyMessage m nonce → IsReadyHeard p.standing m h → p.standing.own + 1 < 2 ^ 32
    → IsReadyOutcome (by_header (record c { resp_uri = option_or m.header.resp_uri c.resp_uri }) p m nonce h)
header_ready c p m nonce h ready progress is heard own =
    let d = heard_by c p m h in
    let w = waits_after d p h in
    let run = run_of d h.account m h.code in
    let still = heard_apart c p m h ready heard in
    let aborts = passes h.code && list_any is_abort m.body in
    ready_either h.second (denied d w m h nonce) (cond aborts (ends (closed d) Aborted) (answered d w m h nonce run))
    (denied_ready d w m h nonce still)
    (ready_either aborts (ends (closed d) Aborted) (answered d w m h nonce run) (closed_ready d still)
    (answered_ready d w m h nonce run still (run_ready d h.account m nonce h.code still is)
    (waits_ready c p m h nonce ready progress is heard own)))

last_or_header : (b : Bool) (c : Machine) (p : Progress) (m : Parts) (nonce : List ℕ) → is_last_own p ≡ b
    → IsReadyApart c
    → IsReadyProgress c p → IsReadyMessage m nonce
    → IsReadyOutcome (cond b (ends (closed (record c { resp_uri = option_or m.header.resp_uri c.resp_uri })) Aborted)
    (by_header (record c { resp_uri = option_or m.header.resp_uri c.resp_uri }) p m nonce (heard_in c p m nonce)))
last_or_header true c p m nonce last ready progress is =
    closed_ready (record c { resp_uri = option_or m.header.resp_uri c.resp_uri }) (record {
      limits = ready.limits;
      clock = ready.clock;
      engine = ready.engine;
      queue = ready.queue;
      accounts = ready.accounts;
      results = ready.results;
    })
last_or_header false c p m nonce last ready progress is =
    header_ready c p m nonce (heard_in c p m nonce) ready progress is (heard_ready c p m nonce ready progress)
    (own_next p last progress.own)

accepts_ready : (c : Machine) (p : Progress) (m : Parts) (nonce : List ℕ) → IsReadyApart c → IsReadyProgress c p
    → IsReadyMessage m nonce → IsReadyOutcome (accepts c p m nonce)
unfolding accepts
accepts_ready c p m nonce ready progress is = last_or_header (is_last_own p) c p m nonce refl ready progress is

message_ready : (c : Machine) (o : Option Session) (m : Parts) (nonce : List ℕ) → IsReadyMachine c
    → IfSome o (λ (s : Session). IsReadyProgress c s.progress) → IsReadyMessage m nonce
    → IsReadyOutcome (message_outcome c o m nonce)
message_ready c None m nonce ready session is = ready
message_ready c (Some s) m nonce ready session is = accepts_ready c s.progress m nonce (apart c ready) session is

-- ---- the clock, and the end of an update

progress_same : (c d : Machine) (p : Progress) → d.accounts ≡ c.accounts → d.queue ≡ c.queue → IsReadyProgress c p
    → IsReadyProgress d p
progress_same c d p accounts queue is = record {
  number = is.number;
  account = subst (λ (xs : List Account). p.account < length xs) (sym accounts) is.account;
  last = is.last;
  own = is.own;
  room = is.room;
  opening = subst (λ (es : List Entry). p.opening_at + p.opening_left ≤ length es) (sym queue) is.opening;
}

session_same : (c d : Machine) (o : Option Session) → d.accounts ≡ c.accounts → d.queue ≡ c.queue
    → IfSome o (λ (s : Session). IsReadyProgress c s.progress)
    → IfSome o (λ (s : Session). IsReadyProgress d s.progress)
session_same c d None accounts queue is = tt
session_same c d (Some s) accounts queue is = progress_same c d s.progress accounts queue is

acts_ready : (c : Machine) (ok : Bool) → IsReadyMachine c → IsReadyMachine (ends_update c ok)
unfolding ends_update
acts_ready c ok ready = record {
  limits = ready.limits;
  clock = ready.clock;
  engine = finished_update_ready c.clock c.limits.max_obj c.engine ok ready.clock ready.engine;
  queue = ready.queue;
  accounts = ready.accounts;
  results = all_append (λ (u : UpdateResult). IfSome u.correlator IsCorrelator) c.results
      (record { correlator = correlator_of c.engine.started; ok = ok } ∷ []) ready.results
      (started_correlator_ready c.limits.max_obj c.engine ready.engine, tt);
  session = session_same c (ends_update c ok) c.session refl refl ready.session;
}

-- ---- the law

after_ready : (c : Machine) (e : Event) → IsReadyMachine c → IsReadyEvent c e → IsReadyMachine (after c e)
unfolding after
after_ready c (clock stamp) ready is = record {
  limits = ready.limits;
  clock = is;
  engine = ready.engine;
  queue = ready.queue;
  accounts = ready.accounts;
  results = ready.results;
  session = session_same c (record c { clock = stamp }) c.session refl refl ready.session;
}
after_ready c (opened account kind number) ready is = begins_ready c account kind number (apart c ready) is.0 is.1
after_ready c (message (Ok m) nonce) ready is = message_ready c c.session m nonce ready ready.session is
after_ready c (message (Err place) nonce) ready is = ready
after_ready c loss ready is = ready
after_ready c (act ok) ready is = acts_ready c ok ready

machine_either : (b : Bool) (c d : Machine) → IsReadyMachine c → IsReadyMachine d → IsReadyMachine (cond b c d)
machine_either true c d x y = x
machine_either false c d x y = y

pub stays_ready : StaysReady
unfolding next
stays_ready c e ready is = machine_either (takes c e) (after c e) c (after_ready c e ready is) ready

-- ---- messages keep to the room

abbrev IsShortFarewell : Option Parts → Type 0
IsShortFarewell o = IfSome o (λ m. length (canonical m) ≤ 2048)

abbrev IsShortOutcome : Outcome → Type 0
IsShortOutcome x = IsShort (outcome_machine x)

short_either : (b : Bool) (x y : Outcome) → IsShortOutcome x → IsShortOutcome y → IsShortOutcome (cond b x y)
short_either true x y a b = a
short_either false x y a b = b

sends_short : (c : Machine) (p : Progress) (a : Account) → IsToSend c p a → IsShortFarewell c.farewell
    → IsShort (sends c p a)
unfolding sends
sends_short c p a is farewell = record {
  sent =
      fill_within (header_from c p a) c.queue p.standing.room p.standing.heard (header_to_send c p a is)
      is.progress.room.0;
  farewell = farewell;
}

closed_short : (c : Machine) → IsShortFarewell c.farewell → IsShort (closed c)
closed_short c farewell = record { sent = tt; farewell = farewell }

denied_short : (c : Machine) (own : ℕ) (w : Waits) (m : Parts) (h : Heard) (nonce : List ℕ) → IsReadyApart c
    → IsReadyWaits c own w → own + 1 < 2 ^ 32 → IsReadyAccount h.account → h.code < 2 ^ 32 → IsReadyMessage m nonce
    → IsShortOutcome (denied c w m h nonce)
denied_short c own w m h nonce ready waits low account code is = record {
  sent = tt;
  farewell =
      farewell_short c w.progress h.account m h.code nonce
      (own_ready c w.progress h.account ready.limits ready.engine.tree account waits.progress.number
      (let same = waits.own_is in omega (arith, same, low)))
      is.numbers.header.msg code (nonce_is nonce is.nonce_long is.nonce_bytes);
}

header_short : (c : Machine) (p : Progress) (m : Parts) (nonce : List ℕ) (h : Heard) → IsReadyApart c
    → IsReadyProgress c p → IsReadyMessage m nonce → IsReadyHeard p.standing m h → p.standing.own + 1 < 2 ^ 32
    → IsShortFarewell c.farewell
    → IsShortOutcome (by_header (record c { resp_uri = option_or m.header.resp_uri c.resp_uri }) p m nonce h)
header_short c p m nonce h ready progress is heard own farewell =
    let d = heard_by c p m h in
    let w = waits_after d p h in
    let run = run_of d h.account m h.code in
    let still = heard_apart c p m h ready heard in
    let aborts = passes h.code && list_any is_abort m.body in
    let waits = waits_after_ready d p m h still (heard_progress c p m h progress) is.numbers.header.msg heard in
    short_either h.second (denied d w m h nonce) (cond aborts (ends (closed d) Aborted) (answered d w m h nonce run))
    (denied_short d p.standing.own w m h nonce still waits own heard.account heard.code is)
    (short_either aborts (ends (closed d) Aborted) (answered d w m h nonce run) (closed_short d farewell)
    (short_either (is_over m h.code _) _ _ (record { sent = tt; farewell = farewell })
    (sends_short (answering d w m h nonce run) (behind_answer w m h nonce) h.account
    (waits_ready c p m h nonce ready progress is heard own) farewell)))

last_or_header_short : (b : Bool) (c : Machine) (p : Progress) (m : Parts) (nonce : List ℕ) → is_last_own p ≡ b
    → IsReadyApart c → IsReadyProgress c p → IsReadyMessage m nonce → IsShortFarewell c.farewell
    → IsShortOutcome (cond b (ends (closed (record c { resp_uri = option_or m.header.resp_uri c.resp_uri })) Aborted)
    (by_header (record c { resp_uri = option_or m.header.resp_uri c.resp_uri }) p m nonce (heard_in c p m nonce)))
last_or_header_short true c p m nonce last ready progress is farewell =
    closed_short (record c { resp_uri = option_or m.header.resp_uri c.resp_uri }) farewell
last_or_header_short false c p m nonce last ready progress is farewell =
    header_short c p m nonce (heard_in c p m nonce) ready progress is (heard_ready c p m nonce ready progress)
    (own_next p last progress.own) farewell

message_short : (c : Machine) (o : Option Session) (m : Parts) (nonce : List ℕ) → IsReadyMachine c → IsShort c
    → IfSome o (λ (s : Session). IsReadyProgress c s.progress) → IsReadyMessage m nonce
    → IsShortOutcome (message_outcome c o m nonce)
unfolding accepts
message_short c None m nonce ready short session is = short
message_short c (Some s) m nonce ready short session is =
    last_or_header_short (is_last_own s.progress) c s.progress m nonce refl (apart c ready) session is short.farewell

after_short : (c : Machine) (e : Event) → IsReadyMachine c → IsReadyEvent c e → IsShort c → IsShort (after c e)
unfolding after begins ends_update
after_short c (clock stamp) ready is short = record { sent = short.sent; farewell = short.farewell }
after_short c (opened account kind number) ready is short =
    sends_short (beginning c kind number) (first_progress account kind number (first_package (closed c) kind))
    (account_at (closed c) account)
    (begins_to_send c account kind number (apart c ready) is.0 is.1) tt
after_short c (message (Ok m) nonce) ready is short = message_short c c.session m nonce ready short ready.session is
after_short c (message (Err place) nonce) ready is short = short
after_short c loss ready is short = short
after_short c (act ok) ready is short = record { sent = short.sent; farewell = short.farewell }

short_machine : (b : Bool) (c d : Machine) → IsShort c → IsShort d → IsShort (cond b c d)
short_machine true c d x y = x
short_machine false c d x y = y

pub sends_within_room : SendsWithinRoom
unfolding next
sends_within_room c e ready is short = short_machine (takes c e) (after c e) c (after_short c e ready is short) short
