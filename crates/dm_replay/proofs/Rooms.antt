-- No message that a replay sends is longer than the room.
use Rattle.std.proofs.Common.{◌≡◌, ◌≤◌, ◌+◌, ◌==◌, ℕ, Bool, true, false, cond, not, List, [], ◌∷◌, length, Option, None}
use Rattle.std.proofs.Common.{Some}
use Rattle.std.proofs.Common.{Ok, Err, refl, sym, ap, subst, ◌∙◌}
use Rattle.std.proofs.lemmas.List.{length-map}
use Rattle.std.specs.Prelude.{Result, IfSome, IsSomeAnd, nat_lt}
use Rattle.dm_base.specs.declared.lines.LineReason.{LineReason}
use Rattle.dm_base.specs.declared.lines.LineReason.TheVariants as reason
use Rattle.dm_base.specs.Lines.{run_limit}
use Rattle.dm_base.specs.Limits.{least_room}
use Rattle.wbxml_tokens.specs.declared.reason.Refusal.{Refusal}
use Rattle.syncml_types.specs.Canonical.{canonical}
use Rattle.syncml_types.specs.Message.{Parts}
use Rattle.dm_auth.specs.declared.accounts.Account.{Account}
use Rattle.dm_machine.specs.declared.kinds.End.{End}
use Rattle.dm_machine.specs.declared.kinds.End.TheVariants.{Finished, Aborted, Denied}
use Rattle.dm_machine.specs.Machine.{Machine, Session}
use Rattle.dm_machine.specs.Messages.{Outcome, goes_on, ends, begins, ends_update}
use Rattle.dm_machine.specs.Events.{Event as Happening, Answer, clock, opened, message, loss, act, sent, kept, stale}
use Rattle.dm_machine.specs.Events.{stranger, exhausted, ended, acted, not_now, is_of, last_of, takes_read, takes}
use Rattle.dm_machine.specs.Events.{after}
use Rattle.dm_machine.specs.Events.{taken_answer, refusal, outcome_machine, outcome_of, outcome_answer, sent_in}
use Rattle.dm_machine.specs.Events.{repeat_answer}
use Rattle.dm_machine.specs.Events.{old_message, message_refusal, read_refusal, loss_answer}
use Rattle.dm_machine.specs.History.{answer_now, next, kept_in}
use Rattle.dm_machine.specs.Laws.{IsShort}
use Rattle.dm_machine.specs.Ready.{IsReadyMachine, IsReadyEvent}
use Rattle.dm_machine.proofs.Accounts.{accounts_stay}
use Rattle.dm_machine.proofs.StaysReady.{stays_ready, sends_within_room}
use Rattle.dm_start.specs.declared.heads.Head.TheVariants as head
use Rattle.dm_start.specs.declared.telling.Phase.TheVariants as phase
use Rattle.dm_start.specs.Start.{Setup, Section, opening, telling, after_line}
use Rattle.dm_replay.specs.declared.events.Event.{Event}
use Rattle.dm_replay.specs.Events.{event_of, happening_of}
use Rattle.dm_replay.specs.Input.{Input, input_of}
use Rattle.dm_replay.specs.Output.{client_of}
use Rattle.dm_replay.specs.Room.{KeepsToRoom, AnswersInRoom, AllInRoom, ReplaysKeepToTheRoom}
use Rattle.dm_replay.specs.Trace.{bad, Ending, stopped, Trace, Begun, began, unbegun, is_long, told_in, behind_begin}
use Rattle.dm_replay.specs.Trace.{start_line, start_from, no_events, behind_said, event_line, end_from, events_from}
use Rattle.dm_replay.specs.Trace.{servers_of}
use Rattle.dm_replay.proofs.ReadyEvents.{said_is_ready}
use Rattle.dm_replay.proofs.ReadyStarts.{client_is_ready, client_is_short}
use Rattle.dm_replay.proofs.StartSections.{IsGoodSection, good_line}

-- ---- what a session sent last

abbrev IsShortIn : Option Session → Type 0
IsShortIn o = IfSome o (λ (s : Session). length (canonical s.sent) ≤ s.progress.standing.room)

keeps : (c : Machine) (s : Session) → c.session ≡ Some s → IsShortIn (Some s) → KeepsToRoom c s.sent
keeps c s is short =
    subst
    (λ (o : Option Session). IsSomeAnd o (λ (x : Session). length (canonical s.sent) ≤ x.progress.standing.room))
    (sym is) short

sent_in_room : (c : Machine) (o : Option Session) → c.session ≡ o → IsShortIn o → AnswersInRoom c (sent_in o)
sent_in_room c None is short = tt
sent_in_room c (Some s) is short = keeps c s is short

lost_in_room : (c : Machine) (o : Option Session) → c.session ≡ o → IsShortIn o → AnswersInRoom c (loss_answer o)
lost_in_room c None is short = tt
lost_in_room c (Some s) is short = keeps c s is short

ended_in_room : (c : Machine) (end : End) (o : Option Parts) → IfSome o (λ m. length (canonical m) ≤ least_room)
    → AnswersInRoom c (ended end o)
ended_in_room c Finished o short = tt
ended_in_room c Aborted o short = tt
ended_in_room c Denied None short = tt
ended_in_room c Denied (Some m) short = short

-- ---- a message that isn't taken

again_in_room : (c : Machine) (s : Session) → c.session ≡ Some s → IsShortIn (Some s) → (b : Bool)
    → AnswersInRoom c (repeat_answer s (cond b (Some s.sent) None))
again_in_room c s is short true = keeps c s is short
again_in_room c s is short false = tt

old_in_room : (c : Machine) (s : Session) (m : Parts) → c.session ≡ Some s → IsShortIn (Some s) → (a b : Bool)
    → AnswersInRoom c
    (cond a stranger
    (cond b (repeat_answer s (cond (nat_lt 0 (last_of s)) (Some s.sent) None)) (stale (last_of s))))
old_in_room c s m is short true b = tt
old_in_room c s m is short false true = again_in_room c s is short (nat_lt 0 (last_of s))
old_in_room c s m is short false false = tt

refused_in_room : (c : Machine) (o : Option Session) (read : Result Parts Refusal) → c.session ≡ o → IsShortIn o
    → AnswersInRoom c (read_refusal o read (kept_in o))
refused_in_room c None (Ok m) is short = tt
refused_in_room c (Some s) (Ok m) is short =
    old_in_room c s m is short (not (is_of s m)) (last_of s == m.header.msg)
refused_in_room c o (Err place) is short = tt

-- ---- any event

both : (b : Bool) (d c : Machine) (x y : Answer) → IsShort (cond b d c) → (IsShort d → AnswersInRoom d x)
    → AnswersInRoom c y
    → AnswersInRoom (cond b d c) (cond b x y)
both true d c x y h f g = f h
both false d c x y h f g = g

outcome_in_room : (o : Outcome) → IsShort (outcome_machine o) → AnswersInRoom (outcome_machine o) (outcome_answer o)
outcome_in_room (goes_on d) short = sent_in_room d d.session refl short.sent
outcome_in_room (ends d end) short = ended_in_room d end d.farewell short.farewell

in_room : (c : Machine) (e : Happening) → IsShort c → IsShort (next c e) → AnswersInRoom (next c e) (answer_now c e)
unfolding next answer_now takes after taken_answer refusal
in_room c (clock stamp) short then' = tt
in_room c (opened account kind number) short then' =
    both (nat_lt c.begun number) (begins c account kind number) c
    (sent_in (begins c account kind number).session) (exhausted c.begun) then'
    (λ h. sent_in_room (begins c account kind number) (begins c account kind number).session refl h.sent) tt
in_room c (message read nonce) short then' =
    both (takes_read c.session read) (outcome_machine (outcome_of c read nonce)) c
    (outcome_answer (outcome_of c read nonce)) (read_refusal c.session read (kept_in c.session)) then'
    (outcome_in_room (outcome_of c read nonce))
    (refused_in_room c c.session read refl short.sent)
in_room c loss short then' = lost_in_room c c.session refl short.sent
in_room c (act ok) short then' =
    both (takes c (act ok)) (ends_update c ok) c acted not_now then' (λ h. tt) tt

-- ---- the events of a trace

record IsAt (ids : List (List ℕ)) (c : Machine) : Type 0 where
  many : length ids ≡ length c.accounts
  ready : IsReadyMachine c
  short : IsShort c

one_more : (ids : List (List ℕ)) (c : Machine) (e : Happening) → IsAt ids c → IsReadyEvent c e → IsAt ids (next c e)
one_more ids c e at is = record {
  many = at.many ∙ sym (accounts_stay c e);
  ready = stays_ready c e at.ready is;
  short = sends_within_room c e at.ready is at.short;
}

event_in_room : (version : ℕ) (ids : List (List ℕ)) (line : List ℕ) (c : Machine) (said : Event) (behind : Ending)
    (rest : Trace) → IsAt ids c → event_of version ids line ≡ Ok said
    → ((d : Machine) → IsAt ids d → AllInRoom d rest.events) → (o : Option Happening) → happening_of said ≡ o
    → AllInRoom c (behind_said o behind rest).events
event_in_room version ids line c said behind rest at is later None happens = tt
event_in_room version ids line c said behind rest at is later (Some e) happens =
    let ready = said_is_ready c version ids line said e at.many is happens in
    let then' = one_more ids c e at ready in
    (in_room c e at.short then'.short, later (next c e) then')

line_in_room : (version : ℕ) (ids : List (List ℕ)) (n : ℕ) (line : List ℕ) (c : Machine) (behind : Ending) (rest : Trace)
    → IsAt ids c → ((d : Machine) → IsAt ids d → AllInRoom d rest.events)
    → (long : Bool) (r : Result Event LineReason) → event_of version ids line ≡ r
    → AllInRoom c (cond long (no_events (stopped (bad n reason.Long))) (event_line n r behind rest)).events
line_in_room version ids n line c behind rest at later true r is = tt
line_in_room version ids n line c behind rest at later false (Err why) is = tt
line_in_room version ids n line c behind rest at later false (Ok said) is =
    event_in_room version ids line c said behind rest at is later (happening_of said) refl

events_in_room : (lines : List (List ℕ)) (version : ℕ) (ids : List (List ℕ)) (n : ℕ) (tail : List ℕ) (more : Bool)
    (c : Machine) → IsAt ids c → AllInRoom c (events_from version ids n lines tail more).events
events_in_room [] version ids n tail more c at = tt
events_in_room (line ∷ lines) version ids n tail more c at =
    line_in_room version ids n line c (end_from (n + 1) lines tail more)
    (events_from version ids (n + 1) lines tail more) at
    (λ d there. events_in_room lines version ids (n + 1) tail more d there)
    (is_long line) (event_of version ids line) refl

-- ---- the start section

abbrev begun_value : Setup → Begun → Setup
begun_value d (began n told input) = told
begun_value d (unbegun stop) = d

is_told : (s : Section) (told : Setup) → told_in s ≡ Some told → s ≡ telling phase.Begun told
is_told (opening h) told e = absurd (cc)
is_told (telling phase.Accounts x) told e = absurd (cc)
is_told (telling phase.Nodes x) told e = absurd (cc)
is_told (telling phase.Begun x) told e = let same : x ≡ told = cc in ap (telling phase.Begun) same

abbrev GoesGood : Section → (Section → Begun) → Type 0
GoesGood s rest =
    (m : ℕ) (told : Setup) (input : Input) → IsGoodSection s → rest s ≡ began m told input
    → IsGoodSection (telling phase.Begun told)

behind_good : (n m : ℕ) (s : Section) (told : Setup) (input i : Input) (rest : Section → Begun) → IsGoodSection s
    → GoesGood s rest → (o : Option Setup) → told_in s ≡ o → behind_begin n o i (rest s) ≡ began m told input
    → IsGoodSection (telling phase.Begun told)
behind_good n m s told input i rest good later None is h = later m told input good h
behind_good n m s told input i rest good later (Some x) is h =
    subst IsGoodSection (is_told s told (is ∙ ap (λ b. Some (begun_value told b)) h)) good

line_good : (n m : ℕ) (s : Section) (line : List ℕ) (told : Setup) (input i : Input) (rest : Section → Begun)
    → IsGoodSection s → ((next : Section) → GoesGood next rest) → (long : Bool) (r : Result Section LineReason)
    → after_line s line ≡ r
    → cond long (unbegun (bad n reason.Long)) (start_line n r i rest) ≡ began m told input
    → IsGoodSection (telling phase.Begun told)
line_good n m s line told input i rest good later true r is h = absurd (cc)
line_good n m s line told input i rest good later false (Err why) is h = absurd (cc)
line_good n m s line told input i rest good later false (Ok next) is h =
    behind_good n m next told input i rest (good_line s line next good is) (later next) (told_in next) refl h

start_good : (lines : List (List ℕ)) (n m : ℕ) (s : Section) (tail : List ℕ) (more : Bool) (told : Setup) (input : Input)
    → IsGoodSection s → start_from n s lines tail more ≡ began m told input → IsGoodSection (telling phase.Begun told)
start_good [] n m s tail more told input good h = absurd (cc)
start_good (line ∷ lines) n m s tail more told input good h =
    line_good n m s line told input (record { lines = lines; tail = tail; more = more })
    (λ next. start_from (n + 1) next lines tail more) good
    (λ next k other there next_good e. start_good lines (n + 1) k next tail more other there next_good e)
    (is_long line) (after_line s line) refl h

pub replays_keep_to_the_room : ReplaysKeepToTheRoom
replays_keep_to_the_room bytes n told input h =
    let i = input_of run_limit bytes in
    let good =
    start_good i.lines 1 n (opening head.First) i.tail i.more told input (record { sound = tt; tells = tt }) h in
    events_in_room input.lines told.version (servers_of told.accounts) n input.tail input.more (client_of told) (record {
      many = length-map told.accounts (λ (a : Account). a.server);
      ready = client_is_ready told good;
      short = client_is_short told;
    })
