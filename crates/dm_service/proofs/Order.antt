-- What was sent in a session stands in the order of MsgIDs, and of CmdIDs in a message, so a Status names one command
-- of it.
use Rattle.std.proofs.Common.{None, Some, ◌≡◌, ◌<◌, ◌≤◌, ◌+◌, ◌-◌, ◌&&◌, ◌==◌, ℕ, zero, suc, Bool, true, false, cond}
use Rattle.std.proofs.Common.{not}
use Rattle.std.proofs.Common.{inl, inr, List, [], ◌∷◌, ◌++◌, map, length, take, drop, refl, sym, ap, subst, ◌∙◌, arith}
use Rattle.std.proofs.Common.{nat_lt}
use Rattle.std.specs.Prelude.{Option, Result, Ok, Err, is_some, if◌then◌else◌}
use Rattle.std.specs.List.{AllByRecursion, filter, list_any}
use Rattle.std.proofs.lemmas.List.{length-drop}
use Rattle.syncml_types.specs.Message.{Parts}
use Rattle.syncml_types.specs.declared.command.SeqMember.{SeqMember}
use Rattle.syncml_types.specs.declared.command.SeqMember.TheVariants as seq_member
use Rattle.syncml_types.specs.declared.command.Command.{Command}
use Rattle.syncml_types.specs.declared.command.Command.TheVariants as command
use Rattle.syncml_parts.specs.Numbering.{ids_in_seq_member, ids_in_seq_members, ids_in}
use Rattle.wbxml_tokens.specs.declared.reason.Refusal.{Refusal}
use Rattle.dm_headers.specs.declared.checks.Side.TheVariants.{User}
use Rattle.dm_headers.specs.declared.standings.Standing.{Standing}
use Rattle.dm_headers.specs.Checks.{fault_of, is_denied, passes}
use Rattle.dm_headers.specs.Headers.{header_answer}
use Rattle.dm_headers.specs.Standings.{Heard, hears}
use Rattle.dm_pack.specs.Entries.{Entry, last_only, last_alone as last_member_alone, rest_item, rest_of}
use Rattle.dm_pack.specs.Filling.{next_rest, fill, taken, cut, commands_of}
use Rattle.dm_pack.proofs.Numbers.{ids_changed}
use Rattle.dm_ends.specs.Commands.{is_abort}
use Rattle.dm_job.specs.declared.job.JobEntry.{JobEntry}
use Rattle.dm_service.specs.declared.sent.Carried.{Carried}
use Rattle.dm_service.specs.declared.sent.Sent.{Sent}
use Rattle.dm_service.specs.Service.{Waiting, Session, Service}
use Rattle.dm_service.specs.Packages.{is_of_job, job_waiting, queues_package, next_package, holds_number, gives_up}
use Rattle.dm_service.specs.Answers.{command_answers}
use Rattle.dm_service.specs.Sending.{header_for, in_a_row, last_part_sent, rest_holds, not_counting, but_the_last}
use Rattle.dm_service.specs.Sending.{part_holds}
use Rattle.dm_service.specs.Sending.{goes_out, carried_on, sends}
use Rattle.dm_service.specs.Messages.{first_service, first_session, begins, ended, denies, answer_waiting, after_status}
use Rattle.dm_service.specs.Messages.{tells, queues_answers, in_session, answers_message, by_header, accepts}
use Rattle.dm_service.specs.Events.{Arrival, number_of, takes, opens_session, after_in_session, after_number}
use Rattle.dm_service.specs.Events.{after_read, after}
use Rattle.dm_service.specs.History.{next, state_from}
use Rattle.dm_service.specs.Laws.{IsSentBefore, AreInOrder, sent_in, SentInOrder}
use Rattle.dm_service.proofs.Steps.{either}
use Rattle.dm_service.proofs.Gone.{found, map_drop}

-- ---- lists in order

-- of this message, and with no lower CmdID
abbrev IsFrom : ℕ → ℕ → Sent → Type 0
IsFrom msg command s = (s.msg ≡ msg) × (command ≤ s.command)

-- of this message, and with a lower CmdID
abbrev IsUpTo : ℕ → ℕ → Sent → Type 0
IsUpTo msg command s = (s.msg ≡ msg) × (s.command < command)

all-to : (P Q : Sent → Type 0) (ss : List Sent) → ((s : Sent) → P s → Q s) → AllByRecursion P ss → AllByRecursion Q ss
all-to P Q [] f h = tt
all-to P Q (s ∷ ss) f h = (f s h.0, all-to P Q ss f h.1)

all-both : (P : Sent → Type 0) (ss ts : List Sent) → AllByRecursion P ss → AllByRecursion P ts
    → AllByRecursion P (ss ++ ts)
all-both P [] ts h k = k
all-both P (s ∷ ss) ts h k = (h.0, all-both P ss ts h.1 k)

-- one list behind another
order-both : (P Q : Sent → Type 0) (ss ts : List Sent) → ((s t : Sent) → P s → Q t → IsSentBefore s t)
    → AllByRecursion P ss
    → AllByRecursion Q ts → AreInOrder ss → AreInOrder ts → AreInOrder (ss ++ ts)
order-both P Q [] ts f p q h k = k
order-both P Q (s ∷ ss) ts f p q h k = (
  all-both (IsSentBefore s) ss ts h.0 (all-to Q (IsSentBefore s) ts (λ t. f s t p.0) q),
  order-both P Q ss ts f p.1 q h.1 k,
)

filter-all : (P : Sent → Type 0) (p : Sent → Bool) (ss : List Sent) → AllByRecursion P ss
    → AllByRecursion P (filter p ss)
filter-all P p [] h = tt
filter-all P p (s ∷ ss) h = step (p s) (filter-all P p ss h.1)
  where
    step : (b : Bool) → AllByRecursion P (filter p ss) → AllByRecursion P (cond b (s ∷ filter p ss) (filter p ss))
    step true rest = (h.0, rest)
    step false rest = rest

filter-order : (p : Sent → Bool) (ss : List Sent) → AreInOrder ss → AreInOrder (filter p ss)
filter-order p [] h = tt
filter-order p (s ∷ ss) h = step (p s) (filter-all (IsSentBefore s) p ss h.0) (filter-order p ss h.1)
  where
    step : (b : Bool) → AllByRecursion (IsSentBefore s) (filter p ss) → AreInOrder (filter p ss)
        → AreInOrder (cond b (s ∷ filter p ss) (filter p ss))
    step true all rest = (all, rest)
    step false all rest = rest

-- ---- what an entry holds

-- how many commands go out with the rest of an entry
abbrev pub size_of : Bool → Option Carried → ℕ
size_of begun None = 0
size_of false (Some c) = c.count
size_of true (Some c) = if nat_lt 1 c.count then 2 else 1

row-from : (msg command number n low : ℕ) → low ≤ command
    → AllByRecursion (IsFrom msg low) (in_a_row msg command number n)
row-from msg command number zero low h = tt
row-from msg command number (suc n) low h =
    ((refl, h), row-from msg (command + 1) (number + 1) n low (omega (arith, h)))

row-to : (msg command number n high : ℕ) → command + n ≤ high
    → AllByRecursion (IsUpTo msg high) (in_a_row msg command number n)
row-to msg command number zero high h = tt
row-to msg command number (suc n) high h =
    ((refl, omega (arith, h)), row-to msg (command + 1) (number + 1) n high (omega (arith, h)))

row-order : (msg command number n : ℕ) → AreInOrder (in_a_row msg command number n)
row-order msg command number zero = tt
row-order msg command number (suc n) = (
  all-to (IsFrom msg (command + 1))
      (IsSentBefore (record { msg = msg; command = command; number = number; counts = true }))
      (in_a_row msg (command + 1) (number + 1) n)
      (λ t h. inr (sym h.0, (let l = h.1 in omega (arith, l))))
      (row-from msg (command + 1) (number + 1) n (command + 1) (omega arith)),
  row-order msg (command + 1) (number + 1) n,
)

ends-from : (msg command : ℕ) (c : Carried) → AllByRecursion (IsFrom msg command) (last_part_sent msg command c)
ends-from msg command c = by (nat_lt 1 c.count)
  where
    by : (b : Bool) → AllByRecursion (IsFrom msg command)
        (record { msg = msg; command = command; number = c.first; counts = true } ∷ cond b
        (record { msg = msg; command = command + 1; number = c.first + c.count - 1; counts = true } ∷ []) [])
    by true = ((refl, omega arith), ((refl, omega arith), tt))
    by false = ((refl, omega arith), tt)

ends-to : (msg command : ℕ) (c : Carried)
    → AllByRecursion (IsUpTo msg (command + size_of true (Some c))) (last_part_sent msg command c)
ends-to msg command c = by (nat_lt 1 c.count)
  where
    by : (b : Bool) → AllByRecursion (IsUpTo msg (command + cond b 2 1))
        (record { msg = msg; command = command; number = c.first; counts = true } ∷ cond b
        (record { msg = msg; command = command + 1; number = c.first + c.count - 1; counts = true } ∷ []) [])
    by true = ((refl, omega arith), ((refl, omega arith), tt))
    by false = ((refl, omega arith), tt)

ends-order : (msg command : ℕ) (c : Carried) → AreInOrder (last_part_sent msg command c)
ends-order msg command c = by (nat_lt 1 c.count)
  where
    by : (b : Bool) → AreInOrder
        (record { msg = msg; command = command; number = c.first; counts = true } ∷ cond b
        (record { msg = msg; command = command + 1; number = c.first + c.count - 1; counts = true } ∷ []) [])
    by true = ((inr (refl, omega arith), tt), (tt, tt))
    by false = (tt, tt)

rest-from : (msg command : ℕ) (begun : Bool) (o : Option Carried)
    → AllByRecursion (IsFrom msg command) (rest_holds msg command begun o)
rest-from msg command begun None = tt
rest-from msg command false (Some c) = row-from msg command c.first c.count command (omega arith)
rest-from msg command true (Some c) = ends-from msg command c

rest-to : (msg command : ℕ) (begun : Bool) (o : Option Carried)
    → AllByRecursion (IsUpTo msg (command + size_of begun o)) (rest_holds msg command begun o)
rest-to msg command begun None = tt
rest-to msg command false (Some c) = row-to msg command c.first c.count (command + c.count) (omega arith)
rest-to msg command true (Some c) = ends-to msg command c

rest-order : (msg command : ℕ) (begun : Bool) (o : Option Carried) → AreInOrder (rest_holds msg command begun o)
rest-order msg command begun None = tt
rest-order msg command false (Some c) = row-order msg command c.first c.count
rest-order msg command true (Some c) = ends-order msg command c

-- a part has the same numbers
but-all : (P : Sent → Type 0) (ss : List Sent) → ((s : Sent) → P s → P (not_counting s)) → AllByRecursion P ss
    → AllByRecursion P (but_the_last ss)
but-all P [] f h = tt
but-all P (s ∷ []) f h = (f s h.0, tt)
but-all P (s ∷ t ∷ ss) f h = (h.0, but-all P (t ∷ ss) f h.1)

but-order : (ss : List Sent) → AreInOrder ss → AreInOrder (but_the_last ss)
but-order [] h = tt
but-order (s ∷ []) h = (tt, tt)
but-order (s ∷ t ∷ ss) h = (but-all (IsSentBefore s) (t ∷ ss) (λ x k. k) h.0, but-order (t ∷ ss) h.1)

part-all : (P : Sent → Type 0) (ss : List Sent) → ((s : Sent) → P s → P (not_counting s)) → AllByRecursion P ss
    → AllByRecursion P (part_holds ss)
part-all P [] f h = tt
part-all P (s ∷ ss) f h = (f s h.0, but-all P ss f h.1)

part-order : (ss : List Sent) → AreInOrder ss → AreInOrder (part_holds ss)
part-order [] h = tt
part-order (s ∷ ss) h = (but-all (IsSentBefore s) ss (λ x k. k) h.0, but-order ss h.1)

-- ---- a message

-- an entry has as many CmdIDs as go out with it
abbrev pub IsWide : Waiting → Type 0
IsWide w = size_of w.entry.begun w.carries ≤ ids_in w.entry.command

abbrev pub AreWide : List Waiting → Type 0
AreWide = AllByRecursion IsWide

out-from : (msg command whole n low : ℕ) (ws : List Waiting) → low ≤ command
    → AllByRecursion (IsFrom msg low) (goes_out msg command whole n ws)
out-from msg command zero zero low [] h = tt
out-from msg command zero (suc n) low [] h = tt
out-from msg command (suc whole) n low [] h = tt
out-from msg command zero zero low (w ∷ ws) h = tt
out-from msg command zero (suc n) low (w ∷ ws) h =
    part-all (IsFrom msg low) (rest_holds msg command w.entry.begun w.carries) (λ s k. k)
    (all-to (IsFrom msg command) (IsFrom msg low) (rest_holds msg command w.entry.begun w.carries)
    (λ s k. (k.0, (let l = k.1 in omega (arith, l, h))))
    (rest-from msg command w.entry.begun w.carries))
out-from msg command (suc whole) n low (w ∷ ws) h =
    all-both (IsFrom msg low) (rest_holds msg command w.entry.begun w.carries)
    (goes_out msg (command + ids_in w.entry.command) whole n ws)
    (all-to (IsFrom msg command) (IsFrom msg low) (rest_holds msg command w.entry.begun w.carries)
    (λ s k. (k.0, (let l = k.1 in omega (arith, l, h))))
    (rest-from msg command w.entry.begun w.carries))
    (out-from msg (command + ids_in w.entry.command) whole n low ws (omega (arith, h)))

out-order : (msg command whole n : ℕ) (ws : List Waiting) → AreWide ws → AreInOrder (goes_out msg command whole n ws)
out-order msg command zero zero [] h = tt
out-order msg command zero (suc n) [] h = tt
out-order msg command (suc whole) n [] h = tt
out-order msg command zero zero (w ∷ ws) h = tt
out-order msg command zero (suc n) (w ∷ ws) h =
    part-order (rest_holds msg command w.entry.begun w.carries) (rest-order msg command w.entry.begun w.carries)
out-order msg command (suc whole) n (w ∷ ws) h =
    let k = command + ids_in w.entry.command in
    let wide = h.0 in
    order-both (IsUpTo msg (command + size_of w.entry.begun w.carries)) (IsFrom msg k)
    (rest_holds msg command w.entry.begun w.carries) (goes_out msg k whole n ws)
    (λ s t a b. inr (a.0 ∙ sym b.0, (let l = a.1 in let m = b.1 in omega (arith, l, m, wide))))
    (rest-to msg command w.entry.begun w.carries) (out-from msg k whole n k ws (omega arith))
    (rest-order msg command w.entry.begun w.carries) (out-order msg k whole n ws h.1)

-- ---- what waits stays wide

some-member : (m : SeqMember) → 1 ≤ ids_in_seq_member m
some-member (seq_member.Single m) = omega arith
some-member (seq_member.Atomic b) = omega arith

some-members : (ms : List SeqMember) → 0 < length ms → 1 ≤ ids_in_seq_members ms
unfolding ids_in_seq_members
some-members [] h = absurd (omega (arith, h))
some-members (m ∷ ms) h = let one = some-member m in omega (arith, one)

filled : (ms : List SeqMember) → 1 ≤ ids_in_seq_members ms → 0 < length ms
unfolding ids_in_seq_members
filled [] h = absurd (omega (arith, h))
filled (m ∷ ms) h = omega arith

last-long : {A : Type 0} (xs : List A) → 0 < length xs → length (last_only xs) ≡ 1
last-long xs h = let dropped = length-drop (length xs - 1) xs in omega (arith, dropped, h)

one-id : (c : Command) → 1 ≤ ids_in c
unfolding ids_in
one-id (command.Plain c) = omega arith
one-id (command.Alert c) = omega arith
one-id (command.Atomic b) = omega arith
one-id (command.Sequence b) = omega arith
one-id (command.Status c) = omega arith
one-id (command.Results c) = omega arith

two-ids : (c : Command) → 2 ≤ ids_in c → 2 ≤ ids_in (last_member_alone c)
unfolding ids_in
two-ids (command.Plain c) h = h
two-ids (command.Alert c) h = h
two-ids (command.Atomic b) h = let one = last-long b.members (omega (arith, h)) in omega (arith, one)
two-ids (command.Sequence b) h =
    let long = last-long b.members (filled b.members (omega (arith, h))) in
    let some = some-members (last_only b.members) (omega (arith, long)) in
    omega (arith, some)
two-ids (command.Status c) h = h
two-ids (command.Results c) h = h

rest-ids : (e : Entry) (n : ℕ) → 2 ≤ ids_in e.command → 2 ≤ ids_in (rest_of e n).command
unfolding rest_of
rest-ids e n h =
    let same = ids_changed (rest_item n) e.command in
    two-ids _ (omega (arith, same, h))

many-ids : (begun : Bool) (c : Carried) (ids : ℕ) → nat_lt 1 c.count ≡ true → size_of begun (Some c) ≤ ids → 2 ≤ ids
many-ids false c ids e h = let l : 1 < c.count = grind (arith, e) in omega (arith, l, h)
many-ids true c ids e h =
    let two : size_of true (Some c) ≡ 2 = ap (λ b. if b then 2 else 1) e in
    omega (arith, two, h)

rest-wide : (e : Entry) (n : ℕ) (o : Option Carried) → size_of e.begun o ≤ ids_in e.command
    → size_of true o ≤ ids_in (rest_of e n).command
rest-wide e n None h = omega arith
rest-wide e n (Some c) h = by (nat_lt 1 c.count) refl
  where
    by : (b : Bool) → nat_lt 1 c.count ≡ b → cond b 2 1 ≤ ids_in (rest_of e n).command
    by true f = rest-ids e n (many-ids e.begun c (ids_in e.command) f h)
    by false f = one-id (rest_of e n).command

same-wide : (ws : List Waiting) → AreWide ws → AreWide (carried_on (map (λ (w : Waiting). w.entry) ws) ws)
same-wide [] h = tt
same-wide (w ∷ ws) h = (h.0, same-wide ws h.1)

left-wide : (n : ℕ) (ws : List Waiting) → AreWide ws
    → AreWide (carried_on (next_rest n (map (λ (w : Waiting). w.entry) ws)) ws)
unfolding rest_of
left-wide zero ws h = same-wide ws h
left-wide (suc n) [] h = tt
left-wide (suc n) (w ∷ ws) h = (rest-wide w.entry (suc n) w.carries h.0, same-wide ws h.1)

drop-wide : (n : ℕ) (ws : List Waiting) → AreWide ws → AreWide (drop n ws)
drop-wide zero ws h = h
drop-wide (suc n) [] h = tt
drop-wide (suc n) (w ∷ ws) h = drop-wide n ws h.1

both-wide : (vs ws : List Waiting) → AreWide vs → AreWide ws → AreWide (vs ++ ws)
both-wide [] ws h k = k
both-wide (v ∷ vs) ws h k = (h.0, both-wide vs ws h.1 k)

job-wide : (es : List JobEntry) → AreWide (map job_waiting es)
job-wide [] = tt
job-wide (e ∷ es) = (omega arith, job-wide es)

answers-wide : (cs : List Command) → AreWide (map answer_waiting cs)
answers-wide [] = tt
answers-wide (c ∷ cs) = (omega arith, answers-wide cs)

others-wide : (ws : List Waiting) → AreWide ws → AreWide (filter (λ w. not (is_of_job w)) ws)
others-wide [] h = tt
others-wide (w ∷ ws) h = step (not (is_of_job w)) (others-wide ws h.1)
  where
    step : (b : Bool) → AreWide (filter (λ w. not (is_of_job w)) ws)
        → AreWide (cond b (w ∷ filter (λ w. not (is_of_job w)) ws) (filter (λ w. not (is_of_job w)) ws))
    step true rest = (h.0, rest)
    step false rest = rest

-- ---- a machine in its session

abbrev pub IsNoLater : ℕ → Sent → Type 0
IsNoLater own s = s.msg ≤ own

-- what every state has; kept by each message
pub record Ordered (v : Service) (s : Session) : Type 0 where
  pub order : AreInOrder s.sent
  pub own : AllByRecursion (IsNoLater s.progress.standing.own) s.sent
  pub wide : AreWide v.queue

record Holds (v : Service) : Type 0 where
  session : Session
  is_it : v.session ≡ Some session
  ordered : Ordered v session

gives-ordered : (v : Service) (s : Session) → Ordered v s → Holds (gives_up v s)
unfolding gives_up
gives-ordered v s h = record {
  session = _;
  is_it = refl;
  ordered = record {
    order = filter-order (λ (x : Sent). not (holds_number v.newest x.number)) s.sent h.order;
    own =
        filter-all (IsNoLater s.progress.standing.own) (λ (x : Sent). not (holds_number v.newest x.number)) s.sent
        h.own;
    wide = others-wide v.queue h.wide;
  };
}

kept : (v : Service) (s : Session) → v.session ≡ Some s → Ordered v s → Holds v
kept v s e h = record { session = s; is_it = e; ordered = h }

status-ordered : (v : Service) (s : Session) (failed : Bool) (status : ℕ) → v.session ≡ Some s → Ordered v s
    → Holds (after_status v s failed status)
status-ordered v s failed status e h =
    either Holds (not failed && is_denied status) (gives_up v s) v (gives-ordered v s h) (kept v s e h)

tells-ordered : (v : Service) (s : Session) (m : Parts) (code : ℕ) → v.session ≡ Some s → Ordered v s
    → Holds (tells v s m code)
tells-ordered v s m code e h =
    either Holds (passes code) _ v
    (record { session = _; is_it = refl; ordered = record { order = h.order; own = h.own; wide = h.wide } })
    (kept v s e h)

answers-ordered : (v : Service) (s : Session) (m : Parts) (code : ℕ) (nonce : List ℕ) → Ordered v s
    → Ordered (queues_answers v m code nonce) s
answers-ordered v s m code nonce h =
    let first = map answer_waiting (header_answer m.header code nonce) in
    let made = map answer_waiting (if passes code then command_answers m else []) in
    record {
      order = h.order;
      own = h.own;
      wide = both-wide (first ++ v.queue) made
          (both-wide first v.queue (answers-wide (header_answer m.header code nonce)) h.wide)
          (answers-wide (if passes code then command_answers m else []));
    }

queues-ordered : (v : Service) (s : Session) (ps : List (List JobEntry)) → Ordered v s → Ordered (queues_package v ps) s
queues-ordered v s [] h = h
queues-ordered v s (p ∷ ps) h =
    record { order = h.order; own = h.own; wide = both-wide v.queue (map job_waiting p) h.wide (job-wide p) }

package-ordered : (v : Service) (s : Session) (t : Standing) → Ordered v s → Ordered (next_package v t) s
package-ordered v s t h =
    either (λ w. Ordered w s) (t.accepted && t.heard && not (list_any is_of_job v.queue)) (queues_package v v.packages)
    v
    (queues-ordered v s v.packages h) h

sends-ordered : (v : Service) (s : Session) (m : Parts) (code : ℕ) → Ordered v s → Holds (sends v s m code)
unfolding sends fill
sends-ordered v s m code h =
    let p = s.progress in
    let own = p.standing.own in
    let es = map (λ (w : Waiting). w.entry) v.queue in
    let header = header_for v p m in
    let whole = taken header p.standing.room [] es in
    let bytes = cut header p.standing.room (commands_of (take whole es)) (drop whole es) in
    let out = goes_out (own + 1) 1 whole bytes v.queue in
    let from = out-from (own + 1) 1 whole bytes 1 v.queue (omega arith) in
    record {
      session = _;
      is_it = refl;
      ordered = record {
        order = order-both (IsNoLater own) (IsFrom (own + 1) 1) s.sent out
            (λ x y a b. inl (let e = b.0 in omega (arith, a, e))) h.own from h.order
            (out-order (own + 1) 1 whole bytes v.queue h.wide);
        own =
            all-both (IsNoLater (own + 1)) s.sent out
            (all-to (IsNoLater own) (IsNoLater (own + 1)) s.sent (λ x a. omega (arith, a)) h.own)
            (all-to (IsFrom (own + 1) 1) (IsNoLater (own + 1)) out (λ x a. (let e = a.0 in omega (arith, e))) from);
        wide = subst (λ x. AreWide (carried_on (next_rest bytes x) (drop whole v.queue))) (sym (map_drop whole v.queue))
            (left-wide bytes (drop whole v.queue) (drop-wide whole v.queue h.wide));
      };
    }

ended-ordered : (v : Service) (s : Session) → Ordered v s → Holds (ended v s)
ended-ordered v s h =
    record { session = _; is_it = refl; ordered = record { order = h.order; own = h.own; wide = h.wide } }

denies-ordered : (v : Service) (s : Session) (m : Parts) (code : ℕ) (nonce : List ℕ) → Ordered v s
    → Holds (denies v s m code nonce)
unfolding denies
denies-ordered v s m code nonce h =
    record {
      session = _;
      is_it = refl;
      ordered = record {
        order = h.order;
        own = all-to (IsNoLater s.progress.standing.own) (IsNoLater (s.progress.standing.own + 1)) s.sent
            (λ x a. omega (arith, a)) h.own;
        wide = h.wide;
      };
    }

message-ordered : (v : Service) (s : Session) (m : Parts) (code : ℕ) (nonce : List ℕ) → v.session ≡ Some s → Ordered v s
    → Holds (answers_message v s m code nonce)
message-ordered v s m code nonce e h =
    let told = tells v s m code in
    let k = tells-ordered v s m code e h in
    let t = in_session told s in
    let is_t : t ≡ k.session = found told.session s k.session k.is_it in
    let ordered : Ordered told t = subst (λ x. Ordered told x) (sym is_t) k.ordered in
    let waits = queues_answers told m code nonce in
    sends-ordered (next_package waits t.progress.standing) t m code
    (package-ordered waits t t.progress.standing (answers-ordered told t m code nonce ordered))

header-ordered : (v : Service) (s : Session) (m : Parts) (h : Heard) (nonce : List ℕ) → v.session ≡ Some s → Ordered v s
    → Holds (by_header v s m h nonce)
header-ordered v s m h nonce e ordered =
    either Holds (not (is_some (fault_of m)) && list_any is_abort m.body) (ended v s)
    (cond h.second (denies v s m h.code nonce) (answers_message v s m h.code nonce)) (ended-ordered v s ordered)
    (either Holds h.second (denies v s m h.code nonce) (answers_message v s m h.code nonce)
    (denies-ordered v s m h.code nonce ordered) (message-ordered v s m h.code nonce e ordered))

heard-own : (v : Service) (s : Standing) (m : Parts) (nonce : List ℕ)
    → (hears User v.job.account s m nonce).standing.own ≡ s.own
unfolding hears
heard-own v s m nonce = refl

accepts-ordered : (v : Service) (s : Session) (m : Parts) (nonce : List ℕ) → Ordered v s → Holds (accepts v s m nonce)
unfolding accepts
accepts-ordered v s m nonce h =
    let heard = hears User v.job.account s.progress.standing m nonce in
    let t : Session = record s { progress = record s.progress { standing = heard.standing } } in
    let u : Service = record v { job = record v.job { account = heard.account }; session = Some t } in
    let failed = s.progress.standing.we_failed in
    let same = heard-own v s.progress.standing m nonce in
    let ordered : Ordered u t = record {
      order = h.order;
      own = subst (λ own. AllByRecursion (IsNoLater own) s.sent) (sym same) h.own;
      wide = h.wide;
    } in
    let w = after_status u t failed heard.status in
    let g = status-ordered u t failed heard.status refl ordered in
    let x = in_session w t in
    let is_x : x ≡ g.session = found w.session t g.session g.is_it in
    header-ordered w x m heard nonce (g.is_it ∙ ap Some (sym is_x)) (subst (λ y. Ordered w y) (sym is_x) g.ordered)

-- ---- what comes

abbrev pub Comes : Service → Option Session → Type 0
Comes v None = Unit {0}
Comes v (Some s) = Ordered v s

holds-comes : (v : Service) → Holds v → Comes v v.session
holds-comes v h = subst (λ o. Comes v o) (sym h.is_it) h.ordered

opens-ordered : (v : Service) (n : ℕ) (m : Parts) (nonce : List ℕ) → Holds (opens_session v n m nonce)
opens-ordered v n m nonce =
    accepts-ordered (begins v n) (first_session v.job.account n) m nonce (record { order = tt; own = tt; wide = tt })

acts-ordered : (v : Service) (o : Option Session) (n : ℕ) (m : Parts) (nonce : List ℕ) → Comes v o
    → Holds (after_in_session v o n m nonce)
acts-ordered v None n m nonce h = opens-ordered v n m nonce
acts-ordered v (Some s) n m nonce h =
    either Holds (s.progress.number == n) (accepts v s m nonce) (opens_session v n m nonce) (accepts-ordered v s m nonce h)
    (opens-ordered v n m nonce)

as-ordered : (v : Service) (o : Option ℕ) (m : Parts) (nonce : List ℕ) → Comes v v.session
    → Comes (after_number v o m nonce) (after_number v o m nonce).session
as-ordered v None m nonce h = h
as-ordered v (Some n) m nonce h =
    holds-comes (after_in_session v v.session n m nonce) (acts-ordered v v.session n m nonce h)

read-ordered : (v : Service) (read : Result Parts Refusal) (nonce : List ℕ) → Comes v v.session
    → Comes (after_read v read nonce) (after_read v read nonce).session
read-ordered v (Ok m) nonce h = as-ordered v (number_of m) m nonce h
read-ordered v (Err place) nonce h = h

pub next_ordered : (v : Service) (e : Arrival) → Comes v v.session → Comes (next v e) (next v e).session
unfolding next after
next_ordered v e h =
    either (λ w. Comes w w.session) (takes v e) (after_read v e.read e.nonce) v (read-ordered v e.read e.nonce h) h

comes : (v : Service) (es : List Arrival) → Comes v v.session → Comes (state_from v es) (state_from v es).session
comes v [] h = h
comes v (e ∷ es) h = comes (next v e) es (next_ordered v e h)

order-of : (v : Service) (o : Option Session) → Comes v o → AreInOrder (sent_in o)
order-of v None h = tt
order-of v (Some s) h = h.order

pub sent_in_order : SentInOrder
sent_in_order job es =
    let v = state_from (first_service job) es in
    order-of v v.session (comes (first_service job) es tt)
