-- Each message that the client sends can be read again: over what its machine does at an event.
use Rattle.std.proofs.Common.{◌≡◌, ◌<◌, ◌+◌, ◌&&◌, ◌^◌, ℕ, Bool, true, false, cond, List, [], ◌∷◌, ◌++◌, length, map}
use Rattle.std.proofs.Common.{take, drop, Option, None, Some, IfSome, refl, sym, subst, arith, nat_lt}
use Rattle.std.specs.Prelude.{Ok}
use Rattle.std.specs.Option.{option_or}
use Rattle.std.specs.List.{AllByRecursion, list_any}
use Rattle.std.proofs.lemmas.Bool.{eqb-false}
use Rattle.syncml_types.specs.declared.values.Item.{Item}
use Rattle.syncml_types.specs.Message.{Parts}
use Rattle.syncml_codec.specs.Ranges.{ItemRange, CommandRange}
use Rattle.dm_tree.specs.declared.nodes.Stamp.{Stamp}
use Rattle.dm_tree.specs.Nodes.{Nodes}
use Rattle.dm_tree.specs.Devices.{device_id, device_leaves}
use Rattle.dm_auth.specs.declared.accounts.Account.{Account}
use Rattle.dm_headers.specs.declared.checks.Side.TheVariants.{User, Server}
use Rattle.dm_headers.specs.Checks.{login_of, is_denied, passes}
use Rattle.dm_headers.specs.Standings.{Heard}
use Rattle.dm_headers.specs.Headers.{header_answer}
use Rattle.dm_atomic.specs.Made.{told}
use Rattle.dm_atomic.specs.Run.{Next, quietly, abandoned}
use Rattle.dm_pack.specs.Entries.{whole_entry}
use Rattle.dm_pack.specs.Filling.{fill}
use Rattle.dm_ends.proofs.Hearing.{IsReadyHeard, hears_ready}
use Rattle.dm_machine.specs.declared.kinds.Initiator.{Initiator}
use Rattle.dm_machine.specs.declared.kinds.Initiator.TheVariants.{ByServer, ByClient}
use Rattle.dm_machine.specs.declared.kinds.End.TheVariants.{Finished, Aborted}
use Rattle.dm_machine.specs.declared.progress.Progress.{Progress}
use Rattle.dm_machine.specs.declared.progress.UpdateResult.{UpdateResult}
use Rattle.dm_machine.specs.Machine.{Session, Machine}
use Rattle.dm_machine.specs.Opening.{kind_code, alert, result_alert, update_uri, device_item, device_told}
use Rattle.dm_machine.specs.Opening.{first_package}
use Rattle.dm_machine.specs.Opening.{opening}
use Rattle.dm_machine.specs.Sending.{header_from, sends}
use Rattle.dm_machine.specs.Messages.{Outcome, goes_on, ends, Waits, waits_after, queued_again, account_at, closed}
use Rattle.dm_machine.specs.Messages.{finished, denied, is_over, is_abort, answered, run_of, execute, by_header}
use Rattle.dm_machine.specs.Messages.{is_last_own, accepts, ends_update, begins, first_progress}
use Rattle.dm_machine.specs.Events as client
use Rattle.dm_machine.specs.History as client_runs
use Rattle.dm_machine.specs.Ready.{IsReadyAccount, IsReadyProgress, IsReadyMachine, IsReadyMessage}
use Rattle.dm_machine.proofs.OwnHeaders.{header_ready}
use Rattle.dm_machine.proofs.StaysSending.{IsReadyApart, apart}
use Rattle.dm_machine.proofs.StaysWaiting.{all_set, set_long, account_ready, IsToSend, header_to_send}
use Rattle.dm_machine.proofs.StaysWaiting.{waits_after_ready}
use Rattle.dm_machine.proofs.StaysWaiting.{IsReadyWaits, answering, behind_answer, beginning, begins_to_send}
use Rattle.dm_machine.proofs.StaysReady.{heard_by, heard_in, waits_ready}
use Rattle.dm_world.specs.World.{said}
use Rattle.dm_world.proofs.Lists.{either, both-ways}
use Rattle.dm_world.proofs.Happens.{refusal-said, loss-said}
use Rattle.dm_world.proofs.Ranges.{all-append, all-front, all-behind, IsShortHeld, EntryRange, AllEntryRange, both-go}
use Rattle.dm_world.proofs.Ranges.{entries-range, fresh-range, fill-held, left-goes}
use Rattle.dm_world.proofs.RangedRuns.{StateRange, NextRange, execute-range, told-range}
use Rattle.dm_world.proofs.RangedHeaders.{header-range, answer-range, farewell-held}

-- what waits, and what an open group will tell
pub record Ranged (c : Machine) : Type 0 where
  pub queue : AllEntryRange c.queue
  pub engine : StateRange c.engine

-- a machine, and the message that it sends first now
abbrev pub Goes : Machine → client.Answer → Type 0
Goes c a = Ranged c × IfSome (said a) IsShortHeld

abbrev OutcomeGoes : Outcome → Type 0
OutcomeGoes x = Goes (client.outcome_machine x) (client.outcome_answer x)

unsaid : (c : Machine) (a : client.Answer) → said a ≡ None → Ranged c → Goes c a
unsaid c a e h = (h, subst (λ o. IfSome o IsShortHeld) (sym e) tt)

-- ---- the first package

alert-range : (code : ℕ) (correlator : Option (List ℕ)) (is : List Item) → code < 2 ^ 32
    → AllByRecursion ItemRange is
    → CommandRange (alert code correlator is)
alert-range code correlator is low all = record { id = omega arith; code = low; items = all }

kind-low : (kind : Initiator) → kind_code kind < 2 ^ 32
kind-low ByServer = omega arith
kind-low ByClient = omega arith

results-range : (uri : List ℕ) (rs : List UpdateResult) → AllByRecursion CommandRange (map (result_alert uri) rs)
results-range uri [] = tt
results-range uri (r ∷ rs) = (
  alert-range 1226 r.correlator _ (omega arith) (record { size = tt; max_msg = tt; max_obj = tt }, tt),
  results-range uri rs,
)

device-items : (tree : Nodes) (names : List (List ℕ)) → AllByRecursion ItemRange (map (device_item tree) names)
device-items tree [] = tt
device-items tree (name ∷ names) = (record { size = tt; max_msg = tt; max_obj = tt }, device-items tree names)

device-range : (tree : Nodes) → CommandRange (device_told tree)
device-range tree = record { id = omega arith; meta = tt; items = device-items tree device_leaves }

package-range : (c : Machine) (kind : Initiator) → AllEntryRange (first_package c kind)
package-range c kind =
    let uri = update_uri c.engine.tree in
    fresh-range (opening kind c.results c.engine.tree) (
      alert-range (kind_code kind) None [] (kind-low kind) tt,
      all-append CommandRange (map (result_alert uri) c.results) (device_told c.engine.tree ∷ [])
          (results-range uri c.results) (device-range c.engine.tree, tt),
    )

-- ---- what waits

again-range : (c : Machine) (w : Waits) → AllEntryRange w.queue → AllEntryRange (queued_again c w).queue
again-range c w all =
    let p = w.progress in
    let front = take p.opening_at w.queue in
    let behind = drop (p.opening_at + p.opening_left) w.queue in
    all-append EntryRange (front ++ behind) (first_package c p.kind)
    (all-append EntryRange front behind (all-front EntryRange p.opening_at w.queue all)
    (all-behind EntryRange (p.opening_at + p.opening_left) w.queue all))
    (package-range c p.kind)

waits-range : (c : Machine) (p : Progress) (h : Heard) → AllEntryRange c.queue → AllEntryRange (waits_after c p h).queue
waits-range c p h all =
    let w : Waits = record { progress = record p { standing = h.standing }; queue = c.queue } in
    either (λ (w : Waits). AllEntryRange w.queue) (is_denied h.status) {x = queued_again c w} {y = w}
    (again-range c w all) all

-- ---- a message is sent

sent-in : (o : Option Session) → IfSome o (λ (s : Session). IsShortHeld s.sent)
    → IfSome (said (client.sent_in o)) IsShortHeld
sent-in None h = tt
sent-in (Some s) h = h

-- a machine that has sent a message
record Sends (c : Machine) : Type 0 where
  ranged : Ranged c
  message : IfSome c.session (λ (s : Session). IsShortHeld s.sent)

sends-held : (c : Machine) (p : Progress) (a : Account) → IsToSend c p a → Ranged c → Sends (sends c p a)
unfolding sends
sends-held c p a is ranged =
    let h = header_from c p a in
    let all = both-go c.queue is.apart.queue ranged.queue in
    let range =
    header-range (login_of User a) p.standing c.limits p.number (record { uri = a.server; name = None })
    (record { uri = device_id c.engine.tree; name = a.user }) is.own is.apart.limits in
    record {
      ranged = record {
        queue =
            entries-range (fill c.queue h p.standing.room p.standing.heard).left
            (left-goes c.queue h p.standing.room p.standing.heard all);
        engine = ranged.engine;
      };
      message =
          fill-held c.queue h p.standing.room p.standing.heard (header_to_send c p a is) range all is.progress.room;
    }

sends-goes : (c : Machine) (p : Progress) (a : Account) → IsToSend c p a → Ranged c
    → Goes (sends c p a) (client.sent_in (sends c p a).session)
sends-goes c p a is ranged =
    let h = sends-held c p a is ranged in
    (h.ranged, sent-in (sends c p a).session h.message)

-- ---- how a message ends

closed-ranged : (c : Machine) → Ranged (closed c)
unfolding abandoned
closed-ranged c = record { queue = tt; engine = tt }

run-range : (c : Machine) (a : Account) (m : Parts) (nonce : List ℕ) (code : ℕ) → IsReadyApart c
    → IsReadyMessage m nonce → StateRange c.engine
    → NextRange (run_of c a m code)
run-range c a m nonce code ready is state =
    either NextRange (passes code) {x = execute c a m} {y = quietly c.engine}
    (execute-range c a m ready.clock ready.limits.max_obj is.fit is.numbers ready.engine state)
    (record { state = state; made = tt })

heard-apart : (c : Machine) (p : Progress) (m : Parts) (h : Heard) → IsReadyApart c → IsReadyHeard p.standing m h
    → IsReadyApart (heard_by c p m h)
heard-apart c p m h ready heard = record {
  limits = ready.limits;
  clock = ready.clock;
  engine = ready.engine;
  queue = ready.queue;
  accounts = all_set IsReadyAccount c.accounts p.account h.account ready.accounts heard.account;
  results = ready.results;
}

heard-progress : (c : Machine) (p : Progress) (m : Parts) (h : Heard) → IsReadyProgress c p
    → IsReadyProgress (heard_by c p m h) p
heard-progress c p m h is = record {
  number = is.number;
  account = let long = set_long c.accounts p.account h.account in let low = is.account in omega (arith, long, low);
  last = is.last;
  own = is.own;
  room = is.room;
  opening = is.opening;
}

denied-goes : (c : Machine) (own : ℕ) (w : Waits) (m : Parts) (h : Heard) (nonce : List ℕ) → IsReadyApart c
    → IsReadyWaits c own w → own + 1 < 2 ^ 32 → IsReadyAccount h.account → h.code < 2 ^ 32 → IsReadyMessage m nonce
    → OutcomeGoes (denied c w m h nonce)
unfolding abandoned
denied-goes c own w m h nonce ready waits low account code is =
    let p = w.progress in
    let a = h.account in
    let next : p.standing.own + 1 < 2 ^ 32 = (let same = waits.own_is in omega (arith, same, low)) in
    let range =
    header-range (login_of User a) p.standing c.limits p.number (record { uri = a.server; name = None })
    (record { uri = device_id c.engine.tree; name = a.user }) next ready.limits in (
      record { queue = tt; engine = tt },
      farewell-held (header_from c p a) m h.code nonce
          (header_ready c p a ready.limits ready.engine.tree account waits.progress.number next) range is code,
    )

answering-ranged : (c : Machine) (w : Waits) (m : Parts) (h : Heard) (nonce : List ℕ) (run : Next)
    → AllEntryRange w.queue
    → NextRange run → m.header.msg < 2 ^ 32 → h.code < 2 ^ 32
    → Ranged (answering c w m h nonce run)
answering-ranged c w m h nonce run queue range msg code =
    let answer = header_answer m.header h.code nonce in
    record {
      queue =
          all-append EntryRange (map whole_entry answer) (w.queue ++ map whole_entry (told run.made))
          (fresh-range answer (answer-range m.header h.code nonce msg code))
          (all-append EntryRange w.queue (map whole_entry (told run.made)) queue (told-range run.made range.made));
      engine = range.state;
    }

header-goes : (c : Machine) (p : Progress) (m : Parts) (nonce : List ℕ) (h : Heard) → IsReadyApart c
    → IsReadyProgress c p → IsReadyMessage m nonce → IsReadyHeard p.standing m h → p.standing.own + 1 < 2 ^ 32
    → Ranged c
    → OutcomeGoes (by_header (record c { resp_uri = option_or m.header.resp_uri c.resp_uri }) p m nonce h)
header-goes c p m nonce h ready progress is heard own ranged =
    let d = heard_by c p m h in
    let w = waits_after d p h in
    let run = run_of d h.account m h.code in
    let still = heard-apart c p m h ready heard in
    let aborts = passes h.code && list_any is_abort m.body in
    let msg = is.numbers.header.msg in
    let waits = waits_after_ready d p m h still (heard-progress c p m h progress) msg heard in
    let ran = run-range d h.account m nonce h.code still is ranged.engine in
    either OutcomeGoes h.second {x = denied d w m h nonce}
    {y = cond aborts (ends (closed d) Aborted) (answered d w m h nonce run)}
    (denied-goes d p.standing.own w m h nonce still waits own heard.account heard.code is)
    (either OutcomeGoes aborts {x = ends (closed d) Aborted} {y = answered d w m h nonce run} (closed-ranged d, tt)
    (either OutcomeGoes (is_over m h.code (w.queue ++ map whole_entry (told run.made)))
    {x = ends (finished (record d { engine = run.state })) Finished}
    {y = goes_on (sends (answering d w m h nonce run) (behind_answer w m h nonce) h.account)}
    (finished-ranged (record d { engine = run.state }), tt)
    (sends-goes (answering d w m h nonce run) (behind_answer w m h nonce) h.account
    (waits_ready c p m h nonce ready progress is heard own)
    (answering-ranged d w m h nonce run (waits-range d p h ranged.queue) ran msg heard.code))))
  where
    finished-ranged : (c : Machine) → Ranged (finished c)
    finished-ranged c = let h = closed-ranged c in record { queue = h.queue; engine = h.engine }

heard-ready : (c : Machine) (p : Progress) (m : Parts) (nonce : List ℕ) → IsReadyApart c → IsReadyProgress c p
    → IsReadyHeard p.standing m (heard_in c p m nonce)
heard-ready c p m nonce ready is =
    hears_ready Server (account_at c p.account) p.standing m nonce
    (account_ready c p.account ready.accounts is.account) is.room

own-next : (p : Progress) → is_last_own p ≡ false → p.standing.own < 2 ^ 32 → p.standing.own + 1 < 2 ^ 32
own-next p is low = let other = eqb-false p.standing.own 4294967295 is in omega (arith, other, low)

last-or-header : (b : Bool) (c : Machine) (p : Progress) (m : Parts) (nonce : List ℕ) → is_last_own p ≡ b
    → IsReadyApart c → IsReadyProgress c p → IsReadyMessage m nonce → Ranged c
    → OutcomeGoes (cond b (ends (closed (record c { resp_uri = option_or m.header.resp_uri c.resp_uri })) Aborted)
    (by_header (record c { resp_uri = option_or m.header.resp_uri c.resp_uri }) p m nonce (heard_in c p m nonce)))
last-or-header true c p m nonce last ready progress is ranged =
    (closed-ranged (record c { resp_uri = option_or m.header.resp_uri c.resp_uri }), tt)
last-or-header false c p m nonce last ready progress is ranged =
    header-goes c p m nonce (heard_in c p m nonce) ready progress is (heard-ready c p m nonce ready progress)
    (own-next p last progress.own) ranged

accepts-goes : (c : Machine) (p : Progress) (m : Parts) (nonce : List ℕ) → IsReadyMachine c → IsReadyProgress c p
    → IsReadyMessage m nonce → Ranged c
    → OutcomeGoes (accepts c p m nonce)
unfolding accepts
accepts-goes c p m nonce ready progress is ranged =
    last-or-header (is_last_own p) c p m nonce refl (apart c ready) progress is ranged

-- ---- events

message-by : (c : Machine) (o : Option Session) (m : Parts) (nonce : List ℕ) (kept : Option Parts) → IsReadyMachine c
    → IfSome o (λ (s : Session). IsReadyProgress c s.progress) → IsReadyMessage m nonce → Ranged c
    → Goes (cond (client.takes_message o m) (client.outcome_machine (client.message_outcome c o m nonce)) c)
    (cond (client.takes_message o m) (client.outcome_answer (client.message_outcome c o m nonce))
    (client.message_refusal o m kept))
message-by c None m nonce kept ready progress is ranged = (ranged, tt)
message-by c (Some s) m nonce kept ready progress is ranged =
    let x = accepts c s.progress m nonce in
    both-ways Goes (client.takes_message (Some s) m) (client.outcome_machine x) c (client.outcome_answer x)
    (client.message_refusal (Some s) m kept) (λ t. accepts-goes c s.progress m nonce ready progress is ranged)
    (λ t. unsaid c (client.message_refusal (Some s) m kept) (refusal-said (Some s) m kept) ranged)

abbrev pub Moves : Machine → client.Event → Type 0
Moves c e = Goes (client_runs.next c e) (client_runs.answer_now c e)

pub message-moves : (c : Machine) (m : Parts) (nonce : List ℕ) → IsReadyMachine c → IsReadyMessage m nonce → Ranged c
    → Moves c (client.message (Ok m) nonce)
unfolding client_runs.next client_runs.answer_now client.takes client.after client.taken_answer client.refusal
message-moves c m nonce ready is ranged =
    message-by c c.session m nonce (client_runs.kept_in c.session) ready ready.session is ranged

begins-goes : (c : Machine) (account : ℕ) (kind : Initiator) (n : ℕ) → IsReadyMachine c → account < length c.accounts
    → n < 2 ^ 32
    → Goes (begins c account kind n) (client.sent_in (begins c account kind n).session)
unfolding begins
begins-goes c account kind n ready low small =
    let d = closed c in
    let first = first_package d kind in
    sends-goes (beginning c kind n) (first_progress account kind n first) (account_at d account)
    (begins_to_send c account kind n (apart c ready) low small)
    (record { queue = package-range d kind; engine = (closed-ranged c).engine })

pub opened-moves : (c : Machine) (account : ℕ) (kind : Initiator) (n : ℕ) → IsReadyMachine c → account < length c.accounts
    → n < 2 ^ 32 → Ranged c
    → Moves c (client.opened account kind n)
unfolding client_runs.next client_runs.answer_now client.takes client.after client.taken_answer client.refusal
opened-moves c account kind n ready low small ranged =
    both-ways Goes (nat_lt c.begun n) (begins c account kind n) c
    (client.sent_in (begins c account kind n).session) (client.exhausted c.begun)
    (λ t. begins-goes c account kind n ready low small)
    (λ t. (ranged, tt))

pub act-moves : (c : Machine) (ok : Bool) → Ranged c → Moves c (client.act ok)
unfolding client_runs.next client_runs.answer_now client.after client.taken_answer client.refusal ends_update
act-moves c ok ranged =
    both-ways Goes (client.takes c (client.act ok)) (ends_update c ok) c client.acted client.not_now
    (λ t. (record { queue = ranged.queue; engine = ranged.engine }, tt)) (λ t. (ranged, tt))

pub clock-moves : (c : Machine) (stamp : Stamp) → Ranged c → Moves c (client.clock stamp)
unfolding client_runs.next client_runs.answer_now client.takes client.after client.taken_answer
clock-moves c stamp ranged = (record { queue = ranged.queue; engine = ranged.engine }, tt)

pub loss-moves : (c : Machine) → Ranged c → Moves c client.loss
unfolding client_runs.next client_runs.answer_now client.takes client.refusal
loss-moves c ranged = unsaid c (client.loss_answer c.session) (loss-said c.session) ranged
