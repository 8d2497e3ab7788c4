-- What beginning a session, a message that is accepted, and the end of an update do.
use Rattle.std.specs.Prelude.{◌==◌, ◌&&◌, ◌+◌, ℕ, Bool, true, false, not, if◌then◌else◌, List, [], ◌∷◌, ◌++◌, take}
use Rattle.std.specs.Prelude.{drop, set, length, map, Option, None, Some, get_or, option_and_then}
use Rattle.std.specs.Option.{option_or}
use Rattle.std.specs.List.{list_any, list_all}
use Rattle.syncml_types.specs.declared.command.Plain.{Plain}
use Rattle.syncml_types.specs.declared.command.Member.{Member}
use Rattle.syncml_types.specs.declared.command.Member.TheVariants as member
use Rattle.syncml_types.specs.declared.command.SeqMember.{SeqMember}
use Rattle.syncml_types.specs.declared.command.SeqMember.TheVariants as seq_member
use Rattle.syncml_types.specs.declared.command.Command.{Command}
use Rattle.syncml_types.specs.declared.command.Command.TheVariants as command
use Rattle.syncml_types.specs.Message.{Parts}
use Rattle.dm_auth.specs.declared.accounts.Account.{Account}
use Rattle.dm_headers.specs.declared.checks.Side.TheVariants.{Server}
use Rattle.dm_headers.specs.declared.standings.Standing.{Standing}
use Rattle.dm_headers.specs.Checks.{is_denied, passes}
use Rattle.dm_headers.specs.Standings.{Heard, hears}
use Rattle.dm_headers.specs.Headers.{header_answer}
use Rattle.dm_commands.specs.Outcomes.{asked_by}
use Rattle.dm_atomic.specs.declared.reports.Started.{Started}
use Rattle.dm_atomic.specs.Made.{told}
use Rattle.dm_atomic.specs.Updates.{update_finished}
use Rattle.dm_atomic.specs.Run.{Running, Next, quietly, run_all, still, abandoned}
use Rattle.dm_pack.specs.Entries.{Entry, whole_entry}
pub use Rattle.dm_ends.specs.Commands.{is_abort, is_report}
use Rattle.dm_ends.specs.Beginning.{first_standing as begun_standing}
use Rattle.dm_ends.specs.Farewells.{farewell}
use Rattle.dm_ends.specs.Commands.{origin_of}
use Rattle.dm_machine.specs.declared.kinds.Initiator.{Initiator}
use Rattle.dm_machine.specs.declared.kinds.End.{End}
use Rattle.dm_machine.specs.declared.kinds.End.TheVariants.{Finished, Aborted, Denied}
use Rattle.dm_machine.specs.declared.progress.Progress.{Progress}
use Rattle.dm_machine.specs.Machine.{Machine}
use Rattle.dm_machine.specs.Opening.{first_package}
use Rattle.dm_machine.specs.Sending.{header_from, sends}

-- the session goes on, or has ended
pub data Outcome : Type 0 where
  goes_on : Machine → Outcome
  ends : Machine → End → Outcome

-- ---- ends

-- the queue, an unfinished object and an open group are given up
abbrev pub closed : Machine → Machine
closed c = record c { engine = abandoned c.engine; queue = []; session = None }

-- and the results of updates are told
abbrev pub finished : Machine → Machine
finished c = record (closed c) { results = [] }

-- ---- beginning

abbrev pub no_account : Account
no_account = record {
  server = [];
  server_password = None;
  server_nonce = [];
  user = None;
  user_password = None;
  user_nonce = [];
}

abbrev pub account_at : Machine → ℕ → Account
account_at c at = get_or c.accounts at no_account

-- nobody is accepted yet, and the first package, which is the client's, ends with its first Final
abbrev pub opening_standing : Standing
opening_standing = begun_standing true false

-- the whole first package waits
abbrev pub first_progress : ℕ → Initiator → ℕ → List Entry → Progress
first_progress account kind number first = record {
  number = number;
  account = account;
  kind = kind;
  standing = opening_standing;
  opening_at = 0;
  opening_left = length first;
}

-- a session that is still open ends by Aborted first, which no answer tells
unfoldable pub begins : Machine → ℕ → Initiator → ℕ → Machine
begins c account kind number =
    let d = closed c in
    let first = first_package d kind in
    sends (record d { queue = first; begun = number; resp_uri = None; farewell = None })
    (first_progress account kind number first) (account_at d account)

-- ---- a message: what its header changes

-- how far the session has come then, and what waits
pub record Waits : Type 0 where
  pub progress : Progress
  pub queue : List Entry

-- the entries of the first package that wait are taken out, and the whole package stands at the end
abbrev pub queued_again : Machine → Waits → Waits
queued_again c w =
    let p = w.progress in
    let rest = take p.opening_at w.queue ++ drop (p.opening_at + p.opening_left) w.queue in
    let first = first_package c p.kind in
    record {
      progress = record p { opening_at = length rest; opening_left = length first };
      queue = rest ++ first;
    }

abbrev pub waits_after : Machine → Progress → Heard → Waits
waits_after c p h =
    let w : Waits = record { progress = record p { standing = h.standing }; queue = c.queue } in
    if is_denied h.status then queued_again c w else w

-- ---- a message: its commands

-- a step of a verb
abbrev pub has_items : Plain → Bool
has_items c = not (length c.items == 0)

abbrev pub member_has_step : Member → Bool
member_has_step (member.One c) = has_items c
member_has_step (member.Alert a) = false

abbrev pub seq_member_has_step : SeqMember → Bool
seq_member_has_step (seq_member.Single m) = member_has_step m
seq_member_has_step (seq_member.Atomic b) = list_any member_has_step b.members

abbrev pub has_step : Command → Bool
has_step (command.Plain c) = has_items c
has_step (command.Alert a) = false
has_step (command.Atomic b) = list_any member_has_step b.members
has_step (command.Sequence b) = list_any seq_member_has_step b.members
has_step (command.Status c) = false
has_step (command.Results c) = false

-- the end of a package without a step of a verb
abbrev pub is_quiet : Parts → Bool
is_quiet m = m.last && not (list_any has_step m.body)

-- the server asks, at the machine's clock
abbrev pub running_for : Machine → Account → Running
running_for c a = record { setting = asked_by a.server c.clock; max_obj = c.limits.max_obj }

abbrev pub quiet_after : Parts → Next → Next
quiet_after m run =
    let s = if is_quiet m then still run.state else quietly run.state in
    record { state = s.state; made = run.made ++ s.made }

-- its commands in document order, and then what it breaks
unfoldable pub execute : Machine → Account → Parts → Next
execute c a m = quiet_after m (run_all (running_for c a) (origin_of m) c.engine m.body)

-- ---- a message: the whole

-- Denied, with a farewell
abbrev pub farewell_of : Machine → Progress → Account → Parts → ℕ → List ℕ → Parts
farewell_of c p a m code nonce = farewell (header_from c p a) m code nonce

abbrev pub denied : Machine → Waits → Parts → Heard → List ℕ → Outcome
denied c w m h nonce =
    ends (record (closed c) { farewell = Some (farewell_of c w.progress h.account m h.code nonce) }) Denied

-- nothing is left on either side: a message with Final and no command, and no entry waits
abbrev pub is_over : Parts → ℕ → List Entry → Bool
is_over m code waiting = passes code && m.last && list_all is_report m.body && length waiting == 0

-- the header's Status goes before what waits, and what was made behind it
abbrev pub answered : Machine → Waits → Parts → Heard → List ℕ → Next → Outcome
answered c w m h nonce run =
    let d = record c { engine = run.state } in
    let waiting = w.queue ++ map whole_entry (told run.made) in
    let answer = map whole_entry (header_answer m.header h.code nonce) in
    if is_over m h.code waiting then ends (finished d) Finished
    else goes_on (sends (record d { queue = answer ++ waiting })
    (record w.progress { opening_at = w.progress.opening_at + length answer }) h.account)

-- a message passes, or nothing of it is executed
abbrev pub run_of : Machine → Account → Parts → ℕ → Next
run_of c a m code = if passes code then execute c a m else quietly c.engine

abbrev pub by_header : Machine → Progress → Parts → List ℕ → Heard → Outcome
by_header c p m nonce h =
    let d = record c { accounts = set c.accounts p.account h.account } in
    let w = waits_after d p h in
    if h.second then denied d w m h nonce
    else if passes h.code && list_any is_abort m.body then ends (closed d) Aborted
    else answered d w m h nonce (run_of d h.account m h.code)

-- the client's own MsgID can't rise above the greatest number
abbrev pub is_last_own : Progress → Bool
is_last_own p = p.standing.own == 4294967295

unfoldable pub accepts : Machine → Progress → Parts → List ℕ → Outcome
accepts c p m nonce =
    let d = record c { resp_uri = option_or m.header.resp_uri c.resp_uri } in
    let a = account_at d p.account in
    if is_last_own p then ends (closed d) Aborted else by_header d p m nonce (hears Server a p.standing m nonce)

-- ---- the end of an update

abbrev pub correlator_of : Option Started → Option (List ℕ)
correlator_of started = option_and_then (λ (u : Started). u.correlator) started

unfoldable pub ends_update : Machine → Bool → Machine
ends_update c ok = record c {
  engine = update_finished c.clock c.engine ok;
  results = c.results ++ record { correlator = correlator_of c.engine.started; ok = ok } ∷ [];
}
