-- Whatever happens, what was started is what the tree tells, and no group is open where no session is.
use Rattle.std.proofs.Common.{◌≡◌, ◌&&◌, ◌+◌, ◌++◌, ℕ, Bool, true, false, not, cond, List, [], ◌∷◌, length, map, refl}
use Rattle.std.proofs.Common.{Option, None, Some, Ok, Err}
use Rattle.std.specs.Prelude.{set, is_some, Result}
use Rattle.std.specs.List.{list_any}
use Rattle.std.specs.Option.{option_or}
use Rattle.syncml_types.specs.declared.command.Command.{Command}
use Rattle.syncml_types.specs.Message.{Parts}
use Rattle.wbxml_tokens.specs.declared.reason.Refusal.{Refusal}
use Rattle.dm_auth.specs.declared.accounts.Account.{Account}
use Rattle.dm_headers.specs.declared.checks.Side.TheVariants.{Server}
use Rattle.dm_headers.specs.Checks.{passes}
use Rattle.dm_headers.specs.Headers.{header_answer}
use Rattle.dm_headers.specs.Standings.{Heard, hears}
use Rattle.dm_pack.specs.Entries.{whole_entry}
use Rattle.dm_atomic.specs.declared.tasks.Origin.{Origin}
use Rattle.dm_atomic.specs.Made.{told}
use Rattle.dm_atomic.specs.Run.{State, Running, Next, run_command, run_all, quietly, still, abandoned}
use Rattle.dm_atomic.specs.Updates.{is_updating, TellsStarted}
use Rattle.dm_atomic.proofs.Tellings.{command_keeps, quiet_keeps, result_keeps}
use Rattle.dm_machine.specs.declared.kinds.Initiator.{Initiator}
use Rattle.dm_machine.specs.declared.kinds.End.TheVariants.{Finished, Aborted}
use Rattle.dm_machine.specs.declared.progress.Progress.{Progress}
use Rattle.dm_machine.specs.Machine.{Machine, Session}
use Rattle.dm_machine.specs.Messages.{Outcome, goes_on, ends, Waits, account_at, closed, finished, is_abort, is_over}
use Rattle.dm_machine.specs.Messages.{denied, answered, by_header, is_last_own, is_quiet, running_for}
use Rattle.dm_machine.specs.Messages.{execute, run_of, waits_after, accepts, ends_update, begins}
use Rattle.dm_machine.specs.Sending.{sends}
use Rattle.dm_machine.specs.Events.{Event, clock, opened, message, loss, act, takes, after, outcome_machine}
use Rattle.dm_machine.specs.Events.{message_outcome}
use Rattle.dm_machine.specs.History.{next}
use Rattle.dm_machine.specs.Laws.{IsSteady, StaysSteady}
use Rattle.dm_ends.specs.Commands.{origin_of}

-- ---- what is executed

all-tell : (r : Running) (o : Origin) (s : State) (cs : List Command) → TellsStarted s
    → TellsStarted (run_all r o s cs).state
all-tell r o s [] tells = tells
all-tell r o s (c ∷ cs) tells = all-tell r o (run_command r o s c).state cs (command_keeps r o s c tells)

quiet-tells : (s : State) (b : Bool) → TellsStarted s → TellsStarted (cond b (still s) (quietly s)).state
quiet-tells s true tells = (quiet_keeps s tells).0
quiet-tells s false tells = tells

execute-tells : (c : Machine) (a : Account) (m : Parts) → TellsStarted c.engine → TellsStarted (execute c a m).state
unfolding execute
execute-tells c a m tells =
    quiet-tells (run_all (running_for c a) (origin_of m) c.engine m.body).state (is_quiet m)
    (all-tell (running_for c a) (origin_of m) c.engine m.body tells)

run-tells : (c : Machine) (a : Account) (m : Parts) (b : Bool) → TellsStarted c.engine
    → TellsStarted (cond b (execute c a m) (quietly c.engine)).state
run-tells c a m true tells = execute-tells c a m tells
run-tells c a m false tells = tells

-- ---- what a message does

record Steady (x : Outcome) : Type 0 where
  is : IsSteady (outcome_machine x)

either : (b : Bool) (x y : Outcome) → Steady x → Steady y → Steady (cond b x y)
either true x y h k = h
either false x y h k = k

given-up : (c : Machine) → TellsStarted c.engine → IsSteady (closed c)
unfolding abandoned
given-up c tells = record { started = (quiet_keeps c.engine tells).1; closed = λ h. refl }

sends-steady : (c : Machine) (p : Progress) (a : Account) → TellsStarted c.engine → IsSteady (sends c p a)
unfolding sends
sends-steady c p a tells = record { started = tells; closed = λ h. absurd (cc) }

denied-steady : (c : Machine) (w : Waits) (m : Parts) (h : Heard) (nonce : List ℕ) → TellsStarted c.engine
    → IsSteady (outcome_machine (denied c w m h nonce))
denied-steady c w m h nonce tells =
    let up = given-up c tells in
    record { started = up.started; closed = up.closed }

finished-steady : (c : Machine) → TellsStarted c.engine → IsSteady (finished c)
finished-steady c tells =
    let up = given-up c tells in
    record { started = up.started; closed = up.closed }

answered-steady : (c : Machine) (w : Waits) (m : Parts) (h : Heard) (nonce : List ℕ) (run : Next)
    → TellsStarted run.state → Steady (answered c w m h nonce run)
answered-steady c w m h nonce run tells =
    let d : Machine = record c { engine = run.state } in
    let waiting = w.queue ++ map whole_entry (told run.made) in
    let answer = map whole_entry (header_answer m.header h.code nonce) in
    either (is_over m h.code waiting) (ends (finished d) Finished)
    (goes_on (sends (record d { queue = answer ++ waiting })
    (record w.progress { opening_at = w.progress.opening_at + length answer }) h.account))
    (record { is = finished-steady d tells })
    (record {
      is = sends-steady (record d { queue = answer ++ waiting })
          (record w.progress { opening_at = w.progress.opening_at + length answer }) h.account tells;
    })

header-steady : (c : Machine) (p : Progress) (m : Parts) (nonce : List ℕ) (h : Heard) → TellsStarted c.engine
    → Steady (by_header c p m nonce h)
header-steady c p m nonce h tells =
    let d : Machine = record c { accounts = set c.accounts p.account h.account } in
    let w = waits_after d p h in
    let run = run_of d h.account m h.code in
    let aborts = passes h.code && list_any is_abort m.body in
    either h.second (denied d w m h nonce) (cond aborts (ends (closed d) Aborted) (answered d w m h nonce run))
    (record { is = denied-steady d w m h nonce tells })
    (either aborts (ends (closed d) Aborted) (answered d w m h nonce run) (record { is = given-up d tells })
    (answered-steady d w m h nonce run (run-tells d h.account m (passes h.code) tells)))

accepts-steady : (c : Machine) (p : Progress) (m : Parts) (nonce : List ℕ) → TellsStarted c.engine
    → Steady (accepts c p m nonce)
unfolding accepts
accepts-steady c p m nonce tells =
    let d : Machine = record c { resp_uri = option_or m.header.resp_uri c.resp_uri } in
    let h = hears Server (account_at d p.account) p.standing m nonce in
    either (is_last_own p) (ends (closed d) Aborted) (by_header d p m nonce h) (record { is = given-up d tells })
    (header-steady d p m nonce h tells)

message-steady : (c : Machine) (o : Option Session) (m : Parts) (nonce : List ℕ) → IsSteady c
    → IsSteady (outcome_machine (message_outcome c o m nonce))
message-steady c None m nonce steady = steady
message-steady c (Some s) m nonce steady = (accepts-steady c s.progress m nonce steady.started).is

-- ---- the other events

begins-steady : (c : Machine) (account : ℕ) (kind : Initiator) (number : ℕ) → TellsStarted c.engine
    → IsSteady (begins c account kind number)
unfolding begins
begins-steady c account kind number tells = sends-steady _ _ _ (given-up c tells).started

no-session : (o : Option Session) (b : Bool) → not (is_some o) && b ≡ true → (o ≡ None) × (b ≡ true)
no-session None true h = (refl, refl)
no-session None false h = absurd (cc)
no-session (Some s) b h = absurd (cc)

acts-steady : (c : Machine) (ok : Bool) → not (is_some c.session) && is_updating c.engine.tree ≡ true → IsSteady c
    → IsSteady (ends_update c ok)
unfolding ends_update
acts-steady c ok t steady =
    let is = no-session c.session (is_updating c.engine.tree) t in
    let closed = steady.closed is.0 in
    record { started = result_keeps c.clock c.engine ok steady.started is.1 closed; closed = λ h. closed }

after-steady : (c : Machine) (e : Event) → takes c e ≡ true → IsSteady c → IsSteady (after c e)
unfolding after takes
after-steady c (clock stamp) t steady = record { started = steady.started; closed = steady.closed }
after-steady c (opened account kind number) t steady = begins-steady c account kind number steady.started
after-steady c (message (Ok m) nonce) t steady = message-steady c c.session m nonce steady
after-steady c (message (Err place) nonce) t steady = steady
after-steady c loss t steady = steady
after-steady c (act ok) t steady = acts-steady c ok t steady

steady-by : (b : Bool) (c d : Machine) → (b ≡ true → IsSteady d) → IsSteady c → IsSteady (cond b d c)
steady-by true c d h k = h refl
steady-by false c d h k = k

pub stays_steady : StaysSteady
unfolding next
stays_steady c e steady = steady-by (takes c e) c (after c e) (λ t. after-steady c e t steady) steady
