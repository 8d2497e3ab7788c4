-- Where a session ends, nothing waits and nothing is unfinished, and the tree before an open group stands.
use Rattle.std.proofs.Common.{◌≡◌, ◌&&◌, ◌==◌, ℕ, Bool, true, false, cond, List, [], ◌∷◌, length, refl, ap, ◌∙◌}
use Rattle.std.specs.Prelude.{Option, None, Some, set}
use Rattle.std.specs.Option.{option_or}
use Rattle.std.specs.List.{list_all, list_any}
use Rattle.syncml_types.specs.declared.command.Command.{Command}
use Rattle.syncml_types.specs.declared.command.Command.TheVariants as command
use Rattle.syncml_types.specs.Message.{Parts}
use Rattle.dm_auth.specs.declared.accounts.Account.{Account}
use Rattle.dm_headers.specs.Checks.{passes}
use Rattle.dm_headers.specs.declared.checks.Side.TheVariants.{Server}
use Rattle.dm_headers.specs.Standings.{Heard, hears}
use Rattle.dm_pack.specs.Entries.{Entry}
use Rattle.dm_atomic.specs.declared.tasks.Origin.{Origin}
use Rattle.dm_atomic.specs.Run.{State, Group, Running, quietly, run_command, run_all, still_of, still, committed}
use Rattle.dm_atomic.specs.Run.{abandoned}
use Rattle.dm_machine.specs.declared.kinds.End.TheVariants.{Aborted}
use Rattle.dm_machine.specs.declared.progress.Progress.{Progress}
use Rattle.dm_machine.specs.Machine.{Machine}
use Rattle.dm_machine.specs.Messages.{Outcome, ends, Waits, waits_after, account_at, closed, denied, is_abort}
use Rattle.dm_machine.specs.Messages.{is_report, running_for, is_quiet, execute, run_of, is_over, answered}
use Rattle.dm_machine.specs.Messages.{by_header, is_last_own, accepts}
use Rattle.dm_machine.specs.Laws.{GivesUpAtEnd}
use Rattle.dm_ends.specs.Commands.{origin_of}

first : (b c : Bool) → (b && c) ≡ true → b ≡ true
first true c h = refl
first false c h = h

second : (b c : Bool) → (b && c) ≡ true → c ≡ true
second true c h = h
second false c h = absurd (cc)

-- ---- reports are no commands

one-report : (r : Running) (o : Origin) (s : State) (c : Command) → is_report c ≡ true → (run_command r o s c).state ≡ s
unfolding run_command
one-report r o s (command.Plain c) h = absurd (cc)
one-report r o s (command.Alert c) h = absurd (cc)
one-report r o s (command.Atomic b) h = absurd (cc)
one-report r o s (command.Sequence b) h = absurd (cc)
one-report r o s (command.Status c) h = refl
one-report r o s (command.Results c) h = refl

reports-run : (r : Running) (o : Origin) (s : State) (cs : List Command) → list_all is_report cs ≡ true
    → (run_all r o s cs).state ≡ s
reports-run r o s [] h = refl
reports-run r o s (c ∷ cs) h =
    ap (λ t. (run_all r o t cs).state) (one-report r o s c (first (is_report c) (list_all is_report cs) h))
    ∙ reports-run r o s cs (second (is_report c) (list_all is_report cs) h)

still-keeps : (s : State) (g : Option Group) → s.group ≡ g → committed (still_of s g).state ≡ committed s
still-keeps s None e = rw e refl
still-keeps s (Some g) e = rw e refl

quiet-keeps : (s : State) (b : Bool) → committed (cond b (still s) (quietly s)).state ≡ committed s
unfolding still
quiet-keeps s true = still-keeps s s.group refl
quiet-keeps s false = refl

execute-keeps : (c : Machine) (a : Account) (m : Parts) → list_all is_report m.body ≡ true
    → committed (execute c a m).state ≡ committed c.engine
unfolding execute
execute-keeps c a m h =
    let run = run_all (running_for c a) (origin_of m) c.engine m.body in
    quiet-keeps run.state (is_quiet m)
    ∙ ap committed (reports-run (running_for c a) (origin_of m) c.engine m.body h)

run-keeps : (c : Machine) (a : Account) (m : Parts) (b : Bool) → list_all is_report m.body ≡ true
    → committed (cond b (execute c a m) (quietly c.engine)).state ≡ committed c.engine
run-keeps c a m true h = execute-keeps c a m h
run-keeps c a m false h = refl

-- ---- ends

leaves-either : (before : State) (over : Bool) (x y : Outcome) → GivesUpAtEnd before x → GivesUpAtEnd before y
    → GivesUpAtEnd before (cond over x y)
leaves-either before true x y h k = h
leaves-either before false x y h k = k

over-leaves : (before : State) (b : Bool) (x y : Outcome) → (b ≡ true → GivesUpAtEnd before x) → GivesUpAtEnd before y
    → GivesUpAtEnd before (cond b x y)
over-leaves before true x y h k = h refl
over-leaves before false x y h k = k

over-reports : (m : Parts) (code : ℕ) (waiting : List Entry) → is_over m code waiting ≡ true
    → list_all is_report m.body ≡ true
over-reports m code waiting h =
    second (passes code && m.last) (list_all is_report m.body)
    (first (passes code && m.last && list_all is_report m.body) (length waiting == 0) h)

answered-leaves : (c : Machine) (w : Waits) (m : Parts) (h : Heard) (nonce : List ℕ)
    → GivesUpAtEnd c.engine (answered c w m h nonce (run_of c h.account m h.code))
unfolding abandoned
answered-leaves c w m h nonce =
    over-leaves c.engine (is_over m h.code _) _ _
    (λ o. record {
      tree = run-keeps c h.account m (passes h.code) (over-reports m h.code _ o);
      queue = refl;
      session = refl;
      group = refl;
      object = refl;
    }) tt

header-leaves : (c : Machine) (p : Progress) (m : Parts) (nonce : List ℕ) (h : Heard)
    → GivesUpAtEnd c.engine (by_header c p m nonce h)
unfolding abandoned
header-leaves c p m nonce h =
    let d : Machine = record c { accounts = set c.accounts p.account h.account } in
    let w = waits_after d p h in
    let run = run_of d h.account m h.code in
    let aborts = passes h.code && list_any is_abort m.body in
    leaves-either c.engine h.second (denied d w m h nonce)
    (cond aborts (ends (closed d) Aborted) (answered d w m h nonce run))
    (record { tree = refl; queue = refl; session = refl; group = refl; object = refl })
    (leaves-either c.engine aborts (ends (closed d) Aborted) (answered d w m h nonce run)
    (record { tree = refl; queue = refl; session = refl; group = refl; object = refl })
    (answered-leaves d w m h nonce))

pub ends_give_up : (c : Machine) (p : Progress) (m : Parts) (nonce : List ℕ) → GivesUpAtEnd c.engine (accepts c p m nonce)
unfolding accepts abandoned
ends_give_up c p m nonce =
    let d : Machine = record c { resp_uri = option_or m.header.resp_uri c.resp_uri } in
    let h = hears Server (account_at d p.account) p.standing m nonce in
    leaves-either c.engine (is_last_own p) (ends (closed d) Aborted) (by_header d p m nonce h)
    (record { tree = refl; queue = refl; session = refl; group = refl; object = refl })
    (header-leaves d p m nonce h)
