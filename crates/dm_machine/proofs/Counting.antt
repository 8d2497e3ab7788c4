-- What is counted of a message is what the machine runs, and a session that is denied ends with a farewell.
use Rattle.std.proofs.Common.{◌≡◌, ◌&&◌, ℕ, Bool, true, false, cond, List, refl}
use Rattle.std.specs.Prelude.{not, set, Some}
use Rattle.std.specs.Option.{option_or}
use Rattle.std.specs.List.{list_any}
use Rattle.syncml_types.specs.Message.{Parts}
use Rattle.dm_auth.specs.declared.accounts.Account.{Account}
use Rattle.dm_headers.specs.Checks.{passes}
use Rattle.dm_headers.specs.declared.checks.Side.TheVariants.{Server}
use Rattle.dm_headers.specs.Standings.{Heard, hears}
use Rattle.dm_atomic.specs.Run.{State, Next, quietly}
use Rattle.dm_machine.specs.declared.kinds.End.TheVariants.{Aborted}
use Rattle.dm_machine.specs.declared.progress.Progress.{Progress}
use Rattle.dm_machine.specs.Machine.{Machine}
use Rattle.dm_machine.specs.Messages.{Outcome, ends, goes_on, Waits, waits_after, account_at, closed, denied, is_abort}
use Rattle.dm_machine.specs.Messages.{execute, run_of, is_over, answered, by_header, is_last_own, accepts}
use Rattle.dm_machine.specs.Sending.{sends}
use Rattle.dm_machine.specs.Statuses.{GoesOnWith, CountsWhatRuns}
use Rattle.dm_machine.specs.Laws.{HasFarewell, DeniedHasAFarewell}

pick : (l s p a : Bool) (run kept : Next) (x y z : Outcome) (f : Next → Outcome)
    → ((t : State) → GoesOnWith t x) → ((t : State) → GoesOnWith t y) → ((t : State) → GoesOnWith t z)
    → ((n : Next) → GoesOnWith n.state (f n))
    → GoesOnWith (cond (not l && (not s && (p && not a))) run kept).state
    (cond l x (cond s y (cond (p && a) z (f (cond p run kept)))))
pick true s p a run kept x y z f hx hy hz hf = hx _
pick false true p a run kept x y z f hx hy hz hf = hy _
pick false false true true run kept x y z f hx hy hz hf = hz _
pick false false true false run kept x y z f hx hy hz hf = hf run
pick false false false a run kept x y z f hx hy hz hf = hf kept

either-goes : (b : Bool) (t : State) (x y : Outcome) → GoesOnWith t x → GoesOnWith t y → GoesOnWith t (cond b x y)
either-goes true t x y h k = h
either-goes false t x y h k = k

answered-goes : (c : Machine) (w : Waits) (m : Parts) (h : Heard) (nonce : List ℕ) (n : Next)
    → GoesOnWith n.state (answered c w m h nonce n)
unfolding sends
answered-goes c w m h nonce n = either-goes (is_over m h.code _) n.state _ _ tt refl

pub counts : CountsWhatRuns
unfolding accepts execute
counts c p m nonce =
    let b : Machine = record c { resp_uri = option_or m.header.resp_uri c.resp_uri } in
    let h = hears Server (account_at c p.account) p.standing m nonce in
    let d : Machine = record b { accounts = set b.accounts p.account h.account } in
    let w = waits_after d p h in
    pick (is_last_own p) h.second (passes h.code) (list_any is_abort m.body) (execute c h.account m) (quietly c.engine)
    (ends (closed b) Aborted) (denied d w m h nonce) (ends (closed d) Aborted) (λ n. answered d w m h nonce n)
    (λ t. tt) (λ t. tt) (λ t. tt) (answered-goes d w m h nonce)

either-has : (b : Bool) (x y : Outcome) → HasFarewell x → HasFarewell y → HasFarewell (cond b x y)
either-has true x y h k = h
either-has false x y h k = k

denied-has : (c : Machine) (w : Waits) (m : Parts) (h : Heard) (nonce : List ℕ) → HasFarewell (denied c w m h nonce)
denied-has c w m h nonce = search

answered-has : (c : Machine) (w : Waits) (m : Parts) (h : Heard) (nonce : List ℕ) (n : Next)
    → HasFarewell (answered c w m h nonce n)
answered-has c w m h nonce n = either-has (is_over m h.code _) _ _ tt tt

pub farewells : DeniedHasAFarewell
unfolding accepts
farewells c p m nonce =
    let b : Machine = record c { resp_uri = option_or m.header.resp_uri c.resp_uri } in
    let h = hears Server (account_at c p.account) p.standing m nonce in
    let d : Machine = record b { accounts = set b.accounts p.account h.account } in
    let w = waits_after d p h in
    let run = run_of d h.account m h.code in
    let aborts = passes h.code && list_any is_abort m.body in
    either-has (is_last_own p) (ends (closed b) Aborted) (by_header b p m nonce h) tt
    (either-has h.second (denied d w m h nonce) (cond aborts (ends (closed d) Aborted) (answered d w m h nonce run))
    (denied-has d w m h nonce)
    (either-has aborts (ends (closed d) Aborted) (answered d w m h nonce run) tt (answered-has d w m h nonce run)))
