-- No group is open where a session has ended.
use Rattle.std.proofs.Common.{◌≡◌, ◌&&◌, ◌+◌, ◌++◌, ℕ, Bool, true, false, cond, List, length, map, refl, sym, subst}
use Rattle.std.proofs.Common.{set, Option, None, Some}
use Rattle.std.specs.List.{list_any}
use Rattle.std.specs.Option.{option_or}
use Rattle.std.specs.Prelude.{⊤}
use Rattle.syncml_types.specs.Message.{Parts}
use Rattle.dm_headers.specs.declared.checks.Side.TheVariants.{Server}
use Rattle.dm_headers.specs.Checks.{passes}
use Rattle.dm_headers.specs.Standings.{Heard, hears}
use Rattle.dm_headers.specs.Headers.{header_answer}
use Rattle.dm_pack.specs.Entries.{Entry, whole_entry}
use Rattle.dm_atomic.specs.declared.engine.Engine.{Engine}
use Rattle.dm_atomic.specs.Engine.{state_of}
use Rattle.dm_atomic.specs.Run.{State, Next as Ran, abandoned}
use Rattle.dm_machine.specs.declared.progress.Progress.{Progress}
use Rattle.dm_machine.specs.Machine.{Machine}
use Rattle.dm_atomic.specs.Made.{told}
use Rattle.dm_machine.specs.declared.kinds.End.TheVariants.{Finished, Aborted}
use Rattle.dm_machine.specs.Sending.{sends}
use Rattle.dm_machine.specs.Messages.{Outcome, goes_on, ends, Waits, waits_after, account_at, closed, finished, denied}
use Rattle.dm_machine.specs.Messages.{is_abort, is_last_own, is_over, run_of, answered, by_header, accepts}
use Rattle.dm_session.specs.declared.drafts.Next.{Next}
use Rattle.dm_session.specs.declared.drafts.Next.TheVariants as drafts
use Rattle.dm_session.specs.declared.rest.Rest.{Rest}
use Rattle.dm_session.specs.Inside.{machine_of}
use Rattle.dm_session.specs.Working.{outcome, rest_behind}

abbrev ClosedAtEnd : Outcome → Type 0
ClosedAtEnd (goes_on c) = ⊤
ClosedAtEnd (ends c end) = c.engine.group ≡ None

either : (b : Bool) (x y : Outcome) → ClosedAtEnd x → ClosedAtEnd y → ClosedAtEnd (cond b x y)
either true x y h k = h
either false x y h k = k

no_group : (s : State) → (abandoned s).group ≡ None
unfolding abandoned
no_group s = refl

answered_closed : (c : Machine) (w : Waits) (m : Parts) (h : Heard) (nonce : List ℕ) (run : Ran)
    → ClosedAtEnd (answered c w m h nonce run)
answered_closed c w m h nonce run =
    let waiting = w.queue ++ map whole_entry (told run.made) in
    let answer = map whole_entry (header_answer m.header h.code nonce) in
    let d : Machine = record c { engine = run.state } in
    either (is_over m h.code waiting) (ends (finished d) Finished)
    (goes_on (sends (record d { queue = answer ++ waiting })
    (record w.progress { opening_at = w.progress.opening_at + length answer }) h.account)) (no_group run.state) tt

by_header_closed : (c : Machine) (p : Progress) (m : Parts) (nonce : List ℕ) (h : Heard)
    → ClosedAtEnd (by_header c p m nonce h)
by_header_closed c p m nonce h =
    let d : Machine = record c { accounts = set c.accounts p.account h.account } in
    let w = waits_after d p h in
    let run = run_of d h.account m h.code in
    let aborts = passes h.code && list_any is_abort m.body in
    either h.second (denied d w m h nonce) (cond aborts (ends (closed d) Aborted) (answered d w m h nonce run))
    (no_group c.engine)
    (either aborts (ends (closed d) Aborted) (answered d w m h nonce run) (no_group c.engine)
    (answered_closed d w m h nonce run))

accepts_closed : (c : Machine) (p : Progress) (m : Parts) (nonce : List ℕ) → ClosedAtEnd (accepts c p m nonce)
unfolding accepts
accepts_closed c p m nonce =
    let d : Machine = record c { resp_uri = option_or m.header.resp_uri c.resp_uri } in
    let h = hears Server (account_at d p.account) p.standing m nonce in
    either (is_last_own p) (ends (closed d) Aborted) (by_header d p m nonce h) (no_group c.engine)
    (by_header_closed d p m nonce h)

pub closed_behind : (c : Machine) (p : Progress) (m : Parts) (nonce : List ℕ) (e : Engine) (q : List Entry) (r : Rest)
    (n : Next) → outcome (machine_of e q (rest_behind r n)) n ≡ accepts c p m nonce → (rest_behind r n).session ≡ None
    → (state_of e).group ≡ None
closed_behind c p m nonce e q r (drafts.GoesOn session) is h = absurd (cc)
closed_behind c p m nonce e q r (drafts.Ends end farewell) is h =
    subst ClosedAtEnd (sym is) (accepts_closed c p m nonce)
