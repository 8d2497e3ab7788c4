-- Over a run each step that is executed has its Status, waits for its group's close, or waited where its session ended.
use Rattle.std.proofs.Common.{◌≡◌, ◌+◌, ◌&&◌, ℕ, Bool, true, false, not, cond, List, [], ◌∷◌, Option, None, Some}
use Rattle.std.proofs.Common.{Ok, Err, if◌then◌else◌, refl, ap, arith}
use Rattle.std.specs.List.{sum_by}
use Rattle.std.proofs.lemmas.List.Sums.{sum_by-append}
use Rattle.syncml_types.specs.Message.{Parts}
use Rattle.dm_headers.specs.declared.checks.Side.TheVariants.{Server}
use Rattle.dm_headers.specs.Checks.{passes}
use Rattle.dm_headers.specs.Standings.{hears}
use Rattle.dm_atomic.specs.declared.tasks.Post.{Post}
use Rattle.dm_atomic.specs.Posts.{NoneLost, all_asked, made_posts, waiting_posts}
use Rattle.dm_atomic.specs.Run.{State, Next, quietly, abandoned}
use Rattle.dm_machine.specs.declared.kinds.End.{End}
use Rattle.dm_machine.specs.declared.progress.Progress.{Progress}
use Rattle.dm_machine.specs.Machine.{Machine, Session}
use Rattle.dm_machine.specs.Sending.{sends}
use Rattle.dm_machine.specs.Messages.{Outcome, goes_on, ends, account_at, execute, begins, ends_update}
use Rattle.dm_machine.specs.Messages.{accepts}
use Rattle.dm_machine.specs.Events.{Event, opened, message, loss, act, clock, after, outcome_machine}
use Rattle.dm_machine.specs.Events.{message_outcome}
use Rattle.dm_machine.specs.History.{fresh, reached}
use Rattle.dm_machine.specs.Statuses.{Counted, counted_at, waiting_at, executed, message_counted}
use Rattle.dm_machine.specs.Statuses.{session_counted}
use Rattle.dm_machine.specs.Statuses.{asked_in_run, made_in_run, given_up_in_run}
use Rattle.dm_machine.proofs.Statuses.{one_status_each}
use Rattle.dm_ends.specs.Commands.{origin_of}

-- what an event asks was made, was given up, or waits
abbrev Balances : (Post → ℕ) → State → Counted → State → Type 0
Balances weight before n now =
    sum_by weight (waiting_posts before.group) + sum_by weight n.asked
    ≡ sum_by weight n.made + (sum_by weight n.given_up + sum_by weight (waiting_posts now.group))

abbrev OfMessage : (Post → ℕ) → State → List Post → Next → Bool → Outcome → Type 0
OfMessage weight before asked run executed outcome =
    Balances weight before (record {
      asked = cond executed asked [];
      made = made_posts (cond executed run (quietly before)).made;
      given_up = waiting_at outcome (cond executed run (quietly before)).state.group;
    }) (outcome_machine outcome).engine

-- where the session ends and nothing was executed
ended_quietly : (weight : Post → ℕ) (before : State) (asked : List Post) (run : Next) (c : Machine) (end : End)
    → c.engine.group ≡ None → OfMessage weight before asked run false (ends c end)
ended_quietly weight before asked run c end none =
    let waits = ap (λ g. sum_by weight (waiting_posts g)) none in omega (arith, waits)

-- a message by what its header comes to: the session's last number, a second failure, whether it passes, an abort, and
-- whether nothing is left on either side
message_cases : (weight : Post → ℕ) (before : State) (asked : List Post) (run : Next)
    → (last second pass abort over : Bool) (at_last denied aborted finished going : Machine) (e1 e2 e3 e4 : End)
    → at_last.engine.group ≡ None → denied.engine.group ≡ None → aborted.engine.group ≡ None
    → finished.engine.group ≡ None → going.engine.group ≡ (cond pass run (quietly before)).state.group
    → NoneLost asked run.made before.group run.state.group
    → OfMessage weight before asked run (not last && (not second && (pass && not abort)))
    (if last then ends at_last e1 else if second then ends denied e2 else if pass && abort then ends aborted e3
    else if over then ends finished e4 else goes_on going)
message_cases weight before asked run true second pass abort over c1 c2 c3 c4 c5 e1 e2 e3 e4 n1 n2 n3 n4 same none =
    ended_quietly weight before asked run c1 e1 n1
message_cases weight before asked run false true pass abort over c1 c2 c3 c4 c5 e1 e2 e3 e4 n1 n2 n3 n4 same none =
    ended_quietly weight before asked run c2 e2 n2
message_cases weight before asked run false false true true over c1 c2 c3 c4 c5 e1 e2 e3 e4 n1 n2 n3 n4 same none =
    ended_quietly weight before asked run c3 e3 n3
message_cases weight before asked run false false true false true c1 c2 c3 c4 c5 e1 e2 e3 e4 n1 n2 n3 n4 same none =
    let waits = ap (λ g. sum_by weight (waiting_posts g)) n4 in
    let all = none weight in omega (arith, waits, all)
message_cases weight before asked run false false true false false c1 c2 c3 c4 c5 e1 e2 e3 e4 n1 n2 n3 n4 same none =
    let waits = ap (λ g. sum_by weight (waiting_posts g)) same in
    let all = none weight in omega (arith, waits, all)
message_cases weight before asked run false false false abort true c1 c2 c3 c4 c5 e1 e2 e3 e4 n1 n2 n3 n4 same none =
    ended_quietly weight before asked run c4 e4 n4
message_cases weight before asked run false false false abort false c1 c2 c3 c4 c5 e1 e2 e3 e4 n1 n2 n3 n4 same none =
    let waits = ap (λ g. sum_by weight (waiting_posts g)) same in omega (arith, waits)

message_balances : (weight : Post → ℕ) (c : Machine) (p : Progress) (m : Parts) (nonce : List ℕ)
    → Balances weight c.engine (message_counted c p m nonce) (outcome_machine (accepts c p m nonce)).engine
unfolding accepts sends abandoned execute
message_balances weight c p m nonce =
    let h = hears Server (account_at c p.account) p.standing m nonce in
    message_cases weight c.engine (all_asked (origin_of m) m.body) (execute c h.account m) _ h.second (passes h.code) _
    _
    _ _ _ _ _ _ _ _ _ refl refl refl refl refl (one_status_each c h.account m)

by_session : (weight : Post → ℕ) (c : Machine) (s : Option Session) (m : Parts) (nonce : List ℕ)
    → Balances weight c.engine (session_counted c s m nonce) (outcome_machine (message_outcome c s m nonce)).engine
by_session weight c None m nonce = omega arith
by_session weight c (Some s) m nonce = message_balances weight c s.progress m nonce

event_balances : (weight : Post → ℕ) (c : Machine) (e : Event)
    → Balances weight c.engine (counted_at c e) (after c e).engine
unfolding after begins ends_update sends abandoned
event_balances weight c (clock stamp) = omega arith
event_balances weight c (opened account kind number) = omega arith
event_balances weight c (message (Ok m) nonce) = by_session weight c c.session m nonce
event_balances weight c (message (Err place) nonce) = omega arith
event_balances weight c loss = omega arith
event_balances weight c (act ok) = omega arith

runs_balance : (weight : Post → ℕ) (c : Machine) (es : List Event)
    → sum_by weight (waiting_posts c.engine.group) + sum_by weight (asked_in_run c es)
    ≡ sum_by weight (made_in_run c es) + (sum_by weight (given_up_in_run c es)
    + sum_by weight (waiting_posts (reached c es).engine.group))
runs_balance weight c [] = omega arith
runs_balance weight c (e ∷ es) =
    let n = counted_at c e in
    let d = after c e in
    let here = event_balances weight c e in
    let behind = runs_balance weight d es in
    let asked = sum_by-append weight n.asked (asked_in_run d es) in
    let made = sum_by-append weight n.made (made_in_run d es) in
    let given_up = sum_by-append weight n.given_up (given_up_in_run d es) in
    omega (arith, here, behind, asked, made, given_up)

pub one_status_in_runs : (c : Machine) (es : List Event) (weight : Post → ℕ)
    → sum_by weight (waiting_posts c.engine.group) + sum_by weight (asked_in_run c (fresh c es))
    ≡ sum_by weight (made_in_run c (fresh c es)) + (sum_by weight (given_up_in_run c (fresh c es))
    + sum_by weight (waiting_posts (reached c (fresh c es)).engine.group))
one_status_in_runs c es weight = runs_balance weight c (fresh c es)
