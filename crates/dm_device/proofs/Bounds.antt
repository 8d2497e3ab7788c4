-- How many requests a session makes at most: each exchange raises five times the accepted messages and those lost in a
-- row.
use Rattle.std.proofs.Common.{◌≡◌, ◌<◌, ◌≤◌, ◌+◌, ◌++◌, ◌||◌, ℕ, Bool, true, false, cond, List, [], ◌∷◌, refl, Some}
use Rattle.std.proofs.Common.{None}
use Rattle.std.proofs.Common.{arith, length, length-append, ltb, ltb-true, subst, sym, if◌then◌else◌}
use Rattle.std.specs.Prelude.{Option}
use Rattle.dm_machine.specs.Events.{Answer, clocked, sent, kept, again, stale, stranger, no_session, refused, exhausted}
use Rattle.dm_machine.specs.Events.{ended, acted, not_now}
use Rattle.dm_machine.specs.History.{answer_now}
use Rattle.dm_device.specs.declared.exchanging.ReplyHeard.{ReplyHeard}
use Rattle.dm_device.specs.declared.exchanging.ReplyHeard.TheVariants as heard
use Rattle.dm_device.specs.declared.tally.Word.{Word}
use Rattle.dm_device.specs.declared.tally.Word.TheVariants as word
use Rattle.dm_device.specs.declared.tally.Tally.{Tally}
use Rattle.dm_device.specs.Sessions.{Going, Turn, SessionRun, IsWithinLimits}
use Rattle.dm_device.specs.Sessions.{loses, turn_accepting, turn_answering, arrives, delivered, turn, session, asks}
use Rattle.dm_device.specs.Sessions.{unless_over}
use Rattle.dm_device.specs.Sessions.{tally_measure, at_first}
use Rattle.dm_machine.specs.Machine.{Machine}
use Rattle.dm_device.specs.Runs.{Route, Heards, Run, farewells, closing, closing_by, last_session, telling, follow_up}
use Rattle.dm_device.specs.Runs.{leaves_update, behind_first, device_run}

-- where the session goes on, it is as before, and more was spent
abbrev pub Spends : Tally → Turn → Type 0
Spends t u = u.word ≡ None → IsWithinLimits u.going.tally × (tally_measure t < tally_measure u.going.tally)

test_of : (c : Bool) (w : Option Word) → cond c None w ≡ None → (w ≡ None → ⊥) → c ≡ true
test_of true w e some = refl
test_of false w e some = absurd (some e)

some_word : (c : Bool) (v w : Word) → cond c (Some v) (Some w) ≡ None → ⊥
some_word true v w e = cc
some_word false v w e = cc

loss_spends : (g : Going) (blamed : Bool) → IsWithinLimits g.tally → Spends g.tally (loses g blamed)
loss_spends g blamed going e =
    let low : g.tally.lost + 1 < 5 = ltb-true (g.tally.lost + 1) 5
    (test_of (ltb (g.tally.lost + 1) 5) (cond (g.tally.blamed || blamed) (Some word.Peer) (Some word.GaveUp)) e
    (some_word (g.tally.blamed || blamed) word.Peer word.GaveUp)) in
    ((low, going.1), omega arith)

accept_spends : (g : Going) → IsWithinLimits g.tally → Spends g.tally (turn_accepting g)
accept_spends g going e =
    let low : g.tally.accepted + 1 < 100000 = ltb-true (g.tally.accepted + 1) 100000
    (test_of (ltb (g.tally.accepted + 1) 100000) (Some word.Peer) e (λ k. cc)) in
    ((omega arith, low), omega (arith, going.0))

answer_spends : (g : Going) (a : Answer) → IsWithinLimits g.tally → Spends g.tally (turn_answering g a)
answer_spends g (sent m) going = accept_spends g going
answer_spends g (ended end farewell) going = λ e. cc
answer_spends g clocked going = loss_spends g true going
answer_spends g (kept m) going = loss_spends g true going
answer_spends g (again m) going = loss_spends g true going
answer_spends g (stale last) going = loss_spends g true going
answer_spends g stranger going = loss_spends g true going
answer_spends g no_session going = loss_spends g true going
answer_spends g (refused refusal) going = loss_spends g true going
answer_spends g (exhausted last) going = loss_spends g true going
answer_spends g acted going = loss_spends g true going
answer_spends g not_now going = loss_spends g true going

turn_spends : (g : Going) (h : ReplyHeard) → IsWithinLimits g.tally → Spends g.tally (turn g h)
unfolding turn
turn_spends g heard.Fault going = loss_spends g false going
turn_spends g heard.Refused going = loss_spends g true going
turn_spends g (heard.Body bytes) going =
    answer_spends (delivered g bytes) (answer_now g.machine (arrives g bytes)) going

by_turn : (g k : Going) (w : Option Word) (r : List ℕ) (s : SessionRun) → IsWithinLimits g.tally
    → (w ≡ None → IsWithinLimits k.tally × (tally_measure g.tally < tally_measure k.tally))
    → (IsWithinLimits k.tally → length s.requests + tally_measure k.tally ≤ 500000)
    → length ((r ∷ []) ++ (unless_over w k s).requests) + tally_measure g.tally ≤ 500000
by_turn g k None r s going goes rest =
    let n = goes refl in
    let m = rest n.0 in
    omega (arith, m, n.1)
by_turn g k (Some w) r s going goes rest = omega (arith, going.0, going.1)

pub bounded : (address path : List ℕ) (g : Going) (hs : List ReplyHeard) → IsWithinLimits g.tally
    → length (session address path g hs).requests + tally_measure g.tally ≤ 500000
bounded address path g [] going = omega (arith, going.0, going.1)
bounded address path g (h ∷ hs) going =
    by_turn g (turn g h).going (turn g h).word (asks address path g.machine)
    (session address path (turn g h).going hs) going (turn_spends g h going)
    (λ n. bounded address path (turn g h).going hs n)

-- ---- a whole run

farewell_short : (address path : List ℕ) (c : Machine) (w : Word) → length (farewells address path c w) ≤ 1
farewell_short address path c word.Denied = omega arith
farewell_short address path c word.Finished = omega arith
farewell_short address path c word.Aborted = omega arith
farewell_short address path c word.GaveUp = omega arith
farewell_short address path c word.Peer = omega arith

closing_short : (r : Route) (c : Machine) (n : List (List ℕ)) (o : Option Word)
    → length (closing_by r c n o).requests ≤ 1
closing_short r c n None = omega arith
closing_short r c n (Some w) = farewell_short r.address r.path c w

last_short : (r : Route) (number : ℕ) (s : SessionRun) → length s.requests ≤ 500000
    → length (last_session r number s).requests ≤ 500001
last_short r number s few =
    let a = length-append s.requests (closing_by r s.going.machine s.going.nonces s.word).requests in
    let b = closing_short r s.going.machine s.going.nonces s.word in
    omega (arith, a, b, few)

either : (b : Bool) (x y : Run) (n : ℕ) → length x.requests ≤ n → length y.requests ≤ n
    → length (if b then x else y).requests ≤ n
either true x y n p q = p
either false x y n p q = q

session_short : (address path : List ℕ) (g : Going) (hs : List ReplyHeard) → g.tally ≡ at_first
    → length (session address path g hs).requests ≤ 500000
session_short address path g hs fresh =
    let b = bounded address path g hs (subst IsWithinLimits (sym fresh) (omega arith, omega arith)) in
    omega (arith, b)

behind_short : (r : Route) (account number : ℕ) (c : Machine) (n : List (List ℕ)) (h : Heards) (o : Option Word)
    → length (behind_first r account number c n h o).requests ≤ 500001
behind_short r account number c n h None = omega arith
behind_short r account number c n h (Some w) =
    let g = telling account (number + 1) c n h.updated in
    let few = last_short r (number + 1) (session r.address r.path g h.second)
    (session_short r.address r.path g h.second refl) in
    let one = farewell_short r.address r.path c w in
    either (leaves_update w c) (follow_up r account (number + 1) c n h.updated h.second) (closing r c n w) 500001 few
    (omega (arith, one))

pub run_bounded : (r : Route) (account number : ℕ) (g : Going) (h : Heards) → g.tally ≡ at_first
    → length (device_run r account number g h).requests ≤ 1000001
unfolding device_run
run_bounded r account number g h fresh =
    let s = session r.address r.path g h.first in
    let rest = behind_first r account number s.going.machine s.going.nonces h s.word in
    let a = length-append s.requests rest.requests in
    let b = behind_short r account number s.going.machine s.going.nonces h s.word in
    let few = session_short r.address r.path g h.first fresh in
    omega (arith, a, b, few)
