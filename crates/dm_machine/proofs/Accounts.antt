-- No event makes accounts more or fewer.
use Rattle.std.proofs.Common.{◌≡◌, ℕ, Bool, true, false, cond, List, length, refl, ◌∙◌, Option, None, Some, Ok, Err}
use Rattle.std.proofs.lemmas.List.{length-set}
use Rattle.std.specs.Prelude.{◌&&◌, set}
use Rattle.std.specs.List.{list_any}
use Rattle.std.specs.Option.{option_or}
use Rattle.syncml_types.specs.Message.{Parts}
use Rattle.dm_headers.specs.declared.checks.Side.TheVariants.{Server}
use Rattle.dm_headers.specs.Checks.{passes}
use Rattle.dm_headers.specs.Standings.{Heard, hears}
use Rattle.dm_atomic.specs.Run.{Next}
use Rattle.dm_machine.specs.declared.kinds.Initiator.{Initiator}
use Rattle.dm_machine.specs.declared.kinds.End.TheVariants.{Aborted}
use Rattle.dm_machine.specs.declared.progress.Progress.{Progress}
use Rattle.dm_machine.specs.Machine.{Machine, Session}
use Rattle.dm_machine.specs.Messages.{Outcome, ends, Waits, account_at, closed, is_abort, is_over, denied, answered}
use Rattle.dm_machine.specs.Messages.{by_header, is_last_own, run_of, waits_after, accepts, ends_update, begins}
use Rattle.dm_machine.specs.Sending.{sends}
use Rattle.dm_machine.specs.Events.{Event, clock, opened, message, loss, act, takes, after, outcome_machine}
use Rattle.dm_machine.specs.Events.{message_outcome}
use Rattle.dm_machine.specs.History.{next}

abbrev count : Machine → ℕ
count c = length c.accounts

-- so many are left by what a message does
record Has (n : ℕ) (x : Outcome) : Type 0 where
  is : count (outcome_machine x) ≡ n

either : (b : Bool) (x y : Outcome) (n : ℕ) → Has n x → Has n y → Has n (cond b x y)
either true x y n a b = a
either false x y n a b = b

begins_count : (c : Machine) (account : ℕ) (kind : Initiator) (number : ℕ) → count (begins c account kind number) ≡ count c
unfolding begins sends
begins_count c account kind number = refl

answered_has : (c : Machine) (w : Waits) (m : Parts) (h : Heard) (nonce : List ℕ) (run : Next)
    → Has (count c) (answered c w m h nonce run)
unfolding sends
answered_has c w m h nonce run =
    either (is_over m h.code _) _ _ (count c) (record { is = refl }) (record { is = refl })

by_header_has : (c : Machine) (p : Progress) (m : Parts) (nonce : List ℕ) (h : Heard)
    → Has (count c) (by_header c p m nonce h)
by_header_has c p m nonce h =
    let d = record c { accounts = set c.accounts p.account h.account } in
    let w = waits_after d p h in
    let run = run_of d h.account m h.code in
    let aborts = passes h.code && list_any is_abort m.body in
    let is : count d ≡ count c = length-set c.accounts p.account h.account in
    either h.second (denied d w m h nonce) (cond aborts (ends (closed d) Aborted) (answered d w m h nonce run))
    (count c) (record { is = is })
    (either aborts (ends (closed d) Aborted) (answered d w m h nonce run) (count c) (record { is = is })
    (record { is = (answered_has d w m h nonce run).is ∙ is }))

accepts_has : (c : Machine) (p : Progress) (m : Parts) (nonce : List ℕ) → Has (count c) (accepts c p m nonce)
unfolding accepts
accepts_has c p m nonce =
    let d = record c { resp_uri = option_or m.header.resp_uri c.resp_uri } in
    let h = hears Server (account_at d p.account) p.standing m nonce in
    either (is_last_own p) (ends (closed d) Aborted) (by_header d p m nonce h) (count c) (record { is = refl })
    (by_header_has d p m nonce h)

message_count : (c : Machine) (o : Option Session) (m : Parts) (nonce : List ℕ)
    → count (outcome_machine (message_outcome c o m nonce)) ≡ count c
message_count c None m nonce = refl
message_count c (Some s) m nonce = (accepts_has c s.progress m nonce).is

acts_count : (c : Machine) (ok : Bool) → count (ends_update c ok) ≡ count c
unfolding ends_update
acts_count c ok = refl

after_count : (c : Machine) (e : Event) → count (after c e) ≡ count c
unfolding after
after_count c (clock stamp) = refl
after_count c (opened account kind number) = begins_count c account kind number
after_count c (message (Ok m) nonce) = message_count c c.session m nonce
after_count c (message (Err place) nonce) = refl
after_count c loss = refl
after_count c (act ok) = acts_count c ok

machine_either : (b : Bool) (c d : Machine) (n : ℕ) → count c ≡ n → count d ≡ n → count (cond b c d) ≡ n
machine_either true c d n x y = x
machine_either false c d n x y = y

pub accounts_stay : (c : Machine) (e : Event) → length (next c e).accounts ≡ length c.accounts
unfolding next
accounts_stay c e = machine_either (takes c e) (after c e) c (count c) (after_count c e) refl
