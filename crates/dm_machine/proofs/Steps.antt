-- What an event that is taken does to the number begun last and to the open session, and when the answer to one that
-- isn't taken depends on the message kept. The laws on runs use these facts alone, and not the machine's definitions.
use Rattle.std.proofs.Common.{None, Some, ◌≡◌, ◌<◌, ◌==◌, ◌&&◌, not, ℕ, Bool, true, false, cond, List, refl, ◌∙◌, ap}
use Rattle.std.proofs.Common.{arith, nat_lt}
use Rattle.std.specs.Prelude.{Option, Result, Ok, Err, set}
use Rattle.std.specs.Option.{option_or}
use Rattle.std.specs.List.{list_any}
use Rattle.syncml_types.specs.Message.{Parts}
use Rattle.wbxml_tokens.specs.declared.reason.Refusal.{Refusal}
use Rattle.dm_auth.specs.declared.accounts.Account.{Account}
use Rattle.dm_headers.specs.declared.checks.Side.TheVariants.{Server}
use Rattle.dm_headers.specs.declared.standings.Standing.{Standing}
use Rattle.dm_headers.specs.Checks.{is_denied, passes}
use Rattle.dm_headers.specs.Standings.{Heard, hears}
use Rattle.dm_atomic.specs.Run.{Next}
use Rattle.dm_machine.specs.declared.kinds.End.TheVariants.{Aborted}
use Rattle.dm_machine.specs.declared.progress.Progress.{Progress}
use Rattle.dm_machine.specs.Machine.{Session, Machine}
use Rattle.dm_machine.specs.Sending.{sends}
use Rattle.dm_machine.specs.Messages.{Outcome, goes_on, ends, begins, Waits, queued_again, waits_after, is_over}
use Rattle.dm_machine.specs.Messages.{is_abort, account_at, closed, denied, run_of, answered, by_header, is_last_own}
use Rattle.dm_machine.specs.Messages.{accepts, ends_update}
use Rattle.dm_machine.specs.Events.{Event, clock, opened, message, loss, act, stale, stranger, session_of}
use Rattle.dm_machine.specs.Events.{is_same_number}
use Rattle.dm_machine.specs.Events.{is_of, last_of, takes, takes_message, message_outcome, outcome_answer}
use Rattle.dm_machine.specs.Events.{outcome_machine}
use Rattle.dm_machine.specs.Events.{after, taken_answer, sent_in, repeat_answer, message_refusal, refusal}
use Rattle.dm_machine.specs.History.{message_sent}

-- a session of a number, at a MsgID, with what was answered there
abbrev pub Left : ℕ → ℕ → Option Parts → Option Session → Type 0
Left number msg a None = Unit {0}
Left number msg a (Some x) = (x.progress.number ≡ number) × ((last_of x ≡ msg) × (a ≡ Some x.sent))

abbrev pub Moves : Option Session → Parts → Option Parts → Option Session → Type 0
Moves None m a o = ⊥
Moves (Some y) m a o =
    (session_of m ≡ Some y.progress.number) × ((last_of y < m.header.msg) × Left y.progress.number m.header.msg a o)

abbrev pub MovesRead : Option Session → Result Parts Refusal → Option Parts → Option Session → Type 0
MovesRead o (Ok m) a p = Moves o m a p
MovesRead o (Err place) a p = ⊥

abbrev pub Starts : ℕ → Option Session → Type 0
Starts number None = Unit {0}
Starts number (Some x) = (x.progress.number ≡ number) × (last_of x ≡ 0)

-- an event that is taken, answered so: from the number begun last and the session to those after it
abbrev pub Steps : ℕ → Option Session → Event → Option Parts → ℕ → Option Session → Type 0
Steps b o (clock stamp) a c p = (c ≡ b) × (p ≡ o)
Steps b o (opened account kind number) a c p = (b < number) × ((c ≡ number) × Starts number p)
Steps b o (message read nonce) a c p = (c ≡ b) × MovesRead o read a p
Steps b o loss a c p = ⊥
Steps b o (act ok) a c p = (c ≡ b) × (p ≡ o)

-- ---- a message

-- an outcome: the number begun last stays, and the session is of this number and at this MsgID, or over
abbrev Comes : ℕ → ℕ → ℕ → Outcome → Type 0
Comes b number msg (goes_on c) = (c.begun ≡ b) × Left number msg (message_sent (sent_in c.session)) c.session
Comes b number msg (ends c end) = (c.begun ≡ b) × (c.session ≡ None)

comes-either : (b number msg : ℕ) (over : Bool) (x y : Outcome) → Comes b number msg x → Comes b number msg y
    → Comes b number msg (cond over x y)
comes-either b number msg true x y h k = h
comes-either b number msg false x y h k = k

sends-comes : (c : Machine) (p : Progress) (a : Account) (number msg : ℕ) → p.number ≡ number → p.standing.last ≡ msg
    → Comes c.begun number msg (goes_on (sends c p a))
unfolding sends
sends-comes c p a number msg h k = (refl, (h, (k, refl)))

record Keeps (w v : Waits) : Type 0 where
  number : v.progress.number ≡ w.progress.number
  standing : v.progress.standing ≡ w.progress.standing

again-keeps : (c : Machine) (w : Waits) (b : Bool) → Keeps w (cond b (queued_again c w) w)
again-keeps c w true = record { number = refl; standing = refl }
again-keeps c w false = record { number = refl; standing = refl }

answered-comes : (c : Machine) (w : Waits) (m : Parts) (h : Heard) (nonce : List ℕ) (run : Next) (number : ℕ)
    → w.progress.number ≡ number → w.progress.standing.last ≡ m.header.msg
    → Comes c.begun number m.header.msg (answered c w m h nonce run)
answered-comes c w m h nonce run number e f =
    comes-either c.begun number m.header.msg (is_over m h.code _) _ _ (refl, refl)
    (sends-comes _ _ h.account number m.header.msg e f)

header-comes : (c : Machine) (p : Progress) (m : Parts) (nonce : List ℕ) (h : Heard) → h.standing.last ≡ m.header.msg
    → Comes c.begun p.number m.header.msg (by_header c p m nonce h)
header-comes c p m nonce h e =
    let d : Machine = record c { accounts = set c.accounts p.account h.account } in
    let before : Waits = record { progress = record p { standing = h.standing }; queue = d.queue } in
    let kept = again-keeps d before (is_denied h.status) in
    let w = waits_after d p h in
    let run = run_of d h.account m h.code in
    let aborts = passes h.code && list_any is_abort m.body in
    comes-either c.begun p.number m.header.msg h.second (denied d w m h nonce)
    (cond aborts (ends (closed d) Aborted) (answered d w m h nonce run)) (refl, refl)
    (comes-either c.begun p.number m.header.msg aborts (ends (closed d) Aborted) (answered d w m h nonce run)
    (refl, refl)
    (answered-comes d w m h nonce run p.number kept.number (ap (λ (s : Standing). s.last) kept.standing ∙ e)))

heard-last : (a : Account) (s : Standing) (m : Parts) (nonce : List ℕ)
    → (hears Server a s m nonce).standing.last ≡ m.header.msg
unfolding hears
heard-last a s m nonce = refl

accepts-comes : (c : Machine) (p : Progress) (m : Parts) (nonce : List ℕ)
    → Comes c.begun p.number m.header.msg (accepts c p m nonce)
unfolding accepts
accepts-comes c p m nonce =
    let d : Machine = record c { resp_uri = option_or m.header.resp_uri c.resp_uri } in
    let a = account_at d p.account in
    let h = hears Server a p.standing m nonce in
    comes-either c.begun p.number m.header.msg (is_last_own p) (ends (closed d) Aborted) (by_header d p m nonce h)
    (refl, refl) (header-comes d p m nonce h (heard-last a p.standing m nonce))

pub lt_of : (a b : ℕ) → nat_lt a b ≡ true → a < b
lt_of a b h = grind arith

of_number : (k : Option ℕ) (n : ℕ) → is_same_number k n ≡ true → k ≡ Some n
of_number None n h = cc
of_number (Some k) n h = let e : k ≡ n = grind (arith, h) in ap Some e

first_of : (c d : Bool) → (c && d) ≡ true → c ≡ true
first_of true d h = refl
first_of false d h = h

second_of : (c d : Bool) → (c && d) ≡ true → d ≡ true
second_of true d h = h
second_of false d h = cc

outcome-moves : (b number msg : ℕ) (x : Outcome) → Comes b number msg x
    → ((outcome_machine x).begun ≡ b) × Left number msg (message_sent (outcome_answer x)) (outcome_machine x).session
outcome-moves b number msg (goes_on c) h = h
outcome-moves b number msg (ends c end) h = (h.0, none-left c.session h.1)
  where
    none-left : (o : Option Session) → o ≡ None → Left number msg (message_sent (outcome_answer (ends c end))) o
    none-left None e = tt
    none-left (Some x) e = absurd (cc)

message-moves : (c : Machine) (o : Option Session) (m : Parts) (nonce : List ℕ) → takes_message o m ≡ true
    → ((outcome_machine (message_outcome c o m nonce)).begun ≡ c.begun)
    × Moves o m (message_sent (outcome_answer (message_outcome c o m nonce))) (outcome_machine
    (message_outcome c o m nonce)).session
message-moves c None m nonce h = absurd (cc)
message-moves c (Some y) m nonce h =
    let moved = outcome-moves c.begun y.progress.number m.header.msg (accepts c y.progress m nonce)
    (accepts-comes c y.progress m nonce) in (
      moved.0,
      (
        of_number (session_of m) y.progress.number (first_of _ _ h),
        (lt_of (last_of y) m.header.msg (second_of (is_of y m) _ h), moved.1),
      ),
    )

-- an open that is taken sets a higher number, and its session is at MsgID 0; a message that is taken leaves the session
-- at its MsgID with what it was answered with, or ends it; the clock and the end of an update leave both
pub steps : (c : Machine) (e : Event) → takes c e ≡ true
    → Steps c.begun c.session e (message_sent (taken_answer c e)) (after c e).begun (after c e).session
unfolding takes after taken_answer begins sends ends_update
steps c (clock stamp) h = (refl, refl)
steps c (opened account kind number) h = (lt_of c.begun number h, (refl, (refl, refl)))
steps c (message (Ok m) nonce) h = message-moves c c.session m nonce h
steps c (message (Err place) nonce) h = absurd (cc)
steps c loss h = absurd (cc)
steps c (act ok) h = (refl, refl)

-- ---- an event that isn't taken

-- whether a message is the last one that a session accepted
abbrev pub IsLastOf : Option Session → Option ℕ → ℕ → Type 0
IsLastOf None k msg = ⊥
IsLastOf (Some x) k msg = (k ≡ Some x.progress.number) × (last_of x ≡ msg)

pick : (c d : Bool) (x : Session) (f g : Option Parts) → (c ≡ true → d ≡ true → f ≡ g)
    → cond (not c) stranger (cond d (repeat_answer x f) (stale (last_of x)))
    ≡ cond (not c) stranger (cond d (repeat_answer x g) (stale (last_of x)))
pick true true x f g h = ap (λ k. repeat_answer x k) (h refl refl)
pick true false x f g h = refl
pick false d x f g h = refl

old-same : (o : Option Session) (m : Parts) (f g : Option Parts) → (IsLastOf o (session_of m) m.header.msg → f ≡ g)
    → message_refusal o m f ≡ message_refusal o m g
old-same None m f g h = refl
old-same (Some x) m f g h =
    pick (is_of x m) (last_of x == m.header.msg) x f g
    (λ c d. let last : last_of x ≡ m.header.msg = grind (arith, d) in h (
      of_number
          (session_of m) x.progress.number c,
      last,
    ))

-- the message kept is asked for at the last accepted message alone
abbrev pub AskedFor : Option Session → Event → Type 0
AskedFor o (message (Ok m) nonce) = IsLastOf o (session_of m) m.header.msg
AskedFor o other = ⊥

pub refusal_same : (c : Machine) (e : Event) (f g : Option Parts) → (AskedFor c.session e → f ≡ g)
    → refusal c e f ≡ refusal c e g
unfolding refusal
refusal_same c (clock stamp) f g h = refl
refusal_same c (opened account kind number) f g h = refl
refusal_same c (message (Ok m) nonce) f g h = old-same c.session m f g h
refusal_same c (message (Err place) nonce) f g h = refl
refusal_same c loss f g h = refl
refusal_same c (act ok) f g h = refl
