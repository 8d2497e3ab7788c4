-- A session that isn't begun leaves the machine.
use Rattle.std.proofs.Common.{◌≡◌, ℕ, Bool, true, false, refl, Some, None, if◌then◌else◌}
use Rattle.std.specs.Prelude.{Option}
use Rattle.dm_machine.specs.declared.kinds.Initiator.{Initiator}
use Rattle.dm_machine.specs.Machine.{Machine, Session}
use Rattle.dm_machine.specs.Events.{Event, opened, Answer, exhausted, takes, after, taken_answer, refusal, sent_in}
use Rattle.dm_machine.specs.Messages.{begins}
use Rattle.dm_machine.specs.History.{answer_now, next, kept_in}

never_exhausted : (o : Option Session) (last : ℕ) → sent_in o ≡ exhausted last → ⊥
never_exhausted None last e = cc
never_exhausted (Some s) last e = cc

by_taken : (c : Machine) (e : Event) (b : Bool) (last : ℕ) (a : Answer)
    → (b ≡ true → a ≡ exhausted last → ⊥)
    → (if b then a else refusal c e (kept_in c.session)) ≡ exhausted last → (if b then after c e else c) ≡ c
by_taken c e true last a never is = absurd (never refl is)
by_taken c e false last a never is = refl

pub none_begins : (c : Machine) (account : ℕ) (kind : Initiator) (number last : ℕ)
    → answer_now c (opened account kind number) ≡ exhausted last → next c (opened account kind number) ≡ c
unfolding answer_now next taken_answer
none_begins c account kind number last is =
    by_taken c (opened account kind number) (takes c (opened account kind number)) last
    (taken_answer c (opened account kind number))
    (λ t e. never_exhausted (begins c account kind number).session last e) is
