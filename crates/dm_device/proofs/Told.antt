-- What the outside tells over two steps.
use Rattle.std.proofs.Common.{◌≡◌, ℕ, List, Some, None, Ok, Err, refl}
use Rattle.std.specs.Prelude.{Option, Result}
use Rattle.dm_base.specs.declared.bytes.Memory.{Memory}
use Rattle.dm_outside.specs.declared.told.Update.{Update}
use Rattle.dm_outside.specs.Told.{IfTold}
use Rattle.dm_outside.specs.Calls.{Calls, IsIdle}
use Rattle.dm_device.specs.declared.exchanging.ReplyHeard.{ReplyHeard}
use Rattle.dm_device.specs.Exchanges.{Exchanges, ExchangeDoes}
use Rattle.dm_device.specs.Outsides.{Outside, outside_of, OfTold}

pub told_then : {S : Type 0} (a b c : Option S) (P Q R : S → S → Type 0)
    → ((s t u : S) → P s t → Q t u → R s u) → OfTold a b P → OfTold b c Q → OfTold a c R
told_then None b c P Q R both p q = tt
told_then (Some s) None c P Q R both p q = absurd p
told_then (Some s) (Some t) None P Q R both p q = absurd q
told_then (Some s) (Some t) (Some u) P Q R both p q = both s t u p q

pub told_as : {S : Type 0} (a b : Option S) (P Q : S → S → Type 0) → ((s t : S) → P s t → Q s t) → OfTold a b P
    → OfTold a b Q
told_as None b P Q as' p = tt
told_as (Some s) None P Q as' p = absurd p
told_as (Some s) (Some t) P Q as' p = as' s t p

pub told_same : {S : Type 0} (a : Option S) (P : S → S → Type 0) → ((s : S) → P s s) → OfTold a a P
told_same None P is = tt
told_same (Some s) P is = is s

pub if_told : {S : Type 0} (a b : Option S) (P : S → S → Type 0) → IfTold a b P → OfTold a b P
if_told None b P p = tt
if_told (Some s) None P p = p
if_told (Some s) (Some t) P p = p

-- ---- an exchange and the nonces behind it

abbrev pub StepDoes : List ℕ → List ℕ → Result ReplyHeard Memory → (List (List ℕ) → List (List ℕ) → Type 0) → Outside
    → Outside → Type 0
StepDoes address request r P t u =
    ExchangeDoes address request r t.calls u.calls × P t.nonces u.nonces × (u.updates ≡ t.updates)

pub step_told : (d0 d1 : Option Calls) (us : Option (List Update)) (n0 n1 : Option (List (List ℕ)))
    (address request : List ℕ) (r : Result ReplyHeard Memory) (P : List (List ℕ) → List (List ℕ) → Type 0)
    → Exchanges d0 d1 address request r → OfTold n0 n1 P
    → OfTold (outside_of d0 us n0) (outside_of d1 us n1) (StepDoes address request r P)
unfolding Exchanges
step_told None d1 us n0 n1 address request r P x p = tt
step_told (Some s) d1 None n0 n1 address request r P x p = tt
step_told (Some s) d1 (Some us) None n1 address request r P x p = tt
step_told (Some s) None (Some us) (Some ns) n1 address request r P x p = absurd x
step_told (Some s) (Some t) (Some us) (Some ns) None address request r P x p = absurd p
step_told (Some s) (Some t) (Some us) (Some ns) (Some ms) address request r P x p = (x, p, refl)

pub idle_after : (d0 d1 : Option Calls) (address request : List ℕ) (r : Result ReplyHeard Memory)
    → Exchanges d0 d1 address request r → IsIdle d1
unfolding Exchanges
idle_after None None address request r x = tt
idle_after None (Some t) address request r x = absurd x
idle_after (Some s) None address request r x = absurd x
idle_after (Some s) (Some t) address request (Ok h) x = x.0
idle_after (Some s) (Some t) address request (Err m) x = x.0
