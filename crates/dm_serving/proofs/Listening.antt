-- A door that listens first.
use Rattle.std.proofs.Common.{◌≡◌, ◌∙◌, ℕ, List, inl, inr, ap, subst, Ok, Err, Result, Some, None}
use Rattle.std.specs.declared.option.Option.{Option}
use Rattle.dm_base.specs.declared.outside.Fault.{Fault}
use Rattle.dm_base.specs.declared.outside.Fault.TheVariants as fault
use Rattle.dm_core.specs.Machines.{CoreMachine}
use Rattle.dm_outside.specs.Doors.{Doorway, Listens, IsEmpty}
use Rattle.dm_outside.specs.Told.{IfTold}
use Rattle.dm_serving.specs.Turns.{DoorAndNonces, door_and_nonces, listened_at, AllCame, OneMissed, OneCut, AllDo}
use Rattle.dm_serving.specs.Turns.{ServingDoes}
use Rattle.dm_serving.proofs.Gathering.{told_then}

pub still_empty : (told0 told1 : Option Doorway) (address : List ℕ) (r : Result (Unit {0}) Fault) → IsEmpty told0
    → Listens told0 told1 address r → IsEmpty told1
still_empty None None address r empty h = tt
still_empty None (Some t) address r empty h = absurd h
still_empty (Some s) None address r empty h = absurd h
still_empty (Some s) (Some t) address (Ok u) empty h = ap (λ (w : Doorway). w.out) h.1 ∙ empty
still_empty (Some s) (Some t) address (Err fault.Failed) empty h = ap (λ (w : Doorway). w.out) h.1 ∙ empty
still_empty (Some s) (Some t) address (Err fault.Memory) empty h = ap (λ (w : Doorway). w.out) h ∙ empty

abbrev IsListening : List ℕ → DoorAndNonces → DoorAndNonces → Type 0
IsListening address s t = t ≡ listened_at s address

listening : (told0 told1 : Option Doorway) (address : List ℕ) (u : Unit {0}) (rest : Option (List (List ℕ)))
    → Listens told0 told1 address (Ok u) → IfTold (door_and_nonces told0 rest) (door_and_nonces told1 rest) (IsListening address)
listening None None address u rest h = tt
listening None (Some t) address u rest h = absurd h
listening (Some s) None address u rest h = absurd h
listening (Some s) (Some t) address u None h = tt
listening (Some s) (Some t) address u (Some ns) h = ap (λ w. record { door = w; nonces = ns }) h.1

pub not_listening : {S : Type 0} (m : CoreMachine S) (count : ℕ) (c : S) (told0 told1 : Option Doorway) (address : List ℕ) (f : Fault)
    (rest : Option (List (List ℕ))) → Listens told0 told1 address (Err f)
    → IfTold (door_and_nonces told0 rest) (door_and_nonces told1 rest) (ServingDoes m address count c c (Err f))
not_listening m count c None None address f rest h = tt
not_listening m count c None (Some t) address f rest h = absurd h
not_listening m count c (Some s) None address f rest h = absurd h
not_listening m count c (Some s) (Some t) address f None h = tt
not_listening m count c (Some s) (Some t) address fault.Failed (Some ns) h = inl (h.0, ap (λ w. record { door = w; nonces = ns }) h.1)
not_listening m count c (Some s) (Some t) address fault.Memory (Some ns) h = inl (ap (λ w. record { door = w; nonces = ns }) h)

run_then : {S : Type 0} (m : CoreMachine S) (address : List ℕ) (count : ℕ) (c d : S) (r : Result (Unit {0}) Fault) (s t u : DoorAndNonces)
    → IsListening address s t → AllDo m count c d r t u → ServingDoes m address count c d r s u
run_then m address count c d (Ok x) s t u e h = subst (λ w. AllCame m count c d w u) e h
run_then m address count c d (Err fault.Failed) s t u e h = inr (subst (λ w. OneMissed m count c w u) e h)
run_then m address count c d (Err fault.Memory) s t u e h = inr (subst (λ w. OneCut m count c w u) e h)

pub listened_then : {S : Type 0} (m : CoreMachine S) (address : List ℕ) (count : ℕ) (c d : S) (r : Result (Unit {0}) Fault)
    (told0 told1 told2 : Option Doorway) (left0 left1 : Option (List (List ℕ))) (u : Unit {0}) → Listens told0 told1 address (Ok u)
    → IfTold (door_and_nonces told1 left0) (door_and_nonces told2 left1) (AllDo m count c d r)
    → IfTold (door_and_nonces told0 left0) (door_and_nonces told2 left1) (ServingDoes m address count c d r)
listened_then m address count c d r told0 told1 told2 left0 left1 u h all =
    told_then _ _ _ (IsListening address) (AllDo m count c d r) (ServingDoes m address count c d r)
    (run_then m address count c d r) (listening told0 told1 address u left0 h) all
