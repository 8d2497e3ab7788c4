-- How many connections a run asks for.
use Rattle.std.proofs.Common.{◌≡◌, ◌∙◌, ◌≤◌, ◌+◌, ◌++◌, ℕ, List, [], ◌∷◌, inl, inr, ap, Ok, Err, Result, arith, length}
use Rattle.std.proofs.Common.{length-append}
use Rattle.dm_base.specs.declared.outside.Fault.{Fault}
use Rattle.dm_base.specs.declared.outside.Fault.TheVariants as fault
use Rattle.dm_core.specs.Machines.{CoreMachine}
use Rattle.dm_exit.specs.declared.exit.Exit.TheVariants as exit
use Rattle.dm_outside.specs.Doors.{Doorway, Visit, missed, accept_count}
use Rattle.dm_service.specs.Messages.{first_service}
use Rattle.dm_server.specs.Taking.{service_machine}
use Rattle.dm_serving.specs.Visits.{Serving, serving_reached}
use Rattle.dm_serving.specs.Turns.{DoorAndNonces, visited_by, listened_at, serving_at, IsCutBy, AllCame, OneMissed}
use Rattle.dm_serving.specs.Turns.{OneCut, ServingDoes}
use Rattle.dm_serving.specs.Laws.{FewAreAccepted, AllAreAccepted, OnceListens}

visited_count : (s : Doorway) (vs : List Visit) → accept_count (visited_by s vs) ≡ accept_count s + length vs
visited_count s vs = let long = length-append s.log vs in omega (arith, long)

came_count : {S : Type 0} (m : CoreMachine S) (count : ℕ) (c d : S) (s t : DoorAndNonces) → AllCame m count c d s t
    → accept_count t.door ≡ accept_count s.door + count
came_count m count c d s t came =
    ap accept_count came.door ∙ visited_count s.door came.visits ∙ ap (λ n. accept_count s.door + n) came.all

missed_count : {S : Type 0} (m : CoreMachine S) (count : ℕ) (c : S) (s t : DoorAndNonces) → OneMissed m count c s t
    → accept_count t.door ≤ accept_count s.door + count
missed_count m count c s t o =
    let all = ap accept_count o.door ∙ visited_count s.door (o.visits ++ missed ∷ []) in
    let long = length-append o.visits (missed ∷ []) in
    let fewer = o.fewer in
    omega (arith, all, long, fewer)

cut_short : {S : Type 0} (m : CoreMachine S) (g : Serving S) (vs : List Visit) → IsCutBy m g vs → length vs ≤ 1
cut_short m g [] h = omega arith
cut_short m g (v ∷ []) h = omega arith
cut_short m g (v ∷ w ∷ vs) h = absurd h

cut_count : {S : Type 0} (m : CoreMachine S) (count : ℕ) (c : S) (s t : DoorAndNonces) → OneCut m count c s t
    → accept_count t.door ≤ accept_count s.door + count
cut_count m count c s t o =
    let all = ap accept_count o.door ∙ visited_count s.door (o.visits ++ o.cut) in
    let long = length-append o.visits o.cut in
    let short = cut_short m (serving_reached m (serving_at c s.nonces) o.brought) o.cut o.last in
    let fewer = o.fewer in
    omega (arith, all, long, short, fewer)

run_count : {S : Type 0} (m : CoreMachine S) (address : List ℕ) (count : ℕ) (c d : S) (r : Result (Unit {0}) Fault) (s t : DoorAndNonces)
    → ServingDoes m address count c d r s t → accept_count t.door ≤ accept_count s.door + count
run_count m address count c d (Ok u) s t run =
    let all = came_count m count c d (listened_at s address) t run in omega (arith, all)
run_count m address count c d (Err fault.Failed) s t (inl h) =
    let all = ap (λ (o : DoorAndNonces). accept_count o.door) h.1 in omega (arith, all)
run_count m address count c d (Err fault.Failed) s t (inr o) = missed_count m count c (listened_at s address) t o
run_count m address count c d (Err fault.Memory) s t (inl h) =
    let all = ap (λ (o : DoorAndNonces). accept_count o.door) h in omega (arith, all)
run_count m address count c d (Err fault.Memory) s t (inr o) = cut_count m count c (listened_at s address) t o

pub few_are_accepted : FewAreAccepted
few_are_accepted w job old new exit.Done s t d = run_count service_machine w.address w.count (first_service job) d.0 (Ok tt) s t d.1
few_are_accepted w job old new exit.DoorFault s t d = run_count service_machine w.address w.count (first_service job) (first_service job) (Err fault.Failed) s t d.0
few_are_accepted w job old new exit.WriteFault s t d = run_count service_machine w.address w.count (first_service job) d.0 (Ok tt) s t d.1
few_are_accepted w job old new exit.NoMemory s t (inl d) = run_count service_machine w.address w.count (first_service job) d.0 (Ok tt) s t d.1
few_are_accepted w job old new exit.NoMemory s t (inr d) = run_count service_machine w.address w.count (first_service job) (first_service job) (Err fault.Memory) s t d.0
few_are_accepted w job old new other s t d = absurd d

pub all_are_accepted : AllAreAccepted
all_are_accepted w job old new s t d = came_count service_machine w.count (first_service job) d.0 (listened_at s w.address) t d.1

-- ---- how often it listens

once : (s t : DoorAndNonces) (address : List ℕ) (vs : List Visit) → t.door ≡ visited_by (listened_at s address).door vs
    → length t.door.listened ≤ length s.door.listened + 1
once s t address vs h =
    let all = ap (λ (w : Doorway). length w.listened) h in
    let long = length-append s.door.listened (address ∷ []) in
    omega (arith, all, long)

run_once : {S : Type 0} (m : CoreMachine S) (address : List ℕ) (count : ℕ) (c d : S) (r : Result (Unit {0}) Fault) (s t : DoorAndNonces)
    → ServingDoes m address count c d r s t → length t.door.listened ≤ length s.door.listened + 1
run_once m address count c d (Ok u) s t run = once s t address run.visits run.door
run_once m address count c d (Err fault.Failed) s t (inl h) =
    let all = ap (λ (o : DoorAndNonces). length o.door.listened) h.1 in
    let long = length-append s.door.listened (address ∷ []) in
    omega (arith, all, long)
run_once m address count c d (Err fault.Failed) s t (inr o) = once s t address (o.visits ++ missed ∷ []) o.door
run_once m address count c d (Err fault.Memory) s t (inl h) =
    let all = ap (λ (o : DoorAndNonces). length o.door.listened) h in omega (arith, all)
run_once m address count c d (Err fault.Memory) s t (inr o) = once s t address (o.visits ++ o.cut) o.door

pub once_listens : OnceListens
once_listens w job old new exit.Done s t d = run_once service_machine w.address w.count (first_service job) d.0 (Ok tt) s t d.1
once_listens w job old new exit.DoorFault s t d = run_once service_machine w.address w.count (first_service job) (first_service job) (Err fault.Failed) s t d.0
once_listens w job old new exit.WriteFault s t d = run_once service_machine w.address w.count (first_service job) d.0 (Ok tt) s t d.1
once_listens w job old new exit.NoMemory s t (inl d) = run_once service_machine w.address w.count (first_service job) d.0 (Ok tt) s t d.1
once_listens w job old new exit.NoMemory s t (inr d) = run_once service_machine w.address w.count (first_service job) (first_service job) (Err fault.Memory) s t d.0
once_listens w job old new other s t d = absurd d
