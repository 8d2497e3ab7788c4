-- What one turn at a door does, and all turns of a run.
use Rattle.std.specs.Prelude.{◌≡◌, ◌<◌, ◌⊎◌, ◌++◌, ℕ, IsFalse, List, [], ◌∷◌, length, drop, Option, Some, None, Result}
use Rattle.std.specs.Prelude.{Ok, Err, ⊤}
use Rattle.dm_base.specs.declared.outside.Fault.{Fault}
use Rattle.dm_base.specs.declared.outside.Fault.TheVariants as fault
use Rattle.dm_heads.specs.declared.errors.HttpError.{HttpError}
use Rattle.dm_heads.specs.declared.errors.HttpError.TheVariants as error
use Rattle.dm_core.specs.Machines.{CoreMachine}
use Rattle.dm_outside.specs.Doors.{Doorway, Visit, missed, told_to_listen}
use Rattle.dm_serving.specs.Visits.{Brought, Serving, reply_to, serving_behind, replies, serving_reached, IsVisit}
use Rattle.dm_serving.specs.Visits.{AreVisits, IsCutVisit}

-- what the outside tells: the door, and the nonces that are left
pub record DoorAndNonces : Type 0 where
  pub door : Doorway
  pub nonces : List (List ℕ)

abbrev pub door_and_nonces : Option Doorway → Option (List (List ℕ)) → Option DoorAndNonces
door_and_nonces (Some door) (Some nonces) = Some (record { door = door; nonces = nonces })
door_and_nonces door left = None

-- the door behind these calls of `accept`; where it listened, and which connections are out, is as before
abbrev pub visited_by : Doorway → List Visit → Doorway
visited_by s vs = record s { to_come = drop (length vs) s.to_come; log = s.log ++ vs }

abbrev pub serving_at : {S : Type 0} → S → List (List ℕ) → Serving S
serving_at c nonces = record { core = c; nonces = nonces }

-- ---- one turn

-- a connection was let in, answered and given back
pub record IsTurn {S : Type 0} (m : CoreMachine S) (c d : S) (s t : DoorAndNonces) : Type 0 where
  pub visit : Visit
  pub brought : Brought
  pub answered : IsVisit visit brought (reply_to m (serving_at c s.nonces) brought)
  pub door : t.door ≡ visited_by s.door (visit ∷ [])
  pub behind : serving_at d t.nonces ≡ serving_behind m (serving_at c s.nonces) brought

-- memory was wanting in a connection that was let in
pub record IsCutTurn {S : Type 0} (m : CoreMachine S) (c : S) (s t : DoorAndNonces) : Type 0 where
  pub visit : Visit
  pub cut : IsCutVisit m (serving_at c s.nonces) visit
  pub door : t.door ≡ visited_by s.door (visit ∷ [])
  pub nonces : t.nonces ≡ drop 1 s.nonces

-- by its answer: a connection was answered; or none came; or memory was wanting, in a connection or before one came
abbrev pub VisitDoes : {S : Type 0} → CoreMachine S → S → S → Result (Unit {0}) Fault → DoorAndNonces → DoorAndNonces → Type 0
VisitDoes m c d (Ok u) s t = IsTurn m c d s t
VisitDoes m c d (Err fault.Failed) s t = t ≡ record { door = visited_by s.door (missed ∷ []); nonces = s.nonces }
VisitDoes m c d (Err fault.Memory) s t = (t ≡ s) ⊎ IsCutTurn m c s t

-- an exchange in which memory wasn't wanting
abbrev pub IsServed : Result (Unit {0}) HttpError → Type 0
IsServed (Ok u) = ⊤
IsServed (Err error.Memory) = ⊥
IsServed (Err other) = ⊤

-- an exchange ends a run for want of memory alone
abbrev pub EndsRun : Result (Unit {0}) HttpError → Result (Unit {0}) Fault → Type 0
EndsRun served (Ok u) = IsServed served
EndsRun served (Err fault.Failed) = ⊥
EndsRun served (Err fault.Memory) = served ≡ Err error.Memory

-- ---- all turns

-- the last one, where there is one, was cut
abbrev pub IsCutBy : {S : Type 0} → CoreMachine S → Serving S → List Visit → Type 0
IsCutBy m g [] = ⊤
IsCutBy m g (v ∷ []) = IsCutVisit m g v
IsCutBy m g other = ⊥

-- so many connections were answered
pub record AllCame {S : Type 0} (m : CoreMachine S) (count : ℕ) (c d : S) (s t : DoorAndNonces) : Type 0 where
  pub visits : List Visit
  pub brought : List Brought
  pub answered : AreVisits visits brought (replies m (serving_at c s.nonces) brought)
  pub all : length visits ≡ count
  pub door : t.door ≡ visited_by s.door visits
  pub behind : serving_at d t.nonces ≡ serving_reached m (serving_at c s.nonces) brought

-- no connection came behind those that were answered
pub record OneMissed {S : Type 0} (m : CoreMachine S) (count : ℕ) (c : S) (s t : DoorAndNonces) : Type 0 where
  pub visits : List Visit
  pub brought : List Brought
  pub answered : AreVisits visits brought (replies m (serving_at c s.nonces) brought)
  pub fewer : length visits < count
  pub door : t.door ≡ visited_by s.door (visits ++ missed ∷ [])
  pub nonces : t.nonces ≡ (serving_reached m (serving_at c s.nonces) brought).nonces

-- memory was wanting, in a connection behind those that were answered or before it came
pub record OneCut {S : Type 0} (m : CoreMachine S) (count : ℕ) (c : S) (s t : DoorAndNonces) : Type 0 where
  pub visits : List Visit
  pub cut : List Visit
  pub brought : List Brought
  pub answered : AreVisits visits brought (replies m (serving_at c s.nonces) brought)
  pub last : IsCutBy m (serving_reached m (serving_at c s.nonces) brought) cut
  pub fewer : length visits < count
  pub door : t.door ≡ visited_by s.door (visits ++ cut)
  pub nonces : t.nonces ≡ drop (length cut) (serving_reached m (serving_at c s.nonces) brought).nonces

abbrev pub AllDo : {S : Type 0} → CoreMachine S → ℕ → S → S → Result (Unit {0}) Fault → DoorAndNonces → DoorAndNonces → Type 0
AllDo m count c d (Ok u) s t = AllCame m count c d s t
AllDo m count c d (Err fault.Failed) s t = OneMissed m count c s t
AllDo m count c d (Err fault.Memory) s t = OneCut m count c s t

-- ---- a whole run

-- it listened, at this address
abbrev pub listened_at : DoorAndNonces → List ℕ → DoorAndNonces
listened_at s address = record { door = told_to_listen s.door address; nonces = s.nonces }

-- by its answer: it listened once, and then all connections came, or one was missed, or one was cut; or the door didn't
-- listen; or memory was wanting before it was asked
abbrev pub ServingDoes : {S : Type 0} → CoreMachine S → List ℕ → ℕ → S → S → Result (Unit {0}) Fault → DoorAndNonces → DoorAndNonces → Type 0
ServingDoes m address count c d (Ok u) s t = AllCame m count c d (listened_at s address) t
ServingDoes m address count c d (Err fault.Failed) s t =
    (IsFalse s.door.listens × (t ≡ listened_at s address)) ⊎ OneMissed m count c (listened_at s address) t
ServingDoes m address count c d (Err fault.Memory) s t = (t ≡ s) ⊎ OneCut m count c (listened_at s address) t
