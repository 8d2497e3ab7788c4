-- What the code of a run does, part by part.
use Rattle.std.specs.Prelude.{◌≡◌, ◌≤◌, ◌⊎◌, ◌++◌, ℕ, Bool, List, [], ◌∷◌, Option, Some, Result, Ok, Err, ⊤}
use Rattle.dm_base.specs.declared.bytes.Memory.{Memory}
use Rattle.dm_machine.specs.declared.kinds.Initiator.{Initiator}
use Rattle.dm_machine.specs.declared.kinds.Initiator.TheVariants.{ByClient}
use Rattle.dm_machine.specs.Machine.{Machine}
use Rattle.dm_machine.specs.Events.{act, opened}
use Rattle.dm_machine.specs.History.{next}
use Rattle.dm_outside.specs.declared.told.Update.{Update}
use Rattle.dm_outside.specs.Calls.{Calls}
use Rattle.dm_session.specs.View.{package_started}
use Rattle.dm_exit.specs.declared.exit.Exit.{Exit}
use Rattle.dm_exit.specs.declared.exit.Exit.TheVariants as exit
use Rattle.dm_device.specs.declared.exchanging.ReplyHeard.{ReplyHeard}
use Rattle.dm_device.specs.declared.tally.Word.{Word}
use Rattle.dm_device.specs.Outsides.{Outside, IsPosted, IsPostedInPart}
use Rattle.dm_device.specs.Sessions.{bytes_or_none}
use Rattle.dm_device.specs.Holding.{session_at, SessionCounts}
use Rattle.dm_device.specs.Runs.{Route, session_part, closing, follow_up, begun_session, exit_of_word, ended_well}
use Rattle.dm_device.specs.Runs.{IsDone}
use Rattle.dm_device.specs.Runs.{IsCut, EndsPart, IsRun}

-- want of memory or a fault of the sink ended it
abbrev pub IsCutShort : Exit → Type 0
IsCutShort exit.WriteFault = ⊤
IsCutShort exit.NoMemory = ⊤
IsCutShort other = ⊥

-- the answers of a run
abbrev pub IsAnswer : Exit → Type 0
IsAnswer exit.Done = ⊤
IsAnswer exit.GaveUp = ⊤
IsAnswer exit.Denied = ⊤
IsAnswer exit.Peer = ⊤
IsAnswer e = IsCutShort e

-- a session was held and its line put, or that was cut short
abbrev pub HoldDoes : List ℕ → List ℕ → ℕ → Machine → Machine → Option (List ℕ) → Option (List ℕ) → Result Word Exit
    → Outside → Outside → Type 0
HoldDoes address path number c d old new (Ok w) before after = (hs : List ReplyHeard)
    × IsDone address (session_part number (session_at address path c before.nonces hs)) hs before after old new
    × ((session_at address path c before.nonces hs).word ≡ Some w)
    × ((session_at address path c before.nonces hs).going.machine ≡ d)
HoldDoes address path number c d old new (Err e) before after = (hs : List ReplyHeard)
    × IsCut address (session_part number (session_at address path c before.nonces hs)) hs before after old new

abbrev pub HoldCounts : ℕ → ℕ → Result Word Exit → Type 0
HoldCounts before now (Ok w) = SessionCounts before now (Ok w)
HoldCounts before now (Err e) = before ≤ now

-- of an exchange whose reply isn't looked at
abbrev pub unheard : Result ReplyHeard Memory → Result (Unit {0}) Memory
unheard (Ok h) = Ok tt
unheard (Err e) = Err e

-- the farewell was posted, where there is one
abbrev pub PartDoes : List ℕ → List (List ℕ) → Result (Unit {0}) Memory → Calls → Calls → Type 0
PartDoes address requests (Ok u) s t = (hs : List ReplyHeard) × IsPosted address requests hs s t
PartDoes address requests (Err e) s t = IsPostedInPart address requests [] s t

abbrev pub CloseDoes : Route → Machine → Word → Option (List ℕ) → Option (List ℕ) → Exit → Outside → Outside → Type 0
CloseDoes r c w old new e before after =
    (hs : List ReplyHeard) × EndsPart r.address (closing r c before.nonces w) hs e before after old new

-- it ends as the session did, or is cut short
abbrev pub ClosesAs : Word → Exit → Type 0
ClosesAs w e = (e ≡ exit_of_word w) ⊎ IsCutShort e

-- a package was given, with this answer
abbrev pub Gave : Machine → Option Bool → List Update → List Update → Type 0
Gave c answer us vs =
    vs ≡ us ++ (record { bytes = bytes_or_none (package_started c.engine.tree); answer = answer }) ∷ []

abbrev pub InstallDoes : Machine → Result (Option Bool) Memory → List Update → List Update → Type 0
InstallDoes c (Ok answer) us vs = Gave c answer us vs
InstallDoes c (Err e) us vs = vs ≡ us

-- no package was given, or one was
abbrev pub MayHaveGiven : Machine → List Update → List Update → Type 0
MayHaveGiven c us vs = (vs ≡ us) ⊎ ((answer : Option Bool) × Gave c answer us vs)

-- the package was given, and the client was told how that ended
abbrev pub ActDoes : Machine → Machine → Result (Unit {0}) Memory → List Update → List Update → Type 0
ActDoes c d (Ok u) us vs = (answer : Option Bool) × Gave c answer us vs × (d ≡ next c (act (ended_well answer)))
ActDoes c d (Err e) us vs = MayHaveGiven c us vs

-- and a session was begun, with an account and a number
abbrev pub TellDoes : ℕ → ℕ → Machine → Machine → Result (Unit {0}) Memory → List Update → List Update → Type 0
TellDoes account number c d (Ok u) us vs = (answer : Option Bool) × Gave c answer us vs
    × (d ≡ next (next c (act (ended_well answer))) (opened account ByClient number))
TellDoes account number c d (Err e) us vs = MayHaveGiven c us vs

abbrev pub FollowDoes : Route → ℕ → ℕ → Machine → Option (List ℕ) → Option (List ℕ) → Exit → Outside → Outside → Type 0
FollowDoes r account number c old new e before after =
    (answer : Option Bool) × (second : List ReplyHeard) × (parting : List ReplyHeard)
    × EndsPart r.address (follow_up r account number c before.nonces answer second) (second ++ parting) e before
    after old new

abbrev pub RunDoes : Route → ℕ → Initiator → ℕ → Machine → Option (List ℕ) → Option (List ℕ) → Exit → Outside → Outside
    → Type 0
RunDoes r account kind number c old new e before after =
    IsRun r account number (begun_session c account kind number before.nonces) before after old new e
