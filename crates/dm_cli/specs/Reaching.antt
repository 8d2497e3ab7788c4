-- What becomes of what is outside a run, by the form of its words and its answer.
use Rattle.std.specs.Prelude.{◌≡◌, ℕ, List, Option, Some, None, ⊤}
use Rattle.dm_outside.specs.declared.told.Update.{Update}
use Rattle.dm_outside.specs.Calls.{Calls}
use Rattle.dm_outside.specs.Doors.{Doorway}
use Rattle.dm_exit.specs.declared.exit.Exit.{Exit}
use Rattle.dm_exit.specs.declared.exit.Exit.TheVariants as exit
use Rattle.dm_exit.specs.Answers.{IsOfText}
use Rattle.dm_exit.specs.Causes.{SourceCause, SinkCause, DialerCause, DoorCause}
use Rattle.dm_device.specs.Devices.{IsEarly, IsOfDevice}
use Rattle.dm_serving.specs.Serves.{IsBeforeDoor, IsOfServe}
use Rattle.dm_words.specs.declared.forms.Form.{Form}
use Rattle.dm_words.specs.declared.forms.Form.TheVariants as forms
use Rattle.dm_cli.specs.declared.reach.Reach.{Reach}

-- what it tells
pub record ReachTold : Type 0 where
  pub dialer : Option Calls
  pub door : Option Doorway
  pub updates : Option (List Update)
  pub nonces : Option (List (List ℕ))

abbrev pub told_of_reach : {D P U N : Type 0} → (D → Option Calls) → (P → Option Doorway) → (U → Option (List Update))
    → (N → Option (List (List ℕ))) → Reach D P U N → ReachTold
told_of_reach calls doorway updates nonces r = record {
  dialer = calls r.dialer;
  door = doorway r.door;
  updates = updates r.updater;
  nonces = nonces r.nonces;
}

-- a fault of the source or of the sink is answered exactly where one has come
abbrev pub FaultsTell : ℕ → ℕ → ℕ → ℕ → Exit → Type 0
FaultsTell reads reads_now writes writes_now e = SourceCause reads reads_now e × SinkCause writes writes_now e

-- `device` leaves the door, `serve` the dialer and the updater, and where they ended before they asked anything of these
-- the rest too; their answers tell a fault of the dialer, and of the door. Every other form leaves all as it is
unfoldable pub Reaches : {D P U N : Type 0} → (D → ℕ) → (P → ℕ) → Option Form → Reach D P U N → Reach D P U N → Exit
    → Type 0
Reaches dials doors (Some (forms.Device w)) s t e =
    (t.door ≡ s.door) × DialerCause (dials s.dialer) (dials t.dialer) e × (IsEarly e → t ≡ s)
Reaches dials doors (Some (forms.Serve w)) s t e = (t.dialer ≡ s.dialer) × (t.updater ≡ s.updater)
    × DoorCause (doors s.door) (doors t.door) e × (IsBeforeDoor e → t ≡ s)
Reaches dials doors other s t e = t ≡ s

-- the answers to words of no form
abbrev pub IsOfUsage : Exit → Type 0
IsOfUsage exit.Usage = ⊤
IsOfUsage exit.WriteFault = ⊤
IsOfUsage exit.NoMemory = ⊤
IsOfUsage other = ⊥

-- the answers that a form has: no other comes, whatever the source tells
unfoldable pub IsAnswerOf : Option Form → Exit → Type 0
IsAnswerOf None e = IsOfUsage e
IsAnswerOf (Some (forms.Device w)) e = IsOfDevice e
IsAnswerOf (Some (forms.Serve w)) e = IsOfServe e
IsAnswerOf (Some other) e = IsOfText e
