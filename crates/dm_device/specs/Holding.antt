-- What the code of a session does, exchange by exchange.
use Rattle.std.specs.Prelude.{◌≡◌, ◌<◌, ◌≤◌, ℕ, true, List, drop, Option, Some, None, Result, Ok, Err, ⊤}
use Rattle.dm_base.specs.Outside.{Rose}
use Rattle.dm_base.specs.declared.bytes.Memory.{Memory}
use Rattle.dm_machine.specs.Machine.{Machine}
use Rattle.dm_outside.specs.declared.told.Update.{Update}
use Rattle.dm_outside.specs.Calls.{Calls}
use Rattle.dm_session.specs.declared.answers.Answer.{Answer}
use Rattle.dm_session.specs.declared.answers.Answer.TheVariants as answers
use Rattle.dm_device.specs.declared.exchanging.ReplyHeard.{ReplyHeard}
use Rattle.dm_device.specs.declared.exchanging.ReplyHeard.TheVariants as heard
use Rattle.dm_device.specs.declared.tally.Word.{Word}
use Rattle.dm_device.specs.declared.tally.Word.TheVariants as word
use Rattle.dm_device.specs.declared.tally.Tally.{Tally}
use Rattle.dm_device.specs.Outsides.{Outside, outside_of, OfTold, IsPosted, IsPostedInPart}
use Rattle.dm_device.specs.Sessions.{Going, Turn, SessionRun, IsWithinLimits, at_first, turn, loses, turn_accepting}
use Rattle.dm_device.specs.Sessions.{word_of_end}
use Rattle.dm_device.specs.Sessions.{session, tally_measure}

abbrev pub going_at : Machine → Tally → List (List ℕ) → Going
going_at c t ns = record { machine = c; tally = t; nonces = ns }

-- what the answer to a body does, by the client's own word for it
abbrev pub turned_by : Going → Answer → Turn
turned_by g answers.Sent = turn_accepting g
turned_by g (answers.Ended end) = record { going = g; word = Some (word_of_end end) }
turned_by g other = loses g true

-- where the session goes on, it is as before, and more was spent
abbrev pub SpendsMore : Tally → Tally → Option Word → Type 0
SpendsMore t u None = IsWithinLimits u × (tally_measure t < tally_measure u)
SpendsMore t u (Some w) = ⊤

abbrev pub TurnGoes : Tally → Tally → Result (Option Word) Memory → Type 0
TurnGoes t u (Ok w) = SpendsMore t u w
TurnGoes t u (Err e) = ⊤

-- at most one nonce was used
abbrev pub UsesOne : List (List ℕ) → List (List ℕ) → Type 0
UsesOne ns ms = (used : ℕ) × (used ≤ 1) × (ms ≡ drop used ns)

-- a turn, by its answer; for want of memory the client isn't asked any more
abbrev pub TurnDoes : Machine → Machine → Tally → Tally → ReplyHeard → Result (Option Word) Memory → List (List ℕ)
    → List (List ℕ) → Type 0
TurnDoes c d t u h (Ok w) ns ms = turn (going_at c t ns) h ≡ record { going = going_at d u ms; word = w }
TurnDoes c d t u h (Err e) ns ms = UsesOne ns ms

-- a session isn't given up for a loss that is the peer's
abbrev pub IsBlamed : Option Word → Type 0
IsBlamed (Some word.GaveUp) = ⊥
IsBlamed other = ⊤

-- a session is given up at a fault alone
abbrev pub GivesUpAt : ReplyHeard → Result (Option Word) Memory → Type 0
GivesUpAt heard.Fault r = ⊤
GivesUpAt h (Ok w) = IsBlamed w
GivesUpAt h (Err e) = ⊤

-- a session that begins so, and hears this
abbrev pub session_at : List ℕ → List ℕ → Machine → List (List ℕ) → List ReplyHeard → SessionRun
session_at address path c ns hs = session address path (going_at c at_first ns) hs

-- a session is over: its requests were posted, and it has used these nonces
pub record SessionIsOver (address path : List ℕ) (c d : Machine) (w : Word) (hs : List ReplyHeard) (before after : Outside)
    : Type 0 where
  pub posts : IsPosted address (session_at address path c before.nonces hs).requests hs before.calls after.calls
  pub word : (session_at address path c before.nonces hs).word ≡ Some w
  pub machine : (session_at address path c before.nonces hs).going.machine ≡ d
  pub nonces : after.nonces ≡ (session_at address path c before.nonces hs).going.nonces
  pub updates : after.updates ≡ before.updates

-- it isn't, and memory was wanting
pub record IsUnfinished (address path : List ℕ) (c : Machine) (hs : List ReplyHeard) (before after : Outside) : Type 0 where
  pub posts : IsPostedInPart address (session_at address path c before.nonces hs).requests hs before.calls after.calls
  pub word : (session_at address path c before.nonces hs).word ≡ None
  pub nonces : UsesOne (session_at address path c before.nonces hs).going.nonces after.nonces
  pub updates : after.updates ≡ before.updates

abbrev pub SessionDoes : List ℕ → List ℕ → Machine → Machine → Result Word Memory → Outside → Outside → Type 0
SessionDoes address path c d (Ok w) before after = (hs : List ReplyHeard) × SessionIsOver address path c d w hs before after
SessionDoes address path c d (Err e) before after = (hs : List ReplyHeard) × IsUnfinished address path c hs before after

-- where all of the outside tells, whatever the updater was given
unfoldable pub SessionHolds : Option Calls → Option Calls → Option (List (List ℕ)) → Option (List (List ℕ)) → Machine → Machine
    → List ℕ → List ℕ → Result Word Memory → Type 0
SessionHolds told0 told1 left0 left1 c d address path r =
    (us : Option (List Update))
    → OfTold (outside_of told0 us left0) (outside_of told1 us left1) (SessionDoes address path c d r)

-- the dialer's count doesn't fall, and has risen where the session was given up
abbrev pub SessionCounts : ℕ → ℕ → Result Word Memory → Type 0
SessionCounts before now (Ok word.GaveUp) = Rose before now
SessionCounts before now other = before ≤ now
