-- The two ends take turns, and understand each other.
use Rattle.std.specs.Prelude.{◌≡◌, ◌⊎◌, ℕ, Bool, true, false, if◌then◌else◌, List, [], ◌∷◌, Option, None, Some}
use Rattle.std.specs.Prelude.{slice_get}
use Rattle.syncml_types.specs.Message.{Parts}
use Rattle.dm_headers.specs.Checks.{Login, header_code}
use Rattle.dm_ends.specs.Commands.{is_same_number}
use Rattle.dm_machine.specs.Machine.{Machine}
use Rattle.dm_machine.specs.Events as client
use Rattle.dm_service.specs.Events as server
use Rattle.dm_job.specs.declared.job.Job.{Job}
use Rattle.dm_world.specs.World.{World, Reply, Happening, opens, up_comes, down_comes, update_ends, clock_moves}
use Rattle.dm_world.specs.World.{is_lost, finds_no_memory, happens, run}
use Rattle.dm_world.specs.Start.{at_start, IsWorldStart, IsSchedule}

-- ---- taking turns

abbrev pub first_of : {A : Type 0} → List A → Option A
first_of [] = None
first_of (x ∷ xs) = Some x

-- the newest message of this session
abbrev pub newest_in : ℕ → List Parts → Option Parts
newest_in n [] = None
newest_in n (m ∷ ms) = if is_same_number (server.number_of m) n then Some m else newest_in n ms

-- a message that the client takes is the newest that the server sent, and was sent for the client's newest
abbrev pub TakesNewest : World → Type 0
TakesNewest w = (k : ℕ) (d : Reply) → slice_get w.downs k ≡ Some d
    → client.takes_message w.client.session d.message ≡ true
    → (first_of w.downs ≡ Some d) × (first_of w.ups ≡ Some d.answers)

-- a message that the server takes is the newest that the client sent in that message's session
abbrev pub ServesNewest : World → Type 0
ServesNewest w = (k : ℕ) (m : Parts) (n : ℕ) → slice_get w.ups k ≡ Some m → server.number_of m ≡ Some n
    → server.takes_message w.server m ≡ true → newest_in n w.ups ≡ Some m

-- ---- which happenings act

abbrev pub is_down_taken : World → Option Reply → Bool
is_down_taken w None = false
is_down_taken w (Some d) = client.takes_message w.client.session d.message

abbrev pub is_up_taken : World → Option Parts → Bool
is_up_taken w None = false
is_up_taken w (Some m) = server.takes_message w.server m

abbrev pub is_taken : World → Happening → Bool
is_taken w (opens account kind number) = client.takes w.client (client.opened account kind number)
is_taken w (up_comes k nonce) = is_up_taken w (slice_get w.ups k)
is_taken w (down_comes k nonce) = is_down_taken w (slice_get w.downs k)
is_taken w (update_ends ok) = client.takes w.client (client.act ok)
is_taken w (clock_moves stamp) = true
is_taken w is_lost = false
is_taken w finds_no_memory = false

-- what no machine takes changes neither machine, and nothing is sent, executed or made
abbrev pub Untaken : World → Type 0
Untaken w = (h : Happening) → is_taken w h ≡ false → happens w h ≡ w

pub record Lockstep (w : World) : Type 0 where
  pub untaken : Untaken w
  pub client_takes : TakesNewest w
  pub server_takes : ServesNewest w

abbrev pub TakesTurns : Type 0
TakesTurns = (c : Machine) (job : Job) (hs : List Happening) → IsWorldStart c job → IsSchedule c hs
    → Lockstep (run (at_start c job) hs)

-- ---- understanding each other

-- another version of the message or of the protocol, or a CmdID that stands twice
abbrev pub IsFaultCode : ℕ → Type 0
IsFaultCode code = (code ≡ 400) ⊎ (code ≡ 505) ⊎ (code ≡ 513)

-- whoever checks its header, and whether or not a credential was accepted
abbrev pub IsUnderstood : Parts → Type 0
IsUnderstood m = (accepted : Bool) (login : Login) → IsFaultCode (header_code accepted login m) → ⊥

-- no message that an end ever sent has a fault for the other
pub record RefusesNone (w : World) : Type 0 where
  pub client_end : (k : ℕ) (d : Reply) → slice_get w.downs k ≡ Some d → IsUnderstood d.message
  pub server_end : (k : ℕ) (m : Parts) → slice_get w.ups k ≡ Some m → IsUnderstood m

abbrev pub Understands : Type 0
Understands = (c : Machine) (job : Job) (hs : List Happening) → IsWorldStart c job → IsSchedule c hs
    → RefusesNone (run (at_start c job) hs)
