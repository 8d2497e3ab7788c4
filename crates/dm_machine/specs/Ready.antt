-- What can be sent: the machines, and the events, with which all that is made fits into messages.
use Rattle.std.specs.Prelude.{◌≡◌, ◌<◌, ◌≤◌, ◌+◌, ◌^◌, ℕ, true, List, length, get_or, ⊤, IsTrue, IfSome, Result, Ok}
use Rattle.std.specs.Prelude.{Err}
use Rattle.std.specs.List.{AllByRecursion}
use Rattle.dm_base.specs.Limits.{least_room, message_limit, object_limit}
use Rattle.dm_base.specs.Fields.{is_short}
use Rattle.dm_base.specs.declared.values.Limits.{Limits}
use Rattle.syncml_types.specs.Message.{Parts}
use Rattle.syncml_types.specs.Canonical.{is_text}
use Rattle.syncml_types.specs.Fitness.{IsFit}
use Rattle.syncml_codec.specs.Ranges.{AreNumbers}
use Rattle.wbxml_tokens.specs.declared.reason.Refusal.{Refusal}
use Rattle.dm_tree.specs.Nodes.{Nodes, IsWellFormed, IsStamp}
use Rattle.dm_tree.specs.Devices.{IsDeviceTree, IsText}
use Rattle.dm_objects.specs.declared.object.Object.{Object}
use Rattle.dm_objects.specs.declared.object.Object.TheVariants.{Nothing, Buffering, Skipping}
use Rattle.dm_auth.specs.declared.accounts.Account.{Account}
use Rattle.dm_atomic.specs.declared.reports.Report.{Report}
use Rattle.dm_atomic.specs.declared.reports.Part.{Part}
use Rattle.dm_atomic.specs.declared.reports.Started.{Started}
use Rattle.dm_atomic.specs.Engine.{FitsObject}
use Rattle.dm_atomic.specs.Made.{Made, command_told}
use Rattle.dm_atomic.specs.Made as made
use Rattle.dm_atomic.specs.Run.{Group, State}
use Rattle.dm_pack.specs.Entries.{IsReady, whole_entry}
pub use Rattle.dm_ends.specs.Ready.{IsReadyAccount, IsReadyLimits, IsReadyMessage, IsReadyRead}
use Rattle.dm_machine.specs.declared.progress.Progress.{Progress}
use Rattle.dm_machine.specs.declared.progress.UpdateResult.{UpdateResult}
use Rattle.dm_machine.specs.Machine.{Session, Machine}
use Rattle.dm_machine.specs.Events.{Event, clock, opened, message, loss, act}

-- ---- what is made

abbrev pub IsReadyMade : Made → Type 0
IsReadyMade m = IsReady (whole_entry (command_told m))

-- what waits in a group: a Status with any code, and what was found
pub record IsReadyReport (r : Report) : Type 0 where
  pub code : r.code < 2 ^ 32
  pub post : (code : ℕ) → code < 2 ^ 32 → IsReadyMade (made.Status r.post code)
  pub found : AllByRecursion (λ found. IsReadyMade (made.Result r.post found)) r.found

pub record IsReadyPart (p : Part) : Type 0 where
  pub post : (code : ℕ) → code < 2 ^ 32 → IsReadyMade (made.Status p.post code)
  pub reports : AllByRecursion IsReadyReport p.reports

-- ---- what executes commands

-- the tree of a device
pub record IsDevice (m : Nodes) : Type 0 where
  pub formed : IsWellFormed m
  pub device : IsDeviceTree m

pub record IsReadyGroup (g : Group) : Type 0 where
  pub base : IsDevice g.base
  pub parts : AllByRecursion IsReadyPart g.parts

-- the Type of an object that is being buffered is a text, and the code of one that is skipped a number
abbrev pub IsReadyObject : Object → Type 0
IsReadyObject Nothing = ⊤
IsReadyObject (Buffering begun) = IfSome begun.media IsText
IsReadyObject (Skipping key code) = code < 2 ^ 32

-- a Correlator, which an Exec takes with at most 255 bytes
pub record IsCorrelator (text : List ℕ) : Type 0 where
  pub text_is : is_text text ≡ true
  pub short : length text ≤ 255

pub record IsReadyState (max_obj : ℕ) (s : State) : Type 0 where
  pub tree : IsDevice s.tree
  pub fits : FitsObject max_obj s.object
  pub object : IsReadyObject s.object
  pub group : IfSome s.group IsReadyGroup
  pub started : IfSome s.started (λ (u : Started). IfSome u.correlator IsCorrelator)

-- ---- a machine

-- the numbers are those of their types, and the first package's entries that wait are in the queue
pub record IsReadyProgress (c : Machine) (p : Progress) : Type 0 where
  pub number : p.number < 2 ^ 32
  pub account : p.account < length c.accounts
  pub last : p.standing.last < 2 ^ 32
  pub own : p.standing.own < 2 ^ 32
  pub room : (least_room ≤ p.standing.room) × (p.standing.room ≤ message_limit)
  pub opening : p.opening_at + p.opening_left ≤ length c.queue

abbrev pub AreReadyResults : List UpdateResult → Type 0
AreReadyResults = AllByRecursion (λ (u : UpdateResult). IfSome u.correlator IsCorrelator)

pub record IsReadyMachine (c : Machine) : Type 0 where
  pub limits : IsReadyLimits c.limits
  pub clock : IsStamp c.clock
  pub engine : IsReadyState c.limits.max_obj c.engine
  pub queue : AllByRecursion IsReady c.queue
  pub accounts : AllByRecursion IsReadyAccount c.accounts
  pub results : AreReadyResults c.results
  pub session : IfSome c.session (λ (s : Session). IsReadyProgress c s.progress)

-- ---- an event

-- one that a client may meet: of its accounts, and in the ranges of its types
abbrev pub IsReadyEvent : Machine → Event → Type 0
IsReadyEvent c (clock stamp) = IsStamp stamp
IsReadyEvent c (opened account kind number) = (account < length c.accounts) × (number < 2 ^ 32)
IsReadyEvent c (message read nonce) = IsReadyRead read nonce
IsReadyEvent c loss = ⊤
IsReadyEvent c (act ok) = ⊤
