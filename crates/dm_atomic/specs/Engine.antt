-- What an engine holds, and the state that it stands for.
use Rattle.std.specs.Prelude.{◌≡◌, ◌≤◌, ◌<◌, ◌+◌, ◌-◌, ℕ, Bool, true, false, if◌then◌else◌, ⊤, List, [], ◌++◌, drop}
use Rattle.std.specs.Prelude.{length, Option, None, Some, MatchOption, vec_len, vec_capacity}
use Rattle.dm_base.specs.Limits.{object_limit}
use Rattle.syncml_types.specs.declared.command.Command.{Command}
use Rattle.syncml_types.specs.declared.command.Step.{Step}
use Rattle.dm_tree.specs.declared.rows.Row.{Row}
use Rattle.dm_tree.specs.Rows.{nodes}
use Rattle.dm_tree.specs.Devices.{IsUpdateInOrder}
use Rattle.dm_undo.specs.declared.entries.Entry.{Entry}
use Rattle.dm_undo.specs.Journals.{Journal}
use Rattle.dm_undo.specs.Entries.{AreRecords}
use Rattle.dm_undo.specs.Trees.{tree_at}
use Rattle.dm_undo.specs.Sound.{IsSound}
use Rattle.dm_undo.specs.Notes.{Notes}
use Rattle.dm_objects.specs.declared.object.Object.{Object}
use Rattle.dm_objects.specs.declared.object.Object.TheVariants.{Nothing, Buffering, Skipping}
use Rattle.dm_objects.specs.declared.piece.What.{What}
use Rattle.dm_objects.specs.declared.piece.What.TheVariants.{Whole, Buffered, Refused}
use Rattle.dm_objects.specs.Seen.{present}
use Rattle.dm_commands.specs.Outcomes.{asked_by, Does}
use Rattle.dm_commands.specs.Table.{act}
use Rattle.dm_commands.specs.declared.outcome.Outcome.{Outcome}
use Rattle.dm_commands.specs.Promises.{IsShortStep}
use Rattle.dm_atomic.specs.declared.tasks.Task.{Task}
use Rattle.dm_atomic.specs.declared.reports.Report.{Report}
use Rattle.dm_atomic.specs.declared.reports.Part.{Part}
use Rattle.dm_atomic.specs.declared.engine.Engine.{Engine}
use Rattle.dm_atomic.specs.Made.{told, notice}
use Rattle.dm_atomic.specs.Run.{State, Group, Running, Next, Ran, Tried}

-- ---- the state

-- the tree before an open group is the one that the journal recalls at the group's mark
abbrev pub group_of : List Row → List Entry → Bool → ℕ → List Part → Option Group
group_of rows es is_open mark parts =
    if is_open then Some (record { base = (tree_at es rows mark).nodes; parts = parts }) else None

abbrev pub state_of : Engine → State
state_of e = record {
  tree = nodes e.tree.rows;
  object = present e.inbox.objects;
  group = group_of e.tree.rows e.journal.entries e.is_open e.mark e.parts;
  started = e.started;
}

abbrev pub running : Engine → List ℕ → Running
running e caller = record { setting = asked_by caller e.tree.clock; max_obj = e.inbox.max_obj }

-- ---- what holds of an engine

-- a group that is open can be rolled back, and that takes no memory; an entry is spare behind it
pub record CanRollBack (rows : List Row) (journal : Journal) (mark : ℕ) : Type 0 where
  pub held : mark ≤ length journal.entries
  pub plain : AreRecords (length journal.entries - mark) journal.entries
  pub spare : length journal.entries + 1 < journal.room
  pub update : IsUpdateInOrder (tree_at journal.entries rows mark).nodes

-- an object that is being buffered is no larger than the greatest
abbrev pub FitsObject : ℕ → Object → Type 0
FitsObject max Nothing = ⊤
FitsObject max (Buffering begun) = begun.size ≤ max
FitsObject max (Skipping key code) = ⊤

-- the journal tells trees, the update part is in order, no step is too large for the tree, there is room for a group
-- that ends, and where none is open no parts are kept
pub record IsSoundEngine (e : Engine) : Type 0 where
  pub journal : IsSound e.journal.entries e.tree.rows
  pub spare : length e.journal.entries < e.journal.room
  pub update : IsUpdateInOrder (nodes e.tree.rows)
  pub max_obj : e.inbox.max_obj ≤ object_limit
  pub object : FitsObject e.inbox.max_obj (present e.inbox.objects)
  pub group : e.is_open ≡ true → CanRollBack e.tree.rows e.journal e.mark
  pub ended : e.is_open ≡ true → vec_len e.ended < vec_capacity e.ended
  pub closed : e.is_open ≡ false → e.parts ≡ []

-- a whole step is no larger than the tree takes
abbrev pub IsShortWhat : What → Type 0
IsShortWhat (Whole step) = IsShortStep step
IsShortWhat Buffered = ⊤
IsShortWhat (Refused code) = ⊤

-- steps were run: their edits were noted, and all but tree, object and started update stays
pub record Only (old new : Engine) : Type 0 where
  pub is_open : new.is_open ≡ old.is_open
  pub mark : new.mark ≡ old.mark
  pub parts : new.parts ≡ old.parts
  pub ended : new.ended ≡ old.ended
  pub max_obj : new.inbox.max_obj ≡ old.inbox.max_obj
  pub clock : new.tree.clock ≡ old.tree.clock
  pub notes : Notes old.journal old.tree.rows new.journal new.tree.rows

-- a whole step was run: tree and journal alone are others
pub record Acts (old new : Engine) (caller : List ℕ) (step : Step) (outcome : Outcome) : Type 0 where
  pub does : Does (act (asked_by caller old.tree.clock) (nodes old.tree.rows) step) outcome (nodes new.tree.rows)
  pub inbox : new.inbox ≡ old.inbox
  pub started : new.started ≡ old.started

-- ---- what calls give

-- a state, and what was told on the way to it
pub record Gives (wanted : Next) (s : State) (before after : List Command) : Type 0 where
  pub state_is : s ≡ wanted.state
  pub told_is : after ≡ before ++ told wanted.made

-- a step was run
pub record RunsStep (ran : Ran) (s : State) (report : Report) : Type 0 where
  pub state_is : s ≡ ran.state
  pub report_is : report ≡ ran.report

-- a task was run; of an object that it broke was told
pub record RunsTask (ran : Ran) (s : State) (report : Report) (before after : List Command) : Type 0 where
  pub state_is : s ≡ ran.state
  pub report_is : report ≡ ran.report
  pub told_is : after ≡ before ++ told (notice ran.broken)

-- tasks were tried: what was done, and the first that failed with the number of those run
pub record Tries (t : Tried) (s : State) (done : List Report) (ts : List Task) (failed : Option (Report × ℕ))
    (before after : List Command) : Type 0 where
  pub state_is : s ≡ t.state
  pub done_is : done ≡ t.done
  pub told_is : after ≡ before ++ told t.notices
  pub stop : MatchOption failed (t.failed ≡ None)
      (λ f. (t.failed ≡ Some f.0) × ((t.unrun ≡ drop f.1 ts) × (f.1 ≤ length ts)))
