-- What execution means, over the definitions alone.
use Rattle.std.specs.Prelude.{◌≡◌, ⊤, ℕ, Bool, true, false, List, [], ◌∷◌, ◌++◌, All, Option, None, Some, is_some, Ok}
use Rattle.syncml_types.specs.declared.command.AlertCmd.{AlertCmd}
use Rattle.syncml_types.specs.declared.command.Member.{Member}
use Rattle.syncml_types.specs.declared.command.Block.{Block}
use Rattle.syncml_types.specs.declared.command.Command.{Command}
use Rattle.syncml_types.specs.declared.command.Command.TheVariants as commands
use Rattle.syncml_types.specs.declared.command.Step.{Step}
use Rattle.dm_uri.specs.declared.uri.Uri.{Uri}
use Rattle.dm_uri.specs.Reading.{parse_of}
use Rattle.dm_acl.specs.declared.values.Right.{Right}
use Rattle.dm_tree.specs.Rights.{allows}
use Rattle.dm_objects.specs.declared.object.Object.TheVariants.{Nothing}
use Rattle.dm_objects.specs.declared.piece.Piece.{Piece}
use Rattle.dm_objects.specs.declared.piece.What.TheVariants.{Whole}
use Rattle.dm_objects.specs.Gathering.{gather}
use Rattle.dm_commands.specs.Laws.{asked_place, asked_right}
use Rattle.dm_commands.specs.Outcomes.{is_success}
use Rattle.dm_atomic.specs.declared.tasks.Origin.{Origin}
use Rattle.dm_atomic.specs.declared.tasks.Post.{Post}
use Rattle.dm_atomic.specs.declared.tasks.Task.{Task}
use Rattle.dm_atomic.specs.declared.tasks.Work.{Work}
use Rattle.dm_atomic.specs.declared.tasks.Work.TheVariants as work
use Rattle.dm_atomic.specs.declared.reports.Report.{Report}
use Rattle.dm_atomic.specs.declared.reports.Part.{Part}
use Rattle.dm_atomic.specs.Run.{Group, State, Running, Ran, one_step, break_group, tried, opens, joins, join_or_break}
use Rattle.dm_atomic.specs.Run.{atomically, run_atomic, run_command, run_all, still, committed, abandoned}
use Rattle.dm_objects.specs.Inside.{is_buffering_inside}
use Rattle.dm_atomic.specs.Posts.{NoneLost, all_asked}

-- each step and each container of the commands has exactly one Status made, now or at its group's close
abbrev pub OneStatusEach : Type 0
OneStatusEach = (r : Running) (origin : Origin) (s : State) (cs : List Command)
    → NoneLost (all_asked origin cs) (run_all r origin s cs).made s.group (run_all r origin s cs).state.group

-- and so it is where a message breaks what is unfinished
abbrev pub NoneLostInQuiet : Type 0
NoneLostInQuiet = (s : State) → NoneLost [] (still s).made s.group (still s).state.group

-- the Atomic's steps in its open group, which it joined or opened
abbrev pub attempt : Running → State → List Task → Option Report
attempt r s ts = (tried r (opens (join_or_break s ts).state) ts).failed

-- of a command that is an Atomic
abbrev pub IfAtomic : Command → (Block Member → Type 0) → Type 0
IfAtomic (commands.Atomic b) holds = holds b
IfAtomic other holds = ⊤

-- after a failed Atomic the committed tree stands, and no group is open; and where it stays open, that tree is its base
pub record Restores (r : Running) (s : State) (post : Post) (ts : List Task) : Type 0 where
  pub fails : (report : Report) → attempt r s ts ≡ Some report
      → ((atomically r s post ts).state.tree ≡ committed s) × ((atomically r s post ts).state.group ≡ None)
  pub stays_open : (g : Group) → (atomically r s post ts).state.group ≡ Some g → g.base ≡ committed s

abbrev pub FailedAtomicRestores : Type 0
FailedAtomicRestores = (r : Running) (s : State) (post : Post) (ts : List Task) → Restores r s post ts

-- and it stands after a group that is broken, by a command or by a message that breaks what is unfinished
abbrev pub BrokenGroupRestores : Type 0
BrokenGroupRestores = (s : State) → ((break_group s).state.tree ≡ committed s) × ((break_group s).state.group ≡ None)

abbrev pub QuietRestores : Type 0
QuietRestores = (s : State) → ((still s).state.tree ≡ committed s) × ((still s).state.group ≡ None)

-- an Atomic that joins a group and leaves it open leaves its base, and adds one part
abbrev pub JoiningKeepsTheBase : Type 0
JoiningKeepsTheBase = (r : Running) (s : State) (post : Post) (ts : List Task) (g h : Group) → s.group ≡ Some g
    → joins s ts ≡ true → (atomically r s post ts).state.group ≡ Some h
    → (h.base ≡ g.base) × ((part : Part) × (h.parts ≡ g.parts ++ part ∷ []))

-- an Alert leaves all
abbrev pub AlertsLeaveAll : Type 0
AlertsLeaveAll =
    (r : Running) (origin : Origin) (s : State) (a : AlertCmd) → (run_command r origin s (commands.Alert a)).state ≡ s

-- ---- a group is open exactly while an object that was begun in an Atomic is being buffered

abbrev pub IsOpenForObject : State → Type 0
IsOpenForObject s = is_some s.group ≡ is_buffering_inside s.object

abbrev pub CommandKeepsOpen : Type 0
CommandKeepsOpen = (r : Running) (origin : Origin) (s : State) (c : Command) → IsOpenForObject s
    → IsOpenForObject (run_command r origin s c).state

-- a quiet message and the end of a session leave neither
abbrev pub EndsBoth : State → Type 0
EndsBoth s = (s.group ≡ None) × (s.object ≡ Nothing)

abbrev pub QuietEndsBoth : Type 0
QuietEndsBoth = (s : State) → EndsBoth (still s).state × EndsBoth (abandoned s)

-- ---- in an Atomic nothing is started

-- a step of a verb has this mark of being inside an Atomic
abbrev pub IsMarked : Bool → Work → Type 0
IsMarked in_atomic (work.Piece piece) = piece.step.in_atomic ≡ in_atomic
IsMarked in_atomic (work.Alert code) = ⊤

abbrev pub TasksStartNothing : Type 0
TasksStartNothing = (r : Running) (s : State) (post : Post) (ts : List Task) → All (λ t. IsMarked true t.work) ts
    → (atomically r s post ts).state.started ≡ s.started

-- the tasks of a message's Atomic are such, whatever stands in it
abbrev pub AtomicStartsNothing : Type 0
AtomicStartsNothing = (r : Running) (origin : Origin) (s : State) (b : Block Member)
    → (run_atomic r origin s b).state.started ≡ s.started

-- ---- a task that is no success changes nothing but the unfinished object

pub record LeavesTree (s : State) (ran : Ran) : Type 0 where
  pub tree : ran.state.tree ≡ s.tree
  pub group : ran.state.group ≡ s.group
  pub started : ran.state.started ≡ s.started
  pub found : ran.report.found ≡ []

abbrev pub FailedTaskLeavesTree : Type 0
FailedTaskLeavesTree = (r : Running) (s : State) (task : Task) → is_success (one_step r s task).report.code ≡ false
    → LeavesTree s (one_step r s task)

-- a step that is whole is no success, where the right that its verb asks for is refused on the node that it asks it on
abbrev pub RefusedRightLeavesTree : Type 0
RefusedRightLeavesTree =
    (r : Running) (s : State) (task : Task) (piece : Piece) (step : Step) (text : List ℕ) (uri : Uri) (asked : Right)
    → task.work ≡ work.Piece piece → (gather r.max_obj s.object piece).what ≡ Whole step
    → step.target ≡ Some text → parse_of text ≡ Ok uri → asked_right step.verb ≡ Some asked
    → allows s.tree (asked_place s.tree uri.path uri.query step.verb) r.setting.caller asked ≡ false
    → (is_success (one_step r s task).report.code ≡ false) × LeavesTree s (one_step r s task)
