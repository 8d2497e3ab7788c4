-- Where an engine begins, and how an update ends.
use Rattle.std.specs.Prelude.{◌≡◌, ◌==◌, ◌||◌, ℕ, Bool, true, if◌then◌else◌, List, [], ◌∷◌, ◌++◌, Option, None, Some}
use Rattle.std.specs.Prelude.{IfSome, is_some, option_map}
use Rattle.std.specs.FinMap.{get}
use Rattle.syncml_types.specs.declared.command.Command.{Command}
use Rattle.syncml_types.specs.declared.command.Step.{Step}
use Rattle.dm_fumo.specs.States.{progressing}
use Rattle.dm_tree.specs.declared.nodes.Node.{Node}
use Rattle.dm_tree.specs.declared.nodes.Stamp.{Stamp}
use Rattle.dm_tree.specs.Nodes.{Path, Nodes, IsWellFormed}
use Rattle.dm_tree.specs.Devices.{update_node, IsUpdateInOrder}
use Rattle.dm_objects.specs.declared.object.Object.TheVariants.{Nothing}
use Rattle.dm_commands.specs.Outcomes.{Setting}
use Rattle.dm_commands.specs.Table.{act}
use Rattle.dm_commands.specs.Updates.{update_ended}
use Rattle.dm_commands.specs.Updates as tree
use Rattle.dm_atomic.specs.declared.tasks.Origin.{Origin}
use Rattle.dm_atomic.specs.declared.reports.Started.{Started}
use Rattle.dm_atomic.specs.declared.engine.Engine.{Engine}
use Rattle.dm_atomic.specs.Run.{State, Running, run_command, still, abandoned}

abbrev pub clock_of : Engine → Stamp
clock_of e = e.tree.clock

-- the greatest object that it takes, in bytes
abbrev pub max_obj_of : Engine → ℕ
max_obj_of e = e.inbox.max_obj

-- an update runs where State is 60
abbrev pub is_updating : Nodes → Bool
is_updating m = tree.state_in_tree m == progressing

-- the update that a tree tells of, which is that of its update node; the Correlator isn't in the tree
abbrev pub update_of : Nodes → Option Started
update_of m =
    if is_updating m then option_map (λ p. record { node = p; correlator = None }) (update_node m) else None

-- nothing is unfinished
unfoldable pub begun : Nodes → State
begun m = record { tree = m; object = Nothing; group = None; started = update_of m }

-- the update that was started has its result
abbrev pub update_finished : Stamp → State → Bool → State
update_finished clock s ok = record s { tree = update_ended clock s.tree ok; started = None }

-- where an engine begins, an update was started exactly where one runs
abbrev pub BegunWithItsUpdate : Type 0
BegunWithItsUpdate = (m : Nodes) → IsUpdateInOrder m → is_some (begun m).started ≡ is_updating m

-- after a step an update runs exactly where one ran before, or the step started it
abbrev pub RunsWhereStarted : Type 0
RunsWhereStarted = (s : Setting) (m : Nodes) (step : Step) → IsWellFormed m → IsUpdateInOrder m
    → is_updating (act s m step).tree ≡ is_updating m || (act s m step).started

-- ---- what was started is what the tree tells

-- the root is permanent, and so is what stands above a permanent node
pub record IsAnchored (m : Nodes) : Type 0 where
  pub root : (node : Node) × (get m [] ≡ Some node) × (node.permanent ≡ true)
  pub above : (p : Path) (name : List ℕ) (child : Node) → get m (p ++ name ∷ []) ≡ Some child → child.permanent ≡ true
      → (parent : Node) × (get m p ≡ Some parent) × (parent.permanent ≡ true)

-- the update part is in order, and no command takes it away or moves it
pub record HasFixedUpdate (m : Nodes) : Type 0 where
  pub order : IsUpdateInOrder m
  pub anchored : IsAnchored m

-- an update was started exactly where one runs, and the same held before an open group
pub record TellsStarted (s : State) : Type 0 where
  pub tree : HasFixedUpdate s.tree
  pub told : is_some s.started ≡ is_updating s.tree
  pub base : IfSome s.group (λ g. HasFixedUpdate g.base × (is_updating g.base ≡ is_some s.started))

-- so it is where an engine begins, and whatever it does
abbrev pub BeginsTelling : Type 0
BeginsTelling = (m : Nodes) → IsWellFormed m → IsUpdateInOrder m → TellsStarted (begun m)

abbrev pub CommandKeepsTelling : Type 0
CommandKeepsTelling = (r : Running) (origin : Origin) (s : State) (c : Command) → TellsStarted s
    → TellsStarted (run_command r origin s c).state

abbrev pub QuietKeepsTelling : Type 0
QuietKeepsTelling = (s : State) → TellsStarted s → TellsStarted (still s).state × TellsStarted (abandoned s)

abbrev pub ResultKeepsTelling : Type 0
ResultKeepsTelling =
    (clock : Stamp) (s : State) (ok : Bool) → TellsStarted s → is_updating s.tree ≡ true → s.group ≡ None
    → TellsStarted (update_finished clock s ok)
