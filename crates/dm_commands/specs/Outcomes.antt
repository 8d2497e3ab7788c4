-- What a step comes to, and how the rows of the step table are read.
use Rattle.std.specs.Prelude.{◌≡◌, ◌&&◌, ℕ, Bool, false, not, if◌then◌else◌, nat_le, List, [], ◌∷◌, is_some, unwrap_or}
use Rattle.std.specs.Prelude.{Option, Some, None, Result, Ok, Err}
use Rattle.std.specs.FinMap.{get}
use Rattle.dm_tree.specs.declared.nodes.Node.{Node}
use Rattle.dm_tree.specs.declared.nodes.Stamp.{Stamp}
use Rattle.dm_tree.specs.Nodes.{Path, Nodes}
use Rattle.dm_tree.specs.Rows.{blank_node}
use Rattle.dm_commands.specs.declared.outcome.Found.{Found}
use Rattle.dm_commands.specs.declared.outcome.Outcome.{Outcome}

-- who asks, and the clock
pub record Setting : Type 0 where
  pub caller : List ℕ
  pub clock : Stamp

abbrev pub asked_by : List ℕ → Stamp → Setting
asked_by caller clock = record { caller = caller; clock = clock }

-- the tree after a step, its code, what it found, and whether it started the update
pub record Done : Type 0 where
  pub tree : Nodes
  pub code : ℕ
  pub found : List Found
  pub started : Bool

abbrev pub refused : Nodes → ℕ → Done
refused m code = record { tree = m; code = code; found = []; started = false }

abbrev pub changed_to : Nodes → Done
changed_to m = record { tree = m; code = 200; found = []; started = false }

abbrev pub done_finding : Nodes → List Found → Done
done_finding m found = record { tree = m; code = 200; found = found; started = false }

-- ---- the rows of the table, each a test with the code where it holds

-- the code of the first row whose test holds
abbrev pub first_refusal : List (Bool × ℕ) → Option ℕ
first_refusal [] = None
first_refusal (r ∷ rs) = if r.0 then Some r.1 else first_refusal rs

-- a refusal changes nothing; where none holds, the effect stands
abbrev pub unless : Option ℕ → Nodes → Done → Done
unless None m effect = effect
unless (Some code) m effect = refused m code

abbrev pub refused_or : List (Bool × ℕ) → Nodes → Done → Done
refused_or rs m effect = unless (first_refusal rs) m effect

-- an answer is the code of the first refusal, or comes where none holds
abbrev pub RefusesFirst : {T : Type 0} → List (Bool × ℕ) → Result T ℕ → Type 0
RefusesFirst rs (Ok passed) = first_refusal rs ≡ None
RefusesFirst rs (Err code) = first_refusal rs ≡ Some code

-- ---- what the tests speak of

abbrev pub no_node : Nodes → Path → Bool
no_node m p = not (is_some (get m p))

-- the node at a path; where none is there, the test before has answered
abbrev pub node_at : Nodes → Path → Node
node_at m p = unwrap_or (get m p) blank_node

-- ---- what is promised

-- 200 to 299
abbrev pub is_success : ℕ → Bool
is_success code = nat_le 200 code && nat_le code 299

-- an outcome, and the tree after it, are those of the table
pub record Does (done : Done) (outcome : Outcome) (after : Nodes) : Type 0 where
  pub tree : after ≡ done.tree
  pub code : outcome.code ≡ done.code
  pub found : outcome.results ≡ done.found
  pub started : outcome.started ≡ done.started
