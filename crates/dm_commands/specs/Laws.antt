-- What the step table means, over the definitions alone.
use Rattle.std.specs.Prelude.{◌≡◌, ℕ, true, false, List, [], Option, Some, None, IfSome, Ok}
use Rattle.std.specs.FinMap.{get}
use Rattle.syncml_types.specs.declared.command.Step.{Step}
use Rattle.syncml_types.specs.declared.command.Verb.{Verb}
use Rattle.syncml_types.specs.declared.command.Verb.TheVariants as verb
use Rattle.dm_uri.specs.declared.uri.Prop.TheVariants as prop
use Rattle.dm_uri.specs.declared.uri.Query.{Query}
use Rattle.dm_uri.specs.declared.uri.Query.TheVariants as query
use Rattle.dm_uri.specs.declared.uri.Uri.{Uri}
use Rattle.dm_uri.specs.Reading.{parse_of}
use Rattle.dm_acl.specs.declared.values.Right.{Right}
use Rattle.dm_acl.specs.declared.values.Right.TheVariants as right
use Rattle.dm_tree.specs.Nodes.{Path, Nodes, above, is_below, IsWellFormed}
use Rattle.dm_tree.specs.Rights.{allows}
use Rattle.dm_tree.specs.Devices.{state_node, IsUpdateInOrder, IsDeviceTree, IsText, KeepsDevice}
use Rattle.dm_commands.specs.Outcomes.{Setting, is_success}
use Rattle.dm_commands.specs.Table.{act, acl_decider, beside}
use Rattle.dm_commands.specs.Promises.{moves, is_name_query}

-- ---- a refused right changes nothing

-- the right that a verb asks for; a Copy asks for none, and is refused whoever asks
abbrev pub asked_right : Verb → Option Right
asked_right verb.Add = Some right.Add
asked_right verb.Delete = Some right.Delete
asked_right verb.Exec = Some right.Exec
asked_right verb.Get = Some right.Get
asked_right verb.Replace = Some right.Replace
asked_right verb.Copy = None

abbrev pub replace_place : Nodes → Path → Query → Path
replace_place m p (query.Prop prop.Acl) = acl_decider m p
replace_place m p other = p

-- and the node on which: the parent for an Add, and for the access list of a leaf; else the target
abbrev pub asked_place : Nodes → Path → Query → Verb → Path
asked_place m p q verb.Add = above p
asked_place m p q verb.Replace = replace_place m p q
asked_place m p q verb.Copy = p
asked_place m p q verb.Delete = p
asked_place m p q verb.Exec = p
asked_place m p q verb.Get = p

-- where that right is refused on that node, the code is no success, the tree is as before, nothing is found or started
pub record ChangesNothing (s : Setting) (m : Nodes) (step : Step) : Type 0 where
  pub tree : (act s m step).tree ≡ m
  pub code : is_success (act s m step).code ≡ false
  pub found : (act s m step).found ≡ []
  pub started : (act s m step).started ≡ false

abbrev pub RefusedRightChangesNothing : Type 0
RefusedRightChangesNothing = (s : Setting) (m : Nodes) (step : Step) (text : List ℕ) (uri : Uri) (asked : Right)
    → step.target ≡ Some text → parse_of text ≡ Ok uri → asked_right step.verb ≡ Some asked
    → allows m (asked_place m uri.path uri.query step.verb) s.caller asked ≡ false
    → ChangesNothing s m step

-- 425 comes from such a right alone
pub record IsDenied (s : Setting) (m : Nodes) (step : Step) : Type 0 where
  pub text : List ℕ
  pub uri : Uri
  pub asked : Right
  pub target : step.target ≡ Some text
  pub reads : parse_of text ≡ Ok uri
  pub asks : asked_right step.verb ≡ Some asked
  pub right : allows m (asked_place m uri.path uri.query step.verb) s.caller asked ≡ false

abbrev pub OnlyRefusedRightsAreDenied : Type 0
OnlyRefusedRightsAreDenied = (s : Setting) (m : Nodes) (step : Step) → (act s m step).code ≡ 425 → IsDenied s m step

-- ---- what is no success changes nothing

abbrev pub RefusedStepChangesNothing : Type 0
RefusedStepChangesNothing = (s : Setting) (m : Nodes) (step : Step) → is_success (act s m step).code ≡ false
    → ChangesNothing s m step

-- ---- a step leaves every other node

-- the path is not the target, nor State; nor below the target of a Delete or a rename, nor at or below the new name
pub record IsElsewhere (m : Nodes) (step : Step) (uri : Uri) (q : Path) : Type 0 where
  pub target : q ≡ uri.path → ⊥
  pub state : state_node m ≡ Some q → ⊥
  pub moved : moves step.verb uri.query ≡ true → is_below uri.path q ≡ false
  pub name : is_name_query uri.query ≡ true → is_below (beside uri.path step.value) q ≡ false

abbrev pub StepLeavesOthers : Type 0
StepLeavesOthers = (s : Setting) (m : Nodes) (step : Step) (text : List ℕ) (uri : Uri) (q : Path)
    → step.target ≡ Some text → parse_of text ≡ Ok uri → IsElsewhere m step uri q
    → get (act s m step).tree q ≡ get m q

-- ---- in an Atomic nothing is started

abbrev pub NothingStartsInAtomic : Type 0
NothingStartsInAtomic = (s : Setting) (m : Nodes) (step : Step) → step.in_atomic ≡ true → (act s m step).started ≡ false

-- ---- the parts of a device's tree

-- the update part stays in order
abbrev pub StepKeepsUpdate : Type 0
StepKeepsUpdate = (s : Setting) (m : Nodes) (step : Step) → IsWellFormed m → IsUpdateInOrder m
    → IsUpdateInOrder (act s m step).tree

-- a device's tree stays one, if the Type that the step gives is a text
abbrev pub StepKeepsDevice : Type 0
StepKeepsDevice = (s : Setting) (m : Nodes) (step : Step) → IsWellFormed m → IsDeviceTree m → IfSome step.media IsText
    → KeepsDevice m (act s m step).tree
