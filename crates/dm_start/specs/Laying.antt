-- What calls on the tree of a start section do to it.
use Rattle.std.specs.Prelude.{◌≡◌, Bool, true, false, IsTrue, List, [], ◌∷◌, ◌++◌, None, Result, Ok, Err}
use Rattle.std.specs.FinMap.{get}
use Rattle.dm_base.specs.declared.lines.LineReason.{LineReason}
use Rattle.dm_base.specs.declared.lines.LineReason.TheVariants as reason
use Rattle.dm_uri.specs.Names.{is_within_limits}
use Rattle.dm_tree.specs.declared.rows.Row.{Row}
use Rattle.dm_tree.specs.Nodes.{Path, Nodes}
use Rattle.dm_tree.specs.Rows.{Tree, nodes, node_of, path_of, IsLive, IsNoneParked}
use Rattle.dm_undo.specs.Journals.{Journal}
use Rattle.dm_undo.specs.Sound.{IsSound}
use Rattle.dm_undo.specs.Trees.{Maps, tree_at}
use Rattle.dm_fields.specs.declared.errors.LineError.{LineError}
use Rattle.dm_fields.specs.declared.errors.LineError.TheVariants as line_error
use Rattle.dm_fields.specs.Refusing.{Refuses}
use Rattle.dm_start.specs.declared.new_nodes.NodePlace.{NodePlace}
use Rattle.dm_start.specs.Growing.{is_open}

-- where nothing was parked, nothing is
abbrev pub ParksNone : Tree → Tree → Type 0
ParksNone old new = IsNoneParked old.rows → IsNoneParked new.rows

-- the nodes and the clock are as they were, and nothing is left over
pub record LeavesTreeAsIs (old new : Tree) : Type 0 where
  pub nodes_are : nodes new.rows ≡ nodes old.rows
  pub clock : new.clock ≡ old.clock
  pub parked : ParksNone old new

-- the tree is the wanted one, and nothing is left over; an error leaves all
abbrev pub Lays : {T : Type 0} → Result Nodes LineReason → Tree → Tree → Result T LineError → Type 0
Lays wanted old new (Ok x) = (wanted ≡ Ok (nodes new.rows)) × ((new.clock ≡ old.clock) × ParksNone old new)
Lays wanted old new (Err e) = Refuses wanted e × LeavesTreeAsIs old new

-- what is said, seen so, is the wanted thing
abbrev pub SaysAs : {X Y : Type 0} → (X → Y) → Result Y LineReason → Result X LineError → Type 0
SaysAs view wanted (Ok x) = wanted ≡ Ok (view x)
SaysAs view wanted (Err e) = Refuses wanted e

abbrev pub AnswersWanted : {X : Type 0} → Result X LineReason → Result X LineError → Type 0
AnswersWanted wanted result = SaysAs (λ x. x) wanted result

-- where a new node at p comes
pub record IsSpot (rows : List Row) (p : Path) (permanent : Bool) (spot : NodePlace) : Type 0 where
  pub path : p ≡ path_of rows spot.parent ++ spot.name ∷ []
  pub live : IsLive rows spot.parent
  pub interior : (node_of rows spot.parent).interior ≡ true
  pub permanent_above : permanent ≡ true → (node_of rows spot.parent).permanent ≡ true
  pub free : get (nodes rows) p ≡ None
  pub is_open_there : is_open (nodes rows) p permanent ≡ true

abbrev pub IsNoSpot : List Row → Path → Bool → Type 0
IsNoSpot rows p permanent = is_open (nodes rows) p permanent ≡ false

-- the path is out of the limits, so that no node may come to stand there
abbrev pub IsOutside : Path → LineError → Type 0
IsOutside p (line_error.Bad why) = (is_within_limits p ≡ false) × (why ≡ reason.Tree)
IsOutside p line_error.Memory = Unit {0}

-- a path is given, where it is within the limits
abbrev pub Lengthens : Path → Result Path LineError → Type 0
Lengthens wanted (Ok p) = (p ≡ wanted) × IsTrue (is_within_limits wanted)
Lengthens wanted (Err e) = IsOutside wanted e

-- a journal takes all its edits back, and the tree is this one again
pub record GoesBackTo (maps : Maps) (journal : Journal) (rows : List Row) : Type 0 where
  pub sound : IsSound journal.entries rows
  pub first : tree_at journal.entries rows 0 ≡ maps
