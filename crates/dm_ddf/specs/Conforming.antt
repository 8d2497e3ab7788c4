-- What it means that a tree conforms to a description.
use Rattle.std.specs.Prelude.{◌≡◌, ◌≢◌, ℕ, Bool, true, false, List, [], ◌++◌, ◌∷◌, Option, Some, None, IfSome}
use Rattle.std.specs.FinMap.{get}
use Rattle.dm_tree.specs.declared.nodes.Node.{Node}
use Rattle.dm_tree.specs.declared.rows.Row.{Row}
use Rattle.dm_tree.specs.Nodes.{Path, Nodes}
use Rattle.dm_tree.specs.Rows.{nodes, path_of, IsLive}
use Rattle.dm_ddf.specs.declared.rules.Rule.{Rule}
use Rattle.dm_ddf.specs.declared.conforming.Conformity.{Conformity}
use Rattle.dm_ddf.specs.declared.conforming.Conformity.TheVariants as conformity
use Rattle.dm_ddf.specs.Breaches.{first_breach}

-- a tree without any breach conforms; of one that has some, the first is told
abbrev pub TellsFirst : List Row → List Rule → Conformity → Type 0
TellsFirst rows rules conformity.Yes = first_breach (nodes rows) rules ≡ None
TellsFirst rows rules (conformity.Breaks node why) =
    IsLive rows node × (first_breach (nodes rows) rules ≡ Some (path_of rows node, why))
