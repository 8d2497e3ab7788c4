-- What each step of the making keeps to.
use Rattle.std.specs.Prelude.{◌≡◌, ℕ, true, false, List, [], ◌∷◌, ◌++◌, map, Option, Some, None, IfSome, option_map, ⊤}
use Rattle.std.specs.FinMap.{insert}
use Rattle.dm_tree.specs.declared.nodes.NewNode.{NewNode}
use Rattle.dm_tree.specs.declared.rows.Row.{Row}
use Rattle.dm_tree.specs.Nodes.{Path, first_stamp, made}
use Rattle.dm_tree.specs.Rows.{Tree, nodes, path_of, IsLive, StayLive}
use Rattle.dm_start.specs.Growing.{may_stand}
use Rattle.dm_ddf.specs.declared.rules.Rule.{Rule}
use Rattle.dm_ddf.specs.Making.{Making, after_rule}

-- a tree, and for each rule so far the number of its node, if one was made
abbrev pub making_of : Tree → List (Option ℕ) → Making
making_of t ids = record { nodes = nodes t.rows; paths = map (λ id. option_map (path_of t.rows) id) ids }

abbrev pub AreLive : List Row → List (Option ℕ) → Type 0
AreLive rows [] = ⊤
AreLive rows (id ∷ ids) = IfSome id (IsLive rows) × AreLive rows ids

-- a node came to stand at p, under a number; or none may stand there
abbrev pub ComesAt : Tree → Tree → Path → NewNode → Option ℕ → Type 0
ComesAt old new p node (Some id) =
    (may_stand (nodes old.rows) p node.permanent ≡ true) × (nodes new.rows ≡ insert (nodes old.rows) p (made old.clock
    node))
    × (new.clock ≡ old.clock) × StayLive old.rows new.rows × IsLive new.rows id × (path_of new.rows id ≡ p)
ComesAt old new p node None = (may_stand (nodes old.rows) p node.permanent ≡ false) × (new ≡ old)

-- the rule was gone through, and this is the number of its node
pub record GoesThrough (rules : List Rule) (old new : Tree) (ids : List (Option ℕ)) (rule : Rule) (id : Option ℕ) :
    Type 0 where
  pub making : making_of new (ids ++ id ∷ []) ≡ after_rule rules (making_of old ids) rule
  pub live : AreLive new.rows (ids ++ id ∷ [])
  pub clock : new.clock ≡ old.clock
