-- The order of the tree text, and how one goes through it.
use Rattle.std.specs.Prelude.{◌==◌, ◌&&◌, ◌+◌, ℕ, Bool, not, List, [], length, map, filter, Option, unwrap_or, find}
use Rattle.std.specs.Ordering.{is_lt}
use Rattle.std.specs.FinMap.{keys}
use Rattle.dm_tree.specs.Nodes.{Path, Nodes, tree_order, above, last_name, is_below}

-- q is one name longer than p, and goes through it
abbrev pub is_child_of : Path → Path → Bool
is_child_of p q = length q == length p + 1 && is_below p q

-- p stands before q
abbrev pub is_before : Path → Path → Bool
is_before p q = is_lt (tree_order p q)

-- the first of the children of p; none where it has none
abbrev pub first_child : Nodes → Path → Option Path
first_child m p = find (λ q. is_child_of p q) (keys m)

-- the next of the nodes beside p; none at the last, and at the root
abbrev pub next_sibling : Nodes → Path → Option Path
next_sibling m p = find (λ q. not (length p == 0) && is_child_of (above p) q && is_before p q) (keys m)

-- the children of p, in order
abbrev pub children : Nodes → Path → List Path
children m p = filter (λ q. is_child_of p q) (keys m)

-- those of the nodes beside p that come behind it
abbrev pub children_behind : Nodes → Path → List Path
children_behind m p = filter (λ q. not (length p == 0) && is_child_of (above p) q && is_before p q) (keys m)

-- the last name of each of these paths; the root has none
abbrev pub names_of : List Path → List (List ℕ)
names_of paths = map (λ q. unwrap_or (last_name q) []) paths

-- the names of the children of p, in order
abbrev pub child_names : Nodes → Path → List (List ℕ)
child_names m p = names_of (children m p)

-- the node behind p among those at and below `top`; with `past`, the one behind all that stand below p
abbrev pub next_below : Nodes → Path → Path → Bool → Option Path
next_below m top p past = find (λ q. is_below top q && is_before p q && not (past && is_below p q)) (keys m)

-- all of them: the nodes behind p among those at and below `top`; with `past`, without those below p
abbrev pub behind : Nodes → Path → Path → Bool → List Path
behind m top p past = filter (λ q. is_below top q && is_before p q && not (past && is_below p q)) (keys m)

-- the nodes at and below `top`
abbrev pub below : Nodes → Path → List Path
below m top = filter (λ q. is_below top q) (keys m)
