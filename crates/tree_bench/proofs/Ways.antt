-- Each node of a tree comes once on the way through it.
use Rattle.std.proofs.Common.{◌≡◌, ℕ, suc, Bool, true, false, List, [], ◌∷◌, length, refl, sym, ◌∙◌, ap, Some}
use Rattle.std.specs.Prelude.{filter, is_some, IsSome}
use Rattle.std.specs.FinMap.{get, len, keys, entries, len-entries}
use Rattle.std.proofs.lemmas.List.{length-map}
use Rattle.dm_tree.specs.declared.rows.Row.{Row}
use Rattle.dm_tree.specs.Laws.{SubtreeBegins}
use Rattle.dm_tree.specs.Nodes.{Path, Nodes, is_below, IsWellFormed}
use Rattle.dm_tree.specs.Order.{behind, below}
use Rattle.dm_tree.specs.Rows.{nodes, path_of}
use Rattle.tree_bench.specs.Ways.{left}

all_pass : {X : Type 0} (p : X → Bool) → ((x : X) → p x ≡ true) → (xs : List X) → filter p xs ≡ xs
all_pass p h [] = refl
all_pass p h (x ∷ xs) = rw (h x) (ap (λ ys. x ∷ ys) (all_pass p h xs))

pub root_begins : (q : Path) → is_below [] q ≡ true
root_begins [] = refl
root_begins (n ∷ ns) = refl

root_is_there : (m : Nodes) → IsWellFormed m → IsSome (get m [])
root_is_there m well = ap is_some well.root.1

all_below : (m : Nodes) → length (below m []) ≡ len m
all_below m = ap length (all_pass (is_below []) root_begins (keys m)) ∙ length-map (entries m) (λ e. e.0)
    ∙ sym (len-entries m)

-- the root, and all that stands behind it, are the nodes of the tree
pub way_has_all : (rows : List Row) → SubtreeBegins → IsWellFormed (nodes rows) → (top : ℕ) → path_of rows top ≡ []
    → left rows top (Some top) ≡ len (nodes rows)
way_has_all rows begins well top is =
    ap (λ p. suc (length (behind (nodes rows) p p false))) is
    ∙ sym (ap length (begins (nodes rows) [] (root_is_there (nodes rows) well))) ∙ all_below (nodes rows)
