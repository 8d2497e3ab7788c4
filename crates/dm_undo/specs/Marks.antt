-- What marks recall. A mark is the number of entries before its place, and held where the journal has so many.
use Rattle.std.specs.Prelude.{◌≡◌, ◌≤◌, ◌+◌, ℕ, List, length}
use Rattle.dm_tree.specs.declared.rows.Row.{Row}
use Rattle.dm_undo.specs.declared.entries.Entry.{Entry}
use Rattle.dm_undo.specs.Trees.{tree_at}

-- the marks up to the last one are held still, and recall the trees that they recalled
abbrev pub RecallsTrees : ℕ → List Entry → List Row → List Entry → List Row → Type 0
RecallsTrees last old before new now = (mark : ℕ) → mark ≤ last
    → (mark ≤ length new) × (tree_at new now mark ≡ tree_at old before mark)

-- places are counted from the first one on: each place behind it is held, and recalls the tree that stood there
abbrev pub RecallsFrom : ℕ → List Entry → List Row → List Entry → List Row → Type 0
RecallsFrom first old before new now = (mark : ℕ) → first + mark ≤ length old
    → (mark ≤ length new) × (tree_at new now mark ≡ tree_at old before (first + mark))
