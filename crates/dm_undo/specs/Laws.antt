-- What the list of trees is, in words of edits and roll backs.
use Rattle.std.specs.Prelude.{◌≡◌, ◌<◌, ◌-◌, ℕ, suc, List, [], ◌∷◌, ◌++◌, length}
use Rattle.dm_tree.specs.declared.rows.Row.{Row}
use Rattle.dm_tree.specs.declared.rows.Change.{Change}
use Rattle.dm_tree.specs.Undos.{flipped, Fits}
use Rattle.dm_undo.specs.declared.entries.Entry.{Entry}
use Rattle.dm_undo.specs.declared.entries.Entry.TheVariants.{Record, Flipped}
use Rattle.dm_undo.specs.Trees.{maps_of, flipped_forward, trees, tree_at}
use Rattle.dm_undo.specs.Sound.{IsSound}

-- there is a tree for each place between entries; the last one stands now
abbrev pub EachPlaceHasATree : Type 0
EachPlaceHasATree = (es : List Entry) (rows : List Row)
    → (length (trees es rows) ≡ suc (length es)) × (tree_at es rows (length es) ≡ maps_of rows)

-- a record leads from the tree after it to the tree before it
abbrev pub RecordsLeadBack : Type 0
RecordsLeadBack = (es : List Entry) (rows : List Row) (u : Change) → IsSound (Record u ∷ es) rows
    → Fits rows u × (IsSound es (flipped rows u)
    × (trees (Record u ∷ es) rows ≡ trees es (flipped rows u) ++ maps_of rows ∷ []))

-- after a roll back stands the tree again to which it went
abbrev pub RollBacksReturn : Type 0
RollBacksReturn = (es : List Entry) (rows : List Row) (c : ℕ) → IsSound (Flipped c ∷ es) rows
    → maps_of rows ≡ tree_at (Flipped c ∷ es) rows (length es - c)

-- and a record that it took back leads from the tree before it to the tree after it: these are the trees of the rows in
-- which the older ones of those records are done again, and of the rows with this record done again too
abbrev pub RolledBackRecordsLeadForward : Type 0
RolledBackRecordsLeadForward = (newer older : List Entry) (rows : List Row) (u : Change) (c : ℕ)
    → IsSound (Flipped c ∷ (newer ++ Record u ∷ older)) rows → length newer < c
    → Fits (flipped_forward (c - suc (length newer)) older rows).rows u
    × ((tree_at (Flipped c ∷ (newer ++ Record u ∷ older)) rows (length older)
    ≡ maps_of (flipped_forward (c - suc (length newer)) older rows).rows)
    × (tree_at (Flipped c ∷ (newer ++ Record u ∷ older)) rows (suc (length older))
    ≡ maps_of (flipped (flipped_forward (c - suc (length newer)) older rows).rows u)))
