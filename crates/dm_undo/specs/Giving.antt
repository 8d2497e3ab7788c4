-- Entries that are given up.
use Rattle.std.specs.Prelude.{ℕ, List, ⊤}
use Rattle.dm_tree.specs.declared.rows.Row.{Row}
use Rattle.dm_tree.specs.Rows.{IsTree}
use Rattle.dm_tree.specs.Undos.{IsHeld}
use Rattle.dm_tree.specs.Notes.{Stays}
use Rattle.dm_undo.specs.declared.entries.Entry.{Entry}
use Rattle.dm_undo.specs.declared.entries.Entry.TheVariants.{Record, Flipped}

abbrev pub MayGiveUp : Entry → List Row → Type 0
MayGiveUp (Record u) rows = IsTree rows × IsHeld rows u
MayGiveUp (Flipped c) rows = IsTree rows

-- the row k stays when the entry is given up
abbrev pub LeavesRow : List Row → Entry → ℕ → Type 0
LeavesRow rows (Record u) k = Stays rows u k
LeavesRow rows (Flipped c) k = ⊤
