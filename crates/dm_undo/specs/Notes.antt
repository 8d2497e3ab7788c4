-- What steps promise of a journal in which they note their edits.
use Rattle.std.specs.Prelude.{◌≡◌, ◌≤◌, ◌-◌, List, ◌++◌, length}
use Rattle.dm_tree.specs.declared.rows.Row.{Row}
use Rattle.dm_undo.specs.declared.entries.Entry.{Entry}
use Rattle.dm_undo.specs.Journals.{Journal}
use Rattle.dm_undo.specs.Entries.{AreRecords}
use Rattle.dm_undo.specs.Trees.{Maps, trees}
use Rattle.dm_undo.specs.Sound.{IsSound, AreAllHeld}
use Rattle.dm_undo.specs.Marks.{RecallsTrees}

-- edits were noted, and nothing was rolled back: all trees so far are there, each mark recalls what it did, what is
-- parked is held, and there is no less room to spare
pub record Notes (old : Journal) (before : List Row) (new : Journal) (now : List Row) : Type 0 where
  pub newer : List Entry
  pub entries : new.entries ≡ newer ++ old.entries
  pub records : AreRecords (length newer) newer
  pub sound : IsSound old.entries before → IsSound new.entries now
  pub more : List Maps
  pub trees : IsSound old.entries before → trees new.entries now ≡ trees old.entries before ++ more
  pub recalls : IsSound old.entries before → RecallsTrees (length old.entries) old.entries before new.entries now
  pub parked : AreAllHeld old.entries before → AreAllHeld new.entries now
  pub spare : old.room - length old.entries ≤ new.room - length new.entries
