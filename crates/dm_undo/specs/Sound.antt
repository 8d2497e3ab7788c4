-- When a journal, with the tree that it goes with, stands for a list of trees: each of them can be made again.
use Rattle.std.specs.Prelude.{◌≡◌, ℕ, zero, suc, List, [], ◌∷◌, ◌++◌, length, ⊤}
use Rattle.dm_tree.specs.declared.rows.Row.{Row}
use Rattle.dm_tree.specs.declared.rows.Change.{Change}
use Rattle.dm_tree.specs.declared.rows.Change.TheVariants as change
use Rattle.dm_tree.specs.Rows.{IsTree, IsParkedTop}
use Rattle.dm_tree.specs.Undos.{Fits}
use Rattle.dm_tree.specs.Reuse.{IsUsed, IsClear}
use Rattle.dm_undo.specs.declared.entries.Entry.{Entry}
use Rattle.dm_undo.specs.declared.entries.Entry.TheVariants.{Record, Flipped}
use Rattle.dm_undo.specs.Entries.{AreRecords, StaysWithin, OfEach, IsHeldIn, AreHeldOnce}
use Rattle.dm_undo.specs.Trees.{flipped_forward, stage_before}

-- ---- the newest entry may be taken off

abbrev pub FitsEntry : Entry → List Row → Type 0
FitsEntry (Record u) rows = Fits rows u
FitsEntry (Flipped c) rows = ⊤

-- so many entries may be flipped forward
abbrev pub FitForward : ℕ → List Entry → List Row → Type 0
FitForward zero es rows = ⊤
FitForward (suc c) [] rows = ⊤
FitForward (suc c) (e ∷ es) rows = FitForward c es rows × FitsEntry e (flipped_forward c es rows).rows

-- no record is of the row k, or of one that lies below it or would if it were put in
abbrev pub IsApart : List Row → ℕ → List Entry → Type 0
IsApart rows k es = OfEach (IsClear rows k) es

-- where the Undo takes a new node out again, no older record is of its row, or of one below it
abbrev pub BeginsRow : List Row → Change → List Entry → Type 0
BeginsRow rows (change.TakeOut k) es = IsApart rows k es
BeginsRow rows (change.PutIn k) es = ⊤
BeginsRow rows (change.Value k value verno stamp) es = ⊤
BeginsRow rows (change.Bytes k bytes verno stamp) es = ⊤
BeginsRow rows (change.Acl k acl verno stamp) es = ⊤
BeginsRow rows (change.Title k title verno stamp) es = ⊤
BeginsRow rows (change.Name k name verno stamp) es = ⊤

abbrev pub MayTakeOff : Entry → List Entry → List Row → Type 0
MayTakeOff (Record u) es rows = Fits rows u × BeginsRow rows u es
MayTakeOff (Flipped c) es rows = AreRecords c es × FitForward c es rows

-- ---- the oldest entries may be given up

-- what records hold is parked, each subtree once; where the newer entries stay within themselves, none of them is of a
-- row in what an older one holds; and no record is of a row that was given up
pub record IsSoundStage (es : List Entry) (rows : List Row) : Type 0 where
  pub tree : IsTree rows
  pub parked : (k : ℕ) → IsHeldIn k es → IsParkedTop rows k
  pub once : AreHeldOnce es
  pub apart : (new old : List Entry) → es ≡ new ++ old → StaysWithin new
      → (k : ℕ) → IsHeldIn k old → IsApart rows k new
  pub used : OfEach (IsUsed rows) es

-- ---- the whole

-- that holds now, and before each of n entries, the newest first
abbrev pub AreSoundStages : ℕ → List Entry → List Row → Type 0
AreSoundStages zero es rows = IsTree rows
AreSoundStages (suc n) [] rows = IsTree rows
AreSoundStages (suc n) (e ∷ es) rows = IsSoundStage (e ∷ es) rows × (MayTakeOff e es rows
    × AreSoundStages n (stage_before e es rows).entries (stage_before e es rows).rows)

-- the journal with this tree stands for a list of trees
unfoldable pub IsSound : List Entry → List Row → Type 0
IsSound es rows = AreSoundStages (length es) es rows

-- every subtree that is parked is held by a record: none was left over
abbrev pub AreAllHeld : List Entry → List Row → Type 0
AreAllHeld es rows = (k : ℕ) → IsParkedTop rows k → IsHeldIn k es
