-- What a discard gives back.
use Rattle.std.specs.Prelude.{◌≡◌, ℕ, true, false, List, length, ⊤, None, Some}
use Rattle.dm_tree.specs.declared.rows.Row.{Row}
use Rattle.dm_tree.specs.declared.rows.Change.{Change}
use Rattle.dm_tree.specs.declared.rows.Change.TheVariants as change
use Rattle.dm_tree.specs.Nodes.{Path}
use Rattle.dm_tree.specs.Rows.{row_at, path_below, IsParkedTop}
use Rattle.dm_tree.specs.Edits.{emptied, IsGivenUp}
use Rattle.dm_tree.specs.Reuse.{IsUsed}
use Rattle.dm_tree.specs.Notes.{GoesAlike}

-- what is left of a row that is given back: it is out, given up, and has no bytes, Type, access list and title any more
abbrev pub spent : Row → Row
spent r = record r { attached = false; given_up = true; node = emptied r.node }

-- each row of the subtree below `top` is given back
abbrev pub AreSpent : List Row → ℕ → List Row → Type 0
AreSpent old top new = (k : ℕ) (p : Path) → path_below old top k ≡ Some p → row_at new k ≡ spent (row_at old k)

-- the rows of its subtree, where it holds one, are given back
abbrev pub IsGivenBack : Change → List Row → List Row → Type 0
IsGivenBack (change.PutIn k) old new = AreSpent old k new
IsGivenBack (change.TakeOut k) old new = ⊤
IsGivenBack (change.Value k value verno stamp) old new = ⊤
IsGivenBack (change.Bytes k bytes verno stamp) old new = ⊤
IsGivenBack (change.Acl k acl verno stamp) old new = ⊤
IsGivenBack (change.Title k title verno stamp) old new = ⊤
IsGivenBack (change.Name k name verno stamp) old new = ⊤

-- a subtree is given back, and all else is as it was
pub record IsFreed (old : List Row) (top : ℕ) (new : List Row) : Type 0 where
  pub spent : AreSpent old top new
  pub given : IsGivenUp old new top
  pub alike : GoesAlike (λ j. path_below old top j ≡ None) old new
  pub parked : (j : ℕ) → IsParkedTop new j → IsParkedTop old j × (path_below old top j ≡ None)
  pub used : (j : ℕ) → IsUsed old j → path_below old top j ≡ None → IsUsed new j
  pub long : length new ≡ length old
