-- What an edit promises of its Undo, and what a discard leaves to the others.
use Rattle.std.specs.Prelude.{◌≡◌, ℕ, List, [], ◌∷◌, ⊤, ◌⊎◌, Option, None, Some}
use Rattle.dm_tree.specs.declared.rows.Row.{Row}
use Rattle.dm_tree.specs.declared.rows.Change.{Change}
use Rattle.dm_tree.specs.declared.rows.Change.TheVariants as change
use Rattle.dm_tree.specs.Rows.{nodes, ids, path_below, IsTree, IsParkedTop}
use Rattle.dm_tree.specs.Reuse.{IsUsed, IsClear}
use Rattle.dm_tree.specs.Undos.{row_of, flipped, turned, Fits, FitAll, all_flipped, IsHeld}

-- each of these Undos speaks of such a row
abbrev pub AreAt : (ℕ → Type 0) → List Change → Type 0
AreAt ok [] = ⊤
AreAt ok (u ∷ us) = ok (row_of u) × AreAt ok us

-- whatever Undos of such rows may be flipped one after another in the old rows may be in the new ones; they give the
-- same tree there, turn alike, leave the same subtrees parked, and no row comes to lie below another
pub record GoesAlike (ok : ℕ → Type 0) (old new : List Row) : Type 0 where
  pub tree : IsTree new
  pub fit : (us : List Change) → AreAt ok us → FitAll old us → FitAll new us
  pub nodes : (us : List Change) → AreAt ok us → FitAll old us → nodes (all_flipped new us) ≡ nodes (all_flipped old us)
  pub ids : (us : List Change) → AreAt ok us → FitAll old us → ids (all_flipped new us) ≡ ids (all_flipped old us)
  pub turned : (us : List Change) (u : Change) → AreAt ok us → FitAll old us → ok (row_of u)
      → Fits (all_flipped old us) u → turned (all_flipped new us) u ≡ turned (all_flipped old us) u
  pub parked : (us : List Change) (k : ℕ) → AreAt ok us → FitAll old us → ok k
      → IsParkedTop (all_flipped old us) k → IsParkedTop (all_flipped new us) k
  pub used : (us : List Change) (k : ℕ) → AreAt ok us → FitAll old us → ok k
      → IsUsed (all_flipped old us) k → IsUsed (all_flipped new us) k
  pub clear : (us : List Change) (k j : ℕ) → AreAt ok us → FitAll old us → ok k → ok j
      → IsClear (all_flipped old us) k j → IsClear (all_flipped new us) k j

-- a row that an Undo takes out again was in no use before
abbrev pub IsFresh : List Row → Change → Type 0
IsFresh rows (change.TakeOut k) = IsUsed rows k → ⊥
IsFresh rows (change.PutIn k) = ⊤
IsFresh rows (change.Value k value verno stamp) = ⊤
IsFresh rows (change.Bytes k bytes verno stamp) = ⊤
IsFresh rows (change.Acl k acl verno stamp) = ⊤
IsFresh rows (change.Title k title verno stamp) = ⊤
IsFresh rows (change.Name k name verno stamp) = ⊤

-- and nothing that was in use lies below it
abbrev pub BeginsClear : List Row → List Row → Change → Type 0
BeginsClear old new (change.TakeOut k) = (j : ℕ) → IsUsed old j → IsClear new k j
BeginsClear old new (change.PutIn k) = ⊤
BeginsClear old new (change.Value k value verno stamp) = ⊤
BeginsClear old new (change.Bytes k bytes verno stamp) = ⊤
BeginsClear old new (change.Acl k acl verno stamp) = ⊤
BeginsClear old new (change.Title k title verno stamp) = ⊤
BeginsClear old new (change.Name k name verno stamp) = ⊤

-- the top of the subtree that an Undo holds
abbrev pub held_by : Change → Option ℕ
held_by (change.PutIn k) = Some k
held_by (change.TakeOut k) = None
held_by (change.Value k value verno stamp) = None
held_by (change.Bytes k bytes verno stamp) = None
held_by (change.Acl k acl verno stamp) = None
held_by (change.Title k title verno stamp) = None
held_by (change.Name k name verno stamp) = None

-- an edit led from the old rows to the new ones, and this takes it back: whatever could be flipped before the edit can
-- be after it is taken back; it speaks of no row that was parked or lay below such a one
pub record TakesEditBack (undo : Change) (old new : List Row) : Type 0 where
  pub tree : IsTree new
  pub fits : Fits new undo
  pub alike : GoesAlike (IsUsed old) old (flipped new undo)
  pub parked : (k : ℕ) → IsParkedTop old k → IsParkedTop new k
  pub held : IsHeld new undo
  pub only : (k : ℕ) → IsParkedTop new k → IsParkedTop old k ⊎ (held_by undo ≡ Some k)
  pub used : IsUsed new (row_of undo)
  pub stays : (k : ℕ) → IsUsed old k → IsUsed new k
  pub apart : (k : ℕ) → IsParkedTop old k → IsClear new k (row_of undo)
  pub clear : (k j : ℕ) → IsParkedTop old k → IsUsed old j → IsClear old k j → IsClear new k j
  pub fresh : IsFresh old undo
  pub begins : BeginsClear old new undo

-- the rows that stay when this is discarded: all but those of the subtree that it holds
abbrev pub Stays : List Row → Change → ℕ → Type 0
Stays rows (change.PutIn k) j = path_below rows k j ≡ None
Stays rows (change.TakeOut k) j = ⊤
Stays rows (change.Value k value verno stamp) j = ⊤
Stays rows (change.Bytes k bytes verno stamp) j = ⊤
Stays rows (change.Acl k acl verno stamp) j = ⊤
Stays rows (change.Title k title verno stamp) j = ⊤
Stays rows (change.Name k name verno stamp) j = ⊤
