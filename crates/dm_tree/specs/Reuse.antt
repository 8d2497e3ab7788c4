-- Rows that nobody holds, and that a new node may take.
use Rattle.std.specs.Prelude.{◌≡◌, ◌<◌, ℕ, true, false, List, length, set, None, [], ◌∷◌, ◌++◌, ◌+◌, ◌^◌, ◌⊎◌}
use Rattle.dm_tree.specs.declared.rows.Row.{Row}
use Rattle.dm_tree.specs.Rows.{row_at, walk}
use Rattle.dm_tree.specs.Edits.{attached_as, without_content}

-- a row that was given up, and right below which no row stands that is in the tree or parked
pub record IsFreeRow (rows : List Row) (k : ℕ) : Type 0 where
  pub below_root : 0 < k
  pub inside : k < length rows
  pub out : (row_at rows k).attached ≡ false
  pub given_up : (row_at rows k).given_up ≡ true
  pub alone : (j : ℕ) → 0 < j → (row_at rows j).parent ≡ k → (row_at rows j).given_up ≡ true

-- a row that wasn't given up
abbrev pub IsUsed : List Row → ℕ → Type 0
IsUsed rows k = (k < length rows) × (0 < k → (row_at rows k).given_up ≡ false)

-- a row right below one that is given up
pub record IsLeftOver (rows : List Row) (k : ℕ) : Type 0 where
  pub attached : (row_at rows k).attached ≡ true
  pub below_root : 0 < (row_at rows k).parent
  pub out : (row_at rows (row_at rows k).parent).attached ≡ false
  pub given_up : (row_at rows (row_at rows k).parent).given_up ≡ true

-- the rows with such a row out of the tree, and given up too
abbrev pub freed : List Row → ℕ → List Row
freed rows k = without_content (attached_as rows k false) k

-- from the row j one doesn't come up to the row k
abbrev pub IsOff : List Row → ℕ → ℕ → Type 0
IsOff rows k j = (d : ℕ) → walk rows d k j ≡ None

-- the row j doesn't lie at or below the row k, and wouldn't if it were put in
pub record IsClear (rows : List Row) (k : ℕ) (j : ℕ) : Type 0 where
  pub other : j ≡ k → ⊥
  pub parent : 0 < j → IsOff rows k (row_at rows j).parent

-- a row has come in behind the others, or in place of a free one
abbrev pub IsPlaced : List Row → List Row → ℕ → Row → Type 0
IsPlaced old new k r =
    ((k ≡ length old) × ((length old + 1 < 2 ^ 32) × (new ≡ old ++ r ∷ []))) ⊎ (IsFreeRow old k × (new ≡ set old k r))
