-- What is kept beside the rows, so that no call looks at every row: the children of each row, and how many rows lie
-- below it.
use Rattle.std.specs.Prelude.{◌≡◌, ◌≤◌, ◌<◌, ◌+◌, ◌&&◌, ℕ, zero, suc, Bool, true, false, not, if◌then◌else◌, nat_eq}
use Rattle.std.specs.Prelude.{nat_lt, List, [], length, get_or}
use Rattle.std.specs.Ordering.{nat_cmp, is_lt}
use Rattle.std.specs.Cmp.Lexicographic.{slice_cmp}
use Rattle.dm_tree.specs.declared.rows.Row.{Row}
use Rattle.dm_tree.specs.Rows.{row_at, ids_below, IsShaped, IsTree}
use Rattle.dm_tree.specs.Edits.{attached_as}

-- ---- the children of one row

-- the rows right below a row, how many rows may be put in below it again, and how many there is room for
pub record ChildList : Type 0 where
  pub ids : List ℕ
  pub parked : ℕ
  pub room : ℕ

abbrev pub no_children : ChildList
no_children = record { ids = []; parked = 0; room = 0 }

abbrev pub children_at : List ChildList → ℕ → ChildList
children_at index k = get_or index k no_children

-- the name of the row j stands before this name
abbrev pub is_named_before : List Row → List ℕ → ℕ → Bool
is_named_before rows name j = is_lt (slice_cmp nat_cmp (row_at rows j).name name)

-- this name stands before that of the row j
abbrev pub is_named_behind : List Row → List ℕ → ℕ → Bool
is_named_behind rows name j = is_lt (slice_cmp nat_cmp name (row_at rows j).name)

-- each of these numbers is that of a row
abbrev pub AreRows : List Row → List ℕ → Type 0
AreRows rows ids = (i : ℕ) → i < length ids → get_or ids i 0 < length rows

-- each of these rows stands before those that come after it
abbrev pub IsInOrder : List Row → List ℕ → Type 0
IsInOrder rows ids =
    (i j : ℕ) → i < j → j < length ids
    → is_named_before rows (row_at rows (get_or ids j 0)).name (get_or ids i 0) ≡ true

-- the row j was taken out from below the row k, and may be put in again; the root is below none
abbrev pub is_parked_below : List Row → ℕ → ℕ → Bool
is_parked_below rows k j =
    nat_lt 0 j && (not (row_at rows j).attached && (not (row_at rows j).given_up && nat_eq (row_at rows j).parent k))

-- how many of the first n rows are such
abbrev pub parked_below : List Row → ℕ → ℕ → ℕ
parked_below rows k zero = 0
parked_below rows k (suc n) = if is_parked_below rows k n then suc (parked_below rows k n) else parked_below rows k n

-- the children of the row k: those that are attached, in order; and room for those that may come in again, so that this
-- takes no memory
pub record IsChildList (rows : List Row) (k : ℕ) (children : ChildList) : Type 0 where
  pub order : IsInOrder rows children.ids
  pub attached : (i : ℕ) → i < length children.ids → (row_at rows (get_or children.ids i 0)).attached ≡ true
  pub parent : (i : ℕ) → i < length children.ids → (row_at rows (get_or children.ids i 0)).parent ≡ k
  pub all : (j : ℕ) → (row_at rows j).attached ≡ true → (row_at rows j).parent ≡ k
      → (i : ℕ) × (i < length children.ids) × (get_or children.ids i 0 ≡ j)
  pub parked : children.parked ≡ parked_below rows k (length rows)
  pub room : length children.ids + children.parked ≤ children.room

pub record IsIndex (rows : List Row) (index : List ChildList) : Type 0 where
  pub same : length index ≡ length rows
  pub each : (k : ℕ) → k < length rows → IsChildList rows k (children_at index k)

-- a row that may be put in
pub record IsPut (rows : List Row) (id : ℕ) : Type 0 where
  pub inside : id < length rows
  pub below_root : 0 < id
  pub out : (row_at rows id).attached ≡ false
  pub held : (row_at rows id).given_up ≡ false
  pub shaped : IsShaped (attached_as rows id true)

-- a row that may be taken out
pub record CanBeTakenOut (rows : List Row) (id : ℕ) : Type 0 where
  pub inside : id < length rows
  pub below_root : 0 < id
  pub attached : (row_at rows id).attached ≡ true
  pub held : (row_at rows id).given_up ≡ false
  pub shaped : IsShaped rows

-- where a name stands among these rows, or would stand: those before the place stand before it, the others don't
pub record IsPlace (rows : List Row) (ids : List ℕ) (name : List ℕ) (place : ℕ) : Type 0 where
  pub within : place ≤ length ids
  pub before : (i : ℕ) → i < place → is_named_before rows name (get_or ids i 0) ≡ true
  pub behind : (i : ℕ) → place ≤ i → i < length ids → is_named_before rows name (get_or ids i 0) ≡ false

-- the first place whose row stands behind a name
pub record IsPlacePast (rows : List Row) (ids : List ℕ) (name : List ℕ) (place : ℕ) : Type 0 where
  pub within : place ≤ length ids
  pub before : (i : ℕ) → i < place → is_named_behind rows name (get_or ids i 0) ≡ false
  pub behind : (i : ℕ) → place ≤ i → i < length ids → is_named_behind rows name (get_or ids i 0) ≡ true

-- ---- the sizes

-- each number says how many rows lie at and below its row, parked or not
pub record IsSized (rows : List Row) (sizes : List ℕ) : Type 0 where
  pub same : length sizes ≡ length rows
  pub each : (k : ℕ) → k < length rows → get_or sizes k 0 ≡ length (ids_below rows k (length rows))

-- ---- the whole

pub record IsKept (rows : List Row) (children : List ChildList) (counts : List ℕ) : Type 0 where
  pub tree : IsTree rows
  pub index : IsIndex rows children
  pub sizes : IsSized rows counts
