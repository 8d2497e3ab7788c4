-- What is said of entries alone. The newest one comes first.
use Rattle.std.specs.Prelude.{◌≡◌, ◌≤◌, ℕ, zero, suc, List, [], ◌∷◌, length, ⊤, ◌⊎◌, Option, None, Some}
use Rattle.dm_tree.specs.Undos.{row_of}
use Rattle.dm_tree.specs.Notes.{held_by}
use Rattle.dm_undo.specs.declared.entries.Entry.{Entry}
use Rattle.dm_undo.specs.declared.entries.Entry.TheVariants.{Record, Flipped}

-- so many entries, the newest ones, are records
abbrev pub AreRecords : ℕ → List Entry → Type 0
AreRecords zero es = ⊤
AreRecords (suc c) [] = ⊥
AreRecords (suc c) (Record u ∷ es) = AreRecords c es
AreRecords (suc c) (Flipped d ∷ es) = ⊥

-- no roll back among these went to a place before them
abbrev pub StaysWithin : List Entry → Type 0
StaysWithin [] = ⊤
StaysWithin (Record u ∷ es) = StaysWithin es
StaysWithin (Flipped c ∷ es) = (c ≤ length es) × StaysWithin es

-- entry by entry: records of the same rows, and the same roll backs
abbrev pub AreAlike : List Entry → List Entry → Type 0
AreAlike [] [] = ⊤
AreAlike [] (f ∷ fs) = ⊥
AreAlike (e ∷ es) [] = ⊥
AreAlike (Record u ∷ es) (Record v ∷ fs) = (row_of v ≡ row_of u) × AreAlike es fs
AreAlike (Record u ∷ es) (Flipped d ∷ fs) = ⊥
AreAlike (Flipped c ∷ es) (Record v ∷ fs) = ⊥
AreAlike (Flipped c ∷ es) (Flipped d ∷ fs) = (d ≡ c) × AreAlike es fs

-- the row of each record is such a one
abbrev pub OfEach : (ℕ → Type 0) → List Entry → Type 0
OfEach ok [] = ⊤
OfEach ok (Record u ∷ es) = ok (row_of u) × OfEach ok es
OfEach ok (Flipped c ∷ es) = OfEach ok es

-- the top of the subtree that an entry holds
abbrev pub held_top : Entry → Option ℕ
held_top (Record u) = held_by u
held_top (Flipped c) = None

abbrev pub IsHeldIn : ℕ → List Entry → Type 0
IsHeldIn k [] = ⊥
IsHeldIn k (e ∷ es) = (held_top e ≡ Some k) ⊎ IsHeldIn k es

-- no subtree is held twice
abbrev pub AreHeldOnce : List Entry → Type 0
AreHeldOnce [] = ⊤
AreHeldOnce (e ∷ es) = ((k : ℕ) → held_top e ≡ Some k → IsHeldIn k es → ⊥) × AreHeldOnce es
