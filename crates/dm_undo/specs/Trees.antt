-- The trees that a journal stands for with the tree that it goes with. Of its entries the newest one comes first.
use Rattle.std.specs.Prelude.{ℕ, zero, suc, List, [], ◌∷◌, length, reverse, get_or}
use Rattle.dm_tree.specs.declared.rows.Row.{Row}
use Rattle.dm_tree.specs.Nodes.{Nodes, Ids}
use Rattle.dm_tree.specs.Rows.{nodes, ids}
use Rattle.dm_tree.specs.Undos.{flipped, turned}
use Rattle.dm_undo.specs.declared.entries.Entry.{Entry}
use Rattle.dm_undo.specs.declared.entries.Entry.TheVariants.{Record, Flipped}

-- a tree: the nodes at their paths, and their numbers
pub record Maps : Type 0 where
  pub nodes : Nodes
  pub ids : Ids

abbrev pub maps_of : List Row → Maps
maps_of rows = record { nodes = nodes rows; ids = ids rows }

-- ---- entries that are flipped

-- entries, and the rows that they go with
pub record Stage : Type 0 where
  pub entries : List Entry
  pub rows : List Row

abbrev pub stage : List Entry → List Row → Stage
stage es rows = record { entries = es; rows = rows }

-- the rows after an entry is flipped, and what it has become; a roll back has nothing to flip
abbrev pub flipped_by : Entry → List Row → List Row
flipped_by (Record u) rows = flipped rows u
flipped_by (Flipped c) rows = rows

abbrev pub turned_in : List Row → Entry → Entry
turned_in rows (Record u) = Record (turned rows u)
turned_in rows (Flipped c) = Flipped c

abbrev pub onto : Entry → Stage → Stage
onto e s = record s { entries = e ∷ s.entries }

-- so many entries flipped back, the newest first
abbrev pub flipped_back : ℕ → List Entry → List Row → Stage
flipped_back zero es rows = stage es rows
flipped_back (suc c) [] rows = stage [] rows
flipped_back (suc c) (e ∷ es) rows = onto (turned_in rows e) (flipped_back c es (flipped_by e rows))

abbrev pub forward : Entry → Stage → Stage
forward e s = record { entries = turned_in s.rows e ∷ s.entries; rows = flipped_by e s.rows }

-- so many entries flipped forward, the newest last
abbrev pub flipped_forward : ℕ → List Entry → List Row → Stage
flipped_forward zero es rows = stage es rows
flipped_forward (suc c) [] rows = stage [] rows
flipped_forward (suc c) (e ∷ es) rows = forward e (flipped_forward c es rows)

-- ---- the trees

-- how it stood before the newest entry: an edit is taken back, and what was rolled back is done again
abbrev pub stage_before : Entry → List Entry → List Row → Stage
stage_before (Record u) es rows = stage es (flipped rows u)
stage_before (Flipped c) es rows = flipped_forward c es rows

-- the trees that stood after each of n entries, the newest first, and the tree before them all
abbrev pub newest_first : ℕ → List Entry → List Row → List Maps
newest_first zero es rows = maps_of rows ∷ []
newest_first (suc n) [] rows = maps_of rows ∷ []
newest_first (suc n) (e ∷ es) rows =
    maps_of rows ∷ newest_first n (stage_before e es rows).entries (stage_before e es rows).rows

-- the trees that stood at the places between entries, the oldest first; the last one stands now
unfoldable pub trees : List Entry → List Row → List Maps
trees es rows = reverse (newest_first (length es) es rows)

-- the tree that stood where the mark was taken
abbrev pub tree_at : List Entry → List Row → ℕ → Maps
tree_at es rows mark = get_or (trees es rows) mark (maps_of [])
