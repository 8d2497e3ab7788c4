-- Where the values of each command stand in the one list of all values.
use Rattle.std.specs.Prelude.{◌≡◌, ◌==◌, ◌+◌, ◌<◌, ◌≤◌, ℕ, if◌then◌else◌, List, [], ◌∷◌, length, drop, slice_index}
use Rattle.std.specs.Prelude.{slice_index_or}
use Rattle.dm_report.specs.declared.kept.FoundValue.{FoundValue}

-- where the first value of a command stands, of those from a position on; where there is none, behind them all
abbrev pub first_from : ℕ → ℕ → List FoundValue → ℕ
first_from place at [] = at
first_from place at (f ∷ fs) = if f.place == place then at else first_from place (at + 1) fs

abbrev pub next_value : ℕ → ℕ → List FoundValue → ℕ
next_value place at found = first_from place at (drop at found)

-- the values from a position on are chained: `first` has where the first of each command stands, and `next` where the
-- next one of the same command does
pub record IsChained (found : List FoundValue) (from : ℕ) (first next : List ℕ) : Type 0 where
  pub room : length next ≡ length found
  pub begins : (place : ℕ) → place < length first → slice_index first place ≡ next_value place from found
  pub goes_on : (at : ℕ) (f : FoundValue) → from ≤ at → at < length found → f ≡ slice_index_or found at f
      → f.place < length first → slice_index next at ≡ next_value f.place (at + 1) found
