-- What a run looks at of its input: the first 67,108,864 bytes, as lines.
use Rattle.std.specs.Prelude.{◌==◌, ◌≤◌, ℕ, Bool, if◌then◌else◌, nat_lt, List, [], ◌∷◌, length, take, Option}
use Rattle.std.specs.Io.KnownBytes.{Consumes}

-- the whole lines without their line feeds, what stands behind the last of them, and whether more bytes come
pub record Input : Type 0 where
  pub lines : List (List ℕ)
  pub tail : List ℕ
  pub more : Bool

-- whole lines, and what stands behind the last of them
pub record Split : Type 0 where
  pub lines : List (List ℕ)
  pub tail : List ℕ

-- a byte in front of the first line
abbrev pub with_byte : ℕ → List (List ℕ) → List ℕ → Split
with_byte b [] tail = record { lines = []; tail = b ∷ tail }
with_byte b (line ∷ lines) tail = record { lines = (b ∷ line) ∷ lines; tail = tail }

abbrev pub split : List ℕ → Split
split [] = record { lines = []; tail = [] }
split (b ∷ bs) =
    if b == 10 then record { lines = [] ∷ (split bs).lines; tail = (split bs).tail }
    else with_byte b (split bs).lines (split bs).tail

-- the input where so many bytes are looked at
abbrev pub input_of : ℕ → List ℕ → Input
input_of room bytes = record {
  lines = (split (take room bytes)).lines;
  tail = (split (take room bytes)).tail;
  more = nat_lt room (length bytes);
}

-- what a run takes, however early it stops: at most as many bytes as it may look at, and one more
abbrev pub TakesOnePast : Option (List ℕ) → Option (List ℕ) → Type 0
TakesOnePast old new = (bytes : List ℕ) × Consumes old new bytes × (length bytes ≤ 67108865)
