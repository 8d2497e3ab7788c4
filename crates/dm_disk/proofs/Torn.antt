-- A range of a disk's bytes that is torn.
use Rattle.std.proofs.Common.{◌≡◌, ℕ, ◌+◌, ◌≤◌, List, ◌++◌, length, take, drop, refl, ◌∙◌, ap, arith}
use Rattle.std.proofs.Common.{append_assoc, length-append, length-drop}
use Rattle.std.proofs.lemmas.List.{take_at, drop_at, length-take-le}
use Rattle.dm_disk.specs.Disk.{IsTorn, patched}

-- what is written is such an image
module _ (at : ℕ) (bytes s : List ℕ) (within : at + length bytes ≤ length s) where
  front_long : length (take at s) ≡ at
  front_long = length-take-le at s (omega (arith, within))

  -- take at s ++ bytes ++ rest is (take at s ++ bytes) ++ rest
  pub patched_torn : IsTorn at (length bytes) s (patched at bytes s)
  patched_torn = record {
    before = ap (λ (l : List ℕ). take at l) (append_assoc (take at s) bytes (drop (at + length bytes) s))
        ∙ take_at (take at s) (bytes ++ drop (at + length bytes) s) at front_long;
    behind = drop_at (take at s ++ bytes) (drop (at + length bytes) s) (at + length bytes)
        (length-append (take at s) bytes ∙ ap (λ (k : ℕ). k + length bytes) front_long);
    long = omega (
      arith,
      length-append (take at s ++ bytes) (drop (at + length bytes) s),
      length-append (take at s) bytes,
      front_long,
      length-drop (at + length bytes) s,
      within,
    );
  }

pub torn_none : (at n : ℕ) (c : List ℕ) → IsTorn at n c c
torn_none at n c = record { before = refl; behind = refl; long = refl }
