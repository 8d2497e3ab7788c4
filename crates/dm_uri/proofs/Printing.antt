-- The written form of a path, name by name.
use Rattle.std.proofs.Common.{ℕ, ◌≡◌, List, [], ◌∷◌, ◌++◌, refl, ap, sym, append-nil}
use Rattle.std.specs.List.{flat_map}
use Rattle.dm_uri.specs.Names.{joined, printed_path}

abbrev pub slashed : List ℕ → List ℕ
slashed name = 0x2F ∷ name

pub joined-slashed : (n : List ℕ) (ns : List (List ℕ)) → 0x2F ∷ joined (n ∷ ns) ≡ flat_map slashed (n ∷ ns)
joined-slashed n [] = ap (λ rest. 0x2F ∷ rest) (sym (append-nil n))
joined-slashed n (m ∷ ms) = ap (λ rest. 0x2F ∷ n ++ rest) (joined-slashed m ms)

pub printed_path-slashed : (names : List (List ℕ)) → 46 ∷ flat_map slashed names ≡ printed_path names
printed_path-slashed [] = refl
printed_path-slashed (n ∷ ns) = ap (λ rest. 46 ∷ rest) (sym (joined-slashed n ns))
