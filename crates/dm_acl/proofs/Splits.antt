-- Texts that are cut at a sign and joined by it.
use Rattle.std.proofs.Common.{◌≡◌, ◌==◌, ◌&&◌, ℕ, List, [], ◌∷◌, refl, ap, ◌∙◌, Bool, true, false, not, cond, rules}
use Rattle.std.proofs.Common.{All}
use Rattle.std.specs.List.{slice_split, onto_first, join_with_byte, AllByRecursion}
use Rattle.std.proofs.lemmas.List.Splits.{slice_split_none, slice_split_at, join_with_byte-slice_split}
use Rattle.std.proofs.lemmas.List.Sums.{AllPass-from_list_all}
use Rattle.dm_acl.specs.Laws.{has_no}

pub and_true : (a b : Bool) → (a && b) ≡ true → (a ≡ true) × (b ≡ true)
and_true true b e = (refl, e)
and_true false b e = cc

pub both_true : (a b : Bool) → a ≡ true → b ≡ true → (a && b) ≡ true
both_true true b e f = f
both_true false b e f = cc

pub not_true : (a : Bool) → not a ≡ true → a ≡ false
not_true true e = cc
not_true false e = refl

pub none_passes : (c : ℕ) (xs : List ℕ) → has_no c xs ≡ true → All (λ b. (b == c) ≡ false) xs
none_passes c xs h = λ k d l. not_true _ (AllPass-from_list_all (λ b. not (b == c)) xs h k d l)

itself : (n : ℕ) → (n == n) ≡ true
itself n = search rules

-- parts without the sign, joined by it, are what stands between the signs
pub split_joined : (c : ℕ) (part : List ℕ) (parts : List (List ℕ))
    → AllByRecursion (λ part. has_no c part ≡ true) (part ∷ parts)
    → slice_split (λ b. b == c) (join_with_byte c (part ∷ parts)) ≡ part ∷ parts
split_joined c part [] h = slice_split_none (λ b. b == c) part (none_passes c part h.0)
split_joined c part (next ∷ parts) h =
    slice_split_at (λ b. b == c) part c (join_with_byte c (next ∷ parts)) (none_passes c part h.0) (itself c)
    ∙ ap (λ ps. part ∷ ps) (split_joined c next parts h.1)

clear_by : (t : Bool) (b c : ℕ) (parts : List (List ℕ)) → (b == c) ≡ t
    → AllByRecursion (λ part. has_no c part ≡ true) parts
    → AllByRecursion (λ part. has_no c part ≡ true) (cond t ([] ∷ parts) (onto_first b parts))
clear_by true b c parts is h = (refl, h)
clear_by false b c [] is h = (both_true (not (b == c)) true (ap not is) refl, tt)
clear_by false b c (part ∷ parts) is h = (both_true (not (b == c)) (has_no c part) (ap not is) h.0, h.1)

-- what stands between the signs has none
pub clear_split : (c : ℕ) (text : List ℕ)
    → AllByRecursion (λ part. has_no c part ≡ true) (slice_split (λ b. b == c) text)
clear_split c [] = (refl, tt)
clear_split c (b ∷ bs) = clear_by (b == c) b c (slice_split (λ b. b == c) bs) refl (clear_split c bs)

pub joined_split : (c : ℕ) (text : List ℕ) → join_with_byte c (slice_split (λ b. b == c) text) ≡ text
joined_split c text = join_with_byte-slice_split c text
