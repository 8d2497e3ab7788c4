-- How many children stand for a rule.
use Rattle.std.proofs.Common.{◌≡◌, ◌≤◌, ◌+◌, ℕ, Bool, true, false, cond, List, [], ◌∷◌, length, map, arith, sym, ap}
use Rattle.std.proofs.Common.{◌∙◌}
use Rattle.std.specs.Prelude.{filter, unwrap_or, if◌then◌else◌}
use Rattle.std.specs.FinMap.{keys, len, entries, len-entries}
use Rattle.std.proofs.lemmas.List.{length-map}
use Rattle.std.proofs.lemmas.List.Sums.{length-filter, count_by-le-length}
use Rattle.dm_tree.specs.declared.nodes.Node.{Node}
use Rattle.dm_tree.specs.Nodes.{Path, Nodes, last_name, IsWellFormed}
use Rattle.dm_tree.specs.Order.{children, is_child_of}
use Rattle.dm_ddf.specs.declared.rules.Rule.{Rule}
use Rattle.dm_ddf.specs.Rules.{stands_for}
use Rattle.dm_ddf.specs.Breaches.{standing}

no_longer : {X : Type 0} (f : X → Bool) (xs : List X) → length (filter f xs) ≤ length xs
no_longer f xs =
    let counted = length-filter f xs in
    let few = count_by-le-length f xs in
    omega (arith, counted, few)

pub few_stand : (m : Nodes) (rules : List Rule) (p : Path) (k r : ℕ) → IsWellFormed m → standing m rules p k r ≤ 65536
few_stand m rules p k r formed =
    let first = no_longer (λ q. stands_for rules k (unwrap_or (last_name q) []) r) (children m p) in
    let second = no_longer (is_child_of p) (keys m) in
    let third = length-map (entries m) (λ (e : Path × Node). e.0) in
    let fourth = len-entries m in
    let fifth = formed.few in
    omega (arith, first, second, third, fourth, fifth)

pub one_counted : {X : Type 0} (f : X → Bool) (count total : ℕ) (x : X) (xs : List X)
    → count + length (filter f (x ∷ xs)) ≡ total → (count + (if f x then 1 else 0)) + length (filter f xs) ≡ total
one_counted f count total x xs h = by_test (f x) h
  where
    by_test : (b : Bool) → count + length (cond b (x ∷ filter f xs) (filter f xs)) ≡ total
        → (count + (if b then 1 else 0)) + length (filter f xs) ≡ total
    by_test true g = omega (arith, g)
    by_test false g = omega (arith, g)

pub nothing_counted : (n : ℕ) → 0 + n ≡ n
nothing_counted n = omega arith
