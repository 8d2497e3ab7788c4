-- What stands behind a node: the next one, and what stands behind that.
use Rattle.std.proofs.Common.{◌&&◌, not, IsSome}
use Rattle.std.proofs.lemmas.Bool.{and_left}
use Rattle.dm_tree.proofs.Common.{◌≡◌, ℕ, Bool, true, false, List, [], ◌∷◌, ◌++◌, length, drop, Option, None, Some}
use Rattle.dm_tree.proofs.Common.{refl, ◌∙◌, ap, inl, inr, append-nil, option_map_or, get, and_right, cases_Bool}
use Rattle.dm_tree.proofs.Common.{false_from_ne_true, Node, Row, Path, Nodes, is_below, is_before, next_below, behind}
use Rattle.dm_tree.proofs.Common.{below, nodes, path_of}
use Rattle.dm_tree.proofs.Paths.{below_self}
use Rattle.dm_tree.proofs.PathOrder.{rest_below, before_longer, before_before, not_before_itself, not_back, behind_all}
use Rattle.dm_tree.proofs.FirstKeys.{first_key, key_passes, keys_from, keys_none}
use Rattle.dm_tree.specs.Laws.{SubtreeBegins}
use Rattle.dm_tree.proofs.NextNodes.{Shows, is_next, next_parts}

-- what isn't behind p isn't next to it
not_next : (t p r : Path) (past : Bool) → is_before p r ≡ false → is_next t p past r ≡ false
not_next t p r past early = and_left _ _ (and_right (is_below t r) _ early)

-- what comes behind the next node comes behind this one
same_rest : (t p q : Path) (past : Bool) → is_next t p past q ≡ true → (r : Path) → is_before q r ≡ true
    → is_next t p past r ≡ is_next t q false r
same_rest t p q past h r late =
    rw (late, before_before p q r first late) (ap (λ b. is_below t r && true && b) (by_past past h))
  where
    first : is_before p q ≡ true
    first = (next_parts t p past q h).1

    by_past : (past : Bool) → is_next t p past q ≡ true → not (past && is_below p r) ≡ true
    by_past false g = refl
    by_past true g = ap not (false_from_ne_true (is_below p r) (λ through.
        let early = ap (λ s. is_before s q) (rest_below p r through)
        ∙ behind_all p q (drop (length p) r) first (next_parts t p true q g).2 in
        let no_more = not_back r q early in
        cc))

pub behind-is : (m : Nodes) (t p : Path) (past : Bool) (o : Option Path) → next_below m t p past ≡ o
    → behind m t p past ≡ option_map_or (λ q. q ∷ behind m t q false) o []
behind-is m t p past None h = keys_none m (is_next t p past) h
behind-is m t p past (Some q) h =
    let passes = key_passes m (is_next t p past) q h in
    keys_from m (is_next t p past) (is_next t q false) q h
    (λ r early. not_next t q r false early)
    (λ r y v late. same_rest t p q past passes r late)

pub shown_behind : (rows : List Row) (t p : Path) (past : Bool) (o : Option ℕ)
    → Shows rows o (next_below (nodes rows) t p past)
    → behind (nodes rows) t p past
    ≡ option_map_or (λ c. path_of rows c ∷ behind (nodes rows) t (path_of rows c) false) o []
shown_behind rows t p past None h = behind-is (nodes rows) t p past None h
shown_behind rows t p past (Some c) h = behind-is (nodes rows) t p past (Some (path_of rows c)) h.1

-- a subtree is its top and what stands behind that
pub below-is : (m : Nodes) (t : Path) (x : Node) → get m t ≡ Some x → below m t ≡ t ∷ behind m t t false
below-is m t x there =
    keys_from m (is_below t) (is_next t t false) t (first_key m (is_below t) t (record {
      value = x;
      there = there;
      passes = below_self t;
      least = λ q y v through. ap (λ p. is_before p t) (rest_below t q through) ∙ not_before_top (drop (length t) q);
    })) (λ r early. not_next t t r false early)
    (λ r y v late. elim (cases_Bool (is_below t r)) [ inl is ↦ rw (is, late) refl | inr is ↦ rw is refl ])
  where
    not_before_top : (s : Path) → is_before (t ++ s) t ≡ false
    not_before_top [] = ap (λ p. is_before p t) (append-nil t) ∙ not_before_itself t
    not_before_top (n ∷ ns) = not_back t (t ++ n ∷ ns) (before_longer t n ns)

pub subtree_begins : SubtreeBegins
subtree_begins m top some =
    elim (get m top) as (λ o. get m top ≡ o → IsSome o → below m top ≡ top ∷ behind m top top false) [
      | None ↦ λ e there. absurd (cc)
      | Some x ↦ λ e there. below-is m top x e
    ] refl some
