-- A walk through the tree, with the rules for its nodes.
use Rattle.std.proofs.Common.{ℕ, ◌≡◌, ◌<◌, ◌≤◌, ◌+◌, false, Bool, List, [], ◌∷◌, ◌++◌, length, None, Some, refl, sym}
use Rattle.std.proofs.Common.{ap, ◌∙◌}
use Rattle.std.proofs.Common.{arith, drop, get_or, add-one, drop-cons}
use Rattle.std.specs.Prelude.{IsTrue, IfSome, filter, Option, is_some, option_map, option_and_then, unwrap_or}
use Rattle.std.specs.Option.{option_map_or}
use Rattle.std.specs.FinMap.{get, keys}
use Rattle.dm_tree.specs.declared.nodes.Node.{Node}
use Rattle.dm_tree.specs.declared.rows.Row.{Row}
use Rattle.dm_tree.specs.Nodes.{Path, Nodes, is_below, above, last_name, IsWellFormed}
use Rattle.dm_tree.specs.Rows.{nodes, ids, node_of, path_of, IsLive}
use Rattle.dm_tree.proofs.RowMaps.{get_nodes}
use Rattle.dm_tree.specs.Order.{behind, below}
use Rattle.dm_tree.proofs.NodesBehind.{below-is}
use Rattle.dm_tree.proofs.Paths.{below_self, Ends, none, last, ends}
use Rattle.dm_tree.proofs.LiveRows.{above-append, last_name-append}
use Rattle.dm_ddf.specs.declared.rules.Rule.{Rule}
use Rattle.dm_ddf.specs.declared.conforming.Why.{Why}
use Rattle.dm_ddf.specs.Rules.{child_rule}
use Rattle.dm_ddf.specs.Breaches.{rule_from, rule_for, breach_at, breach_with, breach_among, first_breach, first_told}

-- ---- the rule for a node, from that for the node above

option_then : {X Y Z : Type 0} (o : Option X) (f : X → Option Y) (g : Y → Option Z)
    → option_and_then g (option_and_then f o) ≡ option_and_then (λ x. option_and_then g (f x)) o
option_then None f g = refl
option_then (Some x) f g = refl

rule_below : (rules : List Rule) (k : ℕ) (p : Path) (name : List ℕ)
    → rule_from rules k (p ++ name ∷ []) ≡ option_and_then (λ r. child_rule rules r name) (rule_from rules k p)
rule_below rules k [] name = one (child_rule rules k name)
  where
    one : (o : Option ℕ) → option_and_then (λ r. Some r) o ≡ o
    one None = refl
    one (Some r) = refl
rule_below rules k (n ∷ ns) name = by_first (λ r. rule_below rules r ns name) (child_rule rules k n)
  where
    by_first : ((r : ℕ) → rule_from rules r (ns ++ name ∷ [])
        ≡ option_and_then (λ s. child_rule rules s name) (rule_from rules r ns))
        → (o : Option ℕ) → option_and_then (λ r. rule_from rules r (ns ++ name ∷ [])) o
        ≡ option_and_then (λ r. child_rule rules r name) (option_and_then (λ r. rule_from rules r ns) o)
    by_first below None = refl
    by_first below (Some r) = below r

pub rule_by_parent : (rules : List Rule) (p : Path) (n : List ℕ) → last_name p ≡ Some n
    → rule_for rules p ≡ option_and_then (λ r. child_rule rules r (unwrap_or (last_name p) [])) (rule_for rules
    (above p))
rule_by_parent rules p n named = by_end (ends p) named
  where
    by_end : {q : Path} → Ends q → last_name q ≡ Some n
        → rule_for rules q ≡ option_and_then (λ r. child_rule rules r (unwrap_or (last_name q) [])) (rule_for rules
        (above q))
    by_end none h = absurd (cc)
    by_end (last front m) h =
        rule_below rules 0 front m
        ∙ ap (λ a. option_and_then (λ r. child_rule rules r m) (rule_for rules a)) (sym (above-append front m))
        ∙ ap (λ o. option_and_then (λ r. child_rule rules r (unwrap_or o [])) (rule_for rules (above (front ++ m ∷
        []))))
        (sym (last_name-append front m))

pub shorter_above : (p : Path) (n : List ℕ) → last_name p ≡ Some n → length (above p) < length p
shorter_above [] n h = absurd (cc)
shorter_above (m ∷ []) n h = omega arith
shorter_above (m ∷ k ∷ ks) n h = omega (arith, shorter_above (k ∷ ks) n h)

-- where a node has no parent it is the root
pub root_only : (rows : List Row) (p : Path) (x : Node) → IsWellFormed (nodes rows) → get (nodes rows) p ≡ Some x
    → None ≡ option_and_then (λ _. get (ids rows) (above p)) (last_name p) → p ≡ []
root_only rows p x formed there none_above = by_end (ends p) there none_above
  where
    no_parent : (front : Path) (y : Node) (o : Option ℕ) → get (nodes rows) front ≡ Some y
        → get (nodes rows) front ≡ option_map (node_of rows) o → None ≡ o → ⊥
    no_parent front y None is found h = absurd (cc)
    no_parent front y (Some k) is found h = absurd (cc)

    by_end : {q : Path} → Ends q → get (nodes rows) q ≡ Some x
        → None ≡ option_and_then (λ _. get (ids rows) (above q)) (last_name q) → q ≡ []
    by_end none is h = refl
    by_end (last front m) is h =
        let parent = formed.parents front m x is in
        absurd (no_parent front parent.0 (get (ids rows) front) parent.1 (get_nodes rows front)
        (h ∙ ap (λ o. option_and_then (λ _. get (ids rows) (above (front ++ m ∷ []))) o) (last_name-append front m)
        ∙ ap (get (ids rows)) (above-append front m)))

pub named_of : {X Y : Type 0} (o : Option X) (f : X → Option Y) (y : Y) → Some y ≡ option_and_then f o
    → (x : X) × (o ≡ Some x)
named_of None f y h = absurd (cc)
named_of (Some x) f y h = (x, refl)

-- ---- the nodes from one on

abbrev pub left : List Row → Path → Option ℕ → List Path
left rows t at = option_map_or (λ k. path_of rows k ∷ behind (nodes rows) t (path_of rows k) false) at []

abbrev pub IsOn : List Row → Path → ℕ → Type 0
IsOn rows t k = IsLive rows k × IsTrue (is_below t (path_of rows k))

pub less_left : (rows : List Row) (t : Path) (here : ℕ) (next : Option ℕ)
    → behind (nodes rows) t (path_of rows here) false ≡ left rows t next
    → length (left rows t next) < length (left rows t (Some here))
less_left rows t here next rest = rw rest (omega arith)

pub on_next : (rows : List Row) (t : Path) (q : ℕ → Type 0) (next : Option ℕ) → IfSome next (λ k. IsLive rows k × q k)
    → IfSome next (λ k. IsTrue (is_below t (path_of rows k))) → IfSome next (IsOn rows t)
on_next rows t q None live within = within
on_next rows t q (Some k) live within = (live.0, within)

all_below : (ps : List Path) → filter (λ q. is_below [] q) ps ≡ ps
all_below [] = refl
all_below (p ∷ ps) = ap (λ qs. p ∷ qs) (all_below ps)

pub walk_starts : (rows : List Row) (rules : List Rule) (root : ℕ) (x : Node) → path_of rows root ≡ []
    → get (nodes rows) (path_of rows root) ≡ Some x
    → breach_among (nodes rows) rules (left rows (path_of rows root) (Some root)) ≡ first_breach (nodes rows) rules
unfolding first_breach
walk_starts rows rules root x top there =
    ap (breach_among (nodes rows) rules)
    (sym (below-is (nodes rows) (path_of rows root) x there) ∙ ap (below (nodes rows)) top ∙ all_below (keys (nodes
    rows)))

-- ---- one node of the walk

pub breaks_here : (m : Nodes) (rules : List Rule) (p : Path) (w : Why) (ps : List Path)
    → breach_at m rules p ≡ Some w → breach_among m rules (p ∷ ps) ≡ Some (p, w)
breaks_here m rules p w ps is = rw is refl

pub goes_past : (m : Nodes) (rules : List Rule) (p : Path) (ps : List Path) → breach_at m rules p ≡ None
    → breach_among m rules (p ∷ ps) ≡ breach_among m rules ps
goes_past m rules p ps is = rw is refl

-- ---- the rules below one, one after another

pub told_past : {X : Type 0} (f : ℕ → Option X) (xs : List ℕ) (i : ℕ) → i < length xs → f (get_or xs i 0) ≡ None
    → first_told f (drop i xs) ≡ first_told f (drop (i + 1) xs)
told_past f xs i low nothing = rw (add-one, drop-cons xs i 0, nothing) refl

pub is_nothing : {X : Type 0} (o : Option X) → is_some o ≡ false → o ≡ None
is_nothing None h = refl
is_nothing (Some x) h = absurd (cc)
