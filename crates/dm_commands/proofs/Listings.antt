-- What a list shows: which nodes are left out, and what of it is left at a node.
use Rattle.std.proofs.Common.{◌≡◌, ℕ, ◌≤◌, ◌<◌, Bool, true, false, cond, List, [], ◌∷◌, ◌++◌, map, length, drop, Option}
use Rattle.std.proofs.Common.{None, Some, refl, sym, ◌∙◌, ap, subst, arith, append_assoc}
use Rattle.std.specs.Prelude.{◌&&◌, ◌||◌, not, IfSome, IsSome}
use Rattle.std.specs.List.{filter, find, list_all}
use Rattle.std.specs.Option.{option_map_or}
use Rattle.std.specs.Ordering.{eq_by_cmp, is_lt, ordering_reverse}
use Rattle.std.specs.declared.cmp.Ordering.{Ordering}
use Rattle.std.specs.declared.cmp.Ordering.TheVariants.{Less, Equal, Greater}
use Rattle.std.specs.FinMap.{get, keys, entries, get-entries}
use Rattle.std.specs.FinMap as finmap
use Rattle.std.proofs.lemmas.Bool.{and_from, and_parts}
use Rattle.dm_acl.specs.declared.values.Right.TheVariants.{Get}
use Rattle.dm_tree.specs.declared.nodes.Node.{Node}
use Rattle.dm_tree.specs.declared.rows.Row.{Row}
use Rattle.dm_tree.specs.Nodes.{Path, Nodes, tree_order, is_below}
use Rattle.dm_tree.specs.Rows.{nodes, path_of, IsLive}
use Rattle.dm_tree.specs.Rights.{allows}
use Rattle.dm_tree.specs.Order.{is_before, next_below, behind}
use Rattle.dm_tree.proofs.Paths.{below_self, tree_total, tree_exact}
use Rattle.dm_tree.proofs.MapKeys.{tied, all_keys, keys_all}
use Rattle.dm_tree.proofs.PathOrder.{rest_below, before_longer, not_before_itself, not_back, behind_all, below_below}
use Rattle.dm_tree.proofs.FirstKeys.{key_passes}
use Rattle.dm_tree.proofs.NodesBehind.{behind-is, below-is}
use Rattle.dm_commands.specs.declared.outcome.Found.{Found}
use Rattle.dm_commands.specs.Outcomes.{Setting}
use Rattle.dm_commands.specs.Finding.{is_shown, shown_below, listed}

-- ---- tests over lists

all_filter : {X : Type 0} (f g : X → Bool) (xs : List X)
    → list_all f (filter g xs) ≡ list_all (λ x. not (g x) || f x) xs
all_filter f g [] = refl
all_filter f g (x ∷ xs) =
    elim (g x) as (λ b.
    list_all f (cond b (x ∷ filter g xs) (filter g xs)) ≡ ((not b || f x) && list_all (λ y. not (g y) || f y) xs)) [
      | true ↦ ap (λ r. f x && r) (all_filter f g xs)
      | false ↦ all_filter f g xs
    ]

-- what f lets through passes g exactly where it passes h
filter_same : {X : Type 0} (f g h : X → Bool) → ((x : X) → f x ≡ true → g x ≡ h x) → (xs : List X)
    → filter f (filter g xs) ≡ filter f (filter h xs)
filter_same f g h same [] = refl
filter_same {X} f g h same (x ∷ xs) =
    let rest = filter_same f g h same xs in
    elim (f x) as (λ b. f x ≡ b → filter f (filter g (x ∷ xs)) ≡ filter f (filter h (x ∷ xs))) [
      | true ↦ λ e. ap (λ b. filter f (cond b (x ∷ filter g xs) (filter g xs))) (same x e) ∙ again rest (h x)
      | false ↦ λ e. left_out e g ∙ rest ∙ sym (left_out e h)
    ] refl
  where
    again : filter f (filter g xs) ≡ filter f (filter h xs) → (b : Bool)
        → filter f (cond b (x ∷ filter g xs) (filter g xs)) ≡ filter f (cond b (x ∷ filter h xs) (filter h xs))
    again rest true = ap (λ r. cond (f x) (x ∷ r) r) rest
    again rest false = rest

    left_out : f x ≡ false → (k : X → Bool) → filter f (filter k (x ∷ xs)) ≡ filter f (filter k xs)
    left_out e k = elim (k x) as (λ b. filter f (cond b (x ∷ filter k xs) (filter k xs)) ≡ filter f (filter k xs)) [
      | true ↦ ap (λ b. cond b (x ∷ filter f (filter k xs)) (filter f (filter k xs))) e
      | false ↦ refl
    ]

fewer : {X : Type 0} (g h : X → Bool) → ((x : X) → h x ≡ true → g x ≡ true) → (xs : List X)
    → length (filter h xs) ≤ length (filter g xs)
fewer g h all [] = omega arith
fewer g h all (x ∷ xs) =
    let rest = fewer g h all xs in
    elim (h x) as (λ b. h x ≡ b → length (cond b (x ∷ filter h xs) (filter h xs)) ≤ length (filter g (x ∷ xs))) [
      | true ↦ λ e. rw (all x e) (omega (arith, rest))
      | false ↦ λ e. elim (g x) as (λ b. length (filter h xs) ≤ length (cond b (x ∷ filter g xs) (filter g xs))) [
        | true ↦ omega (arith, rest)
        | false ↦ rest
      ]
    ] refl

-- ---- a key that was found is there

value_there : {X : Type 0} (f : Path → Bool) (es : List (Path × X)) (q : Path) → find f (map (λ e. e.0) es) ≡ Some q
    → (x : X) × (finmap.find tree_order q es ≡ Some x)
value_there f [] q h = absurd (cc)
value_there {X} f (e ∷ es) q h =
    elim (eq_by_cmp tree_order q e.0)
    as (λ b. eq_by_cmp tree_order q e.0 ≡ b → (x : X) × (cond b (Some e.1) (finmap.find tree_order q es) ≡ Some x)) [
      | true ↦ λ is. (e.1, refl)
      | false ↦ λ is.
          elim (f e.0) as (λ b. f e.0 ≡ b → cond b (Some e.0) (find f (map (λ d. d.0) es)) ≡ Some q
          → (x : X) × (finmap.find tree_order q es ≡ Some x)) [
            | true ↦ λ fe g. let same : e.0 ≡ q = cc in let yes = tied q e.0 (sym same) in absurd (cc)
            | false ↦ λ fe g. value_there f es q g
          ] refl h
    ] refl

key_there : (m : Nodes) (f : Path → Bool) (q : Path) → find f (keys m) ≡ Some q → (x : Node) × (get m q ≡ Some x)
key_there m f q h = let there = value_there f (entries m) q h in (there.0, get-entries m q ∙ there.1)

-- ---- paths

append-none : (a : Path) → a ++ [] ≡ a
append-none [] = refl
append-none (n ∷ ns) = ap (λ s. n ∷ s) (append-none ns)

-- of two paths, one is the other, or comes before it
pub data Stands (p q : Path) : Type 0 where
  same : p ≡ q → Stands p q
  before : is_before p q ≡ true → Stands p q
  after : is_before q p ≡ true → Stands p q

stands : (p q : Path) → Stands p q
stands p q = by_order (tree_order p q) refl
  where
    by_order : (o : Ordering) → tree_order p q ≡ o → Stands p q
    by_order Less e = before (ap is_lt e)
    by_order Equal e = same (tree_exact p q e)
    by_order Greater e = after (ap is_lt (tree_total.antisymm q p ∙ ap ordering_reverse e))

-- ---- what is shown

module _ (m : Nodes) (s : Setting) (top : Path) where
  -- nothing on the way to q is left out
  pub shown_of : (q : Path)
      → ((p : Path) (x : Node) → get m p ≡ Some x → is_below top p ≡ true → is_below p q ≡ true
      → allows m p s.caller Get ≡ true) → is_shown s m top q ≡ true
  shown_of q all =
      all_filter (λ p. allows m p s.caller Get || not (is_below p q)) (is_below top) (keys m)
      ∙ all_keys m (λ p. not (is_below top p) || (allows m p s.caller Get || not (is_below p q)))
      (λ p x e. by_place p x e (is_below top p) (is_below p q) refl refl)
    where
      by_place : (p : Path) (x : Node) → get m p ≡ Some x → (a b : Bool) → is_below top p ≡ a → is_below p q ≡ b
          → (not a || (allows m p s.caller Get || not b)) ≡ true
      by_place p x e true true i j = rw (all p x e i j) refl
      by_place p x e true false i j = or_true (allows m p s.caller Get)
        where
          or_true : (c : Bool) → c || true ≡ true
          or_true true = refl
          or_true false = refl
      by_place p x e false b i j = refl

  pub shown_at : (q : Path) → is_shown s m top q ≡ true → (p : Path) (x : Node) → get m p ≡ Some x
      → is_below top p ≡ true → is_below p q ≡ true → allows m p s.caller Get ≡ true
  shown_at q shown p x e i j =
      let all =
      keys_all m (λ r. not (is_below top r) || (allows m r s.caller Get || not (is_below r q))) p x
      (sym (all_filter (λ r. allows m r s.caller Get || not (is_below r q)) (is_below top) (keys m)) ∙ shown) e in
      by_place (is_below top p) (is_below p q) (allows m p s.caller Get) i j all
    where
      by_place : (a b c : Bool) → a ≡ true → b ≡ true → (not a || (c || not b)) ≡ true → c ≡ true
      by_place true true true u v w = refl
      by_place true true false u v w = absurd (cc)
      by_place true false c u v w = absurd (cc)
      by_place false b c u v w = absurd (cc)

  -- the way down to a node is open to the caller: each node above it, from the top on, may be read
  pub record IsOpen (here : Path) : Type 0 where
    pub node : Node
    pub there : get m here ≡ Some node
    pub within : is_below top here ≡ true
    pub above : (p : Path) (x : Node) → get m p ≡ Some x → is_below top p ≡ true → is_below p here ≡ true
        → is_before p here ≡ true → allows m p s.caller Get ≡ true

  pub hidden : (here : Path) → IsOpen here → allows m here s.caller Get ≡ false → (q : Path) → is_below here q ≡ true
      → is_shown s m top q ≡ false
  hidden here way refuses q through =
      elim (is_shown s m top q) as (λ b. is_shown s m top q ≡ b → b ≡ false) [
        | true ↦ λ shown. let yes = shown_at q shown here way.node way.there way.within through in absurd (cc)
        | false ↦ λ _. refl
      ] refl

  pub shown_here : (here : Path) → IsOpen here → allows m here s.caller Get ≡ true → is_shown s m top here ≡ true
  shown_here here way may = shown_of here (λ p x e i j. by_place p x e i j (stands p here))
    where
      by_place : (p : Path) (x : Node) → get m p ≡ Some x → is_below top p ≡ true → is_below p here ≡ true
          → Stands p here → allows m p s.caller Get ≡ true
      by_place p x e i j (same is) = ap (λ r. allows m r s.caller Get) is ∙ may
      by_place p x e i j (before is) = way.above p x e i j is
      by_place p x e i j (after is) =
          absurd (not_same p (rest_below p here j) is)
        where
          not_same : (p : Path) → here ≡ p ++ drop (length p) here → is_before here p ≡ true → ⊥
          not_same p rest late = no_later (drop (length p) here) rest
            where
              no_later : (r : Path) → here ≡ p ++ r → ⊥
              no_later [] e = let itself = ap (λ h. is_before h p) (sym (e ∙ append-none p)) in
                  let no = not_before_itself p in absurd (cc)
              no_later (n ∷ ns) e = let early : is_before p here ≡ true = ap (is_before p) e ∙ before_longer p n ns in
                  let no = not_back p here early in absurd (cc)

  -- ---- from one node to the next

  -- a node that may be read is shown, and then what stands behind it
  pub with_it : (here : Path) → IsOpen here → allows m here s.caller Get ≡ true
      → filter (is_shown s m top) (here ∷ behind m top here false)
      ≡ here ∷ filter (is_shown s m top) (behind m top here false)
  with_it here way may =
      ap (λ b. cond b (here ∷ filter (is_shown s m top) (behind m top here false))
      (filter (is_shown s m top) (behind m top here false))) (shown_here here way may)

  -- one that may not is left out, with all that stands below it
  pub without_it : (here : Path) → IsOpen here → allows m here s.caller Get ≡ false
      → filter (is_shown s m top) (here ∷ behind m top here false) ≡ filter (is_shown s m top) (behind m top here true)
  without_it here way refuses =
      ap (λ b. cond b (here ∷ filter (is_shown s m top) (behind m top here false))
      (filter (is_shown s m top) (behind m top here false))) (hidden here way refuses here (below_self here))
      ∙ filter_same (is_shown s m top) (λ q. is_below top q && is_before here q && not (false && is_below here q))
      (λ q. is_below top q && is_before here q && not (true && is_below here q)) apart (keys m)
    where
      apart : (q : Path) → is_shown s m top q ≡ true
          → (is_below top q && is_before here q && not (false && is_below here q))
          ≡ (is_below top q && is_before here q && not (true && is_below here q))
      apart q shown =
          elim (is_below here q)
          as (λ b. is_below here q ≡ b
          → (is_below top q && is_before here q && not (false && b))
          ≡ (is_below top q && is_before here q && not (true && b))) [
            | true ↦ λ through. let no = hidden here way refuses q through in absurd (cc)
            | false ↦ λ _. refl
          ] refl

  -- what the next node is: none before it is left out of what stands behind
  record IsNext (here : Path) (past : Bool) (q : Path) : Type 0 where
    below : is_below top q ≡ true
    later : is_before here q ≡ true
    apart : not (past && is_below here q) ≡ true
    node : Node
    there : get m q ≡ Some node

  is_next : (here : Path) (past : Bool) (q : Path) → next_below m top here past ≡ Some q → IsNext here past q
  is_next here past q h =
      let passes = key_passes m (λ r. is_below top r && is_before here r && not (past && is_below here r)) q h in
      let both = and_parts (is_below top q && is_before here q) (not (past && is_below here q)) passes in
      let first = and_parts (is_below top q) (is_before here q) both.0 in
      let found = key_there m (λ r. is_below top r && is_before here r && not (past && is_below here r)) q h in
      record { below = first.0; later = first.1; apart = both.1; node = found.0; there = found.1 }

  -- the way down to the next node is open too
  pub next_open : (here : Path) → IsOpen here → (may : Bool) → allows m here s.caller Get ≡ may → (q : Path)
      → next_below m top here (not may) ≡ Some q → IsOpen q
  next_open here way may is q h = record {
    node = next.node;
    there = next.there;
    within = next.below;
    above = λ p x e i j k. by_place p x e i j k (stands p here);
  }
    where
      next : IsNext here (not may) q
      next = is_next here (not may) q h

      -- what might come next as well stands behind it
      late : (r : Path) → Bool
      late r = not (is_before r q)

      all_late : list_all late (behind m top here (not may)) ≡ true
      all_late =
          ap (list_all late) (behind-is m top here (not may) (Some q) h)
          ∙ and_from (late q) (list_all late (behind m top q false)) (ap not (not_before_itself q))
          (all_filter late (λ r. is_below top r && is_before q r && not (false && is_below q r)) (keys m)
          ∙ all_keys m (λ r. not (is_below top r && is_before q r && not (false && is_below q r)) || late r)
          (λ r x e. by_order r (is_below top r) (is_before q r) refl))
        where
          by_order : (r : Path) (a b : Bool) → is_before q r ≡ b → (not (a && b && true) || late r) ≡ true
          by_order r true true e = ap not (not_back q r e)
          by_order r true false e = refl
          by_order r false b e = refl

      first : (p : Path) (x : Node) → get m p ≡ Some x → is_below top p ≡ true → is_before here p ≡ true
          → not (not may && is_below here p) ≡ true → is_before p q ≡ false
      first p x e i j k =
          let all =
          keys_all m (λ r. not (is_below top r && is_before here r && not (not may && is_below here r)) || late r) p x
          (sym (all_filter late (λ r. is_below top r && is_before here r && not (not may && is_below here r)) (keys m))
          ∙ all_late) e in
          by_test (is_below top p) (is_before here p) (not (not may && is_below here p)) (is_before p q) i j k all
        where
          by_test : (a b c d : Bool) → a ≡ true → b ≡ true → c ≡ true → (not (a && b && c) || not d) ≡ true → d ≡ false
          by_test true true true true u v w f = absurd (cc)
          by_test true true true false u v w f = refl
          by_test true true false d u v w f = absurd (cc)
          by_test true false c d u v w f = absurd (cc)
          by_test false b c d u v w f = absurd (cc)

      -- a node that may not be read isn't above the next one
      apart : (p : Path) → is_below here p ≡ true → is_below p q ≡ true → may ≡ true
      apart p i j = by_test may (is_below here q) (below_below here p q i j) next.apart
        where
          by_test : (a b : Bool) → b ≡ true → not (not a && b) ≡ true → a ≡ true
          by_test true b u v = refl
          by_test false true u v = absurd (cc)
          by_test false false u v = absurd (cc)

      by_place : (p : Path) (x : Node) → get m p ≡ Some x → is_below top p ≡ true → is_below p q ≡ true
          → is_before p q ≡ true → Stands p here → allows m p s.caller Get ≡ true
      by_place p x e i j k (same at) =
          ap (λ r. allows m r s.caller Get) at ∙ is ∙ apart p (ap (is_below here) at ∙ below_self here) j
      by_place p x e i j k (before at) =
          elim (is_below p here) as (λ b. is_below p here ≡ b → allows m p s.caller Get ≡ true) [
            | true ↦ λ through. way.above p x e i through at
            | false ↦ λ through.
                let past : is_before q here ≡ true =
                ap (λ r. is_before r here) (rest_below p q j) ∙ behind_all p here (drop (length p) q) at through in
                let no_more = not_back here q next.later in
                absurd (cc)
          ] refl
      by_place p x e i j k (after at) =
          let no = first p x e i at (elim (is_below here p) as (λ b. is_below here p ≡ b → not (not may && b) ≡ true) [
            | true ↦ λ through. ap (λ a. not (not a && true)) (apart p through j)
            | false ↦ λ through. and_not may
          ] refl) in
          absurd (cc)
        where
          and_not : (a : Bool) → not (not a && false) ≡ true
          and_not true = refl
          and_not false = refl

-- ---- going through the rows

-- the nodes that are left, from the one under this number on
abbrev pub left_from : List Row → Path → Option ℕ → List Path
left_from rows top at = option_map_or (λ id. path_of rows id ∷ behind (nodes rows) top (path_of rows id) false) at []

-- a list so far: what it has, and what of the rest is shown, are the whole; and the way down to where it is is open
pub record IsListing (rows : List Row) (s : Setting) (top : Path) (with_values : Bool) (out : List Found)
    (at : Option ℕ) : Type 0 where
  pub whole : map (listed (nodes rows) with_values) (shown_below s (nodes rows) top)
      ≡ out ++ map (listed (nodes rows) with_values) (filter (is_shown s (nodes rows) top) (left_from rows top at))
  pub live : IfSome at (λ id. IsLive rows id)
  pub way : IfSome at (λ id. IsOpen (nodes rows) s top (path_of rows id))

pub listing-starts : (rows : List Row) (s : Setting) (with_values : Bool) (top : ℕ) → IsLive rows top
    → IsSome (get (nodes rows) (path_of rows top))
    → IsListing rows s (path_of rows top) with_values [] (Some top)
listing-starts rows s with_values top live there = by_node (get (nodes rows) (path_of rows top)) refl there
  where
    by_node : (o : Option Node) → get (nodes rows) (path_of rows top) ≡ o → IsSome o
        → IsListing rows s (path_of rows top) with_values [] (Some top)
    by_node None e some = absurd (cc)
    by_node (Some x) e some = record {
      whole =
          ap (λ ps. map (listed (nodes rows) with_values) (filter (is_shown s (nodes rows) (path_of rows top)) ps))
          (below-is (nodes rows) (path_of rows top) x e);
      live = live;
      way = record {
        node = x;
        there = e;
        within = below_self (path_of rows top);
        above = λ p y f i j k. absurd (none_above p (rest_below (path_of rows top) p i) k);
      };
    }
      where
        none_above : (p : Path) → p ≡ path_of rows top ++ drop (length (path_of rows top)) p
            → is_before p (path_of rows top) ≡ true → ⊥
        none_above p rest k = by_rest (drop (length (path_of rows top)) p) rest
          where
            by_rest : (r : Path) → p ≡ path_of rows top ++ r → ⊥
            by_rest [] e =
                let itself : is_before (path_of rows top) (path_of rows top) ≡ true =
                ap (λ q. is_before q (path_of rows top)) (sym (e ∙ append-none (path_of rows top))) ∙ k in
                let no = not_before_itself (path_of rows top) in absurd (cc)
            by_rest (n ∷ ns) e =
                let late : is_before (path_of rows top) p ≡ true =
                ap (is_before (path_of rows top)) e ∙ before_longer (path_of rows top) n ns in
                let no = not_back (path_of rows top) p late in absurd (cc)

-- the next one, as the tree tells it
pub record IsNextAt (rows : List Row) (top here : Path) (past : Bool) (next : Option ℕ) : Type 0 where
  pub live : IfSome next (λ id. IsLive rows id × (next_below (nodes rows) top here past ≡ Some (path_of rows id)))
  pub behind : behind (nodes rows) top here past ≡ left_from rows top next

pub next_on : (rows : List Row) (s : Setting) (top here : Path) (may : Bool) (next : Option ℕ)
    → IsOpen (nodes rows) s top here
    → allows (nodes rows) here s.caller Get ≡ may → IsNextAt rows top here (not may) next
    → IfSome next (λ id. IsLive rows id) × IfSome next (λ id. IsOpen (nodes rows) s top (path_of rows id))
next_on rows s top here may None way is n = (tt, tt)
next_on rows s top here may (Some id) way is n =
    let at = n.live in (at.0, next_open (nodes rows) s top here way may is (path_of rows id) at.1)

module _ (rows : List Row) (s : Setting) (top : Path) (with_values : Bool) (out : List Found) (here : ℕ)
    (next : Option ℕ) where
  pub listing-with : IsListing rows s top with_values out (Some here)
      → allows (nodes rows) (path_of rows here) s.caller Get ≡ true
      → IsNextAt rows top (path_of rows here) false next
      → IsListing rows s top with_values (out ++ listed (nodes rows) with_values (path_of rows here) ∷ []) next
  listing-with l may n =
      let on = next_on rows s top (path_of rows here) true next l.way may n in
      record {
        whole =
            l.whole ∙ ap (λ ps. out ++ map (listed (nodes rows) with_values) ps)
            (with_it (nodes rows) s top (path_of rows here) l.way may)
            ∙ sym (append_assoc out (listed (nodes rows) with_values (path_of rows here) ∷ [])
            (map (listed (nodes rows) with_values)
            (filter (is_shown s (nodes rows) top) (behind (nodes rows) top (path_of rows here) false))))
            ∙ ap (λ ps. (out ++ listed (nodes rows) with_values (path_of rows here) ∷ [])
            ++ map (listed (nodes rows) with_values) (filter (is_shown s (nodes rows) top) ps)) n.behind;
        live = on.0;
        way = on.1;
      }

  pub listing-without : IsListing rows s top with_values out (Some here)
      → allows (nodes rows) (path_of rows here) s.caller Get ≡ false
      → IsNextAt rows top (path_of rows here) true next → IsListing rows s top with_values out next
  listing-without l may n =
      let on = next_on rows s top (path_of rows here) false next l.way may n in
      record {
        whole =
            l.whole ∙ ap (λ ps. out ++ map (listed (nodes rows) with_values) ps)
            (without_it (nodes rows) s top (path_of rows here) l.way may)
            ∙ ap (λ ps. out ++ map (listed (nodes rows) with_values) (filter (is_shown s (nodes rows) top) ps))
            n.behind;
        live = on.0;
        way = on.1;
      }

  -- less is left with each step
  pub less_left : (past : Bool) → IsNextAt rows top (path_of rows here) past next
      → length (left_from rows top next) < length (left_from rows top (Some here))
  less_left past n =
      let shorter =
      fewer (λ q. is_below top q && is_before (path_of rows here) q && not (false && is_below (path_of rows here) q))
      (λ q. is_below top q && is_before (path_of rows here) q && not (past && is_below (path_of rows here) q))
      (λ q h. by_parts (is_below top q) (is_before (path_of rows here) q) (not (past && is_below (path_of rows here) q))
      h) (keys (nodes rows)) in
      omega (arith, shorter, ap length n.behind)
    where
      by_parts : (a b c : Bool) → (a && b && c) ≡ true → (a && b && true) ≡ true
      by_parts true true c h = refl
      by_parts true false c h = absurd (cc)
      by_parts false b c h = absurd (cc)

-- one more node is looked at
pub listing-goes-on : (rows : List Row) (s : Setting) (top : Path) (with_values : Bool) (out new : List Found)
    (here : ℕ) (next : Option ℕ) (shown : Bool)
    → IsListing rows s top with_values out (Some here) → shown ≡ allows (nodes rows) (path_of rows here) s.caller Get
    → IsNextAt rows top (path_of rows here) (not shown) next
    → (shown ≡ true → new ≡ out ++ listed (nodes rows) with_values (path_of rows here) ∷ [])
    → (shown ≡ false → new ≡ out)
    → IsListing rows s top with_values new next
listing-goes-on rows s top with_values out new here next true l is n more kept =
    subst (λ o. IsListing rows s top with_values o next) (sym (more refl))
    (listing-with rows s top with_values out here next l (sym is) n)
listing-goes-on rows s top with_values out new here next false l is n more kept =
    subst (λ o. IsListing rows s top with_values o next) (sym (kept refl))
    (listing-without rows s top with_values out here next l (sym is) n)
