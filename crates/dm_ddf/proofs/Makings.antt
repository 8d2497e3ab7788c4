-- The making of a tree, step by step.
use Rattle.std.proofs.Common.{◌≡◌, ◌∙◌, ◌≤◌, ◌<◌, ◌+◌, ◌-◌, ◌&&◌, ◌||◌, ◌==◌, ℕ}
use Rattle.std.proofs.Common.{zero, suc, Bool, true, false, not, cond, List, [], ◌∷◌}
use Rattle.std.proofs.Common.{◌++◌, length, get_or, map, drop, Some, None}
use Rattle.std.proofs.Common.{Option, Result, Ok, Err, IfOk, IfSome, is_some}
use Rattle.std.proofs.Common.{is_none, refl, sym, ap, subst, arith, option_map, nat_le, length-append}
use Rattle.std.proofs.lemmas.List.{map-append}
use Rattle.std.proofs.lemmas.Bool.{and_from, and_parts}
use Rattle.std.proofs.lemmas.Bool.Decides.{nat_tests}
use Rattle.std.specs.Prelude.{codes}
use Rattle.std.specs.Option.{option_map_or}
use Rattle.std.specs.List.{list_all}
use Rattle.std.specs.FinMap.{get, insert, len}
use Rattle.dm_base.specs.Limits.{node_limit}
use Rattle.dm_uri.specs.Names.{has_name_form, is_short_name, is_name, is_within_limits, printed_path, IsPath}
use Rattle.dm_acl.specs.declared.values.AclError.{AclError}
use Rattle.dm_acl.specs.declared.values.Entries.{Entries}
use Rattle.dm_acl.specs.Reading.{parse_of, after_part}
use Rattle.dm_tree.specs.declared.nodes.Node.{Node}
use Rattle.dm_tree.specs.declared.rows.Row.{Row}
use Rattle.dm_tree.specs.Nodes.{Path, Nodes, above, made, first_stamp, is_format, is_node_format, IsNewNode, IsValue}
use Rattle.dm_tree.specs.Rows.{Tree, nodes, path_of, IsLive, StayLive}
use Rattle.dm_tree.proofs.LiveRows.{above-append}
use Rattle.dm_start.specs.Growing.{takes_child, is_open, may_stand, start_acl}
use Rattle.dm_ddf.specs.declared.rules.Rule.{Rule}
use Rattle.dm_ddf.specs.Rules.{is_inner, is_needed, has_named}
use Rattle.dm_ddf.specs.Making.{numbered_name, free_name, made_name, made_node, first_format, has_format_for}
use Rattle.dm_ddf.specs.Making.{Making, without_node, with_rule_node, may_be_made, made_at, made_below, after_rule}
use Rattle.dm_ddf.specs.Making.{after_rules, only_root, asked_tree}
use Rattle.dm_ddf.specs.Made.{making_of, AreLive, ComesAt, GoesThrough}

pub ok_then : {X E : Type 0} {p q : X → Type 0} (r : Result X E) → ((x : X) → p x → q x) → IfOk r p → IfOk r q
ok_then (Ok x) goes h = goes x h
ok_then (Err e) goes h = tt

root_text : parse_of (codes "Add=*&Get=*") ≡ Ok start_acl
unfolding parse_of after_part
root_text = refl

-- what the root's list is read as
pub root_list : (acl : Entries) → parse_of (codes "Add=*&Get=*") ≡ Ok acl → acl ≡ start_acl
root_list acl e = same_ok acl start_acl (sym e ∙ root_text)
  where
    same_ok : (x y : Entries) → ◌≡◌ {A = Result Entries AclError} (Ok x) (Ok y) → x ≡ y
    same_ok x y h = cc

-- ---- the first name that is free

found : (rules : List Rule) (p n more : ℕ) → has_named rules p (numbered_name n) ≡ false
    → free_name rules p n (suc more) ≡ numbered_name n
unfolding free_name
found rules p n more free = rw free refl

taken : (rules : List Rule) (p n more : ℕ) → has_named rules p (numbered_name n) ≡ true
    → free_name rules p n (suc more) ≡ free_name rules p (n + 1) more
unfolding free_name
taken rules p n more used = rw used refl

pub found_name : (rules : List Rule) (p n : ℕ) → n < 4096 → has_named rules p (numbered_name n) ≡ false
    → free_name rules p n (4096 - n) ≡ numbered_name n
found_name rules p n low free =
    let left : 4096 - n ≡ suc (4096 - (n + 1)) = omega (arith, low) in
    ap (free_name rules p n) left ∙ found rules p n (4096 - (n + 1)) free

pub taken_name : (rules : List Rule) (p n : ℕ) → n < 4096 → has_named rules p (numbered_name n) ≡ true
    → free_name rules p n (4096 - n) ≡ free_name rules p (n + 1) (4096 - (n + 1))
taken_name rules p n low used =
    let left : 4096 - n ≡ suc (4096 - (n + 1)) = omega (arith, low) in
    ap (free_name rules p n) left ∙ taken rules p n (4096 - (n + 1)) used

pub last_name_tried : (rules : List Rule) (p n : ℕ) → n ≡ 4096 → free_name rules p n (4096 - n) ≡ numbered_name 4096
unfolding free_name
last_name_tried rules p n is = rw is refl

-- ---- where a node may come

and_true : (b : Bool) → (b && true) ≡ b
and_true true = refl
and_true false = refl

and_false : (b : Bool) → (b && false) ≡ false
and_false true = refl
and_false false = refl

not_twice : (b : Bool) → not (not b) ≡ b
not_twice true = refl
not_twice false = refl

some_there : {X Y : Type 0} (f : X → Y) (o : Option X) → is_some (option_map f o) ≡ is_some o
some_there f None = refl
some_there f (Some x) = refl

-- where the node above takes one, whether there is none yet decides
pub open_below : {X : Type 0} (m : Nodes) (r : Path) (n : List ℕ) (x : Node) (b none : Bool) (f : X → Node)
    (o : Option X) → get m r ≡ Some x → takes_child b x ≡ true → get m (r ++ n ∷ []) ≡ option_map f o
    → is_some o ≡ not none → none ≡ is_open m (r ++ n ∷ []) b
open_below m r n x b none f o there takes child is =
    sym (ap (λ q. not (is_some (get m (r ++ n ∷ []))) && option_map_or (takes_child b) (get m q) false)
    (above-append r n)
    ∙ ap (λ c. not (is_some (get m (r ++ n ∷ []))) && option_map_or (takes_child b) c false) there
    ∙ ap (λ c. not (is_some (get m (r ++ n ∷ []))) && c) takes ∙ and_true _
    ∙ ap not (ap is_some child ∙ some_there f o ∙ is) ∙ not_twice none)

pub shut_below : (m : Nodes) (r : Path) (n : List ℕ) (x : Node) (b : Bool) → get m r ≡ Some x → takes_child b x ≡ false
    → is_open m (r ++ n ∷ []) b ≡ false
shut_below m r n x b there refused = rw (above-append r n, there, refused) (and_false _)

all_short : (p : List (List ℕ)) (name : List ℕ) → list_all is_name p ≡ true → is_name name ≡ true
    → list_all is_short_name (p ++ name ∷ []) ≡ true
all_short [] name h named =
    and_from (is_short_name name) true (and_parts (has_name_form name) (is_short_name name) named).1 refl
all_short (n ∷ ns) name h named =
    let both = and_parts (is_name n) (list_all is_name ns) h in
    let form = and_parts (has_name_form n) (is_short_name n) both.0 in
    and_from (is_short_name n) (list_all is_short_name (ns ++ name ∷ [])) form.1 (all_short ns name both.1 named)

few : (n : ℕ) → n ≤ 16 → nat_le n 16 ≡ true
few n h = grind (arith, nat_tests)

-- where there is room for a name, the length in print decides
pub by_print : (p : List (List ℕ)) (name : List ℕ) → IsPath p → is_name name ≡ true → length p < 16
    → is_within_limits (p ++ name ∷ []) ≡ nat_le (length (printed_path (p ++ name ∷ []))) 255
by_print p name path named room =
    let last = nat_le (length (printed_path (p ++ name ∷ []))) 255 in
    ap (λ b. b && nat_le (length (p ++ name ∷ [])) 16 && last) (all_short p name path.names named)
    ∙ ap (λ b. b && last) (few (length (p ++ name ∷ [])) (omega (arith, length-append p (name ∷ []), room)))

-- what an open place tells of the node above
pub opens : (m : Nodes) (r : Path) (n : List ℕ) (x : Node) (b : Bool) → get m r ≡ Some x
    → is_open m (r ++ n ∷ []) b ≡ true
    → (x.interior ≡ true) × (b ≡ true → x.permanent ≡ true) × (get m (r ++ n ∷ []) ≡ None)
opens m r n x b there is =
    let both = and_parts (not (is_some (get m (r ++ n ∷ []))))
    (option_map_or (takes_child b) (get m (above (r ++ n ∷ []))) false) is in
    let taken : takes_child b x ≡ true =
    sym (ap (λ q. option_map_or (takes_child b) (get m q) false) (above-append r n)
    ∙ ap (λ c. option_map_or (takes_child b) c false) there) ∙ both.1 in
    let parts = and_parts x.interior (x.permanent || not b) taken in
    (parts.0, λ e. or_not x.permanent b parts.1 e, nothing (get m (r ++ n ∷ [])) both.0)
  where
    or_not : (a c : Bool) → (a || not c) ≡ true → c ≡ true → a ≡ true
    or_not true c h e = refl
    or_not false true h e = absurd (cc)
    or_not false false h e = absurd (cc)

    nothing : {X : Type 0} (o : Option X) → not (is_some o) ≡ true → o ≡ None
    nothing None e = refl
    nothing (Some y) e = absurd (cc)

same_nat : (a b : ℕ) → (a == b) ≡ true → a ≡ b
same_nat a b e = grind (arith, nat_tests, e)

-- with room for a node
pub stands : (m : Nodes) (p : Path) (b : Bool) → is_open m p b ≡ true → is_within_limits p ≡ true
    → (len m ≡ node_limit → ⊥) → may_stand m p b ≡ true
stands m p b free within room =
    and_from (is_open m p b && is_within_limits p) (not (len m == node_limit))
    (and_from (is_open m p b) (is_within_limits p) free within) (not_full (len m) room)
  where
    not_full : (n : ℕ) → (n ≡ node_limit → ⊥) → not (n == node_limit) ≡ true
    not_full n h = by_test (n == node_limit) refl
      where
        by_test : (c : Bool) → (n == node_limit) ≡ c → not c ≡ true
        by_test true e = absurd (h (same_nat n node_limit e))
        by_test false e = refl

pub stands_not_open : (m : Nodes) (p : Path) (b : Bool) → is_open m p b ≡ false → may_stand m p b ≡ false
stands_not_open m p b is = rw is refl

pub stands_not_within : (m : Nodes) (p : Path) (b : Bool) → is_within_limits p ≡ false → may_stand m p b ≡ false
stands_not_within m p b is =
    ap (λ w. is_open m p b && w && not (len m == node_limit)) is
    ∙ ap (λ c. c && not (len m == node_limit)) (and_false (is_open m p b))

pub stands_not_full : (m : Nodes) (p : Path) (b : Bool) → len m ≡ node_limit → may_stand m p b ≡ false
stands_not_full m p b full =
    ap (λ n. is_open m p b && is_within_limits p && not (n == node_limit)) full
    ∙ and_false (is_open m p b && is_within_limits p)

-- ---- the node for a rule

leaf_or_inner : (rule : Rule) (b : Bool) → is_inner rule ≡ b → has_format_for rule ≡ true → IsNewNode (made_node rule)
leaf_or_inner rule true is h = rw is (record {
  value = record {
    format = refl;
    kind = refl;
    empty = λ _. refl;
    media = omega arith;
    short = omega arith;
  };
  acl = tt;
  title = omega arith;
})
leaf_or_inner rule false is h =
    let both = and_parts (is_format (first_format rule)) (not (is_node_format (first_format rule))) (rw is at h) in
    rw is (record {
      value = record {
        format = both.0;
        kind = is_not (is_node_format (first_format rule)) both.1;
        empty = λ _. refl;
        media = omega arith;
        short = omega arith;
      };
      acl = tt;
      title = omega arith;
    })
  where
    is_not : (b : Bool) → not b ≡ true → b ≡ false
    is_not true e = absurd (cc)
    is_not false e = refl

pub is_new_node : (rule : Rule) → has_format_for rule ≡ true → IsNewNode (made_node rule)
is_new_node rule h = leaf_or_inner rule (is_inner rule) refl h

-- ---- one rule

abbrev path_in : List Row → Option ℕ → Option Path
path_in rows id = option_map (path_of rows) id

path_at : (rows : List Row) (ids : List (Option ℕ)) (k : ℕ)
    → get_or (map (λ id. option_map (path_of rows) id) ids) k None ≡ path_in rows (get_or ids k None)
path_at rows [] zero = refl
path_at rows [] (suc k) = refl
path_at rows (id ∷ ids) zero = refl
path_at rows (id ∷ ids) (suc k) = path_at rows ids k

pub live_at : (rows : List Row) (ids : List (Option ℕ)) (k id : ℕ) → AreLive rows ids → get_or ids k None ≡ Some id
    → IsLive rows id
live_at rows [] k id live is = absurd (cc)
live_at rows (i ∷ ids) zero id live is = rw is at live.0
live_at rows (i ∷ ids) (suc k) id live is = live_at rows ids k id live.1 is

one_more : (rows : List Row) (ids : List (Option ℕ)) (id : Option ℕ) → AreLive rows ids → IfSome id (IsLive rows)
    → AreLive rows (ids ++ id ∷ [])
one_more rows [] id live one = (one, tt)
one_more rows (i ∷ ids) id live one = (live.0, one_more rows ids id live.1 one)

stays_one : (old new : List Row) (id : Option ℕ) → StayLive old new → IfSome id (IsLive old) → IfSome id (IsLive new)
stays_one old new None stays live = tt
stays_one old new (Some k) stays live = (stays k live).0

stay : (old new : List Row) (ids : List (Option ℕ)) → StayLive old new → AreLive old ids → AreLive new ids
stay old new [] stays live = tt
stay old new (id ∷ ids) stays live = (stays_one old new id stays live.0, stay old new ids stays live.1)

same_one : (old new : List Row) (id : Option ℕ) → StayLive old new → IfSome id (IsLive old)
    → path_in new id ≡ path_in old id
same_one old new None stays live = refl
same_one old new (Some k) stays live = ap (λ p. Some p) (stays k live).1

same_paths : (old new : List Row) (ids : List (Option ℕ)) → StayLive old new → AreLive old ids
    → map (λ id. option_map (path_of new) id) ids ≡ map (λ id. option_map (path_of old) id) ids
same_paths old new [] stays live = refl
same_paths old new (id ∷ ids) stays live =
    ap (λ p. p ∷ map (λ id. option_map (path_of new) id) ids) (same_one old new id stays live.0)
    ∙ ap (λ ps. path_in old id ∷ ps) (same_paths old new ids stays live.1)

passed : (rules : List Rule) (t : Tree) (ids : List (Option ℕ)) (rule : Rule) → AreLive t.rows ids
    → after_rule rules (making_of t ids) rule ≡ without_node (making_of t ids) → GoesThrough rules t t ids rule None
passed rules t ids rule live is = record {
  making =
      ap (λ ps. record { nodes = nodes t.rows; paths = ps })
      (map-append (λ id. option_map (path_of t.rows) id) ids (None ∷ [])) ∙ sym is;
  live = one_more t.rows ids None live tt;
  clock = refl;
}

not_needed : (rules : List Rule) (m : Making) (rule : Rule) → is_needed rule.occurs ≡ false
    → after_rule rules m rule ≡ without_node m
not_needed rules m rule is = rw is refl

needed : (rules : List Rule) (m : Making) (rule : Rule) → is_needed rule.occurs ≡ true
    → after_rule rules m rule ≡ made_below rules m rule (get_or m.paths rule.parent None)
needed rules m rule is = rw is refl

not_made : (m : Making) (p : Path) (rule : Rule) → may_be_made m.nodes p rule ≡ false
    → made_at m p rule ≡ without_node m
not_made m p rule is = rw is refl

is_made : (m : Making) (p : Path) (rule : Rule) → may_be_made m.nodes p rule ≡ true
    → made_at m p rule ≡ with_rule_node m p (made_node rule)
is_made m p rule is = rw is refl

pub without_need : (rules : List Rule) (t : Tree) (ids : List (Option ℕ)) (rule : Rule) → AreLive t.rows ids
    → is_needed rule.occurs ≡ false → GoesThrough rules t t ids rule None
without_need rules t ids rule live is = passed rules t ids rule live (not_needed rules (making_of t ids) rule is)

-- below the node for the rule above
below : (rules : List Rule) (t : Tree) (ids : List (Option ℕ)) (rule : Rule) (id : Option ℕ)
    → is_needed rule.occurs ≡ true → get_or ids rule.parent None ≡ id
    → after_rule rules (making_of t ids) rule ≡ made_below rules (making_of t ids) rule (path_in t.rows id)
below rules t ids rule id is up =
    needed rules (making_of t ids) rule is
    ∙ ap (made_below rules (making_of t ids) rule) (path_at t.rows ids rule.parent ∙ ap (path_in t.rows) up)

pub without_parent : (rules : List Rule) (t : Tree) (ids : List (Option ℕ)) (rule : Rule) → AreLive t.rows ids
    → is_needed rule.occurs ≡ true → get_or ids rule.parent None ≡ None → GoesThrough rules t t ids rule None
without_parent rules t ids rule live is up = passed rules t ids rule live (below rules t ids rule None is up)

pub without_format : (rules : List Rule) (t : Tree) (ids : List (Option ℕ)) (rule : Rule) (parent : ℕ)
    → AreLive t.rows ids → is_needed rule.occurs ≡ true → get_or ids rule.parent None ≡ Some parent
    → has_format_for rule ≡ false → GoesThrough rules t t ids rule None
without_format rules t ids rule parent live is up none =
    let p = path_of t.rows parent ++ made_name rules rule ∷ [] in
    passed rules t ids rule live
    (below rules t ids rule (Some parent) is up
    ∙ not_made (making_of t ids) p rule (ap (λ b. b && may_stand (nodes t.rows) p rule.permanent) none))

pub made_there : (rules : List Rule) (t u : Tree) (ids : List (Option ℕ)) (rule : Rule) (parent : ℕ) (id : Option ℕ)
    → AreLive t.rows ids → t.clock ≡ first_stamp → is_needed rule.occurs ≡ true
    → get_or ids rule.parent None ≡ Some parent → has_format_for rule ≡ true
    → ComesAt t u (path_of t.rows parent ++ made_name rules rule ∷ []) (made_node rule) id
    → GoesThrough rules t u ids rule id
made_there rules t u ids rule parent None live clock is up has h =
    let p = path_of t.rows parent ++ made_name rules rule ∷ [] in
    let may : may_be_made (nodes t.rows) p rule ≡ false =
    ap (λ b. b && may_stand (nodes t.rows) p rule.permanent) has ∙ h.0 in
    subst (λ (v : Tree). GoesThrough rules t v ids rule None) (sym h.1)
    (passed rules t ids rule live
    (below rules t ids rule (Some parent) is up ∙ not_made (making_of t ids) p rule may))
made_there rules t u ids rule parent (Some id) live clock is up has h =
    let p = path_of t.rows parent ++ made_name rules rule ∷ [] in
    let node = made_node rule in
    let f = λ (i : Option ℕ). option_map (path_of u.rows) i in
    let before = map (λ (i : Option ℕ). option_map (path_of t.rows) i) ids in
    let may : may_be_made (nodes t.rows) p rule ≡ true =
    ap (λ b. b && may_stand (nodes t.rows) p rule.permanent) has ∙ h.0 in
    let all : nodes u.rows ≡ insert (nodes t.rows) p (made first_stamp node) =
    h.1 ∙ ap (λ c. insert (nodes t.rows) p (made c node)) clock in
    let paths : map f (ids ++ Some id ∷ []) ≡ before ++ Some p ∷ [] =
    map-append f ids (Some id ∷ [])
    ∙ ap (λ ps. ps ++ Some (path_of u.rows id) ∷ []) (same_paths t.rows u.rows ids h.3 live)
    ∙ ap (λ q. before ++ Some q ∷ []) h.5 in
    record {
      making =
          ap (λ ps. record { nodes = nodes u.rows; paths = ps }) paths
          ∙ ap (λ m. record { nodes = m; paths = before ++ Some p ∷ [] }) all
          ∙ sym (below rules t ids rule (Some parent) is up ∙ is_made (making_of t ids) p rule may);
      live = one_more u.rows ids (Some id) (stay t.rows u.rows ids h.3 live) h.4;
      clock = h.2;
    }

-- ---- all rules

pub nothing_left : {X : Type 0} (xs : List X) (n : ℕ) → length xs ≤ n → drop n xs ≡ []
nothing_left [] zero h = refl
nothing_left [] (suc n) h = refl
nothing_left (x ∷ xs) zero h = absurd (omega (arith, h))
nothing_left (x ∷ xs) (suc n) h = nothing_left xs n (omega (arith, h))

pub end_is : (rules : List Rule) (t : Tree) (ids : List (Option ℕ)) (at : ℕ) → length rules ≤ at
    → after_rules rules (record { nodes = only_root; paths = Some [] ∷ [] }) (drop 1 rules)
    ≡ after_rules rules (making_of t ids) (drop at rules)
    → nodes t.rows ≡ asked_tree rules
unfolding asked_tree
end_is rules t ids at low whole =
    sym (ap (λ (m : Making). m.nodes) (whole
    ∙ ap (after_rules rules (making_of t ids)) (nothing_left rules at low)))
