-- The groups and the leaves of a workload come into the tree one after another.
use Rattle.std.proofs.Common.{◌≡◌, ◌≢◌, ◌≤◌, ◌<◌, ◌+◌, ◌*◌, ◌/◌, ◌%◌, ◌^◌, ◌==◌, ℕ, zero, suc, Bool, true, false, not}
use Rattle.std.proofs.Common.{cond}
use Rattle.std.proofs.Common.{List, [], ◌∷◌, ◌++◌, length, Option, None, Some, Ok, Err, refl, sym, ap, subst, ◌∙◌}
use Rattle.std.proofs.Common.{arith}
use Rattle.std.proofs.lemmas.Bool.{and_from}
use Rattle.std.proofs.lemmas.Bool.Decides.{nat_tests}
use Rattle.std.proofs.lemmas.Fmt.{decimal_injective}
use Rattle.std.specs.Prelude.{◌&&◌, ◌||◌, nat_le, nat_lt, is_some, bytes_eq, codes, unwrap_or, slice_get, Result}
use Rattle.std.specs.Fmt.{decimal}
use Rattle.std.specs.FinMap.{get, insert, len, len-insert, contains_key}
use Rattle.std.specs.Option.{option_map_or}
use Rattle.dm_base.specs.Fields.{parts, hex_text, hex_of}
use Rattle.dm_base.specs.Laws.{HexIsReadAgain}
use Rattle.dm_base.specs.declared.lines.LineReason.{LineReason}
use Rattle.dm_base.specs.declared.lines.LineReason.TheVariants as reason
use Rattle.dm_uri.specs.Names.{is_within_limits}
use Rattle.dm_uri.specs.Reading.{parse_of}
use Rattle.dm_tree.specs.declared.nodes.Node.{Node}
use Rattle.dm_tree.specs.declared.nodes.NewNode.{NewNode}
use Rattle.dm_tree.specs.declared.nodes.Role.TheVariants as role
use Rattle.dm_tree.specs.declared.nodes.Stamp.{Stamp}
use Rattle.dm_tree.specs.Nodes.{Path, Nodes, above, made}
use Rattle.dm_tree.proofs.Paths.{tree_total}
use Rattle.dm_tree.proofs.RowMaps.{insert_here, insert_beside}
use Rattle.dm_start.specs.declared.telling.Phase.TheVariants as phase
use Rattle.dm_start.specs.Fields.{path_read, leaf_of}
use Rattle.dm_start.specs.Growing.{value_of, new_node, interior_value, takes_child, is_open, may_stand, with_one}
use Rattle.dm_start.specs.Growing.{interior_line, leaf_line, acl_line, title_line, permanent_line, update_line}
use Rattle.dm_fields.specs.Refusing.{or_refused}
use Rattle.dm_start.specs.Growing.{with_leaf, nodes_after}
use Rattle.dm_start.specs.Start.{Setup, Section, telling, after_line, begin_line, with_nodes}
use Rattle.dm_bench.specs.Start.{Leads, EndsSection, group_uri, leaf_uri, workload_leaf as line_of, group_lines}
use Rattle.dm_bench.specs.Start.{lines_at, leaf_lines}
use Rattle.dm_bench.proofs.Leading.{leads_on, no_group, some_group, leads_by, leads_more}
use Rattle.dm_bench.proofs.Naming.{group_path, leaf_path, uri_of, group_read, leaf_read, group_limits, leaf_limits}
use Rattle.dm_bench.proofs.Naming.{group_parts, leaf_fields, value_read, few_digits, within}

-- the node above all groups
abbrev pub top_path : Path
top_path = codes "B" ∷ []

-- so many groups have come in, and so many leaves
pub record Grown (told : Setup) (groups leaves : ℕ) : Type 0 where
  pub top : Node
  pub top_there : get told.nodes top_path ≡ Some top
  pub top_takes : top.interior ≡ true
  pub there : (g : ℕ) → g < groups → (x : Node) × (get told.nodes (group_path g) ≡ Some x) × (x.interior ≡ true)
  pub no_group : (g : ℕ) → g < 65536 → groups ≤ g → get told.nodes (group_path g) ≡ None
  pub no_leaf : (k : ℕ) → k < 65536 → leaves ≤ k → get told.nodes (leaf_path k) ≡ None
  pub room : len told.nodes ≤ 16 + groups + leaves

-- ---- paths

one_group : (g h : ℕ) → g < 65536 → h < 65536 → group_path g ≡ group_path h → g ≡ h
one_group g h l k e =
    let same : decimal g ≡ decimal h = cc in decimal_injective g h (within g l) (within h k) same

one_leaf : (g h : ℕ) → g < 65536 → h < 65536 → leaf_path g ≡ leaf_path h → g ≡ h
one_leaf g h l k e =
    let same : decimal g ≡ decimal h = cc in decimal_injective g h (within g l) (within h k) same

-- ---- a node that comes in

or_true : (b : Bool) → (b || true) ≡ true
or_true true = refl
or_true false = refl

takes : (x : Node) → x.interior ≡ true → takes_child false x ≡ true
takes x h = and_from x.interior (x.permanent || true) h (or_true x.permanent)

not_full : (n : ℕ) → n < 65536 → not (n == 65536) ≡ true
not_full n h = grind (arith, nat_tests)

pub stands : (clock : Stamp) (m : Nodes) (p : Path) (new : NewNode) (up : Node) → new.permanent ≡ false → get m p ≡ None
    → get m (above p) ≡ Some up
    → up.interior ≡ true → is_within_limits p ≡ true → len m < 65536
    → with_one clock m p new ≡ Ok (insert m p (made clock new))
stands clock m p new up plain free parent takes_one limits room =
    ap (λ b. cond b (Ok (insert m p (made clock new))) (Err reason.Tree))
    (ap (may_stand m p) plain
    ∙ and_from (is_open m p false && is_within_limits p) (not (len m == 65536))
    (and_from (is_open m p false) (is_within_limits p)
    (and_from (not (is_some (get m p))) (option_map_or (takes_child false) (get m (above p)) false)
    (ap (λ o. not (is_some o)) free)
    (ap (λ o. option_map_or (takes_child false) o false) parent ∙ takes up takes_one)) limits)
    (not_full (len m) room))

one_more : (b : Bool) (n : ℕ) → cond b n (n + 1) ≤ n + 1
one_more true n = omega arith
one_more false n = omega arith

pub insert_most : (m : Nodes) (p : Path) (x : Node) → len (insert m p x) ≤ len m + 1
insert_most m p x =
    subst (λ n. n ≤ len m + 1) (sym (len-insert tree_total m p x)) (one_more (contains_key m p) (len m))

abbrev pub grown_by : Setup → Nodes → Setup
grown_by told m = record told { nodes = m }

some_node : (a b : ℕ) (x : Bool) → nat_lt a b ≡ x → cond x (a < b) (b ≤ a)
some_node a b true h = grind (arith, nat_tests)
some_node a b false h = grind (arith, nat_tests)

module _ (told : Setup) (groups leaves : ℕ) (grown : Grown told groups leaves) (x : Node) where
  group_grown : groups < 65536 → x.interior ≡ true
      → Grown (grown_by told (insert told.nodes (group_path groups) x)) (groups + 1) leaves
  group_grown low takes_more =
      let m = told.nodes in
      let p = group_path groups in
      let more = insert_most m p x in
      let room = grown.room in
      record {
        top = grown.top;
        top_there = insert_beside m p top_path x (λ e. cc) ∙ grown.top_there;
        top_takes = grown.top_takes;
        there = λ g l. by g l (nat_lt g groups) refl;
        no_group = λ g l k.
            insert_beside m p (group_path g) x
            (λ e. let same = one_group g groups l low e in omega (arith, same, k))
            ∙ grown.no_group g l (omega (arith, k));
        no_leaf = λ k l f. insert_beside m p (leaf_path k) x (λ e. cc) ∙ grown.no_leaf k l f;
        room = omega (arith, more, room);
      }
    where
      by : (g : ℕ) → g < groups + 1 → (b : Bool) → nat_lt g groups ≡ b
          → (y : Node) × (get (insert told.nodes (group_path groups) x) (group_path g) ≡ Some y) × (y.interior ≡ true)
      by g l true is =
          let less : g < groups = some_node g groups true is in
          let old = grown.there g less in (
            old.0,
            insert_beside told.nodes (group_path groups) (group_path g) x
                (λ e. let same = one_group g groups (omega (arith, less, low)) low e in omega (arith, same, less))
                ∙ old.1,
            old.2,
          )
      by g l false is =
          let most : groups ≤ g = some_node g groups false is in
          let same : g ≡ groups = omega (arith, l, most) in
          (x, insert_here told.nodes (group_path groups) (group_path g) x (ap group_path same), takes_more)

  leaf_grown : leaves < 65536 → Grown (grown_by told (insert told.nodes (leaf_path leaves) x)) groups (leaves + 1)
  leaf_grown low =
      let m = told.nodes in
      let p = leaf_path leaves in
      let more = insert_most m p x in
      let room = grown.room in
      record {
        top = grown.top;
        top_there = insert_beside m p top_path x (λ e. cc) ∙ grown.top_there;
        top_takes = grown.top_takes;
        there = λ g l.
            let old = grown.there g l in
            (old.0, insert_beside m p (group_path g) x (λ e. cc) ∙ old.1, old.2);
        no_group = λ g l k. insert_beside m p (group_path g) x (λ e. cc) ∙ grown.no_group g l k;
        no_leaf = λ k l f.
            insert_beside m p (leaf_path k) x
            (λ e. let same = one_leaf k leaves l low e in omega (arith, same, f))
            ∙ grown.no_leaf k l (omega (arith, f));
        room = omega (arith, more, room);
      }

-- ---- a line, by its fields

abbrev says : List (List ℕ) → List ℕ → Bool
says fields word = bytes_eq (unwrap_or (slice_get fields 0) []) word

abbrev nodes_by : Stamp → Nodes → List (List ℕ) → Result Nodes LineReason
nodes_by clock m fields =
    cond (says fields (codes "interior")) (interior_line clock m fields)
    (cond (says fields (codes "leaf")) (leaf_line clock m fields)
    (cond (says fields (codes "acl")) (acl_line m fields)
    (cond (says fields (codes "title")) (title_line m fields)
    (cond (says fields (codes "permanent")) (permanent_line m fields)
    (cond (says fields (codes "fumo")) (update_line clock m fields) (Err reason.Word))))))

abbrev later_by : Setup → List ℕ → List (List ℕ) → Result Section LineReason
later_by told line fields =
    cond (says fields (codes "begin")) (begin_line told line) (with_nodes told (nodes_by told.clock told.nodes fields))

by_fields : (told : Setup) (line : List ℕ) → after_line (telling phase.Nodes told) line ≡ later_by told line (parts line)
unfolding after_line nodes_after
by_fields told line = refl

pub ends : (told : Setup) → EndsSection (telling phase.Nodes told) told
unfolding after_line
ends told = refl

-- ---- the lines of groups and leaves

abbrev group_node : NewNode
group_node = new_node true interior_value false role.Plain

abbrev leaf_node : ℕ → NewNode
leaf_node leaf = new_node false (value_of (codes "chr") (codes "text/plain") (decimal leaf)) false role.Plain

module _ (told : Setup) (groups leaves : ℕ) (grown : Grown told groups leaves) (few : 16 + groups + leaves < 65536) where
  room : len told.nodes < 65536
  room = let most = grown.room in omega (arith, most, few)

  group_line_taken : after_line (telling phase.Nodes told) (codes "interior " ++ group_uri groups)
      ≡ Ok (telling phase.Nodes (grown_by told (insert told.nodes (group_path groups) (made told.clock group_node))))
  group_line_taken =
      let line = codes "interior " ++ group_uri groups in
      let low : groups < 65536 = omega (arith, few) in
      by_fields told line ∙ ap (later_by told line) (group_parts groups low)
      ∙ ap (λ r. with_nodes told (or_refused reason.Fields (path_read r)
      (λ p. with_one told.clock told.nodes p group_node))) (group_read groups low)
      ∙ ap (with_nodes told)
      (stands told.clock told.nodes (group_path groups) group_node grown.top refl
      (grown.no_group groups low (omega arith)) grown.top_there grown.top_takes (group_limits groups low) room)

  leaf_line_taken : HexIsReadAgain → leaves / 256 < groups
      → after_line (telling phase.Nodes told) (line_of leaves)
      ≡ Ok (telling phase.Nodes (grown_by told (insert told.nodes (leaf_path leaves) (made told.clock (leaf_node leaves)))))
  leaf_line_taken again there =
      let line = line_of leaves in
      let low : leaves < 65536 = omega (arith, few) in
      let up = grown.there (leaves / 256) there in
      let digits = few_digits leaves low in
      by_fields told line ∙ ap (later_by told line) (leaf_fields again leaves low)
      ∙ ap (λ r. with_nodes told (or_refused reason.Fields
      (leaf_of (path_read r) (codes "chr") (codes "text/plain") (hex_of (hex_text (decimal leaves))))
      (with_leaf told.clock told.nodes))) (leaf_read leaves low)
      ∙ ap (λ v. with_nodes told (or_refused reason.Fields
      (leaf_of (Some (leaf_path leaves)) (codes "chr") (codes "text/plain") v) (with_leaf told.clock told.nodes)))
      (value_read again leaves low)
      ∙ ap (λ b. with_nodes told (cond b
      (with_one told.clock told.nodes (leaf_path leaves) (leaf_node leaves)) (Err reason.Tree)))
      (short_value (length (decimal leaves)) (omega (arith, digits)))
      ∙ ap (with_nodes told)
      (stands told.clock told.nodes (leaf_path leaves) (leaf_node leaves) up.0 refl
      (grown.no_leaf leaves low (omega arith)) up.1 up.2 (leaf_limits leaves low) room)
    where
      short_value : (n : ℕ) → n ≤ 4194304 → nat_le n 4194304 ≡ true
      short_value n h = grind (arith, nat_tests)

-- how many groups so many leaves want
abbrev groups_of : ℕ → ℕ
groups_of leaves = (leaves + 255) / 256

pub record Led (told : Setup) (lines : List (List ℕ)) (leaves : ℕ) : Type 0 where
  pub behind : Setup
  pub leads : Leads (telling phase.Nodes told) lines (telling phase.Nodes behind)
  pub grown : Grown behind (groups_of leaves) leaves

same_groups : (told : Setup) (a b leaves : ℕ) → a ≡ b → Grown told a leaves → Grown told b leaves
same_groups told a b leaves e h = subst (λ n. Grown told n leaves) e h

record Grouped (told : Setup) (leaf : ℕ) : Type 0 where
  behind : Setup
  leads : Leads (telling phase.Nodes told) (group_lines leaf) (telling phase.Nodes behind)
  grown : Grown behind (leaf / 256 + 1) leaf

grouped : (told : Setup) (leaf : ℕ) → leaf < 60000 → Grown told (groups_of leaf) leaf → Grouped told leaf
grouped told leaf low grown = by (leaf % 256 == 0) refl
  where
    is_zero : (n : ℕ) → (n == 0) ≡ true → n ≡ 0
    is_zero n h = grind (arith, nat_tests)

    is_positive : (n : ℕ) → (n == 0) ≡ false → 0 < n
    is_positive n h = grind (arith, nat_tests)

    by : (b : Bool) → (leaf % 256 == 0) ≡ b → Grouped told leaf
    by true is =
        let none = is_zero (leaf % 256) is in
        let count : groups_of leaf ≡ leaf / 256 = omega (arith, none) in
        let here = same_groups told (groups_of leaf) (leaf / 256) leaf count grown in
        let group = leaf / 256 in
        let x = made told.clock group_node in
        record {
          behind = grown_by told (insert told.nodes (group_path group) x);
          leads =
              some_group leaf (codes "interior " ++ group_uri group) (telling phase.Nodes told)
              (telling phase.Nodes (grown_by told (insert told.nodes (group_path group) x))) none refl
              (group_line_taken told group leaf here (omega (arith, low)));
          grown = group_grown told group leaf here x (omega (arith, low)) refl;
        }
    by false is =
        let some = is_positive (leaf % 256) is in
        let count : groups_of leaf ≡ leaf / 256 + 1 = omega (arith, some) in
        record {
          behind = told;
          leads = no_group leaf (telling phase.Nodes told) (λ e. omega (arith, e, some));
          grown = same_groups told (groups_of leaf) (leaf / 256 + 1) leaf count grown;
        }

module _ (again : HexIsReadAgain) where
  one_leaf_led : (told : Setup) (leaf : ℕ) → leaf < 60000 → Grown told (groups_of leaf) leaf
      → Led told (lines_at leaf) (leaf + 1)
  one_leaf_led told leaf low grown =
      let g = grouped told leaf low grown in
      let x = made g.behind.clock (leaf_node leaf) in
      let behind = grown_by g.behind (insert g.behind.nodes (leaf_path leaf) x) in
      let count : leaf / 256 + 1 ≡ groups_of (leaf + 1) = omega arith in
      record {
        behind = behind;
        leads =
            leads_on (group_lines leaf) (line_of leaf ∷ []) (telling phase.Nodes told) (telling phase.Nodes g.behind)
            (telling phase.Nodes behind) g.leads
            (leads_by (line_of leaf) (line_of leaf) (telling phase.Nodes g.behind) (telling phase.Nodes behind) refl
            (leaf_line_taken g.behind (leaf / 256 + 1) leaf g.grown (omega (arith, low)) again (omega arith)));
        grown =
            same_groups behind (leaf / 256 + 1) (groups_of (leaf + 1)) (leaf + 1) count
            (leaf_grown g.behind (leaf / 256 + 1) leaf g.grown x (omega (arith, low)));
      }

  pub leaves_led : (told : Setup) (leaves : ℕ) → leaves ≤ 60000 → Grown told 0 0 → Led told (leaf_lines leaves) leaves
  leaves_led told zero few grown = record {
    behind = told;
    leads = refl;
    grown = same_groups told 0 (groups_of 0) 0 (omega arith) grown;
  }
  leaves_led told (suc leaves) few grown =
      let before = leaves_led told leaves (omega (arith, few)) grown in
      let one = one_leaf_led before.behind leaves (omega (arith, few)) before.grown in
      let next : leaves + 1 ≡ suc leaves = omega arith in
      record {
        behind = one.behind;
        leads =
            leads_on (leaf_lines leaves) (lines_at leaves) (telling phase.Nodes told)
            (telling phase.Nodes before.behind) (telling phase.Nodes one.behind) before.leads one.leads;
        grown = subst (λ n. Grown one.behind (groups_of n) n) next one.grown;
      }
