-- What is laid in the tree, where a call lays it.
use Rattle.std.proofs.Common.{◌≡◌, ◌≤◌, ℕ, Bool, true, false, not, cond, List, [], ◌∷◌, ◌++◌, length, Option, None}
use Rattle.std.proofs.Common.{Some, Ok, Err, refl, sym, ◌∙◌, ap, subst, arith}
use Rattle.std.proofs.lemmas.Bool.Decides.{nat_tests}
use Rattle.std.specs.Prelude.{◌==◌, ◌&&◌, ◌||◌, Result, is_some, nat_le, codes, option_map, option_and_then}
use Rattle.std.specs.Option.{option_map_or}
use Rattle.std.specs.FinMap.{get}
use Rattle.dm_base.specs.declared.lines.LineReason.{LineReason}
use Rattle.dm_base.specs.declared.lines.LineReason.TheVariants as reason
use Rattle.dm_uri.specs.Names.{is_within_limits}
use Rattle.dm_tree.specs.declared.nodes.NewNode.{NewNode}
use Rattle.dm_tree.specs.declared.nodes.Node.{Node}
use Rattle.dm_tree.specs.declared.nodes.Role.TheVariants as role
use Rattle.dm_tree.specs.declared.nodes.Stamp.{Stamp}
use Rattle.dm_tree.specs.declared.rows.Row.{Row}
use Rattle.dm_tree.specs.Nodes.{Path, Nodes, above, last_name, with_mark}
use Rattle.dm_tree.specs.Rows.{Tree, nodes, ids, node_of, path_of, IsLive, IsNoneParked}
use Rattle.dm_tree.specs.Devices.{update_node}
use Rattle.dm_tree.proofs.RowMaps.{get_nodes}
use Rattle.dm_tree.proofs.Paths.{Ends, ends, none, last}
use Rattle.dm_tree.proofs.LiveRows.{last_name-append}
use Rattle.dm_fields.specs.declared.errors.LineError.{LineError}
use Rattle.dm_fields.specs.declared.errors.LineError.TheVariants as line_error
use Rattle.dm_start.specs.declared.node_lines.LeafLine.{LeafLine}
use Rattle.dm_start.specs.Fields.{leaf_in}
use Rattle.dm_start.specs.Growing.{or_fields, new_node, takes_child, is_open, with_one, with_all, unless_refused}
use Rattle.dm_fields.specs.Refusing.{or_refused}
use Rattle.dm_start.specs.Growing.{leaf_line, with_leaf, update_part, with_update, with_mark_at, changed_at}
use Rattle.dm_undo.specs.declared.entries.Entry.{Entry}
use Rattle.dm_undo.specs.Journals.{Journal}
use Rattle.dm_undo.specs.Sound.{AreAllHeld, IsSound}
use Rattle.dm_undo.specs.Trees.{maps_of, tree_at}
use Rattle.dm_start.specs.Laying.{ParksNone, LeavesTreeAsIs, IsOutside, IsSpot, GoesBackTo}
use Rattle.dm_fields.specs.Refusing.{Refuses}
use Rattle.dm_start.proofs.Spots.{not_within, free_below}

-- ---- errors

pub refuses_same : {Y : Type 0} (one wanted : Result Y LineReason) (e : LineError) → one ≡ wanted → Refuses one e
    → Refuses wanted e
refuses_same one wanted (line_error.Bad why) same h = sym same ∙ h
refuses_same one wanted line_error.Memory same h = tt

pub device_is_within : {Y : Type 0} (wanted : Result Y LineReason) (e : LineError)
    → IsOutside (codes "DevInfo" ∷ []) e → Refuses wanted e
device_is_within wanted (line_error.Bad why) h =
    absurd (let within : is_within_limits (codes "DevInfo" ∷ []) ≡ true = refl in let out = h.0 in cc)
device_is_within wanted line_error.Memory h = tt

pub itself : (t : Tree) → LeavesTreeAsIs t t
itself t = record { nodes_are = refl; clock = refl; parked = λ clear. clear }

-- ---- a spot

both_hold : (a b : Bool) → (a && b) ≡ true → (a ≡ true) × (b ≡ true)
both_hold true true h = (refl, refl)
both_hold true false h = absurd (cc)
both_hold false b h = absurd (cc)

or_not : (a b : Bool) → (a || not b) ≡ true → b ≡ true → a ≡ true
or_not true b h e = refl
or_not false true h e = absurd (cc)
or_not false false h e = absurd (cc)

pub spot : (rows : List Row) (p r : Path) (name : List ℕ) (permanent : Bool) (parent : ℕ) → p ≡ r ++ name ∷ []
    → IsLive rows parent
    → path_of rows parent ≡ r → get (nodes rows) (path_of rows parent) ≡ Some (node_of rows parent)
    → takes_child permanent (node_of rows parent) ≡ true → get (nodes rows) (path_of rows parent ++ name ∷ []) ≡ None
    → IsSpot rows p permanent (record { parent = parent; name = name })
spot rows p r name permanent parent path live at there takes free =
    let here : p ≡ path_of rows parent ++ name ∷ [] = path ∙ ap (λ q. q ++ name ∷ []) (sym at) in
    let both = both_hold (node_of rows parent).interior ((node_of rows parent).permanent || not permanent) takes in
    record {
      path = here;
      live = live;
      interior = both.0;
      permanent_above = or_not (node_of rows parent).permanent permanent both.1;
      free = ap (get (nodes rows)) here ∙ free;
      is_open_there =
          ap (λ q. is_open (nodes rows) q permanent) here
          ∙ free_below (nodes rows) (path_of rows parent) name (node_of rows parent) permanent there takes free;
    }

-- ---- lines

pub path_used : {X Y : Type 0} (o : Option X) (x : X) (next : X → Result Y LineReason) → or_fields o ≡ Ok x
    → next x ≡ or_refused reason.Fields o next
path_used None x next e = absurd (cc)
path_used {X = X} (Some y) x next e = let same : y ≡ x = same_value y x e in ap next (sym same)
  where
    same_value : (y x : X) → ◌≡◌ {A = Result X LineReason} (Ok y) (Ok x) → y ≡ x
    same_value y x h = cc

not_more : (n : ℕ) → n ≤ 4194304 → nat_le n 4194304 ≡ true
not_more n h = grind (arith, nat_tests)

pub leaf_laid : (clock : Stamp) (m : Nodes) (fields : List (List ℕ)) (leaf : LeafLine) (node : NewNode)
    → or_fields (leaf_in fields) ≡ Ok leaf
    → length leaf.value.bytes ≤ 4194304 → node ≡ new_node false leaf.value false role.Plain
    → with_one clock m leaf.path node ≡ leaf_line clock m fields
leaf_laid clock m fields leaf node said short is =
    ap (with_one clock m leaf.path) is
    ∙ sym (ap
    (λ b. cond b (with_one clock m leaf.path (new_node false leaf.value false role.Plain)) (Err reason.Tree))
    (not_more (length leaf.value.bytes) short))
    ∙ path_used (leaf_in fields) leaf (with_leaf clock m) said

-- ---- marks

and_false : (b : Bool) → (b && false) ≡ false
and_false true = refl
and_false false = refl

pub not_markable : (rows : List Row) (p : Path)
    → None ≡ option_and_then (λ _. get (ids rows) (above p)) (last_name p)
    → with_mark_at (nodes rows) p ≡ Err reason.Tree
not_markable rows p h = by_end (ends p) h
  where
    by_end : {q : Path} → Ends q → None ≡ option_and_then (λ _. get (ids rows) (above q)) (last_name q)
        → with_mark_at (nodes rows) q ≡ Err reason.Tree
    by_end none e = refl
    by_end (last front n) e =
        let q = front ++ n ∷ [] in
        let nothing : get (ids rows) (above q) ≡ None =
        sym (e ∙ ap (option_and_then (λ _. get (ids rows) (above q))) (last_name-append front n)) in
        let nowhere : get (nodes rows) (above q) ≡ None = get_nodes rows (above q)
        ∙ ap (option_map (λ k. node_of rows k)) nothing in
        ap (λ o. cond (not (length q == 0) && option_map_or (λ (node : Node). node.permanent) o false)
        (changed_at (nodes rows) q with_mark) (Err reason.Tree)) nowhere
        ∙ ap (λ b. cond b (changed_at (nodes rows) q with_mark) (Err reason.Tree)) (and_false (not (length q == 0)))

-- ---- nodes that come in one after another

-- of these nodes the rest is still to come
pub record IsOn (clock : Stamp) (m : Nodes) (whole rest : List (Path × NewNode)) (t : Tree) : Type 0 where
  pub clock_is : t.clock ≡ clock
  pub rest_is : with_all clock m whole ≡ with_all clock (nodes t.rows) rest

pub begins : (t : Tree) (whole : List (Path × NewNode)) → IsOn t.clock (nodes t.rows) whole whole t
begins t whole = record { clock_is = refl; rest_is = refl }

pub begins_at : (clock : Stamp) (m : Nodes) (whole : List (Path × NewNode)) (t : Tree) → nodes t.rows ≡ m
    → t.clock ≡ clock → IsOn clock m whole whole t
begins_at clock m whole t is at = record { clock_is = at; rest_is = ap (λ k. with_all clock k whole) (sym is) }

module _ {clock : Stamp} {m : Nodes} {whole rest : List (Path × NewNode)} {t : Tree} {p : Path} {new : NewNode}
    (on : IsOn clock m whole ((p, new) ∷ rest) t) where
  pub goes_on : (u : Tree) (q : Path) → q ≡ p
      → (with_one t.clock (nodes t.rows) q new ≡ Ok (nodes u.rows)) × ((u.clock ≡ t.clock) × ParksNone t u)
      → IsOn clock m whole rest u
  goes_on u q same one = record {
    clock_is = one.1.0 ∙ on.clock_is;
    rest_is =
        on.rest_is
        ∙ ap (λ r. unless_refused r (λ n. with_all clock n rest))
        (ap (λ c. with_one c (nodes t.rows) p new) (sym on.clock_is)
        ∙ ap (λ q. with_one t.clock (nodes t.rows) q new) (sym same) ∙ one.0);
  }

  pub stops : (q : Path) (e : LineError) → q ≡ p → Refuses (with_one t.clock (nodes t.rows) q new) e
      → Refuses (with_all clock m whole) e
  stops q (line_error.Bad why) same h =
      on.rest_is
      ∙ ap (λ r. unless_refused r (λ n. with_all clock n rest))
      (ap (λ c. with_one c (nodes t.rows) p new) (sym on.clock_is)
      ∙ ap (λ q. with_one t.clock (nodes t.rows) q new) (sym same) ∙ h)
  stops q line_error.Memory same h = tt

  pub goes_out : (e : LineError) → IsOutside p e → Refuses (with_all clock m whole) e
  goes_out (line_error.Bad why) h =
      on.rest_is
      ∙ ap (λ r. unless_refused r (λ n. with_all clock n rest))
      (not_within clock (nodes t.rows) p new h.0 ∙ ap (λ w. Err w) (sym h.1))
  goes_out line_error.Memory h = tt

-- ---- the update part

pub nothing : (o : Option ℕ) → is_some o ≡ false → o ≡ None
nothing None h = refl
nothing (Some k) h = absurd (cc)

pub first_update : (clock : Stamp) (m : Nodes) (p : Path) (found : Option ℕ) → (found ≡ None → update_node m ≡ None)
    → is_some found ≡ false
    → with_update clock m p ≡ with_all clock m (update_part p)
first_update clock m p found found_none without =
    ap (λ o. cond (is_some o) (Err reason.Tree) (with_all clock m (update_part p))) (found_none (nothing found without))

pub goes_back_at_first : (new kept : Journal) (rows : List Row) (mark : ℕ) → kept.entries ≡ new.entries
    → new.entries ≡ []
    → mark ≡ length kept.entries → IsSound new.entries rows → tree_at kept.entries rows mark ≡ maps_of rows
    → GoesBackTo (maps_of rows) kept rows
goes_back_at_first new kept rows mark same bare at sound there = record {
  sound = subst (λ es. IsSound es rows) (sym same) sound;
  first = subst (λ k. tree_at kept.entries rows k ≡ maps_of rows) (at ∙ ap length (same ∙ bare)) there;
}

pub first_mark : (new kept : Journal) (mark : ℕ) → kept.entries ≡ new.entries → new.entries ≡ []
    → mark ≡ length kept.entries → mark ≡ 0
first_mark new kept mark same bare at = at ∙ ap length (same ∙ bare)

-- where nothing is parked, nothing is to be held
pub nothing_to_hold : (es : List Entry) (rows : List Row) → IsNoneParked rows → AreAllHeld es rows
nothing_to_hold es rows clear k top = absurd (clear k top)

-- and where nothing holds, nothing is parked
pub nothing_held : (es : List Entry) (rows : List Row) → length es ≡ 0 → AreAllHeld es rows → IsNoneParked rows
nothing_held [] rows bare held = held
nothing_held (e ∷ es) rows bare held = absurd (omega (arith, bare))
