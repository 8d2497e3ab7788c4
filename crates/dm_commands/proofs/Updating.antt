-- Where the update part stands, seen from one of its nodes.
use Rattle.std.proofs.Common.{◌≡◌, ◌≢◌, ◌<◌, ◌≤◌, ℕ, Bool, not, length, arith, true, false, cond, List, [], ◌∷◌, ◌++◌}
use Rattle.std.proofs.Common.{Option, None, Some, refl, sym, ◌∙◌, ap, subst, inl, inr, append_assoc}
use Rattle.std.specs.Prelude.{⊤, ◌||◌, nat_lt, codes, bytes_eq, unwrap_or, option_and_then}
use Rattle.std.specs.List.{list_any}
use Rattle.std.specs.Option.{option_map, option_map_or}
use Rattle.std.specs.Fmt.{decimal, digits}
use Rattle.std.specs.FinMap.{get, insert}
use Rattle.std.specs.Str.Parse.{digits_value}
use Rattle.std.proofs.lemmas.Fmt.{decimal_is_IsNumeral, length-decimal-le_succ}
use Rattle.std.proofs.lemmas.Bool.{ltb-false}
use Rattle.dm_uri.proofs.PathParts.{same_bytes, equal_bytes}
use Rattle.dm_fumo.specs.States.{progressing, may_exec, after_write}
use Rattle.syncml_types.specs.declared.command.Step.{Step}
use Rattle.dm_tree.specs.declared.nodes.Node.{Node}
use Rattle.dm_tree.specs.declared.nodes.Role.TheVariants as role
use Rattle.dm_tree.specs.declared.rows.Row.{Row}
use Rattle.dm_tree.specs.Nodes.{Path, Nodes, above, last_name, is_format, is_node_format, IsNode, IsValue}
use Rattle.dm_tree.specs.Rows.{blank_node, row_at, node_of, path_of, nodes, ids, IsLive, IsShaped, IsTree}
use Rattle.dm_tree.specs.Devices.{is_of_update, is_update_state, state_node, child_of_role, value_at, HasUpdate}
use Rattle.dm_tree.specs.Devices.{IsUpdateInOrder}
use Rattle.dm_tree.proofs.Devices.{update_is_found}
use Rattle.dm_tree.proofs.NodesKept.{some_node}
use Rattle.dm_tree.proofs.RowMaps.{get_nodes}
use Rattle.dm_tree.proofs.Paths.{Ends, ends, none, last}
use Rattle.dm_tree.proofs.LiveRows.{above-append, last_name-append, node_there, well_formed}
use Rattle.dm_commands.specs.declared.updates.State.{State}
use Rattle.dm_commands.specs.Places.{IsStateAt}
use Rattle.dm_commands.specs.Outcomes.{Setting, node_at}
use Rattle.dm_commands.specs.Table.{has_bad_meta, kept_format, kept_media, replaced_value}
use Rattle.dm_commands.specs.Updates.{state_in_tree, state_after_write, rewritten, rewritten_at, with_state}

-- ---- the nodes of the update

other_role : (m : Nodes) (p q : Path) (x y : Node) → get m p ≡ Some x → get m q ≡ Some y → p ≡ q → x.role ≡ y.role
other_role m p q x y there at e = ap (λ (n : Node). n.role) (some_node x y (sym there ∙ ap (get m) e ∙ at))

-- the update node
pub at_update : (m : Nodes) → IsUpdateInOrder m → (p : Path) (x : Node) → get m p ≡ Some x → x.role ≡ role.UpdateNode
    → (q : Path) × HasUpdate m q × (p ≡ q ++ codes "Update" ∷ [])
at_update m (inl without) p x there r =
    absurd (let yes : is_of_update x.role ≡ true = ap is_of_update r in let never : is_of_update x.role ≡ false =
    without p x there in cc)
at_update m (inr has) p x there r = elim (has.1.alone p x there (ap is_of_update r)) [
  | inl h ↦ (has.0, has.1, h)
  | inr h ↦ elim h [
    | inl g ↦
        absurd (let same : role.UpdateNode ≡ role.PkgData = sym r ∙ other_role m p _ x _ there has.1.data_stands.there g
        ∙ has.1.data_stands.role_is in cc)
    | inr g ↦
        absurd (let same : role.UpdateNode ≡ role.State = sym r ∙ other_role m p _ x _ there has.1.state_stands.there g
        ∙ has.1.state_stands.role_is in cc)
  ]
]

-- PkgData
pub at_package : (m : Nodes) → IsUpdateInOrder m → (p : Path) (x : Node) → get m p ≡ Some x → x.role ≡ role.PkgData
    → (q : Path) × HasUpdate m q × (p ≡ q ++ codes "Update" ∷ codes "PkgData" ∷ [])
at_package m (inl without) p x there r =
    absurd (let yes : is_of_update x.role ≡ true = ap is_of_update r in let never : is_of_update x.role ≡ false =
    without p x there in cc)
at_package m (inr has) p x there r = elim (has.1.alone p x there (ap is_of_update r)) [
  | inl h ↦
      absurd (let same : role.PkgData ≡ role.UpdateNode = sym r ∙ other_role m p _ x _ there has.1.update_stands.there h
      ∙ has.1.update_stands.role_is in cc)
  | inr h ↦ elim h [
    | inl g ↦ (has.0, has.1, g)
    | inr g ↦
        absurd (let same : role.PkgData ≡ role.State = sym r ∙ other_role m p _ x _ there has.1.state_stands.there g
        ∙ has.1.state_stands.role_is in cc)
  ]
]

-- ---- upwards

-- a node of the update isn't the root, so one stands above it
pub has_above : (rows : List Row) → IsTree rows → (k : ℕ) → IsLive rows k → is_of_update (node_of rows k).role ≡ true
    → None ≡ option_and_then (λ (n : List ℕ). get (ids rows) (above (path_of rows k))) (last_name (path_of rows k)) → ⊥
has_above rows tree k live role_is found =
    by_end (path_of rows k) (ends (path_of rows k)) (node_there rows tree.shape k live) found
  where
    by_end : (p : Path) → Ends p → get (nodes rows) p ≡ Some (node_of rows k)
        → None ≡ option_and_then (λ (n : List ℕ). get (ids rows) (above p)) (last_name p) → ⊥
    by_end [] none there f =
        let root = (well_formed rows tree).root in
        let same : root.0 ≡ node_of rows k = some_node root.0 (node_of rows k) (sym root.1 ∙ there) in
        let plain : is_of_update (node_of rows k).role ≡ false =
        ap (λ (n : Node). is_of_update n.role) (sym same) ∙ ap is_of_update root.2.role in
        cc
    by_end p (last front n) there f =
        let up = (well_formed rows tree).parents front n (node_of rows k) there in
        let gone : get (ids rows) front ≡ None =
        ap (get (ids rows)) (sym (above-append front n))
        ∙ sym (f ∙ ap (option_and_then (λ (s : List ℕ). get (ids rows) (above (front ++ n ∷ []))))
        (last_name-append front n)) in
        let empty : get (nodes rows) front ≡ None =
        get_nodes rows front ∙ ap (option_map (λ j. (row_at rows j).node)) gone in
        let full : get (nodes rows) front ≡ Some up.0 = up.1 in
        cc

-- the node above PkgData is the update node
pub above_package : (rows : List Row) → IsTree rows → IsUpdateInOrder (nodes rows) → (k parent : ℕ) → IsLive rows k
    → (node_of rows k).role ≡ role.PkgData
    → IsLive rows parent → path_of rows parent ≡ above (path_of rows k) → (node_of rows parent).role ≡ role.UpdateNode
above_package rows tree order k parent live r up path =
    let at = at_package (nodes rows) order (path_of rows k) (node_of rows k) (node_there rows tree.shape k live) r in
    let place : path_of rows k ≡ (at.0 ++ codes "Update" ∷ []) ++ codes "PkgData" ∷ [] =
    at.2 ∙ sym (append_assoc at.0 (codes "Update" ∷ []) (codes "PkgData" ∷ [])) in
    let here : path_of rows parent ≡ at.0 ++ codes "Update" ∷ [] =
    path ∙ ap above place ∙ above-append (at.0 ++ codes "Update" ∷ []) (codes "PkgData") in
    other_role (nodes rows) (path_of rows parent) _ (node_of rows parent) at.1.update
    (node_there rows tree.shape parent up) at.1.update_stands.there here
    ∙ at.1.update_stands.role_is

-- State is sought beside the update node
pub state_beside-is : (rows : List Row) → IsTree rows → IsUpdateInOrder (nodes rows) → (k top : ℕ) → IsLive rows k
    → (node_of rows k).role ≡ role.UpdateNode
    → path_of rows top ≡ above (path_of rows k)
    → state_node (nodes rows) ≡ child_of_role (nodes rows) (path_of rows top) role.State
state_beside-is rows tree order k top live r path =
    let at = at_update (nodes rows) order (path_of rows k) (node_of rows k) (node_there rows tree.shape k live) r in
    let found = (update_is_found (nodes rows) at.0 at.1).0 in
    ap (option_and_then (λ p. child_of_role (nodes rows) (above p) role.State)) (found ∙ ap (λ p. Some p) (sym at.2))
    ∙ ap (λ p. child_of_role (nodes rows) p role.State) (sym path)

-- ---- State

-- the number that a State of the update tells
abbrev AreDecimal : List (List ℕ) → Type 0
AreDecimal [] = ⊤
AreDecimal (x ∷ xs) = (decimal (digits_value 10 x) ≡ x) × AreDecimal xs

among : (text : List ℕ) (xs : List (List ℕ)) → AreDecimal xs → list_any (bytes_eq text) xs ≡ true
    → decimal (digits_value 10 text) ≡ text
among text [] all e = absurd (cc)
among text (x ∷ xs) all e =
    elim (bytes_eq text x)
    as (λ b. bytes_eq text x ≡ b → b || list_any (bytes_eq text) xs ≡ true → decimal (digits_value 10 text) ≡ text) [
      | true ↦ λ is h. subst (λ t. decimal (digits_value 10 t) ≡ t) (sym (same_bytes text x is)) all.0
      | false ↦ λ is h. among text xs all.1 h
    ] refl e

five : AreDecimal (codes "10" ∷ codes "50" ∷ codes "60" ∷ codes "70" ∷ codes "100" ∷ [])
unfolding digits
five = (refl, (refl, (refl, (refl, (refl, tt)))))

pub state_text : (text : List ℕ) → is_update_state text ≡ true → decimal (digits_value 10 text) ≡ text
state_text text e = among text (codes "10" ∷ codes "50" ∷ codes "60" ∷ codes "70" ∷ codes "100" ∷ []) five e

pub record IsTheState (rows : List Row) (id : ℕ) : Type 0 where
  pub leaf : (node_of rows id).interior ≡ false
  pub role_is : (node_of rows id).role ≡ role.State
  pub five : is_update_state (node_of rows id).value.bytes ≡ true

pub the_state : (rows : List Row) → IsTree rows → IsUpdateInOrder (nodes rows) → (k id : ℕ) → IsLive rows k
    → (node_of rows k).role ≡ role.UpdateNode
    → IsLive rows id → state_node (nodes rows) ≡ Some (path_of rows id) → IsTheState rows id
the_state rows tree order k id live r there is =
    let at = at_update (nodes rows) order (path_of rows k) (node_of rows k) (node_there rows tree.shape k live) r in
    let has = at.1 in
    let path : path_of rows id ≡ at.0 ++ codes "State" ∷ [] =
    some_path _ _ (sym is ∙ (update_is_found (nodes rows) at.0 has).2) in
    let same : node_of rows id ≡ has.state =
    some_node (node_of rows id) has.state
    (sym (node_there rows tree.shape id there) ∙ ap (get (nodes rows)) path ∙ has.state_stands.there) in
    record {
      leaf = ap (λ (n : Node). n.interior) same ∙ has.state_stands.kind;
      role_is = ap (λ (n : Node). n.role) same ∙ has.state_stands.role_is;
      five = ap (λ (n : Node). is_update_state n.value.bytes) same ∙ has.state_is;
    }
  where
    some_path : (p q : Path) → Some p ≡ Some q → p ≡ q
    some_path p q e = cc

pub state_at : (rows : List Row) → IsTree rows → IsUpdateInOrder (nodes rows) → (k : ℕ) (found : State) → IsLive rows k
    → (node_of rows k).role ≡ role.UpdateNode
    → IsLive rows found.id → state_node (nodes rows) ≡ Some (path_of rows found.id)
    → found.state ≡ digits_value 10 (node_of rows found.id).value.bytes
    → IsStateAt rows found
state_at rows tree order k found live r there is number =
    let the = the_state rows tree order k found.id live r there is in
    let value : option_map_or (value_at (nodes rows)) (state_node (nodes rows)) []
    ≡ (node_of rows found.id).value.bytes =
    ap (λ o. option_map_or (value_at (nodes rows)) o []) is
    ∙ ap (λ o. unwrap_or (option_map (λ (n : Node). n.value.bytes) o) []) (node_there rows tree.shape found.id there) in
    record {
      live = there;
      path = is;
      leaf = the.leaf;
      role = the.role_is;
      state = number ∙ ap (digits_value 10) (sym value);
      text = sym (ap decimal number ∙ state_text (node_of rows found.id).value.bytes the.five);
    }

-- ---- State is written where it changes

unread : (a n : ℕ) → digits_value 10 (decimal n) ≡ n → a ≢ n → (text : List ℕ) → digits_value 10 text ≡ a
    → bytes_eq text (decimal n) ≡ false
unread a n back other text number = by_test (bytes_eq text (decimal n)) refl
  where
    by_test : (b : Bool) → bytes_eq text (decimal n) ≡ b → b ≡ false
    by_test false is = refl
    by_test true is = absurd (other (sym number ∙ ap (digits_value 10) (same_bytes text (decimal n) is) ∙ back))

module _ (s : Setting) (rows : List Row) (shape : IsShaped rows) (found : State) (at : IsStateAt rows found)
    (after : Nodes) (n : ℕ) where
  node_is : node_at (nodes rows) (path_of rows found.id) ≡ node_of rows found.id
  node_is = ap (λ o. unwrap_or o blank_node) (node_there rows shape found.id at.live)

  text_is : value_at (nodes rows) (path_of rows found.id) ≡ (node_of rows found.id).value.bytes
  text_is = ap (λ o. unwrap_or (option_map (λ (x : Node). x.value.bytes) o) []) (node_there rows shape found.id at.live)

  number_is : digits_value 10 (value_at (nodes rows) (path_of rows found.id)) ≡ found.state
  number_is = sym (at.state ∙ ap (λ o. digits_value 10 (option_map_or (value_at (nodes rows)) o [])) at.path)

  written_at : with_state s (nodes rows) after n ≡ rewritten_at s (nodes rows) after (path_of rows found.id) (decimal n)
  written_at = ap (λ o. option_map_or (λ q. rewritten_at s (nodes rows) after q (decimal n)) o after) at.path

  pub state_led : digits_value 10 (decimal n) ≡ n → found.state ≢ n
      → with_state s (nodes rows) after n
      ≡ insert after (path_of rows found.id) (rewritten s (node_of rows found.id) (decimal n))
  state_led back other =
      written_at
      ∙ ap (λ b. cond b after
      (insert after (path_of rows found.id) (rewritten s (node_at (nodes rows) (path_of rows found.id)) (decimal n))))
      (unread found.state n back other (value_at (nodes rows) (path_of rows found.id)) number_is)
      ∙ ap (λ x. insert after (path_of rows found.id) (rewritten s x (decimal n))) node_is

  pub state_stays : found.state ≡ n → with_state s (nodes rows) after n ≡ after
  state_stays same =
      written_at
      ∙ ap (λ b. cond b after
      (insert after (path_of rows found.id) (rewritten s (node_at (nodes rows) (path_of rows found.id)) (decimal n))))
      (equal_bytes (value_at (nodes rows) (path_of rows found.id)) (decimal n) (text_is ∙ at.text ∙ ap decimal same))

pub progressing_back : digits_value 10 (decimal progressing) ≡ progressing
unfolding digits
progressing_back = refl

pub small_back : (n : ℕ) → n < 256 → digits_value 10 (decimal n) ≡ n
small_back n small = (decimal_is_IsNumeral n (omega (arith, small))).1

-- ---- what is written is a value

pub restated_is_value : (x : Node) (n : ℕ) → n < 256 → IsNode x → x.interior ≡ false
    → IsValue false (record x.value { bytes = decimal n })
restated_is_value x n small node leaf =
    let value = subst (λ b. IsValue b x.value) leaf node.value in
    record {
      format = value.format;
      kind = value.kind;
      empty = λ e. absurd (cc);
      media = value.media;
      short = omega (arith, small, length-decimal-le_succ n (omega (arith, small)));
    }

pub replaced_is_value : (x : Node) (step : Step) → IsNode x → x.interior ≡ false
    → option_map_or is_node_format step.format false ≡ false
    → has_bad_meta (kept_format x step) (kept_media x step) ≡ false → length step.value ≤ 4194304
    → IsValue false (replaced_value x step)
replaced_is_value x step node leaf other good small =
    let old = subst (λ b. IsValue b x.value) leaf node.value in
    let parts = either (not (is_format (kept_format x step))) (nat_lt 255 (length (kept_media x step))) good in
    record {
      format = negated (is_format (kept_format x step)) parts.0;
      kind = by_format step.format other old.kind;
      empty = λ e. absurd (cc);
      media = ltb-false 255 (length (kept_media x step)) parts.1;
      short = small;
    }
  where
    either : (a b : Bool) → a || b ≡ false → (a ≡ false) × (b ≡ false)
    either true b e = absurd (cc)
    either false b e = (refl, e)

    negated : (b : Bool) → not b ≡ false → b ≡ true
    negated true e = refl
    negated false e = absurd (cc)

    by_format : (o : Option (List ℕ)) → option_map_or is_node_format o false ≡ false
        → is_node_format x.value.format ≡ false
        → is_node_format (unwrap_or o x.value.format) ≡ false
    by_format None e k = k
    by_format (Some f) e k = e

-- ---- what the states say

-- an update that runs isn't started
pub may_not : (n : ℕ) → not (may_exec n) ≡ false → n ≢ progressing
may_not n may e = let never : not (may_exec progressing) ≡ true = refl in
    let now : not (may_exec progressing) ≡ false = ap (λ k. not (may_exec k)) (sym e) ∙ may in cc

-- what a write leads to
pub led_to : (m : Nodes) (state next : ℕ) (empty is : Bool) → state ≡ state_in_tree m → is ≡ empty
    → next ≡ unwrap_or (after_write state is) state
    → state_after_write m empty ≡ next
led_to m state next empty is e f g =
    ap (λ k. unwrap_or (after_write k empty) k) (sym e) ∙ ap (λ b. unwrap_or (after_write state b) state) (sym f)
    ∙ sym g
