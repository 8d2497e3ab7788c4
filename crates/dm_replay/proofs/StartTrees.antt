-- The tree that a start section tells is well-formed, and its clock is a stamp.
use Rattle.std.proofs.Common.{◌≡◌, ◌≤◌, ◌+◌, ℕ, Bool, true, false, not, cond, List, [], ◌∷◌, ◌++◌}
use Rattle.std.proofs.Common.{length, Option, None, Some, Ok, Err, refl, sym, ◌∙◌, ap, subst, arith, inl, inr}
use Rattle.std.proofs.lemmas.Bool.{and_parts, and_from}
use Rattle.std.proofs.lemmas.Bool.Decides.{nat_tests}
use Rattle.std.specs.Prelude.{◌&&◌, Result, nat_le, nat_lt, codes, is_some}
use Rattle.std.specs.List.{list_all}
use Rattle.std.specs.FinMap.{get, insert, empty, len, get-empty, get-insert, len-insert, len-empty}
use Rattle.dm_base.specs.Fields.{parts, is_visible, is_word, is_short, hex_of}
use Rattle.dm_base.specs.declared.lines.LineReason.{LineReason}
use Rattle.dm_base.specs.declared.lines.LineReason.TheVariants as reason
use Rattle.dm_uri.specs.declared.uri.Query.{Query}
use Rattle.dm_uri.specs.declared.uri.Query.TheVariants as query
use Rattle.dm_uri.specs.declared.uri.Uri.{Uri}
use Rattle.dm_uri.specs.declared.uri.UriError.{UriError}
use Rattle.dm_uri.specs.Names.{has_name_form, is_within_limits, IsPath}
use Rattle.dm_uri.specs.Reading.{parse_of}
use Rattle.dm_uri.proofs.BothWays.{reads_grammar}
use Rattle.dm_acl.specs.declared.values.AclError.{AclError}
use Rattle.dm_acl.specs.declared.values.Entries.{Entries}
use Rattle.dm_acl.specs.Reading.{parse_of as parse_acl, after_part}
use Rattle.dm_acl.proofs.Grammars.{what_is_read_is_read_again}
use Rattle.dm_tree.specs.declared.nodes.Node.{Node}
use Rattle.dm_tree.specs.declared.nodes.Role.{Role}
use Rattle.dm_tree.specs.declared.nodes.Role.TheVariants as role
use Rattle.dm_tree.specs.declared.nodes.Stamp.{Stamp}
use Rattle.dm_tree.specs.declared.nodes.Value.{Value}
use Rattle.dm_tree.specs.Nodes.{Path, Nodes, tree_order, is_format, is_node_format, root_node, counted, with_acl}
use Rattle.dm_tree.specs.Nodes.{with_title, with_mark, IsNode, IsNewNode, IsReadAgain, IsStamp, IsValue}
use Rattle.dm_tree.specs.Nodes.{IsWellFormed}
use Rattle.dm_tree.specs.Devices.{update_node}
use Rattle.dm_tree.proofs.NodesKept.{at_insert, here_insert}
use Rattle.dm_tree.proofs.Paths.{tree_total}
use Rattle.dm_start.specs.declared.heads.DeviceInfo.{DeviceInfo}
use Rattle.dm_start.specs.declared.node_lines.LeafLine.{LeafLine}
use Rattle.dm_start.specs.Fields.{plain_path, path_read, path_in, only_path, is_leaf_format, leaf_of}
use Rattle.dm_fields.specs.Fields.{begins_with}
use Rattle.dm_start.specs.Fields.{leaf_in, acl_in, title_in}
use Rattle.dm_start.specs.Growing.{value_of, new_node, interior_value, with_one, with_all, start_acl}
use Rattle.dm_start.specs.Growing.{new_device_leaf, device_part, bare_tree, start_nodes, update_leaf, update_part}
use Rattle.dm_start.specs.Growing.{with_update, changed_at, with_acl_at, is_title, with_title_at, may_be_permanent}
use Rattle.dm_start.specs.Growing.{with_mark_at, interior_line, with_leaf, leaf_line, acl_line, title_line}
use Rattle.dm_start.specs.Growing.{permanent_line, update_line, nodes_after}
use Rattle.dm_start.specs.Soundness.{IsShortDevice}
use Rattle.dm_fields.proofs.Told.{said, allowed, passed, same_ok, some_if}
use Rattle.dm_machine.proofs.FormedTrees.{StaysFormed, changed_formed}
use Rattle.dm_replay.proofs.StartNodes.{AreGood, one_formed, all_formed, marked_formed, may_be_marked}

-- ---- the nodes that are made

within_255 : (n : ℕ) → nat_le n 255 ≡ true → n ≤ 255
within_255 n h = grind (arith, nat_tests)

within_64 : (n : ℕ) → nat_le n 64 ≡ true → n ≤ 4194304
within_64 n h = grind (arith, nat_tests)

within_object : (n : ℕ) → nat_le n 4194304 ≡ true → n ≤ 4194304
within_object n h = grind (arith, nat_tests)

interior_is_good : (permanent : Bool) (r : Role) → IsNewNode (new_node true interior_value permanent r)
interior_is_good permanent r = record {
  value = record { format = refl; kind = refl; empty = λ _. refl; media = omega arith; short = omega arith };
  acl = tt;
  title = omega arith;
}

leaf_is_good : (value : Value) (permanent : Bool) (r : Role) → IsValue false value
    → IsNewNode (new_node false value permanent r)
leaf_is_good value permanent r is = record { value = is; acl = tt; title = omega arith }

never : (X : Type 0) → false ≡ true → X
never X h = absurd (cc)

-- a value with the Type of a text
text_is_value : (format bytes : List ℕ) → is_format format ≡ true → is_node_format format ≡ false
    → length bytes ≤ 4194304 → IsValue false (value_of format (codes "text/plain") bytes)
text_is_value format bytes known other short =
    record {
      format = known;
      kind = other;
      empty = λ h. never _ h;
      media = within_255 (length (codes "text/plain")) refl;
      short = short;
    }

text_is_good : (format bytes : List ℕ) (r : Role) → is_format format ≡ true → is_node_format format ≡ false
    → nat_le (length bytes) 4194304 ≡ true
    → IsNewNode (update_leaf format bytes r)
text_is_good format bytes r known other short =
    leaf_is_good (value_of format (codes "text/plain") bytes) true r
    (text_is_value format bytes known other (within_object (length bytes) short))

-- ---- paths

plain_is : (q : Query) (r p : Path) → plain_path q r ≡ Some p → r ≡ p
plain_is query.Plain r p h = cc
plain_is (query.Prop x) r p h = absurd (cc)
plain_is query.Struct r p h = absurd (cc)
plain_is query.StructData r p h = absurd (cc)

path_form : (text : List ℕ) (p : Path) → path_in text ≡ Some p → list_all has_name_form p ≡ true
path_form text p e = by_read (parse_of text) refl e
  where
    by_read : (r : Result Uri UriError) → parse_of text ≡ r → path_read r ≡ Some p → list_all has_name_form p ≡ true
    by_read (Err x) is h = absurd (cc)
    by_read (Ok uri) is h =
        subst (λ q. list_all has_name_form q ≡ true) (plain_is uri.query uri.path p h)
        ((reads_grammar text uri).0 is).path.0

only_form : (fields : List (List ℕ)) (p : Path) → only_path fields ≡ Some p → list_all has_name_form p ≡ true
only_form [] p e = absurd (cc)
only_form (w ∷ []) p e = absurd (cc)
only_form (w ∷ u ∷ []) p e = path_form u p e
only_form (w ∷ u ∷ x ∷ rest) p e = absurd (cc)

forms_more : (p q : Path) → list_all has_name_form p ≡ true → list_all has_name_form q ≡ true
    → list_all has_name_form (p ++ q) ≡ true
forms_more [] q h k = k
forms_more (n ∷ ns) q h k =
    let both = and_parts (has_name_form n) (list_all has_name_form ns) h in
    and_from (has_name_form n) (list_all has_name_form (ns ++ q)) both.0 (forms_more ns q both.1 k)

-- ---- a leaf that a line tells

record IsLeaf (l : LeafLine) : Type 0 where
  form : list_all has_name_form l.path ≡ true
  format : is_format l.value.format ≡ true
  other : is_node_format l.value.format ≡ false
  media : length l.value.media ≤ 255

some_leaf : (x y : LeafLine) → Some x ≡ Some y → x ≡ y
some_leaf x y h = cc

turned : (b : Bool) → not b ≡ true → b ≡ false
turned false h = refl
turned true h = absurd (cc)

leaf_told : (fields : List (List ℕ)) (l : LeafLine) → leaf_in fields ≡ Some l → IsLeaf l
leaf_told [] l e = absurd (cc)
leaf_told (w ∷ []) l e = absurd (cc)
leaf_told (w ∷ u ∷ []) l e = absurd (cc)
leaf_told (w ∷ u ∷ f ∷ []) l e = absurd (cc)
leaf_told (w ∷ u ∷ f ∷ t ∷ []) l e = absurd (cc)
leaf_told (w ∷ u ∷ f ∷ t ∷ b ∷ []) l e =
    let told = some_if (is_leaf_format f && is_word t) (leaf_of (path_in u) f t (hex_of b)) l e in
    let both = and_parts (is_leaf_format f) (is_word t) told.0 in
    let format = and_parts (is_format f) (not (is_node_format f)) both.0 in
    let word = and_parts (nat_lt 0 (length t) && nat_le (length t) 255) (list_all is_visible t) both.1 in
    let short = and_parts (nat_lt 0 (length t)) (nat_le (length t) 255) word.0 in
    by_parts format.0 (turned (is_node_format f) format.1) (within_255 (length t) short.1) (path_in u) refl (hex_of b)
    told.1
  where
    by_parts : is_format f ≡ true → is_node_format f ≡ false → length t ≤ 255 → (p : Option Path) → path_in u ≡ p
        → (v : Option (List ℕ)) → leaf_of p f t v ≡ Some l → IsLeaf l
    by_parts format other media None is v h = absurd (cc)
    by_parts format other media (Some p) is None h = absurd (cc)
    by_parts format other media (Some p) is (Some v) h =
        subst IsLeaf (some_leaf _ l h)
        (record { form = path_form u p is; format = format; other = other; media = media })
leaf_told (w ∷ u ∷ f ∷ t ∷ b ∷ x ∷ rest) l e = absurd (cc)

-- ---- a line that tells of the tree

module _ (clock : Stamp) (stamp : IsStamp clock) (m n : Nodes) (formed : IsWellFormed m) where
  after_interior : (fields : List (List ℕ)) → interior_line clock m fields ≡ Ok n → IsWellFormed n
  after_interior fields e =
      let s = said reason.Fields (only_path fields)
      (λ p. with_one clock m p (new_node true interior_value false role.Plain)) n e in
      one_formed clock stamp m n s.value (new_node true interior_value false role.Plain)
      (interior_is_good false role.Plain) (only_form fields s.value s.is) formed s.rest

  after_leaf : (fields : List (List ℕ)) → leaf_line clock m fields ≡ Ok n → IsWellFormed n
  after_leaf fields e =
      let s = said reason.Fields (leaf_in fields) (with_leaf clock m) n e in
      let is = leaf_told fields s.value s.is in
      let new = new_node false s.value.value false role.Plain in
      let short =
      allowed (nat_le (length s.value.value.bytes) 4194304)
      (with_one clock m s.value.path new) reason.Tree n s.rest in
      one_formed clock stamp m n s.value.path new
      (leaf_is_good s.value.value false role.Plain (record {
        format = is.format;
        kind = is.other;
        empty = λ h. never _ h;
        media = is.media;
        short = within_object (length s.value.value.bytes) short.0;
      }))
      is.form formed short.1

  -- a node that stays of its kind and keeps its value
  set_formed : (p : Path) (change : Node → Node) → changed_at m p change ≡ Ok n
      → ((x : Node) → IsNode x → StaysFormed p x (change x)) → IsWellFormed n
  set_formed p change e stays =
      let s = said reason.Tree (get m p) (λ node. Ok (insert m p (change node))) n e in
      subst IsWellFormed (same_ok _ n s.rest)
      (changed_formed m formed p s.value (change s.value) s.is (stays s.value (formed.each p s.value s.is)))

  acl_set : (p : Path) (r : Result Entries AclError) → ((acl : Entries) → r ≡ Ok acl → IsReadAgain acl)
      → with_acl_at m p r ≡ Ok n → IsWellFormed n
  acl_set p (Err x) again e = absurd (cc)
  acl_set p (Ok acl) again e = set_formed p (λ node. with_acl node (Some acl)) e (λ x held. record {
    node = record {
      value = held.value;
      acl = again acl refl;
      title = held.title;
      verno = held.verno;
      stamp = held.stamp;
    };
    interior = refl;
    permanent = refl;
    root = λ _ root. record {
      interior = root.interior;
      permanent = root.permanent;
      acl = refl;
      media = root.media;
      role = root.role;
    };
  })

  after_acl : (fields : List (List ℕ)) → acl_line m fields ≡ Ok n → IsWellFormed n
  after_acl fields e =
      let s = said reason.Fields (acl_in fields) (λ f. with_acl_at m f.0 (parse_acl f.1)) n e in
      acl_set s.value.0 (parse_acl s.value.1) (what_is_read_is_read_again s.value.1) s.rest

  after_title : (fields : List (List ℕ)) → title_line m fields ≡ Ok n → IsWellFormed n
  after_title fields e =
      let s = said reason.Fields (title_in fields) (λ f. with_title_at m f.0 f.1) n e in
      let text = s.value.1 in
      let change = λ (node : Node). with_title node text in
      let fits = allowed (is_title text) (changed_at m s.value.0 change) reason.Tree n s.rest in
      let short = within_255 (length text) (and_parts (nat_le (length text) 255) _ fits.0).0 in
      set_formed s.value.0 change fits.1 (λ x held. record {
        node = record {
          value = held.value;
          acl = held.acl;
          title = short;
          verno = held.verno;
          stamp = held.stamp;
        };
        interior = refl;
        permanent = refl;
        root = λ _ root. record {
          interior = root.interior;
          permanent = root.permanent;
          acl = root.acl;
          media = root.media;
          role = root.role;
        };
      })

  after_permanent : (fields : List (List ℕ)) → permanent_line m fields ≡ Ok n → IsWellFormed n
  after_permanent fields e =
      let s = said reason.Fields (only_path fields) (with_mark_at m) n e in
      let may = allowed (may_be_permanent m s.value) (changed_at m s.value with_mark) reason.Tree n s.rest in
      let at = said reason.Tree (get m s.value) (λ node. Ok (insert m s.value (with_mark node))) n may.1 in
      subst IsWellFormed (same_ok _ n at.rest)
      (marked_formed m formed s.value at.value at.is (may_be_marked m s.value may.0))

  part_is_good : (p : Path) → list_all has_name_form p ≡ true → AreGood (update_part p)
  part_is_good p form = (
    interior_is_good true role.Plain,
    form,
    (
      text_is_good (codes "chr") [] role.Plain refl refl refl,
      forms_more p (codes "PkgName" ∷ []) form refl,
      (
        text_is_good (codes "chr") [] role.Plain refl refl refl,
        forms_more p (codes "PkgVersion" ∷ []) form refl,
        (
          interior_is_good true role.UpdateNode,
          forms_more p (codes "Update" ∷ []) form refl,
          (
            text_is_good (codes "bin") [] role.PkgData refl refl refl,
            forms_more p (codes "Update" ∷ codes "PkgData" ∷ []) form refl,
            (
              text_is_good (codes "int") (codes "10") role.State refl refl refl,
              forms_more p (codes "State" ∷ []) form refl,
              tt,
            ),
          ),
        ),
      ),
    ),
  )

  after_update : (fields : List (List ℕ)) → update_line clock m fields ≡ Ok n → IsWellFormed n
  after_update fields e =
      let s = said reason.Fields (only_path fields) (with_update clock m) n e in
      let new =
      passed (is_some (update_node m)) (with_all clock m (update_part s.value)) reason.Tree n s.rest in
      all_formed clock stamp (update_part s.value) m n (part_is_good s.value (only_form fields s.value s.is)) formed
      new.1

  either : (P : Type 0) (b : Bool) (x y : Result Nodes LineReason) → cond b x y ≡ Ok n → (x ≡ Ok n → P)
      → (y ≡ Ok n → P) → P
  either P true x y e f g = f e
  either P false x y e f g = g e

  pub node_line_formed : (line : List ℕ) → nodes_after clock m line ≡ Ok n → IsWellFormed n
  unfolding nodes_after
  node_line_formed line e =
      either (IsWellFormed n) (begins_with (codes "interior") line) _ _ e (after_interior (parts line)) (λ e1.
      either (IsWellFormed n) (begins_with (codes "leaf") line) _ _ e1 (after_leaf (parts line)) (λ e2.
      either (IsWellFormed n) (begins_with (codes "acl") line) _ _ e2 (after_acl (parts line)) (λ e3.
      either (IsWellFormed n) (begins_with (codes "title") line) _ _ e3 (after_title (parts line)) (λ e4.
      either (IsWellFormed n) (begins_with (codes "permanent") line) _ _ e4 (after_permanent (parts line)) (λ e5.
      either (IsWellFormed n) (begins_with (codes "fumo") line) _ _ e5 (after_update (parts line))
      (λ e6. absurd (cc)))))))

-- ---- the tree before the first line

start_text : parse_acl (codes "Add=*&Get=*") ≡ Ok start_acl
unfolding parse_acl after_part
start_text = refl

start_acl_again : IsReadAgain start_acl
start_acl_again = what_is_read_is_read_again (codes "Add=*&Get=*") start_acl start_text

none_some : (node : Node) → ◌≡◌ {A = Option Node} None (Some node) → ⊥
none_some node h = cc

no_name_more : (p : Path) (name : List ℕ) → p ++ name ∷ [] ≡ [] → ⊥
no_name_more [] name h = cc
no_name_more (n ∷ ns) name h = cc

module _ (clock : Stamp) (stamp : IsStamp clock) where
  abbrev root : Node
  root = counted (root_node start_acl) 0 clock

  only_root : (q : Path) (node : Node) → get (bare_tree clock) q ≡ Some node → (q ≡ []) × (root ≡ node)
  only_root q node e = elim (at_insert empty [] q root node e) [
    | inl h ↦ h
    | inr h ↦ absurd (none_some node (sym (get-empty tree_order q) ∙ h))
  ]

  root_held : IsNode root
  root_held = record {
    value = record { format = refl; kind = refl; empty = λ _. refl; media = omega arith; short = omega arith };
    acl = start_acl_again;
    title = omega arith;
    verno = omega arith;
    stamp = stamp;
  }

  bare_formed : IsWellFormed (bare_tree clock)
  bare_formed = record {
    root = (
      root,
      here_insert empty [] root,
      record { interior = refl; permanent = refl; acl = refl; media = refl; role = refl },
    );
    parents = λ p name child e. absurd (no_name_more p name (only_root (p ++ name ∷ []) child e).0);
    each = λ q node e. subst IsNode (only_root q node e).1 root_held;
    paths = λ q node e. subst (λ r. IsPath r × (is_within_limits r ≡ true)) (sym (only_root q node e).0)
        (record { few = omega arith; names = refl }, refl);
    few = omega (
      arith,
      len-insert tree_total (empty {X = Node} {R = tree_order}) [] root,
      len-empty tree_order Node,
      ap (λ o. cond (is_some o) (len (empty {X = Node} {R = tree_order})) (len (empty {X = Node} {R = tree_order}) + 1))
          (get-empty {X = Node} tree_order []),
    );
  }

  told_is_good : (value : List ℕ) → is_short value ≡ true → IsNewNode (new_device_leaf value)
  told_is_good value short =
      leaf_is_good (value_of (codes "chr") (codes "text/plain") value) true role.ReadOnly
      (text_is_value (codes "chr") value refl refl
      (within_64 (length value) (and_parts (is_word value) (nat_le (length value) 64) short).1))

  device_is_good : (d : DeviceInfo) → IsShortDevice d → AreGood (device_part d)
  device_is_good d short = (
    interior_is_good true role.Plain,
    refl,
    (
      told_is_good d.dev_id short.dev_id,
      refl,
      (
        told_is_good d.man short.man,
        refl,
        (
          told_is_good d.model short.model,
          refl,
          (
            told_is_good d.dm_v short.dm_v,
            refl,
            (told_is_good d.lang short.lang, refl, tt),
          ),
        ),
      ),
    ),
  )

  device_stands : (d : DeviceInfo) → with_all clock (bare_tree clock) (device_part d) ≡ Ok (start_nodes clock d)
  unfolding start_nodes
  device_stands d =
      simp (
        get-insert {X = Node} tree_total,
        get-empty {X = Node} tree_order,
        len-insert {X = Node} tree_total,
        len-empty tree_order Node,
      ) refl

  pub start_formed : (d : DeviceInfo) → IsShortDevice d → IsWellFormed (start_nodes clock d)
  start_formed d short =
      all_formed clock stamp (device_part d) (bare_tree clock) (start_nodes clock d) (device_is_good d short)
      bare_formed (device_stands d)
