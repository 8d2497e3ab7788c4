-- The tree of a start section is a device's tree.
use Rattle.std.proofs.Common.{◌≡◌, ◌<◌, ℕ, true, false, not, List, [], ◌∷◌, ◌++◌, Option, None, Some, Ok, Err, refl}
use Rattle.std.proofs.Common.{sym, ◌∙◌, ap, subst, arith, inl, inr}
use Rattle.std.proofs.lemmas.Bool.{and_parts}
use Rattle.std.proofs.lemmas.Bool.Decides.{nat_tests}
use Rattle.std.proofs.lemmas.Str.{IsUtf8-from_ascii}
use Rattle.std.proofs.lemmas.Str.Ascii.{IsAscii-nil, IsAscii-cons}
use Rattle.std.specs.Prelude.{◌&&◌, ◌==◌, ◌⊎◌, ⊤, Result, is_some, nat_le, codes}
use Rattle.std.specs.List.{list_all}
use Rattle.std.specs.Str.{IsAscii}
use Rattle.std.specs.Ordering.{eq_by_cmp}
use Rattle.std.specs.FinMap.{empty, get, insert, len, get-empty, get-insert}
use Rattle.dm_base.specs.Fields.{is_visible, is_word, is_short}
use Rattle.dm_base.specs.declared.lines.LineReason.{LineReason}
use Rattle.dm_base.specs.declared.lines.LineReason.TheVariants as reason
use Rattle.dm_uri.specs.Names.{is_within_limits}
use Rattle.dm_tree.specs.declared.nodes.NewNode.{NewNode}
use Rattle.dm_tree.specs.declared.nodes.Node.{Node}
use Rattle.dm_tree.specs.declared.nodes.Role.TheVariants as role
use Rattle.dm_tree.specs.declared.nodes.Stamp.{Stamp}
use Rattle.dm_tree.specs.Nodes.{Path, Nodes, tree_order, made, root_node, counted}
use Rattle.dm_tree.specs.Devices.{is_of_update, device_path, update_node, HasNoUpdate, HasUpdate, IsDeviceLeaf}
use Rattle.dm_tree.specs.Devices.{IsDeviceTree, IsText, StaysAlike}
use Rattle.dm_tree.proofs.BareDevices.{no_type, plain_type}
use Rattle.dm_tree.proofs.Devices.{update_is_found}
use Rattle.dm_tree.proofs.DeviceTrees.{changed_keeps_device, added_keeps_device}
use Rattle.dm_tree.proofs.NodesKept.{at_insert, here_insert, still_insert}
use Rattle.dm_tree.proofs.Paths.{tree_total}
use Rattle.dm_start.specs.declared.heads.DeviceInfo.{DeviceInfo}
use Rattle.dm_start.specs.Growing.{unless_refused, new_node, is_open, may_stand, with_one, with_all, new_device_leaf}
use Rattle.dm_start.specs.Growing.{interior_value}
use Rattle.dm_start.specs.Growing.{start_acl, start_nodes, update_leaf, update_part, with_update, changed_at}
use Rattle.dm_start.specs.Soundness.{IsShortDevice}
use Rattle.dm_fields.proofs.Told.{said, allowed, passed, same_ok}

-- ---- a node that comes in

none_of : (o : Option Node) → not (is_some o) ≡ true → o ≡ None
none_of None h = refl
none_of (Some x) h = absurd (cc)

pub record CameIn (clock : Stamp) (m : Nodes) (p : Path) (new : NewNode) (n : Nodes) : Type 0 where
  pub free : get m p ≡ None
  pub is : insert m p (made clock new) ≡ n

pub came_in : (clock : Stamp) (m : Nodes) (p : Path) (new : NewNode) (n : Nodes) → with_one clock m p new ≡ Ok n
    → CameIn clock m p new n
came_in clock m p new n e =
    let may = allowed (may_stand m p new.permanent) (Ok (insert m p (made clock new))) reason.Tree n e in
    let stands = and_parts (is_open m p new.permanent && is_within_limits p) (not (len m == 65536)) may.0 in
    let opens = and_parts (is_open m p new.permanent) (is_within_limits p) stands.0 in
    record { free = none_of (get m p) (and_parts (not (is_some (get m p))) _ opens.0).0; is = same_ok _ n may.1 }

pub added_device : (clock : Stamp) (m : Nodes) (p : Path) (new : NewNode) (n : Nodes) → with_one clock m p new ≡ Ok n
    → is_of_update new.role ≡ false → IsText new.value.media → IsDeviceTree m → IsDeviceTree n
added_device clock m p new n e plain text device =
    let came = came_in clock m p new n e in
    subst IsDeviceTree came.is (added_keeps_device m p (made clock new) device came.free plain text).tree

pub changed_device : (m : Nodes) (p : Path) (change : Node → Node) (n : Nodes) → changed_at m p change ≡ Ok n
    → ((x : Node) → StaysAlike x (change x)) → IsDeviceTree m → IsDeviceTree n
changed_device m p change n e alike device =
    let s = said reason.Tree (get m p) (λ node. Ok (insert m p (change node))) n e in
    subst IsDeviceTree (same_ok _ n s.rest)
    (changed_keeps_device m p s.value (change s.value) device s.is (alike s.value)).tree

-- ---- the tree before the first line

record IsPlainText (node : Node) : Type 0 where
  update : is_of_update node.role ≡ false
  text : IsText node.value.media

abbrev AllPlainText : Nodes → Type 0
AllPlainText m = (q : Path) (node : Node) → get m q ≡ Some node → IsPlainText node

nothing_there : (q : Path) (node : Node) → get (empty {X = Node} {R = tree_order}) q ≡ Some node → IsPlainText node
nothing_there q node e = absurd (none_some (sym (get-empty tree_order q) ∙ e))
  where
    none_some : None ≡ Some node → ⊥
    none_some h = cc

one_more : (m : Nodes) (p : Path) (new : Node) → IsPlainText new → AllPlainText m → AllPlainText (insert m p new)
one_more m p new plain all q node e = elim (at_insert m p q new node e) [
  | inl here ↦ subst IsPlainText here.1 plain
  | inr there ↦ all q node there
]

past : (m : Nodes) (p q : Path) (new node : Node) → eq_by_cmp tree_order q p ≡ false → get m q ≡ Some node
    → get (insert m p new) q ≡ Some node
past m p q new node other there = get-insert tree_total m p new q ∙ rw other there

leaf_plain : (clock : Stamp) (value : List ℕ) → IsPlainText (made clock (new_device_leaf value))
leaf_plain clock value = record { update = refl; text = plain_type }

module _ (clock : Stamp) (d : DeviceInfo) where
  all_plain : AllPlainText (start_nodes clock d)
  unfolding start_nodes
  all_plain =
      one_more _ _ _ (leaf_plain clock d.lang)
      (one_more _ _ _ (leaf_plain clock d.dm_v) (one_more _ _ _ (leaf_plain clock d.model)
      (one_more _ _ _ (leaf_plain clock d.man) (one_more _ _ _ (leaf_plain clock d.dev_id)
      (one_more _ (codes "DevInfo" ∷ []) (made clock (new_node true interior_value true role.Plain))
      (record { update = refl; text = no_type })
      (one_more empty [] (counted (root_node start_acl) 0 clock)
      (record { update = refl; text = no_type }) nothing_there))))))

  leaf : (name value : List ℕ) → get (start_nodes clock d) (device_path name) ≡ Some (made clock (new_device_leaf value))
      → is_short value ≡ true → IsDeviceLeaf (start_nodes clock d) name
  leaf name value there short = record {
    node = made clock (new_device_leaf value);
    stands = record { there = there; kind = refl; permanent = refl; role_is = refl };
    format = refl;
    media = refl;
    short = short;
  }

  at_lang : get (start_nodes clock d) (device_path (codes "Lang")) ≡ Some (made clock (new_device_leaf d.lang))
  unfolding start_nodes
  at_lang = here_insert _ _ _

  at_dm_v : get (start_nodes clock d) (device_path (codes "DmV")) ≡ Some (made clock (new_device_leaf d.dm_v))
  unfolding start_nodes
  at_dm_v = past _ _ _ _ _ refl (here_insert _ _ _)

  at_model : get (start_nodes clock d) (device_path (codes "Mod")) ≡ Some (made clock (new_device_leaf d.model))
  unfolding start_nodes
  at_model = past _ _ _ _ _ refl (past _ _ _ _ _ refl (here_insert _ _ _))

  at_man : get (start_nodes clock d) (device_path (codes "Man")) ≡ Some (made clock (new_device_leaf d.man))
  unfolding start_nodes
  at_man = past _ _ _ _ _ refl (past _ _ _ _ _ refl (past _ _ _ _ _ refl (here_insert _ _ _)))

  at_dev_id : get (start_nodes clock d) (device_path (codes "DevId")) ≡ Some (made clock (new_device_leaf d.dev_id))
  unfolding start_nodes
  at_dev_id = past _ _ _ _ _ refl (past _ _ _ _ _ refl (past _ _ _ _ _ refl (past _ _ _ _ _ refl (here_insert _ _ _))))

  pub start_is_device : IsShortDevice d → IsDeviceTree (start_nodes clock d)
  start_is_device short = record {
    update = inl (λ q node e. (all_plain q node e).update);
    texts = λ q node e. (all_plain q node e).text;
    dev_id = leaf _ _ at_dev_id short.dev_id;
    man = leaf _ _ at_man short.man;
    model = leaf _ _ at_model short.model;
    dm_v = leaf _ _ at_dm_v short.dm_v;
    lang = leaf _ _ at_lang short.lang;
  }

-- ---- nodes that come in one after another

unfoldable pub Came : Stamp → Nodes → List (Path × NewNode) → Nodes → Type 0
Came clock m [] n = m ≡ n
Came clock m (e ∷ es) n = (get m e.0 ≡ None) × Came clock (insert m e.0 (made clock e.1)) es n

nothing_came : (clock : Stamp) (m n : Nodes) → Came clock m [] n → m ≡ n
unfolding Came
nothing_came clock m n came = came

was_free : (clock : Stamp) (e : Path × NewNode) (es : List (Path × NewNode)) (m n : Nodes) → Came clock m (e ∷ es) n
    → get m e.0 ≡ None
unfolding Came
was_free clock e es m n came = came.0

others : (clock : Stamp) (e : Path × NewNode) (es : List (Path × NewNode)) (m n : Nodes) → Came clock m (e ∷ es) n
    → Came clock (insert m e.0 (made clock e.1)) es n
unfolding Came
others clock e es m n came = came.1

no_more : (clock : Stamp) (m n : Nodes) → m ≡ n → Came clock m [] n
unfolding Came
no_more clock m n same = same

one_came : (clock : Stamp) (e : Path × NewNode) (es : List (Path × NewNode)) (m n : Nodes) → get m e.0 ≡ None
    → Came clock (insert m e.0 (made clock e.1)) es n → Came clock m (e ∷ es) n
unfolding Came
one_came clock e es m n free rest = (free, rest)

first_came : (clock : Stamp) (e : Path × NewNode) (es : List (Path × NewNode)) (m n : Nodes)
    (r : Result Nodes LineReason)
    → with_one clock m e.0 e.1 ≡ r → unless_refused r (λ k. with_all clock k es) ≡ Ok n
    → ((k : Nodes) → with_all clock k es ≡ Ok n → Came clock k es n) → Came clock m (e ∷ es) n
first_came clock e es m n (Err why) is rest each = absurd (cc)
first_came clock e es m n (Ok k) is rest each =
    let came = came_in clock m e.0 e.1 k is in
    one_came clock e es m n came.free (subst (λ k. Came clock k es n) (sym came.is) (each k rest))

pub all_came : (clock : Stamp) (es : List (Path × NewNode)) (m n : Nodes) → with_all clock m es ≡ Ok n
    → Came clock m es n
all_came clock [] m n e = no_more clock m n (same_ok m n e)
all_came clock (e ∷ es) m n h =
    first_came clock e es m n (with_one clock m e.0 e.1) refl h (λ k rest. all_came clock es k n rest)

-- what stood there stands there still
pub stays : (clock : Stamp) (es : List (Path × NewNode)) (m n : Nodes) (q : Path) (x : Node) → Came clock m es n
    → get m q ≡ Some x → get n q ≡ Some x
stays clock [] m n q x came there = subst (λ k. get k q ≡ Some x) (nothing_came clock m n came) there
stays clock (e ∷ es) m n q x came there =
    stays clock es (insert m e.0 (made clock e.1)) n q x (others clock e es m n came)
    (elim (still_insert m e.0 q (made clock e.1) x there) [
      | inl here ↦ absurd
          (let taken : get m e.0 ≡ Some x = ap (get m) (sym here.0)
          ∙ there in let free = was_free clock e es m n came in cc)
      | inr kept ↦ kept
    ])

-- and what came in does
here : (clock : Stamp) (e : Path × NewNode) (es : List (Path × NewNode)) (m n : Nodes) → Came clock m (e ∷ es) n
    → get n e.0 ≡ Some (made clock e.1)
here clock e es m n came =
    stays clock es (insert m e.0 (made clock e.1)) n e.0 (made clock e.1) (others clock e es m n came)
    (here_insert m e.0 (made clock e.1))

-- a node is one of those that came in
abbrev pub Among : Stamp → List (Path × NewNode) → Path → Node → Type 0
Among clock [] q y = ⊥
Among clock (e ∷ es) q y = ((q ≡ e.0) × (made clock e.1 ≡ y)) ⊎ Among clock es q y

pub old_or_among : (clock : Stamp) (es : List (Path × NewNode)) (m n : Nodes) (q : Path) (y : Node)
    → Came clock m es n → get n q ≡ Some y
    → (get m q ≡ Some y) ⊎ Among clock es q y
old_or_among clock [] m n q y came there = inl (subst (λ k. get k q ≡ Some y) (sym (nothing_came clock m n came)) there)
old_or_among clock (e ∷ es) m n q y came there =
    elim (old_or_among clock es (insert m e.0 (made clock e.1)) n q y (others clock e es m n came) there) [
      | inl before ↦ elim
          (at_insert m e.0 q (made clock e.1) y before) [ inl same ↦ inr (inl same) | inr old ↦ inl old ]
      | inr later ↦ inr (inr later)
    ]

abbrev AreTexts : List (Path × NewNode) → Type 0
AreTexts [] = ⊤
AreTexts (e ∷ es) = IsText e.1.value.media × AreTexts es

text_among : (clock : Stamp) (es : List (Path × NewNode)) (q : Path) (y : Node) → AreTexts es → Among clock es q y
    → IsText y.value.media
text_among clock [] q y texts among = absurd among
text_among clock (e ∷ es) q y texts among = elim among [
  | inl here ↦ subst (λ (x : Node). IsText x.value.media) here.1 texts.0
  | inr later ↦ text_among clock es q y texts.1 later
]

-- ---- the update part

no_update_of : (m : Nodes) → IsDeviceTree m → update_node m ≡ None → HasNoUpdate m
no_update_of m device none = elim device.update [
  | inl without ↦ without
  | inr has ↦ absurd (let found = (update_is_found m has.0 has.1).0 in cc)
]

nothing : (o : Option Path) → is_some o ≡ false → o ≡ None
nothing None h = refl
nothing (Some x) h = absurd (cc)

module _ (clock : Stamp) (m n : Nodes) (p : Path) (device : IsDeviceTree m) (without : HasNoUpdate m)
    (came : Came clock m (update_part p) n) where
  abbrev update : NewNode
  update = new_node true interior_value true role.UpdateNode

  kept_leaf : (name : List ℕ) → IsDeviceLeaf m name → IsDeviceLeaf n name
  kept_leaf name l = record {
    node = l.node;
    stands = record {
      there = stays clock (update_part p) m n _ l.node came l.stands.there;
      kind = l.stands.kind;
      permanent = l.stands.permanent;
      role_is = l.stands.role_is;
    };
    format = l.format;
    media = l.media;
    short = l.short;
  }

  not_of_update : (x y : Node) → is_of_update x.role ≡ false → x ≡ y → is_of_update y.role ≡ true → ⊥
  not_of_update x y plain same is = let both = ap (λ (z : Node). is_of_update z.role) same in cc

  alone : (q : Path) (y : Node) → get n q ≡ Some y → is_of_update y.role ≡ true
      → (q ≡ p ++ codes
      "Update" ∷ []) ⊎ ((q ≡ p ++ codes "Update" ∷ codes "PkgData" ∷ []) ⊎ (q ≡ p ++ codes "State" ∷ []))
  alone q y there is = elim (old_or_among clock (update_part p) m n q y came there) [
    | inl old ↦ absurd (let plain = without q y old in cc)
    | inr (inl h) ↦ absurd (not_of_update _ y refl h.1 is)
    | inr (inr (inl h)) ↦ absurd (not_of_update _ y refl h.1 is)
    | inr (inr (inr (inl h))) ↦ absurd (not_of_update _ y refl h.1 is)
    | inr (inr (inr (inr (inl h)))) ↦ inl h.0
    | inr (inr (inr (inr (inr (inl h))))) ↦ inr (inl h.0)
    | inr (inr (inr (inr (inr (inr (inl h)))))) ↦ inr (inr h.0)
    | inr (inr (inr (inr (inr (inr (inr h)))))) ↦ absurd h
  ]

  has_update : HasUpdate n p
  has_update =
      let second = others clock _ _ m n came in
      let third = others clock _ _ _ n second in
      let at_update = others clock _ _ _ n third in
      let at_data = others clock _ _ _ n at_update in
      let at_state = others clock _ _ _ n at_data in record {
        update = made clock update;
        data_node = made clock (update_leaf (codes "bin") [] role.PkgData);
        state = made clock (update_leaf (codes "int") (codes "10") role.State);
        update_stands = record { there = here clock _ _ _ n at_update; kind = refl; permanent = refl; role_is = refl };
        data_stands = record { there = here clock _ _ _ n at_data; kind = refl; permanent = refl; role_is = refl };
        state_stands = record { there = here clock _ _ _ n at_state; kind = refl; permanent = refl; role_is = refl };
        state_is = refl;
        alone = alone;
      }

  updated : IsDeviceTree n
  updated = record {
    update = inr (p, has_update);
    texts = λ q y e. elim (old_or_among clock (update_part p) m n q y came e) [
      | inl old ↦ device.texts q y old
      | inr among ↦ text_among clock (update_part p) q y
          (no_type, (plain_type, (plain_type, (no_type, (plain_type, (plain_type, tt)))))) among
    ];
    dev_id = kept_leaf _ device.dev_id;
    man = kept_leaf _ device.man;
    model = kept_leaf _ device.model;
    dm_v = kept_leaf _ device.dm_v;
    lang = kept_leaf _ device.lang;
  }

pub updated_device : (clock : Stamp) (m : Nodes) (p : Path) (n : Nodes) → with_update clock m p ≡ Ok n
    → IsDeviceTree m → IsDeviceTree n
updated_device clock m p n e device =
    let new = passed (is_some (update_node m)) (with_all clock m (update_part p)) reason.Tree n e in
    updated clock m n p device (no_update_of m device (nothing (update_node m) new.0))
    (all_came clock (update_part p) m n new.1)
