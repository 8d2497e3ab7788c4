-- A tree with the root and what a device tells of itself is a device's.
use Rattle.std.proofs.Common.{codes, IsTrue, nat_lt}
use Rattle.std.specs.Str.{IsAscii}
use Rattle.std.proofs.lemmas.List.Sums.{AllPass-from_list_all}
use Rattle.std.proofs.lemmas.Str.{IsUtf8-from_ascii}
use Rattle.std.proofs.lemmas.Str.Ascii.{IsAscii-from_reads}
use Rattle.std.specs.FinMap.{empty, insert, get-empty}
use Rattle.dm_base.specs.Fields.{is_short}
use Rattle.dm_tree.specs.Nodes.{root_node}
use Rattle.dm_tree.specs.Devices.{device_path, device_node, device_leaf, bare_device, IsDeviceLeaf, IsText}
use Rattle.dm_tree.specs.Laws.{BareDeviceIsDevice}
use Rattle.dm_tree.proofs.Common.{◌≡◌, ℕ, true, false, List, [], ◌∷◌, length, None, Some, refl, sym, ◌∙◌, subst, inl}
use Rattle.dm_tree.proofs.Common.{inr, arith, list_all, nat_tests, get, get-insert, Entries, Node, Path, Nodes}
use Rattle.dm_tree.proofs.Common.{tree_order, is_of_update}
use Rattle.dm_tree.proofs.NodesKept.{at_insert}
use Rattle.dm_tree.proofs.Paths.{tree_total}

-- a node without a part in the update, whose Type is a text
abbrev IsPlainText : Node → Type 0
IsPlainText node = (is_of_update node.role ≡ false) × IsText node.value.media

abbrev AllPlainText : Nodes → Type 0
AllPlainText m = (q : Path) (node : Node) → get m q ≡ Some node → IsPlainText node

nothing_there : (q : Path) (node : Node) → get (empty {X = Node} {R = tree_order}) q ≡ Some node → IsPlainText node
nothing_there q node e = absurd (let none : None ≡ Some node = sym (get-empty tree_order q) ∙ e in cc)

one_more : (m : Nodes) (p : Path) (new : Node) → IsPlainText new → AllPlainText m → AllPlainText (insert m p new)
one_more m p new plain all q node e = elim (at_insert m p q new node e) [
  | inl here ↦ subst IsPlainText here.1 plain
  | inr there ↦ all q node there
]

ascii : (text : List ℕ) → list_all (λ b. nat_lt b 128) text ≡ true → IsAscii text
ascii text h = IsAscii-from_reads text (length text) (omega arith)
    (λ k l. grind (arith, nat_tests, AllPass-from_list_all (λ b. nat_lt b 128) text h k 0 l))

pub no_type : IsText []
no_type = (IsUtf8-from_ascii [] (ascii [] refl), refl)

pub plain_type : IsText (codes "text/plain")
plain_type = (IsUtf8-from_ascii (codes "text/plain") (ascii (codes "text/plain") refl), refl)

leaf_plain : (value : List ℕ) → IsPlainText (device_leaf value)
leaf_plain value = (refl, plain_type)

all_plain : (acl : Entries) (dev_id man model dm_v lang : List ℕ)
    → AllPlainText (bare_device acl dev_id man model dm_v lang)
all_plain acl dev_id man model dm_v lang =
    one_more _ _ _ (leaf_plain lang) (one_more _ _ _ (leaf_plain dm_v) (one_more _ _ _ (leaf_plain model)
    (one_more _ _ _ (leaf_plain man) (one_more _ _ _ (leaf_plain dev_id)
    (one_more _ (codes "DevInfo" ∷ []) device_node (refl, no_type)
    (one_more empty [] (root_node acl) (refl, no_type) nothing_there))))))

leaf : (m : Nodes) (name value : List ℕ) → get m (device_path name) ≡ Some (device_leaf value) → IsTrue (is_short value)
    → IsDeviceLeaf m name
leaf m name value there short = record {
  node = device_leaf value;
  stands = record { there = there; kind = refl; permanent = refl; role_is = refl };
  format = refl;
  media = refl;
  short = short;
}

pub bare_device_is_device : BareDeviceIsDevice
bare_device_is_device acl dev_id man model dm_v lang h_id h_man h_model h_dm_v h_lang = record {
  update = inl (λ q node e. (all_plain acl dev_id man model dm_v lang q node e).0);
  texts = λ q node e. (all_plain acl dev_id man model dm_v lang q node e).1;
  dev_id = leaf _ _ dev_id (simp (get-insert {X = Node} tree_total)) h_id;
  man = leaf _ _ man (simp (get-insert {X = Node} tree_total)) h_man;
  model = leaf _ _ model (simp (get-insert {X = Node} tree_total)) h_model;
  dm_v = leaf _ _ dm_v (simp (get-insert {X = Node} tree_total)) h_dm_v;
  lang = leaf _ _ lang (simp (get-insert {X = Node} tree_total)) h_lang;
}
