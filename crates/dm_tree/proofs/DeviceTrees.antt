-- Edits keep the parts of a device's tree.
use Rattle.std.specs.FinMap.{insert}
use Rattle.dm_tree.specs.declared.nodes.Value.{Value}
use Rattle.dm_tree.specs.Devices.{device_path, value_at, IsDeviceLeaf, IsDeviceTree, IsText, StaysAlike, StaysForUpdate}
use Rattle.dm_tree.specs.Devices.{KeepsDevice}
use Rattle.dm_tree.specs.Laws.{ChangedKeepsDevice, AddedKeepsDevice, PrunedKeepsDevice, RenamedKeepsDevice}
use Rattle.dm_tree.proofs.Common.{◌≡◌, ℕ, List, [], ◌∷◌, ◌++◌, Some, refl, sym, subst, inl, inr, get, Node, Path, Nodes}
use Rattle.dm_tree.proofs.Common.{above, pruned, rekeyed, renamed}
use Rattle.dm_tree.proofs.MapKeys.{moved_from}
use Rattle.dm_tree.proofs.NodesKept.{Keeps, at_insert, was_there, keeps_changed, keeps_added, keeps_pruned}
use Rattle.dm_tree.proofs.NodesKept.{keeps_renamed}
use Rattle.dm_tree.proofs.UpdateParts.{stands, in_order, has_update, has_no_update}

itself : (x : Node) → StaysAlike x x
itself x = record { interior = refl; permanent = λ h. h; role = refl; value = inl refl }

stays : (x y : Node) → StaysAlike x y → StaysForUpdate x y
stays x y alike = record {
  interior = alike.interior;
  permanent = alike.permanent;
  role = alike.role;
  state = λ is_state. elim alike.value [ inl e ↦ inl e | inr may ↦ inr (may.state is_state) ];
}

-- the Types of a map are texts
abbrev AreTexts : Nodes → Type 0
AreTexts n = (q : Path) (y : Node) → get n q ≡ Some y → IsText y.value.media

module _ (m n : Nodes) (device : IsDeviceTree m) (keeps : Keeps StaysAlike m n) (texts : AreTexts n) where
  leaf : (name : List ℕ) → IsDeviceLeaf m name
      → IsDeviceLeaf n name × (value_at n (device_path name) ≡ value_at m (device_path name))
  leaf name l =
      let s = stands StaysAlike stays m n keeps _ _ _ l.node l.stands in
      let is : s.0.value ≡ l.node.value =
      elim s.2.value [ inl e ↦ e | inr may ↦ absurd (may.written l.stands.role_is) ] in (
        record { node = s.0; stands = s.1; format = rw is l.format; media = rw is l.media; short = rw is l.short },
        rw (s.1.there, l.stands.there, is) refl,
      )

  keeps_device : KeepsDevice m n
  keeps_device = record {
    tree = record {
      update = in_order StaysAlike stays m n keeps device.update;
      texts = texts;
      dev_id = (leaf _ device.dev_id).0;
      man = (leaf _ device.man).0;
      model = (leaf _ device.model).0;
      dm_v = (leaf _ device.dm_v).0;
      lang = (leaf _ device.lang).0;
    };
    values = rw (
      (leaf _ device.dev_id).1,
      (leaf _ device.man).1,
      (leaf _ device.model).1,
      (leaf _ device.dm_v).1,
      (leaf _ device.lang).1,
    ) refl;
    id = (leaf _ device.dev_id).1;
    update = has_update StaysAlike stays m n keeps;
    no_update = has_no_update StaysAlike stays m n keeps;
  }

-- ---- each edit

alike_text : (m : Nodes) → AreTexts m → (p : Path) (old new : Node) → get m p ≡ Some old → StaysAlike old new
    → IsText new.value.media
alike_text m texts p old new there alike = elim alike.value [
  | inl same ↦ subst (λ (v : Value). IsText v.media) (sym same) (texts p old there)
  | inr may ↦ may.media
]

texts_insert : (m : Nodes) → AreTexts m → (p : Path) (new : Node) → IsText new.value.media → AreTexts (insert m p new)
texts_insert m texts p new text q y e = elim (at_insert m p q new y e) [
  | inl h ↦ subst (λ (x : Node). IsText x.value.media) h.1 text
  | inr h ↦ texts q y h
]

pub changed_keeps_device : ChangedKeepsDevice
changed_keeps_device m p old new device there alike =
    keeps_device m (insert m p new) device (keeps_changed StaysAlike itself m p old new there alike alike.role)
    (texts_insert m device.texts p new (alike_text m device.texts p old new there alike))

pub added_keeps_device : AddedKeepsDevice
added_keeps_device m p new device free role_is text =
    keeps_device m (insert m p new) device (keeps_added StaysAlike itself m p new free role_is)
    (texts_insert m device.texts p new text)

pub pruned_keeps_device : PrunedKeepsDevice
pruned_keeps_device m p node formed device there other =
    keeps_device m (pruned m p) device (keeps_pruned StaysAlike itself m p node formed there other)
    (λ q y e. device.texts q y (was_there m p q y e))

pub renamed_keeps_device : RenamedKeepsDevice
renamed_keeps_device m p name old new formed device there other free alike =
    keeps_device m _ device (keeps_renamed m p name old new formed there other free StaysAlike itself alike.role)
    (texts_insert (renamed m p name) (λ q y e. let from = moved_from (rekeyed p name) m q y e in
    device.texts from.0 y from.1) (above p ++ name ∷ []) new (alike_text m device.texts p old new there alike))
