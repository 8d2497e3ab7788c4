-- What keeps its permanent nodes alike keeps the update part.
use Rattle.dm_tree.specs.Devices.{IsPermanentAt, HasUpdate, HasNoUpdate, IsUpdateInOrder, StaysForUpdate, KeepsUpdate}
use Rattle.dm_tree.specs.Laws.{ChangedKeepsUpdate, AddedKeepsUpdate, PrunedKeepsUpdate, RenamedKeepsUpdate}
use Rattle.dm_tree.proofs.Common.{◌≡◌, Bool, false, refl, sym, ◌∙◌, ap, inl, inr, false_from_ne_true, get, Node, Role}
use Rattle.dm_tree.proofs.Common.{Path, Nodes, is_of_update}
use Rattle.dm_tree.proofs.NodesKept.{Was, Keeps, some_node, keeps_changed, keeps_added, keeps_pruned, keeps_renamed}

module _ (alike : Node → Node → Type 0) (stays : (x y : Node) → alike x y → StaysForUpdate x y) (m n : Nodes)
    (keeps : Keeps alike m n) where
  pub stands : (q : Path) (interior : Bool) (r : Role) (x : Node) → IsPermanentAt m q interior r x
      → (y : Node) × IsPermanentAt n q interior r y × alike x y
  stands q interior r x s =
      let still = keeps.still q x s.there s.permanent in
      let stay = stays x still.new still.alike in (
        still.new,
        record {
          there = still.there;
          kind = stay.interior ∙ s.kind;
          permanent = stay.permanent s.permanent;
          role_is = stay.role ∙ s.role_is;
        },
        still.alike,
      )

  moved_nowhere : {r : Path} {interior : Bool} {k : Role} (q : Path) (y : Node) (w : Was m q y) (x : Node)
      → IsPermanentAt m r interior k x → w.at ≡ r → q ≡ r
  moved_nowhere q y w x s e =
      let same : x ≡ w.old = some_node x w.old (sym s.there ∙ ap (get m) (sym e) ∙ w.there) in
      sym (w.unmoved (rw same at s.permanent)) ∙ e

  pub has_update : (p : Path) → HasUpdate m p → HasUpdate n p
  has_update p has =
      let update = stands _ _ _ has.update has.update_stands in
      let data_node = stands _ _ _ has.data_node has.data_stands in
      let state = stands _ _ _ has.state has.state_stands in
      record {
        update = update.0;
        data_node = data_node.0;
        state = state.0;
        update_stands = update.1;
        data_stands = data_node.1;
        state_stands = state.1;
        state_is = elim ((stays has.state state.0 state.2).state has.state_stands.role_is) [
          | inl same ↦ rw same has.state_is
          | inr may ↦ may
        ];
        alone = λ q y there role.
            let w = keeps.was q y there role in
            elim (has.alone w.at w.old w.there (ap is_of_update (sym w.role) ∙ role)) [
              | inl h ↦ inl (moved_nowhere q y w has.update has.update_stands h)
              | inr h ↦ inr (elim h [
                | inl g ↦ inl (moved_nowhere q y w has.data_node has.data_stands g)
                | inr g ↦ inr (moved_nowhere q y w has.state has.state_stands g)
              ])
            ];
      }

  pub has_no_update : HasNoUpdate m → HasNoUpdate n
  has_no_update without q y there = false_from_ne_true _ (λ e.
      let w = keeps.was q y there e in
      let other : is_of_update w.old.role ≡ false = without w.at w.old w.there in
      let role : y.role ≡ w.old.role = w.role in
      cc)

  pub in_order : IsUpdateInOrder m → IsUpdateInOrder n
  in_order (inl without) = inl (has_no_update without)
  in_order (inr has) = inr (has.0, has_update has.0 has.1)

-- ---- each edit

itself : (x : Node) → StaysForUpdate x x
itself x = record { interior = refl; permanent = λ h. h; role = refl; state = λ _. inl refl }

keeps_update : (m n : Nodes) → Keeps StaysForUpdate m n → KeepsUpdate m n
keeps_update m n keeps = record {
  in_order = in_order StaysForUpdate (λ x y h. h) m n keeps;
  update = has_update StaysForUpdate (λ x y h. h) m n keeps;
  no_update = has_no_update StaysForUpdate (λ x y h. h) m n keeps;
}

pub changed_keeps_update : ChangedKeepsUpdate
changed_keeps_update m p old new there stay =
    keeps_update m _ (keeps_changed StaysForUpdate itself m p old new there stay stay.role)

pub added_keeps_update : AddedKeepsUpdate
added_keeps_update m p new free role_is =
    keeps_update m _ (keeps_added StaysForUpdate itself m p new free role_is)

pub pruned_keeps_update : PrunedKeepsUpdate
pruned_keeps_update m p node formed there other =
    keeps_update m _ (keeps_pruned StaysForUpdate itself m p node formed there other)

pub renamed_keeps_update : RenamedKeepsUpdate
renamed_keeps_update m p name old new formed there other free role_is =
    keeps_update m _ (keeps_renamed m p name old new formed there other free StaysForUpdate itself role_is)
