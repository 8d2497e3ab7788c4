-- The index of children, when a row is given up, is renamed or has another node, and what a flip leaves of the sizes.
use Rattle.dm_tree.specs.declared.rows.Change.TheVariants as change
use Rattle.dm_tree.proofs.Common.{◌≡◌, ℕ, suc, ◌+◌, ◌-◌, ◌<◌, ◌^◌, true, false, List}
use Rattle.dm_tree.proofs.Common.{length, get_or, refl, sym, ◌∙◌, ap, subst, arith}
use Rattle.dm_tree.proofs.Common.{set, length-set, get_or-set_same}
use Rattle.dm_tree.proofs.Common.{get_or_default, Node, Row, Change, blank, row_at, node_of, IsShaped, IsParkedTop}
use Rattle.dm_tree.proofs.Common.{attached_as, with_node, with_name, emptied, without_content, ChildList}
use Rattle.dm_tree.proofs.Common.{children_at, parked_below, IsChildList, IsIndex, IsPut, CanBeTakenOut}
use Rattle.dm_tree.proofs.Common.{IsSized, Fits, row_of, flipped, set-set}
use Rattle.dm_tree.proofs.RowCounts.{LieAlike, sized-alike, alike-with_node, alike-with_name}
use Rattle.dm_tree.proofs.RowPaths.{attached_row}
use Rattle.dm_tree.proofs.NodeEdits.{node_alike, shaped_alike}
use Rattle.dm_tree.proofs.IndexLinks.{parked-few, one_fewer, is_parked, isnt_parked}
use Rattle.dm_tree.proofs.IndexLinks.{StandsBelow, neither_below}
use Rattle.dm_tree.proofs.IndexLinks.{children_anew, index_anew, index_kept, put_anew}

-- there is a number for one more
pub few_parked : (rows : List Row) → IsShaped rows → (k : ℕ) (c : ChildList) → IsChildList rows k c
    → c.parked + 1 < 2 ^ 32
few_parked rows shape k c h = omega (arith, h.parked, parked-few rows k (length rows) shape.rooted, shape.few)

-- ---- a row is given up

module _ (rows : List Row) (index : List ChildList) (id : ℕ) (top : IsParkedTop rows id) (shape : IsShaped rows)
    (h : IsIndex rows index) where
  abbrev parent : ℕ
  parent = (row_at rows id).parent

  abbrev let_go : Row
  let_go = record (row_at rows id) { given_up = true; node = emptied (node_of rows id) }

  list : IsChildList rows parent (children_at index parent)
  list = h.each parent (shape.inside id top.inside)

  fewer : parked_below rows parent (length rows)
      ≡ suc (parked_below (set rows id let_go) parent (length (set rows id let_go)))
  fewer =
      one_fewer rows id let_go top.inside parent (is_parked rows parent id top.below_root top.out top.held refl)
      (isnt_parked parent id let_go (λ _ up _. absurd (cc)))

  pub forgotten_some : 0 < (children_at index parent).parked
  forgotten_some = omega (arith, list.parked, fewer)

  pub forgotten_index : IsIndex (without_content rows id)
      (set index parent (record (children_at index parent) { parked = (children_at index parent).parked - 1 }))
  forgotten_index =
      index_anew rows id let_go top.inside refl index h (shape.inside id top.inside) _
      (children_anew rows id let_go top.inside parent (neither_below parent (row_at rows id) let_go gone gone)
      (children_at index parent) list ((children_at index parent).parked - 1) (children_at index parent).room
      (omega (arith, list.parked, fewer)) (omega (arith, list.room)))
    where
      gone : StandsBelow parent (row_at rows id) → ⊥
      gone is = let at = is.0 in let out = top.out in cc

-- ---- other names and nodes

pub index-with_node : (rows : List Row) (k : ℕ) (n : Node) → k < length rows → (index : List ChildList)
    → IsIndex rows index → IsIndex (with_node rows k n) index
index-with_node rows k n l = index_kept rows k _ l refl refl refl (λ _. refl)

-- a row that isn't attached stands in no list, and may bear any name
pub index-with_name : (rows : List Row) (k : ℕ) (name : List ℕ) (n : Node) → k < length rows
    → (row_at rows k).attached ≡ false → (index : List ChildList) → IsIndex rows index
    → IsIndex (with_name rows k name n) index
index-with_name rows k name n l out = index_kept rows k _ l refl refl refl (λ at. absurd (cc))

-- only its node and depth may have changed
pub index-set : (rows : List Row) (k : ℕ) (r was : Row) → k < length rows → was ≡ get_or rows k was
    → r.parent ≡ was.parent → r.attached ≡ was.attached → r.given_up ≡ was.given_up → r.name ≡ was.name
    → (kept : List ChildList) → IsIndex rows kept → IsIndex (set rows k r) kept
index-set rows k r was l e p a g n =
    let here : was ≡ row_at rows k = e ∙ get_or_default rows k was blank l in
    index_kept rows k r l (rw here at p) (rw here at a) (rw here at g) (λ _. rw here at n)

-- ---- taken out, renamed and put in again

module _ (rows out renamed : List Row) (k : ℕ) (name : List ℕ) (taken : CanBeTakenOut rows k)
    (first : out ≡ attached_as rows k false) (second : renamed ≡ with_name out k name (node_of out k)) where
  abbrev r : Row
  r = record (row_at rows k) { attached = false; name = name }

  renamed_is : renamed ≡ set rows k r
  renamed_is =
      second ∙ ap (λ rs. with_name rs k name (node_of rs k)) first
      ∙ ap (λ (s : Row). set (attached_as rows k false) k (record s { name = name }))
      (get_or-set_same rows k _ blank taken.inside)
      ∙ set-set rows k _ r

  back : set rows k (record r { attached = true }) ≡ with_name rows k name (node_of rows k)
  back = ap (λ b. set rows k (record (row_at rows k) { attached = b; name = name })) (sym taken.attached)

  pub back_in : attached_as renamed k true ≡ with_name rows k name (node_of rows k)
  back_in = rw (renamed_is, get_or-set_same rows k r blank taken.inside, set-set rows k r) back

  pub put_again : IsShaped (with_name rows k name (node_of rows k)) → IsPut renamed k
  put_again shape =
      rw renamed_is
      (put_anew rows k r taken.inside taken.below_root refl taken.held (subst IsShaped (sym back) shape))

  pub renamed_index : (kept : List ChildList) → IsIndex out kept → IsIndex renamed kept
  renamed_index kept h =
      rw second
      (index-with_name out k name (node_of out k) (rw (first, length-set rows k) taken.inside)
      (rw (first, get_or-set_same rows k _ blank taken.inside) refl) kept h)

-- ---- a name was written, and now a node is

pub named_node : (rows rows1 : List Row) (k : ℕ) (name : List ℕ) (f : Node → Node) → k < length rows
    → rows1 ≡ with_name rows k name (node_of rows k) → (was : Row) → was ≡ get_or rows1 k was
    → set rows1 k (record was { node = f was.node }) ≡ with_name rows k name (f (node_of rows k))
named_node rows rows1 k name f l e was is =
    let here : was ≡ record (row_at rows k) { name = name; node = node_of rows k } =
    is ∙ ap (λ rs. get_or rs k was) e ∙ get_or-set_same rows k _ was l in
    rw (here, e) (set-set rows k _ _)

-- rows are shaped whatever their nodes
pub shaped-renode : (rows : List Row) (k : ℕ) (name : List ℕ) (n m : Node) → k < length rows
    → IsShaped (with_name rows k name n) → IsShaped (with_name rows k name m)
shaped-renode rows k name n m l h =
    let r : Row = record (row_at rows k) { name = name; node = n } in
    let again : with_node (with_name rows k name n) k m ≡ with_name rows k name m =
    rw (get_or-set_same rows k r blank l) (set-set rows k r _) in
    subst IsShaped again
    (shaped_alike (with_name rows k name n) (with_node (with_name rows k name n) k m)
    (node_alike (with_name rows k name n) k m (omega (arith, l, length-set rows k r))) h)

-- ---- an Undo is flipped

-- what an Undo that fits puts in
pub may_put : (rows : List Row) (k : ℕ) → Fits rows (change.PutIn k) → IsPut rows k
may_put rows k fits =
    let r : Row = record (row_at rows k) { attached = true } in
    let here : row_at (attached_as rows k true) k ≡ r = get_or-set_same rows k r blank fits.inside in
    let at = ap (λ (s : Row). s.attached) here in
    let place = attached_row (attached_as rows k true) fits.sound.shape k at in
    record {
      inside = fits.inside;
      below_root = place.0;
      out = fits.ready;
      held = ap (λ (s : Row). s.given_up) (sym here) ∙ (fits.sound.each k place.1).attached at;
      shaped = fits.sound.shape;
    }

-- the rows lie as they did where a flip changes a node or a name
lie-flipped : (rows : List Row) (c : Change) → row_of c < length rows → ((k : ℕ) → c ≡ change.TakeOut k → ⊥)
    → ((k : ℕ) → c ≡ change.PutIn k → ⊥) → LieAlike rows (flipped rows c)
lie-flipped rows (change.Value k value verno stamp) l out into = alike-with_node rows k _ l
lie-flipped rows (change.Bytes k bytes verno stamp) l out into = alike-with_node rows k _ l
lie-flipped rows (change.Acl k acl verno stamp) l out into = alike-with_node rows k _ l
lie-flipped rows (change.Title k title verno stamp) l out into = alike-with_node rows k _ l
lie-flipped rows (change.Name k name verno stamp) l out into = alike-with_name rows k name _ l
lie-flipped rows (change.TakeOut k) l out into = absurd (out k refl)
lie-flipped rows (change.PutIn k) l out into = absurd (into k refl)

-- so the sizes stay
pub sized-flipped : (rows : List Row) (c : Change) → row_of c < length rows → ((k : ℕ) → c ≡ change.TakeOut k → ⊥)
    → ((k : ℕ) → c ≡ change.PutIn k → ⊥)
    → (sizes : List ℕ) → IsSized (flipped rows c) sizes → IsSized rows sizes
sized-flipped rows c l out into sizes =
    let same = lie-flipped rows c l out into in
    sized-alike (flipped rows c) rows
    (record {
      parent = λ k. sym (same.parent k);
      depth = λ k. sym (same.depth k);
      attached = λ k. sym (same.attached k);
      long = sym same.long;
    }) sizes
