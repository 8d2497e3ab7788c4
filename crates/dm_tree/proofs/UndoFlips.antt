-- A flip, and a flip of what it turned the Undo into.
use Rattle.dm_tree.specs.declared.rows.Change.TheVariants as change
use Rattle.dm_tree.proofs.Common.{◌≡◌, ◌∙◌, ap, Bool, ℕ, ◌<◌, false, true, List, length, refl, sym, subst, arith, set}
use Rattle.dm_tree.proofs.Common.{length-set, get_or-set_same, Row, Change, blank, row_at, node_of, IsTree, IsParkedTop}
use Rattle.dm_tree.proofs.Common.{row_of, flipped, turned, IsReadyChange, Fits, IsHeld, TakesBack, attached_as}
use Rattle.dm_tree.proofs.Common.{set-get_or, set-set}
use Rattle.dm_tree.proofs.RowPaths.{attached_row}

-- a row that is set to be attached as it is stays as it is
set_attached : (rows : List Row) (k : ℕ) (b : Bool) → (row_at rows k).attached ≡ b
    → set rows k (record (row_at rows k) { attached = b }) ≡ rows
set_attached rows k b e =
    ap (λ a. set rows k (record (row_at rows k) { attached = a })) (sym e) ∙ set-get_or rows k blank

pub flipped_twice : (rows : List Row) (u : Change) → row_of u < length rows → IsReadyChange rows u
    → flipped (flipped rows u) (turned rows u) ≡ rows
flipped_twice rows (change.TakeOut k) l r = rw (get_or-set_same, set-set) (set_attached rows k true r)
flipped_twice rows (change.PutIn k) l r = rw (get_or-set_same, set-set) (set_attached rows k false r)
flipped_twice rows u l r = rw (get_or-set_same, set-set, node_of) (set-get_or rows (row_of u) blank)

pub turned_twice : (rows : List Row) (u : Change) → row_of u < length rows → turned (flipped rows u) (turned rows u) ≡ u
turned_twice rows (change.TakeOut k) l = refl
turned_twice rows (change.PutIn k) l = refl
turned_twice rows u l = simp (get_or-set_same, node_of)

pub row_turned : (rows : List Row) (u : Change) → row_of (turned rows u) ≡ row_of u
row_turned rows (change.PutIn k) = refl
row_turned rows u = refl

pub length-flipped : (rows : List Row) (u : Change) → length (flipped rows u) ≡ length rows
length-flipped rows (change.PutIn k) = length-set rows k _
length-flipped rows u = length-set rows (row_of u) _

ready_again : (rows : List Row) (u : Change) → row_of u < length rows → IsReadyChange (flipped rows u) (turned rows u)
ready_again rows (change.TakeOut k) l = rw get_or-set_same refl
ready_again rows (change.PutIn k) l = rw get_or-set_same refl
ready_again rows u l = tt

-- what a flip turned the Undo into takes the flip back
pub again : (rows : List Row) (u : Change) → IsTree rows → Fits rows u → TakesBack (turned rows u) rows (flipped rows u)
again rows u tree fits =
    let back = flipped_twice rows u fits.inside fits.ready in
    record {
      fits = record {
        inside = omega (arith, fits.inside, row_turned rows u, length-flipped rows u);
        ready = ready_again rows u fits.inside;
        sound = subst IsTree (sym back) tree;
      };
      rows = back;
    }

-- ---- what may be discarded

-- the top of what is taken out is parked then
pub parked-taken_out : (rows : List Row) (k : ℕ) → IsTree rows → k < length rows → (row_at rows k).attached ≡ true
    → IsParkedTop (attached_as rows k false) k
parked-taken_out rows k tree l at = record {
  below_root = (attached_row rows tree.shape k at).0;
  inside = rw length-set l;
  out = rw get_or-set_same refl;
  held = rw get_or-set_same ((tree.each k l).attached at);
}

-- what a flip has turned an Undo into holds what was taken out
pub held_then : (rows : List Row) (u : Change) → IsTree rows → Fits rows u → IsHeld (flipped rows u) (turned rows u)
held_then rows (change.TakeOut k) tree fits = parked-taken_out rows k tree fits.inside fits.ready
held_then rows u tree fits = tt

-- ---- the same row in other rows

-- an Undo turns alike in rows that are alike where it speaks of them
pub turned-same : (a b : List Row) (u : Change) → row_at b (row_of u) ≡ row_at a (row_of u) → turned b u ≡ turned a u
turned-same a b (change.TakeOut k) e = refl
turned-same a b (change.PutIn k) e = refl
turned-same a b u e = rw (e, node_of) refl

-- a top stays parked where its row stays as it is
pub parked_top-same : (a b : List Row) (j : ℕ) → j < length b → row_at b j ≡ row_at a j → IsParkedTop a j
    → IsParkedTop b j
parked_top-same a b j inside same p =
    record { below_root = p.below_root; inside = inside; out = rw same p.out; held = rw same p.held }
