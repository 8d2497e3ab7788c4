-- A row that was placed out of the tree is put in.
use Rattle.std.proofs.lemmas.List.{set_at}
use Rattle.dm_tree.specs.declared.rows.Change.TheVariants as change
use Rattle.dm_tree.proofs.Common.{◌≡◌, ℕ, ◌<◌, true, false, List, [], length, ◌∙◌, ap, inl, inr, get_or-set_same}
use Rattle.dm_tree.proofs.Common.{set-set, get_or-append_seam, Row, blank, row_at, IsTree, attached_as, IsPut, IsPlaced}
use Rattle.dm_tree.proofs.Common.{refl}
use Rattle.dm_tree.proofs.UndoFlips.{flipped_twice}
use Rattle.dm_tree.proofs.NewRows.{IsNewAt, new_at}

-- it stands where it was placed
pub put_in_placed : (rows now : List Row) (id : ℕ) (r : Row) → IsPlaced rows now id r
    → IsPlaced rows (attached_as now id true) id (record r { attached = true })
put_in_placed rows now id r (inl (e, (room, f))) =
    let last = set_at rows r [] (record r { attached = true }) (length rows) refl in
    inl (e, (room, rw (f, e, get_or-append_seam rows r [] blank) last))
put_in_placed rows now id r (inr (free, f)) =
    let l = free.inside in
    inr (free, rw (f, get_or-set_same) (set-set rows id r (record r { attached = true })))

module _ (rows now : List Row) (tree : IsTree rows) (id : ℕ) (r : Row) (out : r.attached ≡ false)
    (held : r.given_up ≡ false) (inside : r.parent < length rows) (placed : IsPlaced rows now id r) where
  new : IsNewAt rows now id r
  new = new_at rows now tree id r placed inside

  is_out : (row_at now id).attached ≡ false
  is_out = ap (λ (s : Row). s.attached) new.here ∙ out

  pub may_put_placed : IsTree (attached_as now id true) → IsPut now id
  may_put_placed after = record {
    inside = new.inside;
    below_root = new.below_root;
    out = is_out;
    held = ap (λ (s : Row). s.given_up) new.here ∙ held;
    shaped = after.shape;
  }

  -- taken out again, it is as it was
  pub out_again : attached_as (attached_as now id true) id false ≡ now
  out_again = flipped_twice now (change.PutIn id) new.inside is_out
