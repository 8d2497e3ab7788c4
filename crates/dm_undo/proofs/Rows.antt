-- What flips do to rows that are parked.
use Rattle.std.proofs.Common.{◌≡◌, ℕ, zero, suc, ◌<◌, true, false, List, sym, ◌∙◌, ap, arith}
use Rattle.std.proofs.lemmas.List.{get_or-set_same, get_or-set_other}
use Rattle.dm_tree.specs.declared.rows.Row.{Row}
use Rattle.dm_tree.specs.declared.rows.Change.{Change}
use Rattle.dm_tree.specs.declared.rows.Change.TheVariants as change
use Rattle.dm_tree.specs.Rows.{blank, row_at, IsTree, IsParkedTop}
use Rattle.dm_tree.specs.Undos.{row_of, flipped, Fits}
use Rattle.dm_tree.proofs.UndoFlips.{length-flipped}

other_row : (rows : List Row) (u : Change) (k : ℕ) → (row_of u ≡ k → ⊥) → row_at (flipped rows u) k ≡ row_at rows k
other_row rows (change.Value j value verno stamp) k d = get_or-set_other rows j k _ blank (λ e. d (sym e))
other_row rows (change.Bytes j bytes verno stamp) k d = get_or-set_other rows j k _ blank (λ e. d (sym e))
other_row rows (change.Acl j acl verno stamp) k d = get_or-set_other rows j k _ blank (λ e. d (sym e))
other_row rows (change.Title j title verno stamp) k d = get_or-set_other rows j k _ blank (λ e. d (sym e))
other_row rows (change.Name j name verno stamp) k d = get_or-set_other rows j k _ blank (λ e. d (sym e))
other_row rows (change.TakeOut j) k d = get_or-set_other rows j k _ blank (λ e. d (sym e))
other_row rows (change.PutIn j) k d = get_or-set_other rows j k _ blank (λ e. d (sym e))

pub parked_flipped : (rows : List Row) (u : Change) (k : ℕ) → (row_of u ≡ k → ⊥) → IsParkedTop rows k
    → IsParkedTop (flipped rows u) k
parked_flipped rows u k d p = record {
  below_root = p.below_root;
  inside = omega (arith, p.inside, length-flipped rows u);
  out = ap (λ (r : Row). r.attached) (other_row rows u k d) ∙ p.out;
  held = ap (λ (r : Row). r.given_up) (other_row rows u k d) ∙ p.held;
}

no_root : (rows : List Row) → IsTree rows → (k : ℕ) → (row_at rows k).attached ≡ true → 0 < k
no_root rows tree zero at = absurd (let out = tree.shape.fixed in cc)
no_root rows tree (suc k) at = omega arith

-- a subtree that is taken out is parked then
pub parked_out : (rows : List Row) (k : ℕ) → IsTree rows → Fits rows (change.TakeOut k)
    → IsParkedTop (flipped rows (change.TakeOut k)) k
parked_out rows k tree fits =
    let here = get_or-set_same rows k (record (row_at rows k) { attached = false }) blank fits.inside in
    record {
      below_root = no_root rows tree k fits.ready;
      inside = omega (arith, fits.inside, length-flipped rows (change.TakeOut k));
      out = ap (λ (r : Row). r.attached) here;
      held = ap (λ (r : Row). r.given_up) here ∙ (tree.each k fits.inside).attached fits.ready;
    }
