-- The older entries are given up.
use Rattle.std.proofs.Common.{◌≡◌, ℕ, zero, suc, ◌≤◌, List, [], ◌∷◌, ◌++◌, length, take, refl, sym, ◌∙◌, ap, subst}
use Rattle.std.proofs.Common.{arith, append_assoc}
use Rattle.dm_tree.specs.declared.rows.Row.{Row}
use Rattle.dm_tree.specs.declared.rows.Change.{Change}
use Rattle.dm_tree.specs.declared.rows.Change.TheVariants as change
use Rattle.dm_tree.specs.Undos.{flipped}
use Rattle.dm_undo.specs.declared.entries.Entry.{Entry}
use Rattle.dm_undo.specs.declared.entries.Entry.TheVariants.{Record, Flipped}
use Rattle.dm_undo.specs.Entries.{AreHeldOnce, StaysWithin}
use Rattle.dm_undo.specs.Trees.{maps_of, flipped_forward, newest_first}
use Rattle.dm_undo.specs.Sound.{FitForward, FitsEntry, BeginsRow, IsSoundStage, AreSoundStages}
use Rattle.dm_undo.proofs.Shapes.{redone_append, redone_alike, alike_long, within_alike, held_before, records_append}
use Rattle.dm_tree.specs.Reuse.{IsUsed, IsClear}
use Rattle.dm_undo.proofs.Alikes.{each_first}
use Rattle.dm_undo.proofs.Rolls.{sound_tree}

once_before : (new old : List Entry) → AreHeldOnce (new ++ old) → AreHeldOnce new
once_before [] old h = tt
once_before (e ∷ new) old h = (λ k f i. h.0 k f (held_before k new old i), once_before new old h.1)

pub holds_before : (new old : List Entry) (rows : List Row) → IsSoundStage (new ++ old) rows → IsSoundStage new rows
holds_before new old rows h = record {
  tree = h.tree;
  parked = λ k i. h.parked k (held_before k new old i);
  once = once_before new old h.once;
  apart = λ a b e w k i. h.apart a (b ++ old) (ap (λ l. l ++ old) e ∙ append_assoc a b old) w k (held_before k b old i);
  used = each_first (IsUsed rows) new old h.used;
}

begins_before : (rows : List Row) (u : Change) (new old : List Entry) → BeginsRow rows u (new ++ old)
    → BeginsRow rows u new
begins_before rows (change.Value k value verno stamp) new old h = tt
begins_before rows (change.Bytes k bytes verno stamp) new old h = tt
begins_before rows (change.Acl k acl verno stamp) new old h = tt
begins_before rows (change.Title k title verno stamp) new old h = tt
begins_before rows (change.Name k name verno stamp) new old h = tt
begins_before rows (change.PutIn k) new old h = tt
begins_before rows (change.TakeOut k) new old h = each_first (IsClear rows k) new old h

fit_before : (c : ℕ) (new old : List Entry) (rows : List Row) → c ≤ length new → FitForward c (new ++ old) rows
    → FitForward c new rows
fit_before zero new old rows l h = tt
fit_before (suc c) [] old rows l h = tt
fit_before (suc c) (e ∷ new) old rows l h = (
  fit_before c new old rows (omega (arith, l)) h.0,
  subst (FitsEntry e)
      (redone_append c new old rows (omega (arith, l))).1 h.1,
)

take-first : (n m : ℕ) (es : List Entry) (rows : List Row) → take (suc zero) (newest_first n es rows) ≡ maps_of rows
    ∷ []
take-first zero m es rows = refl
take-first (suc n) m [] rows = refl
take-first (suc n) m (e ∷ es) rows = refl

pub kept_sound : (m n : ℕ) (new old : List Entry) (rows : List Row) → length new ≡ m → m ≤ n → StaysWithin new
    → AreSoundStages n (new ++ old) rows
    → AreSoundStages m new rows × (newest_first m new rows ≡ take (suc m) (newest_first n (new ++ old) rows))
kept_sound zero n [] old rows l h w s = (sound_tree n old rows s, sym (take-first n 0 old rows))
kept_sound zero n (e ∷ new) old rows l h w s = absurd (omega (arith, l))
kept_sound (suc m) n [] old rows l h w s = absurd (omega (arith, l))
kept_sound (suc m) zero (e ∷ new) old rows l h w s = absurd (omega (arith, h))
kept_sound (suc m) (suc n) (Record u ∷ new) old rows l h w s =
    let r = kept_sound m n new old (flipped rows u) (omega (arith, l)) (omega (arith, h)) w s.1.1 in (
      (holds_before (Record u ∷ new) old rows s.0, ((s.1.0.0, begins_before rows u new old s.1.0.1), r.0)),
      ap (λ x. maps_of rows ∷ x) r.1,
    )
kept_sound (suc m) (suc n) (Flipped c ∷ new) old rows l h w s =
    let both = redone_append c new old rows w.0 in
    let a = flipped_forward c new rows in
    let alike = redone_alike c new rows in
    let rest : AreSoundStages n (a.entries ++ old) a.rows = subst (λ r. AreSoundStages n (a.entries ++ old) r) both.1
    (subst (λ es. AreSoundStages n es (flipped_forward c (new ++ old) rows).rows) both.0 s.1.1) in
    let r = kept_sound m n a.entries old a.rows (omega (arith, l, alike_long new a.entries alike)) (omega (arith, h))
    (within_alike new a.entries alike w.1) rest in (
      (
        holds_before (Flipped c ∷ new) old rows s.0,
        ((records_append c new old w.0 s.1.0.0, fit_before c new old rows w.0 s.1.0.1), r.0),
      ),
      ap (λ x. maps_of rows ∷ x) r.1
          ∙ ap (λ es. maps_of rows ∷ take (suc m) (newest_first n es a.rows)) (sym both.0)
          ∙ ap (λ x. maps_of rows ∷ take (suc m) (newest_first n (flipped_forward c (new ++ old) rows).entries x))
          (sym both.1),
    )
