-- Steps that note their edits.
use Rattle.std.proofs.Common.{◌≡◌, ℕ, zero, suc, ◌+◌, ◌-◌, ◌≤◌, List, [], ◌∷◌, ◌++◌, length, take}
use Rattle.std.proofs.Common.{sym, ◌∙◌, ap, subst, arith, append_assoc}
use Rattle.std.proofs.lemmas.List.{append-nil, length-append}
use Rattle.dm_tree.specs.declared.rows.Row.{Row}
use Rattle.dm_tree.specs.declared.rows.Change.{Change}
use Rattle.dm_tree.specs.Notes.{TakesEditBack}
use Rattle.dm_undo.specs.declared.entries.Entry.{Entry}
use Rattle.dm_undo.specs.declared.entries.Entry.TheVariants.{Record, Flipped}
use Rattle.dm_undo.specs.Journals.{Journal}
use Rattle.dm_undo.specs.Entries.{AreRecords, StaysWithin}
use Rattle.dm_undo.specs.Trees.{maps_of, trees}
use Rattle.dm_undo.specs.Sound.{IsSound, AreAllHeld}
use Rattle.dm_undo.specs.Notes.{Notes}
use Rattle.dm_undo.proofs.Helds.{noted_held}
use Rattle.dm_undo.proofs.Marks.{recalls-more}
use Rattle.dm_undo.proofs.Told.{sound-noted, trees-noted}

-- ---- steps

pub notes-none : (old new : Journal) (before now : List Row) → new.entries ≡ old.entries → old.room ≤ new.room
    → now ≡ before → Notes old before new now
notes-none old new before now e r f = record {
  newer = [];
  entries = e;
  records = tt;
  sound = λ s. subst (λ l. IsSound l now) (sym e) (subst (IsSound old.entries) (sym f) s);
  more = [];
  trees = λ s. ap (λ l. trees l now) e ∙ ap (trees old.entries) f ∙ sym (append-nil (trees old.entries before));
  recalls = λ s. recalls-more old.entries new.entries before now []
      (ap (λ l. trees l now) e ∙ ap (trees old.entries) f ∙ sym (append-nil (trees old.entries before)));
  parked = λ h. subst (λ l. AreAllHeld l now) (sym e) (subst (AreAllHeld old.entries) (sym f) h);
  spare = omega (arith, r, ap length e);
}

pub notes-one : (old new : Journal) (before now : List Row) (u : Change) → new.entries ≡ Record u ∷ old.entries
    → old.room - length old.entries ≤ new.room - length new.entries → TakesEditBack u before now
    → Notes old before new now
notes-one old new before now u e r t = record {
  newer = Record u ∷ [];
  entries = e;
  records = tt;
  sound = λ s. subst (λ l. IsSound l now) (sym e) (sound-noted old.entries before now u s t);
  more = maps_of now ∷ [];
  trees = λ s. ap (λ l. trees l now) e ∙ trees-noted old.entries before now u s t;
  recalls = λ s. recalls-more old.entries new.entries before now (maps_of now ∷ [])
      (ap (λ l. trees l now) e ∙ trees-noted old.entries before now u s t);
  parked = λ h. subst (λ l. AreAllHeld l now) (sym e) (noted_held old.entries before now u t h);
  spare = r;
}

records-both : (a b : List Entry) → AreRecords (length a) a → AreRecords (length b) b
    → AreRecords (length (a ++ b)) (a ++ b)
records-both [] b h g = g
records-both (Record u ∷ a) b h g = records-both a b h g
records-both (Flipped c ∷ a) b h g = absurd h

pub notes-then : (a b c : Journal) (x y z : List Row) → Notes a x b y → Notes b y c z → Notes a x c z
notes-then a b c x y z m n = record {
  newer = n.newer ++ m.newer;
  entries = n.entries ∙ ap (λ l. n.newer ++ l) m.entries ∙ sym (append_assoc n.newer m.newer a.entries);
  records = records-both n.newer m.newer n.records m.records;
  sound = λ s. n.sound (m.sound s);
  more = m.more ++ n.more;
  recalls = λ s mark l.
      let near = m.recalls s mark l in
      let far = n.recalls (m.sound s) mark near.0 in
      (far.0, far.1 ∙ near.1);
  parked = λ h. n.parked (m.parked h);
  trees = λ s. n.trees (m.sound s) ∙ ap (λ l. l ++ n.more) (m.trees s) ∙ append_assoc (trees a.entries x) m.more n.more;
  spare = omega (arith, m.spare, n.spare);
}

-- ---- records after a mark

pub records-more : (newer es : List Entry) (c : ℕ) → AreRecords (length newer) newer → AreRecords c es
    → AreRecords (length newer + c) (newer ++ es)
records-more [] es c h g = subst (λ n. AreRecords n es) (let z : c ≡ 0 + c = omega arith in z) g
records-more (Record u ∷ newer) es c h g = subst (λ n. AreRecords n (Record u ∷ (newer ++ es)))
    (let z : suc (length newer + c) ≡ suc (length newer) + c = omega arith in z) (records-more newer es c h g)
records-more (Flipped d ∷ newer) es c h g = absurd h

-- records alone stay within
pub within-records : (c : ℕ) (es : List Entry) → AreRecords c es → StaysWithin (take c es)
within-records zero [] h = tt
within-records zero (e ∷ es) h = tt
within-records (suc c) [] h = absurd h
within-records (suc c) (Record u ∷ es) h = within-records c es h
within-records (suc c) (Flipped d ∷ es) h = absurd h

-- what could be rolled back before the edits can be after them
pub notes-plain : (old new : Journal) (before now : List Row) (mark : ℕ) → Notes old before new now
    → mark ≤ length old.entries → AreRecords (length old.entries - mark) old.entries
    → AreRecords (length new.entries - mark) new.entries
notes-plain old new before now mark n held plain =
    let long : length new.entries ≡ length n.newer + length old.entries =
    ap length n.entries ∙ length-append n.newer old.entries in
    let far : length n.newer + (length old.entries - mark) ≡ length new.entries - mark =
    omega (arith, long, held) in
    subst (λ l. AreRecords (length new.entries - mark) l) (sym n.entries)
    (subst (λ c. AreRecords c (n.newer ++ old.entries)) far
    (records-more n.newer old.entries (length old.entries - mark) n.records plain))

-- and marks stay held
pub notes-held : (old new : Journal) (before now : List Row) (mark : ℕ) → Notes old before new now
    → mark ≤ length old.entries → mark ≤ length new.entries
notes-held old new before now mark n held =
    omega (arith, held, ap length n.entries, length-append n.newer old.entries)

-- since a mark that was taken before the edits there are records alone
pub notes-since : (old new : Journal) (before now : List Row) (mark : ℕ) → Notes old before new now
    → mark ≡ length old.entries → AreRecords (length new.entries - mark) new.entries
notes-since old new before now mark n place =
    let none : 0 ≡ length old.entries - mark = omega (arith, place) in
    notes-plain old new before now mark n (omega (arith, place))
    (subst (λ c. AreRecords c old.entries) none tt)
