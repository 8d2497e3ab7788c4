-- A record is noted.
use Rattle.std.proofs.Common.{◌≡◌, ℕ, suc, List, [], ◌∷◌, ◌++◌, length, sym, ap, subst, Some, inl, inr}
use Rattle.dm_tree.specs.declared.rows.Row.{Row}
use Rattle.dm_tree.specs.declared.rows.Change.{Change}
use Rattle.dm_tree.specs.declared.rows.Change.TheVariants as change
use Rattle.dm_tree.specs.Rows.{IsParkedTop}
use Rattle.dm_tree.specs.Undos.{row_of, flipped, IsHeld}
use Rattle.dm_undo.specs.declared.entries.Entry.{Entry}
use Rattle.dm_undo.specs.declared.entries.Entry.TheVariants.{Record, Flipped}
use Rattle.dm_tree.specs.Notes.{BeginsClear, TakesEditBack}
use Rattle.dm_tree.specs.Reuse.{IsUsed, IsClear}
use Rattle.dm_tree.specs.Notes.{held_by}
use Rattle.dm_undo.specs.Entries.{OfEach, IsHeldIn, StaysWithin}
use Rattle.dm_undo.specs.Trees.{maps_of, newest_first}
use Rattle.dm_undo.specs.Sound.{BeginsRow, IsApart, IsSoundStage, AreSoundStages}
use Rattle.dm_undo.proofs.Shapes.{held_append}
use Rattle.dm_undo.proofs.Alikes.{each_more, each_both, each_first, alike_sound}
use Rattle.dm_undo.proofs.Rolls.{sound_holds}

begins : (u : Change) (es : List Entry) (old new : List Row) → BeginsClear old new u → OfEach (IsUsed old) es
    → BeginsRow new u es
begins (change.Value k value verno stamp) es old new f h = tt
begins (change.Bytes k bytes verno stamp) es old new f h = tt
begins (change.Acl k acl verno stamp) es old new f h = tt
begins (change.Title k title verno stamp) es old new f h = tt
begins (change.Name k name verno stamp) es old new f h = tt
begins (change.PutIn k) es old new f h = tt
begins (change.TakeOut k) es old new f h = each_more (IsClear new k) (IsUsed old) f es h

-- what the new record holds is parked, and wasn't before
holds_parked : (u : Change) (rows : List Row) (k : ℕ) → IsHeld rows u → held_by u ≡ Some k → IsParkedTop rows k
holds_parked (change.PutIn j) rows k h e = subst (IsParkedTop rows) (let s : j ≡ k = cc in s) h
holds_parked (change.TakeOut j) rows k h e = absurd (cc)
holds_parked (change.Value j value verno stamp) rows k h e = absurd (cc)
holds_parked (change.Bytes j bytes verno stamp) rows k h e = absurd (cc)
holds_parked (change.Acl j acl verno stamp) rows k h e = absurd (cc)
holds_parked (change.Title j title verno stamp) rows k h e = absurd (cc)
holds_parked (change.Name j name verno stamp) rows k h e = absurd (cc)

pub of_row : (u : Change) (k : ℕ) → held_by u ≡ Some k → row_of u ≡ k
of_row (change.PutIn j) k e = cc
of_row (change.TakeOut j) k e = absurd (cc)
of_row (change.Value j value verno stamp) k e = absurd (cc)
of_row (change.Bytes j bytes verno stamp) k e = absurd (cc)
of_row (change.Acl j acl verno stamp) k e = absurd (cc)
of_row (change.Title j title verno stamp) k e = absurd (cc)
of_row (change.Name j name verno stamp) k e = absurd (cc)

apart_noted : (u : Change) (es : List Entry) (old now : List Row) → IsSoundStage es old → TakesEditBack u old now
    → (new rest : List Entry) → Record u ∷ es ≡ new ++ rest → StaysWithin new
    → (k : ℕ) → IsHeldIn k rest → IsApart now k new
apart_noted u es old now h t [] rest e w k i = tt
apart_noted u es old now h t (Flipped c ∷ new) rest e w k i = absurd (cc)
apart_noted u es old now h t (Record v ∷ new) rest e w k i =
    let same : u ≡ v = cc in
    let is : es ≡ new ++ rest = cc in
    let top = h.parked k (subst (IsHeldIn k) (sym is) (held_append k new rest i)) in (
      subst (IsClear now k) (ap row_of same) (t.apart k top),
      each_both (IsUsed old) (IsClear old k) (IsClear now k) (λ j used c. t.clear k j top used c) new
          (each_first (IsUsed old) new rest (subst (OfEach (IsUsed old)) is h.used)) (h.apart new rest is w k i),
    )

pub noted : (es : List Entry) (old new : List Row) (u : Change) → AreSoundStages (length es) es old
    → TakesEditBack u old new
    → AreSoundStages (suc (length es)) (Record u ∷ es) new ×
    (newest_first (suc (length es)) (Record u ∷ es) new ≡ maps_of new ∷ newest_first (length es) es old)
noted es old new u s t =
    let h = sound_holds es old s in
    let r = alike_sound (IsUsed old) (length es) es old (flipped new u) t.alike h.used s in (
      (
        record {
          tree = t.tree;
          parked = λ k i. elim i [ inl e ↦ holds_parked u new k t.held e | inr j ↦ t.parked k (h.parked k j) ];
          once = (λ k e j. (t.apart k (h.parked k j)).other (of_row u k e), h.once);
          apart = apart_noted u es old new h t;
          used = (t.used, each_more (IsUsed new) (IsUsed old) t.stays es h.used);
        },
        ((t.fits, begins u es old new t.begins h.used), r.0),
      ),
      ap (λ l. maps_of new ∷ l) r.1,
    )
