-- A roll back.
use Rattle.std.proofs.Common.{◌≡◌, ℕ, zero, suc, ◌<◌, ◌≤◌, List, [], ◌∷◌, ◌++◌, length, take, drop, get_or, refl, sym}
use Rattle.std.proofs.Common.{◌∙◌, ap, subst, arith, Some, inl, inr}
use Rattle.dm_tree.specs.declared.rows.Row.{Row}
use Rattle.dm_tree.specs.declared.rows.Change.{Change}
use Rattle.dm_tree.specs.declared.rows.Change.TheVariants as change
use Rattle.dm_tree.specs.Rows.{IsTree, IsParkedTop}
use Rattle.dm_tree.specs.Undos.{flipped, turned, Fits}
use Rattle.dm_tree.proofs.UndoFlips.{length-flipped, flipped_twice, turned_twice, again}
use Rattle.dm_undo.specs.declared.entries.Entry.{Entry}
use Rattle.dm_undo.specs.declared.entries.Entry.TheVariants.{Record, Flipped}
use Rattle.dm_undo.specs.Entries.{OfEach, AreAlike, AreRecords, IsHeldIn, AreHeldOnce, StaysWithin, held_top}
use Rattle.dm_undo.specs.Trees.{stage, Stage, Maps, maps_of, flipped_back, flipped_forward, forward, newest_first}
use Rattle.dm_undo.specs.Sound.{FitForward, BeginsRow, IsApart, IsSoundStage, AreSoundStages}
use Rattle.dm_undo.proofs.Shapes.{rolled_alike, rolled_drop, each_alike, held_append, within_alike, alike_sym}
use Rattle.dm_undo.proofs.Shapes.{alike_take, apart_not_held}
use Rattle.dm_tree.specs.Reuse.{IsUsed, IsClear}
use Rattle.dm_tree.proofs.FlippedRows.{kin-flipped}
use Rattle.dm_tree.proofs.ClearRows.{clear-flipped}
use Rattle.dm_undo.proofs.Alikes.{each_more}
use Rattle.dm_undo.proofs.Rows.{parked_flipped, parked_out}

pub told_first : (n : ℕ) (es : List Entry) (rows : List Row) (d : Maps)
    → get_or (newest_first n es rows) 0 d ≡ maps_of rows
told_first zero es rows d = refl
told_first (suc n) [] rows d = refl
told_first (suc n) (e ∷ es) rows d = refl

pub sound_tree : (n : ℕ) (es : List Entry) (rows : List Row) → AreSoundStages n es rows → IsTree rows
sound_tree zero es rows s = s
sound_tree (suc n) [] rows s = s
sound_tree (suc n) (e ∷ es) rows s = s.0.tree

none_held : (es : List Entry) (rows : List Row) → IsTree rows → length es ≡ 0 → IsSoundStage es rows
none_held [] rows tree e = record {
  tree = tree;
  parked = λ k h. absurd h;
  once = tt;
  apart = λ new old f w k h. nothing new old f k h;
  used = tt;
}
  where
    nothing : (new old : List Entry) → [] ≡ new ++ old → (k : ℕ) → IsHeldIn k old → IsApart rows k new
    nothing [] old f k h = tt
    nothing (e ∷ new) old f k h = absurd (cc)
none_held (e ∷ es) rows tree f = absurd (omega (arith, f))

pub sound_holds : (es : List Entry) (rows : List Row) → AreSoundStages (length es) es rows → IsSoundStage es rows
sound_holds [] rows s = none_held [] rows s refl
sound_holds (e ∷ es) rows s = s.0

-- a subtree of which no record speaks stays parked
stays_parked : (c : ℕ) (es : List Entry) (rows : List Row) (k : ℕ) → OfEach (λ j. j ≡ k → ⊥) es → IsParkedTop rows k
    → IsParkedTop (flipped_back c es rows).rows k
stays_parked zero es rows k a p = p
stays_parked (suc c) [] rows k a p = p
stays_parked (suc c) (Record u ∷ es) rows k a p = stays_parked c es (flipped rows u) k a.1
    (parked_flipped rows u k a.0 p)
stays_parked (suc c) (Flipped d ∷ es) rows k a p = stays_parked c es rows k a p

pub record RollsBack (c : ℕ) (es : List Entry) (rows : List Row) (back : Stage) : Type 0 where
  pub tree : IsTree back.rows
  pub again : flipped_forward c back.entries back.rows ≡ stage es rows
  pub fit : FitForward c back.entries back.rows
  pub records : AreRecords c back.entries
  pub there : (d : Maps) → get_or (newest_first (length es) es rows) c d ≡ maps_of back.rows
  pub parked : (k : ℕ) → IsHeldIn k back.entries → IsParkedTop back.rows k
  pub once : AreHeldOnce back.entries

-- the newest record is put on again, turned
abbrev pub TurnsOnto : Change → List Entry → List Row → List Entry → List Row → Type 0
TurnsOnto u es rows entries back = ((k : ℕ) → held_top (Record (turned rows u)) ≡ Some k → IsParkedTop back k) ×
    ((k : ℕ) → held_top (Record (turned rows u)) ≡ Some k → IsHeldIn k entries → ⊥)

turns : (c : ℕ) (u : Change) (es : List Entry) (rows : List Row) → IsTree rows → Fits rows u → BeginsRow rows u es
    → TurnsOnto u es rows (flipped_back c es (flipped rows u)).entries (flipped_back c es (flipped rows u)).rows
turns c (change.Value j value verno stamp) es rows tree f b = (λ k e. absurd (cc), λ k e. absurd (cc))
turns c (change.Bytes j bytes verno stamp) es rows tree f b = (λ k e. absurd (cc), λ k e. absurd (cc))
turns c (change.Acl j acl verno stamp) es rows tree f b = (λ k e. absurd (cc), λ k e. absurd (cc))
turns c (change.Title j title verno stamp) es rows tree f b = (λ k e. absurd (cc), λ k e. absurd (cc))
turns c (change.Name j name verno stamp) es rows tree f b = (λ k e. absurd (cc), λ k e. absurd (cc))
turns c (change.PutIn j) es rows tree f b = (λ k e. absurd (cc), λ k e. absurd (cc))
turns c (change.TakeOut j) es rows tree f b =
    let a = flipped_back c es (flipped rows (change.TakeOut j)) in
    let others = each_more (λ i. i ≡ j → ⊥) (IsClear rows j) (λ i c. c.other) es b in
    let parked = stays_parked c es (flipped rows (change.TakeOut j)) j others (parked_out rows j tree f) in
    let apart = each_alike (λ i. i ≡ j → ⊥) es a.entries (rolled_alike c es (flipped rows (change.TakeOut j)))
    others in (
      λ k e. subst (IsParkedTop a.rows) (let s : j ≡ k = cc in s) parked,
      λ k e h. apart_not_held j a.entries apart (subst (λ i. IsHeldIn i a.entries) (let s : k ≡ j = cc in s) h),
    )

pub rolls_back : (c : ℕ) (es : List Entry) (rows : List Row) → AreRecords c es → AreSoundStages (length es) es rows
    → RollsBack c es rows (flipped_back c es rows)
rolls_back zero es rows r s = record {
  tree = sound_tree (length es) es rows s;
  again = refl;
  fit = tt;
  records = tt;
  there = told_first (length es) es rows;
  parked = (sound_holds es rows s).parked;
  once = (sound_holds es rows s).once;
}
rolls_back (suc c) [] rows r s = absurd r
rolls_back (suc c) (Flipped d ∷ es) rows r s = absurd r
rolls_back (suc c) (Record u ∷ es) rows r s =
    let tree = s.0.tree in
    let f = s.1.0.0 in
    let a = flipped_back c es (flipped rows u) in
    let b = rolls_back c es (flipped rows u) r s.1.1 in
    let t = turns c u es rows tree f s.1.0.1 in
    let v = turned rows u in
    record {
      tree = b.tree;
      again = ap (forward (Record v)) b.again
          ∙ ap (λ w. stage (Record w ∷ es) (flipped (flipped rows u) v))
          (turned_twice rows u f.inside)
          ∙ ap (λ (x : List Row). stage (Record u ∷ es) x) (flipped_twice rows u f.inside f.ready);
      fit = (b.fit, subst (λ (x : Stage). Fits x.rows v) (sym b.again) (again rows u tree f).fits);
      records = b.records;
      there = b.there;
      parked = λ k h. elim h [ inl e ↦ t.0 k e | inr i ↦ b.parked k i ];
      once = (t.1, b.once);
    }

-- ---- the whole

pub cut : {A : Type 0} (a b l : List A) → l ≡ a ++ b → (take (length a) l ≡ a) × (drop (length a) l ≡ b)
cut [] b [] e = (refl, e)
cut [] b (x ∷ l) e = (refl, e)
cut (y ∷ a) b [] e = absurd (cc)
cut (y ∷ a) b (x ∷ l) e =
    let head : x ≡ y = cc in
    let r = cut a b l (let s : l ≡ a ++ b = cc in s) in
    (ap (λ z. z ∷ take (length a) l) head ∙ ap (λ z. y ∷ z) r.0, r.1)

pub joined : {A : Type 0} (n : ℕ) (l : List A) → l ≡ take n l ++ drop n l
joined zero [] = refl
joined zero (x ∷ l) = refl
joined (suc n) [] = refl
joined (suc n) (x ∷ l) = ap (λ z. x ∷ z) (joined n l)

-- what is clear of a row stays so, where all records that are flipped are clear of it
clear_rolled : (c m : ℕ) (es : List Entry) (rows : List Row) → c ≤ m → AreRecords c es
    → AreSoundStages (length es) es rows → (k : ℕ) → 0 < k → IsApart rows k (take m es)
    → (j : ℕ) → IsClear rows k j → IsClear (flipped_back c es rows).rows k j
clear_rolled zero m es rows l r s k z a j h = h
clear_rolled (suc c) m [] rows l r s k z a j h = h
clear_rolled (suc c) m (Flipped d ∷ es) rows l r s k z a j h = absurd r
clear_rolled (suc c) zero (Record u ∷ es) rows l r s k z a j h = absurd (omega (arith, l))
clear_rolled (suc c) (suc m) (Record u ∷ es) rows l r s k z a j h =
    let f = s.1.0.0 in
    let step = clear-flipped rows k u z s.0.tree.shape f.sound.shape f.inside a.0 in
    clear_rolled c m es (flipped rows u) (omega (arith, l)) r s.1.1 k z
    (each_more (IsClear (flipped rows u) k) (IsClear rows k) step (take m es) a.1) j (step j h)

-- and rows that are in use stay so
used_rolled : (c : ℕ) (es : List Entry) (rows : List Row) → AreRecords c es → AreSoundStages (length es) es rows
    → (j : ℕ) → IsUsed rows j → IsUsed (flipped_back c es rows).rows j
used_rolled zero es rows r s j h = h
used_rolled (suc c) [] rows r s j h = h
used_rolled (suc c) (Flipped d ∷ es) rows r s j h = absurd r
used_rolled (suc c) (Record u ∷ es) rows r s j h =
    used_rolled c es (flipped rows u) r s.1.1 j (
      omega (arith, h.0, length-flipped rows u),
      λ z. kin-flipped
          (λ (x : Row). x.given_up) (λ x a name n. refl) rows u s.1.0.0.inside j ∙ h.1 z,
    )

apart_rolled : (c : ℕ) (es : List Entry) (rows : List Row) → AreRecords c es → AreSoundStages (length es) es rows
    → IsSoundStage es rows → (new old : List Entry) → Flipped c ∷ (flipped_back c es rows).entries ≡ new ++ old
    → StaysWithin new
    → (k : ℕ) → IsHeldIn k old → IsApart (flipped_back c es rows).rows k new
apart_rolled c es rows r s h [] old e w k i = tt
apart_rolled c es rows r s h (Record u ∷ new) old e w k i = absurd (cc)
apart_rolled c es rows r s h (Flipped d ∷ new) old e w k i =
    let back = (flipped_back c es rows).entries in
    let same : c ≡ d = cc in
    let parts = cut new old back (let s : back ≡ new ++ old = cc in s) in
    let within : c ≤ length new = omega (arith, same, w.0) in
    let older : drop (length new) es ≡ old = sym (rolled_drop c (length new) within es rows) ∙ parts.1 in
    let newer : AreAlike (take (length new) es) new = subst (λ l. AreAlike (take (length new) es) l) parts.0
    (alike_take (length new) es back (rolled_alike c es rows)) in
    let held : IsHeldIn k (drop (length new) es) = subst (IsHeldIn k) (sym older) i in
    let before = h.apart (take (length new) es) (drop (length new) es) (joined (length new) es)
    (within_alike new (take (length new) es) (alike_sym (take (length new) es) new newer) w.1) k held in
    let z = (h.parked k (subst (IsHeldIn k) (sym (joined (length new) es))
    (held_append k (take (length new) es) (drop (length new) es) held))).below_root in
    each_alike (IsClear (flipped_back c es rows).rows k) (take (length new) es) new newer
    (each_more (IsClear (flipped_back c es rows).rows k) (IsClear rows k)
    (clear_rolled c (length new) es rows within r s k z before) (take (length new) es) before)

pub rolled_sound : (c : ℕ) (es : List Entry) (rows : List Row) → AreRecords c es → AreSoundStages (length es) es rows
    → AreSoundStages (suc (length es)) (Flipped c ∷ (flipped_back c es rows).entries) (flipped_back c es rows).rows
    × (newest_first (suc (length es)) (Flipped c ∷ (flipped_back c es rows).entries) (flipped_back c es rows).rows
    ≡ maps_of (flipped_back c es rows).rows ∷ newest_first (length es) es rows)
rolled_sound c es rows r s =
    let a = flipped_back c es rows in
    let b = rolls_back c es rows r s in (
      (
        record {
          tree = b.tree;
          parked = λ k h. elim h [ inl e ↦ absurd (cc) | inr i ↦ b.parked k i ];
          once = (λ k e. absurd (cc), b.once);
          apart = apart_rolled c es rows r s (sound_holds es rows s);
          used = each_alike (IsUsed a.rows) es a.entries (rolled_alike c es rows)
              (each_more (IsUsed a.rows) (IsUsed rows) (used_rolled c es rows r s) es (sound_holds es rows s).used);
        },
        ((b.records, b.fit), subst (λ (x : Stage). AreSoundStages (length es) x.entries x.rows) (sym b.again) s),
      ),
      ap (λ (x : Stage). maps_of a.rows ∷ newest_first (length es) x.entries x.rows) b.again,
    )
