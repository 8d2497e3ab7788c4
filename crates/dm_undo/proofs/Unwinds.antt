-- Entries taken off, and entries given up.
use Rattle.std.proofs.Common.{◌≡◌, ℕ, zero, suc, ◌-◌, ◌<◌, ◌≤◌, List, [], ◌∷◌, ◌++◌, length, take, drop, false, None}
use Rattle.std.proofs.Common.{refl, sym, ◌∙◌, ap, subst, arith, Some, inl, inr, length-append}
use Rattle.std.specs.Prelude.{reverse}
use Rattle.std.proofs.lemmas.List.{length-reverse, reverse-append, take_all, length-take-le}
use Rattle.dm_tree.specs.declared.rows.Row.{Row}
use Rattle.dm_tree.specs.declared.rows.Change.{Change}
use Rattle.dm_tree.specs.declared.rows.Change.TheVariants as change
use Rattle.dm_tree.specs.Rows.{row_at, path_below, IsTree, IsParkedTop}
use Rattle.dm_tree.specs.Edits.{attached_as}
use Rattle.dm_tree.specs.Reuse.{IsClear}
use Rattle.dm_tree.proofs.RowPaths.{attached_row}
use Rattle.dm_tree.proofs.NodeEdits.{of_both}
use Rattle.dm_tree.proofs.SubtreeCuts.{still_attached}
use Rattle.dm_tree.proofs.SamePaths.{no_way}
use Rattle.dm_tree.proofs.ClearRows.{clear-less, clear-outside}
use Rattle.dm_tree.specs.Undos.{flipped, turned, Fits}
use Rattle.dm_tree.specs.Notes.{GoesAlike, Stays}
use Rattle.dm_undo.specs.declared.entries.Entry.{Entry}
use Rattle.dm_undo.specs.declared.entries.Entry.TheVariants.{Record, Flipped}
use Rattle.dm_undo.specs.Giving.{MayGiveUp, LeavesRow}
use Rattle.dm_undo.specs.Entries.{OfEach, AreAlike, IsHeldIn, AreHeldOnce, StaysWithin, held_top}
use Rattle.dm_undo.specs.Trees.{stage, Stage, Maps, maps_of, flipped_forward, newest_first}
use Rattle.dm_undo.specs.Sound.{BeginsRow, FitForward, IsApart, AreSoundStages}
use Rattle.dm_undo.proofs.Shapes.{records_long, redone_alike, alike_long, alike_less, alike_trans, alike_self}
use Rattle.dm_undo.proofs.Alikes.{each_any, each_more, alike_apart, alike_sound, alike_parked}
use Rattle.dm_undo.proofs.Rolls.{sound_tree, sound_holds, joined}
use Rattle.dm_undo.proofs.Settles.{kept_sound}

pub last_first : (l : List Entry) (e : Entry) → reverse (l ++ e ∷ []) ≡ e ∷ reverse l
last_first l e = reverse-append l (e ∷ [])

pub one_more : (l : List Entry) (e : Entry) → length (l ++ e ∷ []) ≡ suc (length l)
one_more l e = omega (arith, length-append l (e ∷ []))

-- the journal with its newest entry in front
pub opened : (items items' : List Entry) (e : Entry) (rows : List Row) → items ≡ items' ++ e ∷ []
    → AreSoundStages (length items) (reverse items) rows
    → AreSoundStages (suc (length items')) (e ∷ reverse items') rows
opened items items' e rows is s =
    subst (λ l. AreSoundStages (suc (length items')) l rows) (last_first items' e)
    (subst (λ n. AreSoundStages n (reverse (items' ++ e ∷ [])) rows) (one_more items' e)
    (subst (λ l. AreSoundStages (length l) (reverse l) rows) is s))

told-opened : (items items' : List Entry) (e : Entry) (rows : List Row) → items ≡ items' ++ e ∷ []
    → newest_first (length items) (reverse items) rows ≡ newest_first (suc (length items')) (e ∷ reverse items') rows
told-opened items items' e rows is =
    ap (λ l. newest_first (length l) (reverse l) rows) is ∙ ap (λ n. newest_first n (reverse (items' ++ e ∷ [])) rows)
    (one_more items' e) ∙ ap (λ l. newest_first (suc (length items')) l rows) (last_first items' e)

drop-less : {A : Type 0} (n m k : ℕ) (l : List A) (x : A) (xs : List A) → x ∷ xs ≡ drop n l → k ≡ suc n → xs ≡ drop k l
drop-less zero m k l x xs e f = rw f (less l e)
  where
    less : (l : List _) → x ∷ xs ≡ drop 0 l → xs ≡ drop 1 l
    less [] e = absurd (cc)
    less (y ∷ l) e = cc
drop-less (suc n) m k [] x xs e f = absurd (cc)
drop-less (suc n) m zero (y ∷ l) x xs e f = absurd (omega (arith, f))
drop-less (suc n) m (suc k) (y ∷ l) x xs e f = drop-less n m k l x xs e (omega (arith, f))

-- what is left stands for the trees without the newest
pub record Unwound (n0 : ℕ) (es0 : List Entry) (trees : List Maps) (items : List Entry) (rows : List Row) : Type 0 where
  pub alike : AreAlike (drop (n0 - length items) es0) (reverse items)
  pub sound : AreSoundStages (length items) (reverse items) rows
  pub newest_first : newest_first (length items) (reverse items) rows ≡ drop (n0 - length items) trees

each_left : (u : Change) (es : List Entry) (rows : List Row) → IsTree rows → Fits rows u → BeginsRow rows u es
    → OfEach (Stays (flipped rows u) (turned rows u)) es
each_left (change.Value k value verno stamp) es rows tree f b = each_any _ (λ _. tt) es
each_left (change.Bytes k bytes verno stamp) es rows tree f b = each_any _ (λ _. tt) es
each_left (change.Acl k acl verno stamp) es rows tree f b = each_any _ (λ _. tt) es
each_left (change.Title k title verno stamp) es rows tree f b = each_any _ (λ _. tt) es
each_left (change.Name k name verno stamp) es rows tree f b = each_any _ (λ _. tt) es
each_left (change.PutIn k) es rows tree f b = each_any _ (λ _. tt) es
each_left (change.TakeOut k) es rows tree f b = each_more (λ j. path_below (attached_as rows k false) k j ≡ None)
    (IsClear rows k) (λ j c.
    clear-outside (attached_as rows k false) f.sound k j (attached_row rows tree.shape k f.ready).0
    (clear-less rows (attached_as rows k false) (λ m. of_both rows k (record (row_at rows k) { attached = false })
    (λ s. s.parent) refl m f.inside) (λ m at. (still_attached rows k m f.inside at).1) k j c)) es b

pub unwound-record : (n0 : ℕ) (es0 : List Entry) (trees : List Maps) (items items' : List Entry) (u : Change)
    (rows rows' : List Row) → length items ≤ n0 → items ≡ items' ++ Record u ∷ [] → Unwound n0 es0 trees items rows
    → GoesAlike (Stays (flipped rows u) (turned rows u)) (flipped rows u) rows' → Unwound n0 es0 trees items' rows'
unwound-record n0 es0 trees items items' u rows rows' high is s g =
    let o = opened items items' (Record u) rows is s.sound in
    let r = alike_sound (Stays (flipped rows u) (turned rows u)) (length items') (reverse items')
    (flipped rows u) rows' g (each_left u (reverse items') rows o.0.tree o.1.0.0 o.1.0.1) o.1.1 in
    record {
      alike = alike_less (n0 - length items) (n0 - length items') es0 (Record u) (reverse items')
          (subst (AreAlike (drop (n0 - length items) es0)) (ap reverse is ∙ last_first items' (Record u)) s.alike)
          (omega (arith, high, ap length is, one_more items' (Record u)));
      sound = r.0;
      newest_first = r.1 ∙ drop-less (n0 - length items) 0 (n0 - length items') trees (maps_of rows)
          (newest_first (length items') (reverse items') (flipped rows u))
          (sym (told-opened items items' (Record u) rows is) ∙ s.newest_first)
          (omega (arith, high, ap length is, one_more items' (Record u)));
    }

pub unwound-flipped : (n0 : ℕ) (es0 : List Entry) (trees : List Maps) (items items' new : List Entry) (c : ℕ)
    (rows rows' : List Row) → length items ≤ n0 → items ≡ items' ++ Flipped c ∷ [] → Unwound n0 es0 trees items rows
    → length new ≡ length items' → flipped_forward c
    (reverse items') rows ≡ stage (reverse new) rows' → Unwound n0 es0 trees new rows'
unwound-flipped n0 es0 trees items items' new c rows rows' high is s long e =
    let o = opened items items' (Flipped c) rows is s.sound in
    let t = drop-less (n0 - length items) 0 (n0 - length items') trees (maps_of rows)
    (newest_first (length items') (flipped_forward c (reverse items') rows).entries
    (flipped_forward c (reverse items') rows).rows)
    (sym (told-opened items items' (Flipped c) rows is) ∙ s.newest_first)
    (omega (arith, high, ap length is, one_more items' (Flipped c))) in
    let before = alike_less (n0 - length items) (n0 - length items') es0 (Flipped c) (reverse items')
    (subst (AreAlike (drop (n0 - length items) es0)) (ap reverse is ∙ last_first items' (Flipped c)) s.alike)
    (omega (arith, high, ap length is, one_more items' (Flipped c))) in
    let turned = subst (λ (a : Stage). AreAlike (reverse items') a.entries) e (redone_alike c (reverse items') rows) in
    record {
      alike = subst (λ n. AreAlike (drop (n0 - n) es0) (reverse new)) (sym long)
          (alike_trans (drop (n0 - length items') es0) (reverse items') (reverse new) before turned);
      sound = subst (λ n. AreSoundStages n (reverse new) rows') (sym long)
          (subst (λ (a : Stage). AreSoundStages (length items') a.entries a.rows) e o.1.1);
      newest_first = ap (λ n. newest_first n (reverse new) rows') long
          ∙ ap (λ (a : Stage). newest_first (length items') a.entries a.rows) (sym e) ∙ t
          ∙ ap (λ n. drop (n0 - n) trees) (sym long);
    }

pub flipped-held : (items items' : List Entry) (c : ℕ) (rows : List Row) → items ≡ items' ++ Flipped c ∷ []
    → AreSoundStages (length items) (reverse items) rows → (c ≤ length items') × FitForward c (reverse items') rows
flipped-held items items' c rows is s =
    let o = opened items items' (Flipped c) rows is s in
    (omega (arith, records_long c (reverse items') o.1.0.0, length-reverse items'), o.1.0.1)

-- ---- given up

-- items: the entries that are left, the newest first
pub record Giving (count : ℕ) (new items : List Entry) (rows : List Row) (trees : List Maps) : Type 0 where
  pub low : count ≤ length items
  pub newer : take count items ≡ new
  pub sound : AreSoundStages count new rows
  pub newest_first : newest_first count new rows ≡ trees
  pub parked : (k : ℕ) → IsHeldIn k (drop count items) → IsParkedTop rows k
  pub once : AreHeldOnce (drop count items)
  pub apart : (k : ℕ) → IsHeldIn k (drop count items) → IsApart rows k new

once_after : (new old : List Entry) → AreHeldOnce (new ++ old) → AreHeldOnce old
once_after [] old h = h
once_after (e ∷ new) old h = once_after new old h.1

held_after : (k : ℕ) (new old : List Entry) → IsHeldIn k old → IsHeldIn k (new ++ old)
held_after k [] old h = h
held_after k (e ∷ new) old h = inr (held_after k new old h)

pub giving_first : (count : ℕ) (es : List Entry) (rows : List Row) → count ≤ length es
    → AreSoundStages (length es) es rows → StaysWithin (take count es)
    → Giving count (take count es) es rows (take (suc count) (newest_first (length es) es rows))
giving_first count es rows l s w =
    let h = sound_holds es rows s in
    let is = joined count es in
    let r = kept_sound count (length es) (take count es) (drop count es) rows (length-take-le count es l) l w
    (subst (λ x. AreSoundStages (length es) x rows) is s) in
    record {
      low = l;
      newer = refl;
      sound = r.0;
      newest_first = r.1 ∙ ap (λ x. take (suc count) (newest_first (length es) x rows)) (sym is);
      parked = λ k i. h.parked k (subst (IsHeldIn k) (sym is) (held_after k (take count es) (drop count es) i));
      once = once_after (take count es) (drop count es) (subst AreHeldOnce is h.once);
      apart = λ k i. h.apart (take count es) (drop count es) is w k i;
    }

held_last : (k : ℕ) (l : List Entry) (e : Entry) → held_top e ≡ Some k → IsHeldIn k (l ++ e ∷ [])
held_last k [] e h = inl h
held_last k (x ∷ l) e h = inr (held_last k l e h)

held_first : (k : ℕ) (l : List Entry) (e : Entry) → IsHeldIn k l → IsHeldIn k (l ++ e ∷ [])
held_first k [] e h = absurd h
held_first k (x ∷ l) e (inl h) = inl h
held_first k (x ∷ l) e (inr h) = inr (held_first k l e h)

once_last : (k : ℕ) (l : List Entry) (e : Entry) → AreHeldOnce (l ++ e ∷ []) → held_top e ≡ Some k → IsHeldIn k l → ⊥
once_last k [] e o h i = i
once_last k (x ∷ l) e o h (inl i) = o.0 k i (held_last k l e h)
once_last k (x ∷ l) e o h (inr i) = once_last k l e o.1 h i

once_first : (l : List Entry) (e : Entry) → AreHeldOnce (l ++ e ∷ []) → AreHeldOnce l
once_first [] e o = tt
once_first (x ∷ l) e o = (λ k h i. o.0 k h (held_first k l e i), once_first l e o.1)

pub drop-last : (n : ℕ) (l : List Entry) (e : Entry) → n ≤ length l → drop n (l ++ e ∷ []) ≡ drop n l ++ e ∷ []
drop-last zero [] e h = refl
drop-last zero (x ∷ l) e h = refl
drop-last (suc n) [] e h = absurd (omega (arith, h))
drop-last (suc n) (x ∷ l) e h = drop-last n l e (omega (arith, h))

take-last : (n : ℕ) (l : List Entry) (e : Entry) → n ≤ length l → take n (l ++ e ∷ []) ≡ take n l
take-last zero [] e h = refl
take-last zero (x ∷ l) e h = refl
take-last (suc n) [] e h = absurd (omega (arith, h))
take-last (suc n) (x ∷ l) e h = ap (λ y. x ∷ y) (take-last n l e (omega (arith, h)))

may_give : (e : Entry) (rows : List Row) → IsTree rows → ((k : ℕ) → held_top e ≡ Some k → IsParkedTop rows k)
    → MayGiveUp e rows
may_give (Flipped c) rows tree p = tree
may_give (Record (change.Value k value verno stamp)) rows tree p = (tree, tt)
may_give (Record (change.Bytes k bytes verno stamp)) rows tree p = (tree, tt)
may_give (Record (change.Acl k acl verno stamp)) rows tree p = (tree, tt)
may_give (Record (change.Title k title verno stamp)) rows tree p = (tree, tt)
may_give (Record (change.Name k name verno stamp)) rows tree p = (tree, tt)
may_give (Record (change.TakeOut k)) rows tree p = (tree, tt)
may_give (Record (change.PutIn k)) rows tree p = (tree, p k refl)

each_given : (e : Entry) (new : List Entry) (rows : List Row) → IsTree rows
    → ((k : ℕ) → held_top e ≡ Some k → IsParkedTop rows k × IsApart rows k new) → OfEach (LeavesRow rows e) new
each_given (Flipped c) new rows tree p = each_any _ (λ _. tt) new
each_given (Record (change.Value k value verno stamp)) new rows tree p = each_any _ (λ _. tt) new
each_given (Record (change.Bytes k bytes verno stamp)) new rows tree p = each_any _ (λ _. tt) new
each_given (Record (change.Acl k acl verno stamp)) new rows tree p = each_any _ (λ _. tt) new
each_given (Record (change.Title k title verno stamp)) new rows tree p = each_any _ (λ _. tt) new
each_given (Record (change.Name k name verno stamp)) new rows tree p = each_any _ (λ _. tt) new
each_given (Record (change.TakeOut k)) new rows tree p = each_any _ (λ _. tt) new
each_given (Record (change.PutIn k)) new rows tree p = let q = p k refl in each_more (λ j. path_below rows k j ≡ None)
    (IsClear rows k) (λ j c. clear-outside rows tree k j q.0.below_root c) new q.1

leaves : (e : Entry) (rows : List Row) (j : ℕ) → (held_top e ≡ Some j → ⊥) → IsParkedTop rows j → LeavesRow rows e j
leaves (Flipped c) rows j p t = tt
leaves (Record (change.Value k value verno stamp)) rows j p t = tt
leaves (Record (change.Bytes k bytes verno stamp)) rows j p t = tt
leaves (Record (change.Acl k acl verno stamp)) rows j p t = tt
leaves (Record (change.Title k title verno stamp)) rows j p t = tt
leaves (Record (change.Name k name verno stamp)) rows j p t = tt
leaves (Record (change.TakeOut k)) rows j p t = tt
leaves (Record (change.PutIn k)) rows j p t = no_way rows _ k j (λ e. p (ap (λ i. Some i) (sym e))) t.out

pub giving_may : (count : ℕ) (new items items' : List Entry) (e : Entry) (rows : List Row) (trees : List Maps)
    → Giving count new items rows trees → count < length items → items ≡ items' ++ e ∷ []
    → MayGiveUp e rows
giving_may count new items items' e rows trees g l is =
    let rest : drop count items ≡ drop count items' ++ e ∷ [] = ap (drop count) is
    ∙ drop-last count items' e (omega (arith, l, ap length is, one_more items' e)) in
    may_give e rows (sound_tree count new rows g.sound)
    (λ k h. g.parked k (subst (IsHeldIn k) (sym rest) (held_last k (drop count items') e h)))

pub giving_next : (count : ℕ) (new items items' : List Entry) (e : Entry) (rows rows' : List Row) (trees : List Maps)
    → Giving count new items rows trees → count < length items → items ≡ items' ++ e ∷ []
    → GoesAlike (LeavesRow rows e) rows rows' → Giving count new items' rows' trees
giving_next count new items items' e rows rows' trees g l is a =
    let low : count ≤ length items' = omega (arith, l, ap length is, one_more items' e) in
    let rest : drop count items ≡ drop count items' ++ e ∷ [] = ap (drop count) is ∙ drop-last count items' e low in
    let before = λ (k : ℕ) (i : IsHeldIn k (drop count items')). subst (IsHeldIn k) (sym rest)
    (held_first k (drop count items') e i) in
    let once : AreHeldOnce (drop count items' ++ e ∷ []) = subst AreHeldOnce rest g.once in
    let each = each_given e new rows (sound_tree count new rows g.sound)
    (λ k h. let i = subst (IsHeldIn k) (sym rest) (held_last k (drop count items') e h) in
    (g.parked k i, g.apart k i)) in
    let ok = λ (k : ℕ) (i : IsHeldIn k (drop count items')). leaves e rows k
    (λ h. once_last k (drop count items') e once h i) (g.parked k (before k i)) in
    let r = alike_sound (LeavesRow rows e) count new rows rows' a each g.sound in
    record {
      low = low;
      newer = sym (take-last count items' e low) ∙ ap (take count) (sym is) ∙ g.newer;
      sound = r.0;
      newest_first = r.1 ∙ g.newest_first;
      parked = λ k i. alike_parked (LeavesRow rows e) rows rows' k a (ok k i) (g.parked k (before k i));
      once = once_first (drop count items') e once;
      apart = λ k i. alike_apart (LeavesRow rows e) rows rows' a k (ok k i) new each (g.apart k (before k i));
    }

pub length-told : (n : ℕ) (es : List Entry) (rows : List Row) → length es ≡ n → length (newest_first n es rows) ≡ suc n
length-told zero es rows e = refl
length-told (suc n) [] rows e = absurd (omega (arith, e))
length-told (suc n) (Record u ∷ es) rows e = ap suc (length-told n es (flipped rows u) (omega (arith, e)))
length-told (suc n) (Flipped c ∷ es) rows e =
    ap suc (length-told n (flipped_forward c es rows).entries (flipped_forward c es rows).rows
    (omega (arith, e, alike_long es (flipped_forward c es rows).entries (redone_alike c es rows))))

pub told-whole : (count n : ℕ) (es : List Entry) (rows : List Row) → count ≡ n → length es ≡ n
    → newest_first count es rows ≡ take (suc count) (newest_first n es rows)
told-whole count n es rows e l = ap (λ m. newest_first m es rows) e
    ∙ sym (take_all (suc count) (newest_first n es rows) (omega (arith, e, length-told n es rows l)))

pub unwound-first : (items : List Entry) (rows : List Row) → AreSoundStages (length items) (reverse items) rows
    → Unwound (length items) (reverse items) (newest_first (length items) (reverse items) rows) items rows
unwound-first items rows s =
    let none : 0 ≡ length items - length items = omega arith in
    record {
      alike = subst (λ n. AreAlike (drop n (reverse items)) (reverse items)) none
          (subst (λ l. AreAlike l (reverse items)) (whole (reverse items)) (alike_self (reverse items)));
      sound = s;
      newest_first = whole (newest_first (length items) (reverse items) rows)
          ∙ ap (λ n. drop n (newest_first (length items) (reverse items) rows)) none;
    }
  where
    whole : {A : Type 0} (l : List A) → l ≡ drop 0 l
    whole [] = refl
    whole (x ∷ l) = refl
