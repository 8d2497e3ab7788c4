-- Entries that speak of the same rows.
use Rattle.std.proofs.Common.{◌≡◌, ℕ, zero, suc, ◌≤◌, List, [], ◌∷◌, ◌++◌, length, take, drop, refl, sym, ◌∙◌, ap}
use Rattle.std.proofs.Common.{subst, arith, inl, inr, Some}
use Rattle.dm_tree.specs.declared.rows.Row.{Row}
use Rattle.dm_tree.specs.declared.rows.Change.{Change}
use Rattle.dm_tree.specs.declared.rows.Change.TheVariants as change
use Rattle.dm_tree.specs.Undos.{row_of, turned}
use Rattle.dm_undo.specs.declared.entries.Entry.{Entry}
use Rattle.dm_undo.specs.declared.entries.Entry.TheVariants.{Record, Flipped}
use Rattle.dm_tree.specs.Notes.{held_by}
use Rattle.dm_undo.specs.Entries.{AreAlike, AreRecords, OfEach, StaysWithin, IsHeldIn}
use Rattle.dm_undo.specs.Trees.{flipped_back, flipped_forward, turned_in, flipped_by}

pub row_turned : (rows : List Row) (u : Change) → row_of (turned rows u) ≡ row_of u
row_turned rows (change.Value k value verno stamp) = refl
row_turned rows (change.Bytes k bytes verno stamp) = refl
row_turned rows (change.Acl k acl verno stamp) = refl
row_turned rows (change.Title k title verno stamp) = refl
row_turned rows (change.Name k name verno stamp) = refl
row_turned rows (change.TakeOut k) = refl
row_turned rows (change.PutIn k) = refl

pub alike_self : (es : List Entry) → AreAlike es es
alike_self [] = tt
alike_self (Record u ∷ es) = (refl, alike_self es)
alike_self (Flipped c ∷ es) = (refl, alike_self es)

pub alike_long : (es fs : List Entry) → AreAlike es fs → length fs ≡ length es
alike_long [] [] a = refl
alike_long [] (f ∷ fs) a = absurd a
alike_long (e ∷ es) [] a = absurd a
alike_long (Record u ∷ es) (Record v ∷ fs) a = ap suc (alike_long es fs a.1)
alike_long (Record u ∷ es) (Flipped d ∷ fs) a = absurd a
alike_long (Flipped c ∷ es) (Record v ∷ fs) a = absurd a
alike_long (Flipped c ∷ es) (Flipped d ∷ fs) a = ap suc (alike_long es fs a.1)

pub each_alike : (ok : ℕ → Type 0) (es fs : List Entry) → AreAlike es fs → OfEach ok es → OfEach ok fs
each_alike ok [] [] a h = tt
each_alike ok [] (f ∷ fs) a h = absurd a
each_alike ok (e ∷ es) [] a h = absurd a
each_alike ok (Record u ∷ es) (Record v ∷ fs) a h = (subst ok (sym a.0) h.0, each_alike ok es fs a.1 h.1)
each_alike ok (Record u ∷ es) (Flipped d ∷ fs) a h = absurd a
each_alike ok (Flipped c ∷ es) (Record v ∷ fs) a h = absurd a
each_alike ok (Flipped c ∷ es) (Flipped d ∷ fs) a h = each_alike ok es fs a.1 h

pub within_alike : (es fs : List Entry) → AreAlike es fs → StaysWithin es → StaysWithin fs
within_alike [] [] a h = tt
within_alike [] (f ∷ fs) a h = absurd a
within_alike (e ∷ es) [] a h = absurd a
within_alike (Record u ∷ es) (Record v ∷ fs) a h = within_alike es fs a.1 h
within_alike (Record u ∷ es) (Flipped d ∷ fs) a h = absurd a
within_alike (Flipped c ∷ es) (Record v ∷ fs) a h = absurd a
within_alike (Flipped c ∷ es) (Flipped d ∷ fs) a h =
    (omega (arith, h.0, a.0, alike_long es fs a.1), within_alike es fs a.1 h.1)

pub alike_sym : (es fs : List Entry) → AreAlike es fs → AreAlike fs es
alike_sym [] [] a = tt
alike_sym [] (f ∷ fs) a = absurd a
alike_sym (e ∷ es) [] a = absurd a
alike_sym (Record u ∷ es) (Record v ∷ fs) a = (sym a.0, alike_sym es fs a.1)
alike_sym (Record u ∷ es) (Flipped d ∷ fs) a = absurd a
alike_sym (Flipped c ∷ es) (Record v ∷ fs) a = absurd a
alike_sym (Flipped c ∷ es) (Flipped d ∷ fs) a = (sym a.0, alike_sym es fs a.1)

pub alike_take : (n : ℕ) (es fs : List Entry) → AreAlike es fs → AreAlike (take n es) (take n fs)
alike_take zero [] [] a = tt
alike_take zero [] (f ∷ fs) a = absurd a
alike_take zero (e ∷ es) [] a = absurd a
alike_take zero (e ∷ es) (f ∷ fs) a = tt
alike_take (suc n) [] [] a = tt
alike_take (suc n) [] (f ∷ fs) a = absurd a
alike_take (suc n) (e ∷ es) [] a = absurd a
alike_take (suc n) (Record u ∷ es) (Record v ∷ fs) a = (a.0, alike_take n es fs a.1)
alike_take (suc n) (Record u ∷ es) (Flipped d ∷ fs) a = absurd a
alike_take (suc n) (Flipped c ∷ es) (Record v ∷ fs) a = absurd a
alike_take (suc n) (Flipped c ∷ es) (Flipped d ∷ fs) a = (a.0, alike_take n es fs a.1)

alike_turned : (rows : List Row) (e : Entry) (es fs : List Entry) → AreAlike es fs
    → AreAlike (e ∷ es) (turned_in rows e ∷ fs)
alike_turned rows (Record u) es fs a = (row_turned rows u, a)
alike_turned rows (Flipped c) es fs a = (refl, a)

pub rolled_alike : (c : ℕ) (es : List Entry) (rows : List Row) → AreAlike es (flipped_back c es rows).entries
rolled_alike zero es rows = alike_self es
rolled_alike (suc c) [] rows = tt
rolled_alike (suc c) (e ∷ es) rows = alike_turned rows e es _ (rolled_alike c es (flipped_by e rows))

pub redone_alike : (c : ℕ) (es : List Entry) (rows : List Row) → AreAlike es (flipped_forward c es rows).entries
redone_alike zero es rows = alike_self es
redone_alike (suc c) [] rows = tt
redone_alike (suc c) (e ∷ es) rows = alike_turned (flipped_forward c es rows).rows e es _ (redone_alike c es rows)

-- the older entries stay
pub rolled_drop : (c n : ℕ) → c ≤ n → (es : List Entry) (rows : List Row)
    → drop n (flipped_back c es rows).entries ≡ drop n es
rolled_drop zero n l es rows = refl
rolled_drop (suc c) zero l es rows = absurd (omega (arith, l))
rolled_drop (suc c) (suc n) l [] rows = refl
rolled_drop (suc c) (suc n) l (e ∷ es) rows = rolled_drop c n (omega (arith, l)) es (flipped_by e rows)

-- and have no part in a roll back that stays within the newer ones
pub redone_append : (c : ℕ) (new old : List Entry) (rows : List Row) → c ≤ length new
    → ((flipped_forward c (new ++ old) rows).entries ≡ (flipped_forward c new rows).entries ++ old) ×
    ((flipped_forward c (new ++ old) rows).rows ≡ (flipped_forward c new rows).rows)
redone_append zero new old rows l = (refl, refl)
redone_append (suc c) [] old rows l = absurd (omega (arith, l))
redone_append (suc c) (e ∷ new) old rows l =
    let r = redone_append c new old rows (omega (arith, l)) in (
      ap (λ x. turned_in x e ∷ (flipped_forward c (new ++ old) rows).entries) r.1
          ∙ ap (λ x. turned_in (flipped_forward c new rows).rows e ∷ x) r.0,
      ap (flipped_by e) r.1,
    )

pub records_long : (c : ℕ) (es : List Entry) → AreRecords c es → c ≤ length es
records_long zero es h = omega arith
records_long (suc c) [] h = absurd h
records_long (suc c) (Record u ∷ es) h = omega (arith, records_long c es h)
records_long (suc c) (Flipped d ∷ es) h = absurd h

pub records_append : (c : ℕ) (new old : List Entry) → c ≤ length new → AreRecords c (new ++ old) → AreRecords c new
records_append zero new old l h = tt
records_append (suc c) [] old l h = absurd (omega (arith, l))
records_append (suc c) (Record u ∷ new) old l h = records_append c new old (omega (arith, l)) h
records_append (suc c) (Flipped d ∷ new) old l h = absurd h

-- what a record holds, it speaks of
held_row : (u : Change) (k : ℕ) → held_by u ≡ Some k → row_of u ≡ k
held_row (change.PutIn j) k e = cc
held_row (change.TakeOut j) k e = absurd (cc)
held_row (change.Value j value verno stamp) k e = absurd (cc)
held_row (change.Bytes j bytes verno stamp) k e = absurd (cc)
held_row (change.Acl j acl verno stamp) k e = absurd (cc)
held_row (change.Title j title verno stamp) k e = absurd (cc)
held_row (change.Name j name verno stamp) k e = absurd (cc)

pub apart_not_held : (k : ℕ) (es : List Entry) → OfEach (λ j. j ≡ k → ⊥) es → IsHeldIn k es → ⊥
apart_not_held k [] a h = h
apart_not_held k (Record u ∷ es) a (inl e) = a.0 (held_row u k e)
apart_not_held k (Record u ∷ es) a (inr h) = apart_not_held k es a.1 h
apart_not_held k (Flipped c ∷ es) a (inl e) = absurd (cc)
apart_not_held k (Flipped c ∷ es) a (inr h) = apart_not_held k es a h

pub held_append : (k : ℕ) (new old : List Entry) → IsHeldIn k old → IsHeldIn k (new ++ old)
held_append k [] old h = h
held_append k (e ∷ new) old h = inr (held_append k new old h)

pub held_before : (k : ℕ) (new old : List Entry) → IsHeldIn k new → IsHeldIn k (new ++ old)
held_before k [] old h = absurd h
held_before k (e ∷ new) old (inl h) = inl h
held_before k (e ∷ new) old (inr h) = inr (held_before k new old h)

pub alike_trans : (es fs gs : List Entry) → AreAlike es fs → AreAlike fs gs → AreAlike es gs
alike_trans [] [] gs a b = b
alike_trans [] (f ∷ fs) gs a b = absurd a
alike_trans (e ∷ es) [] gs a b = absurd a
alike_trans (e ∷ es) (f ∷ fs) [] a b = absurd (no_end f fs b)
  where
    no_end : (f : Entry) (fs : List Entry) → AreAlike (f ∷ fs) [] → ⊥
    no_end (Record v) fs b = b
    no_end (Flipped d) fs b = b
alike_trans (Record u ∷ es) (Record v ∷ fs) (Record w ∷ gs) a b = (b.0 ∙ a.0, alike_trans es fs gs a.1 b.1)
alike_trans (Record u ∷ es) (Record v ∷ fs) (Flipped n ∷ gs) a b = absurd b
alike_trans (Record u ∷ es) (Flipped d ∷ fs) (g ∷ gs) a b = absurd a
alike_trans (Flipped c ∷ es) (Record v ∷ fs) (g ∷ gs) a b = absurd a
alike_trans (Flipped c ∷ es) (Flipped d ∷ fs) (Record w ∷ gs) a b = absurd b
alike_trans (Flipped c ∷ es) (Flipped d ∷ fs) (Flipped n ∷ gs) a b = (b.0 ∙ a.0, alike_trans es fs gs a.1 b.1)

alike_tail : (d e : Entry) (es fs : List Entry) → AreAlike (d ∷ es) (e ∷ fs) → AreAlike es fs
alike_tail (Record u) (Record v) es fs a = a.1
alike_tail (Record u) (Flipped d) es fs a = absurd a
alike_tail (Flipped c) (Record v) es fs a = absurd a
alike_tail (Flipped c) (Flipped d) es fs a = a.1

pub alike_drop : (n : ℕ) (es fs : List Entry) → AreAlike es fs → AreAlike (drop n es) (drop n fs)
alike_drop zero [] [] a = tt
alike_drop zero [] (f ∷ fs) a = absurd a
alike_drop zero (e ∷ es) [] a = absurd a
alike_drop zero (e ∷ es) (f ∷ fs) a = a
alike_drop (suc n) [] [] a = tt
alike_drop (suc n) [] (f ∷ fs) a = absurd a
alike_drop (suc n) (e ∷ es) [] a = absurd a
alike_drop (suc n) (e ∷ es) (f ∷ fs) a = alike_drop n es fs (alike_tail e f es fs a)

pub alike_less : (n k : ℕ) (l : List Entry) (e : Entry) (fs : List Entry) → AreAlike (drop n l) (e ∷ fs) → k ≡ suc n
    → AreAlike (drop k l) fs
alike_less n zero l e fs a h = absurd (omega (arith, h))
alike_less n (suc k) [] e fs a h = absurd (none n a)
  where
    none : (n : ℕ) → AreAlike (drop n []) (e ∷ fs) → ⊥
    none zero a = a
    none (suc n) a = a
alike_less zero (suc k) (d ∷ l) e fs a h = subst (λ m. AreAlike (drop m l) fs) (let z : 0 ≡ k = omega (arith, h) in z)
    (subst (λ x. AreAlike x fs) (whole l) (alike_tail d e l fs a))
  where
    whole : (l : List Entry) → l ≡ drop 0 l
    whole [] = refl
    whole (x ∷ l) = refl
alike_less (suc n) (suc k) (d ∷ l) e fs a h = alike_less n k l e fs a (omega (arith, h))

pub records_alike : (c : ℕ) (es fs : List Entry) → AreAlike es fs → AreRecords c es → AreRecords c fs
records_alike zero es fs a h = tt
records_alike (suc c) [] fs a h = absurd h
records_alike (suc c) (e ∷ es) [] a h = absurd a
records_alike (suc c) (Record u ∷ es) (Record v ∷ fs) a h = records_alike c es fs a.1 h
records_alike (suc c) (Record u ∷ es) (Flipped d ∷ fs) a h = absurd a
records_alike (suc c) (Flipped d ∷ es) (f ∷ fs) a h = absurd h
