-- The trees, the oldest first.
use Rattle.std.proofs.Common.{◌≡◌, ℕ, suc, ◌-◌, ◌≤◌, List, [], ◌∷◌, ◌++◌, length, take, drop, get_or, refl, sym, ◌∙◌}
use Rattle.std.proofs.Common.{ap, subst, arith}
use Rattle.std.specs.Prelude.{reverse}
use Rattle.std.proofs.lemmas.List.{length-reverse, get_or-reverse, reverse-append, length-take-le, length-drop}
use Rattle.std.proofs.lemmas.List.{get_or-take}
use Rattle.std.proofs.lemmas.Grind.{reverse_onto}
use Rattle.dm_tree.specs.declared.rows.Row.{Row}
use Rattle.dm_tree.specs.declared.rows.Change.{Change}
use Rattle.dm_tree.specs.Rows.{IsTree}
use Rattle.dm_tree.specs.Notes.{TakesEditBack}
use Rattle.dm_undo.specs.declared.entries.Entry.{Entry}
use Rattle.dm_undo.specs.declared.entries.Entry.TheVariants.{Record, Flipped}
use Rattle.dm_undo.specs.Entries.{AreAlike, AreRecords}
use Rattle.dm_undo.specs.Trees.{stage, Stage, maps_of, flipped_back, newest_first, trees, tree_at}
use Rattle.dm_undo.specs.Sound.{AreAllHeld, AreSoundStages, IsSound}
use Rattle.dm_undo.proofs.Shapes.{rolled_alike, alike_long}
use Rattle.dm_undo.proofs.Rolls.{told_first, cut, joined, rolls_back, rolled_sound}
use Rattle.dm_undo.proofs.Helds.{rolled_held}
use Rattle.dm_undo.proofs.Notings.{noted}
use Rattle.dm_undo.proofs.Unwinds.{length-told}

reverse-drop : {A : Type 0} (n : ℕ) (l : List A) → n ≤ length l → reverse (drop n l) ≡ take (length l - n) (reverse l)
reverse-drop n l h =
    let both : reverse l ≡ reverse (drop n l) ++ reverse (take n l) = ap reverse (joined n l)
    ∙ reverse-append (take n l) (drop n l) in
    sym (cut (reverse (drop n l)) (reverse (take n l)) (reverse l) both).0 ∙ ap (λ m. take m (reverse l))
    (let s : length (reverse (drop n l)) ≡ length l - n =
    omega (arith, length-reverse (drop n l), length-drop n l) in s)

reverse-take : {A : Type 0} (n : ℕ) (l : List A) → n ≤ length l → reverse (take n l) ≡ drop (length l - n) (reverse l)
reverse-take n l h =
    let both : reverse l ≡ reverse (drop n l) ++ reverse (take n l) = ap reverse (joined n l)
    ∙ reverse-append (take n l) (drop n l) in
    sym (cut (reverse (drop n l)) (reverse (take n l)) (reverse l) both).1 ∙ ap (λ m. drop m (reverse l))
    (let s : length (reverse (drop n l)) ≡ length l - n =
    omega (arith, length-reverse (drop n l), length-drop n l) in s)

pub length-trees : (es : List Entry) (rows : List Row) → length (trees es rows) ≡ suc (length es)
unfolding trees
length-trees es rows = length-reverse (newest_first (length es) es rows) ∙ length-told (length es) es rows refl

-- the tree at a place, counted from the newest
pub at_place : (es : List Entry) (rows : List Row) (mark c : ℕ) → mark ≤ length es → c ≡ length es - mark
    → tree_at es rows mark ≡ get_or (newest_first (length es) es rows) c (maps_of [])
unfolding trees
at_place es rows mark c h e =
    let long = length-told (length es) es rows refl in
    get_or-reverse (newest_first (length es) es rows) mark (maps_of []) (omega (arith, long, h))
    ∙ ap (λ m. get_or (newest_first (length es) es rows) m (maps_of []))
    (let s : length (newest_first (length es) es rows) - 1 - mark ≡ c = omega (arith, long, h, e) in s)

-- the last one stands now
pub at_end : (es : List Entry) (rows : List Row) (mark : ℕ) → mark ≡ length es → tree_at es rows mark ≡ maps_of rows
at_end es rows mark e = at_place es rows mark 0 (omega (arith, e)) (omega (arith, e)) ∙ told_first (length es) es rows
    (maps_of [])

-- ---- the calls

pub sound-noted : (es : List Entry) (old new : List Row) (u : Change) → IsSound es old → TakesEditBack u old new
    → IsSound (Record u ∷ es) new
unfolding IsSound
sound-noted es old new u s t = (noted es old new u s t).0

pub trees-noted : (es : List Entry) (old new : List Row) (u : Change) → IsSound es old → TakesEditBack u old new
    → trees (Record u ∷ es) new ≡ trees es old ++ maps_of new ∷ []
unfolding IsSound trees
trees-noted es old new u s t = ap reverse (noted es old new u s t).1 ∙ reverse_onto (newest_first (length es) es old)
    (maps_of new) []

pub record RollBack (es es' : List Entry) (rows rows' : List Row) (mark : ℕ) : Type 0 where
  pub sound : IsSound es' rows'
  pub there : maps_of rows' ≡ tree_at es rows mark
  pub trees : trees es' rows' ≡ trees es rows ++ maps_of rows' ∷ []
  pub entries : AreAlike (Flipped (length es - mark) ∷ es) es'
  pub parked : AreAllHeld es rows → AreAllHeld es' rows'

pub rolled_back : (es back : List Entry) (rows rows' : List Row) (mark : ℕ) → mark ≤ length es
    → AreRecords (length es - mark) es → IsSound es rows
    → flipped_back (length es - mark) es rows ≡ stage back rows'
    → RollBack es (Flipped (length es - mark) ∷ back) rows rows' mark
unfolding IsSound trees
rolled_back es back rows rows' mark held plain s e =
    let c = length es - mark in
    let a = flipped_back c es rows in
    let r = rolled_sound c es rows plain s in
    let b = rolls_back c es rows plain s in
    let long : length back ≡ length es = ap (λ (x : Stage). length x.entries) (sym e)
    ∙ alike_long es a.entries (rolled_alike c es rows) in
    let both = subst (λ (x : Stage). AreSoundStages (suc (length es)) (Flipped c ∷ x.entries) x.rows ×
    (newest_first (suc (length es)) (Flipped c ∷ x.entries) x.rows ≡ maps_of x.rows ∷ newest_first
    (length es) es rows)) e r in
    record {
      sound = subst (λ n. AreSoundStages (suc n) (Flipped c ∷ back) rows') (sym long) both.0;
      there = ap (λ (x : Stage). maps_of x.rows) (sym e) ∙ sym (b.there (maps_of []))
          ∙ sym (at_place es rows mark c held refl);
      trees = ap reverse (ap (λ n. newest_first (suc n) (Flipped c ∷ back) rows') long ∙ both.1)
          ∙ reverse_onto (newest_first (length es) es rows) (maps_of rows') [];
      parked = λ all. subst (λ (x : Stage). AreAllHeld (Flipped c ∷ x.entries) x.rows) e
          (rolled_held c es rows plain s all);
      entries = (refl, subst (λ (x : Stage). AreAlike es x.entries) e (rolled_alike c es rows));
    }

pub record Unwind (es es' : List Entry) (rows rows' : List Row) (mark : ℕ) : Type 0 where
  pub sound : IsSound es' rows'
  pub there : maps_of rows' ≡ tree_at es rows mark
  pub trees : trees es' rows' ≡ take (suc mark) (trees es rows)

pub unwound : (es es' : List Entry) (rows rows' : List Row) (mark : ℕ) → mark ≤ length es → length es' ≡ mark
    → AreSoundStages mark es' rows'
    → newest_first mark es' rows' ≡ drop (length es - mark) (newest_first (length es) es rows)
    → Unwind es es' rows rows' mark
unfolding IsSound trees
unwound es es' rows rows' mark held long s t =
    let far = length-told (length es) es rows refl in
    let all : trees es' rows' ≡ take (suc mark) (trees es rows) =
    ap reverse (ap (λ n. newest_first n es' rows') long ∙ t) ∙ reverse-drop (length es - mark)
    (newest_first (length es) es rows) (omega (arith, far))
    ∙ ap (λ m. take m (reverse (newest_first (length es) es rows)))
    (let e : length (newest_first (length es) es rows) - (length es - mark) ≡ suc mark =
    omega (arith, far, held) in e) in
    record {
      sound = subst (λ n. AreSoundStages n es' rows') (sym long) s;
      there = sym (at_end es' rows' mark (sym long)) ∙ ap (λ l. get_or l mark (maps_of [])) all
          ∙ get_or-take (suc mark) (trees es rows) mark (maps_of []) (omega arith);
      trees = all;
    }

pub record Settle (es es' : List Entry) (rows rows' : List Row) (mark : ℕ) : Type 0 where
  pub sound : IsSound es' rows'
  pub there : maps_of rows' ≡ maps_of rows
  pub trees : trees es' rows' ≡ drop mark (trees es rows)

first-kept : (n m : ℕ) (es es' : List Entry) (rows rows' : List Row) → newest_first m es' rows' ≡ take (suc m)
    (newest_first n es rows) → maps_of rows' ≡ maps_of rows
first-kept n m es es' rows rows' e =
    sym (told_first m es' rows' (maps_of [])) ∙ ap (λ l. get_or l 0 (maps_of [])) e
    ∙ get_or-take (suc m) (newest_first n es rows) 0 (maps_of []) (omega arith) ∙ told_first n es rows (maps_of [])

pub settled : (es es' : List Entry) (rows rows' : List Row) (mark : ℕ) → mark ≤ length es
    → es' ≡ take (length es - mark) es → AreSoundStages (length es - mark) es' rows'
    → newest_first (length es - mark) es' rows' ≡ take (suc (length es - mark)) (newest_first (length es) es rows)
    → Settle es es' rows rows' mark
unfolding IsSound trees
settled es es' rows rows' mark held is s t =
    let far = length-told (length es) es rows refl in
    let long : length es' ≡ length es - mark = ap length is ∙ length-take-le (length es - mark) es (omega arith) in
    record {
      sound = subst (λ n. AreSoundStages n es' rows') (sym long) s;
      there = first-kept (length es) (length es - mark) es es' rows rows' t;
      trees = ap reverse (ap (λ n. newest_first n es' rows') long ∙ t) ∙ reverse-take (suc (length es - mark))
          (newest_first (length es) es rows) (omega (arith, far))
          ∙ ap (λ m. drop m (reverse (newest_first (length es) es rows)))
          (let e : length (newest_first (length es) es rows) - suc (length es - mark) ≡ mark =
          omega (arith, far, held) in e);
    }

-- ---- with the entries as the code keeps them

pub sound-kept : (items es : List Entry) (rows : List Row) → reverse items ≡ es → IsSound es rows
    → AreSoundStages (length items) (reverse items) rows
unfolding IsSound
sound-kept items es rows e s = subst (λ n. AreSoundStages n (reverse items) rows) (length-reverse items)
    (subst (λ l. AreSoundStages (length l) l rows) (sym e) s)

pub long-kept : (items es : List Entry) → reverse items ≡ es → length items ≡ length es
long-kept items es e = sym (length-reverse items) ∙ ap length e

pub told-kept : (items es : List Entry) (rows : List Row) → reverse items ≡ es
    → newest_first (length items) (reverse items) rows ≡ newest_first (length es) es rows
told-kept items es rows e = ap (λ n. newest_first n (reverse items) rows) (long-kept items es e)
    ∙ ap (λ l. newest_first (length es) l rows) e

pub sound-first : (es : List Entry) (rows : List Row) → es ≡ [] → IsTree rows
    → IsSound es rows × (trees es rows ≡ maps_of rows ∷ [])
unfolding IsSound trees
sound-first es rows e tree = subst (λ l. AreSoundStages (length l) l rows ×
    (reverse (newest_first (length l) l rows) ≡ maps_of rows ∷ [])) (sym e) (tree, refl)
