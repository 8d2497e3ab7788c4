-- The laws.
use Rattle.std.proofs.Common.{◌≡◌, ℕ, zero, suc, ◌+◌, ◌-◌, ◌≤◌, List, [], ◌∷◌, ◌++◌, length, get_or, refl, sym, ◌∙◌, ap}
use Rattle.std.proofs.Common.{subst, arith}
use Rattle.std.proofs.lemmas.Grind.{reverse_onto}
use Rattle.std.proofs.lemmas.List.{length-append}
use Rattle.dm_tree.specs.declared.rows.Row.{Row}
use Rattle.dm_tree.specs.declared.rows.Change.{Change}
use Rattle.dm_tree.specs.Undos.{flipped, turned}
use Rattle.dm_tree.proofs.UndoFlips.{flipped_twice, turned_twice}
use Rattle.dm_undo.specs.declared.entries.Entry.{Entry}
use Rattle.dm_undo.specs.declared.entries.Entry.TheVariants.{Record, Flipped}
use Rattle.dm_undo.specs.Trees.{Stage, maps_of, onto, flipped_back, flipped_forward, newest_first, trees, tree_at}
use Rattle.dm_undo.specs.Sound.{FitForward, FitsEntry, AreSoundStages, IsSound}
use Rattle.dm_undo.specs.Laws.{EachPlaceHasATree, RecordsLeadBack, RollBacksReturn, RolledBackRecordsLeadForward}
use Rattle.dm_undo.proofs.Shapes.{redone_alike, records_alike, records_long, alike_long}
use Rattle.dm_undo.proofs.Steps.{partly, partly_none, records_less}
use Rattle.dm_undo.proofs.Rolls.{rolls_back}
use Rattle.dm_undo.proofs.Told.{length-trees, at_place, at_end}

pub each_place_has_a_tree : EachPlaceHasATree
each_place_has_a_tree es rows = (length-trees es rows, at_end es rows (length es) refl)

pub records_lead_back : RecordsLeadBack
unfolding IsSound trees
records_lead_back es rows u s =
    (s.1.0.0, (s.1.1, reverse_onto (newest_first (length es) es (flipped rows u)) (maps_of rows) []))

-- ---- flipped forward and some of it back again

forward_back : (k j n : ℕ) → n ≡ k + j → (es : List Entry) (rows : List Row) → FitForward n es rows
    → flipped_back k (flipped_forward n es rows).entries (flipped_forward n es rows).rows ≡ partly k j es rows
forward_back zero j n e es rows f = ap (λ m. flipped_forward m es rows) (let same : n ≡ j = omega (arith, e) in same)
forward_back (suc k) j zero e es rows f = absurd (omega (arith, e))
forward_back (suc k) j (suc n) e [] rows f = refl
forward_back (suc k) j (suc n) e (Record u ∷ es) rows f =
    let a = flipped_forward n es rows in
    ap (λ (v : Change). onto (Record v) (flipped_back k a.entries (flipped (flipped a.rows u) (turned a.rows u))))
    (turned_twice a.rows u f.1.inside)
    ∙ ap (λ (r : List Row). onto (Record u) (flipped_back k a.entries r))
    (flipped_twice a.rows u f.1.inside f.1.ready)
    ∙ ap (onto (Record u)) (forward_back k j n (omega (arith, e)) es rows f.0)
forward_back (suc k) j (suc n) e (Flipped d ∷ es) rows f =
    ap (onto (Flipped d)) (forward_back k j n (omega (arith, e)) es rows f.0)

-- the tree at a place before a roll back: k of the records that it took back stay so, the j older ones are done again
place_forward : (es : List Entry) (rows : List Row) (c k j place : ℕ) → IsSound (Flipped c ∷ es) rows → c ≡ k + j
    → place ≤ length es → k ≡ length es - place
    → tree_at (Flipped c ∷ es) rows place ≡ maps_of (partly k j es rows).rows
unfolding IsSound
place_forward es rows c k j place s e held at =
    let a = flipped_forward c es rows in
    let alike = redone_alike c es rows in
    let long = alike_long es a.entries alike in
    let records = records_less k c (omega (arith, e)) a.entries (records_alike c es a.entries alike s.1.0.0) in
    let back = rolls_back k a.entries a.rows records
    (subst (λ n. AreSoundStages n a.entries a.rows) (sym long) s.1.1) in
    at_place (Flipped c ∷ es) rows place (suc k) (omega (arith, held)) (omega (arith, held, at))
    ∙ ap (λ n. get_or (newest_first n a.entries a.rows) k (maps_of [])) (sym long) ∙ back.there (maps_of [])
    ∙ ap (λ (x : Stage). maps_of x.rows) (forward_back k j c e es rows s.1.0.1)

pub roll_backs_return : RollBacksReturn
unfolding IsSound
roll_backs_return es rows c s =
    let within = records_long c es s.1.0.0 in
    sym (place_forward es rows c c 0 (length es - c) s (omega arith) (omega arith) (omega (arith, within))
    ∙ ap (λ (x : Stage). maps_of x.rows) (partly_none c es rows))

-- ---- a record among those that are done again

partly_above : (newer older : List Entry) (j : ℕ) (rows : List Row)
    → (partly (length newer) j (newer ++ older) rows).rows ≡ (flipped_forward j older rows).rows
partly_above [] older j rows = refl
partly_above (e ∷ newer) older j rows = partly_above newer older j rows

partly_behind : (newer older : List Entry) (e : Entry) (j : ℕ) (rows : List Row)
    → (partly (suc (length newer)) j (newer ++ e ∷ older) rows).rows ≡ (flipped_forward j older rows).rows
partly_behind [] older e j rows = refl
partly_behind (d ∷ newer) older e j rows = partly_behind newer older e j rows

fits_between : (newer older : List Entry) (e : Entry) (n j : ℕ) (rows : List Row) → n ≡ length newer + suc j
    → FitForward n (newer ++ e ∷ older) rows → FitsEntry e (flipped_forward j older rows).rows
fits_between [] older e zero j rows is f = absurd (omega (arith, is))
fits_between [] older e (suc n) j rows is f =
    subst (λ m. FitsEntry e (flipped_forward m older rows).rows) (let same : n ≡ j = omega (arith, is) in same) f.1
fits_between (d ∷ newer) older e zero j rows is f = absurd (omega (arith, is))
fits_between (d ∷ newer) older e (suc n) j rows is f = fits_between newer older e n j rows (omega (arith, is)) f.0

pub rolled_back_records_lead_forward : RolledBackRecordsLeadForward
unfolding IsSound
rolled_back_records_lead_forward newer older rows u c s within =
    let j = c - suc (length newer) in
    let es = newer ++ Record u ∷ older in
    let long : length es ≡ length newer + suc (length older) = length-append newer (Record u ∷ older) in (
      fits_between newer older (Record u) c j rows (omega (arith, within)) s.1.0.1,
      (
        place_forward es rows c (suc (length newer)) j (length older) s (omega (arith, within)) (omega (arith, long))
            (omega (arith, long)) ∙ ap maps_of (partly_behind newer older (Record u) j rows),
        place_forward es rows c (length newer) (suc j) (suc (length older)) s (omega (arith, within))
            (omega (arith, long)) (omega (arith, long))
            ∙ ap maps_of (partly_above newer (Record u ∷ older) (suc j) rows),
      ),
    )
