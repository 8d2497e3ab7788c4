-- The loops over entries, one entry at a time.
use Rattle.std.proofs.Common.{◌≡◌, ℕ, zero, suc, ◌+◌, ◌-◌, ◌<◌, ◌≤◌, List, [], ◌∷◌, ◌++◌, length, get_or, refl, sym}
use Rattle.std.proofs.Common.{◌∙◌, ap, subst, arith}
use Rattle.std.specs.Prelude.{reverse}
use Rattle.std.proofs.Math.ListN.{set}
use Rattle.std.proofs.lemmas.List.{set-append_left, set_at, length-reverse}
use Rattle.std.proofs.lemmas.Grind.{reverse_onto}
use Rattle.dm_tree.specs.declared.rows.Row.{Row}
use Rattle.dm_tree.specs.declared.rows.Change.{Change}
use Rattle.dm_tree.specs.Undos.{flipped, turned, Fits}
use Rattle.dm_undo.specs.declared.entries.Entry.{Entry}
use Rattle.dm_undo.specs.declared.entries.Entry.TheVariants.{Record, Flipped}
use Rattle.dm_undo.specs.Entries.{AreRecords}
use Rattle.dm_undo.specs.Trees.{stage, Stage, flipped_back, flipped_forward, onto, turned_in, flipped_by}
use Rattle.dm_undo.specs.Sound.{FitForward, FitsEntry, AreSoundStages}

pub set_reverse : {A : Type 0} (xs : List A) (k : ℕ) (x : A) → k < length xs → reverse (set xs k x) ≡ set (reverse xs)
    (length xs - 1 - k) x
set_reverse [] k x l = absurd (omega (arith, l))
set_reverse (y ∷ ys) zero x l =
    let at : suc (length ys) - 1 - 0 ≡ length (reverse ys) = omega (arith, length-reverse ys) in
    reverse_onto ys x [] ∙ sym (set_at (reverse ys) y [] x (length (reverse ys)) refl)
    ∙ ap (λ n. set (reverse ys ++ y ∷ []) n x) (sym at)
    ∙ ap (λ l. set l (suc (length ys) - 1 - 0) x) (sym (reverse_onto ys y []))
set_reverse (y ∷ ys) (suc k) x l =
    let at : length ys - 1 - k ≡ suc (length ys) - 1 - suc k = omega arith in
    reverse_onto (set ys k x) y [] ∙ ap (λ l. l ++ y ∷ []) (set_reverse ys k x (omega (arith, l)))
    ∙ sym (set-append_left (reverse ys) (y ∷ []) (length ys - 1 - k) x (omega (arith, length-reverse ys, l)))
    ∙ ap (λ n. set (reverse ys ++ y ∷ []) n x) at ∙ ap (λ l. set l (suc (length ys) - 1 - suc k) x)
    (sym (reverse_onto ys y []))

-- ---- back

pub records_less : (c d : ℕ) → c ≤ d → (es : List Entry) → AreRecords d es → AreRecords c es
records_less zero d l es h = tt
records_less (suc c) zero l es h = absurd (omega (arith, l))
records_less (suc c) (suc d) l [] h = absurd h
records_less (suc c) (suc d) l (Record u ∷ es) h = records_less c d (omega (arith, l)) es h
records_less (suc c) (suc d) l (Flipped n ∷ es) h = absurd h

pub record StepsBack (c : ℕ) (es : List Entry) (rows : List Row) : Type 0 where
  pub undo : Change
  pub is : get_or (flipped_back c es rows).entries c (Flipped 0) ≡ Record undo
  pub fits : Fits (flipped_back c es rows).rows undo
  pub next : flipped_back (suc c) es rows
      ≡ stage (set (flipped_back c es rows).entries c (Record (turned (flipped_back c es rows).rows undo)))
      (flipped (flipped_back c es rows).rows undo)

pub steps_back : (c : ℕ) (es : List Entry) (rows : List Row) → AreRecords (suc c) es
    → AreSoundStages (length es) es rows → StepsBack c es rows
steps_back zero [] rows r s = absurd r
steps_back zero (Record u ∷ es) rows r s = record { undo = u; is = refl; fits = s.1.0.0; next = refl }
steps_back zero (Flipped n ∷ es) rows r s = absurd r
steps_back (suc c) [] rows r s = absurd r
steps_back (suc c) (Record u ∷ es) rows r s =
    let t = steps_back c es (flipped rows u) r s.1.1 in
    record { undo = t.undo; is = t.is; fits = t.fits; next = ap (onto (Record (turned rows u))) t.next }
steps_back (suc c) (Flipped n ∷ es) rows r s = absurd r

-- ---- forth

-- the first i entries are left, the j behind them are flipped forth
abbrev pub partly : ℕ → ℕ → List Entry → List Row → Stage
partly zero j es rows = flipped_forward j es rows
partly (suc i) j [] rows = stage [] rows
partly (suc i) j (e ∷ es) rows = onto e (partly i j es rows)

pub partly_none : (i : ℕ) (es : List Entry) (rows : List Row)
    → partly i 0 es rows ≡ stage es rows
partly_none zero es rows = refl
partly_none (suc i) [] rows = refl
partly_none (suc i) (e ∷ es) rows = ap (onto e) (partly_none i es rows)

pub record StepsForth (i j : ℕ) (es : List Entry) (rows : List Row) (e : Entry) : Type 0 where
  pub fits : FitsEntry e (partly (suc i) j es rows).rows
  pub next : partly i (suc j) es rows
      ≡ stage (set (partly (suc i) j es rows).entries i (turned_in (partly (suc i) j es rows).rows e))
      (flipped_by e (partly (suc i) j es rows).rows)

pub steps_forth : (i j : ℕ) (es : List Entry) (rows : List Row) (n : ℕ) → n ≡ suc (i + j) → n ≤ length es
    → FitForward n es rows
    → (e : Entry) → get_or (partly (suc i) j es rows).entries i (Flipped 0) ≡ e → StepsForth i j es rows e
steps_forth i j [] rows n a l f e is = absurd (omega (arith, a, l))
steps_forth zero j (d ∷ es) rows zero a l f e is = absurd (omega (arith, a))
steps_forth zero j (d ∷ es) rows (suc n) a l f e is =
    let same : n ≡ j = omega (arith, a) in
    let fits : FitsEntry d (flipped_forward j es rows).rows =
    subst (λ m. FitsEntry d (flipped_forward m es rows).rows) same f.1 in
    record {
      fits = subst (λ x. FitsEntry x (flipped_forward j es rows).rows) is fits;
      next = ap (λ x. stage (turned_in (flipped_forward j es rows).rows x ∷ (flipped_forward j es rows).entries)
          (flipped_by x (flipped_forward j es rows).rows)) is;
    }
steps_forth (suc i) j (d ∷ es) rows zero a l f e is = absurd (omega (arith, a))
steps_forth (suc i) j (d ∷ es) rows (suc n) a l f e is =
    let t = steps_forth i j es rows n (omega (arith, a)) (omega (arith, l)) f.0 e is in
    record { fits = t.fits; next = ap (onto d) t.next }
