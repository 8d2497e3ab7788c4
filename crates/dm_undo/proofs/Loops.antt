-- One turn of each loop over entries.
use Rattle.std.proofs.Common.{◌≡◌, ℕ, suc, ◌+◌, ◌-◌, ◌<◌, ◌≤◌, List, length, get_or, sym, ◌∙◌, ap, subst, arith}
use Rattle.std.specs.Prelude.{reverse}
use Rattle.std.proofs.Math.ListN.{set}
use Rattle.std.proofs.lemmas.List.{length-reverse, get_or-reverse}
use Rattle.dm_tree.specs.declared.rows.Row.{Row}
use Rattle.dm_tree.specs.declared.rows.Change.{Change}
use Rattle.dm_tree.specs.Undos.{flipped, turned, Fits}
use Rattle.dm_undo.specs.declared.entries.Entry.{Entry}
use Rattle.dm_undo.specs.declared.entries.Entry.TheVariants.{Record, Flipped}
use Rattle.dm_undo.specs.Entries.{AreRecords}
use Rattle.dm_undo.specs.Trees.{stage, Stage, flipped_back, turned_in, flipped_by}
use Rattle.dm_undo.specs.Sound.{FitForward, FitsEntry, AreSoundStages}
use Rattle.dm_undo.proofs.Steps.{set_reverse, records_less, steps_back, partly, steps_forth, partly_none}

entry_at : (items : List Entry) (k c : ℕ) → k < length items → c ≡ length items - 1 - k
    → get_or (reverse items) c (Flipped 0) ≡ get_or items k (Flipped 0)
entry_at items k c l e =
    get_or-reverse items c (Flipped 0) (omega (arith, l, e)) ∙ ap (λ n. get_or items n (Flipped 0))
    (let s : length items - 1 - c ≡ k = omega (arith, l, e) in s)

set_at : (items : List Entry) (k c : ℕ) (x : Entry) → k < length items → c ≡ length items - 1 - k
    → set (reverse items) c x ≡ reverse (set items k x)
set_at items k c x l e = ap (λ n. set (reverse items) n x) e ∙ sym (set_reverse items k x l)

-- ---- back

pub record Back (items0 items : List Entry) (rows0 rows : List Row) (k : ℕ) : Type 0 where
  pub undo : Change
  pub is : get_or items k (Flipped 0) ≡ Record undo
  pub fits : Fits rows undo
  pub next : flipped_back (length items0 - k) (reverse items0) rows0
      ≡ stage (reverse (set items k (Record (turned rows undo)))) (flipped rows undo)

pub back : (items0 items : List Entry) (rows0 rows : List Row) (start n k : ℕ) → AreRecords (length items0 - start)
    (reverse items0) → AreSoundStages (length items0) (reverse items0) rows0
    → start ≤ k → n ≡ suc k → n ≤ length items0 → length items ≡ length items0 → flipped_back (length items0 - n)
    (reverse items0) rows0 ≡ stage (reverse items) rows
    → Back items0 items rows0 rows k
back items0 items rows0 rows start n k records sound low next high long here =
    let c = length items0 - n in
    let es = reverse items0 in
    let s = steps_back c es rows0 (records_less (suc c) (length items0 - start) (omega (arith, low, next, high)) es
    records) (subst (λ m. AreSoundStages m es rows0) (sym (length-reverse items0)) sound) in
    let l : k < length items = omega (arith, next, high, long) in
    let at : c ≡ length items - 1 - k = omega (arith, next, high, long) in
    let more : length items0 - k ≡ suc c = omega (arith, next, high) in
    record {
      undo = s.undo;
      is = sym (entry_at items k c l at) ∙ ap (λ (a : Stage). get_or a.entries c (Flipped 0)) (sym here) ∙ s.is;
      fits = subst (λ (a : Stage). Fits a.rows s.undo) here s.fits;
      next = ap (λ m. flipped_back m es rows0) more ∙ s.next
          ∙ ap (λ (a : Stage). stage (set a.entries c (Record (turned a.rows s.undo))) (flipped a.rows s.undo)) here
          ∙ ap (λ l. stage l (flipped rows s.undo))
          (set_at items k c (Record (turned rows s.undo)) l at);
    }

-- ---- forth

pub record Forth (items0 items : List Entry) (rows0 rows : List Row) (start k : ℕ) (e : Entry) : Type 0 where
  pub fits : FitsEntry e rows
  pub next : partly (length items0 - (k + 1)) (k + 1 - start) (reverse items0) rows0
      ≡ stage (reverse (set items k (turned_in rows e))) (flipped_by e rows)

pub forth_at : (items0 items : List Entry) (rows0 rows : List Row) (count start k : ℕ) → count ≤ length items0
    → start ≡ length items0 - count → FitForward count (reverse items0) rows0
    → start ≤ k → k < length items0 → length items ≡ length items0 → partly (length items0 - k) (k - start)
    (reverse items0) rows0 ≡ stage (reverse items) rows
    → (e : Entry) → get_or items k (Flipped 0) ≡ e → Forth items0 items rows0 rows start k e
forth_at items0 items rows0 rows count start k within first fit low high long here e is =
    let i = length items0 - (k + 1) in
    let j = k - start in
    let es = reverse items0 in
    let l : k < length items = omega (arith, high, long) in
    let at : i ≡ length items - 1 - k = omega (arith, high, long) in
    let one : length items0 - k ≡ suc i = omega (arith, high) in
    let here' : partly (suc i) j es rows0 ≡ stage (reverse items) rows =
    ap (λ m. partly m j es rows0) (sym one) ∙ here in
    let s = steps_forth i j es rows0 count (omega (arith, within, first, low, high))
    (omega (arith, within, length-reverse items0)) fit e
    (ap (λ (a : Stage). get_or a.entries i (Flipped 0)) here' ∙ entry_at items k i l at ∙ is) in
    let more : k + 1 - start ≡ suc j = omega (arith, low) in
    record {
      fits = subst (λ (a : Stage). FitsEntry e a.rows) here' s.fits;
      next = ap (λ m. partly i m es rows0) more ∙ s.next
          ∙ ap (λ (a : Stage). stage (set a.entries i (turned_in a.rows e)) (flipped_by e a.rows))
          here'
          ∙ ap (λ l. stage l (flipped_by e rows)) (set_at items k i (turned_in rows e) l at);
    }

pub none_forth : (items : List Entry) (rows : List Row) (count n : ℕ) → n ≡ length items → count ≤ length items
    → partly (length items - (n - count)) (n - count - (length items - count))
    (reverse items) rows ≡ stage (reverse items) rows
none_forth items rows count n e l =
    ap (λ m. partly (length items - (n - count)) m (reverse items) rows)
    (let z : n - count - (length items - count) ≡ 0 = omega (arith, e, l) in z)
    ∙ partly_none (length items - (n - count)) (reverse items) rows

-- the entry there is a record, whose undo fits
pub back_record : (items0 items : List Entry) (rows0 rows : List Row) (k : ℕ) → Back items0 items rows0 rows k
    → (u : Change) → get_or items k (Flipped 0) ≡ Record u
    → Fits rows u × (flipped_back (length items0 - k) (reverse items0) rows0
    ≡ stage (reverse (set items k (Record (turned rows u)))) (flipped rows u))
back_record items0 items rows0 rows k b u e =
    let both : Record b.undo ≡ Record u = sym b.is ∙ e in
    let same : b.undo ≡ u = cc in (
      subst (Fits rows) same b.fits,
      b.next
          ∙ ap (λ v. stage (reverse (set items k (Record (turned rows v)))) (flipped rows v)) same,
    )
