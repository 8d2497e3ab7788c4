-- What is parked is held.
use Rattle.std.proofs.Common.{◌≡◌, ℕ, zero, suc, ◌<◌, true, false, List, [], ◌∷◌, ◌++◌, length, refl, sym, ◌∙◌, ap}
use Rattle.std.proofs.Common.{subst, arith, Some, inl, inr}
use Rattle.std.specs.Prelude.{◌⊎◌, reverse}
use Rattle.std.proofs.lemmas.List.{get_or-set_same, get_or-set_other}
use Rattle.std.proofs.Math.ListN.{set, length-set}
use Rattle.dm_tree.specs.declared.rows.Row.{Row}
use Rattle.dm_tree.specs.declared.rows.Change.{Change}
use Rattle.dm_tree.specs.declared.rows.Change.TheVariants as change
use Rattle.dm_tree.specs.Rows.{blank, row_at, IsParkedTop}
use Rattle.dm_tree.proofs.GivenUpRows.{self_below}
use Rattle.dm_tree.specs.Rows.{path_below}
use Rattle.dm_tree.specs.Undos.{row_of, flipped, turned, Fits}
use Rattle.dm_tree.specs.Notes.{Stays, TakesEditBack, held_by}
use Rattle.dm_tree.proofs.Paths.{same_or_not}
use Rattle.dm_tree.proofs.NodeEdits.{of_both}
use Rattle.dm_undo.specs.declared.entries.Entry.{Entry}
use Rattle.dm_undo.specs.declared.entries.Entry.TheVariants.{Record, Flipped}
use Rattle.dm_undo.specs.Giving.{LeavesRow}
use Rattle.dm_undo.proofs.Unwinds.{last_first}
use Rattle.dm_undo.specs.Entries.{AreRecords, IsHeldIn, held_top}
use Rattle.dm_undo.specs.Trees.{stage, Stage, flipped_back, flipped_forward}
use Rattle.dm_undo.specs.Sound.{FitForward, AreAllHeld, AreSoundStages}

set_before : (rows : List Row) (j : ℕ) (r : Row) → j < length rows → r.attached ≡ (row_at rows j).attached
    → r.given_up ≡ (row_at rows j).given_up → (k : ℕ) → IsParkedTop (set rows j r) k → IsParkedTop rows k
set_before rows j r l a g k p = record {
  below_root = p.below_root;
  inside = omega (arith, p.inside, length-set rows j r);
  out = sym (of_both rows j r (λ s. s.attached) a k l) ∙ p.out;
  held = sym (of_both rows j r (λ s. s.given_up) g k l) ∙ p.held;
}

other_before : (rows : List Row) (j : ℕ) (r : Row) (k : ℕ) → (k ≡ j → ⊥) → IsParkedTop (set rows j r) k
    → IsParkedTop rows k
other_before rows j r k d p =
    let here = get_or-set_other rows j k r blank d in
    record {
      below_root = p.below_root;
      inside = omega (arith, p.inside, length-set rows j r);
      out = ap (λ (s : Row). s.attached) (sym here) ∙ p.out;
      held = ap (λ (s : Row). s.given_up) (sym here) ∙ p.held;
    }

-- what is parked after a flip is what the flip has parked, or was before
unparked : (rows : List Row) (u : Change) → row_of u < length rows → (k : ℕ) → IsParkedTop (flipped rows u) k
    → (held_by (turned rows u) ≡ Some k) ⊎ (IsParkedTop rows k × (held_by u ≡ Some k → ⊥))
unparked rows (change.Value j value verno stamp) l k p = inr (set_before rows j _ l refl refl k p, λ e. absurd (cc))
unparked rows (change.Bytes j bytes verno stamp) l k p = inr (set_before rows j _ l refl refl k p, λ e. absurd (cc))
unparked rows (change.Acl j acl verno stamp) l k p = inr (set_before rows j _ l refl refl k p, λ e. absurd (cc))
unparked rows (change.Title j title verno stamp) l k p = inr (set_before rows j _ l refl refl k p, λ e. absurd (cc))
unparked rows (change.Name j name verno stamp) l k p = inr (set_before rows j _ l refl refl k p, λ e. absurd (cc))
unparked rows (change.TakeOut j) l k p = elim (same_or_not k j) [
  | inl e ↦ inl (ap (λ i. Some i) (sym e))
  | inr d ↦ inr (other_before rows j (record (row_at rows j) { attached = false }) k d p, λ e. absurd (cc))
]
unparked rows (change.PutIn j) l k p = elim (same_or_not k j) [
  | inl e ↦ absurd (let in_it : (row_at (flipped rows (change.PutIn j)) k).attached ≡ true =
      ap (λ i. (row_at (flipped rows (change.PutIn j)) i).attached) e ∙ ap (λ (r : Row). r.attached)
      (get_or-set_same rows j (record (row_at rows j) { attached = true }) blank l) in let out = p.out in cc)
  | inr d ↦ inr (
    other_before rows j (record (row_at rows j) { attached = true }) k d p,
    λ e. d
        (let s : j ≡ k = cc in sym s),
  )
]

-- held by one of these entries, or otherwise
AllIn : (ℕ → Type 0) → List Entry → List Row → Type 0
AllIn q es rows = (k : ℕ) → IsParkedTop rows k → q k ⊎ IsHeldIn k es

redone_in : (c : ℕ) (q : ℕ → Type 0) (es : List Entry) (rows : List Row) → FitForward c es rows → AllIn q es rows
    → AllIn q (flipped_forward c es rows).entries (flipped_forward c es rows).rows
unfolding AllIn
redone_in zero q es rows f h = h
redone_in (suc c) q [] rows f h = h
redone_in (suc c) q (Record u ∷ es) rows f h = λ k p.
    let a = flipped_forward c es rows in
    let less = redone_in c (λ i. q i ⊎ (held_by u ≡ Some i)) es rows f.0
    (λ i r. elim (h i r) [ inl x ↦ inl (inl x) | inr y ↦ elim y [ inl e ↦ inl (inr e) | inr z ↦ inr z ] ]) in
    elim (unparked a.rows u f.1.inside k p) [
      | inl e ↦ inr (inl e)
      | inr r ↦ elim (less k r.0) [ inl x ↦ elim x [ inl y ↦ inl y | inr e ↦ absurd (r.1 e) ] | inr z ↦ inr (inr z) ]
    ]
redone_in (suc c) q (Flipped d ∷ es) rows f h = λ k p.
    elim (redone_in c q es rows f.0
    (λ i r. elim (h i r) [ inl x ↦ inl x | inr y ↦ elim y [ inl e ↦ absurd (cc) | inr z ↦ inr z ] ]) k p)
    [ inl x ↦ inl x | inr z ↦ inr (inr z) ]

rolled_in : (c : ℕ) (q : ℕ → Type 0) (es : List Entry) (rows : List Row) → AreRecords c es
    → AreSoundStages (length es) es rows → AllIn q es rows → AllIn q (flipped_back c es rows).entries
    (flipped_back c es rows).rows
unfolding AllIn
rolled_in zero q es rows r s h = h
rolled_in (suc c) q [] rows r s h = absurd r
rolled_in (suc c) q (Flipped d ∷ es) rows r s h = absurd r
rolled_in (suc c) q (Record u ∷ es) rows r s h = λ k p.
    let v = turned rows u in
    let one = λ (i : ℕ) (x : IsParkedTop (flipped rows u) i). elim (unparked rows u s.1.0.0.inside i x)
    as (λ _. (q i ⊎ (held_by v ≡ Some i)) ⊎ IsHeldIn i es) [
      | inl e ↦ inl (inr e)
      | inr y ↦ elim (h i y.0) [ inl z ↦ inl (inl z) | inr w ↦ elim w [ inl e ↦ absurd (y.1 e) | inr g ↦ inr g ] ]
    ] in
    elim (rolled_in c (λ i. q i ⊎ (held_by v ≡ Some i)) es (flipped rows u) r s.1.1 one k p) [
      | inl x ↦ elim x [ inl y ↦ inl y | inr e ↦ inr (inl e) ]
      | inr z ↦ inr (inr z)
    ]

or_held : (k : ℕ) (es : List Entry) → ⊥ ⊎ IsHeldIn k es → IsHeldIn k es
or_held k es (inl x) = absurd x
or_held k es (inr h) = h

pub redone_held : (c : ℕ) (es : List Entry) (rows : List Row) → FitForward c es rows → AreAllHeld es rows
    → AreAllHeld (flipped_forward c es rows).entries (flipped_forward c es rows).rows
unfolding AllIn
redone_held c es rows f h k p = or_held k (flipped_forward c es rows).entries
    (redone_in c (λ _. ⊥) es rows f (λ i x. inr (h i x)) k p)

pub rolled_held : (c : ℕ) (es : List Entry) (rows : List Row) → AreRecords c es → AreSoundStages (length es) es rows
    → AreAllHeld es rows → AreAllHeld (Flipped c ∷ (flipped_back c es rows).entries) (flipped_back c es rows).rows
unfolding AllIn
rolled_held c es rows r s h k p =
    inr (or_held k (flipped_back c es rows).entries (rolled_in c (λ _. ⊥) es rows r s (λ i x. inr (h i x)) k p))

pub noted_held : (es : List Entry) (old new : List Row) (u : Change) → TakesEditBack u old new → AreAllHeld es old
    → AreAllHeld (Record u ∷ es) new
noted_held es old new u t h k p = elim (t.only k p) [ inl x ↦ inr (h k x) | inr e ↦ inl e ]

goes : (rows : List Row) (v : Change) (k : ℕ) → Stays rows v k → held_by v ≡ Some k → ⊥
goes rows (change.PutIn j) k s e =
    let same : j ≡ k = cc in
    absurd (let some : path_below rows j k ≡ Some [] = ap (path_below rows j) (sym same)
    ∙ self_below rows (row_at rows j).depth j in cc)
goes rows (change.TakeOut j) k s e = absurd (cc)
goes rows (change.Value j value verno stamp) k s e = absurd (cc)
goes rows (change.Bytes j bytes verno stamp) k s e = absurd (cc)
goes rows (change.Acl j acl verno stamp) k s e = absurd (cc)
goes rows (change.Title j title verno stamp) k s e = absurd (cc)
goes rows (change.Name j name verno stamp) k s e = absurd (cc)

-- a record is taken off, and what it held then given up
pub taken_held : (es : List Entry) (u : Change) (rows rows' : List Row) → Fits rows u
    → ((k : ℕ) → IsParkedTop rows' k → IsParkedTop (flipped rows u) k × Stays (flipped rows u) (turned rows u) k)
    → AreAllHeld (Record u ∷ es) rows → AreAllHeld es rows'
taken_held es u rows rows' f g h k p =
    let x = g k p in
    elim (unparked rows u f.inside k x.0) [
      | inl e ↦ absurd (goes (flipped rows u) (turned rows u) k x.1 e)
      | inr y ↦ elim (h k y.0) [ inl e ↦ absurd (y.1 e) | inr i ↦ i ]
    ]

leaves_not : (rows : List Row) (e : Entry) (k : ℕ) → LeavesRow rows e k → held_top e ≡ Some k → ⊥
leaves_not rows (Record u) k l h = goes rows u k l h
leaves_not rows (Flipped c) k l h = absurd (cc)

held_either : (k : ℕ) (l : List Entry) (e : Entry) → IsHeldIn k (l ++ e ∷ []) → IsHeldIn k l ⊎ (held_top e ≡ Some k)
held_either k [] e (inl h) = inr h
held_either k [] e (inr h) = absurd h
held_either k (x ∷ l) e (inl h) = inl (inl h)
held_either k (x ∷ l) e (inr h) = elim (held_either k l e h) [ inl i ↦ inl (inr i) | inr j ↦ inr j ]

pub given_held : (items items' : List Entry) (e : Entry) (rows rows' : List Row) → items ≡ items' ++ e ∷ []
    → ((k : ℕ) → IsParkedTop rows' k → IsParkedTop rows k × LeavesRow rows e k)
    → AreAllHeld items rows → AreAllHeld items' rows'
given_held items items' e rows rows' is g h k p =
    let x = g k p in
    elim (held_either k items' e (subst (IsHeldIn k) is (h k x.0)))
    [ inl i ↦ i | inr j ↦ absurd (leaves_not rows e k x.1 j) ]

-- ---- with the entries as the code keeps them

pub unwound_held-record : (items items' : List Entry) (u : Change) (rows rows' : List Row)
    → items ≡ items' ++ Record u ∷ [] → Fits rows u
    → ((k : ℕ) → IsParkedTop rows' k → IsParkedTop (flipped rows u) k × Stays (flipped rows u) (turned rows u) k)
    → AreAllHeld (reverse items) rows → AreAllHeld (reverse items') rows'
unwound_held-record items items' u rows rows' is f g h = taken_held (reverse items') u rows rows' f g
    (subst (λ l. AreAllHeld l rows) (ap reverse is ∙ last_first items' (Record u)) h)

no_flip : (c : ℕ) (es : List Entry) (rows : List Row) → AreAllHeld (Flipped c ∷ es) rows → AreAllHeld es rows
no_flip c es rows h k p = elim (h k p) [ inl e ↦ absurd (cc) | inr i ↦ i ]

pub unwound_held-flipped : (items items' new : List Entry) (c : ℕ) (rows rows' : List Row)
    → items ≡ items' ++ Flipped c ∷ [] → FitForward c (reverse items') rows
    → flipped_forward c (reverse items') rows ≡ stage (reverse new) rows'
    → AreAllHeld (reverse items) rows → AreAllHeld (reverse new) rows'
unwound_held-flipped items items' new c rows rows' is f e h =
    subst (λ (a : Stage). AreAllHeld a.entries a.rows) e
    (redone_held c (reverse items') rows f
    (no_flip c (reverse items') rows
    (subst (λ l. AreAllHeld l rows) (ap reverse is ∙ last_first items' (Flipped c)) h)))
