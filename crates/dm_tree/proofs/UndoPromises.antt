-- What an edit promises of its Undo, and what a discard leaves to the others.
use Rattle.dm_tree.specs.declared.rows.Change.TheVariants as change
use Rattle.dm_tree.specs.Notes.{IsFresh, BeginsClear, held_by}
use Rattle.dm_tree.proofs.Common.{nodes, ids, ◌≡◌, ℕ, ◌<◌, true, false, List, length, refl, sym, ◌∙◌, ap, subst, arith}
use Rattle.dm_tree.proofs.Common.{inl, inr, None, Some, length-set, get_or-set_other, Row, Change}
use Rattle.dm_tree.proofs.Common.{blank, row_at, IsTree, IsLive, IsParkedTop, emptied, attached_as, without_content}
use Rattle.dm_tree.proofs.Common.{row_of, flipped, turned, Fits, TakesBack, GoesAlike, TakesEditBack, IsUsed, IsClear}
use Rattle.dm_tree.proofs.Paths.{same_or_not}
use Rattle.dm_tree.proofs.SubtreeCuts.{live_attached, still_attached}
use Rattle.dm_tree.proofs.FlippedRows.{other_row, kin-flipped}
use Rattle.dm_tree.proofs.ClearRows.{clear-less, live-clear}
use Rattle.dm_tree.proofs.NodeEdits.{of_both, live_row}
use Rattle.dm_tree.proofs.UndoFlips.{again, held_then, length-flipped, row_turned, parked_top-same}
use Rattle.dm_tree.proofs.FlipsBeside.{set-lasts, alike-beside, IsReason}
use Rattle.dm_tree.proofs.GivenUpRows.{tree-given_up, nodes-given_up, ids-given_up}

-- ---- what a discard leaves to Undos of other rows

-- a flip leaves parked what it doesn't speak of
pub parked-flipped : (rows : List Row) (u : Change) (k : ℕ) → (row_of u ≡ k → ⊥) → IsParkedTop rows k
    → IsParkedTop (flipped rows u) k
parked-flipped rows u k d p =
    parked_top-same rows (flipped rows u) k (omega (arith, p.inside, length-flipped rows u)) (other_row rows u k d) p

abbrev emptied_row : Row → Row
emptied_row r = record r { given_up = true; node = emptied r.node }

abbrev GivenUp : ℕ → List Row → List Row → Type 0
GivenUp k a b = IsParkedTop a k × (b ≡ without_content a k)

reason-given_up : (k : ℕ) → IsReason k (GivenUp k)
reason-given_up k = record {
  lasts = λ a b u d f ok. (parked-flipped a u k d ok.0, set-lasts k emptied_row a b u d ok.1);
  longer = λ a b ok. omega (arith, ap length ok.1, length-set a k (emptied_row (row_at a k)));
  other = λ a b ok j d. ap (λ s. row_at s j) ok.1 ∙ get_or-set_other a k j _ blank d;
  tree = λ a b tree ok. subst IsTree (sym ok.1) (tree-given_up a tree k ok.0);
  nodes = λ a b tree ok. ap nodes ok.1 ∙ nodes-given_up a k ok.0;
  ids = λ a b tree ok. ap ids ok.1 ∙ ids-given_up a k ok.0;
  clear = λ a b tree ok i j oj c. subst (λ s. IsClear s i j) (sym ok.1)
      (clear-less a (without_content a k) (λ m. of_both a k _ (λ s. s.parent) refl m ok.0.inside)
      (λ m at. sym (of_both a k _ (λ s. s.attached) refl m ok.0.inside) ∙ at) i j c);
}

-- a discard leaves all other Undos usable
pub alike-given_up : (rows : List Row) (k : ℕ) → IsTree rows → IsParkedTop rows k
    → GoesAlike (λ j. j ≡ k → ⊥) rows (without_content rows k)
alike-given_up rows k tree top =
    alike-beside k (GivenUp k) (reason-given_up k) rows (without_content rows k) tree (top, refl)

-- ---- edits

-- a flip that doesn't put a subtree in attaches no row
less-flipped : (rows : List Row) (u : Change) → row_of u < length rows → held_by u ≡ None → (j : ℕ)
    → (row_at (flipped rows u) j).attached ≡ true → (row_at rows j).attached ≡ true
less-flipped rows (change.PutIn k) l none j at = absurd (cc)
less-flipped rows (change.TakeOut k) l none j at = (still_attached rows k j l at).1
less-flipped rows u l none j at = sym (of_both rows (row_of u) _ (λ s. s.attached) refl j l) ∙ at

-- where it takes a row out, what it becomes holds that row
out-flipped : (rows : List Row) (u : Change) → row_of u < length rows → held_by u ≡ None
    → (row_at rows (row_of u)).attached ≡ true → (row_at (flipped rows u) (row_of u)).attached ≡ false
    → held_by (turned rows u) ≡ Some (row_of u)
out-flipped rows (change.PutIn k) l none at out = absurd (cc)
out-flipped rows (change.TakeOut k) l none at out = refl
out-flipped rows u l none at out =
    let still : (row_at (flipped rows u) (row_of u)).attached ≡ (row_at rows (row_of u)).attached =
    of_both rows (row_of u) _ (λ s. s.attached) refl (row_of u) l in
    absurd (cc)

-- what it becomes takes out no row, so none that is new
new-turned : (rows : List Row) (u : Change) → held_by u ≡ None
    → IsFresh rows (turned rows u) × BeginsClear rows (flipped rows u) (turned rows u)
new-turned rows (change.PutIn k) none = absurd (cc)
new-turned rows u none = (tt, tt)

-- a flip that doesn't put a subtree in, of a row of the tree, is an edit
pub edit-flip : (rows : List Row) (u : Change) → IsTree rows → Fits rows u → held_by u ≡ None → IsLive rows (row_of u)
    → TakesEditBack (turned rows u) rows (flipped rows u)
edit-flip rows u tree fits none live = record {
  tree = fits.sound;
  fits = back.fits;
  alike = let same : GoesAlike (IsUsed rows) rows rows = assumption in
      subst (GoesAlike (IsUsed rows) rows) (sym back.rows) same;
  parked = λ j p.
      parked-flipped rows u j (λ e. let at = attached (omega (arith, e, p.below_root)) in
      let out = subst (λ i. (row_at rows i).attached ≡ false) (sym e) p.out in cc) p;
  held = held_then rows u tree fits;
  only = λ j p. elim (same_or_not (row_of u) j) [
    | inl e ↦
        inr (out-flipped rows u fits.inside none (attached (omega (arith, e, p.below_root)))
        (subst (λ i. (row_at (flipped rows u) i).attached ≡ false) (sym e) p.out) ∙ ap (λ i. Some i) e)
    | inr d ↦
        inl (parked_top-same (flipped rows u) rows j (omega (arith, p.inside, length-flipped rows u))
        (sym (other_row rows u j d)) p)
  ];
  used = rw (row_turned rows u)
      (stay (row_of u) (fits.inside, λ z. (tree.each (row_of u) fits.inside).attached (attached z)));
  stays = stay;
  apart = λ j p. rw (row_turned rows u) (clear j (row_of u) (live-clear rows tree.shape j p (row_of u) live));
  clear = λ j i p used c. clear j i c;
  fresh = (new-turned rows u none).0;
  begins = (new-turned rows u none).1;
}
  where
    back : TakesBack (turned rows u) rows (flipped rows u)
    back = again rows u tree fits

    attached : 0 < row_of u → (row_at rows (row_of u)).attached ≡ true
    attached z = live_attached rows tree.shape (row_of u) z live

    stay : (j : ℕ) → IsUsed rows j → IsUsed (flipped rows u) j
    stay j used = (
      omega (arith, length-flipped rows u, used.0),
      λ z. kin-flipped (λ s. s.given_up) (λ s a name n. refl) rows u fits.inside j ∙ used.1 z,
    )

    clear : (j i : ℕ) → IsClear rows j i → IsClear (flipped rows u) j i
    clear =
        clear-less rows (flipped rows u) (kin-flipped (λ s. s.parent) (λ s a name n. refl) rows u fits.inside)
        (less-flipped rows u fits.inside none)

-- what an edit says of its Undo
pub record IsEditBack (u : Change) (old new : List Row) : Type 0 where
  pub undo : TakesBack u old new
  pub edit : TakesEditBack u old new

pub edit-back : (rows : List Row) (u : Change) → IsTree rows → Fits rows u → held_by u ≡ None → IsLive rows (row_of u)
    → IsEditBack (turned rows u) rows (flipped rows u)
edit-back rows u tree fits none live =
    record { undo = again rows u tree fits; edit = edit-flip rows u tree fits none live }

pub edit-cut : (rows : List Row) (k : ℕ) → IsTree rows → IsTree (attached_as rows k false) → IsLive rows k
    → (row_at rows k).attached ≡ true → TakesBack (change.PutIn k) rows (attached_as rows k false)
    → IsParkedTop (attached_as rows k false) k → TakesEditBack (change.PutIn k) rows (attached_as rows k false)
edit-cut rows k tree after live at back held =
    edit-flip rows (change.TakeOut k) tree
    (record { inside = live_row rows tree.shape k live; ready = at; sound = after }) refl live
