-- Flips of other rows, in two lists of rows that differ in one.
use Rattle.std.proofs.lemmas.List.{set_comm}
use Rattle.dm_tree.specs.declared.rows.Change.TheVariants as change
use Rattle.dm_tree.specs.Undos.{FitAll}
use Rattle.dm_tree.specs.Notes.{AreAt}
use Rattle.dm_tree.proofs.Common.{◌≡◌, ◌≤◌, ℕ, List, [], ◌∷◌, ◌++◌, length, sym, ◌∙◌, ap, arith, set, get_or-set_other}
use Rattle.dm_tree.proofs.Common.{Row, Change, row_at, node_of, nodes, ids, IsTree, row_of, flipped, Fits, all_flipped}
use Rattle.dm_tree.proofs.Common.{IsReadyChange, GoesAlike, IsClear}
use Rattle.dm_tree.proofs.FlippedRows.{other_row}
use Rattle.dm_tree.proofs.UndoFlips.{turned-same, parked_top-same}

-- ---- one row

-- a row that is put in place of another stays there
flipped-set : (rows : List Row) (k : ℕ) (r : Row) (u : Change) → (row_of u ≡ k → ⊥)
    → flipped (set rows k r) u ≡ set (flipped rows u) k r
flipped-set rows k r (change.PutIn j) d = rw get_or-set_other (set_comm rows k j r _ (λ e. d (sym e)))
flipped-set rows k r u d = rw (get_or-set_other, node_of) (set_comm rows k (row_of u) r _ (λ e. d (sym e)))

-- so does a row that is changed, whatever it was
pub set-lasts : (k : ℕ) (f : Row → Row) (a b : List Row) (u : Change) → (row_of u ≡ k → ⊥)
    → b ≡ set a k (f (row_at a k)) → flipped b u ≡ set (flipped a u) k (f (row_at (flipped a u) k))
set-lasts k f a b u d e =
    ap (λ s. flipped s u) e ∙ flipped-set a k (f (row_at a k)) u d
    ∙ ap (λ s. set (flipped a u) k (f s)) (sym (other_row a u k d))

ready-same : (a b : List Row) (u : Change) → row_at b (row_of u) ≡ row_at a (row_of u) → IsReadyChange a u
    → IsReadyChange b u
ready-same a b (change.TakeOut j) e ready = ap (λ (s : Row). s.attached) e ∙ ready
ready-same a b (change.PutIn j) e ready = ap (λ (s : Row). s.attached) e ∙ ready
ready-same a b u e ready = tt

-- ---- rows that agree but at the number k, and still do whatever is flipped beside it

-- why they agree: a reason that lasts, and by which neither map differs
pub record IsReason (k : ℕ) (Ok : List Row → List Row → Type 0) : Type 0 where
  pub lasts : (a b : List Row) (u : Change) → (row_of u ≡ k → ⊥) → Fits a u → Ok a b → Ok (flipped a u) (flipped b u)
  pub longer : (a b : List Row) → Ok a b → length a ≤ length b
  pub other : (a b : List Row) → Ok a b → (j : ℕ) → (j ≡ k → ⊥) → row_at b j ≡ row_at a j
  pub tree : (a b : List Row) → IsTree a → Ok a b → IsTree b
  pub nodes : (a b : List Row) → IsTree a → Ok a b → nodes b ≡ nodes a
  pub ids : (a b : List Row) → IsTree a → Ok a b → ids b ≡ ids a
  pub clear : (a b : List Row) → IsTree a → Ok a b → (i j : ℕ) → (j ≡ k → ⊥) → IsClear a i j → IsClear b i j

abbrev Beside : ℕ → ℕ → Type 0
Beside k j = j ≡ k → ⊥

module _ (k : ℕ) (Ok : List Row → List Row → Type 0) (reason : IsReason k Ok) where
  all_ok : (a b : List Row) (us : List Change) → AreAt (Beside k) us → IsTree a → FitAll a us → Ok a b
      → IsTree (all_flipped a us) × Ok (all_flipped a us) (all_flipped b us)
  all_ok a b [] o tree f ok = (tree, ok)
  all_ok a b (u ∷ us) o tree f ok =
      all_ok (flipped a u) (flipped b u) us o.1 f.0.sound f.1 (reason.lasts a b u o.0 f.0 ok)

  all_fit : (a b : List Row) (us : List Change) → AreAt (Beside k) us → FitAll a us → Ok a b → FitAll b us
  all_fit a b [] o f ok = tt
  all_fit a b (u ∷ us) o f ok =
      let then = reason.lasts a b u o.0 f.0 ok in (
        record {
          inside = omega (arith, f.0.inside, reason.longer a b ok);
          ready = ready-same a b u (reason.other a b ok (row_of u) o.0) f.0.ready;
          sound = reason.tree (flipped a u) (flipped b u) f.0.sound then;
        },
        all_fit (flipped a u) (flipped b u) us o.1 f.1 then,
      )

  pub alike-beside : (a b : List Row) → IsTree a → Ok a b → GoesAlike (λ j. j ≡ k → ⊥) a b
  alike-beside a b tree ok =
      let all = λ (us : List Change) (o : AreAt (Beside k) us) (f : FitAll a us). all_ok a b us o tree f ok in
      record {
        tree = reason.tree a b tree ok;
        fit = λ us o f. all_fit a b us o f ok;
        nodes = λ us o f. reason.nodes _ _ (all us o f).0 (all us o f).1;
        ids = λ us o f. reason.ids _ _ (all us o f).0 (all us o f).1;
        turned = λ us u o f ou fu. turned-same _ _ u (reason.other _ _ (all us o f).1 (row_of u) ou);
        parked = λ us j o f oj p. let now = (all us o f).1 in
            parked_top-same _ _ j (omega (arith, p.inside, reason.longer _ _ now)) (reason.other _ _ now j oj) p;
        used = λ us j o f oj u. let now = (all us o f).1 in (
          omega (arith, u.0, reason.longer _ _ now),
          λ z. ap (λ (s : Row). s.given_up) (reason.other _ _ now j oj) ∙ u.1 z,
        );
        clear = λ us i j o f oi oj c. reason.clear _ _ (all us o f).0 (all us o f).1 i j oj c;
      }

-- ---- one after another, and of fewer rows

pub are-more : (ok few : ℕ → Type 0) → ((j : ℕ) → few j → ok j) → (us : List Change) → AreAt few us → AreAt ok us
are-more ok few less [] o = tt
are-more ok few less (u ∷ us) o = (less (row_of u) o.0, are-more ok few less us o.1)

pub alike-fewer : (ok few : ℕ → Type 0) {a b : List Row} → ((j : ℕ) → few j → ok j) → GoesAlike ok a b
    → GoesAlike few a b
alike-fewer ok few less g =
    search (g.tree, g.fit, g.nodes, g.ids, g.turned, g.parked, g.used, g.clear, are-more ok few less, less)

all-then : (rows : List Row) (us : List Change) (u : Change) → FitAll rows us → Fits (all_flipped rows us) u
    → FitAll rows (us ++ u ∷ [])
all-then rows [] u f g = (g, tt)
all-then rows (v ∷ us) u f g = (f.0, all-then (flipped rows v) us u f.1 g)

last-of : (rows : List Row) (us : List Change) (u : Change) → FitAll rows (us ++ u ∷ []) → Fits (all_flipped rows us) u
last-of rows [] u f = f.0
last-of rows (v ∷ us) u f = last-of (flipped rows v) us u f.1

at-then : (ok : ℕ → Type 0) (us : List Change) (u : Change) → AreAt ok us → ok (row_of u) → AreAt ok (us ++ u ∷ [])
at-then ok [] u o h = (h, tt)
at-then ok (v ∷ us) u o h = (o.0, at-then ok us u o.1 h)

pub alike-then : (ok : ℕ → Type 0) {a b c : List Row} → GoesAlike ok a b → GoesAlike ok b c → GoesAlike ok a c
alike-then ok {a} {b} {c} g h = record {
  tree = h.tree;
  fit = λ us o f. h.fit us o (g.fit us o f);
  nodes = λ us o f. h.nodes us o (g.fit us o f) ∙ g.nodes us o f;
  ids = λ us o f. h.ids us o (g.fit us o f) ∙ g.ids us o f;
  turned = λ us u o f ou fu.
      h.turned us u o (g.fit us o f) ou
      (last-of b us u (g.fit (us ++ u ∷ []) (at-then ok us u o ou) (all-then a us u f fu))) ∙ g.turned us u o f ou fu;
  parked = λ us k o f ok p. h.parked us k o (g.fit us o f) ok (g.parked us k o f ok p);
  used = λ us j o f oj u. h.used us j o (g.fit us o f) oj (g.used us j o f oj u);
  clear = λ us k j o f ok' oj c. h.clear us k j o (g.fit us o f) ok' oj (g.clear us k j o f ok' oj c);
}
