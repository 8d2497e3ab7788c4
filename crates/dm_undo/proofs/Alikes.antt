-- What goes alike goes alike after a flip.
use Rattle.std.proofs.Common.{◌≡◌, ℕ, zero, suc, List, [], ◌∷◌, ◌++◌, refl, sym, ◌∙◌, ap, subst, Some, inl, inr}
use Rattle.dm_tree.specs.declared.rows.Row.{Row}
use Rattle.dm_tree.specs.declared.rows.Change.{Change}
use Rattle.dm_tree.specs.declared.rows.Change.TheVariants as change
use Rattle.dm_tree.specs.Rows.{IsParkedTop}
use Rattle.dm_tree.specs.Undos.{row_of, flipped, turned, Fits}
use Rattle.dm_undo.specs.declared.entries.Entry.{Entry}
use Rattle.dm_undo.specs.declared.entries.Entry.TheVariants.{Record, Flipped}
use Rattle.dm_tree.specs.Notes.{GoesAlike}
use Rattle.dm_tree.specs.Reuse.{IsUsed, IsClear}
use Rattle.dm_undo.specs.Entries.{OfEach, IsHeldIn, held_top}
use Rattle.dm_undo.specs.Trees.{maps_of, flipped_forward, newest_first}
use Rattle.dm_undo.specs.Sound.{BeginsRow, FitForward, IsApart, IsSoundStage, AreSoundStages}
use Rattle.dm_undo.proofs.Shapes.{row_turned, held_append}

pub alike_flipped : (ok : ℕ → Type 0) (a b : List Row) (u : Change) → GoesAlike ok a b → ok (row_of u) → Fits a u
    → GoesAlike ok (flipped a u) (flipped b u)
alike_flipped ok a b u g o f = record {
  tree = (g.fit (u ∷ []) (o, tt) (f, tt)).0.sound;
  fit = λ us os fs. (g.fit (u ∷ us) (o, os) (f, fs)).1;
  nodes = λ us os fs. g.nodes (u ∷ us) (o, os) (f, fs);
  ids = λ us os fs. g.ids (u ∷ us) (o, os) (f, fs);
  turned = λ us v os fs ov fv. g.turned (u ∷ us) v (o, os) (f, fs) ov fv;
  parked = λ us k os fs okk p. g.parked (u ∷ us) k (o, os) (f, fs) okk p;
  used = λ us k os fs okk p. g.used (u ∷ us) k (o, os) (f, fs) okk p;
  clear = λ us k j os fs okk okj c. g.clear (u ∷ us) k j (o, os) (f, fs) okk okj c;
}

pub alike_fits : (ok : ℕ → Type 0) (a b : List Row) (u : Change) → GoesAlike ok a b → ok (row_of u) → Fits a u
    → Fits b u
alike_fits ok a b u g o f = (g.fit (u ∷ []) (o, tt) (f, tt)).0

pub alike_turns : (ok : ℕ → Type 0) (a b : List Row) (u : Change) → GoesAlike ok a b → ok (row_of u) → Fits a u
    → turned b u ≡ turned a u
alike_turns ok a b u g o f = g.turned [] u tt tt o f

pub alike_shown : (ok : ℕ → Type 0) (a b : List Row) → GoesAlike ok a b → maps_of b ≡ maps_of a
alike_shown ok a b g =
    let n = g.nodes [] tt tt in
    let d = g.ids [] tt tt in
    λ x. record { nodes = n x; ids = d x }

pub alike_parked : (ok : ℕ → Type 0) (a b : List Row) (k : ℕ) → GoesAlike ok a b → ok k → IsParkedTop a k
    → IsParkedTop b k
alike_parked ok a b k g o p = g.parked [] k tt tt o p

-- ---- entries

pub each_any : (ok : ℕ → Type 0) → ((k : ℕ) → ok k) → (es : List Entry) → OfEach ok es
each_any ok all [] = tt
each_any ok all (Record u ∷ es) = (all (row_of u), each_any ok all es)
each_any ok all (Flipped c ∷ es) = each_any ok all es

-- what holds of a row holds of another kind
pub each_more : (ok few : ℕ → Type 0) → ((j : ℕ) → few j → ok j) → (es : List Entry) → OfEach few es → OfEach ok es
each_more ok few f [] h = tt
each_more ok few f (Record u ∷ es) h = (f (row_of u) h.0, each_more ok few f es h.1)
each_more ok few f (Flipped c ∷ es) h = each_more ok few f es h

pub each_both : (p q ok : ℕ → Type 0) → ((j : ℕ) → p j → q j → ok j) → (es : List Entry) → OfEach p es → OfEach q es
    → OfEach ok es
each_both p q ok f [] h g = tt
each_both p q ok f (Record u ∷ es) h g = (f (row_of u) h.0 g.0, each_both p q ok f es h.1 g.1)
each_both p q ok f (Flipped c ∷ es) h g = each_both p q ok f es h g

pub each_first : (ok : ℕ → Type 0) (new old : List Entry) → OfEach ok (new ++ old) → OfEach ok new
each_first ok [] old h = tt
each_first ok (Record u ∷ new) old h = (h.0, each_first ok new old h.1)
each_first ok (Flipped c ∷ new) old h = each_first ok new old h

-- a row that is clear of another stays so where rows go alike
pub alike_apart : (ok : ℕ → Type 0) (a b : List Row) → GoesAlike ok a b → (k : ℕ) → ok k → (es : List Entry)
    → OfEach ok es → IsApart a k es → IsApart b k es
alike_apart ok a b g k o es os h = each_both ok (IsClear a k) (IsClear b k) (λ j oj c. g.clear [] k j tt tt o oj c) es
    os h

alike_begins : (ok : ℕ → Type 0) (a b : List Row) → GoesAlike ok a b → (u : Change) → ok (row_of u)
    → (es : List Entry) → OfEach ok es → BeginsRow a u es → BeginsRow b u es
alike_begins ok a b g (change.Value k value verno stamp) o es os h = tt
alike_begins ok a b g (change.Bytes k bytes verno stamp) o es os h = tt
alike_begins ok a b g (change.Acl k acl verno stamp) o es os h = tt
alike_begins ok a b g (change.Title k title verno stamp) o es os h = tt
alike_begins ok a b g (change.Name k name verno stamp) o es os h = tt
alike_begins ok a b g (change.PutIn k) o es os h = tt
alike_begins ok a b g (change.TakeOut k) o es os h = alike_apart ok a b g k o es os h

-- entries flipped forth in both
pub record Redo (ok : ℕ → Type 0) (c : ℕ) (es : List Entry) (a b : List Row) : Type 0 where
  pub entries : (flipped_forward c es b).entries ≡ (flipped_forward c es a).entries
  pub rows : GoesAlike ok (flipped_forward c es a).rows (flipped_forward c es b).rows
  pub fit : FitForward c es b
  pub each : OfEach ok (flipped_forward c es a).entries

pub redo : (ok : ℕ → Type 0) (c : ℕ) (es : List Entry) (a b : List Row) → GoesAlike ok a b → OfEach ok es
    → FitForward c es a → Redo ok c es a b
redo ok zero es a b g o f = record { entries = refl; rows = g; fit = tt; each = o }
redo ok (suc c) [] a b g o f = record { entries = refl; rows = g; fit = tt; each = tt }
redo ok (suc c) (Record u ∷ es) a b g o f =
    let r = redo ok c es a b g o.1 f.0 in
    let x = (flipped_forward c es a).rows in
    let y = (flipped_forward c es b).rows in
    record {
      entries = ap (λ v. Record v ∷ (flipped_forward c es b).entries) (alike_turns ok x y u r.rows o.0 f.1)
          ∙ ap (λ l. Record (turned x u) ∷ l) r.entries;
      rows = alike_flipped ok x y u r.rows o.0 f.1;
      fit = (r.fit, alike_fits ok x y u r.rows o.0 f.1);
      each = (subst ok (sym (row_turned x u)) o.0, r.each);
    }
redo ok (suc c) (Flipped d ∷ es) a b g o f =
    let r = redo ok c es a b g o f.0 in
    record { entries = ap (λ l. Flipped d ∷ l) r.entries; rows = r.rows; fit = (r.fit, tt); each = r.each }

held_ok : (ok : ℕ → Type 0) (u : Change) (k : ℕ) → ok (row_of u) → held_top (Record u) ≡ Some k → ok k
held_ok ok (change.PutIn j) k o e = subst ok (let s : j ≡ k = cc in s) o
held_ok ok (change.TakeOut j) k o e = absurd (cc)
held_ok ok (change.Value j value verno stamp) k o e = absurd (cc)
held_ok ok (change.Bytes j bytes verno stamp) k o e = absurd (cc)
held_ok ok (change.Acl j acl verno stamp) k o e = absurd (cc)
held_ok ok (change.Title j title verno stamp) k o e = absurd (cc)
held_ok ok (change.Name j name verno stamp) k o e = absurd (cc)

is_ok : (ok : ℕ → Type 0) (es : List Entry) → OfEach ok es → (k : ℕ) → IsHeldIn k es → ok k
is_ok ok [] o k h = absurd h
is_ok ok (Record u ∷ es) o k (inl e) = held_ok ok u k o.0 e
is_ok ok (Record u ∷ es) o k (inr h) = is_ok ok es o.1 k h
is_ok ok (Flipped c ∷ es) o k (inl e) = absurd (cc)
is_ok ok (Flipped c ∷ es) o k (inr h) = is_ok ok es o k h

pub holds_alike : (ok : ℕ → Type 0) (es : List Entry) (a b : List Row) → GoesAlike ok a b → OfEach ok es
    → IsSoundStage es a → IsSoundStage es b
holds_alike ok es a b g o h = record {
  tree = g.tree;
  parked = λ k i. alike_parked ok a b k g (is_ok ok es o k i) (h.parked k i);
  once = h.once;
  apart = λ new old e w k i.
      let both = subst (OfEach ok) e o in
      alike_apart ok a b g k (is_ok ok es o k (subst (IsHeldIn k) (sym e) (held_append k new old i))) new
      (each_first ok new old both) (h.apart new old e w k i);
  used = each_both ok (IsUsed a) (IsUsed b) (λ j oj u. g.used [] j tt tt oj u) es o h.used;
}

-- what goes alike tells alike
pub alike_sound : (ok : ℕ → Type 0) (n : ℕ) (es : List Entry) (a b : List Row) → GoesAlike ok a b → OfEach ok es
    → AreSoundStages n es a
    → AreSoundStages n es b × (newest_first n es b ≡ newest_first n es a)
alike_sound ok zero es a b g o s = (g.tree, ap (λ t. t ∷ []) (alike_shown ok a b g))
alike_sound ok (suc n) [] a b g o s = (g.tree, ap (λ t. t ∷ []) (alike_shown ok a b g))
alike_sound ok (suc n) (Record u ∷ es) a b g o s =
    let f = s.1.0.0 in
    let r = alike_sound ok n es (flipped a u) (flipped b u) (alike_flipped ok a b u g o.0 f) o.1 s.1.1 in (
      (
        holds_alike ok (Record u ∷ es) a b g o s.0,
        ((alike_fits ok a b u g o.0 f, alike_begins ok a b g u o.0 es o.1 s.1.0.1), r.0),
      ),
      ap (λ t. t ∷ newest_first n es (flipped b u)) (alike_shown ok a b g) ∙ ap (λ l. maps_of a ∷ l) r.1,
    )
alike_sound ok (suc n) (Flipped c ∷ es) a b g o s =
    let d = redo ok c es a b g o s.1.0.1 in
    let r = alike_sound ok n (flipped_forward c es a).entries (flipped_forward c es a).rows
    (flipped_forward c es b).rows d.rows d.each s.1.1 in (
      (
        holds_alike ok (Flipped c ∷ es) a b g o s.0,
        ((s.1.0.0, d.fit), subst (λ l. AreSoundStages n l (flipped_forward c es b).rows) (sym d.entries) r.0),
      ),
      ap (λ t. t ∷ newest_first n (flipped_forward c es b).entries (flipped_forward c es b).rows) (alike_shown ok a b g)
          ∙ ap (λ l. maps_of a ∷ newest_first n l (flipped_forward c es b).rows) d.entries
          ∙ ap (λ l. maps_of a ∷ l) r.1,
    )
