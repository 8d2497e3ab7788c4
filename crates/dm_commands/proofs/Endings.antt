-- How steps end: what they note, and what stays.
use Rattle.std.proofs.Common.{◌≡◌, ◌≢◌, ℕ, suc, ◌+◌, ◌-◌, Bool, true, false, List, [], ◌∷◌, length, None, Some}
use Rattle.std.proofs.Common.{refl, sym, ◌∙◌, ap, subst, arith}
use Rattle.dm_tree.specs.declared.rows.Row.{Row}
use Rattle.dm_tree.specs.declared.rows.Change.{Change}
use Rattle.std.proofs.lemmas.List.{get_or-set_other}
use Rattle.std.specs.Prelude.{unwrap_or, Result, Ok, Err, OnOk, IfOk}
use Rattle.std.specs.FinMap.{get, insert}
use Rattle.dm_tree.specs.declared.nodes.Node.{Node}
use Rattle.dm_tree.specs.declared.nodes.Value.{Value}
use Rattle.dm_tree.specs.Nodes.{Path, Nodes, changed, with_value}
use Rattle.dm_tree.specs.Rows.{Tree, blank, blank_node, row_at, node_of, path_of, nodes, ids}
use Rattle.dm_tree.specs.Edits.{with_node}
use Rattle.dm_tree.specs.Notes.{TakesEditBack}
use Rattle.dm_undo.specs.declared.entries.Entry.TheVariants.{Record}
use Rattle.dm_undo.specs.Journals.{Journal}
use Rattle.dm_undo.specs.Notes.{Notes}
use Rattle.dm_undo.proofs.Noted.{notes-none, notes-one, notes-then}
use Rattle.dm_commands.specs.declared.outcome.Outcome.{Outcome}
use Rattle.dm_commands.specs.Outcomes.{Done, refused, changed_to, first_refusal, refused_or, node_at}
use Rattle.dm_commands.specs.Promises.{CarriesOut, KeepIdsBut, none_moved}
use Rattle.dm_commands.proofs.Tables.{none-refused, one-refused}

-- ---- what is noted

-- an edit behind which room was made before
pub noted-one : (old made new : Journal) (before now : List Row) (u : Change) → made.entries ≡ old.entries
    → made.room - length made.entries ≡ (old.room - length old.entries) + 1
    → new ≡ record made { entries = Record u ∷ made.entries } → TakesEditBack u before now → Notes old before new now
noted-one old made new before now u e r f t =
    let is : new.entries ≡ Record u ∷ old.entries = ap (λ (j : Journal). j.entries) f ∙ ap (λ es. Record u ∷ es) e in
    notes-one old new before now u is
    (omega (arith, r, ap (λ (j : Journal). j.room) f, ap length is, ap length e)) t

-- two such edits
pub noted-two : (old made new : Journal) (x y z : List Row) (u v : Change) → made.entries ≡ old.entries
    → made.room - length made.entries ≡ (old.room - length old.entries) + 2
    → new ≡ record made { entries = Record v ∷ Record u ∷ made.entries }
    → TakesEditBack u x y → TakesEditBack v y z → Notes old x new z
noted-two old made new x y z u v e r f t s =
    let between : Journal = record {
      entries = Record u ∷ old.entries;
      room = suc (length old.entries) + (old.room - length old.entries);
    } in
    let is : new.entries ≡ Record v ∷ Record u ∷ old.entries =
    ap (λ (j : Journal). j.entries) f ∙ ap (λ es. Record v ∷ Record u ∷ es) e in
    notes-then old between new x y z (notes-one old between x y u refl (omega arith) t)
    (notes-one between new y z v is
    (omega (arith, r, ap (λ (j : Journal). j.room) f, ap length is, ap length e)) s)

-- ---- how steps end

pub ends-refused : (moved : Path → Bool) (journal : Journal) (tree : Tree) (code : ℕ) (outcome : Outcome)
    → outcome ≡ record { code = code; results = []; started = false }
    → CarriesOut (refused (nodes tree.rows) code) moved journal tree journal tree outcome
ends-refused moved journal tree code outcome e = record {
  does = record {
    tree = refl;
    code = ap (λ (o : Outcome). o.code) e;
    found = ap (λ (o : Outcome). o.results) e;
    started = ap (λ (o : Outcome). o.started) e;
  };
  ids = λ p id is apart. is;
  notes = notes-none journal journal tree.rows tree.rows refl (omega arith) refl;
  clock = refl;
}

pub ends-changed : (m : Nodes) (moved : Path → Bool) (old : Journal) (before : Tree) (new : Journal) (now : Tree)
    (outcome : Outcome)
    → outcome ≡ record { code = 200; results = []; started = false }
    → nodes now.rows ≡ m → KeepIdsBut moved (ids before.rows) (ids now.rows)
    → Notes old before.rows new now.rows → now.clock ≡ before.clock
    → CarriesOut (changed_to m) moved old before new now outcome
ends-changed m moved old before new now outcome e tree kept notes clock = record {
  does = record {
    tree = tree;
    code = ap (λ (o : Outcome). o.code) e;
    found = ap (λ (o : Outcome). o.results) e;
    started = ap (λ (o : Outcome). o.started) e;
  };
  ids = kept;
  notes = notes;
  clock = clock;
}

pub ends-started : (m : Nodes) (old : Journal) (before : Tree) (new : Journal) (now : Tree) (outcome : Outcome)
    → outcome ≡ record { code = 202; results = []; started = true }
    → nodes now.rows ≡ m → KeepIdsBut none_moved (ids before.rows) (ids now.rows)
    → Notes old before.rows new now.rows → now.clock ≡ before.clock
    → CarriesOut (record { tree = m; code = 202; found = []; started = true }) none_moved old before new now outcome
ends-started m old before new now outcome e tree kept notes clock = record {
  does = record {
    tree = tree;
    code = ap (λ (o : Outcome). o.code) e;
    found = ap (λ (o : Outcome). o.results) e;
    started = ap (λ (o : Outcome). o.started) e;
  };
  ids = kept;
  notes = notes;
  clock = clock;
}

-- a fact about what stands after a call
pub on_ok : {X E : Type 0} {A B : Type 0} (r : Result X E) → (A → B) → OnOk r A → OnOk r B
on_ok (Ok x) f a = f a
on_ok (Err e) f a = tt

-- and about what it gives
pub if_ok : {X E : Type 0} {A B : X → Type 0} (r : Result X E) → ((x : X) → A x → B x) → IfOk r A → IfOk r B
if_ok (Ok x) f a = f x a
if_ok (Err e) f a = tt

-- ---- a second edit

-- it finds its node as it was
pub second-put : (before made : Tree) (k j : ℕ) (new : Node) (value : Value)
    → made ≡ record before { rows = with_node before.rows k new } → j ≢ k
    → path_of made.rows j ≡ path_of before.rows j
    → insert (nodes made.rows) (path_of made.rows j) (changed made.clock (with_value (node_of made.rows j) value))
    ≡ insert (nodes made.rows) (path_of before.rows j) (changed before.clock (with_value (node_of before.rows j) value))
second-put before made k j new value e other path =
    ap (λ p. insert (nodes made.rows) p (changed made.clock (with_value (node_of made.rows j) value))) path
    ∙ ap (λ (t : Tree).
    insert (nodes made.rows) (path_of before.rows j) (changed t.clock (with_value (node_of t.rows j) value))) e
    ∙ ap (λ (r : Row).
    insert (nodes made.rows) (path_of before.rows j) (changed before.clock (with_value r.node value)))
    (get_or-set_other before.rows k j (record (row_at before.rows k) { node = new }) blank other)

-- ---- by the refusals

pub refused-ends : (rs : List (Bool × ℕ)) (effect : Done) (code : ℕ) (moved : Path → Bool) (journal : Journal)
    (tree : Tree)
    (outcome : Outcome) → first_refusal rs ≡ Some code
    → CarriesOut (refused (nodes tree.rows) code) moved journal tree journal tree outcome
    → CarriesOut (refused_or rs (nodes tree.rows) effect) moved journal tree journal tree outcome
refused-ends rs effect code moved journal tree outcome e ends =
    subst (λ d. CarriesOut d moved journal tree journal tree outcome) (sym (one-refused rs (nodes tree.rows) effect code e))
    ends

pub passed-ends : (rs : List (Bool × ℕ)) (m : Nodes) (effect : Done) (moved : Path → Bool) (old : Journal)
    (before : Tree)
    (new : Journal) (now : Tree) (outcome : Outcome) → first_refusal rs ≡ None
    → CarriesOut effect moved old before new now outcome → CarriesOut (refused_or rs m effect) moved old before new now outcome
passed-ends rs m effect moved old before new now outcome e ends =
    subst (λ d. CarriesOut d moved old before new now outcome) (sym (none-refused rs m effect e)) ends

-- ---- what is put at a path

pub put-at : (m : Nodes) (p q : Path) (f : Node → Node) (n : Node) → q ≡ p → get m p ≡ Some n
    → insert m q (f n) ≡ insert m p (f (node_at m p))
put-at m p q f n e there =
    ap (λ r. insert m r (f n)) e ∙ ap (λ o. insert m p (f (unwrap_or o blank_node))) (sym there)
