-- What doesn't read in a tree that fits is a text or a number.
use Rattle.std.specs.Prelude.{◌≡◌, ◌⊎◌, ◌&&◌, ℕ, ◌+◌, nat_le, Bool, true, false, if◌then◌else◌, List, Option, Some}
use Rattle.std.specs.Prelude.{None, Result, Ok, Err, IsTrue, refl}
use Rattle.std.proofs.Common.{subst, inl, inr}
use Rattle.wbxml_tokens.specs.declared.reason.Reason.{Reason}
use Rattle.wbxml_tokens.specs.declared.reason.Reason.TheVariants as reasons
use Rattle.syncml_shape.specs.declared.rows.Kind.{Kind}
use Rattle.syncml_shape.specs.declared.rows.Kind.TheVariants as kinds
use Rattle.syncml_shape.specs.Forest.{Forest, nothing, text, opaque, bare, full}
use Rattle.syncml_shape.specs.Rows.{Content, document, start, next_child, is_complete, takes_text}
use Rattle.syncml_shape.specs.Shape.{fits}
use Rattle.syncml_shape.proofs.Accepts.{and_true}
use Rattle.syncml_types.specs.Canonical.{is_text}
use Rattle.syncml_grammar.specs.declared.draft.Draft.TheVariants as draft
use Rattle.syncml_grammar.specs.declared.leaf.Leaf.{Leaf}
use Rattle.syncml_grammar.specs.declared.leaf.Leaf.TheVariants as leaf
use Rattle.syncml_grammar.specs.declared.leaf.Simple.{Simple}
use Rattle.syncml_grammar.specs.declared.leaf.Simple.TheVariants as simple
use Rattle.syncml_grammar.specs.Numbers.{number_in}
use Rattle.syncml_grammar.specs.Leaves.{closed_text, closed_number, closed_leaf}
use Rattle.syncml_grammar.specs.Values.{Value, of_leaf, of_draft, simply, fresh_value, closed_value, with_text}
use Rattle.syncml_grammar.specs.Values.{with_child}
use Rattle.syncml_grammar.specs.Reads.{Unread, at_place, read, ◌then◌}
use Rattle.syncml_grammar.specs.Refusals.{UnreadIsText}

abbrev pub IsOfText : Reason → Type 0
IsOfText reason = (reason ≡ reasons.Text) ⊎ (reason ≡ reasons.Number)

if_text : (b : Bool) (bytes : List ℕ) (reason : Reason)
    → (if b then Ok (simple.Text bytes) else Err reasons.Text) ≡ Err reason → IsOfText reason
if_text true bytes reason h = cc
if_text false bytes reason h = inl cc

text_reason : (kind : Kind) (bytes : List ℕ) (reason : Reason) → closed_text kind bytes ≡ Err reason → IsOfText reason
text_reason kinds.Bytes bytes reason h = cc
text_reason _ bytes reason h = if_text (is_text bytes) bytes reason h

short_reason : (b : Bool) (n : ℕ) (reason : Reason)
    → (if b then Ok (simple.Short n) else Err reasons.Number) ≡ Err reason → IsOfText reason
short_reason true n reason h = cc
short_reason false n reason h = inr cc

number_reason : (kind : Kind) (o : Option ℕ) (reason : Reason) → closed_number kind o ≡ Err reason → IsOfText reason
number_reason kind None reason h = inr cc
number_reason kinds.Size (Some n) reason h = cc
number_reason kinds.Id (Some n) reason h = short_reason (nat_le 1 n && nat_le n 4294967295) n reason h
number_reason _ (Some n) reason h = short_reason (nat_le 0 n && nat_le n 4294967295) n reason h

leaf_reason : (kind : Kind) (l : Leaf) (reason : Reason) → closed_leaf kind l ≡ Err reason → IsOfText reason
leaf_reason kind (leaf.Text bytes) reason h = text_reason kind bytes reason h
leaf_reason kind (leaf.Number digits) reason h = number_reason kind (number_in digits) reason h
leaf_reason kind leaf.Flag reason h = cc

simply_only : (r : Result Simple Reason) (reason : Reason) → simply r ≡ Err reason → r ≡ Err reason
simply_only (Ok x) reason h = cc
simply_only (Err other) reason h = cc

closed_reason : (kind : Kind) (value : Value) (reason : Reason) → closed_value kind value ≡ Err reason → IsOfText reason
closed_reason kind (of_leaf l) reason h = leaf_reason kind l reason (simply_only (closed_leaf kind l) reason h)
closed_reason kind (of_draft d) reason h = cc

-- what stops where a child is closed, or behind it
end_reason : {A B : Type 0} (n : ℕ) (f : A → Result B Unread) (r : Result A Reason) (u : Unread)
    → ((reason : Reason) → r ≡ Err reason → IsOfText reason) → ((a : A) → f a ≡ Err u → IsOfText u.reason)
    → (at_place n r then f) ≡ Err u → IsOfText u.reason
end_reason n f (Ok a) u here rest h = rest a h
end_reason n f (Err reason) u here rest h =
    let is : record { at = n; reason = reason } ≡ u = cc in
    subst (λ (v : Unread). IsOfText v.reason) is (here reason refl)

pub read_reason : (f : Forest) (n : ℕ) (value : Value) (c : Content) (u : Unread) → IsTrue (fits c f)
    → read n value c f ≡ Err u → IsOfText u.reason
read_reason nothing n value c u fit h = cc
read_reason (text b f) n value c u fit h =
    read_reason f (n + 1) (with_text value b) c u (and_true (takes_text c) (fits c f) fit).1 h
read_reason (opaque b f) n value c u fit h =
    read_reason f (n + 1) (with_text value b) c u (and_true (takes_text c) (fits c f) fit).1 h
read_reason (bare e f) n value c u fit h =
    (elim (next_child c e)
    as (λ o. IsTrue (elim o as (λ _. Bool) [ None ↦ false | Some x ↦ is_complete (start x.0) && fits x.1 f ])
    → (elim o as (λ _. Result (Value × ℕ) Unread) [
      | None ↦ Err (record { at = n; reason = reasons.Misplaced })
      | Some x ↦ at_place n (closed_value x.0 (fresh_value x.0 e)) then (λ child. read (n + 1) (with_child value e child) x.1 f)
    ]) ≡ Err u → IsOfText u.reason) [
      | None ↦ λ w r. cc
      | Some x ↦ λ w r.
          end_reason n (λ child. read (n + 1) (with_child value e child) x.1 f) (closed_value x.0 (fresh_value x.0 e)) u
          (closed_reason x.0 (fresh_value x.0 e))
          (λ child q. read_reason f (n + 1) (with_child value e child) x.1 u
          (and_true (is_complete (start x.0)) (fits x.1 f) w).1 q) r
    ]) fit h
read_reason (full e i f) n value c u fit h =
    (elim (next_child c e)
    as (λ o. IsTrue (elim o as (λ _. Bool) [ None ↦ false | Some x ↦ fits (start x.0) i && fits x.1 f ])
    → (elim o as (λ _. Result (Value × ℕ) Unread) [
      | None ↦ Err (record { at = n; reason = reasons.Misplaced })
      | Some x ↦ read (n + 1) (fresh_value x.0 e) (start x.0) i
          then (λ p. at_place p.1 (closed_value x.0 p.0) then (λ child. read (p.1 + 1) (with_child value e child) x.1 f))
    ]) ≡ Err u → IsOfText u.reason) [
      | None ↦ λ w r. cc
      | Some x ↦ λ w r.
          let both = and_true (fits (start x.0) i) (fits x.1 f) w in
          (elim (read (n + 1) (fresh_value x.0 e) (start x.0) i) as (λ q. read (n + 1) (fresh_value x.0 e) (start x.0) i ≡ q
          → (q
          then (λ p. at_place p.1 (closed_value x.0 p.0) then (λ child. read (p.1 + 1) (with_child value e child) x.1 f)))
          ≡ Err u → IsOfText u.reason) [
            | Ok p ↦ λ is r'.
                end_reason p.1 (λ child. read (p.1 + 1) (with_child value e child) x.1 f) (closed_value x.0 p.0) u
                (closed_reason x.0 p.0)
                (λ child q. read_reason f (p.1 + 1) (with_child value e child) x.1 u both.1 q) r'
            | Err v ↦ λ is r'. let same : v ≡ u = cc in
                subst (λ (k : Unread). IsOfText k.reason) same
                (read_reason i (n + 1) (fresh_value x.0 e) (start x.0) v both.0 is)
          ]) refl r
    ]) fit h

pub unread_is_text : UnreadIsText
unread_is_text tree unread fit h = read_reason tree 0 (of_draft draft.Document) document unread fit h
