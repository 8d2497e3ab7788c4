-- The tokens of a message are one element.
use Rattle.std.proofs.Common.{◌≡◌, List, [], ◌∷◌, ◌++◌, refl, sym, ap, ◌∙◌, subst, inl, inr}
use Rattle.std.specs.Prelude.{Bool, true, false, ◌&&◌, if◌then◌else◌, Some, None, IsTrue}
use Rattle.wbxml_tables.specs.declared.Element.{Element}
use Rattle.wbxml_tables.specs.declared.Element.TheVariants.{ESyncML}
use Rattle.wbxml_tokens.specs.declared.token.Token.{Token}
use Rattle.wbxml_tokens.specs.declared.token.Token.TheVariants.{Tag, End}
use Rattle.wbxml_tokens.specs.Whole.{IsContent, nothing as no_token, with_text, with_opaque, with_tag, with_element}
use Rattle.wbxml_tokens.specs.Whole.{IsElement}
use Rattle.syncml_shape.specs.declared.rows.Kind.{Kind}
use Rattle.syncml_shape.specs.declared.rows.Kind.TheVariants as kinds
use Rattle.syncml_shape.specs.declared.rows.Choice.TheVariants.{One}
use Rattle.syncml_shape.specs.declared.rows.TheConstants as table
use Rattle.syncml_shape.specs.Forest.{Forest, nothing, text, opaque, bare, full, spelling}
use Rattle.syncml_shape.specs.Rows.{same, Content, in_order, document, start, in_row, after_row, next_child}
use Rattle.syncml_shape.specs.Rows.{is_complete}
use Rattle.syncml_shape.specs.Shape.{fits}
use Rattle.syncml_shape.proofs.Accepts.{and_true}
use Rattle.syncml_types.specs.Message.{Parts}
use Rattle.syncml_grammar.specs.Reads.{SpellsParts}

not_so : {A : Type 0} → false ≡ true → A
not_so h = absurd (never h)
  where
    never : false ≡ true → ⊥
    never e = cc

content_of : (f : Forest) → IsContent (spelling f)
content_of nothing = no_token
content_of (text bytes rest) = with_text bytes (content_of rest)
content_of (opaque bytes rest) = with_opaque bytes (content_of rest)
content_of (bare e rest) = with_tag e (content_of rest)
content_of (full e inner rest) = with_element e (content_of inner) (content_of rest) refl

-- nothing may come behind the one child of a document
abbrev behind_message : Content
behind_message = in_order true table.DOCUMENT

next_none : (e : Element) → next_child behind_message e ≡ None
next_none e =
    (elim (same ESyncML e)
    as (λ (b : Bool).
    after_row (in_row (if b then Some kinds.Message else None) true
    (record { choice = One ESyncML kinds.Message; required = true; many = false }) [] None) ≡ None) [
      | true ↦ refl
      | false ↦ refl
    ])

no_more : (f : Forest) → IsTrue (fits behind_message f) → f ≡ nothing
no_more nothing h = refl
no_more (text bytes f) h = not_so h
no_more (opaque bytes f) h = not_so h
no_more (bare e f) h =
    not_so
    (sym (ap (λ o. elim o as (λ _. Bool) [ None ↦ false | Some x ↦ is_complete (start x.0) && fits x.1 f ])
    (next_none e)) ∙ h)
no_more (full e inner f) h =
    not_so
    (sym (ap (λ o. elim o as (λ _. Bool) [ None ↦ false | Some x ↦ fits (start x.0) inner && fits x.1 f ])
    (next_none e)) ∙ h)

next_behind : (e : Element) (x : Kind × Content) → next_child document e ≡ Some x → behind_message ≡ x.1
next_behind e x h =
    (elim (same ESyncML e)
    as (λ (b : Bool).
    after_row (in_row (if b then Some kinds.Message else None) false
    (record { choice = One ESyncML kinds.Message; required = true; many = false }) [] None) ≡ Some x
    → behind_message ≡ x.1) [
      | true ↦ λ h'. cc
      | false ↦ λ h'. cc
    ]) h

element_of : (f : Forest) → IsTrue (fits document f) → IsElement (spelling f)
element_of nothing h = not_so h
element_of (text bytes f) h = not_so h
element_of (opaque bytes f) h = not_so h
element_of (bare e f) h =
    (elim (next_child document e)
    as (λ o. next_child document e ≡ o
    → IsTrue (elim o as (λ _. Bool) [ None ↦ false | Some x ↦ is_complete (start x.0) && fits x.1 f ])
    → IsElement (spelling (bare e f))) [
      | None ↦ λ n h'. not_so h'
      | Some x ↦ λ n h'.
          let none =
          no_more f (subst (λ c. IsTrue (fits c f)) (sym (next_behind e x n))
          (and_true (is_complete (start x.0)) (fits x.1 f) h').1) in
          (e, inl (ap (λ g. Tag e false ∷ spelling g) none))
    ]) refl h
element_of (full e inner f) h =
    (elim (next_child document e)
    as (λ o. next_child document e ≡ o
    → IsTrue (elim o as (λ _. Bool) [ None ↦ false | Some x ↦ fits (start x.0) inner && fits x.1 f ])
    → IsElement (spelling (full e inner f))) [
      | None ↦ λ n h'. not_so h'
      | Some x ↦ λ n h'.
          let none =
          no_more f (subst (λ c. IsTrue (fits c f)) (sym (next_behind e x n))
          (and_true (fits (start x.0) inner) (fits x.1 f) h').1) in
          (e, inr (spelling inner, ap (λ g. Tag e true ∷ (spelling inner ++ End ∷ spelling g)) none, content_of inner))
    ]) refl h

-- the tokens of a message are one element
pub element_of_parts : (tokens : List Token) (parts : Parts) → SpellsParts tokens parts → IsElement tokens
element_of_parts tokens parts (tree, shape, reads) = subst IsElement (sym shape.spelled) (element_of tree shape.fitting)
