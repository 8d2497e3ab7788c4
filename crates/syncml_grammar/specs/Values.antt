-- What elements hold: while they are open, and at their end.
use Rattle.std.specs.Prelude.{Bool, true, false, if◌then◌else◌, List, ℕ, Result, Ok, Err}
use Rattle.wbxml_tables.specs.declared.Element.{Element}
use Rattle.wbxml_tokens.specs.declared.reason.Reason.{Reason}
use Rattle.syncml_shape.specs.declared.rows.Kind.{Kind}
use Rattle.syncml_shape.specs.declared.rows.Kind.TheVariants as kinds
use Rattle.syncml_grammar.specs.declared.leaf.Leaf.{Leaf}
use Rattle.syncml_grammar.specs.declared.leaf.Simple.{Simple}
use Rattle.syncml_grammar.specs.declared.draft.Draft.{Draft}
use Rattle.syncml_grammar.specs.Leaves.{fresh_leaf, with_piece, closed_leaf}
use Rattle.syncml_grammar.specs.Drafts.{fresh_draft}
use Rattle.syncml_grammar.specs.Simples.{with_simple}
use Rattle.syncml_grammar.specs.Nodes.{with_inner}

-- of an open element
pub data Value : Type 0 where
  of_leaf : Leaf → Value
  of_draft : Draft → Value

-- of an element that has ended
pub data EndedElement : Type 0 where
  simple : Simple → EndedElement
  node : Draft → EndedElement

-- whether an element of this kind has a text, a number or nothing, and no children
abbrev pub holds_leaf : Kind → Bool
holds_leaf kinds.Text = true
holds_leaf kinds.Bytes = true
holds_leaf kinds.Id = true
holds_leaf kinds.Code = true
holds_leaf kinds.Size = true
holds_leaf kinds.Flag = true
holds_leaf other = false

-- before its first child and its first piece of text
abbrev pub fresh_value : Kind → Element → Value
fresh_value kind e = if holds_leaf kind then of_leaf (fresh_leaf kind) else of_draft (fresh_draft kind e)

-- with one more piece of text
abbrev pub with_text : Value → List ℕ → Value
with_text (of_leaf leaf) bytes = of_leaf (with_piece leaf bytes)
with_text (of_draft draft) bytes = of_draft draft

abbrev pub simply : Result Simple Reason → Result EndedElement Reason
simply (Ok x) = Ok (simple x)
simply (Err reason) = Err reason

-- at its end: what it holds, or why its text doesn't read
abbrev pub closed_value : Kind → Value → Result EndedElement Reason
closed_value kind (of_leaf leaf) = simply (closed_leaf kind leaf)
closed_value kind (of_draft draft) = Ok (node draft)

abbrev pub draft_with : Draft → Element → EndedElement → Draft
draft_with draft e (simple x) = with_simple draft e x
draft_with draft e (node child) = with_inner draft e child

-- with one more child
abbrev pub with_child : Value → Element → EndedElement → Value
with_child (of_leaf leaf) e child = of_leaf leaf
with_child (of_draft draft) e child = of_draft (draft_with draft e child)
