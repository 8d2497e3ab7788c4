-- What puts nothing into its parent, and what a document has instead.
use Rattle.std.specs.Prelude.{◌≡◌, true, false, refl}
use Rattle.wbxml_tables.specs.declared.Element.{Element}
use Rattle.syncml_grammar.specs.declared.draft.MessageDraft.{MessageDraft}
use Rattle.syncml_grammar.specs.declared.draft.Draft.{Draft}
use Rattle.syncml_grammar.specs.declared.draft.Draft.TheVariants as draft
use Rattle.syncml_grammar.specs.Nodes.{with_inner, is_document}

pub whole_child : (d : Draft) (e : Element) (child : Draft) → is_document d ≡ true → with_inner d e child ≡ child
whole_child draft.Document e child is = refl
whole_child (draft.Message m) e child is = cc
whole_child (draft.Header h) e child is = cc
whole_child (draft.Body b) e child is = cc
whole_child (draft.Plain c) e child is = cc
whole_child (draft.Alert c) e child is = cc
whole_child (draft.Atomic b) e child is = cc
whole_child (draft.Sequence b) e child is = cc
whole_child (draft.Status c) e child is = cc
whole_child (draft.Results c) e child is = cc
whole_child (draft.Item item) e child is = cc
whole_child (draft.Loc loc) e child is = cc
whole_child (draft.Cred cred) e child is = cc
whole_child (draft.Chal meta) e child is = cc
whole_child (draft.Meta meta) e child is = cc

pub left_document : (d : Draft) (e : Element) → is_document d ≡ false → d ≡ with_inner d e draft.Document
left_document draft.Document e is = cc
left_document (draft.Message m) e is = refl
left_document (draft.Header h) e is = refl
left_document (draft.Body b) e is = refl
left_document (draft.Plain c) e is = refl
left_document (draft.Alert c) e is = refl
left_document (draft.Atomic b) e is = refl
left_document (draft.Sequence b) e is = refl
left_document (draft.Status c) e is = refl
left_document (draft.Results c) e is = refl
left_document (draft.Item item) e is = refl
left_document (draft.Loc loc) e is = refl
left_document (draft.Cred cred) e is = refl
left_document (draft.Chal meta) e is = refl
left_document (draft.Meta meta) e is = refl

pub left_message : (d : Draft) (e : Element) (m : MessageDraft) → is_document d ≡ false
    → d ≡ with_inner d e (draft.Message m)
left_message draft.Document e m is = cc
left_message (draft.Message n) e m is = refl
left_message (draft.Header h) e m is = refl
left_message (draft.Body b) e m is = refl
left_message (draft.Plain c) e m is = refl
left_message (draft.Alert c) e m is = refl
left_message (draft.Atomic b) e m is = refl
left_message (draft.Sequence b) e m is = refl
left_message (draft.Status c) e m is = refl
left_message (draft.Results c) e m is = refl
left_message (draft.Item item) e m is = refl
left_message (draft.Loc loc) e m is = refl
left_message (draft.Cred cred) e m is = refl
left_message (draft.Chal meta) e m is = refl
left_message (draft.Meta meta) e m is = refl
