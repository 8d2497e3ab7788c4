-- What the page behind a spelling depends on: the elements that it opens, and none of the numbers, texts and Data in
-- it.
use Rattle.std.specs.Prelude.{◌≡◌, ℕ, List, [], ◌∷◌, Option, Some, None}
use Rattle.wbxml_tables.specs.declared.Element.{Element}
use Rattle.wbxml_tokens.specs.declared.token.Token.{Token}
use Rattle.wbxml_tokens.specs.declared.token.Token.TheVariants.{Tag, End, Text, Opaque}
use Rattle.wbxml_tokens.specs.Spelling.{page_behind}
use Rattle.syncml_types.specs.declared.values.Item.{Item}
use Rattle.syncml_types.specs.declared.values.Cred.{Cred}
use Rattle.syncml_types.specs.declared.values.Header.{Header}
use Rattle.syncml_types.specs.declared.command.Command.{Command}
use Rattle.syncml_types.specs.Canonical.{command_tokens, header_tokens}
use Rattle.syncml_parts.specs.Numbering.{with_numbers}
use Rattle.syncml_parts.specs.Packing.{cut_item, cut_changed}

-- the elements that tokens open, in order
abbrev pub opened_elements : List Token → List Element
opened_elements [] = []
opened_elements (Tag e content ∷ ts) = e ∷ opened_elements ts
opened_elements (End ∷ ts) = opened_elements ts
opened_elements (Text text ∷ ts) = opened_elements ts
opened_elements (Opaque bytes ∷ ts) = opened_elements ts

abbrev pub PagesFollowElements : Type 0
PagesFollowElements =
    (page : ℕ) (ts us : List Token) → opened_elements ts ≡ opened_elements us → page_behind page ts ≡ page_behind page us

-- CmdIDs open nothing
abbrev pub PageWithoutNumbers : Type 0
PageWithoutNumbers =
    (page first : ℕ) (c : Command)
    → page_behind page (command_tokens (with_numbers first c)) ≡ page_behind page (command_tokens c)

abbrev pub with_item_value : List ℕ → Item → Item
with_item_value value i = record i { value = Some value }

-- nor does the Data of the item that may be cut, empty or not
abbrev pub PageWithoutData : Type 0
PageWithoutData =
    (page : ℕ) (c : Command) (i : Item) (old new : List ℕ)
    → cut_item c ≡ Some i
    → i.value ≡ Some old
    → page_behind page (command_tokens (cut_changed (with_item_value new) c)) ≡ page_behind page (command_tokens c)

-- a header of another session and message, with other Data in its Cred
abbrev pub with_secret : List ℕ → Option Cred → Option Cred
with_secret value None = None
with_secret value (Some c) = Some (record c { value = value })

abbrev pub HeaderPage : Type 0
HeaderPage =
    (page msg : ℕ) (session value : List ℕ) (h : Header)
    → page_behind page (header_tokens (record h { msg = msg; session = session; cred = with_secret value h.cred }))
    ≡ page_behind page (header_tokens h)
