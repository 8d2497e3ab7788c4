-- An element without children is its tag alone.
use Rattle.std.proofs.Common.{◌≡◌, ℕ, Bool, true, false, not, ◌&&◌, ◌==◌, List, [], ◌∷◌, ◌++◌, Option, Some, None}
use Rattle.std.proofs.Common.{length, refl, sym, ◌∙◌, arith}
use Rattle.std.proofs.Math.Bool.{and_assoc}
use Rattle.std.proofs.lemmas.Bool.{ne_eqb}
use Rattle.std.specs.Option.{is_none}
use Rattle.wbxml_tables.specs.declared.Element.{Element}
use Rattle.wbxml_tables.specs.declared.Element.TheVariants.{EMeta, EItem, ESyncBody, EFinal}
use Rattle.wbxml_tokens.specs.declared.token.Token.{Token}
use Rattle.wbxml_tokens.specs.declared.token.Token.TheVariants.{Tag}
use Rattle.syncml_types.specs.declared.values.Loc.{Loc}
use Rattle.syncml_types.specs.declared.values.Meta.{Meta}
use Rattle.syncml_types.specs.declared.values.Item.{Item}
use Rattle.syncml_types.specs.declared.command.Command.{Command}
use Rattle.syncml_types.specs.declared.command.Command.TheVariants as command
use Rattle.syncml_types.specs.Canonical.{element_tokens, parent_tokens, text_tokens, number_tokens, flag_tokens}
use Rattle.syncml_types.specs.Canonical.{data_tokens, optional, loc_tokens, meta_tokens, meta_children, is_empty_meta}
use Rattle.syncml_types.specs.Canonical.{item_tokens, item_children, is_empty_item, plain_tokens, alert_tokens}
use Rattle.syncml_types.specs.Canonical.{atomic_tokens, sequence_tokens, status_tokens, results_tokens, command_tokens}
use Rattle.syncml_types.specs.Canonical.{commands_tokens, body_tokens, body_children, is_empty_body}

is_nil : List Token → Bool
is_nil [] = true
is_nil (t ∷ ts) = false

nil_append : (a b : List Token) → is_nil (a ++ b) ≡ (is_nil a && is_nil b)
unfolding is_nil
nil_append [] b = refl
nil_append (t ∷ a) b = refl

element-nil : (e : Element) (ts : List Token) → is_nil ts ≡ true → element_tokens e ts ≡ Tag e false ∷ []
unfolding is_nil
element-nil e [] h = refl
element-nil e (t ∷ ts) h = cc

element-full : (e : Element) (ts : List Token) → is_nil ts ≡ false → element_tokens e ts ≡ parent_tokens e ts
unfolding is_nil
element-full e [] h = cc
element-full e (t ∷ ts) h = refl

nil_text : (e : Element) (text : List ℕ) → is_nil (text_tokens e text) ≡ false
unfolding is_nil text_tokens
nil_text e [] = refl
nil_text e (b ∷ bs) = refl

nil_number : (e : Element) (n : ℕ) → is_nil (number_tokens e n) ≡ false
unfolding number_tokens
nil_number e n = nil_text e _

nil_data : (value : List ℕ) → is_nil (data_tokens value) ≡ false
unfolding is_nil data_tokens
nil_data [] = refl
nil_data (b ∷ bs) = refl

nil_loc : (e : Element) (loc : Loc) → is_nil (loc_tokens e loc) ≡ false
unfolding is_nil loc_tokens
nil_loc e loc = refl

nil_element : (e : Element) (ts : List Token) → is_nil (element_tokens e ts) ≡ false
unfolding is_nil
nil_element e [] = refl
nil_element e (t ∷ ts) = refl

nil_meta : (meta : Meta) → is_nil (meta_tokens meta) ≡ false
unfolding meta_tokens
nil_meta meta = nil_element EMeta (meta_children meta)

nil_flag : (e : Element) (flag : Bool) → is_nil (flag_tokens e flag) ≡ not flag
unfolding is_nil flag_tokens
nil_flag e true = refl
nil_flag e false = refl

nil_optional : {A : Type 0} (tokens : A → List Token) → ((x : A) → is_nil (tokens x) ≡ false) → (o : Option A)
    → is_nil (optional tokens o) ≡ is_none o
unfolding is_nil
nil_optional tokens h None = refl
nil_optional tokens h (Some x) = h x

nil_option_text : (e : Element) (o : Option (List ℕ)) → is_nil (optional (text_tokens e) o) ≡ is_none o
nil_option_text e o = nil_optional (text_tokens e) (nil_text e) o

nil_option_number : (e : Element) (o : Option ℕ) → is_nil (optional (number_tokens e) o) ≡ is_none o
nil_option_number e o = nil_optional (number_tokens e) (nil_number e) o

nil_option_loc : (e : Element) (o : Option Loc) → is_nil (optional (loc_tokens e) o) ≡ is_none o
nil_option_loc e o = nil_optional (loc_tokens e) (nil_loc e) o

nil_option_meta : (o : Option Meta) → is_nil (optional meta_tokens o) ≡ is_none o
nil_option_meta o = nil_optional meta_tokens nil_meta o

nil_option_data : (o : Option (List ℕ)) → is_nil (optional data_tokens o) ≡ is_none o
nil_option_data o = nil_optional data_tokens nil_data o

both : {a b c d : Bool} → a ≡ c → b ≡ d → (a && b) ≡ (c && d)
both p q = cc

nil_meta_children : (meta : Meta) → is_nil (meta_children meta) ≡ is_empty_meta meta
nil_meta_children meta = simp (nil_append, nil_option_text, nil_option_number, and_assoc) refl

pub bare_meta : (meta : Meta) → is_empty_meta meta ≡ true → meta_tokens meta ≡ Tag EMeta false ∷ []
unfolding meta_tokens
bare_meta meta h = element-nil EMeta (meta_children meta) (nil_meta_children meta ∙ h)

pub full_meta : (meta : Meta) → is_empty_meta meta ≡ false → meta_tokens meta ≡ parent_tokens EMeta (meta_children meta)
unfolding meta_tokens
full_meta meta h = element-full EMeta (meta_children meta) (nil_meta_children meta ∙ h)

nil_item_children : (item : Item) → is_nil (item_children item) ≡ is_empty_item item
nil_item_children item = simp (nil_append, nil_option_loc, nil_option_meta, nil_option_data, nil_flag, and_assoc) refl

pub bare_item : (item : Item) → is_empty_item item ≡ true → item_tokens item ≡ Tag EItem false ∷ []
unfolding item_tokens
bare_item item h = element-nil EItem (item_children item) (nil_item_children item ∙ h)

pub full_item : (item : Item) → is_empty_item item ≡ false → item_tokens item ≡ parent_tokens EItem (item_children item)
unfolding item_tokens
full_item item h = element-full EItem (item_children item) (nil_item_children item ∙ h)

nil_command : (c : Command) → is_nil (command_tokens c) ≡ false
unfolding is_nil command_tokens plain_tokens alert_tokens atomic_tokens sequence_tokens status_tokens results_tokens
nil_command (command.Plain c) = refl
nil_command (command.Alert c) = refl
nil_command (command.Atomic b) = refl
nil_command (command.Sequence b) = refl
nil_command (command.Status c) = refl
nil_command (command.Results c) = refl

nil_commands : (cs : List Command) → is_nil (commands_tokens cs) ≡ (length cs == 0)
unfolding is_nil commands_tokens
nil_commands [] = refl
nil_commands (c ∷ cs) =
    nil_append (command_tokens c) (commands_tokens cs) ∙ both (nil_command c) refl
    ∙ sym (ne_eqb _ 0 (λ e. omega (arith, e)))

nil_body_children : (body : List Command) (last : Bool) → is_nil (body_children body last) ≡ is_empty_body body last
nil_body_children body last =
    nil_append (commands_tokens body) (flag_tokens EFinal last) ∙ both (nil_commands body) (nil_flag EFinal last)

pub bare_body : (body : List Command) (last : Bool) → is_empty_body body last ≡ true
    → body_tokens body last ≡ Tag ESyncBody false ∷ []
unfolding body_tokens
bare_body body last h = element-nil ESyncBody (body_children body last) (nil_body_children body last ∙ h)

pub full_body : (body : List Command) (last : Bool) → is_empty_body body last ≡ false
    → body_tokens body last ≡ parent_tokens ESyncBody (body_children body last)
unfolding body_tokens
full_body body last h = element-full ESyncBody (body_children body last) (nil_body_children body last ∙ h)
