-- The canonical tokens of a fit message spell it.
use Rattle.std.specs.Prelude.{◌≡◌, ℕ, Bool, true, false, if◌then◌else◌, List, [], ◌∷◌, ◌++◌, drop, Option, Some, None}
use Rattle.std.specs.Prelude.{IfSome, IsTrue, refl}
use Rattle.std.proofs.Common.{sym, subst, ◌∙◌}
use Rattle.std.proofs.lemmas.List.{append-nil}
use Rattle.std.specs.List.{AllByRecursion}
use Rattle.wbxml_tables.specs.declared.Element.{Element}
use Rattle.wbxml_tables.specs.declared.Element.TheVariants.{ECred, EFinal, EMsgID, ENoResp, ERespURI, ESessionID}
use Rattle.wbxml_tables.specs.declared.Element.TheVariants.{ESource, ESyncBody, ESyncHdr, ESyncML, ETarget, EVerDTD}
use Rattle.wbxml_tables.specs.declared.Element.TheVariants.{EVerProto}
use Rattle.syncml_shape.specs.declared.rows.Kind.TheVariants as kinds
use Rattle.syncml_shape.specs.declared.rows.Choice.TheVariants.{Commands}
use Rattle.syncml_shape.specs.declared.rows.ChildRow.{ChildRow}
use Rattle.syncml_shape.specs.declared.rows.TheConstants as table
use Rattle.syncml_shape.specs.Forest.{nothing}
use Rattle.syncml_shape.specs.Rows.{same, Content, in_order, document, start, in_row, next_row, after_row, next_child}
use Rattle.syncml_shape.specs.Rows.{is_complete}
use Rattle.syncml_shape.proofs.Accepts.{and_true}
use Rattle.syncml_shape.proofs.Names.{same_only}
use Rattle.syncml_types.specs.declared.values.Loc.{Loc}
use Rattle.syncml_types.specs.declared.values.Meta.{Meta}
use Rattle.syncml_types.specs.declared.values.Cred.{Cred}
use Rattle.syncml_types.specs.declared.values.Header.{Header}
use Rattle.syncml_types.specs.declared.command.Command.{Command}
use Rattle.syncml_types.specs.Message.{Parts}
use Rattle.syncml_types.specs.Canonical.{is_text, text_tokens, number_tokens, flag_tokens, optional, loc_tokens}
use Rattle.syncml_types.specs.Canonical.{meta_tokens, cred_tokens, header_tokens, command_tokens, commands_tokens}
use Rattle.syncml_types.specs.Canonical.{body_children, body_tokens, message_tokens}
use Rattle.syncml_types.specs.Fitness.{all_of, is_in_limit, is_number, loc_texts, cred_texts, header_texts, header_data}
use Rattle.syncml_types.specs.Fitness.{IsFit}
use Rattle.syncml_grammar.specs.declared.draft.Draft.TheVariants as drafts
use Rattle.syncml_grammar.specs.Values.{Value, of_draft, node, fresh_value, with_child}
use Rattle.syncml_grammar.specs.Reads.{SpellsParts}
use Rattle.syncml_codec.specs.Ranges.{CredRange, HeaderRange, AreNumbers}
use Rattle.syncml_codec.proofs.CanonicalForests.{Puts, ◌behind◌, puts_full, puts_element, Covers, puts_then, row}
use Rattle.syncml_codec.proofs.CanonicalForests.{next_here, skips, puts_optional, puts_flag, puts_list, none_some}
use Rattle.syncml_codec.proofs.CanonicalForests.{each_so}
use Rattle.syncml_codec.proofs.CanonicalValues.{text_row, text_option, id_row, loc_element, good_meta, meta_option}
use Rattle.syncml_codec.proofs.CanonicalValues.{GoodCred, cred_element}
use Rattle.syncml_codec.proofs.CanonicalCommands.{many_row, GoodCommand, good_commands, body_held, command_one}

-- ---- headers

-- what is known of a header
record GoodHeader (h : Header) : Type 0 where
  texts : header_texts is_text h ≡ true
  data_short : header_data is_in_limit h ≡ true
  number : is_number h.msg ≡ true
  range : HeaderRange h

loc_row : {v : Value} (e : Element) (rows : List ChildRow) (loc : Loc) → next_row false rows e ≡ None
    → loc_texts is_text loc ≡ true
    → Puts (in_order false (row e kinds.Loc true false ∷ rows)) v (loc_tokens e loc) (in_order false rows)
    (with_child v e (node (drafts.Loc loc)))
loc_row e rows loc none h =
    puts_then (loc_element e loc (next_here e kinds.Loc true false false rows refl) h)
    (skips e kinds.Loc true false true rows none refl)

good_cred : (o : Option Cred) → all_of (cred_texts is_text) o ≡ true
    → all_of (λ (c : Cred). is_in_limit c.value) o ≡ true
    → IfSome o CredRange → IfSome o GoodCred
good_cred None t d r = tt
good_cred (Some c) t d r = record { texts = t; data_short = d; range = r }

cred_option : (rows : List ChildRow) (value : Option Cred → Value) (o : Option Cred) → next_row false rows ECred ≡ None
    → IfSome o GoodCred
    → ((c : Cred) → with_child (value None) ECred (node (drafts.Cred c)) ≡ value (Some c))
    → Puts (in_order false (row ECred kinds.Cred false false ∷ rows)) (value None) (optional cred_tokens o)
    (in_order false rows) (value o)
cred_option rows value o none good same =
    puts_optional GoodCred cred_tokens value o good (skips ECred kinds.Cred false false false rows none refl)
    (λ c is.
    subst (λ w. Puts (in_order false (row ECred kinds.Cred false false ∷ rows)) (value None) (cred_tokens c)
    (in_order false rows) w) (same c)
    (puts_then (cred_element c (next_here ECred kinds.Cred false false false rows refl) is)
    (skips ECred kinds.Cred false false true rows none refl)))

abbrev header_held : List ℕ → List ℕ → List ℕ → ℕ → Loc → Loc → Option (List ℕ) → Bool → Option Cred → Option Meta
    → Value
header_held dtd proto session msg target source resp_uri no_resp cred meta = of_draft (drafts.Header (record {
  dtd = dtd;
  proto = proto;
  session = session;
  msg = msg;
  target = target;
  source = source;
  resp_uri = resp_uri;
  no_resp = no_resp;
  cred = cred;
  meta = meta;
}))

header_element : {c d : Content} {v : Value} (h : Header) → next_child c ESyncHdr ≡ Some (kinds.Header, d) → GoodHeader h
    → Puts c v (header_tokens h) d (with_child v ESyncHdr (node (drafts.Header h)))
unfolding header_tokens header_texts header_data
header_element h n good =
    let seven = and_true _ _ good.texts in
    let six = and_true _ _ seven.0 in
    let five = and_true _ _ six.0 in
    let four = and_true _ _ five.0 in
    let three = and_true _ _ four.0 in
    let two = and_true _ _ three.0 in
    let one = and_true _ _ two.0 in
    let inner : Puts (start kinds.Header) (fresh_value kinds.Header ESyncHdr)
    (text_tokens EVerDTD h.dtd ++ text_tokens EVerProto h.proto ++ text_tokens ESessionID h.session
    ++ number_tokens EMsgID h.msg ++ loc_tokens ETarget h.target
    ++ loc_tokens ESource h.source ++ optional (text_tokens ERespURI) h.resp_uri ++ flag_tokens ENoResp h.no_resp
    ++ optional cred_tokens h.cred ++ optional meta_tokens h.meta)
    (in_order false []) (of_draft (drafts.Header h)) =
    text_row EVerDTD true false (drop 1 table.HEADER) h.dtd refl one.0
    behind text_row EVerProto true false (drop 2 table.HEADER) h.proto refl one.1
    behind text_row ESessionID true false (drop 3 table.HEADER) h.session refl two.1
    behind id_row EMsgID true false (drop 4 table.HEADER) h.msg refl good.number good.range.msg
    behind loc_row ETarget (drop 5 table.HEADER) h.target refl three.1
    behind loc_row ESource (drop 6 table.HEADER) h.source refl four.1
    behind text_option ERespURI (drop 7 table.HEADER)
    (λ o. header_held h.dtd h.proto h.session h.msg h.target h.source o false None None) h.resp_uri refl five.1
    (λ t. refl)
    behind puts_flag ENoResp (drop 8 table.HEADER)
    (λ b. header_held h.dtd h.proto h.session h.msg h.target h.source h.resp_uri b None None) h.no_resp refl refl
    behind cred_option (drop 9 table.HEADER)
    (λ o. header_held h.dtd h.proto h.session h.msg h.target h.source h.resp_uri h.no_resp o None) h.cred refl
    (good_cred h.cred six.1 good.data_short good.range.cred) (λ c. refl)
    behind meta_option []
    (λ o. header_held h.dtd h.proto h.session h.msg h.target h.source h.resp_uri h.no_resp h.cred o) h.meta refl
    (good_meta h.meta seven.1 good.range.meta) (λ m. refl) in
    puts_full ESyncHdr kinds.Header (node (drafts.Header h)) n inner refl refl

-- ---- bodies

final_next : (came : Bool)
    → next_child (in_order came table.BODY) EFinal ≡ Some (kinds.Flag, in_order true (drop 1 table.BODY))
final_next true = refl
final_next false = refl

commands_end : (came : Bool) → IsTrue (is_complete (in_order came table.BODY))
commands_end true = refl
commands_end false = refl

-- no command is Final
commands_pass : (came : Bool) → Covers (in_order came table.BODY) (in_order false (drop 1 table.BODY))
commands_pass came = record {
  next = λ other x h.
      (elim (same EFinal other) as (λ (b : Bool). same EFinal other ≡ b
      → after_row (in_row (if b then Some kinds.Flag else None) false (row EFinal kinds.Flag false false) []
      (next_row false [] other)) ≡ Some x
      → next_child (in_order came table.BODY) other ≡ Some x) [
        | true ↦ λ is g.
            subst (λ e. next_child (in_order came table.BODY) e ≡ Some x) (same_only EFinal other is) (final_next came ∙ g)
        | false ↦ λ is g. none_some x g
      ]) refl h;
  complete = λ h. commands_end came;
  no_text = refl;
}

body_element : {c d : Content} {v : Value} (body : List Command) (last : Bool) → next_child c ESyncBody ≡ Some (kinds.Body, d)
    → AllByRecursion GoodCommand body
    → Puts c v (body_tokens body last) d
    (with_child v ESyncBody (node (drafts.Body (record { commands = body; last = last }))))
unfolding body_tokens commands_tokens
body_element body last n good =
    let inner : Puts (start kinds.Body) (fresh_value kinds.Body ESyncBody) (body_children body last) (in_order false [])
    (body_held body last) =
    puts_list (many_row Commands false ∷ drop 1 table.BODY) (λ cs. body_held cs false) command_tokens body
    (each_so GoodCommand _ body (command_one (drop 1 table.BODY)) good) (commands_pass false) (commands_pass true)
    behind puts_flag EFinal [] (λ b. body_held body b) last refl refl in
    puts_element ESyncBody kinds.Body (node (drafts.Body (record { commands = body; last = last }))) n inner refl refl

-- ---- messages

abbrev pub message_held : Option Header → List Command → Bool → Value
message_held header body last = of_draft (drafts.Message (record { header = header; body = body; last = last }))

pub message_children : (parts : Parts) → IsFit parts.header parts.body → AreNumbers parts
    → Puts (start kinds.Message) (fresh_value kinds.Message ESyncML)
    (header_tokens parts.header ++ body_tokens parts.body parts.last) (in_order false [])
    (message_held (Some parts.header) parts.body parts.last)
message_children parts fit numbers =
    let texts = and_true _ _ fit.texts in
    let data_short = and_true _ _ fit.short_data in
    let ids = and_true _ _ fit.numbers in
    puts_then (header_element parts.header
    (next_here ESyncHdr kinds.Header true false false (drop 1 table.MESSAGE) refl)
    (record { texts = texts.0; data_short = data_short.0; number = ids.0; range = numbers.header }))
    (skips ESyncHdr kinds.Header true false true (drop 1 table.MESSAGE) refl refl)
    behind puts_then (body_element parts.body parts.last (next_here ESyncBody kinds.Body true false false [] refl)
    (good_commands parts.body texts.1 data_short.1 ids.1 fit.filled fit.correlators numbers.body))
    (skips ESyncBody kinds.Body true false true [] refl refl)

-- the canonical tokens of a fit message spell it
pub canonical_is_spelled : (parts : Parts) → IsFit parts.header parts.body → AreNumbers parts
    → SpellsParts (message_tokens parts) parts
unfolding message_tokens
canonical_is_spelled parts fit numbers =
    let whole =
    puts_full {c = document} {v = of_draft drafts.Document} ESyncML kinds.Message
    (node (drafts.Message (record { header = Some parts.header; body = parts.body; last = parts.last })))
    (next_here ESyncML kinds.Message true false false [] refl) (message_children parts fit numbers) refl refl in (
      whole.front nothing,
      record {
        spelled = sym (whole.spells nothing ∙ append-nil (message_tokens parts));
        fitting = whole.fit nothing refl;
      },
      (message_held (Some parts.header) parts.body parts.last, whole.place 0, whole.reads 0 nothing refl, refl),
    )
