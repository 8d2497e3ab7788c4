-- The canonical tokens of commands: what is put before a rest.
use Rattle.std.specs.Prelude.{◌≡◌, ◌==◌, ◌&&◌, ◌||◌, ℕ, Bool, true, false, not, if◌then◌else◌, List, [], ◌∷◌, ◌++◌}
use Rattle.std.specs.Prelude.{drop, length, Option, Some, None, IfSome, refl}
use Rattle.std.proofs.Common.{sym, ap, subst, ◌∙◌, arith}
use Rattle.std.proofs.lemmas.Bool.{eqb-true}
use Rattle.std.specs.List.{AllByRecursion, list_all}
use Rattle.std.specs.Option.{is_none}
use Rattle.wbxml_tables.specs.declared.Element.{Element}
use Rattle.wbxml_tables.specs.declared.Element.TheVariants.{EAlert, EAtomic, EChal, ECmd, ECmdID, ECmdRef, ECorrelator}
use Rattle.wbxml_tables.specs.declared.Element.TheVariants.{EData, EItem, EMsgRef, ENoResp, EResults, ESequence}
use Rattle.wbxml_tables.specs.declared.Element.TheVariants.{ESourceRef, EStatus, ETargetRef}
use Rattle.wbxml_tokens.specs.declared.token.Token.{Token}
use Rattle.syncml_shape.specs.declared.rows.Kind.{Kind}
use Rattle.syncml_shape.specs.declared.rows.Kind.TheVariants as kinds
use Rattle.syncml_shape.specs.declared.rows.Choice.{Choice}
use Rattle.syncml_shape.specs.declared.rows.Choice.TheVariants.{Commands, AtomicMembers, SequenceMembers}
use Rattle.syncml_shape.specs.declared.rows.ChildRow.{ChildRow}
use Rattle.syncml_shape.specs.declared.rows.TheConstants as table
use Rattle.syncml_shape.specs.Rows.{kind_in, Content, in_order, start, in_row, next_row, after_row, next_child}
use Rattle.syncml_shape.proofs.Accepts.{and_true}
use Rattle.syncml_types.specs.declared.values.Meta.{Meta}
use Rattle.syncml_types.specs.declared.values.Item.{Item}
use Rattle.syncml_types.specs.declared.command.Verb.{Verb}
use Rattle.syncml_types.specs.declared.command.Verb.TheVariants as verb
use Rattle.syncml_types.specs.declared.command.Plain.{Plain}
use Rattle.syncml_types.specs.declared.command.AlertCmd.{AlertCmd}
use Rattle.syncml_types.specs.declared.command.Member.{Member}
use Rattle.syncml_types.specs.declared.command.Member.TheVariants as member
use Rattle.syncml_types.specs.declared.command.Block.{Block}
use Rattle.syncml_types.specs.declared.command.SeqMember.{SeqMember}
use Rattle.syncml_types.specs.declared.command.SeqMember.TheVariants as seq_member
use Rattle.syncml_types.specs.declared.command.StatusCmd.{StatusCmd}
use Rattle.syncml_types.specs.declared.command.ResultsCmd.{ResultsCmd}
use Rattle.syncml_types.specs.declared.command.Command.{Command}
use Rattle.syncml_types.specs.declared.command.Command.TheVariants as command
use Rattle.syncml_types.specs.Canonical.{is_text, text_tokens, number_tokens, flag_tokens, optional, meta_tokens}
use Rattle.syncml_types.specs.Canonical.{item_tokens, items_tokens, texts_tokens, chal_tokens, verb_element}
use Rattle.syncml_types.specs.Canonical.{plain_tokens, alert_tokens, member_tokens, members_tokens, atomic_tokens}
use Rattle.syncml_types.specs.Canonical.{seq_member_tokens, seq_members_tokens, sequence_tokens, status_tokens}
use Rattle.syncml_types.specs.Canonical.{results_tokens, command_tokens}
use Rattle.syncml_types.specs.Fitness.{all_of, is_in_limit, is_number, is_filled, item_texts, item_data}
use Rattle.syncml_types.specs.Verbs.{is_exec}
use Rattle.syncml_types.specs.Fitness.{plain_texts, alert_texts, member_texts, atomic_texts, seq_member_texts}
use Rattle.syncml_types.specs.Fitness.{sequence_texts, status_texts, results_texts, command_texts, member_data}
use Rattle.syncml_types.specs.Fitness.{seq_member_data, command_data, member_numbers, atomic_numbers}
use Rattle.syncml_types.specs.Fitness.{seq_member_numbers, command_numbers, plain_filled, member_filled, atomic_filled}
use Rattle.syncml_types.specs.Fitness.{seq_member_filled, command_filled, plain_correlates, member_correlates}
use Rattle.syncml_types.specs.Fitness.{seq_member_correlates, command_correlates}
use Rattle.syncml_grammar.specs.declared.leaf.Simple.TheVariants as simples
use Rattle.syncml_grammar.specs.declared.draft.Draft.TheVariants as drafts
use Rattle.syncml_grammar.specs.Drafts.{no_plain}
use Rattle.syncml_grammar.specs.Values.{Value, of_draft, simple, node, fresh_value, with_child}
use Rattle.syncml_codec.specs.Ranges.{IsShortNumber, ItemRange, PlainRange, AlertRange, MemberRange, AtomicRange}
use Rattle.syncml_codec.specs.Ranges.{SeqMemberRange, StatusRange, ResultsRange, CommandRange}
use Rattle.syncml_codec.proofs.CanonicalForests.{Puts, ◌behind◌, puts_none, puts_full, puts_then, row, next_here, skips}
use Rattle.syncml_codec.proofs.CanonicalForests.{ends, puts_optional, puts_flag, PutsOne, puts_filled, puts_list}
use Rattle.syncml_codec.proofs.CanonicalForests.{each_of, each_so}
use Rattle.syncml_codec.proofs.CanonicalValues.{IsText, text_element, text_row, text_option, id_row, code_row, GoodMeta}
use Rattle.syncml_codec.proofs.CanonicalValues.{good_meta, meta_option, GoodItem, item_element, chal_element}

-- ---- lists of items and of texts

good_items : (items : List Item) → list_all (item_texts is_text) items ≡ true
    → list_all (item_data is_in_limit) items ≡ true → AllByRecursion ItemRange items
    → AllByRecursion GoodItem items
good_items [] t d r = tt
good_items (item ∷ items) t d r =
    let texts = and_true _ _ t in
    let data_short = and_true _ _ d in
    (record { texts = texts.0; data_short = data_short.0; range = r.0 }, good_items items texts.1 data_short.1 r.1)

again : (came : Bool) → (came && not true) ≡ false
again true = refl
again false = refl

-- a row of many items
item_one : (r : Bool) (value : List Item → Value)
    → ((before : List Item) (item : Item)
    → with_child (value before) EItem (node (drafts.Item item)) ≡ value (before ++ item ∷ []))
    → (item : Item) → GoodItem item → PutsOne (row EItem kinds.Item r true ∷ []) value item_tokens item
item_one r value same item good came before =
    subst (λ w. Puts (in_order came (row EItem kinds.Item r true ∷ [])) (value before) (item_tokens item)
    (in_order true (row EItem kinds.Item r true ∷ [])) w)
    (same before item) (item_element item (next_here EItem kinds.Item r true came [] (again came)) good)

items_filled : (value : List Item → Value)
    → ((before : List Item) (item : Item)
    → with_child (value before) EItem (node (drafts.Item item)) ≡ value (before ++ item ∷ []))
    → (items : List Item) → is_filled items ≡ true → AllByRecursion GoodItem items
    → Puts (in_order false (row EItem kinds.Item true true ∷ [])) (value []) (items_tokens items) (in_order false [])
    (value items)
unfolding items_tokens
items_filled value same items some good =
    puts_filled (row EItem kinds.Item true true ∷ []) value item_tokens items some
    (each_so GoodItem _ items (item_one true value same) good)
    (ends (row EItem kinds.Item true true) true refl)

items_any : (value : List Item → Value)
    → ((before : List Item) (item : Item)
    → with_child (value before) EItem (node (drafts.Item item)) ≡ value (before ++ item ∷ []))
    → (items : List Item) → AllByRecursion GoodItem items
    → Puts (in_order false (row EItem kinds.Item false true ∷ [])) (value []) (items_tokens items) (in_order false [])
    (value items)
unfolding items_tokens
items_any value same items good =
    puts_list (row EItem kinds.Item false true ∷ []) value item_tokens items
    (each_so GoodItem _ items (item_one false value same) good)
    (ends (row EItem kinds.Item false true) false refl) (ends (row EItem kinds.Item false true) true refl)

texts_any : (e : Element) (rows : List ChildRow) (value : List (List ℕ) → Value) → next_row false rows e ≡ None
    → ((before : List (List ℕ)) (t : List ℕ)
    → with_child (value before) e (simple (simples.Text t)) ≡ value (before ++ t ∷ []))
    → (texts : List (List ℕ)) → list_all is_text texts ≡ true
    → Puts (in_order false (row e kinds.Text false true ∷ rows)) (value []) (texts_tokens e texts) (in_order false rows)
    (value texts)
unfolding texts_tokens
texts_any e rows value none same texts good =
    puts_list (row e kinds.Text false true ∷ rows) value (text_tokens e) texts
    (each_so IsText _ texts one (each_of is_text texts good))
    (skips e kinds.Text false true false rows none refl) (skips e kinds.Text false true true rows none refl)
  where
    one : (t : List ℕ) → is_text t ≡ true → PutsOne (row e kinds.Text false true ∷ rows) value (text_tokens e) t
    one t h came before =
        subst (λ w. Puts (in_order came (row e kinds.Text false true ∷ rows)) (value before) (text_tokens e t)
        (in_order true (row e kinds.Text false true ∷ rows)) w)
        (same before t) (text_element e t (next_here e kinds.Text false true came rows (again came)) h)

-- ---- commands on the management tree

-- what is known of a command on the tree
pub record GoodPlain (c : Plain) : Type 0 where
  pub texts : plain_texts is_text c ≡ true
  pub data_short : list_all (item_data is_in_limit) c.items ≡ true
  pub number : is_number c.id ≡ true
  pub filled : plain_filled c ≡ true
  pub correlates : plain_correlates c ≡ true
  pub range : PlainRange c

abbrev plain_held : Verb → ℕ → Bool → Option Meta → Option (List ℕ) → List Item → Value
plain_held v id no_resp meta correlator items = of_draft (drafts.Plain (record {
  verb = v;
  id = id;
  no_resp = no_resp;
  meta = meta;
  correlator = correlator;
  items = items;
}))

abbrev plain_children : Plain → List Token
plain_children c =
    number_tokens ECmdID c.id
    ++ flag_tokens ENoResp c.no_resp
    ++ optional meta_tokens c.meta
    ++ optional (text_tokens ECorrelator) c.correlator
    ++ items_tokens c.items

-- with one item or more, and no correlator
plain_puts : (v : Verb) (id : ℕ) (no_resp : Bool) (meta : Option Meta) (items : List Item) → is_number id ≡ true
    → IsShortNumber id → IfSome meta GoodMeta
    → is_filled items ≡ true → AllByRecursion GoodItem items
    → Puts (in_order false table.PLAIN) (of_draft (drafts.Plain (no_plain v)))
    (number_tokens ECmdID id ++ flag_tokens ENoResp no_resp ++ optional meta_tokens meta ++ [] ++ items_tokens items)
    (in_order false []) (plain_held v id no_resp meta None items)
plain_puts v id no_resp meta items number low good some all =
    id_row ECmdID true false (drop 1 table.PLAIN) id refl number low
    behind puts_flag ENoResp (drop 2 table.PLAIN) (λ b. plain_held v id b None None []) no_resp refl refl
    behind meta_option (drop 3 table.PLAIN) (λ o. plain_held v id no_resp o None []) meta refl good (λ m. refl)
    behind puts_none
    behind items_filled (plain_held v id no_resp meta None) (λ before item. refl) items some all

-- with a correlator or none, and one item
exec_puts : (v : Verb) (id : ℕ) (no_resp : Bool) (meta : Option Meta) (correlator : Option (List ℕ)) (item : Item)
    → is_number id ≡ true → IsShortNumber id → IfSome meta GoodMeta
    → all_of is_text correlator ≡ true → GoodItem item
    → Puts (in_order false table.EXEC) (of_draft (drafts.Plain (no_plain v)))
    (number_tokens ECmdID id ++ flag_tokens ENoResp no_resp ++ optional meta_tokens meta
    ++ optional (text_tokens ECorrelator) correlator ++ items_tokens (item ∷ []))
    (in_order false []) (plain_held v id no_resp meta correlator (item ∷ []))
unfolding items_tokens
exec_puts v id no_resp meta correlator item number low good text_good item_good =
    id_row ECmdID true false (drop 1 table.EXEC) id refl number low
    behind puts_flag ENoResp (drop 2 table.EXEC) (λ b. plain_held v id b None None []) no_resp refl refl
    behind meta_option (drop 3 table.EXEC) (λ o. plain_held v id no_resp o None []) meta refl good (λ m. refl)
    behind text_option ECorrelator (drop 4 table.EXEC) (λ o. plain_held v id no_resp meta o []) correlator refl
    text_good (λ t. refl)
    behind (puts_then (item_element item (next_here EItem kinds.Item true false false [] refl) item_good)
    (skips EItem kinds.Item true false true [] refl refl) behind puts_none)

-- what a command of this verb holds
abbrev pub verb_kind : Verb → Kind
verb_kind verb.Exec = kinds.Exec
verb_kind other = kinds.Plain

not_exec : (c : Plain) → is_exec c.verb ≡ false → plain_filled c ≡ true → is_filled c.items ≡ true
unfolding plain_filled
not_exec c other h = sym (ap (λ (b : Bool). if b then length c.items == 1 else is_filled c.items) other) ∙ h

no_correlator : (exec : Bool) (o : Option (List ℕ)) → exec ≡ false → (exec || is_none o) ≡ true → o ≡ None
no_correlator true o other h = cc
no_correlator false None other h = refl
no_correlator false (Some t) other h = cc

one_item : (items : List Item) → (length items == 1) ≡ true → (item : Item) × (items ≡ item ∷ [])
one_item [] h = cc
one_item (item ∷ []) h = (item, refl)
one_item (item ∷ other ∷ items) h = absurd (omega (arith, eqb-true (length (item ∷ other ∷ items)) 1 h))

plain_other : (c : Plain) → is_exec c.verb ≡ false → GoodPlain c
    → Puts (in_order false table.PLAIN) (of_draft (drafts.Plain (no_plain c.verb))) (plain_children c)
    (in_order false []) (of_draft (drafts.Plain c))
unfolding plain_texts plain_correlates
plain_other c other good =
    let two = and_true _ _ good.texts in
    let one = and_true _ _ two.0 in
    let none = no_correlator (is_exec c.verb) c.correlator other good.correlates in
    subst (λ o. Puts (in_order false table.PLAIN) (of_draft (drafts.Plain (no_plain c.verb)))
    (number_tokens ECmdID c.id ++ flag_tokens ENoResp c.no_resp ++ optional meta_tokens c.meta
    ++ optional (text_tokens ECorrelator) o ++ items_tokens c.items)
    (in_order false []) (plain_held c.verb c.id c.no_resp c.meta o c.items)) (sym none)
    (plain_puts c.verb c.id c.no_resp c.meta c.items good.number good.range.id (good_meta c.meta one.0 good.range.meta)
    (not_exec c other good.filled)
    (good_items c.items two.1 good.data_short good.range.items))

plain_exec : (c : Plain) → is_exec c.verb ≡ true → GoodPlain c
    → Puts (in_order false table.EXEC) (of_draft (drafts.Plain (no_plain c.verb))) (plain_children c)
    (in_order false []) (of_draft (drafts.Plain c))
unfolding plain_texts plain_filled
plain_exec c exec_ good =
    let two = and_true _ _ good.texts in
    let one = and_true _ _ two.0 in
    let single =
    one_item c.items
    (sym (ap (λ (b : Bool). if b then length c.items == 1 else is_filled c.items) exec_) ∙ good.filled) in
    let all = subst (AllByRecursion GoodItem) single.1 (good_items c.items two.1 good.data_short good.range.items) in
    subst (λ items. Puts (in_order false table.EXEC) (of_draft (drafts.Plain (no_plain c.verb)))
    (number_tokens ECmdID c.id ++ flag_tokens ENoResp c.no_resp ++ optional meta_tokens c.meta
    ++ optional (text_tokens ECorrelator) c.correlator ++ items_tokens items)
    (in_order false []) (plain_held c.verb c.id c.no_resp c.meta c.correlator items)) (sym single.1)
    (exec_puts c.verb c.id c.no_resp c.meta c.correlator single.0 good.number good.range.id
    (good_meta c.meta one.0 good.range.meta) one.1 all.0)

plain_start : (v : Verb) → is_exec v ≡ false → start (verb_kind v) ≡ in_order false table.PLAIN
plain_start verb.Exec other = cc
plain_start _ other = refl

exec_start : (v : Verb) → is_exec v ≡ true → start (verb_kind v) ≡ in_order false table.EXEC
exec_start verb.Exec exec_ = refl
exec_start _ exec_ = cc

verb_fresh : (v : Verb) → fresh_value (verb_kind v) (verb_element v) ≡ of_draft (drafts.Plain (no_plain v))
verb_fresh verb.Add = refl
verb_fresh _ = refl

plain_inner : (c : Plain) → GoodPlain c
    → Puts (start (verb_kind c.verb)) (fresh_value (verb_kind c.verb) (verb_element c.verb)) (plain_children c)
    (in_order false []) (of_draft (drafts.Plain c))
plain_inner c good =
    subst (λ v. Puts (start (verb_kind c.verb)) v (plain_children c) (in_order false []) (of_draft (drafts.Plain c)))
    (sym (verb_fresh c.verb))
    ((elim (is_exec c.verb)
    as (λ (b : Bool). is_exec c.verb ≡ b
    → Puts (start (verb_kind c.verb)) (of_draft (drafts.Plain (no_plain c.verb))) (plain_children c) (in_order false [])
    (of_draft (drafts.Plain c))) [
      | true ↦ λ is.
          subst (λ s. Puts s (of_draft (drafts.Plain (no_plain c.verb))) (plain_children c) (in_order false [])
          (of_draft (drafts.Plain c))) (sym (exec_start c.verb is)) (plain_exec c is good)
      | false ↦ λ is.
          subst (λ s. Puts s (of_draft (drafts.Plain (no_plain c.verb))) (plain_children c) (in_order false [])
          (of_draft (drafts.Plain c))) (sym (plain_start c.verb is)) (plain_other c is good)
    ]) refl)

plain_element : {c d : Content} {v : Value} (p : Plain) → next_child c (verb_element p.verb) ≡ Some (verb_kind p.verb, d)
    → GoodPlain p
    → Puts c v (plain_tokens p) d (with_child v (verb_element p.verb) (node (drafts.Plain p)))
unfolding plain_tokens
plain_element p n good =
    puts_full (verb_element p.verb) (verb_kind p.verb) (node (drafts.Plain p)) n (plain_inner p good) refl refl

-- ---- Alerts

-- what is known of an Alert
pub record GoodAlert (c : AlertCmd) : Type 0 where
  pub texts : alert_texts is_text c ≡ true
  pub data_short : list_all (item_data is_in_limit) c.items ≡ true
  pub number : is_number c.id ≡ true
  pub range : AlertRange c

abbrev alert_held : ℕ → Bool → ℕ → Option (List ℕ) → List Item → Value
alert_held id no_resp code correlator items =
    of_draft (drafts.Alert (record { id = id; no_resp = no_resp; code = code; correlator = correlator; items = items }))

alert_element : {c d : Content} {v : Value} (a : AlertCmd) → next_child c EAlert ≡ Some (kinds.Alert, d) → GoodAlert a
    → Puts c v (alert_tokens a) d (with_child v EAlert (node (drafts.Alert a)))
unfolding alert_tokens alert_texts
alert_element a n good =
    let both = and_true _ _ good.texts in
    let inner : Puts (start kinds.Alert) (fresh_value kinds.Alert EAlert)
    (number_tokens ECmdID a.id ++ flag_tokens ENoResp a.no_resp ++ number_tokens EData a.code
    ++ optional (text_tokens ECorrelator) a.correlator ++ items_tokens a.items)
    (in_order false []) (of_draft (drafts.Alert a)) =
    id_row ECmdID true false (drop 1 table.ALERT) a.id refl good.number good.range.id
    behind puts_flag ENoResp (drop 2 table.ALERT) (λ b. alert_held a.id b 0 None []) a.no_resp refl refl
    behind code_row EData true false (drop 3 table.ALERT) a.code refl good.range.code
    behind text_option ECorrelator (drop 4 table.ALERT) (λ o. alert_held a.id a.no_resp a.code o []) a.correlator refl
    both.0 (λ t. refl)
    behind items_any (alert_held a.id a.no_resp a.code a.correlator) (λ before item. refl) a.items
    (good_items a.items both.1 good.data_short good.range.items) in
    puts_full EAlert kinds.Alert (node (drafts.Alert a)) n inner refl refl

-- ---- containers

-- a row of many elements
abbrev pub many_row : Choice → Bool → ChildRow
many_row choice required = record { choice = choice; required = required; many = true }

pub next_among : (choice : Choice) (e : Element) (k : Kind) (r came : Bool) (rows : List ChildRow)
    → kind_in choice e ≡ Some k
    → next_child (in_order came (many_row choice r ∷ rows)) e ≡ Some (k, in_order true (many_row choice r ∷ rows))
next_among choice e k r came rows h =
    ap (λ (o : Option Kind). after_row (in_row o came (many_row choice r) rows (next_row false rows e))) h
    ∙ ap (λ (b : Bool). after_row (if b then None else Some (k, many_row choice r ∷ rows))) (again came)

-- five tests and one fact of each
zip : {A : Type 0} (t d n f k : A → Bool) (R Q : A → Type 0)
    → ((x : A) → t x ≡ true → d x ≡ true → n x ≡ true → f x ≡ true → k x ≡ true → R x → Q x)
    → (xs : List A) → list_all t xs ≡ true → list_all d xs ≡ true → list_all n xs ≡ true → list_all f xs ≡ true
    → list_all k xs ≡ true → AllByRecursion R xs
    → AllByRecursion Q xs
zip t d n f k R Q join [] a b c g h r = tt
zip t d n f k R Q join (x ∷ xs) a b c g h r =
    let aa = and_true (t x) (list_all t xs) a in
    let bb = and_true (d x) (list_all d xs) b in
    let dd = and_true (n x) (list_all n xs) c in
    let gg = and_true (f x) (list_all f xs) g in
    let hh = and_true (k x) (list_all k xs) h in
    (join x aa.0 bb.0 dd.0 gg.0 hh.0 r.0, zip t d n f k R Q join xs aa.1 bb.1 dd.1 gg.1 hh.1 r.1)

abbrev pub GoodMember : Member → Type 0
GoodMember (member.One c) = GoodPlain c
GoodMember (member.Alert c) = GoodAlert c

good_member : (m : Member) → member_texts is_text m ≡ true → member_data is_in_limit m ≡ true → member_numbers m ≡ true
    → member_filled m ≡ true → member_correlates m ≡ true
    → MemberRange m → GoodMember m
unfolding member_texts member_data member_numbers member_filled member_correlates
good_member (member.One c) t d n f k r =
    record { texts = t; data_short = d; number = n; filled = f; correlates = k; range = r }
good_member (member.Alert c) t d n f k r = record { texts = t; data_short = d; number = n; range = r }

-- what is known of an Atomic
pub record GoodAtomic (b : Block Member) : Type 0 where
  pub number : is_number b.id ≡ true
  pub low : IsShortNumber b.id
  pub meta : IfSome b.meta GoodMeta
  pub filled : is_filled b.members ≡ true
  pub members : AllByRecursion GoodMember b.members

good_atomic : (b : Block Member) → atomic_texts is_text b ≡ true → list_all (member_data is_in_limit) b.members ≡ true
    → atomic_numbers b ≡ true → atomic_filled b ≡ true
    → list_all member_correlates b.members ≡ true → AtomicRange b → GoodAtomic b
unfolding atomic_texts atomic_numbers atomic_filled
good_atomic b t d n f k r =
    let texts = and_true _ _ t in
    let numbers = and_true _ _ n in
    let filled = and_true _ _ f in
    record {
      number = numbers.0;
      low = r.id;
      meta = good_meta b.meta texts.0 r.meta;
      filled = filled.0;
      members =
          zip (member_texts is_text) (member_data is_in_limit)
          member_numbers member_filled member_correlates MemberRange
          GoodMember good_member b.members
          texts.1 d numbers.1 filled.1 k r.members;
    }

verb_in_atomic : (v : Verb) → kind_in AtomicMembers (verb_element v) ≡ Some (verb_kind v)
verb_in_atomic verb.Add = refl
verb_in_atomic _ = refl

verb_in_sequence : (v : Verb) → kind_in SequenceMembers (verb_element v) ≡ Some (verb_kind v)
verb_in_sequence verb.Add = refl
verb_in_sequence _ = refl

verb_in_body : (v : Verb) → kind_in Commands (verb_element v) ≡ Some (verb_kind v)
verb_in_body verb.Add = refl
verb_in_body _ = refl

abbrev atomic_held : ℕ → Bool → Option Meta → List Member → Value
atomic_held id no_resp meta members =
    of_draft (drafts.Atomic (record { id = id; no_resp = no_resp; meta = meta; members = members }))

member_one : (id : ℕ) (no_resp : Bool) (meta : Option Meta) (m : Member) → GoodMember m
    → PutsOne (many_row AtomicMembers true ∷ []) (atomic_held id no_resp meta) member_tokens m
unfolding member_tokens
member_one id no_resp meta (member.One c) good came before =
    plain_element c (next_among AtomicMembers (verb_element c.verb) (verb_kind c.verb) true came []
    (verb_in_atomic c.verb)) good
member_one id no_resp meta (member.Alert c) good came before =
    alert_element c (next_among AtomicMembers EAlert kinds.Alert true came [] refl) good

atomic_element : {c d : Content} {v : Value} (b : Block Member) → next_child c EAtomic ≡ Some (kinds.Atomic, d) → GoodAtomic b
    → Puts c v (atomic_tokens b) d (with_child v EAtomic (node (drafts.Atomic b)))
unfolding atomic_tokens members_tokens
atomic_element b n good =
    let inner : Puts (start kinds.Atomic) (fresh_value kinds.Atomic EAtomic)
    (number_tokens ECmdID b.id ++ flag_tokens ENoResp b.no_resp ++ optional meta_tokens b.meta
    ++ members_tokens b.members)
    (in_order false []) (of_draft (drafts.Atomic b)) =
    id_row ECmdID true false (drop 1 table.ATOMIC) b.id refl good.number good.low
    behind puts_flag ENoResp (drop 2 table.ATOMIC) (λ x. atomic_held b.id x None []) b.no_resp refl refl
    behind meta_option (drop 3 table.ATOMIC) (λ o. atomic_held b.id b.no_resp o []) b.meta refl good.meta (λ m. refl)
    behind puts_filled (many_row AtomicMembers true ∷ []) (atomic_held b.id b.no_resp b.meta) member_tokens b.members
    good.filled
    (each_so GoodMember _ b.members (member_one b.id b.no_resp b.meta) good.members)
    (ends (many_row AtomicMembers true) true refl) in
    puts_full EAtomic kinds.Atomic (node (drafts.Atomic b)) n inner refl refl

abbrev pub GoodSeqMember : SeqMember → Type 0
GoodSeqMember (seq_member.Single m) = GoodMember m
GoodSeqMember (seq_member.Atomic b) = GoodAtomic b

good_seq_member : (m : SeqMember) → seq_member_texts is_text m ≡ true → seq_member_data is_in_limit m ≡ true
    → seq_member_numbers m ≡ true → seq_member_filled m ≡ true
    → seq_member_correlates m ≡ true → SeqMemberRange m → GoodSeqMember m
unfolding seq_member_texts seq_member_data seq_member_numbers seq_member_filled seq_member_correlates
good_seq_member (seq_member.Single m) t d n f k r = good_member m t d n f k r
good_seq_member (seq_member.Atomic b) t d n f k r = good_atomic b t d n f k r

-- what is known of a Sequence
pub record GoodSequence (b : Block SeqMember) : Type 0 where
  pub number : is_number b.id ≡ true
  pub low : IsShortNumber b.id
  pub meta : IfSome b.meta GoodMeta
  pub filled : is_filled b.members ≡ true
  pub members : AllByRecursion GoodSeqMember b.members

abbrev sequence_held : ℕ → Bool → Option Meta → List SeqMember → Value
sequence_held id no_resp meta members =
    of_draft (drafts.Sequence (record { id = id; no_resp = no_resp; meta = meta; members = members }))

seq_member_one : (id : ℕ) (no_resp : Bool) (meta : Option Meta) (m : SeqMember) → GoodSeqMember m
    → PutsOne (many_row SequenceMembers true ∷ []) (sequence_held id no_resp meta) seq_member_tokens m
unfolding seq_member_tokens member_tokens
seq_member_one id no_resp meta (seq_member.Single (member.One c)) good came before =
    plain_element c (next_among SequenceMembers (verb_element c.verb) (verb_kind c.verb) true came []
    (verb_in_sequence c.verb)) good
seq_member_one id no_resp meta (seq_member.Single (member.Alert c)) good came before =
    alert_element c (next_among SequenceMembers EAlert kinds.Alert true came [] refl) good
seq_member_one id no_resp meta (seq_member.Atomic b) good came before =
    atomic_element b (next_among SequenceMembers EAtomic kinds.Atomic true came [] refl) good

sequence_element : {c d : Content} {v : Value} (b : Block SeqMember) → next_child c ESequence ≡ Some (kinds.Sequence, d)
    → GoodSequence b
    → Puts c v (sequence_tokens b) d (with_child v ESequence (node (drafts.Sequence b)))
unfolding sequence_tokens seq_members_tokens
sequence_element b n good =
    let inner : Puts (start kinds.Sequence) (fresh_value kinds.Sequence ESequence)
    (number_tokens ECmdID b.id ++ flag_tokens ENoResp b.no_resp ++ optional meta_tokens b.meta
    ++ seq_members_tokens b.members)
    (in_order false []) (of_draft (drafts.Sequence b)) =
    id_row ECmdID true false (drop 1 table.SEQUENCE) b.id refl good.number good.low
    behind puts_flag ENoResp (drop 2 table.SEQUENCE) (λ x. sequence_held b.id x None []) b.no_resp refl refl
    behind meta_option (drop 3 table.SEQUENCE) (λ o. sequence_held b.id b.no_resp o []) b.meta refl good.meta
    (λ m. refl)
    behind puts_filled (many_row SequenceMembers true ∷ []) (sequence_held b.id b.no_resp b.meta) seq_member_tokens
    b.members good.filled
    (each_so GoodSeqMember _ b.members (seq_member_one b.id b.no_resp b.meta) good.members)
    (ends (many_row SequenceMembers true) true refl) in
    puts_full ESequence kinds.Sequence (node (drafts.Sequence b)) n inner refl refl

-- ---- Status and Results

-- what is known of a Status
pub record GoodStatus (c : StatusCmd) : Type 0 where
  pub texts : status_texts is_text c ≡ true
  pub data_short : list_all (item_data is_in_limit) c.items ≡ true
  pub number : is_number c.id ≡ true
  pub message_number : is_number c.msg_ref ≡ true
  pub range : StatusRange c

abbrev status_held : ℕ → ℕ → ℕ → List ℕ → List (List ℕ) → List (List ℕ) → Option Meta → ℕ → List Item → Value
status_held id msg_ref cmd_ref cmd targets sources chal code items = of_draft (drafts.Status (record {
  id = id;
  msg_ref = msg_ref;
  cmd_ref = cmd_ref;
  cmd = cmd;
  target_refs = targets;
  source_refs = sources;
  chal = chal;
  code = code;
  items = items;
}))

chal_option : (rows : List ChildRow) (value : Option Meta → Value) (o : Option Meta) → next_row false rows EChal ≡ None
    → IfSome o GoodMeta
    → ((m : Meta) → with_child (value None) EChal (node (drafts.Chal m)) ≡ value (Some m))
    → Puts (in_order false (row EChal kinds.Chal false false ∷ rows)) (value None) (optional chal_tokens o)
    (in_order false rows) (value o)
chal_option rows value o none good same =
    puts_optional GoodMeta chal_tokens value o good (skips EChal kinds.Chal false false false rows none refl)
    (λ m is.
    subst (λ w. Puts (in_order false (row EChal kinds.Chal false false ∷ rows)) (value None) (chal_tokens m)
    (in_order false rows) w) (same m)
    (puts_then (chal_element m (next_here EChal kinds.Chal false false false rows refl) is)
    (skips EChal kinds.Chal false false true rows none refl)))

status_element : {c d : Content} {v : Value} (s : StatusCmd) → next_child c EStatus ≡ Some (kinds.Status, d) → GoodStatus s
    → Puts c v (status_tokens s) d (with_child v EStatus (node (drafts.Status s)))
unfolding status_tokens status_texts
status_element s n good =
    let four = and_true _ _ good.texts in
    let three = and_true _ _ four.0 in
    let two = and_true _ _ three.0 in
    let one = and_true _ _ two.0 in
    let inner : Puts (start kinds.Status) (fresh_value kinds.Status EStatus)
    (number_tokens ECmdID s.id ++ number_tokens EMsgRef s.msg_ref ++ number_tokens ECmdRef s.cmd_ref
    ++ text_tokens ECmd s.cmd ++ texts_tokens ETargetRef s.target_refs
    ++ texts_tokens ESourceRef s.source_refs ++ optional chal_tokens s.chal ++ number_tokens EData s.code
    ++ items_tokens s.items)
    (in_order false []) (of_draft (drafts.Status s)) =
    id_row ECmdID true false (drop 1 table.STATUS) s.id refl good.number good.range.id
    behind id_row EMsgRef true false (drop 2 table.STATUS) s.msg_ref refl good.message_number good.range.msg_ref
    behind code_row ECmdRef true false (drop 3 table.STATUS) s.cmd_ref refl good.range.cmd_ref
    behind text_row ECmd true false (drop 4 table.STATUS) s.cmd refl one.0
    behind texts_any ETargetRef (drop 5 table.STATUS) (λ l. status_held s.id s.msg_ref s.cmd_ref s.cmd l [] None 0 [])
    refl (λ before t. refl) s.target_refs one.1
    behind texts_any ESourceRef (drop 6 table.STATUS)
    (λ l. status_held s.id s.msg_ref s.cmd_ref s.cmd s.target_refs l None 0 []) refl (λ before t. refl) s.source_refs
    two.1
    behind chal_option (drop 7 table.STATUS)
    (λ o. status_held s.id s.msg_ref s.cmd_ref s.cmd s.target_refs s.source_refs o 0 []) s.chal refl
    (good_meta s.chal three.1 good.range.chal) (λ m. refl)
    behind code_row EData true false (drop 8 table.STATUS) s.code refl good.range.code
    behind items_any (status_held s.id s.msg_ref s.cmd_ref s.cmd s.target_refs s.source_refs s.chal s.code)
    (λ before item. refl) s.items
    (good_items s.items four.1 good.data_short good.range.items) in
    puts_full EStatus kinds.Status (node (drafts.Status s)) n inner refl refl

-- what is known of a Results
pub record GoodResults (c : ResultsCmd) : Type 0 where
  pub texts : results_texts is_text c ≡ true
  pub data_short : list_all (item_data is_in_limit) c.items ≡ true
  pub number : is_number c.id ≡ true
  pub message_number : all_of is_number c.msg_ref ≡ true
  pub filled : is_filled c.items ≡ true
  pub range : ResultsRange c

abbrev results_held : ℕ → Option ℕ → ℕ → Option Meta → Option (List ℕ) → Option (List ℕ) → List Item → Value
results_held id msg_ref cmd_ref meta target source items = of_draft (drafts.Results (record {
  id = id;
  msg_ref = msg_ref;
  cmd_ref = cmd_ref;
  meta = meta;
  target_ref = target;
  source_ref = source;
  items = items;
}))

id_known : (o : Option ℕ) → all_of is_number o ≡ true → IfSome o IsShortNumber
    → IfSome o (λ n. (is_number n ≡ true) × IsShortNumber n)
id_known None h r = tt
id_known (Some n) h r = (h, r)

id_option : (e : Element) (rows : List ChildRow) (value : Option ℕ → Value) (o : Option ℕ) → next_row false rows e ≡ None
    → all_of is_number o ≡ true → IfSome o IsShortNumber
    → ((n : ℕ) → with_child (value None) e (simple (simples.Short n)) ≡ value (Some n))
    → Puts (in_order false (row e kinds.Id false false ∷ rows)) (value None) (optional (number_tokens e) o)
    (in_order false rows) (value o)
id_option e rows value o none h low same =
    puts_optional (λ n. (is_number n ≡ true) × IsShortNumber n) (number_tokens e) value o (id_known o h low)
    (skips e kinds.Id false false false rows none refl)
    (λ n is.
    subst (λ w. Puts (in_order false (row e kinds.Id false false ∷ rows)) (value None) (number_tokens e n)
    (in_order false rows) w) (same n)
    (id_row e false false rows n none is.0 is.1))

results_element : {c d : Content} {v : Value} (s : ResultsCmd) → next_child c EResults ≡ Some (kinds.Results, d)
    → GoodResults s
    → Puts c v (results_tokens s) d (with_child v EResults (node (drafts.Results s)))
unfolding results_tokens results_texts
results_element s n good =
    let three = and_true _ _ good.texts in
    let two = and_true _ _ three.0 in
    let one = and_true _ _ two.0 in
    let inner : Puts (start kinds.Results) (fresh_value kinds.Results EResults)
    (number_tokens ECmdID s.id ++ optional (number_tokens EMsgRef) s.msg_ref ++ number_tokens ECmdRef s.cmd_ref
    ++ optional meta_tokens s.meta
    ++ optional (text_tokens ETargetRef) s.target_ref ++ optional (text_tokens ESourceRef) s.source_ref
    ++ items_tokens s.items)
    (in_order false []) (of_draft (drafts.Results s)) =
    id_row ECmdID true false (drop 1 table.RESULTS) s.id refl good.number good.range.id
    behind id_option EMsgRef (drop 2 table.RESULTS) (λ o. results_held s.id o 0 None None None []) s.msg_ref refl
    good.message_number good.range.msg_ref (λ x. refl)
    behind code_row ECmdRef true false (drop 3 table.RESULTS) s.cmd_ref refl good.range.cmd_ref
    behind meta_option (drop 4 table.RESULTS) (λ o. results_held s.id s.msg_ref s.cmd_ref o None None []) s.meta refl
    (good_meta s.meta one.0 good.range.meta) (λ m. refl)
    behind text_option ETargetRef (drop 5 table.RESULTS) (λ o. results_held s.id s.msg_ref s.cmd_ref s.meta o None [])
    s.target_ref refl one.1 (λ t. refl)
    behind text_option ESourceRef (drop 6 table.RESULTS)
    (λ o. results_held s.id s.msg_ref s.cmd_ref s.meta s.target_ref o []) s.source_ref refl two.1 (λ t. refl)
    behind items_filled (results_held s.id s.msg_ref s.cmd_ref s.meta s.target_ref s.source_ref) (λ before item. refl)
    s.items good.filled
    (good_items s.items three.1 good.data_short good.range.items) in
    puts_full EResults kinds.Results (node (drafts.Results s)) n inner refl refl

-- ---- commands of a body

abbrev pub GoodCommand : Command → Type 0
GoodCommand (command.Plain c) = GoodPlain c
GoodCommand (command.Alert c) = GoodAlert c
GoodCommand (command.Atomic b) = GoodAtomic b
GoodCommand (command.Sequence b) = GoodSequence b
GoodCommand (command.Status c) = GoodStatus c
GoodCommand (command.Results c) = GoodResults c

good_command : (c : Command) → command_texts is_text c ≡ true → command_data is_in_limit c ≡ true
    → command_numbers c ≡ true → command_filled c ≡ true
    → command_correlates c ≡ true → CommandRange c → GoodCommand c
unfolding command_texts command_data command_numbers command_filled command_correlates sequence_texts
good_command (command.Plain c) t d n f k r =
    record { texts = t; data_short = d; number = n; filled = f; correlates = k; range = r }
good_command (command.Alert c) t d n f k r = record { texts = t; data_short = d; number = n; range = r }
good_command (command.Atomic b) t d n f k r = good_atomic b t d n f k r
good_command (command.Sequence b) t d n f k r =
    let texts = and_true _ _ t in
    let numbers = and_true _ _ n in
    let filled = and_true _ _ f in
    record {
      number = numbers.0;
      low = r.id;
      meta = good_meta b.meta texts.0 r.meta;
      filled = filled.0;
      members =
          zip (seq_member_texts is_text) (seq_member_data is_in_limit) seq_member_numbers seq_member_filled
          seq_member_correlates SeqMemberRange GoodSeqMember good_seq_member b.members
          texts.1 d numbers.1 filled.1 k r.members;
    }
good_command (command.Status c) t d n f k r =
    let numbers = and_true _ _ n in
    record { texts = t; data_short = d; number = numbers.0; message_number = numbers.1; range = r }
good_command (command.Results c) t d n f k r =
    let numbers = and_true _ _ n in
    record { texts = t; data_short = d; number = numbers.0; message_number = numbers.1; filled = f; range = r }

pub good_commands : (cs : List Command) → list_all (command_texts is_text) cs ≡ true
    → list_all (command_data is_in_limit) cs ≡ true → list_all command_numbers cs ≡ true
    → list_all command_filled cs ≡ true → list_all command_correlates cs ≡ true → AllByRecursion CommandRange cs
    → AllByRecursion GoodCommand cs
good_commands cs =
    zip (command_texts is_text) (command_data is_in_limit)
    command_numbers command_filled command_correlates CommandRange
    GoodCommand good_command cs

abbrev pub body_held : List Command → Bool → Value
body_held commands last = of_draft (drafts.Body (record { commands = commands; last = last }))

pub command_one : (rows : List ChildRow) (c : Command) → GoodCommand c
    → PutsOne (many_row Commands false ∷ rows) (λ cs. body_held cs false) command_tokens c
unfolding command_tokens
command_one rows (command.Plain c) good came before =
    plain_element c (next_among Commands (verb_element c.verb) (verb_kind c.verb) false came rows (verb_in_body c.verb))
    good
command_one rows (command.Alert c) good came before =
    alert_element c (next_among Commands EAlert kinds.Alert false came rows refl) good
command_one rows (command.Atomic b) good came before =
    atomic_element b (next_among Commands EAtomic kinds.Atomic false came rows refl) good
command_one rows (command.Sequence b) good came before =
    sequence_element b (next_among Commands ESequence kinds.Sequence false came rows refl) good
command_one rows (command.Status c) good came before =
    status_element c (next_among Commands EStatus kinds.Status false came rows refl) good
command_one rows (command.Results c) good came before =
    results_element c (next_among Commands EResults kinds.Results false came rows refl) good
