-- The canonical tokens of texts, numbers and values: what is put before a rest.
use Rattle.std.specs.Prelude.{◌≡◌, ◌==◌, ◌<◌, ◌≤◌, ◌^◌, ℕ, zero, suc, Bool, true, false, not, if◌then◌else◌, nat_le}
use Rattle.std.specs.Prelude.{List, [], ◌∷◌, ◌++◌, drop, length, Option, Some, None, IfSome, is_some, Ok, Err, refl}
use Rattle.std.proofs.Common.{sym, ap, subst, ◌∙◌, arith}
use Rattle.std.proofs.lemmas.Bool.{le-leb, leb-true}
use Rattle.std.proofs.lemmas.Fmt.{decimal_nonempty}
use Rattle.std.specs.List.{list_all}
use Rattle.std.specs.Str.{is_utf8}
use Rattle.std.specs.Fmt.{decimal}
use Rattle.wbxml_tables.specs.declared.Element.{Element}
use Rattle.wbxml_tables.specs.declared.Element.TheVariants.{EChal, ECred, EData, EFormat, EItem, ELocName, ELocURI}
use Rattle.wbxml_tables.specs.declared.Element.TheVariants.{EMark, EMaxMsgSize, EMaxObjSize, EMeta, EMoreData}
use Rattle.wbxml_tables.specs.declared.Element.TheVariants.{ENextNonce, ESize, ESource, ETarget, EType, EVersion}
use Rattle.wbxml_tokens.specs.declared.reason.Reason.TheVariants as reasons
use Rattle.wbxml_tokens.specs.declared.token.Token.TheVariants.{Text, Opaque}
use Rattle.wbxml_tokens.specs.Spelled.{HasNoZero}
use Rattle.syncml_shape.specs.declared.rows.Kind.{Kind}
use Rattle.syncml_shape.specs.declared.rows.Kind.TheVariants as kinds
use Rattle.syncml_shape.specs.declared.rows.ChildRow.{ChildRow}
use Rattle.syncml_shape.specs.declared.rows.TheConstants as table
use Rattle.syncml_shape.specs.Rows.{Content, in_order, in_any_order, pieces, start, next_row, next_child}
use Rattle.syncml_shape.proofs.Accepts.{and_true}
use Rattle.syncml_shape.proofs.Completes.{and_both}
use Rattle.syncml_types.specs.declared.values.Loc.{Loc}
use Rattle.syncml_types.specs.declared.values.Meta.{Meta}
use Rattle.syncml_types.specs.declared.values.Item.{Item}
use Rattle.syncml_types.specs.declared.values.Cred.{Cred}
use Rattle.syncml_types.specs.Canonical.{is_text, text_tokens, data_tokens, number_tokens, optional, loc_tokens}
use Rattle.syncml_types.specs.Canonical.{meta_children, meta_tokens, item_children, item_tokens, cred_tokens}
use Rattle.syncml_types.specs.Canonical.{chal_tokens}
use Rattle.syncml_types.specs.Fitness.{all_of, is_in_limit, is_number, loc_texts, meta_texts, item_texts, item_data}
use Rattle.syncml_types.specs.Fitness.{cred_texts}
use Rattle.syncml_grammar.specs.declared.digits.Digits.TheVariants.{Start}
use Rattle.syncml_grammar.specs.declared.leaf.Leaf.TheVariants as leaves
use Rattle.syncml_grammar.specs.declared.leaf.Simple.{Simple}
use Rattle.syncml_grammar.specs.declared.leaf.Simple.TheVariants as simples
use Rattle.syncml_grammar.specs.declared.draft.Draft.TheVariants as drafts
use Rattle.syncml_grammar.specs.Numbers.{digits_after, number_in}
use Rattle.syncml_grammar.specs.Leaves.{short_number, closed_number}
use Rattle.syncml_grammar.specs.Values.{Value, of_leaf, of_draft, simple, node, fresh_value, with_text, simply}
use Rattle.syncml_grammar.specs.Values.{closed_value}
use Rattle.syncml_grammar.specs.Values.{with_child}
use Rattle.dm_decimals.proofs.Decimals.{written_is_read}
use Rattle.syncml_grammar.proofs.Decimals.{numbers_are_decimal}
use Rattle.syncml_codec.specs.Ranges.{IsShortNumber, IsLongNumber, MetaRange, ItemRange, CredRange}
use Rattle.syncml_codec.proofs.Numbers.{decimal_clear}
use Rattle.syncml_codec.proofs.CanonicalForests.{Puts, ◌behind◌, puts_none, puts_bare, puts_full, puts_element}
use Rattle.syncml_codec.proofs.CanonicalForests.{puts_text, puts_opaque, puts_then, row, next_here, skips, unwrapped}
use Rattle.syncml_codec.proofs.CanonicalForests.{puts_optional, puts_perhaps, puts_flag, some_of}

-- ---- texts and Data

above : (b : ℕ) → not (b == 0) ≡ true → 0 < b
above zero h = cc
above (suc n) h = omega arith

clear : (t : List ℕ) → list_all (λ b. not (b == 0)) t ≡ true → HasNoZero t
clear [] h = tt
clear (b ∷ bs) h =
    let both = and_true (not (b == 0)) (list_all (λ b. not (b == 0)) bs) h in (above b both.0, clear bs both.1)

text_clear : (t : List ℕ) → is_text t ≡ true → HasNoZero t
text_clear t h = clear t (and_true (is_utf8 t) (list_all (λ b. not (b == 0)) t) h).1

text_closed : (t : List ℕ) → is_text t ≡ true
    → closed_value kinds.Text (of_leaf (leaves.Text t)) ≡ Ok (simple (simples.Text t))
text_closed t h = ap (λ (b : Bool). simply (if b then Ok (simples.Text t) else Err reasons.Text)) h

pub text_element : {c d : Content} {v : Value} (e : Element) (t : List ℕ) → next_child c e ≡ Some (kinds.Text, d)
    → is_text t ≡ true
    → Puts c v (text_tokens e t) d (with_child v e (simple (simples.Text t)))
unfolding text_tokens
text_element e [] n h = puts_bare e kinds.Text (simple (simples.Text [])) n refl (text_closed [] h)
text_element e (b ∷ bs) n h =
    puts_full e kinds.Text (simple (simples.Text (b ∷ bs))) n (puts_text (b ∷ bs) (text_clear (b ∷ bs) h) refl) refl
    (text_closed (b ∷ bs) h)

short_length : (bytes : List ℕ) → is_in_limit bytes ≡ true → length bytes < 2 ^ 32
short_length bytes h = omega (arith, leb-true (length bytes) 2147483648 h)

piece : {v : Value} (bytes : List ℕ) (q : Bool) → is_text bytes ≡ q → is_in_limit bytes ≡ true
    → Puts pieces v ((if q then Text bytes else Opaque bytes) ∷ []) pieces (with_text v bytes)
piece bytes true is short = puts_text bytes (text_clear bytes is) refl
piece bytes false is short = puts_opaque bytes (short_length bytes short) refl

pub data_element : {c d : Content} {v : Value} (t : List ℕ) → next_child c EData ≡ Some (kinds.Bytes, d)
    → is_in_limit t ≡ true
    → Puts c v (data_tokens t) d (with_child v EData (simple (simples.Text t)))
unfolding data_tokens
data_element [] n h = puts_bare EData kinds.Bytes (simple (simples.Text [])) n refl refl
data_element (b ∷ bs) n h =
    puts_full EData kinds.Bytes (simple (simples.Text (b ∷ bs))) n (piece (b ∷ bs) (is_text (b ∷ bs)) refl h) refl refl

-- ---- numbers

digits_element : {c d : Content} {v : Value} (e : Element) (k : Kind) (s : Simple) (t : List ℕ) → next_child c e ≡ Some (k, d)
    → start k ≡ pieces → fresh_value k e ≡ of_leaf (leaves.Number Start) → 0 < length t → HasNoZero t
    → closed_value k (of_leaf (leaves.Number (digits_after Start t))) ≡ Ok (simple s)
    → Puts c v (text_tokens e t) d (with_child v e (simple s))
unfolding text_tokens
digits_element e k s [] n in_pieces begun some none is = absurd (omega (arith, some))
digits_element e k s (b ∷ bs) n in_pieces begun some none is =
    let number : Value = of_leaf (leaves.Number (digits_after Start (b ∷ bs))) in
    let held : Puts pieces (of_leaf (leaves.Number Start)) (Text (b ∷ bs) ∷ []) pieces number =
    puts_text (b ∷ bs) none refl in
    let from_fresh : Puts pieces (fresh_value k e) (Text (b ∷ bs) ∷ []) pieces number =
    subst (λ (x : Value). Puts pieces x (Text (b ∷ bs) ∷ []) pieces number) (sym begun) held in
    let inner : Puts (start k) (fresh_value k e) (Text (b ∷ bs) ∷ []) pieces number =
    subst (λ (x : Content). Puts x (fresh_value k e) (Text (b ∷ bs) ∷ []) pieces number) (sym in_pieces) from_fresh in
    puts_full e k (simple s) n inner refl is

wide : (n : ℕ) → IsShortNumber n → n < 2 ^ 64
wide n low = omega (arith, low)

decimal_read : (n : ℕ) → n < 2 ^ 64 → number_in (digits_after Start (decimal n)) ≡ Some n
decimal_read n low = numbers_are_decimal (decimal n) ∙ written_is_read n low

short_closed : (least n : ℕ) → least ≤ n → IsShortNumber n → simply (short_number least n) ≡ Ok (simple (simples.Short n))
short_closed least n some low =
    ap (λ (b : Bool). simply (if b then Ok (simples.Short n) else Err reasons.Number))
    (and_both (nat_le least n) (nat_le n 4294967295) (le-leb least n some) (le-leb n 4294967295 (omega (arith, low))))

pub id_element : {c d : Content} {v : Value} (e : Element) (n : ℕ) → next_child c e ≡ Some (kinds.Id, d) → is_number n ≡ true
    → IsShortNumber n
    → Puts c v (number_tokens e n) d (with_child v e (simple (simples.Short n)))
unfolding number_tokens
id_element e n is some low =
    let far = wide n low in
    let least = above n some in
    digits_element e kinds.Id (simples.Short n) (decimal n) is refl refl (decimal_nonempty n far)
    (clear (decimal n) (decimal_clear n far))
    (ap (λ o. simply (closed_number kinds.Id o)) (decimal_read n far) ∙ short_closed 1 n (omega (arith, least)) low)

pub code_element : {c d : Content} {v : Value} (e : Element) (n : ℕ) → next_child c e ≡ Some (kinds.Code, d) → IsShortNumber n
    → Puts c v (number_tokens e n) d (with_child v e (simple (simples.Short n)))
unfolding number_tokens
code_element e n is low =
    let far = wide n low in
    digits_element e kinds.Code (simples.Short n) (decimal n) is refl refl (decimal_nonempty n far)
    (clear (decimal n) (decimal_clear n far))
    (ap (λ o. simply (closed_number kinds.Code o)) (decimal_read n far) ∙ short_closed 0 n (omega arith) low)

pub size_element : {c d : Content} {v : Value} (e : Element) (n : ℕ) → next_child c e ≡ Some (kinds.Size, d) → IsLongNumber n
    → Puts c v (number_tokens e n) d (with_child v e (simple (simples.Long n)))
unfolding number_tokens
size_element e n is far =
    digits_element e kinds.Size (simples.Long n) (decimal n) is refl refl (decimal_nonempty n far)
    (clear (decimal n) (decimal_clear n far))
    (ap (λ o. simply (closed_number kinds.Size o)) (decimal_read n far))

-- ---- rows of texts and numbers

abbrev pub IsText : List ℕ → Type 0
IsText t = is_text t ≡ true

pub text_row : {v : Value} (e : Element) (r m : Bool) (rows : List ChildRow) (t : List ℕ) → next_row false rows e ≡ None
    → is_text t ≡ true
    → Puts (in_order false (row e kinds.Text r m ∷ rows)) v (text_tokens e t) (in_order false rows)
    (with_child v e (simple (simples.Text t)))
text_row e r m rows t none h =
    puts_then (text_element e t (next_here e kinds.Text r m false rows refl) h)
    (skips e kinds.Text r m true rows none refl)

pub text_option : (e : Element) (rows : List ChildRow) (value : Option (List ℕ) → Value) (o : Option (List ℕ))
    → next_row false rows e ≡ None → all_of is_text o ≡ true
    → ((t : List ℕ) → with_child (value None) e (simple (simples.Text t)) ≡ value (Some t))
    → Puts (in_order false (row e kinds.Text false false ∷ rows)) (value None) (optional (text_tokens e) o)
    (in_order false rows) (value o)
text_option e rows value o none h same =
    puts_optional IsText (text_tokens e) value o (some_of is_text o h)
    (skips e kinds.Text false false false rows none refl)
    (λ t is.
    subst (λ w. Puts (in_order false (row e kinds.Text false false ∷ rows)) (value None) (text_tokens e t)
    (in_order false rows) w) (same t)
    (text_row e false false rows t none is))

pub id_row : {v : Value} (e : Element) (r m : Bool) (rows : List ChildRow) (n : ℕ) → next_row false rows e ≡ None
    → is_number n ≡ true → IsShortNumber n
    → Puts (in_order false (row e kinds.Id r m ∷ rows)) v (number_tokens e n) (in_order false rows)
    (with_child v e (simple (simples.Short n)))
id_row e r m rows n none some low =
    puts_then (id_element e n (next_here e kinds.Id r m false rows refl) some low)
    (skips e kinds.Id r m true rows none refl)

pub code_row : {v : Value} (e : Element) (r m : Bool) (rows : List ChildRow) (n : ℕ) → next_row false rows e ≡ None
    → IsShortNumber n
    → Puts (in_order false (row e kinds.Code r m ∷ rows)) v (number_tokens e n) (in_order false rows)
    (with_child v e (simple (simples.Short n)))
code_row e r m rows n none low =
    puts_then (code_element e n (next_here e kinds.Code r m false rows refl) low)
    (skips e kinds.Code r m true rows none refl)

-- ---- Loc

loc_children : (e : Element) (loc : Loc) → loc_texts is_text loc ≡ true
    → Puts (start kinds.Loc) (fresh_value kinds.Loc e)
    (text_tokens ELocURI loc.uri ++ optional (text_tokens ELocName) loc.name) (in_order false [])
    (of_draft (drafts.Loc loc))
unfolding loc_texts
loc_children e loc h =
    let both = and_true (is_text loc.uri) (all_of is_text loc.name) h in
    text_row ELocURI true false (drop 1 table.LOC) loc.uri refl both.0
    behind text_option ELocName [] (λ o. of_draft (drafts.Loc (record { uri = loc.uri; name = o }))) loc.name refl
    both.1 (λ t. refl)

pub loc_element : {c d : Content} {v : Value} (e : Element) (loc : Loc) → next_child c e ≡ Some (kinds.Loc, d)
    → loc_texts is_text loc ≡ true
    → Puts c v (loc_tokens e loc) d (with_child v e (node (drafts.Loc loc)))
unfolding loc_tokens
loc_element e loc n h = puts_full e kinds.Loc (node (drafts.Loc loc)) n (loc_children e loc h) refl refl

-- ---- Meta

-- what is known of a Meta
pub record GoodMeta (meta : Meta) : Type 0 where
  pub texts : meta_texts is_text meta ≡ true
  pub range : MetaRange meta

abbrev came : (a b c d e f g h : Bool) → Content
came a b c d e f g h = in_any_order false (a ∷ b ∷ c ∷ d ∷ e ∷ f ∷ g ∷ h ∷ [])

text_perhaps : (e : Element) (content : Option (List ℕ) → Content) (value : Option (List ℕ) → Value)
    (o : Option (List ℕ)) → all_of is_text o ≡ true
    → ((t : List ℕ) → next_child (content None) e ≡ Some (kinds.Text, content (Some t)))
    → ((t : List ℕ) → with_child (value None) e (simple (simples.Text t)) ≡ value (Some t))
    → Puts (content None) (value None) (optional (text_tokens e) o) (content o) (value o)
text_perhaps e content value o h n same =
    puts_perhaps IsText (text_tokens e) content value o (some_of is_text o h)
    (λ t is. subst (λ w. Puts (content None) (value None) (text_tokens e t) (content (Some t)) w) (same t)
    (text_element e t (n t) is))

size_perhaps : (e : Element) (content : Option ℕ → Content) (value : Option ℕ → Value) (o : Option ℕ) → IfSome o IsLongNumber
    → ((n : ℕ) → next_child (content None) e ≡ Some (kinds.Size, content (Some n)))
    → ((n : ℕ) → with_child (value None) e (simple (simples.Long n)) ≡ value (Some n))
    → Puts (content None) (value None) (optional (number_tokens e) o) (content o) (value o)
size_perhaps e content value o h next_is same =
    puts_perhaps IsLongNumber (number_tokens e) content value o h
    (λ n is. subst (λ w. Puts (content None) (value None) (number_tokens e n) (content (Some n)) w) (same n)
    (size_element e n (next_is n) is))

abbrev held : Option (List ℕ) → Option (List ℕ) → Option ℕ → Option (List ℕ) → Option ℕ → Option ℕ → Option (List ℕ)
    → Option (List ℕ) → Value
held format media size nonce msg obj mark version = of_draft (drafts.Meta (record {
  format = format;
  media = media;
  size = size;
  next_nonce = nonce;
  max_msg = msg;
  max_obj = obj;
  mark = mark;
  version = version;
}))

meta_puts : (e : Element) (m : Meta) → GoodMeta m
    → Puts (start kinds.Meta) (fresh_value kinds.Meta e) (meta_children m)
    (came (is_some m.format) (is_some m.media) (is_some m.size) (is_some m.next_nonce) (is_some m.max_msg)
    (is_some m.max_obj) (is_some m.mark) (is_some m.version))
    (of_draft (drafts.Meta m))
unfolding meta_texts
meta_puts e m good =
    let five = and_true _ _ good.texts in
    let four = and_true _ _ five.0 in
    let three = and_true _ _ four.0 in
    let two = and_true _ _ three.0 in
    let a = is_some m.format in
    let b = is_some m.media in
    let c = is_some m.size in
    let d = is_some m.next_nonce in
    let f = is_some m.max_msg in
    let g = is_some m.max_obj in
    let h = is_some m.mark in
    puts_then puts_none unwrapped
    behind text_perhaps EFormat (λ o. came (is_some o) false false false false false false false)
    (λ o. held o None None None None None None None) m.format two.0 (λ t. refl) (λ t. refl)
    behind text_perhaps EType (λ o. came a (is_some o) false false false false false false)
    (λ o. held m.format o None None None None None None) m.media two.1 (λ t. refl) (λ t. refl)
    behind size_perhaps ESize (λ o. came a b (is_some o) false false false false false)
    (λ o. held m.format m.media o None None None None None) m.size good.range.size (λ t. refl) (λ t. refl)
    behind text_perhaps ENextNonce (λ o. came a b c (is_some o) false false false false)
    (λ o. held m.format m.media m.size o None None None None) m.next_nonce three.1 (λ t. refl) (λ t. refl)
    behind size_perhaps EMaxMsgSize (λ o. came a b c d (is_some o) false false false)
    (λ o. held m.format m.media m.size m.next_nonce o None None None) m.max_msg good.range.max_msg (λ t. refl)
    (λ t. refl)
    behind size_perhaps EMaxObjSize (λ o. came a b c d f (is_some o) false false)
    (λ o. held m.format m.media m.size m.next_nonce m.max_msg o None None) m.max_obj good.range.max_obj (λ t. refl)
    (λ t. refl)
    behind text_perhaps EMark (λ o. came a b c d f g (is_some o) false)
    (λ o. held m.format m.media m.size m.next_nonce m.max_msg m.max_obj o None) m.mark four.1 (λ t. refl) (λ t. refl)
    behind text_perhaps EVersion (λ o. came a b c d f g h (is_some o))
    (λ o. held m.format m.media m.size m.next_nonce m.max_msg m.max_obj m.mark o) m.version five.1 (λ t. refl)
    (λ t. refl)

pub meta_element : {c d : Content} {v : Value} (m : Meta) → next_child c EMeta ≡ Some (kinds.Meta, d) → GoodMeta m
    → Puts c v (meta_tokens m) d (with_child v EMeta (node (drafts.Meta m)))
unfolding meta_tokens
meta_element m n good = puts_element EMeta kinds.Meta (node (drafts.Meta m)) n (meta_puts EMeta m good) refl refl

pub meta_option : (rows : List ChildRow) (value : Option Meta → Value) (o : Option Meta) → next_row false rows EMeta ≡ None
    → IfSome o GoodMeta
    → ((m : Meta) → with_child (value None) EMeta (node (drafts.Meta m)) ≡ value (Some m))
    → Puts (in_order false (row EMeta kinds.Meta false false ∷ rows)) (value None) (optional meta_tokens o)
    (in_order false rows) (value o)
meta_option rows value o none good same =
    puts_optional GoodMeta meta_tokens value o good (skips EMeta kinds.Meta false false false rows none refl)
    (λ m is.
    subst (λ w. Puts (in_order false (row EMeta kinds.Meta false false ∷ rows)) (value None) (meta_tokens m)
    (in_order false rows) w) (same m)
    (puts_then (meta_element m (next_here EMeta kinds.Meta false false false rows refl) is)
    (skips EMeta kinds.Meta false false true rows none refl)))

pub good_meta : (o : Option Meta) → all_of (meta_texts is_text) o ≡ true → IfSome o MetaRange → IfSome o GoodMeta
good_meta None h r = tt
good_meta (Some m) h r = record { texts = h; range = r }

-- ---- Item

-- what is known of an item
pub record GoodItem (item : Item) : Type 0 where
  pub texts : item_texts is_text item ≡ true
  pub data_short : item_data is_in_limit item ≡ true
  pub range : ItemRange item

loc_option : (e : Element) (rows : List ChildRow) (value : Option Loc → Value) (o : Option Loc)
    → next_row false rows e ≡ None → all_of (loc_texts is_text) o ≡ true
    → ((loc : Loc) → with_child (value None) e (node (drafts.Loc loc)) ≡ value (Some loc))
    → Puts (in_order false (row e kinds.Loc false false ∷ rows)) (value None) (optional (loc_tokens e) o)
    (in_order false rows) (value o)
loc_option e rows value o none h same =
    puts_optional (λ loc. loc_texts is_text loc ≡ true) (loc_tokens e) value o (some_of (loc_texts is_text) o h)
    (skips e kinds.Loc false false false rows none refl)
    (λ loc is.
    subst (λ w. Puts (in_order false (row e kinds.Loc false false ∷ rows)) (value None) (loc_tokens e loc)
    (in_order false rows) w) (same loc)
    (puts_then (loc_element e loc (next_here e kinds.Loc false false false rows refl) is)
    (skips e kinds.Loc false false true rows none refl)))

data_option : (rows : List ChildRow) (value : Option (List ℕ) → Value) (o : Option (List ℕ))
    → next_row false rows EData ≡ None → all_of is_in_limit o ≡ true
    → ((t : List ℕ) → with_child (value None) EData (simple (simples.Text t)) ≡ value (Some t))
    → Puts (in_order false (row EData kinds.Bytes false false ∷ rows)) (value None) (optional data_tokens o)
    (in_order false rows) (value o)
data_option rows value o none h same =
    puts_optional (λ t. is_in_limit t ≡ true) data_tokens value o (some_of is_in_limit o h)
    (skips EData kinds.Bytes false false false rows none refl)
    (λ t is.
    subst (λ w. Puts (in_order false (row EData kinds.Bytes false false ∷ rows)) (value None) (data_tokens t)
    (in_order false rows) w) (same t)
    (puts_then (data_element t (next_here EData kinds.Bytes false false false rows refl) is)
    (skips EData kinds.Bytes false false true rows none refl)))

abbrev item_held : Option Loc → Option Loc → Option Meta → Option (List ℕ) → Bool → Value
item_held target source meta value more =
    of_draft (drafts.Item (record { target = target; source = source; meta = meta; value = value; more = more }))

item_puts : (e : Element) (item : Item) → GoodItem item
    → Puts (start kinds.Item) (fresh_value kinds.Item e) (item_children item) (in_order false [])
    (of_draft (drafts.Item item))
unfolding item_texts item_data
item_puts e item good =
    let three = and_true _ _ good.texts in
    let two = and_true _ _ three.0 in
    loc_option ETarget (drop 1 table.ITEM) (λ o. item_held o None None None false) item.target refl two.0 (λ loc. refl)
    behind loc_option ESource (drop 2 table.ITEM) (λ o. item_held item.target o None None false) item.source refl two.1
    (λ loc. refl)
    behind meta_option (drop 3 table.ITEM) (λ o. item_held item.target item.source o None false) item.meta refl
    (good_meta item.meta three.1 good.range) (λ m. refl)
    behind data_option (drop 4 table.ITEM) (λ o. item_held item.target item.source item.meta o false) item.value refl
    good.data_short (λ t. refl)
    behind puts_flag EMoreData [] (λ b. item_held item.target item.source item.meta item.value b) item.more refl refl

pub item_element : {c d : Content} {v : Value} (item : Item) → next_child c EItem ≡ Some (kinds.Item, d) → GoodItem item
    → Puts c v (item_tokens item) d (with_child v EItem (node (drafts.Item item)))
unfolding item_tokens
item_element item n good =
    puts_element EItem kinds.Item (node (drafts.Item item)) n (item_puts EItem item good) refl refl

-- ---- Cred and Chal

-- what is known of a Cred
pub record GoodCred (cred : Cred) : Type 0 where
  pub texts : cred_texts is_text cred ≡ true
  pub data_short : is_in_limit cred.value ≡ true
  pub range : CredRange cred

cred_puts : (e : Element) (cred : Cred) → GoodCred cred
    → Puts (start kinds.Cred) (fresh_value kinds.Cred e) (optional meta_tokens cred.meta ++ data_tokens cred.value)
    (in_order false []) (of_draft (drafts.Cred cred))
unfolding cred_texts
cred_puts e cred good =
    meta_option (drop 1 table.CRED) (λ o. of_draft (drafts.Cred (record { meta = o; value = [] }))) cred.meta refl
    (good_meta cred.meta good.texts good.range) (λ m. refl)
    behind puts_then (data_element cred.value (next_here EData kinds.Bytes true false false [] refl) good.data_short)
    (skips EData kinds.Bytes true false true [] refl refl)

pub cred_element : {c d : Content} {v : Value} (cred : Cred) → next_child c ECred ≡ Some (kinds.Cred, d) → GoodCred cred
    → Puts c v (cred_tokens cred) d (with_child v ECred (node (drafts.Cred cred)))
unfolding cred_tokens
cred_element cred n good = puts_full ECred kinds.Cred (node (drafts.Cred cred)) n (cred_puts ECred cred good) refl refl

pub chal_element : {c d : Content} {v : Value} (chal : Meta) → next_child c EChal ≡ Some (kinds.Chal, d) → GoodMeta chal
    → Puts c v (chal_tokens chal) d (with_child v EChal (node (drafts.Chal chal)))
unfolding chal_tokens
chal_element chal n good =
    puts_full EChal kinds.Chal (node (drafts.Chal chal)) n
    (puts_then (meta_element chal (next_here EMeta kinds.Meta true false false [] refl) good)
    (skips EMeta kinds.Meta true false true [] refl refl)) refl refl
