-- What Size and MoreData add to an entry without its Data.
use Rattle.std.proofs.Common.{◌≡◌, ◌==◌, ◌&&◌, ◌<◌, ◌+◌, ◌^◌, ℕ, Bool, true, false, if◌then◌else◌, List, [], ◌∷◌, ◌++◌}
use Rattle.std.proofs.Common.{length, length-append, drop, Option, Some, None, option_map, refl, sym, ap, ◌∙◌}
use Rattle.std.proofs.Common.{append_assoc, arith}
use Rattle.std.specs.Prelude.{⊤}
use Rattle.std.specs.Option.{is_none}
use Rattle.std.specs.Fmt.{decimal}
use Rattle.std.proofs.lemmas.Fmt.{decimal_nonempty}
use Rattle.wbxml_tables.specs.declared.Element.{Element}
use Rattle.wbxml_tables.specs.declared.Element.TheVariants.{EData, EFormat, EItem, EMark, EMaxMsgSize, EMaxObjSize}
use Rattle.wbxml_tables.specs.declared.Element.TheVariants.{EMeta, EMoreData, ENextNonce, ESize, ESource, ETarget}
use Rattle.wbxml_tables.specs.declared.Element.TheVariants.{EType, EVersion}
use Rattle.wbxml_tables.specs.Tables.{page_of}
use Rattle.wbxml_tokens.specs.declared.token.Token.{Token}
use Rattle.wbxml_tokens.specs.declared.token.Token.TheVariants.{Tag, End, Text, Opaque}
use Rattle.wbxml_tokens.specs.Spelling.{token_bytes, spelled, page_behind}
use Rattle.syncml_types.specs.declared.values.Meta.{Meta}
use Rattle.syncml_types.specs.declared.values.Item.{Item}
use Rattle.syncml_types.specs.declared.command.Command.{Command}
use Rattle.syncml_types.specs.Canonical.{parent_tokens, element_tokens, text_tokens, number_tokens, flag_tokens}
use Rattle.syncml_types.specs.Canonical.{data_tokens, optional, loc_tokens, meta_children, is_empty_meta, meta_tokens}
use Rattle.syncml_types.specs.Canonical.{item_children, item_tokens, command_tokens}
use Rattle.syncml_parts.specs.Numbering.{with_numbers}
use Rattle.syncml_parts.specs.Packing.{cut_item, cut_changed, cut_data, bytes_in}
use Rattle.syncml_parts.specs.Pages.{with_item_value}
use Rattle.syncml_types.proofs.Bare.{bare_meta, full_meta}
use Rattle.syncml_parts.proofs.Parted.{page_append}
use Rattle.dm_pack.specs.declared.place.Place.{Place}
use Rattle.dm_pack.specs.Entries.{Entry, with_size, part_item, part_of, data_left}
use Rattle.dm_pack.specs.Measures.{hollow_item, put_back, entry_left, marked, size_told, meta_cost, marks_cost}
use Rattle.dm_pack.specs.Measures.{marks_in}
use Rattle.dm_pack.specs.Measures.{marks_of, IsTakenApart, place_past, behind_hollow}
use Rattle.dm_pack.proofs.Apart.{has_data}
use Rattle.dm_pack.proofs.Around.{Around, around}
use Rattle.dm_pack.proofs.Changing.{agree_at, same, twice, item_changed}
use Rattle.dm_pack.proofs.Numbers.{item_numbered, number_changed, ids_changed}
use Rattle.dm_pack.proofs.Parts.{part_hollow, part_ids}
use Rattle.dm_pack.proofs.Within.{apart, one_more}

-- ---- the children of a Meta, which stand on a page of their own

-- tokens that begin with a tag of page 1
abbrev Begins : List Token → Type 0
Begins [] = ⊤
Begins (Tag e content ∷ ts) = page_of e ≡ 1
Begins (End ∷ ts) = ⊥
Begins (Text text ∷ ts) = ⊥
Begins (Opaque bytes ∷ ts) = ⊥

record OnOne (ts : List Token) : Type 0 where
  begins : Begins ts
  stays : page_behind 1 ts ≡ 1

begins_append : (ts us : List Token) → Begins ts → Begins us → Begins (ts ++ us)
begins_append [] us h k = k
begins_append (Tag e content ∷ ts) us h k = h
begins_append (End ∷ ts) us h k = absurd h
begins_append (Text text ∷ ts) us h k = absurd h
begins_append (Opaque bytes ∷ ts) us h k = absurd h

on_append : (ts us : List Token) → OnOne ts → OnOne us → OnOne (ts ++ us)
on_append ts us a b = record {
  begins = begins_append ts us a.begins b.begins;
  stays = page_append 1 ts us ∙ ap (λ p. page_behind p us) a.stays ∙ b.stays;
}

on_text : (e : Element) (v : List ℕ) → page_of e ≡ 1 → OnOne (text_tokens e v)
unfolding text_tokens
on_text e [] h = record { begins = h; stays = h }
on_text e (b ∷ bs) h = record { begins = h; stays = h }

on_texts : (e : Element) (o : Option (List ℕ)) → page_of e ≡ 1 → OnOne (optional (text_tokens e) o)
on_texts e None h = record { begins = tt; stays = refl }
on_texts e (Some v) h = on_text e v h

on_numbers : (e : Element) (o : Option ℕ) → page_of e ≡ 1 → OnOne (optional (number_tokens e) o)
unfolding number_tokens
on_numbers e None h = record { begins = tt; stays = refl }
on_numbers e (Some n) h = on_text e (decimal n) h

on_children : (m : Meta) → OnOne (meta_children m)
on_children m =
    on_append _ _ (on_append _ _ (on_append _ _ (on_append _ _ (on_append _ _ (on_append _ _ (on_append _ _
    (on_texts EFormat m.format refl) (on_texts EType m.media refl)) (on_numbers ESize m.size refl))
    (on_texts ENextNonce m.next_nonce refl))
    (on_numbers EMaxMsgSize m.max_msg refl)) (on_numbers EMaxObjSize m.max_obj refl)) (on_texts EMark m.mark refl))
    (on_texts EVersion m.version refl)

one_apart : (ts us : List Token) → OnOne ts
    → length (spelled 1 (ts ++ us)) ≡ length (spelled 1 ts) + length (spelled 1 us)
one_apart ts us a =
    let whole = apart 1 ts us in
    let page = ap (λ p. length (spelled p us)) a.stays in
    omega (arith, whole, page)

-- all but Size
others : Meta → ℕ
others m =
    length (spelled 1 (optional (text_tokens EFormat) m.format))
    + length (spelled 1 (optional (text_tokens EType) m.media))
    + length (spelled 1 (optional (text_tokens ENextNonce) m.next_nonce))
    + length (spelled 1 (optional (number_tokens EMaxMsgSize) m.max_msg))
    + length (spelled 1 (optional (number_tokens EMaxObjSize) m.max_obj))
    + length (spelled 1 (optional (text_tokens EMark) m.mark))
    + length (spelled 1 (optional (text_tokens EVersion) m.version))

children_long : (m : Meta)
    → length (spelled 1 (meta_children m)) ≡ others m + length (spelled 1 (optional (number_tokens ESize) m.size))
unfolding others
children_long m =
    let a = optional (text_tokens EFormat) m.format in
    let b = optional (text_tokens EType) m.media in
    let c = optional (number_tokens ESize) m.size in
    let d = optional (text_tokens ENextNonce) m.next_nonce in
    let e = optional (number_tokens EMaxMsgSize) m.max_msg in
    let f = optional (number_tokens EMaxObjSize) m.max_obj in
    let g = optional (text_tokens EMark) m.mark in
    let h = optional (text_tokens EVersion) m.version in
    let ab = on_append a b (on_texts EFormat m.format refl) (on_texts EType m.media refl) in
    let abc = on_append (a ++ b) c ab (on_numbers ESize m.size refl) in
    let abcd = on_append (a ++ b ++ c) d abc (on_texts ENextNonce m.next_nonce refl) in
    let abcde = on_append (a ++ b ++ c ++ d) e abcd (on_numbers EMaxMsgSize m.max_msg refl) in
    let abcdef = on_append (a ++ b ++ c ++ d ++ e) f abcde (on_numbers EMaxObjSize m.max_obj refl) in
    let abcdefg = on_append (a ++ b ++ c ++ d ++ e ++ f) g abcdef (on_texts EMark m.mark refl) in
    let s = one_apart a b (on_texts EFormat m.format refl) in
    let t = one_apart (a ++ b) c ab in
    let u = one_apart (a ++ b ++ c) d abc in
    let v = one_apart (a ++ b ++ c ++ d) e abcd in
    let w = one_apart (a ++ b ++ c ++ d ++ e) f abcde in
    let x = one_apart (a ++ b ++ c ++ d ++ e ++ f) g abcdef in
    let y = one_apart (a ++ b ++ c ++ d ++ e ++ f ++ g) h abcdefg in
    omega (arith, s, t, u, v, w, x, y)

-- ---- a Meta in front of Data

tag_on : (p : ℕ) (c d : Bool) (t : Bool) (x y : ℕ)
    → length {A = ℕ} (if t then x ∷ [] else 0 ∷ p ∷ x ∷ []) ≡ length {A = ℕ} (if t then y ∷ [] else 0 ∷ p ∷ y ∷ [])
tag_on p c d true x y = refl
tag_on p c d false x y = refl

-- tags of one page are as long
tags_alike : (q : ℕ) (c d : Bool) → length (token_bytes q (Tag EMeta c)) ≡ length (token_bytes q (Tag EData d))
tags_alike q c d = tag_on 0 c d (0 == q) _ _

-- what stands behind a Meta's children, from their page on
closed : (ts : List Token) → length (spelled 1 (End ∷ Tag EData false ∷ ts)) ≡ 4 + length (spelled 0 ts)
closed ts = omega arith

-- children come to their page
comes : (ts us : List Token) → Begins ts → 0 < length ts
    → length (spelled 0 (ts ++ us)) ≡ 2 + length (spelled 1 (ts ++ us))
comes [] us h some = absurd (omega (arith, some))
comes (Tag e content ∷ ts) us h some =
    let zero = one_more 0 (Tag e content) (ts ++ us) in
    let one = one_more 1 (Tag e content) (ts ++ us) in
    let three : length (token_bytes 0 (Tag e content)) ≡ 3 = rw h refl in
    let single : length (token_bytes 1 (Tag e content)) ≡ 1 = rw h refl in
    omega (arith, zero, one, three, single)
comes (End ∷ ts) us h some = absurd h
comes (Text text ∷ ts) us h some = absurd h
comes (Opaque bytes ∷ ts) us h some = absurd h

full : (e : Element) (ts : List Token) → 0 < length ts → element_tokens e ts ≡ parent_tokens e ts
full e [] some = absurd (omega (arith, some))
full e (t ∷ ts) some = refl

some_by : (ts : List Token) → element_tokens EMeta ts ≡ parent_tokens EMeta ts → 0 < length ts
some_by [] h = absurd (cc)
some_by (t ∷ ts) h = omega arith

none_by : (ts : List Token) → element_tokens EMeta ts ≡ Tag EMeta false ∷ [] → length ts ≡ 0
none_by [] h = refl
none_by (t ∷ ts) h = absurd (cc)

some_children : (m : Meta) → is_empty_meta m ≡ false → 0 < length (meta_children m)
unfolding meta_tokens
some_children m h = some_by (meta_children m) (full_meta m h)

no_children : (m : Meta) → is_empty_meta m ≡ true → length (meta_children m) ≡ 0
unfolding meta_tokens
no_children m h = none_by (meta_children m) (bare_meta m h)

nothing_long : (ts : List Token) → length ts ≡ 0 → length (spelled 1 ts) ≡ 0
nothing_long [] h = refl
nothing_long (t ∷ ts) h = absurd (omega (arith, h))

-- what the children of a Meta but Size add
rest : Option Meta → ℕ
rest None = 0
rest (Some m) = others m

rest_sized : (n : ℕ) (o : Option Meta) → rest (with_size n o) ≡ rest o
unfolding rest others
rest_sized n None = refl
rest_sized n (Some m) = refl

meta_full : (q : ℕ) (m : Meta) (ts : List Token) → is_empty_meta m ≡ false
    → length (spelled q (meta_tokens m ++ Tag EData false ∷ ts)) ≡ length (token_bytes q (Tag EData false)) + 6
    + length (spelled 1 (meta_children m)) + length (spelled 0 ts)
meta_full q m ts h =
    let children = meta_children m in
    let on = on_children m in
    let is = ap (λ l. length (spelled q (l ++ Tag EData false ∷ ts))) (full_meta m h) in
    let whole = one_more q (Tag EMeta true) ((children ++ End ∷ []) ++ Tag EData false ∷ ts) in
    let inside = ap (λ l. length (spelled 0 l)) (append_assoc children (End ∷ []) (Tag EData false ∷ ts)) in
    let way = comes children (End ∷ Tag EData false ∷ ts) on.begins (some_children m h) in
    let parts = one_apart children (End ∷ Tag EData false ∷ ts) on in
    let end = closed ts in
    let alike = tags_alike q true false in
    omega (arith, is, whole, inside, way, parts, end, alike)

meta_bare : (q : ℕ) (m : Meta) (ts : List Token) → is_empty_meta m ≡ true
    → length (spelled q (meta_tokens m ++ Tag EData false ∷ ts)) ≡ length (token_bytes q (Tag EData false)) + 1
    + length (spelled 0 ts)
meta_bare q m ts h =
    let is = ap (λ l. length (spelled q (l ++ Tag EData false ∷ ts))) (bare_meta m h) in
    let whole = one_more q (Tag EMeta false) (Tag EData false ∷ ts) in
    let alike = tags_alike q false false in
    omega (arith, is, whole, alike)

meta_by : (q : ℕ) (m : Meta) (ts : List Token) (t : Bool) → is_empty_meta m ≡ t
    → length (spelled q (meta_tokens m ++ Tag EData false ∷ ts))
    ≡ length (token_bytes q (Tag EData false)) + others m
    + (if t then 1 else 6 + length (spelled 1 (optional (number_tokens ESize) m.size))) + length (spelled 0 ts)
meta_by q m ts true h =
    let whole = meta_bare q m ts h in
    let parts = children_long m in
    let none = nothing_long (meta_children m) (no_children m h) in
    omega (arith, whole, parts, none)
meta_by q m ts false h =
    let whole = meta_full q m ts h in
    let parts = children_long m in
    omega (arith, whole, parts)

-- a Meta that may be absent, in front of empty Data
meta_long : (q : ℕ) (o : Option Meta) (ts : List Token)
    → length (spelled q (optional meta_tokens o ++ Tag EData false ∷ ts))
    ≡ length (token_bytes q (Tag EData false)) + rest o + meta_cost o + length (spelled 0 ts)
unfolding rest
meta_long q None ts = let whole = one_more q (Tag EData false) ts in omega (arith, whole)
meta_long q (Some m) ts = meta_by q m ts (is_empty_meta m) refl

-- ---- an item with empty Data

more_long : (more : Bool) (ts : List Token)
    → length (spelled 0 (flag_tokens EMoreData more ++ End ∷ ts)) ≡ (if more then 1 else 0) + 1 + length (spelled 0 ts)
unfolding flag_tokens
more_long true ts = omega arith
more_long false ts = omega arith

more_page : (more : Bool) (ts : List Token) → page_behind 0 (flag_tokens EMoreData more ++ End ∷ ts) ≡ page_behind 0 ts
unfolding flag_tokens
more_page true ts = refl
more_page false ts = refl

regrouped : (l m f after : List Token) (d e : Token)
    → (l ++ m ++ d ∷ [] ++ f ++ e ∷ []) ++ after ≡ l ++ (m ++ d ∷ (f ++ e ∷ after))
regrouped l m f after d e =
    append_assoc (l ++ m ++ d ∷ [] ++ f) (e ∷ []) after
    ∙ append_assoc (l ++ m ++ d ∷ []) f (e ∷ after)
    ∙ append_assoc (l ++ m) (d ∷ []) (f ++ e ∷ after)
    ∙ append_assoc l m (d ∷ (f ++ e ∷ after))

-- Target and Source
abbrev places : Item → List Token
places i = optional (loc_tokens ETarget) i.target ++ optional (loc_tokens ESource) i.source

-- what stands behind them
abbrev behind_places : Item → List Token → List Token
behind_places i after = optional meta_tokens i.meta ++ Tag EData false ∷ (flag_tokens EMoreData i.more ++ End ∷ after)

children_are : (i : Item) → i.value ≡ Some []
    → item_children i ≡ places i ++ optional meta_tokens i.meta ++ Tag EData false ∷ [] ++ flag_tokens EMoreData i.more
unfolding data_tokens
children_are i empty =
    ap (λ o. places i ++ optional meta_tokens i.meta ++ optional data_tokens o ++ flag_tokens EMoreData i.more) empty

some_item : (l m f : List Token) (d : Token) → 0 < length (l ++ m ++ d ∷ [] ++ f)
some_item l m f d =
    let a = length-append (l ++ m ++ d ∷ []) f in
    let b = length-append (l ++ m) (d ∷ []) in
    omega (arith, a, b)

item_is : (i : Item) (after : List Token) → i.value ≡ Some []
    → item_tokens i ++ after ≡ Tag EItem true ∷ (places i ++ behind_places i after)
unfolding item_tokens
item_is i after empty =
    ap (λ l. element_tokens EItem l ++ after) (children_are i empty)
    ∙ ap (λ l. l ++ after)
    (full EItem _ (some_item (places i) (optional meta_tokens i.meta) (flag_tokens EMoreData i.more) (Tag EData false)))
    ∙ ap (λ l. Tag EItem true ∷ l)
    (regrouped (places i) (optional meta_tokens i.meta) (flag_tokens EMoreData i.more) after (Tag EData false) End)

-- what doesn't depend on Meta and MoreData
fixed : ℕ → List Token → List Token → ℕ
fixed q l after =
    length (token_bytes q (Tag EItem true)) + length (spelled 0 l)
    + length (token_bytes (page_behind 0 l) (Tag EData false)) + 1 + length (spelled 0 after)

item_long : (q : ℕ) (i : Item) (after : List Token) → i.value ≡ Some []
    → length (spelled q (item_tokens i ++ after)) ≡ fixed q (places i) after + rest i.meta + marks_cost i
unfolding fixed
item_long q i after empty =
    let l = places i in
    let is = ap (λ ts. length (spelled q ts)) (item_is i after empty) in
    let whole = one_more q (Tag EItem true) (l ++ behind_places i after) in
    let parts = apart 0 l (behind_places i after) in
    let meta = meta_long (page_behind 0 l) i.meta (flag_tokens EMoreData i.more ++ End ∷ after) in
    let more = more_long i.more after in
    omega (arith, is, whole, parts, meta, more)

item_page : (q : ℕ) (i : Item) (after : List Token) → i.value ≡ Some []
    → page_behind q (item_tokens i ++ after) ≡ page_behind 0 after
item_page q i after empty =
    ap (page_behind q) (item_is i after empty)
    ∙ page_append 0 (places i) (behind_places i after)
    ∙ page_append (page_behind 0 (places i)) (optional meta_tokens i.meta)
    (Tag EData false ∷ (flag_tokens EMoreData i.more ++ End ∷ after))
    ∙ more_page i.more after

-- ---- a command

around_long : (p : ℕ) (i : Item) (tokens : (Item → Item) → List Token) (a : Around i tokens) (f : Item → Item)
    → length (spelled p (tokens f))
    ≡ length (spelled p a.before) + length (spelled (page_behind p a.before) (item_tokens (f i) ++ a.after))
around_long p i tokens a f =
    ap (λ l. length (spelled p l)) (a.is f ∙ append_assoc a.before (item_tokens (f i)) a.after)
    ∙ apart p a.before (item_tokens (f i) ++ a.after)

around_page : (p : ℕ) (i : Item) (tokens : (Item → Item) → List Token) (a : Around i tokens) (f : Item → Item)
    → page_behind p (tokens f) ≡ page_behind (page_behind p a.before) (item_tokens (f i) ++ a.after)
around_page p i tokens a f =
    ap (page_behind p) (a.is f ∙ append_assoc a.before (item_tokens (f i)) a.after)
    ∙ page_append p a.before (item_tokens (f i) ++ a.after)

rest_marked : (size : Option ℕ) (i : Item) → rest (marked size i).meta ≡ rest i.meta
rest_marked None i = refl
rest_marked (Some n) i = rest_sized n i.meta

places_marked : (size : Option ℕ) (i : Item) → places (marked size i) ≡ places i
places_marked None i = refl
places_marked (Some n) i = refl

value_marked : (size : Option ℕ) (i : Item) → (marked size i).value ≡ i.value
value_marked None i = refl
value_marked (Some n) i = refl

-- marked, a command is longer by what the marks cost then, less what they did
pub marks_apart : (p : ℕ) (size : Option ℕ) (c : Command) (i : Item) → cut_item c ≡ Some i → i.value ≡ Some []
    → length (spelled p (command_tokens (cut_changed (marked size) c))) + marks_cost i
    ≡ length (spelled p (command_tokens (cut_changed (λ j. j) c))) + marks_cost (marked size i)
marks_apart p size c i is empty =
    let a = around c i is in
    let q = page_behind p a.before in
    let new = around_long p i _ a (marked size) in
    let old = around_long p i _ a (λ j. j) in
    let new_item = item_long q (marked size i) a.after (value_marked size i ∙ empty) in
    let old_item = item_long q i a.after empty in
    let same_rest = rest_marked size i in
    let same_places = ap (λ l. fixed q l a.after) (places_marked size i) in
    omega (arith, new, old, new_item, old_item, same_rest, same_places)

pub marks_page : (p : ℕ) (size : Option ℕ) (c : Command) (i : Item) → cut_item c ≡ Some i → i.value ≡ Some []
    → page_behind p (command_tokens (cut_changed (marked size) c))
    ≡ page_behind p (command_tokens (cut_changed (λ j. j) c))
marks_page p size c i is empty =
    let a = around c i is in
    let q = page_behind p a.before in
    around_page p i _ a (marked size)
    ∙ item_page q (marked size i) a.after (value_marked size i ∙ empty)
    ∙ sym (item_page q i a.after empty)
    ∙ sym (around_page p i _ a (λ j. j))

-- ---- the marks of a part

some_text : (v : List ℕ) → 0 < length v → length (spelled 1 (text_tokens ESize v)) ≡ 4 + length v
unfolding text_tokens
some_text [] some = absurd (omega (arith, some))
some_text (b ∷ bs) some =
    let inside = length-append (b ∷ bs) (0 ∷ []) in
    let whole = length-append (b ∷ bs ++ 0 ∷ []) (1 ∷ []) in
    omega (arith, inside, whole)

pub size_long : (n : ℕ) → n < 2 ^ 64 → length (spelled 1 (number_tokens ESize n)) ≡ 4 + length (decimal n)
unfolding number_tokens
size_long n most = some_text (decimal n) (decimal_nonempty n most)

sized_by : (a b d e f g h : Bool) → (a && b && false && d && e && f && g && h) ≡ false
sized_by false b d e f g h = refl
sized_by true false d e f g h = refl
sized_by true true d e f g h = refl

pub sized_cost : (n : ℕ) (o : Option Meta)
    → meta_cost (with_size n o) ≡ 6 + length (spelled 1 (optional (number_tokens ESize) (Some n)))
sized_cost n None = refl
sized_cost n (Some m) =
    ap (λ t. if t then 1 else 6 + length (spelled 1 (optional (number_tokens ESize) (Some n))))
    (sized_by (is_none m.format) (is_none m.media) (is_none m.next_nonce) (is_none m.max_msg) (is_none m.max_obj)
    (is_none m.mark) (is_none m.version))

-- how long an entry's Data is, where none of it went out
abbrev size_of : Entry → Option ℕ
size_of e = if e.begun then None else Some (data_left e)

marked_by : (begun : Bool) (i : Item) (v : List ℕ) → i.value ≡ Some v
    → marked (if begun then None else Some (length v)) (hollow_item i) ≡ part_item begun 0 i
marked_by true i v is = ap (λ o. record i { value = option_map (λ _. []) o; more = true }) is
marked_by false i v is =
    ap (λ o. record i { meta = with_size (length v) i.meta; value = option_map (λ _. []) o; more = true }) is
    ∙ ap (λ o. record i { meta = with_size (length (bytes_in o)) i.meta; value = Some []; more = true }) (sym is)

hollow_marked : (e : Entry) → 0 < data_left e
    → cut_changed (marked (size_of e)) (cut_changed hollow_item e.command) ≡ part_of e 0
unfolding part_of
hollow_marked e some =
    let d = has_data e.command some in
    twice (marked (size_of e)) hollow_item e.command
    ∙ agree_at (λ i. marked (size_of e) (hollow_item i)) (part_item e.begun 0) e.command d.item d.is
    (marked_by e.begun d.item (cut_data e.command) d.value)

-- a part is as much longer as its marks
pub record IsMarked (p : Place) (e : Entry) : Type 0 where
  pub used : (place_past p (part_of e 0)).used + marks_of e.command ≡ (behind_hollow p e).used + marks_of (part_of e 0)
  pub page : (place_past p (part_of e 0)).page ≡ (behind_hollow p e).page
  pub next : (place_past p (part_of e 0)).next ≡ (behind_hollow p e).next

pub is_marked : (p : Place) (e : Entry) → 0 < data_left e → IsMarked p e
is_marked p e some =
    let d = has_data e.command some in
    let size = size_of e in
    let c = with_numbers p.next (cut_changed hollow_item e.command) in
    let i = hollow_item d.item in
    let there : cut_item (cut_changed hollow_item e.command) ≡ Some i =
    item_changed hollow_item e.command ∙ ap (option_map hollow_item) d.is in
    let is : cut_item c ≡ Some i = item_numbered p.next (cut_changed hollow_item e.command) ∙ there in
    let empty : i.value ≡ Some [] = ap (option_map (λ _. [])) d.value in
    let part : cut_changed (marked size) c ≡ with_numbers p.next (part_of e 0) =
    sym (number_changed (marked size) p.next (cut_changed hollow_item e.command))
    ∙ ap (with_numbers p.next) (hollow_marked e some) in
    let apart_are = marks_apart p.page size c i is empty in
    let part_long = ap (λ x. length (spelled p.page (command_tokens x))) part in
    let whole_long = ap (λ x. length (spelled p.page (command_tokens x))) (same c) in
    let old : marks_of e.command ≡ marks_cost i = ap marks_in d.is in
    let new : marks_of (part_of e 0) ≡ marks_cost (marked size i) =
    ap marks_of (sym (hollow_marked e some))
    ∙ ap marks_in (item_changed (marked size) (cut_changed hollow_item e.command)
    ∙ ap (option_map (marked size)) there) in
    record {
      used = omega (arith, apart_are, part_long, whole_long, old, new);
      page =
          ap (λ x. page_behind p.page (command_tokens x)) (sym part)
          ∙ marks_page p.page size c i is empty
          ∙ ap (λ x. page_behind p.page (command_tokens x)) (same c);
      next = ap (λ n. p.next + n) (part_ids e 0 ∙ sym (ids_changed hollow_item e.command));
    }

-- ---- as an entry that waits tells them

marks_put_in : (v : List ℕ) (o : Option Item) → marks_in (option_map (with_item_value v) o) ≡ marks_in o
marks_put_in v None = refl
marks_put_in v (Some i) = refl

marks_put : (v : List ℕ) (c : Command) → marks_of (put_back v c) ≡ marks_of c
marks_put [] c = refl
marks_put (b ∷ bs) c = ap marks_in (item_changed (with_item_value (b ∷ bs)) c) ∙ marks_put_in (b ∷ bs) (cut_item c)

-- before the entry is marked
pub marks_kept : (c : Command) (value : List ℕ) (sent : ℕ) (e : Entry) → entry_left c value sent ≡ e
    → marks_of e.command ≡ marks_in (cut_item c)
marks_kept c value sent e is = ap (λ (x : Entry). marks_of x.command) (sym is) ∙ marks_put (drop sent value) c

-- and behind it
pub marks_part : (c : Command) (value : List ℕ) (sent : ℕ) (size : Option ℕ) (e : Entry) → IsTakenApart c value sent
    → entry_left c value sent ≡ e
    → 0 < data_left e → size ≡ size_told sent value
    → marks_of (part_of e 0) ≡ marks_in (option_map (marked size) (cut_item c))
marks_part c value sent size e a is some told =
    let left = ap data_left is in
    ap (λ (x : Entry). marks_of (part_of x 0)) (sym is)
    ∙ ap marks_of (sym (part_hollow size c value sent a (omega (arith, left, some)) told))
    ∙ ap marks_in (item_changed (marked size) c)
