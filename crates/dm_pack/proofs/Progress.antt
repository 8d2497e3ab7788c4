-- The first entry of a message always gets on, and so does the second behind a short one.
use Rattle.std.proofs.Common.{◌≡◌, ◌⊎◌, inl, inr, ◌<◌, ◌≤◌, ◌+◌, ◌-◌, ◌^◌, ℕ, zero, suc, Bool, true, false}
use Rattle.std.proofs.Common.{if◌then◌else◌, List, [], ◌∷◌, ◌++◌, length, take, drop, nat_le, Option, Some, None}
use Rattle.std.proofs.Common.{option_map, refl, ap, ◌∙◌, arith}
use Rattle.std.proofs.lemmas.Bool.{le-leb, leb-true, leb-false}
use Rattle.std.proofs.lemmas.List.{length-take}
use Rattle.std.proofs.lemmas.Fmt.{length-decimal-le}
use Rattle.std.specs.Fmt.{decimal}
use Rattle.wbxml_tables.specs.declared.Element.TheVariants.{EData, EItem, EMeta, EMoreData, ESize, ESource, ETarget}
use Rattle.wbxml_tables.specs.Tables.{page_of}
use Rattle.wbxml_tokens.specs.declared.token.Token.TheVariants.{Tag, End, Text, Opaque}
use Rattle.wbxml_tokens.specs.Spelling.{token_bytes, spelled}
use Rattle.syncml_types.specs.declared.values.Meta.{Meta}
use Rattle.syncml_types.specs.declared.values.Item.{Item}
use Rattle.syncml_types.specs.declared.values.Header.{Header}
use Rattle.syncml_types.specs.declared.command.Command.{Command}
use Rattle.syncml_types.specs.Canonical.{optional, number_tokens, flag_tokens, data_tokens, data_piece, is_text}
use Rattle.syncml_types.specs.Canonical.{loc_tokens, meta_children, meta_tokens, item_tokens, command_tokens}
use Rattle.syncml_types.specs.Canonical.{commands_tokens}
use Rattle.syncml_parts.specs.Numbering.{ids_in, with_numbers}
use Rattle.syncml_parts.specs.Packing.{cut_item, cut_changed, bytes_in, data_in}
use Rattle.syncml_parts.proofs.Parted.{bounds_data}
use Rattle.syncml_parts.proofs.Short.{short_cut}
use Rattle.syncml_types.specs.Message.{no_meta}
use Rattle.dm_pack.specs.declared.place.Place.{Place}
use Rattle.dm_pack.specs.Entries.{Entry, IsReady, data_left, with_size, part_meta, part_item, part_of}
use Rattle.dm_pack.specs.Entries.{without_value}
use Rattle.dm_pack.specs.Filling.{IsReadyHeader, fits_room, commands_of, taken, greatest, cut, fill}
use Rattle.dm_pack.specs.Laws.{TheFirstGoesOut, TheSecondGoesOut}
use Rattle.dm_pack.specs.Measures.{ids_of, front_length, front_page, place_past, behind_hollow, place_of, hollow_item}
use Rattle.dm_pack.proofs.Bare.{NearItem, near_command}
use Rattle.dm_pack.proofs.Changing.{same}
use Rattle.dm_pack.proofs.Fit.{short_items}
use Rattle.dm_pack.proofs.Measuring.{behind_is, fits_next}
use Rattle.dm_pack.proofs.Near.{Near, NotLonger, gap_most, near_more, near_nothing, near_append, near_same, near_then}
use Rattle.dm_pack.proofs.Near.{near_behind, near_element, near_inserted}
use Rattle.dm_pack.proofs.Numbers.{few_ids, few_most, ids_changed, many_bytes}
use Rattle.dm_pack.proofs.Parts.{part_ids}
use Rattle.dm_pack.proofs.Taking.{taken_one, taken_none}
use Rattle.dm_pack.proofs.Within.{tag_most, one_more, text_most, bare_front, end_most}

-- ---- what a part's item costs

same_piece : (p : ℕ) (v : List ℕ) (t : Bool)
    → token_bytes p (if t then Text v else Opaque v) ≡ token_bytes 0 (if t then Text v else Opaque v)
same_piece p v true = refl
same_piece p v false = refl

data_most : (p : ℕ) (v : List ℕ) → length v ≤ 1 → length (spelled p (data_tokens v)) + 2 ≤ 11
unfolding data_tokens
data_most p [] few =
    let tag = tag_most p EData false in
    let whole = one_more p (Tag EData false) [] in
    omega (arith, tag, whole)
data_most p (b ∷ bs) few =
    let tag = tag_most p EData true in
    let whole = one_more p (Tag EData true) (data_piece (b ∷ bs) ∷ End ∷ []) in
    let piece = one_more (page_of EData) (data_piece (b ∷ bs)) (End ∷ []) in
    let alike = ap length (same_piece (page_of EData) (b ∷ bs) (is_text (b ∷ bs))) in
    let most = (bounds_data (b ∷ bs)).1 (omega (arith, few)) in
    omega (arith, few, tag, whole, piece, alike, most)

near_value : (o : Option (List ℕ)) → length (bytes_in o) ≤ 1 → Near 11 (optional data_tokens o) []
near_value None few = near_more near_nothing (omega arith)
near_value (Some v) few = near_inserted 11 (data_tokens v) (λ p. data_most p v few)

near_more_data : (more : Bool) → Near 5 (flag_tokens EMoreData true) (flag_tokens EMoreData more)
unfolding flag_tokens
near_more_data more =
    near_inserted 5 (Tag EMoreData false ∷ [])
    (λ p. let tag = tag_most p EMoreData false in let whole = one_more p (Tag EMoreData false) [] in
    omega (arith, tag, whole))

near_size : (size : ℕ) (o : Option ℕ) → size < 2 ^ 32
    → Near 18 (number_tokens ESize size) (optional (number_tokens ESize) o)
unfolding number_tokens
near_size size o low =
    near_inserted 18 (number_tokens ESize size)
    (λ p.
    let digits = length-decimal-le 10 size (omega arith) (omega (arith, low)) (omega (arith, low)) in
    let most = text_most p ESize (decimal size) in
    omega (arith, digits, most))

near_children : (size : ℕ) (meta : Meta) → size < 2 ^ 32
    → Near 18 (meta_children (record meta { size = Some size })) (meta_children meta)
near_children size meta low =
    near_then (near_then (near_then (near_then (near_then (near_behind _ (near_size size meta.size low)) _) _) _) _) _

near_meta : (size : ℕ) (meta : Meta) → size < 2 ^ 32
    → Near 19 (meta_tokens (record meta { size = Some size })) (meta_tokens meta)
unfolding meta_tokens
near_meta size meta low = near_element _ _ EMeta (near_children size meta low)

no_meta_most : (p : ℕ) → length (spelled p (meta_tokens no_meta)) ≤ 3
unfolding meta_tokens
no_meta_most p =
    let tag = tag_most p EMeta false in
    let whole = one_more p (Tag EMeta false) [] in
    omega (arith, tag, whole)

near_sized : (size : ℕ) (o : Option Meta) → size < 2 ^ 32
    → Near 26 (optional meta_tokens (with_size size o)) (optional meta_tokens o)
near_sized size None low =
    near_inserted 26 (meta_tokens (record no_meta { size = Some size }))
    (λ p.
    let most = (near_meta size no_meta low).at p p in
    let way = gap_most p p in
    let bare = no_meta_most p in
    omega (arith, most, way, bare))
near_sized size (Some meta) low = near_more (near_meta size meta low) (omega arith)

near_part_meta : (begun : Bool) (i : Item) → length (bytes_in i.value) < 2 ^ 32
    → Near 26 (optional meta_tokens (part_meta begun i)) (optional meta_tokens i.meta)
near_part_meta true i low = near_more (near_same _) (omega arith)
near_part_meta false i low = near_sized (length (bytes_in i.value)) i.meta low

one_most : (v : List ℕ) → length (take 1 v) ≤ 1
one_most v = let long = length-take 1 v in omega (arith, long)

near_part_item : (begun : Bool) (i : Item) → length (bytes_in i.value) < 2 ^ 32
    → Near 43 (item_tokens (part_item begun 1 i)) (item_tokens (without_value i))
unfolding item_tokens
near_part_item begun i low =
    near_element _ _ EItem
    (near_append
    (near_append (near_behind (optional (loc_tokens ETarget) i.target ++ optional (loc_tokens ESource) i.source)
    (near_part_meta begun i low))
    (near_value (Some (take 1 (bytes_in i.value))) (one_most (bytes_in i.value))))
    (near_more_data i.more))

near_whole_item : (i : Item) → length (bytes_in i.value) ≤ 1 → Near 43 (item_tokens i) (item_tokens (without_value i))
unfolding item_tokens
near_whole_item i few =
    near_more (near_element _ _ EItem (near_then (near_append (near_same _) (near_value i.value few)) _)) (omega arith)

near_part : (begun : Bool) (o : Option Item) → length (data_in o) < 2 ^ 32 → NearItem 43 (part_item begun 1) o
near_part begun None low = tt
near_part begun (Some i) low = near_part_item begun i low

near_whole : (o : Option Item) → length (data_in o) ≤ 1 → NearItem 43 (λ i. i) o
near_whole None few = tt
near_whole (Some i) few = near_whole_item i few

-- ---- how long an entry is at most, whole or with one byte

not_longer : (n ids : ℕ) → n ≤ 70000 → ids ≤ 1000 → NotLonger n 1000000000 ids
not_longer n ids low few = record { low = omega (arith, low, few); ten_digits = omega arith; high = omega (arith, few) }

bare_most : (f : Item → Item) (p n : ℕ) (e : Entry) → IsReady e → n ≤ 70000 → NearItem 43 f (cut_item e.command)
    → length (spelled p (command_tokens (with_numbers n (cut_changed f e.command)))) ≤ 1045
bare_most f p n e ready low item =
    let near =
    (near_command 43 f n 1000000000 e.command (not_longer n (ids_in e.command) low (few_ids e ready)) item).at p 0 in
    let way = gap_most p 0 in
    let short = ready.short in
    let most = few_most e.command in
    omega (arith, near, way, short, most)

whole_most : (p n : ℕ) (e : Entry) → IsReady e → n ≤ 1000 → data_left e ≤ 1
    → length (spelled p (command_tokens (with_numbers n e.command))) ≤ 1045
whole_most p n e ready less few =
    let low : n ≤ 70000 = omega (arith, less) in
    let alike = ap (λ c. length (spelled p (command_tokens (with_numbers n c)))) (same e.command) in
    let most = bare_most (λ i. i) p n e ready low (near_whole (cut_item e.command) few) in
    omega (arith, alike, most)

part_most : (p n : ℕ) (e : Entry) → IsReady e → n ≤ 1000
    → length (spelled p (command_tokens (with_numbers n (part_of e 1)))) ≤ 1045
unfolding part_of
part_most p n e ready less =
    let low : n ≤ 70000 = omega (arith, less) in
    let short : data_left e ≤ 2147483648 = short_cut e.command (short_items e.command ready.fit.short_data) in
    bare_most (part_item e.begun 1) p n e ready low (near_part e.begun (cut_item e.command) (omega (arith, short)))

near_hollow_item : (i : Item) → Near 43 (item_tokens (hollow_item i)) (item_tokens (without_value i))
near_hollow_item i = near_whole_item (hollow_item i) (no_bytes i.value)
  where
    no_bytes : (o : Option (List ℕ)) → length (bytes_in (option_map (λ _. []) o)) ≤ 1
    no_bytes None = omega arith
    no_bytes (Some v) = omega arith

near_hollow : (o : Option Item) → NearItem 43 hollow_item o
near_hollow None = tt
near_hollow (Some i) = near_hollow_item i

pub hollow_most : (p n : ℕ) (e : Entry) → IsReady e → n ≤ 70000
    → length (spelled p (command_tokens (with_numbers n (cut_changed hollow_item e.command)))) ≤ 1045
hollow_most p n e ready low = bare_most hollow_item p n e ready low (near_hollow (cut_item e.command))

-- and so its place is low
pub hollow_low : (p q : Place) (e : Entry) → IsReady e → p.used ≤ 65536 → p.next ≤ 1 + p.used → q ≡ behind_hollow p e
    → (q.used ≤ 70000) × (q.next ≤ 70000)
hollow_low p q e ready low next is =
    let most = hollow_most p.page p.next e ready (omega (arith, low, next)) in
    let few = few_ids e ready in
    let ids = ids_changed hollow_item e.command in
    let used = ap (λ (r : Place). r.used) is in
    let number = ap (λ (r : Place). r.next) is in
    (omega (arith, most, low, used), omega (arith, few, ids, next, low, number))

-- ---- what fits

-- a message that has come so far has room for that
pub record HasRoom (h : Header) (before : List Command) : Type 0 where
  pub front : front_length h before ≤ 859
  pub ids : ids_of before ≤ 250

fits_more : (h : Header) (room : ℕ) (before : List Command) (c : Command) → HasRoom h before → 2048 ≤ room
    → ids_in c ≤ 1000
    → length (spelled (front_page before) (command_tokens (with_numbers (1 + ids_of before) c))) ≤ 1045
    → fits_room h room (before ++ c ∷ []) ≡ true
fits_more h room before c has most few short =
    let p = place_past (place_of h before) c in
    let front = has.front in
    let ids = has.ids in
    let end = end_most p.page p.next (omega (arith, ids, few)) in
    fits_next h room before c ∙ le-leb _ room (omega (arith, front, end, short, most))

greatest_by : (p : ℕ → Bool) (k : ℕ) (t : Bool) → 0 < greatest p k → 0 < (if t then suc k else greatest p k)
greatest_by p k true h = omega arith
greatest_by p k false h = h

some_greatest : (p : ℕ → Bool) (most : ℕ) → 0 < most → p 1 ≡ true → 0 < greatest p most
some_greatest p zero some one = absurd (omega (arith, some))
some_greatest p (suc zero) some one = rw one (omega arith)
some_greatest p (suc (suc k)) some one =
    greatest_by p (suc k) (p (suc (suc k))) (some_greatest p (suc k) (omega arith) one)

abbrev Moves : Header → ℕ → List Command → Entry → List Entry → Type 0
Moves h room before e es =
    (0 < taken h room before (e ∷ es)) ⊎ ((taken h room before (e ∷ es) ≡ 0) × (0 < cut h room before (e ∷ es)))

a_part : (h : Header) (room : ℕ) (before : List Command) (e : Entry) (es : List Entry) → HasRoom h before → 2048 ≤ room
    → IsReady e
    → 1 < data_left e → 0 < cut h room before (e ∷ es)
a_part h room before e es has most ready more =
    some_greatest (λ n. fits_room h room (before ++ part_of e n ∷ [])) (data_left e - 1) (omega (arith, more))
    (fits_more h room before (part_of e 1) has most
    (let ids = part_ids e 1 in let few = few_ids e ready in omega (arith, ids, few))
    (part_most (front_page before) (1 + ids_of before) e ready (let ids = has.ids in omega (arith, ids))))

more_left : (h : Header) (room : ℕ) (before : List Command) (e : Entry) → HasRoom h before → 2048 ≤ room → IsReady e
    → fits_room h room (before ++ e.command ∷ []) ≡ false → (t : Bool) → nat_le (data_left e) 1 ≡ t → 1 < data_left e
more_left h room before e has most ready not_fit true few =
    let fit = fits_more h room before e.command has most (few_ids e ready)
    (whole_most (front_page before) (1 + ids_of before) e ready (let ids = has.ids in omega (arith, ids))
    (leb-true (data_left e) 1 few)) in
    absurd (cc)
more_left h room before e has most ready not_fit false many = leb-false (data_left e) 1 many

moves_by : (h : Header) (room : ℕ) (before : List Command) (e : Entry) (es : List Entry) → HasRoom h before
    → 2048 ≤ room → IsReady e
    → (t : Bool) → fits_room h room (before ++ e.command ∷ []) ≡ t → Moves h room before e es
moves_by h room before e es has most ready true fit =
    inl (let is = taken_one h room before e es fit in omega (arith, is))
moves_by h room before e es has most ready false fit =
    inr (
      taken_none h room before e es fit,
      a_part h room before e es has most ready
          (more_left h room before e has most ready fit (nat_le (data_left e) 1) refl),
    )

moves : (h : Header) (room : ℕ) (before : List Command) (e : Entry) (es : List Entry) → HasRoom h before → 2048 ≤ room
    → IsReady e
    → Moves h room before e es
moves h room before e es has most ready =
    moves_by h room before e es has most ready (fits_room h room (before ++ e.command ∷ [])) refl

-- ---- the first entry

bare_room : (h : Header) → IsReadyHeader h → HasRoom h []
bare_room h ready = record { front = let front = bare_front h ready in omega (arith, front); ids = omega arith }

first_by : (h : Header) (room w : ℕ) (es : List Entry) → (0 < w) ⊎ ((w ≡ 0) × (0 < cut h room [] es))
    → (0 < w) ⊎ ((w ≡ 0) × (0 < cut h room (commands_of (take w es)) (drop w es)))
first_by h room w es (inl some) = inl some
first_by h room w es (inr rest) = inr (rest.0, rw rest.0 rest.1)

pub the_first_goes_out : TheFirstGoesOut
unfolding fill
the_first_goes_out e es h room heard ready header most =
    first_by h room (taken h room [] (e ∷ es)) (e ∷ es) (moves h room [] e es (bare_room h header) most ready)

-- ---- the second

short_front : (h : Header) (c : Command) → IsReadyHeader h
    → length (spelled 0 (command_tokens (with_numbers 1 c))) ≤ 250
    → front_length h (c ∷ []) ≤ 859
unfolding front_page commands_tokens
short_front h c ready short =
    let is = ap (λ (p : Place). p.used) (behind_is h [] c) in
    let front = bare_front h ready in
    omega (arith, is, front, short)

short_room : (h : Header) (c : Command) → IsReadyHeader h → length (spelled 0 (command_tokens (with_numbers 1 c))) ≤ 250
    → HasRoom h (c ∷ [])
short_room h c ready short =
    record {
      front = short_front h c ready short;
      ids = let many = many_bytes 0 1 c in omega (arith, many, short);
    }

short_fits : (h : Header) (room : ℕ) (c : Command) → IsReadyHeader h → 2048 ≤ room
    → length (spelled 0 (command_tokens (with_numbers 1 c))) ≤ 250 → fits_room h room (c ∷ []) ≡ true
unfolding front_page commands_tokens
short_fits h room c ready most short =
    let many = many_bytes 0 1 c in
    fits_more h room [] c (bare_room h ready) most (omega (arith, many, short)) (omega (arith, short))

second_by : (h : Header) (room whole w : ℕ) (first : Entry) (es : List Entry) → whole ≡ suc w
    → (0 < w) ⊎ ((w ≡ 0) × (0 < cut h room (first.command ∷ []) es))
    → (1 < whole) ⊎ ((whole ≡ 1) × (0 < cut h room (commands_of (take whole (first ∷ es))) (drop whole (first ∷ es))))
second_by h room whole w first es is (inl some) = inl (omega (arith, is, some))
second_by h room whole w first es is (inr rest) =
    let none = rest.0 in
    let one : whole ≡ 1 = omega (arith, is, none) in
    inr (one, rw one rest.1)

pub the_second_goes_out : TheSecondGoesOut
unfolding fill
the_second_goes_out first e es h room heard short ready header most =
    second_by h room (taken h room [] (first ∷ e ∷ es)) (taken h room (first.command ∷ []) (e ∷ es)) first (e ∷ es)
    (taken_one h room [] first (e ∷ es) (short_fits h room first.command header most short))
    (moves h room (first.command ∷ []) e es (short_room h first.command header short) most ready)
