-- A command's length without the Data of the item that may be cut.
use Rattle.std.proofs.Common.{◌≡◌, ◌<◌, ◌+◌, ◌^◌, ◌==◌, ℕ, Bool, true, false, if◌then◌else◌, List, [], ◌∷◌, ◌++◌}
use Rattle.std.proofs.Common.{length, length-append, Option, Some, None, option_and_then, refl, sym, ap, ◌∙◌}
use Rattle.std.proofs.Common.{append_assoc, arith}
use Rattle.std.specs.List.{flat_map}
use Rattle.wbxml_tables.specs.declared.Element.{Element}
use Rattle.wbxml_tables.specs.declared.Element.TheVariants.{EData, EItem}
use Rattle.wbxml_tokens.specs.declared.token.Token.{Token}
use Rattle.wbxml_tokens.specs.declared.token.Token.TheVariants.{Tag, End, Text, Opaque}
use Rattle.wbxml_tokens.specs.Spelling.{token_bytes, page_after, spelled, page_behind}
use Rattle.syncml_types.specs.declared.values.Item.{Item}
use Rattle.syncml_types.specs.declared.command.Verb.{Verb}
use Rattle.syncml_types.specs.declared.command.Verb.TheVariants as verb
use Rattle.syncml_types.specs.declared.command.Member.{Member}
use Rattle.syncml_types.specs.declared.command.Member.TheVariants as member
use Rattle.syncml_types.specs.declared.command.SeqMember.{SeqMember}
use Rattle.syncml_types.specs.declared.command.SeqMember.TheVariants as seq_member
use Rattle.syncml_types.specs.declared.command.Command.{Command}
use Rattle.syncml_types.specs.declared.command.Command.TheVariants as command
use Rattle.syncml_types.specs.Canonical.{parent_tokens, element_tokens, is_text, data_piece, data_tokens, flag_tokens}
use Rattle.syncml_types.specs.Canonical.{optional, loc_tokens, meta_tokens, item_children, item_tokens, items_tokens}
use Rattle.syncml_types.specs.Canonical.{plain_tokens, member_tokens, members_tokens, atomic_tokens, seq_member_tokens}
use Rattle.syncml_types.specs.Canonical.{seq_members_tokens, sequence_tokens, results_tokens, command_tokens}
use Rattle.syncml_parts.specs.Packing.{data_length, only_item, write_item, member_item, seq_member_item, list_last}
use Rattle.syncml_parts.specs.Packing.{cut_item, only_changed, write_changed, member_changed, seq_member_changed}
use Rattle.syncml_parts.specs.Packing.{last_changed, cut_changed, without_data, rest_length, bytes_in, data_in}
use Rattle.syncml_parts.specs.Packing.{cut_data}
use Rattle.syncml_parts.specs.Packing.{RestAndData}
use Rattle.syncml_types.specs.Lengths.{spelled_length}
use Rattle.syncml_parts.proofs.Parted.{spelled_append}
use Rattle.syncml_parts.proofs.Last.{last_next}

-- tokens with Data, and the same with the Data emptied
record Swaps (v : List ℕ) (ts us : List Token) : Type 0 where
  before : List Token
  after : List Token
  whole : ts ≡ before ++ Tag EData true ∷ data_piece v ∷ End ∷ after
  bare : us ≡ before ++ Tag EData false ∷ after

swaps_front : (v : List ℕ) (front ts us : List Token) → Swaps v ts us → Swaps v (front ++ ts) (front ++ us)
swaps_front v front ts us s = record {
  before = front ++ s.before;
  after = s.after;
  whole =
      ap (λ l. front ++ l) s.whole ∙ sym (append_assoc front s.before (Tag EData true ∷ data_piece v ∷ End ∷ s.after));
  bare = ap (λ l. front ++ l) s.bare ∙ sym (append_assoc front s.before (Tag EData false ∷ s.after));
}

swaps_back : (v : List ℕ) (bs ts us : List Token) → Swaps v ts us → Swaps v (ts ++ bs) (us ++ bs)
swaps_back v bs ts us s = record {
  before = s.before;
  after = s.after ++ bs;
  whole = ap (λ l. l ++ bs) s.whole ∙ append_assoc s.before (Tag EData true ∷ data_piece v ∷ End ∷ s.after) bs;
  bare = ap (λ l. l ++ bs) s.bare ∙ append_assoc s.before (Tag EData false ∷ s.after) bs;
}

swaps_parent : (v : List ℕ) (e : Element) (ts us : List Token) → Swaps v ts us
    → Swaps v (parent_tokens e ts) (parent_tokens e us)
swaps_parent v e ts us s =
    swaps_front v (Tag e true ∷ []) (ts ++ End ∷ []) (us ++ End ∷ []) (swaps_back v (End ∷ []) ts us s)

some_element : (e : Element) (before : List Token) (t : Token) (after ts : List Token) → ts ≡ before ++ t ∷ after
    → parent_tokens e ts ≡ element_tokens e ts
some_element e [] t after ts h = rw h refl
some_element e (b ∷ before) t after ts h = rw h refl

swaps_element : (v : List ℕ) (e : Element) (ts us : List Token) → Swaps v ts us
    → Swaps v (element_tokens e ts) (element_tokens e us)
swaps_element v e ts us s =
    let p = swaps_parent v e ts us s in
    record {
      before = p.before;
      after = p.after;
      whole = sym (some_element e s.before _ _ ts s.whole) ∙ p.whole;
      bare = sym (some_element e s.before _ _ us s.bare) ∙ p.bare;
    }

swaps_data : (b : ℕ) (bs : List ℕ) (o : Option (List ℕ)) → o ≡ Some (b ∷ bs)
    → Swaps (b ∷ bs) (optional data_tokens o) (optional data_tokens (Some []))
unfolding data_tokens
swaps_data b bs o h = record { before = []; after = []; whole = rw h refl; bare = refl }

swaps_item : (b : ℕ) (bs : List ℕ) (i : Item) → i.value ≡ Some (b ∷ bs)
    → Swaps (b ∷ bs) (item_tokens i) (item_tokens (without_data i))
unfolding item_tokens
swaps_item b bs i h =
    swaps_element (b ∷ bs) EItem (item_children i) (item_children (without_data i))
    (swaps_back (b ∷ bs) (flag_tokens _ i.more) _ _
    (swaps_front (b ∷ bs)
    (optional (loc_tokens _) i.target ++ optional (loc_tokens _) i.source ++ optional meta_tokens i.meta) _ _
    (swaps_data b bs i.value h)))

swaps_only : (b : ℕ) (bs : List ℕ) (is : List Item) (i : Item) → only_item is ≡ Some i → i.value ≡ Some (b ∷ bs)
    → Swaps (b ∷ bs) (items_tokens is) (items_tokens (only_changed without_data is))
unfolding items_tokens
swaps_only b bs [] i h e = absurd (cc)
swaps_only b bs (j ∷ []) i h e =
    let same : j ≡ i = cc in
    swaps_back (b ∷ bs) [] _ _ (swaps_item b bs j (ap (λ (x : Item). x.value) same ∙ e))
swaps_only b bs (j ∷ k ∷ is) i h e = absurd (cc)

swaps_write : (b : ℕ) (bs : List ℕ) (v : Verb) (is : List Item) (i : Item) → write_item v is ≡ Some i
    → i.value ≡ Some (b ∷ bs)
    → Swaps (b ∷ bs) (items_tokens is) (items_tokens (write_changed without_data v is))
swaps_write b bs verb.Add is i h e = swaps_only b bs is i h e
swaps_write b bs verb.Replace is i h e = swaps_only b bs is i h e
swaps_write b bs verb.Copy is i h e = absurd (cc)
swaps_write b bs verb.Delete is i h e = absurd (cc)
swaps_write b bs verb.Exec is i h e = absurd (cc)
swaps_write b bs verb.Get is i h e = absurd (cc)

swaps_member : (b : ℕ) (bs : List ℕ) (m : Member) (i : Item) → member_item m ≡ Some i → i.value ≡ Some (b ∷ bs)
    → Swaps (b ∷ bs) (member_tokens m) (member_tokens (member_changed without_data m))
unfolding member_tokens plain_tokens
swaps_member b bs (member.One c) i h e =
    swaps_parent (b ∷ bs) _ _ _ (swaps_front (b ∷ bs) _ _ _ (swaps_write b bs c.verb c.items i h e))
swaps_member b bs (member.Alert c) i h e = absurd (cc)

swaps_seq_member : (b : ℕ) (bs : List ℕ) (m : SeqMember) (i : Item) → seq_member_item m ≡ Some i
    → i.value ≡ Some (b ∷ bs)
    → Swaps (b ∷ bs) (seq_member_tokens m) (seq_member_tokens (seq_member_changed without_data m))
unfolding seq_member_tokens
swaps_seq_member b bs (seq_member.Single m) i h e = swaps_member b bs m i h e
swaps_seq_member b bs (seq_member.Atomic c) i h e = absurd (cc)

swaps_last : {A : Type 0} (v : List ℕ) (tokens : A → List Token) (item : A → Option Item) (changed : A → A)
    → ((x : A) (i : Item) → item x ≡ Some i → i.value ≡ Some v → Swaps v (tokens x) (tokens (changed x)))
    → (xs : List A) (i : Item) → option_and_then item (list_last xs) ≡ Some i → i.value ≡ Some v
    → Swaps v (flat_map tokens xs) (flat_map tokens (last_changed changed xs))
swaps_last v tokens item changed one [] i h e = absurd (cc)
swaps_last v tokens item changed one (x ∷ []) i h e = swaps_back v [] _ _ (one x i h e)
swaps_last v tokens item changed one (x ∷ y ∷ xs) i h e =
    swaps_front v (tokens x) _ _
    (swaps_last v tokens item changed one (y ∷ xs) i (ap (option_and_then item) (sym (last_next x y xs)) ∙ h) e)

swaps_command : (b : ℕ) (bs : List ℕ) (c : Command) (i : Item) → cut_item c ≡ Some i → i.value ≡ Some (b ∷ bs)
    → Swaps (b ∷ bs) (command_tokens c) (command_tokens (cut_changed without_data c))
unfolding command_tokens plain_tokens results_tokens atomic_tokens sequence_tokens members_tokens seq_members_tokens
swaps_command b bs (command.Plain c) i h e =
    swaps_parent (b ∷ bs) _ _ _ (swaps_front (b ∷ bs) _ _ _ (swaps_write b bs c.verb c.items i h e))
swaps_command b bs (command.Alert c) i h e = absurd (cc)
swaps_command b bs (command.Atomic k) i h e =
    swaps_parent (b ∷ bs) _ _ _
    (swaps_front (b ∷ bs) _ _ _
    (swaps_last (b ∷ bs) member_tokens member_item (member_changed without_data) (swaps_member b bs) k.members i h e))
swaps_command b bs (command.Sequence k) i h e =
    swaps_parent (b ∷ bs) _ _ _
    (swaps_front (b ∷ bs) _ _ _
    (swaps_last (b ∷ bs) seq_member_tokens seq_member_item (seq_member_changed without_data) (swaps_seq_member b bs)
    k.members i h e))
swaps_command b bs (command.Status c) i h e = absurd (cc)
swaps_command b bs (command.Results c) i h e =
    swaps_parent (b ∷ bs) _ _ _ (swaps_front (b ∷ bs) _ _ _ (swaps_only b bs c.items i h e))

-- ---- lengths

piece_page : (v : List ℕ) (p : ℕ) (as_text : Bool) → page_after p (if as_text then Text v else Opaque v) ≡ p
piece_page v p true = refl
piece_page v p false = refl

tag_long : (p : ℕ) (same : Bool)
    → length {A = ℕ} (if same then 79 ∷ [] else 0 ∷ 0 ∷ 79 ∷ [])
    ≡ length {A = ℕ} (if same then 15 ∷ [] else 0 ∷ 0 ∷ 15 ∷ [])
tag_long p true = refl
tag_long p false = refl

data_long : (v : List ℕ) (p : ℕ) (after : List Token)
    → length (spelled p (Tag EData true ∷ data_piece v ∷ End ∷ after)) ≡ length (spelled p (Tag EData false ∷ after))
    + 1 + data_length v
data_long v p after =
    let page = piece_page v 0 (is_text v) in
    let tag = tag_long p (0 == p) in
    let a = length-append (token_bytes p (Tag EData true)) (spelled 0 (data_piece v ∷ End ∷ after)) in
    let b = length-append (token_bytes 0 (data_piece v)) (spelled (page_after 0 (data_piece v)) (End ∷ after)) in
    let c = ap (λ q. length (spelled q (End ∷ after))) page in
    let d = length-append (token_bytes p (Tag EData false)) (spelled 0 after) in
    omega (arith, tag, a, b, c, d)

long_apart : (page : ℕ) (before ts : List Token)
    → length (spelled page (before ++ ts))
    ≡ length (spelled page before) + length (spelled (page_behind page before) ts)
long_apart page before ts =
    ap length (spelled_append page before ts)
    ∙ length-append (spelled page before) (spelled (page_behind page before) ts)

swapped_long : (v : List ℕ) (page : ℕ) (ts us : List Token) → Swaps v ts us
    → length (spelled page ts) ≡ length (spelled page us) + 1 + data_length v
swapped_long v page ts us s =
    let whole =
    ap (λ l. length (spelled page l)) s.whole
    ∙ long_apart page s.before (Tag EData true ∷ data_piece v ∷ End ∷ s.after) in
    let bare = ap (λ l. length (spelled page l)) s.bare ∙ long_apart page s.before (Tag EData false ∷ s.after) in
    let apart = data_long v (page_behind page s.before) s.after in
    omega (arith, whole, bare, apart)

by_bytes : (page : ℕ) (c : Command) (i : Item) (o : Option (List ℕ)) → cut_item c ≡ Some i → i.value ≡ o
    → 0 < length (bytes_in o)
    → length (spelled page (command_tokens c)) ≡ rest_length page c + data_length (bytes_in o)
by_bytes page c i None is e some = absurd (omega (arith, some))
by_bytes page c i (Some []) is e some = absurd (omega (arith, some))
by_bytes page c i (Some (b ∷ bs)) is e some =
    swapped_long (b ∷ bs) page (command_tokens c) (command_tokens (cut_changed without_data c)) (swaps_command b bs c i is e)

by_item : (page : ℕ) (c : Command) (o : Option Item) → cut_item c ≡ o → 0 < length (data_in o)
    → length (spelled page (command_tokens c)) ≡ rest_length page c + data_length (data_in o)
by_item page c None is some = absurd (omega (arith, some))
by_item page c (Some i) is some = by_bytes page c i i.value is refl some

pub rest_and_data : RestAndData
rest_and_data page c some = by_item page c (cut_item c) refl some

pub rest_counted : (page : ℕ) (c : Command) → 0 < length (cut_data c)
    → length (spelled page (command_tokens c)) < 2 ^ 64
    → spelled_length 0 page (command_tokens c) ≡ rest_length page c + data_length (cut_data c)
rest_counted page c some fits = let apart = rest_and_data page c some in omega (arith, apart, fits)
