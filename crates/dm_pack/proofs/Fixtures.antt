-- Small headers and commands that can be sent.
use Rattle.std.proofs.Common.{◌≡◌, ◌<◌, ◌≤◌, ◌+◌, ◌&&◌, ◌^◌, ◌==◌, Result, Ok, Err, OnOk, OnErr, IfOk, ℕ, zero, suc}
use Rattle.std.proofs.Common.{Bool, true, false, not, List, [], ◌∷◌, ◌++◌, length, nat_le, Option, Some, None, refl, ap}
use Rattle.std.proofs.Common.{arith}
use Rattle.std.specs.List.{list_all, AllByRecursion}
use Rattle.std.specs.Str.{IsAscii}
use Rattle.std.proofs.lemmas.Bool.{and_parts, leb-true, le-leb, ne_eqb}
use Rattle.std.proofs.lemmas.Str.{is_utf8-from_IsUtf8, IsUtf8-from_ascii}
use Rattle.std.proofs.lemmas.Str.Ascii.{IsAscii-nil}
use Rattle.wbxml_tables.specs.declared.Element.{Element}
use Rattle.wbxml_tables.specs.declared.Element.TheVariants.{EAtomic, ECmdID, EFormat, EItem, ELocURI, EMaxMsgSize}
use Rattle.wbxml_tables.specs.declared.Element.TheVariants.{EMaxObjSize, EMeta, EMsgID, ESessionID, ESource, ESyncHdr}
use Rattle.wbxml_tables.specs.declared.Element.TheVariants.{ETarget, EType, EVerDTD, EVerProto}
use Rattle.syncml_types.specs.declared.values.Meta.{Meta}
use Rattle.syncml_types.specs.declared.values.Item.{Item}
use Rattle.syncml_types.specs.declared.values.Header.{Header}
use Rattle.syncml_types.specs.declared.command.Verb.{Verb}
use Rattle.syncml_types.specs.declared.command.Verb.TheVariants as verb
use Rattle.syncml_types.specs.declared.command.Member.{Member}
use Rattle.syncml_types.specs.declared.command.Member.TheVariants as member
use Rattle.syncml_types.specs.declared.command.Command.{Command}
use Rattle.syncml_types.specs.declared.command.Command.TheVariants as command
use Rattle.syncml_types.specs.Canonical.{is_text, text_tokens, flag_tokens, loc_tokens, meta_tokens, item_tokens}
use Rattle.syncml_types.specs.Canonical.{items_tokens, header_tokens, verb_element, plain_tokens, member_tokens}
use Rattle.syncml_types.specs.Canonical.{members_tokens, atomic_tokens, command_tokens}
use Rattle.syncml_types.specs.Fitness.{is_in_limit, header_texts, header_data, loc_texts, meta_texts, item_texts}
use Rattle.syncml_types.specs.Fitness.{item_data, plain_texts, member_texts, atomic_texts, command_texts, member_data}
use Rattle.syncml_types.specs.Fitness.{command_data, member_numbers, atomic_numbers, command_numbers, plain_filled}
use Rattle.syncml_types.specs.Fitness.{member_filled, atomic_filled, command_filled, plain_correlates}
use Rattle.syncml_types.specs.Fitness.{member_correlates, command_correlates}
use Rattle.syncml_parts.specs.Numbering.{numbered_members, with_numbers}
use Rattle.syncml_types.specs.Message.{no_meta}
use Rattle.dm_pack.specs.Entries.{Entry, IsReady, whole_entry}
use Rattle.dm_pack.specs.Filling.{IsReadyHeader}
use Rattle.dm_pack.proofs.Fit.{both}
use Rattle.dm_pack.proofs.Ready.{IsText}
use Rattle.dm_pack.proofs.Most.{Most, none, most_append, most_parent, most_element, most_text, most_number}

-- ---- texts

low_byte : (b : ℕ) → (nat_le 1 b && nat_le b 127) ≡ true → b < 128
low_byte b h = let top = leb-true b 127 (and_parts (nat_le 1 b) (nat_le b 127) h).1 in omega (arith, top)

low_ascii : (t : List ℕ) → list_all (λ b. nat_le 1 b && nat_le b 127) t ≡ true → IsAscii t
low_ascii [] h i = IsAscii-nil i
low_ascii (b ∷ bs) h zero = low_byte b (and_parts (nat_le 1 b && nat_le b 127) _ h).0
low_ascii (b ∷ bs) h (suc i) = low_ascii bs (and_parts (nat_le 1 b && nat_le b 127) _ h).1 i

low_clear : (t : List ℕ) → list_all (λ b. nat_le 1 b && nat_le b 127) t ≡ true → list_all (λ b. not (b == 0)) t ≡ true
low_clear [] h = refl
low_clear (b ∷ bs) h =
    let parts = and_parts (nat_le 1 b && nat_le b 127) _ h in
    let some = leb-true 1 b (and_parts (nat_le 1 b) (nat_le b 127) parts.0).0 in
    both _ _ (ap not (ne_eqb b 0 (λ e. omega (arith, e, some)))) (low_clear bs parts.1)

pub low_text : (t : List ℕ) → list_all (λ b. nat_le 1 b && nat_le b 127) t ≡ true → is_text t ≡ true
low_text t h = both _ _ (is_utf8-from_IsUtf8 t (IsUtf8-from_ascii t (low_ascii t h))) (low_clear t h)

short : (t : List ℕ) → length t ≤ 10000 → is_in_limit t ≡ true
short t few = le-leb (length t) 2147483648 (omega (arith, few))

word_short : (t : List ℕ) → IsText 20 t → is_in_limit t ≡ true
word_short t w = let few = w.few in short t (omega (arith, few))

-- ---- lengths

most_word : (e : Element) (t : List ℕ) → IsText 20 t → Most 26 (text_tokens e t)
most_word e t w = most_text 20 e t w.few

-- ---- what items are made of

most_loc : (e : Element) (uri : List ℕ) → IsText 20 uri → Most 30 (loc_tokens e (record { uri = uri; name = None }))
unfolding loc_tokens
most_loc e uri w =
    let inside = most_parent e (most_append (most_word ELocURI uri w) none) in
    record { at = λ p. let most = inside.at p in omega (arith, most) }

most_meta : (format media : List ℕ) → IsText 20 format → IsText 20 media
    → Most 56 (meta_tokens (record no_meta { format = Some format; media = Some media }))
unfolding meta_tokens
most_meta format media w x =
    let inside = most_element _ EMeta
    (most_append
    (most_append
    (most_append
    (most_append (most_append (most_append (most_append (most_word EFormat format w) (most_word EType media x)) none)
    none) none) none) none) none) in
    record { at = λ p. let most = inside.at p in omega (arith, most) }

-- ---- an Atomic of a Delete and a Replace

abbrev pub target_item : List ℕ → Option Meta → Option (List ℕ) → Item
target_item uri meta value = record {
  target = Some (record { uri = uri; name = None });
  source = None;
  meta = meta;
  value = value;
  more = false;
}

abbrev pub one : Verb → Item → Member
one v i = member.One (record { verb = v; id = 0; no_resp = false; meta = None; correlator = None; items = i ∷ [] })

abbrev pub media_meta : List ℕ → List ℕ → Meta
media_meta format media = record no_meta { format = Some format; media = Some media }

abbrev pub atomic : Item → Item → Command
atomic gone written =
    command.Atomic (record {
      id = 0;
      no_resp = false;
      meta = None;
      members = one verb.Delete gone ∷ one verb.Replace written ∷ [];
    })

most_gone : (uri : List ℕ) → IsText 20 uri → Most 34 (item_tokens (target_item uri None None))
unfolding item_tokens flag_tokens
most_gone uri w =
    let inside = most_element _ EItem
    (most_append (most_append (most_append (most_append (most_loc ETarget uri w) none) none) none) none) in
    record { at = λ p. let most = inside.at p in omega (arith, most) }

most_written : (uri format media : List ℕ) → IsText 20 uri → IsText 20 format → IsText 20 media
    → Most 90 (item_tokens (target_item uri (Some (media_meta format media)) None))
unfolding item_tokens flag_tokens
most_written uri format media u w x =
    let inside = most_element _ EItem
    (most_append (most_append (most_append (most_append (most_loc ETarget uri u) none) (most_meta format media w x))
    none) none) in
    record { at = λ p. let most = inside.at p in omega (arith, most) }

most_plain : {m : ℕ} (v : Verb) (n : ℕ) (i : Item) → n < 2 ^ 32 → Most m (item_tokens i)
    → Most (m + 20)
    (plain_tokens (record { verb = v; id = n; no_resp = false; meta = None; correlator = None; items = i ∷ [] }))
unfolding plain_tokens flag_tokens items_tokens
most_plain v n i low item =
    let inside = most_parent (verb_element v)
    (most_append (most_append (most_append (most_append (most_number ECmdID n low) none) none) none)
    (most_append item none)) in
    record { at = λ p. let most = inside.at p in omega (arith, most) }

most_atomic : (gone written : Item) → Most 34 (item_tokens gone) → Most 90 (item_tokens written)
    → Most 184 (command_tokens (with_numbers 1000000000 (atomic gone written)))
unfolding command_tokens with_numbers atomic_tokens numbered_members members_tokens member_tokens flag_tokens
most_atomic gone written g w =
    let first = most_plain verb.Delete 1000000001 gone (omega arith) g in
    let last = most_plain verb.Replace 1000000002 written (omega arith) w in
    let inside = most_parent EAtomic
    (most_append (most_append (most_append (most_number ECmdID 1000000000 (omega arith)) none) none)
    (most_append first (most_append last none))) in
    record { at = λ p. let most = inside.at p in omega (arith, most) }

four : (test : List ℕ → Bool) (gone uri format media value : List ℕ) → test gone ≡ true → test uri ≡ true
    → test format ≡ true → test media ≡ true
    → command_texts test
    (atomic (target_item gone None None) (target_item uri (Some (media_meta format media)) (Some value))) ≡ true
unfolding command_texts atomic_texts member_texts plain_texts item_texts loc_texts meta_texts
four test gone uri format media value g u w x = rw (g, u, w, x) refl

pub atomic_ready : (gone uri format media value : List ℕ) → IsText 20 gone → IsText 20 uri → IsText 20 format
    → IsText 20 media → length value ≤ 10000
    → IsReady
    (whole_entry (atomic (target_item gone None None) (target_item uri (Some (media_meta format media)) (Some value))))
unfolding command_data member_data item_data command_numbers atomic_numbers member_numbers numbered_members
    command_filled atomic_filled member_filled plain_filled command_correlates member_correlates plain_correlates
    with_numbers
atomic_ready gone uri format media value g u w x few =
    record {
      fit = record {
        texts = four is_text gone uri format media value g.text u.text w.text x.text;
        numbers = refl;
        filled = refl;
        correlators = refl;
        short_texts =
            four is_in_limit gone uri format media value (word_short gone g) (word_short uri u) (word_short format w)
            (word_short media x);
        short_data = both _ _ (both _ _ (short value few) refl) refl;
      };
      short = let most = (most_atomic _ _ (most_gone gone g) (most_written uri format media u w x)).at 0 in
          omega (arith, most);
    }

-- ---- a header

abbrev pub header : List ℕ → List ℕ → List ℕ → List ℕ → List ℕ → Header
header dtd proto session target source = record {
  dtd = dtd;
  proto = proto;
  session = session;
  msg = 2;
  target = record { uri = target; name = None };
  source = record { uri = source; name = None };
  resp_uri = None;
  no_resp = false;
  cred = None;
  meta = Some (record no_meta { max_msg = Some 16384; max_obj = Some 4194304 });
}

most_sizes : Most 36 (meta_tokens (record no_meta { max_msg = Some 16384; max_obj = Some 4194304 }))
unfolding meta_tokens
most_sizes =
    let inside = most_element _ EMeta
    (most_append
    (most_append
    (most_append (most_append (most_append (most_append (most_append none none) none) none)
    (most_number EMaxMsgSize 16384 (omega arith))) (most_number EMaxObjSize 4194304 (omega arith))) none) none) in
    record { at = λ p. let most = inside.at p in omega (arith, most) }

most_header : (dtd proto session target source : List ℕ) → IsText 20 dtd → IsText 20 proto → IsText 20 session
    → IsText 20 target → IsText 20 source
    → Most 194 (header_tokens (header dtd proto session target source))
unfolding header_tokens flag_tokens
most_header dtd proto session target source d p s t o =
    let inside = most_parent ESyncHdr
    (most_append (most_append (most_append (most_append (most_append (most_append (most_append (most_append (most_append
    (most_word EVerDTD dtd d) (most_word EVerProto proto p)) (most_word ESessionID session s))
    (most_number EMsgID 2 (omega arith))) (most_loc ETarget target t)) (most_loc ESource source o)) none) none) none)
    most_sizes) in
    record { at = λ q. let most = inside.at q in omega (arith, most) }

five : (test : List ℕ → Bool) (dtd proto session target source : List ℕ) → test dtd ≡ true → test proto ≡ true
    → test session ≡ true
    → test target ≡ true → test source ≡ true → header_texts test (header dtd proto session target source) ≡ true
unfolding header_texts loc_texts meta_texts
five test dtd proto session target source d p s t o = rw (d, p, s, t, o) refl

pub header_ready : (dtd proto session target source : List ℕ) → IsText 20 dtd → IsText 20 proto → IsText 20 session
    → IsText 20 target → IsText 20 source
    → IsReadyHeader (header dtd proto session target source)
unfolding header_data
header_ready dtd proto session target source d p s t o =
    record {
      fit = record {
        texts = both _ _ (five is_text dtd proto session target source d.text p.text s.text t.text o.text) refl;
        numbers = refl;
        filled = refl;
        correlators = refl;
        short_texts = both _ _
            (five is_in_limit dtd proto session target source (word_short dtd d) (word_short proto p)
            (word_short session s) (word_short target t) (word_short source o)) refl;
        short_data = refl;
      };
      short = let most = (most_header dtd proto session target source d p s t o).at 0 in omega (arith, most);
    }

-- ---- queues

all_last : (es : List Entry) (e : Entry) → AllByRecursion IsReady es → IsReady e → AllByRecursion IsReady (es ++ e ∷ [])
all_last [] e all ready = (ready, tt)
all_last (d ∷ es) e all ready = (all.0, all_last es e all.1 ready)

either : {A E : Type 0} (r : Result A E) (q p o : List Entry) → OnOk r (q ≡ p) → OnErr r (q ≡ o)
    → AllByRecursion IsReady p → AllByRecursion IsReady o
    → AllByRecursion IsReady q
either (Ok x) q p o ok err all old = rw ok all
either (Err e) q p o ok err all old = rw err old

pub first_ready : {A E : Type 0} (r : Result A E) (q o : List Entry) (e : Entry) → OnOk r (q ≡ e ∷ o) → OnErr r (q ≡ o)
    → AllByRecursion IsReady o → IsReady e → AllByRecursion IsReady q
first_ready r q o e ok err all ready = either r q (e ∷ o) o ok err (ready, all) all

pub last_ready : {A E : Type 0} (r : Result A E) (q o : List Entry) (e : Entry) → OnOk r (q ≡ o ++ e ∷ [])
    → OnErr r (q ≡ o)
    → AllByRecursion IsReady o → IsReady e → AllByRecursion IsReady q
last_ready r q o e ok err all ready = either r q (o ++ e ∷ []) o ok err (all_last o e all ready) all

pub ok_text : {E : Type 0} (r : Result (List ℕ) E) (t : List ℕ) → list_all (λ b. nat_le 1 b && nat_le b 127) t ≡ true
    → IfOk r (λ b. b ≡ t) → IfOk r (λ b. is_text b ≡ true)
ok_text (Ok b) t low is = rw is (low_text t low)
ok_text (Err e) t low is = tt
