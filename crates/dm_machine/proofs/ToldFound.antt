-- What a tree of a device gives to be found, and that Statuses and Results of it can be sent.
use Rattle.std.proofs.Common.{◌≡◌, ◌<◌, ◌≤◌, ◌*◌, ◌^◌, ◌&&◌, ℕ, Bool, true, false, cond, not, List, [], ◌∷◌, length}
use Rattle.std.proofs.Common.{map, Option, Some, None, Ok, Err, refl, ap, subst, arith, length-append}
use Rattle.std.specs.Prelude.{codes, IfSome, unwrap_or, filter, nat_lt}
use Rattle.std.specs.List.{list_all, AllByRecursion}
use Rattle.std.specs.Option.{option_map_or}
use Rattle.std.specs.Fmt.{decimal}
use Rattle.std.specs.FinMap.{get, keys, entries, len-entries}
use Rattle.std.proofs.lemmas.Bool.{and_parts, le-leb, leb-true, ltb-false, ne_eqb}
use Rattle.std.proofs.lemmas.Fmt.{length-decimal-le}
use Rattle.std.proofs.lemmas.List.{length-map}
use Rattle.wbxml_tables.specs.declared.Element.TheVariants.{ECmdID, ECmdRef, EFormat, EItem, ELocURI, EMeta, EMsgRef}
use Rattle.wbxml_tables.specs.declared.Element.TheVariants.{EResults, ESource, EType}
use Rattle.syncml_types.specs.declared.values.Item.{Item}
use Rattle.syncml_types.specs.declared.command.Command.{Command}
use Rattle.syncml_types.specs.declared.command.Command.TheVariants as command
use Rattle.syncml_types.specs.Canonical.{is_text, optional, text_tokens, flag_tokens, loc_tokens, meta_tokens}
use Rattle.syncml_types.specs.Canonical.{item_tokens, items_tokens, results_tokens, command_tokens}
use Rattle.syncml_types.specs.Fitness.{all_of, is_in_limit, is_number, loc_texts, meta_texts, item_texts, item_data}
use Rattle.syncml_types.specs.Fitness.{results_texts, command_texts, command_data, command_numbers, command_filled}
use Rattle.syncml_types.specs.Fitness.{command_correlates}
use Rattle.syncml_parts.specs.Numbering.{with_numbers}
use Rattle.dm_uri.specs.declared.uri.Uri.{Uri}
use Rattle.dm_uri.specs.declared.uri.Prop.{Prop}
use Rattle.dm_uri.specs.declared.uri.Prop.TheVariants as prop
use Rattle.dm_uri.specs.declared.uri.Query.{Query}
use Rattle.dm_uri.specs.declared.uri.Query.TheVariants as query
use Rattle.dm_uri.specs.Names.{has_name_form, is_within_limits, joined, printed_path}
use Rattle.dm_uri.specs.Names as names
use Rattle.dm_uri.specs.Grammar.{printed}
use Rattle.dm_uri.specs.Reading.{parse_of}
use Rattle.dm_uri.proofs.Limits.{all_forms}
use Rattle.dm_acl.specs.declared.values.Entries.{Entries}
use Rattle.dm_acl.specs.declared.values.AclError.TheVariants as acl_error
use Rattle.dm_acl.specs.Grammar.{printed as printed_acl, no_entries}
use Rattle.dm_acl.specs.Reading as acl
use Rattle.dm_tree.specs.declared.nodes.Node.{Node}
use Rattle.dm_tree.specs.Nodes.{Path, Nodes, formats, last_name, is_below, IsReadAgain, IsWellFormed}
use Rattle.dm_tree.specs.Rows.{blank_node}
use Rattle.dm_tree.specs.Order.{below, is_child_of, children, child_names, names_of}
use Rattle.dm_tree.proofs.MapKeys.{all_keys}
use Rattle.dm_commands.specs.declared.outcome.Found.{Found}
use Rattle.dm_commands.specs.Outcomes.{Setting, node_at}
use Rattle.dm_commands.specs.Finding.{found_node, node_value, prop_format, prop_value, is_shown, shown_below, listed}
use Rattle.dm_commands.specs.Finding.{found_by}
use Rattle.dm_atomic.specs.declared.tasks.Named.{Named}
use Rattle.dm_atomic.specs.declared.tasks.Named.TheVariants as named
use Rattle.syncml_types.specs.declared.command.Verb.TheVariants as verb
use Rattle.dm_atomic.specs.declared.tasks.Post.{Post}
use Rattle.dm_atomic.specs.Tasks.{named_text}
use Rattle.dm_atomic.specs.Made.{command_told, uri_in, source_item}
use Rattle.dm_atomic.specs.Made as made
use Rattle.dm_pack.specs.Entries.{IsReady, whole_entry}
use Rattle.dm_pack.proofs.Fit.{both}
use Rattle.dm_pack.proofs.Most.{Most, none, most_append, most_parent, most_element, most_text, most_number}
use Rattle.dm_pack.proofs.Ready.{IsText, IsOptional, Passes, texts_pass, short_passes, found_item, results, named_items}
use Rattle.dm_pack.proofs.Ready.{status_ready, alert_ready}
use Rattle.dm_ends.proofs.Statuses.{IsReadyPost}
use Rattle.dm_machine.specs.Ready.{IsReadyMade, IsDevice}
use Rattle.dm_ends.proofs.Uris.{visible_text, one_of, parsed_printed, parsed_within, printed_path_text, uri_in_text}
use Rattle.dm_machine.proofs.ToldTexts.{text_of_device}

-- ---- Results of one item, whose URI is printed

text_passes : (test : List ℕ → Bool) (most : ℕ) (t : List ℕ) → Passes test → most ≤ 1000 → IsText most t → test t ≡ true
text_passes test most t passes within is = let few = is.few in passes.pass t is.text (omega (arith, few, within))

media_passes : (test : List ℕ → Bool) (o : Option (List ℕ)) → Passes test → IsOptional 255 o → all_of test o ≡ true
media_passes test None passes is = refl
media_passes test (Some t) passes is = text_passes test 255 t passes (omega arith) is

most_media : (o : Option (List ℕ)) → IsOptional 255 o → Most 261 (optional (text_tokens EType) o)
most_media None is = record { at = λ p. omega arith }
most_media (Some t) is = most_text 255 EType t is.few

most_uri : (uri : List ℕ) → IsText 271 uri → Most 281 (loc_tokens ESource (record { uri = uri; name = None }))
unfolding loc_tokens
most_uri uri is =
    let inside = most_parent ESource (most_append (most_text 271 ELocURI uri is.few) none) in
    record { at = λ p. let most = inside.at p in omega (arith, most) }

most_item : (uri format : List ℕ) (media : Option (List ℕ)) → IsText 271 uri → IsText 20 format → IsOptional 255 media
    → Most 576 (item_tokens (found_item uri format media None))
unfolding item_tokens flag_tokens meta_tokens
most_item uri format media u f t =
    let meta = most_element _ EMeta
    (most_append (most_append (most_append (most_append (most_append (most_append (most_append
    (most_text 20 EFormat format f.few) (most_media media t)) none) none) none) none) none) none) in
    let inside = most_element _ EItem
    (most_append (most_append (most_append (most_append none (most_uri uri u)) meta) none) none) in
    record { at = λ p. let most = inside.at p in omega (arith, most) }

most_result : (msg ref : ℕ) (uri format : List ℕ) (media value : Option (List ℕ)) → msg < 2 ^ 32 → ref < 2 ^ 32
    → IsText 271 uri → IsText 20 format → IsOptional 255 media → Most 628 (command_tokens (with_numbers 1000000000
    (results msg ref (record (found_item uri format media value) { value = None }))))
unfolding command_tokens with_numbers results_tokens items_tokens
most_result msg ref uri format media value m r u f t =
    let inside = most_parent EResults
    (most_append (most_append (most_append (most_append (most_append (most_append
    (most_number ECmdID 1000000000 (omega arith)) (most_number EMsgRef msg m)) (most_number ECmdRef ref r))
    none) none) none)
    (most_append (most_item uri format media u f t) none)) in
    record { at = λ p. let most = inside.at p in omega (arith, most) }

result_passes : (test : List ℕ → Bool) (msg ref : ℕ) (uri format : List ℕ) (media value : Option (List ℕ)) → Passes test
    → IsText 271 uri → IsText 20 format → IsOptional 255 media
    → command_texts test (results msg ref (found_item uri format media value)) ≡ true
unfolding command_texts results_texts item_texts loc_texts meta_texts
result_passes test msg ref uri format media value passes u f t =
    rw (
      text_passes test 271 uri passes (omega arith) u,
      text_passes test 20 format passes (omega arith) f,
      media_passes test media passes t,
    ) refl

some_number : (n : ℕ) → 0 < n → is_number n ≡ true
some_number n some = ap not (ne_eqb n 0 (λ e. omega (arith, e, some)))

result_ready : (msg ref : ℕ) (uri format : List ℕ) (media value : Option (List ℕ)) → 0 < msg → msg < 2 ^ 32
    → ref < 2 ^ 32 → IsText 271 uri → IsText 20 format → IsOptional 255 media → all_of is_in_limit value ≡ true
    → IsReady (whole_entry (results msg ref (found_item uri format media value)))
unfolding command_data command_numbers command_filled command_correlates with_numbers item_data
result_ready msg ref uri format media value some m r u f t few =
    record {
      fit = record {
        texts = result_passes is_text msg ref uri format media value texts_pass u f t;
        numbers = some_number msg some;
        filled = refl;
        correlators = refl;
        short_texts = result_passes is_in_limit msg ref uri format media value short_passes u f t;
        short_data = both _ _ few refl;
      };
      short = let most = (most_result msg ref uri format media value m r u f t).at 0 in omega (arith, most);
    }

-- ---- what is made

-- what a Status answers: a command of a message
pub record IsReadyFound (f : Found) : Type 0 where
  pub uri : IsText 271 f.uri
  pub format : IsText 20 f.format
  pub media : IsOptional 255 f.media
  pub value : all_of is_in_limit f.value ≡ true

word : (t : List ℕ) → is_text t ≡ true → length t ≤ 20 → IsText 20 t
word t text few = record { text = text; few = few }

pub result_is_ready : (p : Post) (f : Found) → IsReadyPost p → IsReadyFound f → IsReadyMade (made.Result p f)
result_is_ready p f is found =
    result_ready p.msg p.command f.uri f.format f.media f.value is.some is.msg is.command found.uri found.format
    found.media found.value

named_uris : (uris : List (List ℕ)) → named_items uris ≡ map (λ uri. source_item uri None None) uris
named_uris [] = refl
named_uris (uri ∷ uris) = ap (λ is. source_item uri None None ∷ is) (named_uris uris)

abbrev broken_of : List Item → Command
broken_of items = command.Alert (record { id = 0; no_resp = false; code = 1225; correlator = None; items = items })

pub broken_is_ready : (target : List ℕ) → IsReadyMade (made.Broken target)
broken_is_ready target =
    subst (λ items. IsReady (whole_entry (broken_of items))) (named_uris (uri_in (Some target)))
    (alert_ready 1225 (uri_in (Some target)) (omega arith) (uri_in_text (Some target)))

-- ---- a node

pub record IsReadyNode (n : Node) : Type 0 where
  pub format : IsText 20 n.value.format
  pub media : IsText 255 n.value.media
  pub bytes : length n.value.bytes ≤ 4194304
  pub acl : IfSome n.acl (λ a. length (printed_acl a) ≤ 4096)
  pub title : length n.title ≤ 255
  pub verno : n.verno < 2 ^ 16
  pub stamp : length n.stamp.bytes ≤ 16

eight : AllByRecursion (IsText 20) formats
eight = (
  word _ (visible_text _ refl) (omega arith),
  (
    word _ (visible_text _ refl) (omega arith),
    (
      word _ (visible_text _ refl) (omega arith),
      (
        word _ (visible_text _ refl) (omega arith),
        (
          word _ (visible_text _ refl) (omega arith),
          (
            word _ (visible_text _ refl) (omega arith),
            (word _ (visible_text _ refl) (omega arith), (word _ (visible_text _ refl) (omega arith), tt)),
          ),
        ),
      ),
    ),
  ),
)

list_of_length : (a : Entries) → IsReadAgain a → length (printed_acl a) ≤ 4096
unfolding acl.parse_of
list_of_length a again = by_test (nat_lt 4096 (length (printed_acl a))) refl again
  where
    by_test : (b : Bool) → nat_lt 4096 (length (printed_acl a)) ≡ b
        → cond b (Err (acl_error.Malformed 4096)) (acl.after_parts no_entries 0 (acl.parts_in (printed_acl a))) ≡ Ok a
        → length (printed_acl a) ≤ 4096
    by_test true e h = absurd (cc)
    by_test false e h = ltb-false 4096 (length (printed_acl a)) e

short_list : (o : Option Entries) → IfSome o IsReadAgain → IfSome o (λ a. length (printed_acl a) ≤ 4096)
short_list None again = tt
short_list (Some a) again = list_of_length a again

node_ready : (m : Nodes) (p : Path) (n : Node) → IsDevice m → get m p ≡ Some n → IsReadyNode n
node_ready m p n device there =
    let is = device.formed.each p n there in
    let long = is.stamp.long in
    record {
      format = one_of 20 n.value.format formats eight is.value.format;
      media = record { text = text_of_device n.value.media (device.device.texts p n there); few = is.value.media };
      bytes = is.value.short;
      acl = short_list n.acl is.acl;
      title = is.title;
      verno = is.verno;
      stamp = omega (arith, long);
    }

blank_ready : IsReadyNode blank_node
blank_ready = record {
  format = word [] (visible_text [] refl) (omega arith);
  media = record { text = visible_text [] refl; few = omega arith };
  bytes = omega arith;
  acl = tt;
  title = omega arith;
  verno = omega arith;
  stamp = omega arith;
}

pub at_ready : (m : Nodes) (p : Path) → IsDevice m → IsReadyNode (node_at m p)
at_ready m p device = by_look (get m p) refl
  where
    by_look : (o : Option Node) → get m p ≡ o → IsReadyNode (unwrap_or o blank_node)
    by_look (Some n) there = node_ready m p n device there
    by_look None there = blank_ready

-- ---- values

short_value : (t : List ℕ) → length t ≤ 16777216 → all_of is_in_limit (Some t) ≡ true
short_value t few = le-leb (length t) 2147483648 (omega (arith, few))

-- a path that a tree may have
abbrev is_good_path : Path → Bool
is_good_path p = list_all has_name_form p && is_within_limits p

key_good : (m : Nodes) (p : Path) (n : Node) → IsWellFormed m → get m p ≡ Some n → is_good_path p ≡ true
key_good m p n formed there =
    let is = formed.paths p n there in
    both (list_all has_name_form p) (is_within_limits p) (all_forms p is.0.names).0 is.1

keys_good : (m : Nodes) → IsWellFormed m → list_all is_good_path (keys m) ≡ true
keys_good m formed = all_keys m is_good_path (λ q x there. key_good m q x formed there)

pub filtered : (f g : Path → Bool) (ps : List Path) → list_all f ps ≡ true → list_all f (filter g ps) ≡ true
filtered f g [] h = refl
filtered f g (p ∷ ps) h =
    let parts = and_parts (f p) (list_all f ps) h in
    elim (g p) as (λ b. list_all f (cond b (p ∷ filter g ps) (filter g ps)) ≡ true) [
      | true ↦ both (f p) (list_all f (filter g ps)) parts.0 (filtered f g ps parts.1)
      | false ↦ filtered f g ps parts.1
    ]

few_filtered : (g : Path → Bool) (ps : List Path) → length (filter g ps) ≤ length ps
few_filtered g [] = omega arith
few_filtered g (p ∷ ps) =
    let few = few_filtered g ps in
    elim (g p) as (λ b. length (cond b (p ∷ filter g ps) (filter g ps)) ≤ length (p ∷ ps)) [
      | true ↦ omega (arith, few)
      | false ↦ omega (arith, few)
    ]

-- ---- the names of children

short_last : (p : Path) → list_all names.is_short_name p ≡ true → length (unwrap_or (last_name p) []) ≤ 64
short_last [] h = omega arith
short_last (n ∷ []) h = leb-true (length n) 64 (and_parts (names.is_short_name n) true h).0
short_last (n ∷ k ∷ ns) h =
    short_last (k ∷ ns) (and_parts (names.is_short_name n) (list_all names.is_short_name (k ∷ ns)) h).1

good_short : (p : Path) → is_good_path p ≡ true → list_all names.is_short_name p ≡ true
good_short p h = (and_parts _ _ (and_parts _ _ (and_parts _ _ h).1).0).0

abbrev HasShort : List (List ℕ) → Type 0
HasShort ns = AllByRecursion (λ n. length n ≤ 64) ns

names_short : (ps : List Path) → list_all is_good_path ps ≡ true → HasShort (names_of ps)
names_short [] h = tt
names_short (p ∷ ps) h =
    let parts = and_parts (is_good_path p) (list_all is_good_path ps) h in
    (short_last p (good_short p parts.0), names_short ps parts.1)

short_joined : (ns : List (List ℕ)) → HasShort ns → length (joined ns) ≤ 65 * length ns
short_joined [] h = omega arith
short_joined (n ∷ []) h = let few = h.0 in omega (arith, few)
short_joined (n ∷ k ∷ ns) h =
    let first = h.0 in
    let rest = short_joined (k ∷ ns) h.1 in
    let sum = length-append n (0x2F ∷ joined (k ∷ ns)) in
    omega (arith, first, rest, sum)

few_names : (m : Nodes) (p : Path) → IsWellFormed m → length (child_names m p) ≤ 65536
few_names m p formed =
    let names = length-map (children m p) (λ q. unwrap_or (last_name q) []) in
    let some = few_filtered (λ q. is_child_of p q) (keys m) in
    let all = length-map (entries m) (λ e. e.0) in
    let few = formed.few in
    let is = len-entries m in
    omega (arith, names, some, all, few, is)

node_short : (m : Nodes) (p : Path) → IsDevice m → all_of is_in_limit (Some (node_value m p)) ≡ true
node_short m p device =
    let bytes = (at_ready m p device).bytes in
    let few = few_names m p device.formed in
    let names = short_joined (child_names m p)
    (names_short (children m p) (filtered is_good_path (λ q. is_child_of p q) (keys m) (keys_good m device.formed))) in
    elim (node_at m p).interior
    as (λ b. all_of is_in_limit (Some (cond b (joined (child_names m p)) (node_at m p).value.bytes)) ≡ true) [
      | true ↦ short_value (joined (child_names m p)) (omega (arith, few, names))
      | false ↦ short_value (node_at m p).value.bytes (omega (arith, bytes))
    ]

-- ---- a property

short_decimal : (n : ℕ) → n ≤ 4194304 → length (decimal n) ≤ 7
short_decimal n low = length-decimal-le 7 n (omega arith) (omega (arith, low)) (omega (arith, low))

acl_short : (o : Option Entries) → IfSome o (λ a. length (printed_acl a) ≤ 4096)
    → length (option_map_or printed_acl o []) ≤ 4096
acl_short None few = omega arith
acl_short (Some a) few = few

short_name : (p : Path) → list_all names.is_short_name p ≡ true → length (unwrap_or (last_name p) (codes ".")) ≤ 64
short_name [] h = omega arith
short_name (n ∷ []) h = leb-true (length n) 64 (and_parts (names.is_short_name n) true h).0
short_name (n ∷ k ∷ ns) h =
    short_name (k ∷ ns) (and_parts (names.is_short_name n) (list_all names.is_short_name (k ∷ ns)) h).1

path_short : (p : Path) → is_within_limits p ≡ true → length (unwrap_or (last_name p) (codes ".")) ≤ 64
path_short p h = short_name p (and_parts _ _ (and_parts _ _ h).0).0

prop_short : (p : Path) (n : Node) (q : Prop) → is_within_limits p ≡ true → IsReadyNode n
    → length (prop_value p n q) ≤ 16777216
prop_short p n prop.Acl h is = let few = acl_short n.acl is.acl in omega (arith, few)
prop_short p n prop.Format h is = let few = is.format.few in omega (arith, few)
prop_short p n prop.Name h is = let few = path_short p h in omega (arith, few)
prop_short p n prop.Size h is = let few = short_decimal (length n.value.bytes) is.bytes in omega (arith, few)
prop_short p n prop.Media h is = let few = is.media.few in omega (arith, few)
prop_short p n prop.Title h is = let few = is.title in omega (arith, few)
prop_short p n prop.VerNo h is =
    let low = is.verno in let few = short_decimal n.verno (omega (arith, low)) in omega (arith, few)
prop_short p n prop.TStamp h is = let few = is.stamp in omega (arith, few)

prop_word : (q : Prop) → IsText 20 (prop_format q)
prop_word prop.Size = word _ (visible_text _ refl) (omega arith)
prop_word prop.VerNo = word _ (visible_text _ refl) (omega arith)
prop_word prop.Acl = word _ (visible_text _ refl) (omega arith)
prop_word prop.Format = word _ (visible_text _ refl) (omega arith)
prop_word prop.Name = word _ (visible_text _ refl) (omega arith)
prop_word prop.Media = word _ (visible_text _ refl) (omega arith)
prop_word prop.Title = word _ (visible_text _ refl) (omega arith)
prop_word prop.TStamp = word _ (visible_text _ refl) (omega arith)

-- ---- by the query

found_media : (n : Node) (b : Bool) → IsText 255 n.value.media → IsOptional 255 (cond b None (Some n.value.media))
found_media n true is = tt
found_media n false is = is

found_at_ready : (uri : List ℕ) (n : Node) (value : Option (List ℕ)) → IsText 271 uri → IsReadyNode n
    → all_of is_in_limit value ≡ true → IsReadyFound (found_node uri n value)
found_at_ready uri n value u is few = record {
  uri = u;
  format = is.format;
  media = found_media n n.interior is.media;
  value = few;
}

listed_short : (n : Node) (b : Bool) → IsReadyNode n → all_of is_in_limit (cond b (Some n.value.bytes) None) ≡ true
listed_short n true is = let few = is.bytes in short_value n.value.bytes (omega (arith, few))
listed_short n false is = refl

wider : (t : List ℕ) → IsText 255 t → IsText 271 t
wider t is = let few = is.few in record { text = is.text; few = omega (arith, few) }

listed_ready : (m : Nodes) (with_values : Bool) (p : Path) → IsDevice m → is_good_path p ≡ true
    → IsReadyFound (listed m with_values p)
listed_ready m with_values p device good =
    let parts = and_parts (list_all has_name_form p) (is_within_limits p) good in
    let n = at_ready m p device in
    found_at_ready (printed_path p) (node_at m p) _ (wider (printed_path p) (printed_path_text p parts.0 parts.1)) n
    (listed_short (node_at m p) (with_values && not (node_at m p).interior) n)

all_listed : (m : Nodes) (with_values : Bool) (ps : List Path) → IsDevice m → list_all is_good_path ps ≡ true
    → AllByRecursion IsReadyFound (map (listed m with_values) ps)
all_listed m with_values [] device h = tt
all_listed m with_values (p ∷ ps) device h =
    let parts = and_parts (is_good_path p) (list_all is_good_path ps) h in
    (listed_ready m with_values p device parts.0, all_listed m with_values ps device parts.1)

shown_good : (s : Setting) (m : Nodes) (top : Path) → IsDevice m → list_all is_good_path (shown_below s m top) ≡ true
shown_good s m top device =
    filtered is_good_path (is_shown s m top) (below m top)
    (filtered is_good_path (λ q. is_below top q) (keys m) (keys_good m device.formed))

pub found_ready : (s : Setting) (m : Nodes) (text : List ℕ) (uri : Uri) (q : Query) → IsDevice m
    → parse_of text ≡ Ok uri → AllByRecursion IsReadyFound (found_by s m uri q)
found_ready s m text uri query.Plain device e = (
  found_at_ready (printed uri) (node_at m uri.path) _ (parsed_printed text uri e) (at_ready m uri.path device)
      (node_short m uri.path device),
  tt,
)
found_ready s m text uri (query.Prop q) device e =
    let n = at_ready m uri.path device in (
      record {
        uri = parsed_printed text uri e;
        format = prop_word q;
        media = tt;
        value = short_value (prop_value uri.path (node_at m uri.path) q)
            (prop_short uri.path (node_at m uri.path) q (parsed_within text uri e) n);
      },
      tt,
    )
found_ready s m text uri query.Struct device e =
    all_listed m false (shown_below s m uri.path) device (shown_good s m uri.path device)
found_ready s m text uri query.StructData device e =
    all_listed m true (shown_below s m uri.path) device (shown_good s m uri.path device)
