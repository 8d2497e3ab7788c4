-- A spelling that isn't long has no long text and no long Data.
use Rattle.std.proofs.Common.{◌≡◌, ◌≤◌, ◌<◌, ◌+◌, ◌&&◌, ℕ, Bool, true, false, if◌then◌else◌, List, [], ◌∷◌, ◌++◌}
use Rattle.std.proofs.Common.{length, Option, Some, None, nat_lt, nat_le, refl, sym, ap, ◌∙◌, length-append, arith}
use Rattle.std.specs.List.{list_all, flat_map}
use Rattle.std.specs.Fmt.{decimal}
use Rattle.std.proofs.lemmas.Bool.{and_parts}
use Rattle.std.proofs.lemmas.List.Folds.{list_all-append}
use Rattle.wbxml_ints.specs.Multibyte.{shortest}
use Rattle.wbxml_tables.specs.declared.Element.{Element}
use Rattle.wbxml_tables.specs.declared.Element.TheVariants.{EMeta, EItem, ESyncBody}
use Rattle.wbxml_tokens.specs.declared.token.Token.{Token}
use Rattle.wbxml_tokens.specs.declared.token.Token.TheVariants.{Tag, End, Text, Opaque}
use Rattle.wbxml_tokens.specs.Spelling.{token_bytes, page_after, spelled}
use Rattle.syncml_types.specs.declared.values.Loc.{Loc}
use Rattle.syncml_types.specs.declared.values.Meta.{Meta}
use Rattle.syncml_types.specs.declared.values.Item.{Item}
use Rattle.syncml_types.specs.declared.values.Cred.{Cred}
use Rattle.syncml_types.specs.declared.values.Header.{Header}
use Rattle.syncml_types.specs.declared.command.Plain.{Plain}
use Rattle.syncml_types.specs.declared.command.AlertCmd.{AlertCmd}
use Rattle.syncml_types.specs.declared.command.Member.{Member}
use Rattle.syncml_types.specs.declared.command.Member.TheVariants as member
use Rattle.syncml_types.specs.declared.command.Block.{Block}
use Rattle.syncml_types.specs.declared.command.SeqMember.{SeqMember}
use Rattle.syncml_types.specs.declared.command.SeqMember.TheVariants as seq_member
use Rattle.syncml_types.specs.declared.command.StatusCmd.{StatusCmd}
use Rattle.syncml_types.specs.declared.command.ResultsCmd.{ResultsCmd}
use Rattle.syncml_types.specs.declared.command.Command.{Command}
use Rattle.syncml_types.specs.declared.command.Command.TheVariants as command
use Rattle.syncml_types.specs.Message.{Parts}
use Rattle.syncml_types.specs.Canonical.{parent_tokens, element_tokens, text_tokens, is_text, data_piece, data_tokens}
use Rattle.syncml_types.specs.Canonical.{number_tokens, flag_tokens, optional, loc_tokens, meta_children, meta_tokens}
use Rattle.syncml_types.specs.Canonical.{item_children, item_tokens, items_tokens, texts_tokens, cred_tokens}
use Rattle.syncml_types.specs.Canonical.{chal_tokens, header_tokens, verb_element, plain_tokens, alert_tokens}
use Rattle.syncml_types.specs.Canonical.{member_tokens, members_tokens, atomic_tokens, seq_member_tokens}
use Rattle.syncml_types.specs.Canonical.{seq_members_tokens, sequence_tokens, status_tokens, results_tokens}
use Rattle.syncml_types.specs.Canonical.{command_tokens, commands_tokens, body_children, body_tokens, message_tokens}
use Rattle.syncml_types.specs.Canonical.{canonical}
use Rattle.syncml_types.specs.Fitness.{all_of, is_in_limit, loc_texts, meta_texts, item_texts, cred_texts, header_texts}
use Rattle.syncml_types.specs.Fitness.{plain_texts, alert_texts, member_texts, atomic_texts, seq_member_texts}
use Rattle.syncml_types.specs.Fitness.{sequence_texts, status_texts, results_texts, command_texts, message_texts}
use Rattle.syncml_types.specs.Fitness.{item_data, header_data, member_data, seq_member_data, command_data, message_data}

is_short_piece : Token → Bool
is_short_piece (Tag e content) = true
is_short_piece End = true
is_short_piece (Text text) = is_in_limit text
is_short_piece (Opaque bytes) = is_in_limit bytes

record AreShort (ts : List Token) : Type 0 where
  holds : list_all is_short_piece ts ≡ true

-- ---- in a spelling of at most 65,536 bytes

short_where : (bytes : List ℕ) → length bytes ≤ 65536 → is_in_limit bytes ≡ true
short_where bytes h = grind arith

both : {a b : Bool} → a ≡ true → b ≡ true → (a && b) ≡ true
both p q = cc

piece_short : (page : ℕ) (t : Token) → length (token_bytes page t) ≤ 65536 → is_short_piece t ≡ true
unfolding is_short_piece
piece_short page (Tag e content) h = refl
piece_short page End h = refl
piece_short page (Text text) h = short_where text (omega (arith, h, length-append text (0 ∷ [])))
piece_short page (Opaque bytes) h = short_where bytes (omega (arith, h, length-append (shortest (length bytes)) bytes))

short_spelled : (page : ℕ) (ts : List Token) → length (spelled page ts) ≤ 65536 → AreShort ts
short_spelled page [] h = record { holds = refl }
short_spelled page (t ∷ ts) h =
    let sum = length-append (token_bytes page t) (spelled (page_after page t) ts) in
    let more = short_spelled (page_after page t) ts (omega (arith, h, sum)) in
    record { holds = both (piece_short page t (omega (arith, h, sum))) more.holds }

-- ---- what short pieces say of their list

parted : (ts us : List Token) → AreShort (ts ++ us) → AreShort ts × AreShort us
parted ts us h =
    let parts =
    and_parts (list_all is_short_piece ts) (list_all is_short_piece us)
    (sym (list_all-append is_short_piece ts us) ∙ h.holds) in
    (record { holds = parts.0 }, record { holds = parts.1 })

-- both parts of a list, or one of them
join : {ts us : List Token} {x y : Bool} → (AreShort ts → x ≡ true) → (AreShort us → y ≡ true) → AreShort (ts ++ us)
    → (x && y) ≡ true
join {ts = ts} {us = us} f g h = let parts = parted ts us h in both (f parts.0) (g parts.1)

front : {ts : List Token} (us : List Token) {x : Bool} → (AreShort ts → x ≡ true) → AreShort (ts ++ us) → x ≡ true
front {ts = ts} us f h = f (parted ts us h).0

back : (ts : List Token) {us : List Token} {x : Bool} → (AreShort us → x ≡ true) → AreShort (ts ++ us) → x ≡ true
back ts {us = us} f h = f (parted ts us h).1

inside : (e : Element) {ts : List Token} {x : Bool} → (AreShort ts → x ≡ true) → AreShort (parent_tokens e ts)
    → x ≡ true
unfolding is_short_piece
inside e {ts = ts} f h = front {ts = ts} (End ∷ []) f (record { holds = h.holds })

inside_any : (e : Element) (ts : List Token) {x : Bool} → (AreShort ts → x ≡ true) → AreShort (element_tokens e ts)
    → x ≡ true
inside_any e [] f h = f (record { holds = refl })
inside_any e (t ∷ ts) f h = inside e {ts = t ∷ ts} f h

each : {A : Type 0} (tokens : A → List Token) (test : A → Bool) → ((x : A) → AreShort (tokens x) → test x ≡ true)
    → (xs : List A) → AreShort (flat_map tokens xs) → list_all test xs ≡ true
each tokens test one [] h = refl
each tokens test one (x ∷ xs) h = join {ts = tokens x} {us = flat_map tokens xs} (one x) (each tokens test one xs) h

where_some : {A : Type 0} (tokens : A → List Token) (test : A → Bool) → ((x : A) → AreShort (tokens x) → test x ≡ true)
    → (o : Option A) → AreShort (optional tokens o) → all_of test o ≡ true
where_some tokens test one None h = refl
where_some tokens test one (Some x) h = one x h

-- ---- texts

text : (e : Element) (t : List ℕ) → AreShort (text_tokens e t) → is_in_limit t ≡ true
unfolding text_tokens is_short_piece
text e [] h = refl
text e (b ∷ bs) h = (and_parts (is_in_limit (b ∷ bs)) true h.holds).0

option_text : (e : Element) (o : Option (List ℕ)) → AreShort (optional (text_tokens e) o) → all_of is_in_limit o ≡ true
option_text e o h = where_some (text_tokens e) is_in_limit (text e) o h

loc : (e : Element) (l : Loc) → AreShort (loc_tokens e l) → loc_texts is_in_limit l ≡ true
unfolding loc_tokens loc_texts
loc e l h = inside _ (join (text _ l.uri) (option_text _ l.name)) h

option_loc : (e : Element) (o : Option Loc) → AreShort (optional (loc_tokens e) o)
    → all_of (loc_texts is_in_limit) o ≡ true
option_loc e o h = where_some (loc_tokens e) (loc_texts is_in_limit) (loc e) o h

meta : (m : Meta) → AreShort (meta_tokens m) → meta_texts is_in_limit m ≡ true
unfolding meta_tokens meta_texts
meta m h =
    inside_any _ (meta_children m)
    (join
    (join
    (front _
    (front _ (join (front _ (join (option_text _ m.format) (option_text _ m.media))) (option_text _ m.next_nonce))))
    (option_text _ m.mark)) (option_text _ m.version))
    h

option_meta : (o : Option Meta) → AreShort (optional meta_tokens o) → all_of (meta_texts is_in_limit) o ≡ true
option_meta o h = where_some meta_tokens (meta_texts is_in_limit) meta o h

item : (i : Item) → AreShort (item_tokens i) → item_texts is_in_limit i ≡ true
unfolding item_tokens item_texts
item i h =
    inside_any _ (item_children i)
    (front _ (front _ (join (join (option_loc _ i.target) (option_loc _ i.source)) (option_meta i.meta))))
    h

items : (is : List Item) → AreShort (items_tokens is) → list_all (item_texts is_in_limit) is ≡ true
unfolding items_tokens
items is h = each item_tokens (item_texts is_in_limit) item is h

texts : (e : Element) (ts : List (List ℕ)) → AreShort (texts_tokens e ts) → list_all is_in_limit ts ≡ true
unfolding texts_tokens
texts e ts h = each (text_tokens e) is_in_limit (text e) ts h

cred : (c : Cred) → AreShort (cred_tokens c) → cred_texts is_in_limit c ≡ true
unfolding cred_tokens cred_texts
cred c h = inside _ (front _ (option_meta c.meta)) h

chal : (m : Meta) → AreShort (chal_tokens m) → meta_texts is_in_limit m ≡ true
unfolding chal_tokens
chal m h = inside _ (meta m) h

header : (h : Header) → AreShort (header_tokens h) → header_texts is_in_limit h ≡ true
unfolding header_tokens header_texts
header h s =
    inside _
    (join
    (join
    (front _
    (join (join (join (front _ (join (join (text _ h.dtd) (text _ h.proto)) (text _ h.session))) (loc _ h.target))
    (loc _ h.source)) (option_text _ h.resp_uri)))
    (where_some cred_tokens (cred_texts is_in_limit) cred h.cred)) (option_meta h.meta))
    s

plain : (c : Plain) → AreShort (plain_tokens c) → plain_texts is_in_limit c ≡ true
unfolding plain_tokens plain_texts
plain c h = inside _ (join (join (back _ (option_meta c.meta)) (option_text _ c.correlator)) (items c.items)) h

alert : (c : AlertCmd) → AreShort (alert_tokens c) → alert_texts is_in_limit c ≡ true
unfolding alert_tokens alert_texts
alert c h = inside _ (join (back _ (option_text _ c.correlator)) (items c.items)) h

member_pieces : (m : Member) → AreShort (member_tokens m) → member_texts is_in_limit m ≡ true
unfolding member_tokens member_texts
member_pieces (member.One c) h = plain c h
member_pieces (member.Alert c) h = alert c h

members : (ms : List Member) → AreShort (members_tokens ms) → list_all (member_texts is_in_limit) ms ≡ true
unfolding members_tokens
members ms h = each member_tokens (member_texts is_in_limit) member_pieces ms h

atomic : (b : Block Member) → AreShort (atomic_tokens b) → atomic_texts is_in_limit b ≡ true
unfolding atomic_tokens atomic_texts
atomic b h = inside _ (join (back _ (option_meta b.meta)) (members b.members)) h

seq_member_pieces : (m : SeqMember) → AreShort (seq_member_tokens m) → seq_member_texts is_in_limit m ≡ true
unfolding seq_member_tokens seq_member_texts
seq_member_pieces (seq_member.Single m) h = member_pieces m h
seq_member_pieces (seq_member.Atomic b) h = atomic b h

seq_members : (ms : List SeqMember) → AreShort (seq_members_tokens ms)
    → list_all (seq_member_texts is_in_limit) ms ≡ true
unfolding seq_members_tokens
seq_members ms h = each seq_member_tokens (seq_member_texts is_in_limit) seq_member_pieces ms h

sequence : (b : Block SeqMember) → AreShort (sequence_tokens b) → sequence_texts is_in_limit b ≡ true
unfolding sequence_tokens sequence_texts
sequence b h = inside _ (join (back _ (option_meta b.meta)) (seq_members b.members)) h

status : (c : StatusCmd) → AreShort (status_tokens c) → status_texts is_in_limit c ≡ true
unfolding status_tokens status_texts
status c h =
    inside _
    (join
    (front _ (join (join (join (back _ (text _ c.cmd)) (texts _ c.target_refs)) (texts _ c.source_refs))
    (where_some chal_tokens (meta_texts is_in_limit) chal c.chal))) (items c.items))
    h

results : (c : ResultsCmd) → AreShort (results_tokens c) → results_texts is_in_limit c ≡ true
unfolding results_tokens results_texts
results c h =
    inside _
    (join (join (join (back _ (option_meta c.meta)) (option_text _ c.target_ref)) (option_text _ c.source_ref))
    (items c.items))
    h

command_pieces : (c : Command) → AreShort (command_tokens c) → command_texts is_in_limit c ≡ true
unfolding command_tokens command_texts
command_pieces (command.Plain c) h = plain c h
command_pieces (command.Alert c) h = alert c h
command_pieces (command.Atomic b) h = atomic b h
command_pieces (command.Sequence b) h = sequence b h
command_pieces (command.Status c) h = status c h
command_pieces (command.Results c) h = results c h

-- ---- Data

piece_data : (as_text : Bool) (bytes : List ℕ) → is_short_piece (if as_text then Text bytes else Opaque bytes) ≡ true
    → is_in_limit bytes ≡ true
unfolding is_short_piece
piece_data true bytes h = h
piece_data false bytes h = h

data_pieces : (bytes : List ℕ) → AreShort (data_tokens bytes) → is_in_limit bytes ≡ true
unfolding data_tokens is_short_piece
data_pieces [] h = refl
data_pieces (b ∷ bs) h =
    piece_data (is_text (b ∷ bs)) (b ∷ bs) (and_parts (is_short_piece (data_piece (b ∷ bs))) true h.holds).0

item_value : (i : Item) → AreShort (item_tokens i) → item_data is_in_limit i ≡ true
unfolding item_tokens item_data
item_value i h =
    inside_any _ (item_children i) (front _ (back _ (where_some data_tokens is_in_limit data_pieces i.value))) h

items_value : (is : List Item) → AreShort (items_tokens is) → list_all (item_data is_in_limit) is ≡ true
unfolding items_tokens
items_value is h = each item_tokens (item_data is_in_limit) item_value is h

cred_value : (c : Cred) → AreShort (cred_tokens c) → is_in_limit c.value ≡ true
unfolding cred_tokens
cred_value c h = inside _ (back _ (data_pieces c.value)) h

header_value : (h : Header) → AreShort (header_tokens h) → header_data is_in_limit h ≡ true
unfolding header_tokens header_data
header_value h s =
    inside _ (front _ (back _ (where_some cred_tokens (λ (c : Cred). is_in_limit c.value) cred_value h.cred))) s

plain_value : (c : Plain) → AreShort (plain_tokens c) → list_all (item_data is_in_limit) c.items ≡ true
unfolding plain_tokens
plain_value c h = inside _ (back _ (items_value c.items)) h

alert_value : (c : AlertCmd) → AreShort (alert_tokens c) → list_all (item_data is_in_limit) c.items ≡ true
unfolding alert_tokens
alert_value c h = inside _ (back _ (items_value c.items)) h

member_value : (m : Member) → AreShort (member_tokens m) → member_data is_in_limit m ≡ true
unfolding member_tokens member_data
member_value (member.One c) h = plain_value c h
member_value (member.Alert c) h = alert_value c h

members_value : (ms : List Member) → AreShort (members_tokens ms) → list_all (member_data is_in_limit) ms ≡ true
unfolding members_tokens
members_value ms h = each member_tokens (member_data is_in_limit) member_value ms h

atomic_value : (b : Block Member) → AreShort (atomic_tokens b) → list_all (member_data is_in_limit) b.members ≡ true
unfolding atomic_tokens
atomic_value b h = inside _ (back _ (members_value b.members)) h

seq_member_value : (m : SeqMember) → AreShort (seq_member_tokens m) → seq_member_data is_in_limit m ≡ true
unfolding seq_member_tokens seq_member_data
seq_member_value (seq_member.Single m) h = member_value m h
seq_member_value (seq_member.Atomic b) h = atomic_value b h

sequence_value : (b : Block SeqMember) → AreShort (sequence_tokens b)
    → list_all (seq_member_data is_in_limit) b.members ≡ true
unfolding sequence_tokens seq_members_tokens
sequence_value b h =
    inside _ (back _ (each seq_member_tokens (seq_member_data is_in_limit) seq_member_value b.members)) h

status_value : (c : StatusCmd) → AreShort (status_tokens c) → list_all (item_data is_in_limit) c.items ≡ true
unfolding status_tokens
status_value c h = inside _ (back _ (items_value c.items)) h

results_value : (c : ResultsCmd) → AreShort (results_tokens c) → list_all (item_data is_in_limit) c.items ≡ true
unfolding results_tokens
results_value c h = inside _ (back _ (items_value c.items)) h

command_value : (c : Command) → AreShort (command_tokens c) → command_data is_in_limit c ≡ true
unfolding command_tokens command_data
command_value (command.Plain c) h = plain_value c h
command_value (command.Alert c) h = alert_value c h
command_value (command.Atomic b) h = atomic_value b h
command_value (command.Sequence b) h = sequence_value b h
command_value (command.Status c) h = status_value c h
command_value (command.Results c) h = results_value c h

-- ---- a message

body_pieces : {test : Command → Bool} → ((c : Command) → AreShort (command_tokens c) → test c ≡ true)
    → (body : List Command) (last : Bool) → AreShort (body_tokens body last) → list_all test body ≡ true
unfolding body_tokens commands_tokens
body_pieces {test = test} one body last h =
    inside_any _ (body_children body last) (front _ (each command_tokens test one body)) h

short_message : (m : Parts) → length (canonical m) ≤ 65536 → AreShort (message_tokens m)
unfolding canonical
short_message m h = short_spelled 0 (message_tokens m) (omega (arith, h))

pub texts_short : (m : Parts) → length (canonical m) ≤ 65536 → message_texts is_in_limit m.header m.body ≡ true
unfolding message_tokens
texts_short m h = inside _ (join (header m.header) (body_pieces command_pieces m.body m.last)) (short_message m h)

pub data_short : (m : Parts) → length (canonical m) ≤ 65536 → message_data is_in_limit m.header m.body ≡ true
unfolding message_tokens
data_short m h = inside _ (join (header_value m.header) (body_pieces command_value m.body m.last)) (short_message m h)
