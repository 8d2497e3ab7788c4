-- What is read of tokens has each number in the range of its type.
use Rattle.std.specs.Prelude.{◌≡◌, ◌<◌, ◌+◌, ◌*◌, ◌-◌, ◌^◌, ◌==◌, ◌&&◌, ℕ, ⊤, Bool, true, false, not, nat_le, nat_lt}
use Rattle.std.specs.Prelude.{if◌then◌else◌, List, [], ◌∷◌, ◌++◌, Option, Some, None, IfSome, Result, Ok, Err, refl}
use Rattle.std.proofs.Common.{ap, subst, arith}
use Rattle.std.proofs.lemmas.Bool.{and_parts, leb-true, ltb-true}
use Rattle.std.specs.List.{AllByRecursion}
use Rattle.wbxml_tables.specs.declared.Element.{Element}
use Rattle.wbxml_tables.specs.declared.Element.TheVariants.{ECmd, ECmdID, ECmdRef, EData, EFormat, EMark, EMaxMsgSize}
use Rattle.wbxml_tables.specs.declared.Element.TheVariants.{EMsgRef, ENextNonce, ERespURI, ESessionID, ESize}
use Rattle.wbxml_tables.specs.declared.Element.TheVariants.{ESourceRef, ETarget, ETargetRef, EType, EVerDTD, EVerProto}
use Rattle.wbxml_tables.specs.declared.Element.TheVariants.{EVersion}
use Rattle.wbxml_tokens.specs.declared.reason.Reason.{Reason}
use Rattle.wbxml_tokens.specs.declared.token.Token.{Token}
use Rattle.wbxml_tokens.specs.declared.reason.Reason.TheVariants.{Misplaced}
use Rattle.wbxml_tokens.specs.declared.reason.Reason.TheVariants as reasons
use Rattle.syncml_shape.specs.declared.rows.Kind.{Kind}
use Rattle.syncml_shape.specs.declared.rows.Kind.TheVariants as kinds
use Rattle.syncml_shape.specs.Forest.{Forest, nothing, text, opaque, bare, full}
use Rattle.syncml_shape.specs.Rows.{Content, document, start, next_child}
use Rattle.syncml_types.specs.declared.values.Loc.{Loc}
use Rattle.syncml_types.specs.declared.values.Meta.{Meta}
use Rattle.syncml_types.specs.declared.values.Item.{Item}
use Rattle.syncml_types.specs.declared.values.Cred.{Cred}
use Rattle.syncml_types.specs.declared.values.Header.{Header}
use Rattle.syncml_types.specs.declared.command.Plain.{Plain}
use Rattle.syncml_types.specs.declared.command.AlertCmd.{AlertCmd}
use Rattle.syncml_types.specs.declared.command.Member.TheVariants as member
use Rattle.syncml_types.specs.declared.command.Member.{Member}
use Rattle.syncml_types.specs.declared.command.SeqMember.{SeqMember}
use Rattle.syncml_types.specs.declared.command.Block.{Block}
use Rattle.syncml_types.specs.declared.command.SeqMember.TheVariants as seq_member
use Rattle.syncml_types.specs.declared.command.StatusCmd.{StatusCmd}
use Rattle.syncml_types.specs.declared.command.ResultsCmd.{ResultsCmd}
use Rattle.syncml_types.specs.declared.command.Command.TheVariants as command
use Rattle.syncml_types.specs.Message.{Parts}
use Rattle.syncml_types.specs.Canonical.{is_text}
use Rattle.syncml_grammar.specs.declared.digits.Digits.{Digits}
use Rattle.syncml_grammar.specs.declared.digits.Digits.TheVariants.{Start, Number, Bad}
use Rattle.syncml_grammar.specs.declared.leaf.Leaf.{Leaf}
use Rattle.syncml_grammar.specs.declared.leaf.Leaf.TheVariants as leaves
use Rattle.syncml_grammar.specs.declared.leaf.Simple.{Simple}
use Rattle.syncml_grammar.specs.declared.leaf.Simple.TheVariants as simples
use Rattle.syncml_grammar.specs.declared.draft.BodyDraft.{BodyDraft}
use Rattle.syncml_grammar.specs.declared.draft.MessageDraft.{MessageDraft}
use Rattle.syncml_grammar.specs.declared.draft.Draft.{Draft}
use Rattle.syncml_grammar.specs.declared.draft.Draft.TheVariants as draft
use Rattle.syncml_grammar.specs.Numbers.{is_digit, longer, with_digit, digit_after, digits_after, number_in}
use Rattle.syncml_grammar.specs.Leaves.{fresh_leaf, with_piece, short_number, ranged, closed_text, closed_number}
use Rattle.syncml_grammar.specs.Leaves.{closed_leaf}
use Rattle.syncml_grammar.specs.Drafts.{fresh_draft}
use Rattle.syncml_grammar.specs.Simples.{meta_with_text, header_with_text, status_with_text, results_with_text}
use Rattle.syncml_grammar.specs.Simples.{alert_with_number, status_with_number, results_with_number, meta_with_size}
use Rattle.syncml_grammar.specs.Simples.{with_short, with_long, with_flag, with_simple}
use Rattle.syncml_grammar.specs.Simples.{with_text as with_simple_text}
use Rattle.syncml_grammar.specs.Nodes.{header_with_loc, item_with_loc, with_inner}
use Rattle.syncml_grammar.specs.Values.{Value, of_leaf, of_draft, EndedElement, simple, node, holds_leaf, fresh_value}
use Rattle.syncml_grammar.specs.Values.{with_text}
use Rattle.syncml_grammar.specs.Values.{simply, closed_value, with_child}
use Rattle.syncml_grammar.specs.Reads.{Unread, ◌then◌, at_place, read, parts_from, parts_held, SpellsParts}
use Rattle.syncml_codec.specs.Ranges.{IsShortNumber, IsLongNumber, MetaRange, ItemRange, CredRange, HeaderRange}
use Rattle.syncml_codec.specs.Ranges.{PlainRange}
use Rattle.syncml_codec.specs.Ranges.{AlertRange, MemberRange, AtomicRange, SeqMemberRange, SequenceRange, StatusRange}
use Rattle.syncml_codec.specs.Ranges.{ResultsRange, CommandRange, AreNumbers}
use Rattle.syncml_codec.specs.Laws.{SpelledIsInRange}

-- ---- what elements hold

abbrev DraftRange : Draft → Type 0
DraftRange draft.Document = ⊤
DraftRange (draft.Message m) = IfSome m.header HeaderRange × AllByRecursion CommandRange m.body
DraftRange (draft.Header h) = HeaderRange h
DraftRange (draft.Body b) = AllByRecursion CommandRange b.commands
DraftRange (draft.Plain c) = PlainRange c
DraftRange (draft.Alert c) = AlertRange c
DraftRange (draft.Atomic b) = AtomicRange b
DraftRange (draft.Sequence b) = SequenceRange b
DraftRange (draft.Status c) = StatusRange c
DraftRange (draft.Results c) = ResultsRange c
DraftRange (draft.Item item) = ItemRange item
DraftRange (draft.Loc loc) = ⊤
DraftRange (draft.Cred cred) = CredRange cred
DraftRange (draft.Chal meta) = MetaRange meta
DraftRange (draft.Meta meta) = MetaRange meta

abbrev SimpleRange : Simple → Type 0
SimpleRange (simples.Text bytes) = ⊤
SimpleRange (simples.Short n) = IsShortNumber n
SimpleRange (simples.Long n) = IsLongNumber n
SimpleRange simples.Flag = ⊤

abbrev WholeRange : EndedElement → Type 0
WholeRange (simple s) = SimpleRange s
WholeRange (node d) = DraftRange d

abbrev DigitsRange : Digits → Type 0
DigitsRange Start = ⊤
DigitsRange (Number n) = IsLongNumber n
DigitsRange Bad = ⊤

abbrev LeafRange : Leaf → Type 0
LeafRange (leaves.Text bytes) = ⊤
LeafRange (leaves.Number digits) = DigitsRange digits
LeafRange leaves.Flag = ⊤

abbrev ValueRange : Value → Type 0
ValueRange (of_leaf leaf) = LeafRange leaf
ValueRange (of_draft d) = DraftRange d

-- ---- numbers

longer_range : (n digit : ℕ) → DigitsRange (longer n digit)
longer_range n digit =
    elim (not (n == 0) && nat_lt (n * 10 + digit) (2 ^ 64))
    as (λ (b : Bool). (not (n == 0) && nat_lt (n * 10 + digit) (2 ^ 64)) ≡ b
    → DigitsRange (if b then Number (n * 10 + digit) else Bad)) [
      | true ↦ λ is.
          ltb-true (n * 10 + digit) (2 ^ 64) (and_parts (not (n == 0)) (nat_lt (n * 10 + digit) (2 ^ 64)) is).1
      | false ↦ λ is. tt
    ] refl

digit_range : (d : Digits) (digit : ℕ) → digit < 10 → DigitsRange (with_digit d digit)
digit_range Start digit low = omega (arith, low)
digit_range (Number n) digit low = longer_range n digit
digit_range Bad digit low = tt

byte_range : (d : Digits) (byte : ℕ) → DigitsRange (digit_after d byte)
byte_range d byte =
    elim (is_digit byte)
    as (λ (b : Bool). is_digit byte ≡ b → DigitsRange (if b then with_digit d (byte - 48) else Bad)) [
      | true ↦ λ is.
          let most = leb-true byte 57 (and_parts (nat_le 48 byte) (nat_le byte 57) is).1 in
          digit_range d (byte - 48) (omega (arith, most))
      | false ↦ λ is. tt
    ] refl

digits_range : (d : Digits) (bytes : List ℕ) → DigitsRange d → DigitsRange (digits_after d bytes)
digits_range d [] h = h
digits_range d (b ∷ bytes) h = digits_range (digit_after d b) bytes (byte_range d b)

piece_range : (leaf : Leaf) (bytes : List ℕ) → LeafRange leaf → LeafRange (with_piece leaf bytes)
piece_range (leaves.Text front) bytes h = tt
piece_range (leaves.Number digits) bytes h = digits_range digits bytes h
piece_range leaves.Flag bytes h = tt

same_simple : (s t : Simple) → ◌≡◌ {A = Result Simple Reason} (Ok s) (Ok t) → s ≡ t
same_simple s t e = cc

short_range : (least n : ℕ) (s : Simple) → short_number least n ≡ Ok s → SimpleRange s
short_range least n s h =
    elim (nat_le least n && nat_le n 4294967295) as (λ (b : Bool). (nat_le least n && nat_le n 4294967295) ≡ b
    → (if b then Ok (simples.Short n) else Err reasons.Number) ≡ Ok s → SimpleRange s) [
      | true ↦ λ is e.
          let most = leb-true n 4294967295 (and_parts (nat_le least n) (nat_le n 4294967295) is).1 in
          subst SimpleRange (same_simple (simples.Short n) s e) (omega (arith, most))
      | false ↦ λ is e. cc
    ] refl h

ranged_range : (k : Kind) (n : ℕ) (s : Simple) → IsLongNumber n → ranged k n ≡ Ok s → SimpleRange s
ranged_range kinds.Size n s long h = subst SimpleRange (same_simple (simples.Long n) s h) long
ranged_range kinds.Id n s long h = short_range 1 n s h
ranged_range _ n s long h = short_range 0 n s h

number_range : (k : Kind) (d : Digits) (s : Simple) → DigitsRange d → closed_number k (number_in d) ≡ Ok s
    → SimpleRange s
number_range k Start s range h = cc
number_range k (Number n) s range h = ranged_range k n s range h
number_range k Bad s range h = cc

tested_range : (b : Bool) (bytes : List ℕ) (s : Simple)
    → (if b then Ok (simples.Text bytes) else Err reasons.Text) ≡ Ok s → SimpleRange s
tested_range true bytes s h = subst SimpleRange (same_simple (simples.Text bytes) s h) tt
tested_range false bytes s h = cc

text_range : (k : Kind) (bytes : List ℕ) (s : Simple) → closed_text k bytes ≡ Ok s → SimpleRange s
text_range kinds.Bytes bytes s h = subst SimpleRange (same_simple (simples.Text bytes) s h) tt
text_range _ bytes s h = tested_range (is_text bytes) bytes s h

leaf_range : (k : Kind) (leaf : Leaf) (s : Simple) → LeafRange leaf → closed_leaf k leaf ≡ Ok s → SimpleRange s
leaf_range k (leaves.Text bytes) s range h = text_range k bytes s h
leaf_range k (leaves.Number digits) s range h = number_range k digits s range h
leaf_range k leaves.Flag s range h = subst SimpleRange (same_simple simples.Flag s h) tt

-- ---- a child without children

meta_text : (meta : Meta) (e : Element) (bytes : List ℕ) → MetaRange meta → MetaRange (meta_with_text meta e bytes)
meta_text meta EFormat bytes r = record { size = r.size; max_msg = r.max_msg; max_obj = r.max_obj }
meta_text meta EType bytes r = record { size = r.size; max_msg = r.max_msg; max_obj = r.max_obj }
meta_text meta ENextNonce bytes r = record { size = r.size; max_msg = r.max_msg; max_obj = r.max_obj }
meta_text meta EMark bytes r = record { size = r.size; max_msg = r.max_msg; max_obj = r.max_obj }
meta_text meta EVersion bytes r = record { size = r.size; max_msg = r.max_msg; max_obj = r.max_obj }
meta_text meta _ bytes r = r

header_text : (h : Header) (e : Element) (bytes : List ℕ) → HeaderRange h → HeaderRange (header_with_text h e bytes)
header_text h EVerDTD bytes r = record { msg = r.msg; cred = r.cred; meta = r.meta }
header_text h EVerProto bytes r = record { msg = r.msg; cred = r.cred; meta = r.meta }
header_text h ESessionID bytes r = record { msg = r.msg; cred = r.cred; meta = r.meta }
header_text h ERespURI bytes r = record { msg = r.msg; cred = r.cred; meta = r.meta }
header_text h _ bytes r = r

status_text : (c : StatusCmd) (e : Element) (bytes : List ℕ) → StatusRange c → StatusRange (status_with_text c e bytes)
status_text c ECmd bytes r =
    record { id = r.id; msg_ref = r.msg_ref; cmd_ref = r.cmd_ref; code = r.code; chal = r.chal; items = r.items }
status_text c ETargetRef bytes r =
    record { id = r.id; msg_ref = r.msg_ref; cmd_ref = r.cmd_ref; code = r.code; chal = r.chal; items = r.items }
status_text c ESourceRef bytes r =
    record { id = r.id; msg_ref = r.msg_ref; cmd_ref = r.cmd_ref; code = r.code; chal = r.chal; items = r.items }
status_text c _ bytes r = r

results_text : (c : ResultsCmd) (e : Element) (bytes : List ℕ) → ResultsRange c
    → ResultsRange (results_with_text c e bytes)
results_text c ETargetRef bytes r =
    record { id = r.id; msg_ref = r.msg_ref; cmd_ref = r.cmd_ref; meta = r.meta; items = r.items }
results_text c ESourceRef bytes r =
    record { id = r.id; msg_ref = r.msg_ref; cmd_ref = r.cmd_ref; meta = r.meta; items = r.items }
results_text c _ bytes r = r

draft_text : (d : Draft) (e : Element) (bytes : List ℕ) → DraftRange d → DraftRange (with_simple_text d e bytes)
draft_text (draft.Loc loc) e bytes r = tt
draft_text (draft.Meta meta) e bytes r = meta_text meta e bytes r
draft_text (draft.Header h) e bytes r = header_text h e bytes r
draft_text (draft.Status c) e bytes r = status_text c e bytes r
draft_text (draft.Results c) e bytes r = results_text c e bytes r
draft_text (draft.Item item) e bytes r = r
draft_text (draft.Cred cred) e bytes r = r
draft_text (draft.Plain c) e bytes r = record { id = r.id; meta = r.meta; items = r.items }
draft_text (draft.Alert c) e bytes r = record { id = r.id; code = r.code; items = r.items }
draft_text draft.Document e bytes r = r
draft_text (draft.Message m) e bytes r = r
draft_text (draft.Body b) e bytes r = r
draft_text (draft.Atomic b) e bytes r = r
draft_text (draft.Sequence b) e bytes r = r
draft_text (draft.Chal meta) e bytes r = r

alert_number : (c : AlertCmd) (e : Element) (n : ℕ) → IsShortNumber n → AlertRange c → AlertRange (alert_with_number c e n)
alert_number c EData n short r = record { id = r.id; code = short; items = r.items }
alert_number c _ n short r = record { id = short; code = r.code; items = r.items }

status_number : (c : StatusCmd) (e : Element) (n : ℕ) → IsShortNumber n → StatusRange c
    → StatusRange (status_with_number c e n)
status_number c ECmdID n short r =
    record { id = short; msg_ref = r.msg_ref; cmd_ref = r.cmd_ref; code = r.code; chal = r.chal; items = r.items }
status_number c EMsgRef n short r =
    record { id = r.id; msg_ref = short; cmd_ref = r.cmd_ref; code = r.code; chal = r.chal; items = r.items }
status_number c ECmdRef n short r =
    record { id = r.id; msg_ref = r.msg_ref; cmd_ref = short; code = r.code; chal = r.chal; items = r.items }
status_number c _ n short r =
    record { id = r.id; msg_ref = r.msg_ref; cmd_ref = r.cmd_ref; code = short; chal = r.chal; items = r.items }

results_number : (c : ResultsCmd) (e : Element) (n : ℕ) → IsShortNumber n → ResultsRange c
    → ResultsRange (results_with_number c e n)
results_number c ECmdID n short r =
    record { id = short; msg_ref = r.msg_ref; cmd_ref = r.cmd_ref; meta = r.meta; items = r.items }
results_number c EMsgRef n short r =
    record { id = r.id; msg_ref = short; cmd_ref = r.cmd_ref; meta = r.meta; items = r.items }
results_number c _ n short r =
    record { id = r.id; msg_ref = r.msg_ref; cmd_ref = short; meta = r.meta; items = r.items }

draft_short : (d : Draft) (e : Element) (n : ℕ) → IsShortNumber n → DraftRange d → DraftRange (with_short d e n)
draft_short (draft.Header h) e n short r = record { msg = short; cred = r.cred; meta = r.meta }
draft_short (draft.Plain c) e n short r = record { id = short; meta = r.meta; items = r.items }
draft_short (draft.Alert c) e n short r = alert_number c e n short r
draft_short (draft.Atomic b) e n short r = record { id = short; meta = r.meta; members = r.members }
draft_short (draft.Sequence b) e n short r = record { id = short; meta = r.meta; members = r.members }
draft_short (draft.Status c) e n short r = status_number c e n short r
draft_short (draft.Results c) e n short r = results_number c e n short r
draft_short draft.Document e n short r = r
draft_short (draft.Message m) e n short r = r
draft_short (draft.Body b) e n short r = r
draft_short (draft.Item item) e n short r = r
draft_short (draft.Loc loc) e n short r = r
draft_short (draft.Cred cred) e n short r = r
draft_short (draft.Chal meta) e n short r = r
draft_short (draft.Meta meta) e n short r = r

meta_size : (meta : Meta) (e : Element) (n : ℕ) → IsLongNumber n → MetaRange meta → MetaRange (meta_with_size meta e n)
meta_size meta ESize n long r = record { size = long; max_msg = r.max_msg; max_obj = r.max_obj }
meta_size meta EMaxMsgSize n long r = record { size = r.size; max_msg = long; max_obj = r.max_obj }
meta_size meta _ n long r = record { size = r.size; max_msg = r.max_msg; max_obj = long }

draft_long : (d : Draft) (e : Element) (n : ℕ) → IsLongNumber n → DraftRange d → DraftRange (with_long d e n)
draft_long (draft.Meta meta) e n long r = meta_size meta e n long r
draft_long draft.Document e n long r = r
draft_long (draft.Message m) e n long r = r
draft_long (draft.Header h) e n long r = r
draft_long (draft.Body b) e n long r = r
draft_long (draft.Plain c) e n long r = r
draft_long (draft.Alert c) e n long r = r
draft_long (draft.Atomic b) e n long r = r
draft_long (draft.Sequence b) e n long r = r
draft_long (draft.Status c) e n long r = r
draft_long (draft.Results c) e n long r = r
draft_long (draft.Item item) e n long r = r
draft_long (draft.Loc loc) e n long r = r
draft_long (draft.Cred cred) e n long r = r
draft_long (draft.Chal meta) e n long r = r

draft_flag : (d : Draft) → DraftRange d → DraftRange (with_flag d)
draft_flag (draft.Header h) r = record { msg = r.msg; cred = r.cred; meta = r.meta }
draft_flag (draft.Plain c) r = record { id = r.id; meta = r.meta; items = r.items }
draft_flag (draft.Alert c) r = record { id = r.id; code = r.code; items = r.items }
draft_flag (draft.Atomic b) r = record { id = r.id; meta = r.meta; members = r.members }
draft_flag (draft.Sequence b) r = record { id = r.id; meta = r.meta; members = r.members }
draft_flag (draft.Body b) r = r
draft_flag (draft.Item item) r = r
draft_flag draft.Document r = r
draft_flag (draft.Message m) r = r
draft_flag (draft.Status c) r = r
draft_flag (draft.Results c) r = r
draft_flag (draft.Loc loc) r = r
draft_flag (draft.Cred cred) r = r
draft_flag (draft.Chal meta) r = r
draft_flag (draft.Meta meta) r = r

draft_simple : (d : Draft) (e : Element) (s : Simple) → SimpleRange s → DraftRange d → DraftRange (with_simple d e s)
draft_simple d e (simples.Text bytes) s r = draft_text d e bytes r
draft_simple d e (simples.Short n) s r = draft_short d e n s r
draft_simple d e (simples.Long n) s r = draft_long d e n s r
draft_simple d e simples.Flag s r = draft_flag d r

-- ---- a child with children

one_more : {A : Type 0} (P : A → Type 0) (xs : List A) (x : A) → AllByRecursion P xs → P x
    → AllByRecursion P (xs ++ x ∷ [])
one_more P [] x all h = (h, tt)
one_more P (y ∷ xs) x all h = (all.0, one_more P xs x all.1 h)

header_loc : (h : Header) (e : Element) (loc : Loc) → HeaderRange h → HeaderRange (header_with_loc h e loc)
header_loc h ETarget loc r = record { msg = r.msg; cred = r.cred; meta = r.meta }
header_loc h _ loc r = record { msg = r.msg; cred = r.cred; meta = r.meta }

item_loc : (item : Item) (e : Element) (loc : Loc) → ItemRange item → ItemRange (item_with_loc item e loc)
item_loc item ETarget loc r = r
item_loc item _ loc r = r

-- a value that a child changes by its kind alone, and by no other child
message_node : (m : MessageDraft) (e : Element) (d : Draft) → DraftRange d → DraftRange (draft.Message m)
    → DraftRange (with_inner (draft.Message m) e d)
message_node m e (draft.Header h) c r = (c, r.1)
message_node m e (draft.Body b) c r = (r.0, c)
message_node m e _ c r = r

header_node : (h : Header) (e : Element) (d : Draft) → DraftRange d → HeaderRange h
    → DraftRange (with_inner (draft.Header h) e d)
header_node h e (draft.Loc loc) c r = header_loc h e loc r
header_node h e (draft.Cred cred) c r = record { msg = r.msg; cred = c; meta = r.meta }
header_node h e (draft.Meta meta) c r = record { msg = r.msg; cred = r.cred; meta = c }
header_node h e _ c r = r

body_node : (b : BodyDraft) (e : Element) (d : Draft) → DraftRange d → AllByRecursion CommandRange b.commands
    → DraftRange (with_inner (draft.Body b) e d)
body_node b e (draft.Plain x) c r = one_more CommandRange b.commands (command.Plain x) r c
body_node b e (draft.Alert x) c r = one_more CommandRange b.commands (command.Alert x) r c
body_node b e (draft.Atomic x) c r = one_more CommandRange b.commands (command.Atomic x) r c
body_node b e (draft.Sequence x) c r = one_more CommandRange b.commands (command.Sequence x) r c
body_node b e (draft.Status x) c r = one_more CommandRange b.commands (command.Status x) r c
body_node b e (draft.Results x) c r = one_more CommandRange b.commands (command.Results x) r c
body_node b e _ c r = r

plain_node : (p : Plain) (e : Element) (d : Draft) → DraftRange d → PlainRange p
    → DraftRange (with_inner (draft.Plain p) e d)
plain_node p e (draft.Meta meta) c r = record { id = r.id; meta = c; items = r.items }
plain_node p e (draft.Item item) c r =
    record { id = r.id; meta = r.meta; items = one_more ItemRange p.items item r.items c }
plain_node p e _ c r = r

alert_node : (a : AlertCmd) (e : Element) (d : Draft) → DraftRange d → AlertRange a
    → DraftRange (with_inner (draft.Alert a) e d)
alert_node a e (draft.Item item) c r =
    record { id = r.id; code = r.code; items = one_more ItemRange a.items item r.items c }
alert_node a e _ c r = r

atomic_node : (b : Block Member) (e : Element) (d : Draft) → DraftRange d → AtomicRange b
    → DraftRange (with_inner (draft.Atomic b) e d)
atomic_node b e (draft.Meta meta) c r = record { id = r.id; meta = c; members = r.members }
atomic_node b e (draft.Plain x) c r =
    record { id = r.id; meta = r.meta; members = one_more MemberRange b.members (member.One x) r.members c }
atomic_node b e (draft.Alert x) c r =
    record { id = r.id; meta = r.meta; members = one_more MemberRange b.members (member.Alert x) r.members c }
atomic_node b e _ c r = record { id = r.id; meta = r.meta; members = r.members }

sequence_node : (b : Block SeqMember) (e : Element) (d : Draft) → DraftRange d → SequenceRange b
    → DraftRange (with_inner (draft.Sequence b) e d)
sequence_node b e (draft.Meta meta) c r = record { id = r.id; meta = c; members = r.members }
sequence_node b e (draft.Plain x) c r =
    record {
      id = r.id;
      meta = r.meta;
      members = one_more SeqMemberRange b.members (seq_member.Single (member.One x)) r.members c;
    }
sequence_node b e (draft.Alert x) c r =
    record {
      id = r.id;
      meta = r.meta;
      members = one_more SeqMemberRange b.members (seq_member.Single (member.Alert x)) r.members c;
    }
sequence_node b e (draft.Atomic x) c r =
    record { id = r.id; meta = r.meta; members = one_more SeqMemberRange b.members (seq_member.Atomic x) r.members c }
sequence_node b e _ c r = record { id = r.id; meta = r.meta; members = r.members }

status_node : (s : StatusCmd) (e : Element) (d : Draft) → DraftRange d → StatusRange s
    → DraftRange (with_inner (draft.Status s) e d)
status_node s e (draft.Chal meta) c r =
    record { id = r.id; msg_ref = r.msg_ref; cmd_ref = r.cmd_ref; code = r.code; chal = c; items = r.items }
status_node s e (draft.Item item) c r =
    record {
      id = r.id;
      msg_ref = r.msg_ref;
      cmd_ref = r.cmd_ref;
      code = r.code;
      chal = r.chal;
      items = one_more ItemRange s.items item r.items c;
    }
status_node s e _ c r = r

results_node : (s : ResultsCmd) (e : Element) (d : Draft) → DraftRange d → ResultsRange s
    → DraftRange (with_inner (draft.Results s) e d)
results_node s e (draft.Meta meta) c r =
    record { id = r.id; msg_ref = r.msg_ref; cmd_ref = r.cmd_ref; meta = c; items = r.items }
results_node s e (draft.Item item) c r =
    record {
      id = r.id;
      msg_ref = r.msg_ref;
      cmd_ref = r.cmd_ref;
      meta = r.meta;
      items = one_more ItemRange s.items item r.items c;
    }
results_node s e _ c r = r

item_node : (item : Item) (e : Element) (d : Draft) → DraftRange d → ItemRange item
    → DraftRange (with_inner (draft.Item item) e d)
item_node item e (draft.Loc loc) c r = item_loc item e loc r
item_node item e (draft.Meta meta) c r = c
item_node item e _ c r = r

cred_node : (cred : Cred) (e : Element) (d : Draft) → DraftRange d → CredRange cred
    → DraftRange (with_inner (draft.Cred cred) e d)
cred_node cred e (draft.Meta meta) c r = c
cred_node cred e _ c r = r

chal_node : (meta : Meta) (e : Element) (d : Draft) → DraftRange d → MetaRange meta
    → DraftRange (with_inner (draft.Chal meta) e d)
chal_node meta e (draft.Meta other) c r = c
chal_node meta e _ c r = r

meta_node : (meta : Meta) (e : Element) (d : Draft) → DraftRange d → MetaRange meta
    → DraftRange (with_inner (draft.Meta meta) e d)
meta_node meta e (draft.Meta other) c r = c
meta_node meta e _ c r = r

draft_node : (d : Draft) (e : Element) (child : Draft) → DraftRange child → DraftRange d
    → DraftRange (with_inner d e child)
draft_node draft.Document e child c r = c
draft_node (draft.Message m) e child c r = message_node m e child c r
draft_node (draft.Header h) e child c r = header_node h e child c r
draft_node (draft.Body b) e child c r = body_node b e child c r
draft_node (draft.Plain p) e child c r = plain_node p e child c r
draft_node (draft.Alert a) e child c r = alert_node a e child c r
draft_node (draft.Atomic b) e child c r = atomic_node b e child c r
draft_node (draft.Sequence b) e child c r = sequence_node b e child c r
draft_node (draft.Status s) e child c r = status_node s e child c r
draft_node (draft.Results s) e child c r = results_node s e child c r
draft_node (draft.Item item) e child c r = item_node item e child c r
draft_node (draft.Loc loc) e child c r = tt
draft_node (draft.Cred cred) e child c r = cred_node cred e child c r
draft_node (draft.Chal meta) e child c r = chal_node meta e child c r
draft_node (draft.Meta meta) e child c r = meta_node meta e child c r

-- ---- values

child_range : (v : Value) (e : Element) (w : EndedElement) → WholeRange w → ValueRange v → ValueRange (with_child v e w)
child_range (of_leaf leaf) e w h r = r
child_range (of_draft d) e (simple s) h r = draft_simple d e s h r
child_range (of_draft d) e (node child) h r = draft_node d e child h r

more_text : (v : Value) (bytes : List ℕ) → ValueRange v → ValueRange (with_text v bytes)
more_text (of_leaf leaf) bytes r = piece_range leaf bytes r
more_text (of_draft d) bytes r = r

new_leaf : (k : Kind) → LeafRange (fresh_leaf k)
new_leaf kinds.Id = tt
new_leaf kinds.Code = tt
new_leaf kinds.Size = tt
new_leaf kinds.Flag = tt
new_leaf _ = tt

new_draft : (k : Kind) (e : Element) → DraftRange (fresh_draft k e)
new_draft kinds.Message e = (tt, tt)
new_draft kinds.Header e = record { msg = omega arith; cred = tt; meta = tt }
new_draft kinds.Body e = tt
new_draft kinds.Plain e = record { id = omega arith; meta = tt; items = tt }
new_draft kinds.Exec e = record { id = omega arith; meta = tt; items = tt }
new_draft kinds.Alert e = record { id = omega arith; code = omega arith; items = tt }
new_draft kinds.Atomic e = record { id = omega arith; meta = tt; members = tt }
new_draft kinds.Sequence e = record { id = omega arith; meta = tt; members = tt }
new_draft kinds.Status e =
    record { id = omega arith; msg_ref = omega arith; cmd_ref = omega arith; code = omega arith; chal = tt; items = tt }
new_draft kinds.Results e = record { id = omega arith; msg_ref = tt; cmd_ref = omega arith; meta = tt; items = tt }
new_draft kinds.Item e = tt
new_draft kinds.Loc e = tt
new_draft kinds.Cred e = tt
new_draft kinds.Chal e = record { size = tt; max_msg = tt; max_obj = tt }
new_draft _ e = record { size = tt; max_msg = tt; max_obj = tt }

new_by : (b : Bool) (k : Kind) (e : Element)
    → ValueRange (if b then of_leaf (fresh_leaf k) else of_draft (fresh_draft k e))
new_by true k e = new_leaf k
new_by false k e = new_draft k e

new_value : (k : Kind) (e : Element) → ValueRange (fresh_value k e)
new_value k e = new_by (holds_leaf k) k e

same_whole : (a b : EndedElement) → ◌≡◌ {A = Result EndedElement Reason} (Ok a) (Ok b) → a ≡ b
same_whole a b e = cc

simply_range : (k : Kind) (leaf : Leaf) (o : Result Simple Reason) (w : EndedElement) → LeafRange leaf → closed_leaf k leaf ≡ o
    → simply o ≡ Ok w → WholeRange w
simply_range k leaf (Ok s) w r is h = subst WholeRange (same_whole (simple s) w h) (leaf_range k leaf s r is)
simply_range k leaf (Err reason) w r is h = cc

closed_range : (k : Kind) (v : Value) (w : EndedElement) → ValueRange v → closed_value k v ≡ Ok w → WholeRange w
closed_range k (of_leaf leaf) w r h = simply_range k leaf (closed_leaf k leaf) w r refl h
closed_range k (of_draft d) w r h = subst WholeRange (same_whole (node d) w h) r

-- ---- trees

closes_to : (at : ℕ) (o : Result EndedElement Reason) (f : EndedElement → Result (Value × ℕ) Unread) (out : Value × ℕ)
    → (at_place at o then f) ≡ Ok out
    → (w : EndedElement) × (o ≡ Ok w) × (f w ≡ Ok out)
closes_to at (Ok w) f out h = (w, refl, h)
closes_to at (Err reason) f out h = cc

reads_to : (o : Result (Value × ℕ) Unread) (f : Value × ℕ → Result (Value × ℕ) Unread) (out : Value × ℕ)
    → (o then f) ≡ Ok out
    → (p : Value × ℕ) × (o ≡ Ok p) × (f p ≡ Ok out)
reads_to (Ok p) f out h = (p, refl, h)
reads_to (Err reason) f out h = cc

same_read : (v : Value) (at : ℕ) (out : Value × ℕ) → ◌≡◌ {A = Result (Value × ℕ) Unread} (Ok (v, at)) (Ok out)
    → v ≡ out.0
same_read v at out h = let is : (v, at) ≡ out = cc in ap (λ p. p.0) is

read_range : (tree : Forest) (at : ℕ) (v : Value) (content : Content) (out : Value × ℕ) → ValueRange v
    → read at v content tree ≡ Ok out → ValueRange out.0
read_range nothing at v content out r h = subst ValueRange (same_read v at out h) r
read_range (text bytes f) at v content out r h =
    read_range f (at + 1) (with_text v bytes) content out (more_text v bytes r) h
read_range (opaque bytes f) at v content out r h =
    read_range f (at + 1) (with_text v bytes) content out (more_text v bytes r) h
read_range (bare e f) at v content out r h =
    (elim (next_child content e) as (λ o. (elim o as (λ _. Result (Value × ℕ) Unread) [
      | None ↦ Err (record { at = at; reason = Misplaced })
      | Some x ↦ at_place at (closed_value x.0 (fresh_value x.0 e)) then (λ child. read (at + 1) (with_child v e child) x.1 f)
    ]) ≡ Ok out → ValueRange out.0) [
      | None ↦ λ h'. cc
      | Some x ↦ λ h'.
          let shut =
          closes_to at (closed_value x.0 (fresh_value x.0 e)) (λ child. read (at + 1) (with_child v e child) x.1 f) out h' in
          let whole = closed_range x.0 (fresh_value x.0 e) shut.0 (new_value x.0 e) shut.1 in
          read_range f (at + 1) (with_child v e shut.0) x.1 out (child_range v e shut.0 whole r) shut.2
    ]) h
read_range (full e inner f) at v content out r h =
    (elim (next_child content e) as (λ o. (elim o as (λ _. Result (Value × ℕ) Unread) [
      | None ↦ Err (record { at = at; reason = Misplaced })
      | Some x ↦ read (at + 1) (fresh_value x.0 e) (start x.0) inner then
          (λ p. at_place p.1 (closed_value x.0 p.0) then (λ child. read (p.1 + 1) (with_child v e child) x.1 f))
    ]) ≡ Ok out → ValueRange out.0) [
      | None ↦ λ h'. cc
      | Some x ↦ λ h'.
          let run = reads_to (read (at + 1) (fresh_value x.0 e) (start x.0) inner)
          (λ p. at_place p.1 (closed_value x.0 p.0) then (λ child. read (p.1 + 1) (with_child v e child) x.1 f)) out h' in
          let shut =
          closes_to run.0.1 (closed_value x.0 run.0.0) (λ child. read (run.0.1 + 1) (with_child v e child) x.1 f) out run.2 in
          let inside = read_range inner (at + 1) (fresh_value x.0 e) (start x.0) run.0 (new_value x.0 e) run.1 in
          let whole = closed_range x.0 run.0.0 shut.0 inside shut.1 in
          read_range f (run.0.1 + 1) (with_child v e shut.0) x.1 out (child_range v e shut.0 whole r) shut.2
    ]) h

-- ---- messages

same_parts : (a b : Parts) → Some a ≡ Some b → a ≡ b
same_parts a b e = cc

parts_range : (m : MessageDraft) (o : Option Header) (parts : Parts) → IfSome o HeaderRange
    → AllByRecursion CommandRange m.body → parts_from m o ≡ Some parts
    → AreNumbers parts
parts_range m None parts h body is = cc
parts_range m (Some header) parts h body is =
    subst AreNumbers (same_parts (record { header = header; body = m.body; last = m.last }) parts is)
    (record { header = h; body = body })

value_range : (v : Value) (parts : Parts) → ValueRange v → parts_held v ≡ Some parts → AreNumbers parts
value_range (of_draft (draft.Message m)) parts r is = parts_range m m.header parts r.0 r.1 is
value_range (of_draft _) parts r is = cc
value_range (of_leaf leaf) parts r is = cc

pub parts_in_range : (tokens : List Token) (parts : Parts) → SpellsParts tokens parts → AreNumbers parts
parts_in_range tokens parts (tree, shape, (value, at, reads, is)) =
    value_range value parts (read_range tree 0 (of_draft draft.Document) document (value, at) tt reads) is

pub spelled_is_in_range : SpelledIsInRange
spelled_is_in_range bytes parts s = parts_in_range _ parts s.message
