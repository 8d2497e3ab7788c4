-- What is known of the parts of a message so far, given what may still come in them, and that they are fit once nothing
-- must.
use Rattle.std.specs.Prelude.{◌≡◌, ◌⊎◌, ◌==◌, ◌&&◌, ◌||◌, ℕ, Bool, true, false, if◌then◌else◌, List, [], ◌∷◌, length}
use Rattle.std.specs.Prelude.{Option, Some, None, IfSome, IsTrue, refl}
use Rattle.std.proofs.Common.{ap, subst, inl, inr}
use Rattle.std.specs.List.{list_all, AllByRecursion}
use Rattle.std.specs.Option.{is_none}
use Rattle.wbxml_tables.specs.declared.Element.{Element}
use Rattle.wbxml_tables.specs.declared.Element.TheVariants.{ECmdID, EMsgID, EMsgRef}
use Rattle.syncml_shape.specs.declared.rows.Kind.{Kind}
use Rattle.syncml_shape.specs.Rows.{same, Content, is_complete}
use Rattle.syncml_shape.proofs.Completes.{and_both}
use Rattle.syncml_types.specs.declared.values.Loc.{Loc}
use Rattle.syncml_types.specs.declared.values.Meta.{Meta}
use Rattle.syncml_types.specs.declared.values.Item.{Item}
use Rattle.syncml_types.specs.declared.values.Cred.{Cred}
use Rattle.syncml_types.specs.declared.values.Header.{Header}
use Rattle.syncml_types.specs.declared.command.Plain.{Plain}
use Rattle.syncml_types.specs.declared.command.AlertCmd.{AlertCmd}
use Rattle.syncml_types.specs.declared.command.Member.{Member}
use Rattle.syncml_types.specs.declared.command.Member.TheVariants as member
use Rattle.syncml_types.specs.declared.command.Block.{Block}
use Rattle.syncml_types.specs.declared.command.SeqMember.{SeqMember}
use Rattle.syncml_types.specs.declared.command.SeqMember.TheVariants as seq_member
use Rattle.syncml_types.specs.declared.command.StatusCmd.{StatusCmd}
use Rattle.syncml_types.specs.declared.command.ResultsCmd.{ResultsCmd}
use Rattle.syncml_types.specs.declared.command.Command.{Command}
use Rattle.syncml_types.specs.declared.command.Command.TheVariants as command
use Rattle.syncml_types.specs.Canonical.{is_text}
use Rattle.syncml_types.specs.Fitness.{all_of, is_in_limit, is_number, is_filled, loc_texts, meta_texts}
use Rattle.syncml_types.specs.Verbs.{is_exec}
use Rattle.syncml_types.specs.Fitness.{item_texts, cred_texts, header_texts, plain_texts, alert_texts, member_texts}
use Rattle.syncml_types.specs.Fitness.{atomic_texts, seq_member_texts, sequence_texts, status_texts, results_texts}
use Rattle.syncml_types.specs.Fitness.{command_texts, item_data, header_data, member_data, seq_member_data}
use Rattle.syncml_types.specs.Fitness.{command_data, member_numbers, atomic_numbers, seq_member_numbers}
use Rattle.syncml_types.specs.Fitness.{command_numbers, plain_filled, member_filled, atomic_filled, seq_member_filled}
use Rattle.syncml_types.specs.Fitness.{command_filled, plain_correlates, member_correlates, seq_member_correlates}
use Rattle.syncml_types.specs.Fitness.{command_correlates, IsFit}
use Rattle.syncml_grammar.specs.declared.draft.MessageDraft.{MessageDraft}
use Rattle.syncml_grammar.proofs.FitRows.{sort, needs, is_item, ends_in_item, has_ended, complete_needs}

-- ---- children that must come

abbrev pub number_of : Element → Element → Kind → Bool
number_of one e kind = same one e && (sort kind == 21)

abbrev pub is_header : Element → Kind → Bool
is_header e kind = sort kind == 2

abbrev pub is_member : Element → Kind → Bool
is_member e kind = (sort kind == 4) || (sort kind == 5)

abbrev pub is_seq_member : Element → Kind → Bool
is_seq_member e kind = ((sort kind == 4) || (sort kind == 5)) || (sort kind == 6)

-- ---- what is known

pub record FitText (text : List ℕ) : Type 0 where
  pub plain : is_text text ≡ true
  pub short : is_in_limit text ≡ true

pub record FitLoc (loc : Loc) : Type 0 where
  pub uri : FitText loc.uri
  pub name : IfSome loc.name FitText

pub record FitMeta (meta : Meta) : Type 0 where
  pub format : IfSome meta.format FitText
  pub media : IfSome meta.media FitText
  pub next_nonce : IfSome meta.next_nonce FitText
  pub mark : IfSome meta.mark FitText
  pub version : IfSome meta.version FitText

pub record FitItem (item : Item) : Type 0 where
  pub target : IfSome item.target FitLoc
  pub source : IfSome item.source FitLoc
  pub meta : IfSome item.meta FitMeta
  pub value : IfSome item.value (λ value. is_in_limit value ≡ true)

pub record FitCred (cred : Cred) : Type 0 where
  pub meta : IfSome cred.meta FitMeta
  pub value : is_in_limit cred.value ≡ true

pub record FitHeader (content : Content) (h : Header) : Type 0 where
  pub dtd : FitText h.dtd
  pub proto : FitText h.proto
  pub session : FitText h.session
  pub target : FitLoc h.target
  pub source : FitLoc h.source
  pub resp_uri : IfSome h.resp_uri FitText
  pub cred : IfSome h.cred FitCred
  pub meta : IfSome h.meta FitMeta
  pub msg : needs (number_of EMsgID) content ≡ false → is_number h.msg ≡ true

pub record FitPlain (content : Content) (c : Plain) : Type 0 where
  pub meta : IfSome c.meta FitMeta
  pub correlator : IfSome c.correlator FitText
  pub items : AllByRecursion FitItem c.items
  pub id : needs (number_of ECmdID) content ≡ false → is_number c.id ≡ true
  pub filled : needs is_item content ≡ false → is_filled c.items ≡ true
  pub single : is_exec c.verb ≡ true
      → (ends_in_item content ≡ true) × ((c.items ≡ []) ⊎ ((length c.items ≡ 1) × (has_ended content ≡ true)))
  pub correlates : (is_exec c.verb || is_none c.correlator) ≡ true

pub record FitAlert (content : Content) (c : AlertCmd) : Type 0 where
  pub correlator : IfSome c.correlator FitText
  pub items : AllByRecursion FitItem c.items
  pub id : needs (number_of ECmdID) content ≡ false → is_number c.id ≡ true

-- in an element that has ended
abbrev pub Ended : {A : Type 0} → (Content → A → Type 0) → A → Type 0
Ended Fit x = (content : Content) × IsTrue (is_complete content) × Fit content x

abbrev pub FitMember : Member → Type 0
FitMember (member.One c) = Ended FitPlain c
FitMember (member.Alert c) = Ended FitAlert c

pub record FitAtomic (content : Content) (b : Block Member) : Type 0 where
  pub meta : IfSome b.meta FitMeta
  pub members : AllByRecursion FitMember b.members
  pub id : needs (number_of ECmdID) content ≡ false → is_number b.id ≡ true
  pub filled : needs is_member content ≡ false → is_filled b.members ≡ true

abbrev pub FitSeqMember : SeqMember → Type 0
FitSeqMember (seq_member.Single m) = FitMember m
FitSeqMember (seq_member.Atomic b) = Ended FitAtomic b

pub record FitSequence (content : Content) (b : Block SeqMember) : Type 0 where
  pub meta : IfSome b.meta FitMeta
  pub members : AllByRecursion FitSeqMember b.members
  pub id : needs (number_of ECmdID) content ≡ false → is_number b.id ≡ true
  pub filled : needs is_seq_member content ≡ false → is_filled b.members ≡ true

pub record FitStatus (content : Content) (c : StatusCmd) : Type 0 where
  pub cmd : FitText c.cmd
  pub target_refs : AllByRecursion FitText c.target_refs
  pub source_refs : AllByRecursion FitText c.source_refs
  pub chal : IfSome c.chal FitMeta
  pub items : AllByRecursion FitItem c.items
  pub id : needs (number_of ECmdID) content ≡ false → is_number c.id ≡ true
  pub msg_ref : needs (number_of EMsgRef) content ≡ false → is_number c.msg_ref ≡ true

pub record FitResults (content : Content) (c : ResultsCmd) : Type 0 where
  pub meta : IfSome c.meta FitMeta
  pub target_ref : IfSome c.target_ref FitText
  pub source_ref : IfSome c.source_ref FitText
  pub items : AllByRecursion FitItem c.items
  pub id : needs (number_of ECmdID) content ≡ false → is_number c.id ≡ true
  pub msg_ref : all_of is_number c.msg_ref ≡ true
  pub filled : needs is_item content ≡ false → is_filled c.items ≡ true

abbrev pub FitCommand : Command → Type 0
FitCommand (command.Plain c) = Ended FitPlain c
FitCommand (command.Alert c) = Ended FitAlert c
FitCommand (command.Atomic b) = Ended FitAtomic b
FitCommand (command.Sequence b) = Ended FitSequence b
FitCommand (command.Status c) = Ended FitStatus c
FitCommand (command.Results c) = Ended FitResults c

pub record FitMessage (content : Content) (m : MessageDraft) : Type 0 where
  pub header : IfSome m.header (Ended FitHeader)
  pub present : needs is_header content ≡ false → is_none m.header ≡ false
  pub body : AllByRecursion FitCommand m.body

-- ---- tests that follow

both : {a b : Bool} → a ≡ true → b ≡ true → (a && b) ≡ true
both {a} {b} h k = and_both a b h k

each : {A : Type 0} (test : A → Bool) (P : A → Type 0) → ((x : A) → P x → test x ≡ true) → (xs : List A)
    → AllByRecursion P xs → list_all test xs ≡ true
each test P one [] h = refl
each test P one (x ∷ xs) h = both (one x h.0) (each test P one xs h.1)

some : {A : Type 0} (test : A → Bool) (P : A → Type 0) → ((x : A) → P x → test x ≡ true) → (o : Option A) → IfSome o P
    → all_of test o ≡ true
some test P one None h = refl
some test P one (Some x) h = one x h

-- ---- texts

abbrev pub IsPassed : (List ℕ → Bool) → Type 0
IsPassed test = (text : List ℕ) → FitText text → test text ≡ true

loc_passes : (test : List ℕ → Bool) → IsPassed test → (loc : Loc) → FitLoc loc → loc_texts test loc ≡ true
unfolding loc_texts
loc_passes test p loc f = both (p loc.uri f.uri) (some test FitText p loc.name f.name)

meta_passes : (test : List ℕ → Bool) → IsPassed test → (meta : Meta) → FitMeta meta → meta_texts test meta ≡ true
unfolding meta_texts
meta_passes test p meta f =
    both
    (both (both (both (some test FitText p meta.format f.format) (some test FitText p meta.media f.media))
    (some test FitText p meta.next_nonce f.next_nonce)) (some test FitText p meta.mark f.mark))
    (some test FitText p meta.version f.version)

metas_pass : (test : List ℕ → Bool) → IsPassed test → (o : Option Meta) → IfSome o FitMeta
    → all_of (meta_texts test) o ≡ true
metas_pass test p o f = some (meta_texts test) FitMeta (meta_passes test p) o f

locs_pass : (test : List ℕ → Bool) → IsPassed test → (o : Option Loc) → IfSome o FitLoc
    → all_of (loc_texts test) o ≡ true
locs_pass test p o f = some (loc_texts test) FitLoc (loc_passes test p) o f

item_passes : (test : List ℕ → Bool) → IsPassed test → (item : Item) → FitItem item → item_texts test item ≡ true
unfolding item_texts
item_passes test p item f =
    both (both (locs_pass test p item.target f.target) (locs_pass test p item.source f.source))
    (metas_pass test p item.meta f.meta)

items_pass : (test : List ℕ → Bool) → IsPassed test → (items : List Item) → AllByRecursion FitItem items
    → list_all (item_texts test) items ≡ true
items_pass test p items f = each (item_texts test) FitItem (item_passes test p) items f

cred_passes : (test : List ℕ → Bool) → IsPassed test → (cred : Cred) → FitCred cred → cred_texts test cred ≡ true
unfolding cred_texts
cred_passes test p cred f = metas_pass test p cred.meta f.meta

header_passes : (test : List ℕ → Bool) → IsPassed test → (h : Header) → Ended FitHeader h → header_texts test h ≡ true
unfolding header_texts
header_passes test p h (content, done, f) =
    both
    (both
    (both
    (both (both (both (both (p h.dtd f.dtd) (p h.proto f.proto)) (p h.session f.session))
    (loc_passes test p h.target f.target)) (loc_passes test p h.source f.source))
    (some test FitText p h.resp_uri f.resp_uri)) (some (cred_texts test) FitCred (cred_passes test p) h.cred f.cred))
    (metas_pass test p h.meta f.meta)

plain_passes : (test : List ℕ → Bool) → IsPassed test → (c : Plain) → Ended FitPlain c → plain_texts test c ≡ true
unfolding plain_texts
plain_passes test p c (content, done, f) =
    both (both (metas_pass test p c.meta f.meta) (some test FitText p c.correlator f.correlator))
    (items_pass test p c.items f.items)

alert_passes : (test : List ℕ → Bool) → IsPassed test → (c : AlertCmd) → Ended FitAlert c → alert_texts test c ≡ true
unfolding alert_texts
alert_passes test p c (content, done, f) =
    both (some test FitText p c.correlator f.correlator) (items_pass test p c.items f.items)

member_passes : (test : List ℕ → Bool) → IsPassed test → (m : Member) → FitMember m → member_texts test m ≡ true
unfolding member_texts
member_passes test p (member.One c) f = plain_passes test p c f
member_passes test p (member.Alert c) f = alert_passes test p c f

atomic_passes : (test : List ℕ → Bool) → IsPassed test → (b : Block Member) → Ended FitAtomic b
    → atomic_texts test b ≡ true
unfolding atomic_texts
atomic_passes test p b (content, done, f) =
    both (metas_pass test p b.meta f.meta)
    (each (member_texts test) FitMember (member_passes test p) b.members f.members)

seq_member_passes : (test : List ℕ → Bool) → IsPassed test → (m : SeqMember) → FitSeqMember m
    → seq_member_texts test m ≡ true
unfolding seq_member_texts
seq_member_passes test p (seq_member.Single m) f = member_passes test p m f
seq_member_passes test p (seq_member.Atomic b) f = atomic_passes test p b f

sequence_passes : (test : List ℕ → Bool) → IsPassed test → (b : Block SeqMember) → Ended FitSequence b
    → sequence_texts test b ≡ true
unfolding sequence_texts
sequence_passes test p b (content, done, f) =
    both (metas_pass test p b.meta f.meta)
    (each (seq_member_texts test) FitSeqMember (seq_member_passes test p) b.members f.members)

status_passes : (test : List ℕ → Bool) → IsPassed test → (c : StatusCmd) → Ended FitStatus c
    → status_texts test c ≡ true
unfolding status_texts
status_passes test p c (content, done, f) =
    both
    (both (both (both (p c.cmd f.cmd) (each test FitText p c.target_refs f.target_refs))
    (each test FitText p c.source_refs f.source_refs)) (metas_pass test p c.chal f.chal))
    (items_pass test p c.items f.items)

results_passes : (test : List ℕ → Bool) → IsPassed test → (c : ResultsCmd) → Ended FitResults c
    → results_texts test c ≡ true
unfolding results_texts
results_passes test p c (content, done, f) =
    both (both (both (metas_pass test p c.meta f.meta) (some test FitText p c.target_ref f.target_ref))
    (some test FitText p c.source_ref f.source_ref)) (items_pass test p c.items f.items)

command_passes : (test : List ℕ → Bool) → IsPassed test → (c : Command) → FitCommand c → command_texts test c ≡ true
unfolding command_texts
command_passes test p (command.Plain c) f = plain_passes test p c f
command_passes test p (command.Alert c) f = alert_passes test p c f
command_passes test p (command.Atomic b) f = atomic_passes test p b f
command_passes test p (command.Sequence b) f = sequence_passes test p b f
command_passes test p (command.Status c) f = status_passes test p c f
command_passes test p (command.Results c) f = results_passes test p c f

-- ---- Data

short_item : (item : Item) → FitItem item → item_data is_in_limit item ≡ true
unfolding item_data
short_item item f = some is_in_limit (λ value. is_in_limit value ≡ true) (λ value h. h) item.value f.value

short_items : (items : List Item) → AllByRecursion FitItem items → list_all (item_data is_in_limit) items ≡ true
short_items items f = each (item_data is_in_limit) FitItem short_item items f

short_header : (h : Header) → Ended FitHeader h → header_data is_in_limit h ≡ true
unfolding header_data
short_header h (content, done, f) = some (λ (c : Cred). is_in_limit c.value) FitCred (λ c g. g.value) h.cred f.cred

short_member : (m : Member) → FitMember m → member_data is_in_limit m ≡ true
unfolding member_data
short_member (member.One c) (content, done, f) = short_items c.items f.items
short_member (member.Alert c) (content, done, f) = short_items c.items f.items

short_seq_member : (m : SeqMember) → FitSeqMember m → seq_member_data is_in_limit m ≡ true
unfolding seq_member_data
short_seq_member (seq_member.Single m) f = short_member m f
short_seq_member (seq_member.Atomic b) (content, done, f) =
    each (member_data is_in_limit) FitMember short_member b.members f.members

short_command : (c : Command) → FitCommand c → command_data is_in_limit c ≡ true
unfolding command_data
short_command (command.Plain c) (content, done, f) = short_items c.items f.items
short_command (command.Alert c) (content, done, f) = short_items c.items f.items
short_command (command.Atomic b) (content, done, f) =
    each (member_data is_in_limit) FitMember short_member b.members f.members
short_command (command.Sequence b) (content, done, f) =
    each (seq_member_data is_in_limit) FitSeqMember short_seq_member b.members f.members
short_command (command.Status c) (content, done, f) = short_items c.items f.items
short_command (command.Results c) (content, done, f) = short_items c.items f.items

-- ---- numbers

numbered_member : (m : Member) → FitMember m → member_numbers m ≡ true
unfolding member_numbers
numbered_member (member.One c) (content, done, f) = f.id (complete_needs (number_of ECmdID) content done)
numbered_member (member.Alert c) (content, done, f) = f.id (complete_needs (number_of ECmdID) content done)

numbered_atomic : (b : Block Member) → Ended FitAtomic b → atomic_numbers b ≡ true
unfolding atomic_numbers
numbered_atomic b (content, done, f) =
    both (f.id (complete_needs (number_of ECmdID) content done))
    (each member_numbers FitMember numbered_member b.members f.members)

numbered_seq_member : (m : SeqMember) → FitSeqMember m → seq_member_numbers m ≡ true
unfolding seq_member_numbers
numbered_seq_member (seq_member.Single m) f = numbered_member m f
numbered_seq_member (seq_member.Atomic b) f = numbered_atomic b f

numbered_command : (c : Command) → FitCommand c → command_numbers c ≡ true
unfolding command_numbers
numbered_command (command.Plain c) (content, done, f) = f.id (complete_needs (number_of ECmdID) content done)
numbered_command (command.Alert c) (content, done, f) = f.id (complete_needs (number_of ECmdID) content done)
numbered_command (command.Atomic b) f = numbered_atomic b f
numbered_command (command.Sequence b) (content, done, f) =
    both (f.id (complete_needs (number_of ECmdID) content done))
    (each seq_member_numbers FitSeqMember numbered_seq_member b.members f.members)
numbered_command (command.Status c) (content, done, f) =
    both (f.id (complete_needs (number_of ECmdID) content done))
    (f.msg_ref (complete_needs (number_of EMsgRef) content done))
numbered_command (command.Results c) (content, done, f) =
    both (f.id (complete_needs (number_of ECmdID) content done)) f.msg_ref

-- ---- lists

filled_plain : (c : Plain) → Ended FitPlain c → plain_filled c ≡ true
unfolding plain_filled
filled_plain c (content, done, f) = by_verb (is_exec c.verb) refl
  where
    filled : is_filled c.items ≡ true
    filled = f.filled (complete_needs is_item content done)

    one : (c.items ≡ []) ⊎ ((length c.items ≡ 1) × (has_ended content ≡ true)) → (length c.items == 1) ≡ true
    one (inl none) = let never : is_filled {A = Item} [] ≡ true = subst (λ l. is_filled l ≡ true) none filled in cc
    one (inr is) = ap (λ n. n == 1) is.0

    by_verb : (exec : Bool) → is_exec c.verb ≡ exec → (if exec then length c.items == 1 else is_filled c.items) ≡ true
    by_verb true is = one (f.single is).1
    by_verb false is = filled

filled_member : (m : Member) → FitMember m → member_filled m ≡ true
unfolding member_filled
filled_member (member.One c) f = filled_plain c f
filled_member (member.Alert c) f = refl

filled_atomic : (b : Block Member) → Ended FitAtomic b → atomic_filled b ≡ true
unfolding atomic_filled
filled_atomic b (content, done, f) =
    both (f.filled (complete_needs is_member content done))
    (each member_filled FitMember filled_member b.members f.members)

filled_seq_member : (m : SeqMember) → FitSeqMember m → seq_member_filled m ≡ true
unfolding seq_member_filled
filled_seq_member (seq_member.Single m) f = filled_member m f
filled_seq_member (seq_member.Atomic b) f = filled_atomic b f

filled_command : (c : Command) → FitCommand c → command_filled c ≡ true
unfolding command_filled
filled_command (command.Plain c) f = filled_plain c f
filled_command (command.Alert c) f = refl
filled_command (command.Atomic b) f = filled_atomic b f
filled_command (command.Sequence b) (content, done, f) =
    both (f.filled (complete_needs is_seq_member content done))
    (each seq_member_filled FitSeqMember filled_seq_member b.members f.members)
filled_command (command.Status c) f = refl
filled_command (command.Results c) (content, done, f) = f.filled (complete_needs is_item content done)

-- ---- correlators

correlated_plain : (c : Plain) → Ended FitPlain c → plain_correlates c ≡ true
unfolding plain_correlates
correlated_plain c (content, done, f) = f.correlates

correlated_member : (m : Member) → FitMember m → member_correlates m ≡ true
unfolding member_correlates
correlated_member (member.One c) f = correlated_plain c f
correlated_member (member.Alert c) f = refl

correlated_seq_member : (m : SeqMember) → FitSeqMember m → seq_member_correlates m ≡ true
unfolding seq_member_correlates
correlated_seq_member (seq_member.Single m) f = correlated_member m f
correlated_seq_member (seq_member.Atomic b) (content, done, f) =
    each member_correlates FitMember correlated_member b.members f.members

correlated_command : (c : Command) → FitCommand c → command_correlates c ≡ true
unfolding command_correlates
correlated_command (command.Plain c) f = correlated_plain c f
correlated_command (command.Alert c) f = refl
correlated_command (command.Atomic b) (content, done, f) =
    each member_correlates FitMember correlated_member b.members f.members
correlated_command (command.Sequence b) (content, done, f) =
    each seq_member_correlates FitSeqMember correlated_seq_member b.members f.members
correlated_command (command.Status c) f = refl
correlated_command (command.Results c) f = refl

-- ---- a message

pub parts_fit : (h : Header) (body : List Command) → Ended FitHeader h → AllByRecursion FitCommand body → IsFit h body
parts_fit h body f fs = record {
  texts =
      both (header_passes is_text (λ text t. t.plain) h f)
      (each (command_texts is_text) FitCommand (command_passes is_text (λ text t. t.plain)) body fs);
  numbers =
      both (f.2.msg (complete_needs (number_of EMsgID) f.0 f.1))
      (each command_numbers FitCommand numbered_command body fs);
  filled = each command_filled FitCommand filled_command body fs;
  correlators = each command_correlates FitCommand correlated_command body fs;
  short_texts =
      both (header_passes is_in_limit (λ text t. t.short) h f)
      (each (command_texts is_in_limit) FitCommand (command_passes is_in_limit (λ text t. t.short)) body fs);
  short_data = both (short_header h f) (each (command_data is_in_limit) FitCommand short_command body fs);
}
