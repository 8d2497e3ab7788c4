-- Commands that a message takes stay so when they are numbered and cut.
use Rattle.std.proofs.Common.{◌≡◌, ◌≤◌, ◌+◌, ◌&&◌, ◌==◌, ℕ, suc, Bool, true, false, not, List, [], ◌∷◌, length, take}
use Rattle.std.proofs.Common.{Option, Some, None, refl, ap, ◌∙◌, arith, option_map}
use Rattle.std.specs.List.{list_all, AllByRecursion}
use Rattle.std.proofs.lemmas.Bool.{and_parts, ne_eqb, leb-true, le-leb}
use Rattle.std.proofs.lemmas.List.{length-take}
use Rattle.syncml_types.specs.declared.values.Item.{Item}
use Rattle.syncml_types.specs.declared.values.Header.{Header}
use Rattle.syncml_types.specs.declared.command.Verb.{Verb}
use Rattle.syncml_types.specs.declared.command.Verb.TheVariants as verb
use Rattle.syncml_types.specs.declared.command.Plain.{Plain}
use Rattle.syncml_types.specs.declared.command.Member.{Member}
use Rattle.syncml_types.specs.declared.command.Member.TheVariants as member
use Rattle.syncml_types.specs.declared.command.SeqMember.{SeqMember}
use Rattle.syncml_types.specs.declared.command.SeqMember.TheVariants as seq_member
use Rattle.syncml_types.specs.declared.command.Command.{Command}
use Rattle.syncml_types.specs.declared.command.Command.TheVariants as command
use Rattle.syncml_types.specs.declared.values.Meta.{Meta}
use Rattle.syncml_types.specs.Message.{HasShortItems}
use Rattle.syncml_types.specs.Canonical.{is_text}
use Rattle.syncml_types.specs.Fitness.{all_of, is_in_limit, is_number, is_filled, loc_texts, item_data, header_data}
use Rattle.syncml_types.specs.Fitness.{member_data, seq_member_data, command_data, meta_texts, item_texts, plain_texts}
use Rattle.syncml_types.specs.Fitness.{alert_texts, member_texts, atomic_texts, seq_member_texts, sequence_texts}
use Rattle.syncml_types.specs.Fitness.{status_texts, results_texts, command_texts, member_numbers, atomic_numbers}
use Rattle.syncml_types.specs.Fitness.{seq_member_numbers, command_numbers, plain_filled, member_filled, atomic_filled}
use Rattle.syncml_types.specs.Fitness.{seq_member_filled, command_filled, plain_correlates, member_correlates}
use Rattle.syncml_types.specs.Fitness.{seq_member_correlates, command_correlates, IsFit}
use Rattle.syncml_parts.specs.Numbering.{ids_in, with_number, numbered_members, numbered_seq_member}
use Rattle.syncml_parts.specs.Numbering.{numbered_seq_members, ids_in_seq_member, with_numbers}
use Rattle.syncml_parts.specs.Packing.{bytes_in, only_changed, write_changed, member_changed, seq_member_changed}
use Rattle.syncml_parts.specs.Packing.{last_changed, cut_changed}
use Rattle.syncml_types.proofs.Fitting.{spellable_data}
use Rattle.dm_pack.specs.Entries.{Entry, IsFitCommand, with_size, part_item, part_of}
use Rattle.dm_pack.specs.Filling.{numbered, asks_next}
use Rattle.dm_pack.specs.Measures.{hollow_item}
use Rattle.dm_pack.proofs.Numbers.{number_changed, length_last}

pub both : (a b : Bool) → a ≡ true → b ≡ true → (a && b) ≡ true
both true b h k = k
both false b h k = absurd (cc)

-- ---- Data of a changed command

abbrev pub Keeps : (List ℕ → Bool) → (Item → Item) → Type 0
Keeps test f = (i : Item) → item_data test i ≡ true → item_data test (f i) ≡ true

data_only : (test : List ℕ → Bool) (f : Item → Item) → Keeps test f → (is : List Item)
    → list_all (item_data test) is ≡ true → list_all (item_data test) (only_changed f is) ≡ true
data_only test f keeps [] h = h
data_only test f keeps (i ∷ []) h =
    both (item_data test (f i)) true (keeps i (and_parts (item_data test i) true h).0) refl
data_only test f keeps (i ∷ j ∷ is) h = h

data_write : (test : List ℕ → Bool) (f : Item → Item) → Keeps test f → (v : Verb) (is : List Item)
    → list_all (item_data test) is ≡ true → list_all (item_data test) (write_changed f v is) ≡ true
data_write test f keeps verb.Add is h = data_only test f keeps is h
data_write test f keeps verb.Replace is h = data_only test f keeps is h
data_write test f keeps verb.Copy is h = h
data_write test f keeps verb.Delete is h = h
data_write test f keeps verb.Exec is h = h
data_write test f keeps verb.Get is h = h

data_member : (test : List ℕ → Bool) (f : Item → Item) → Keeps test f → (m : Member)
    → member_data test m ≡ true → member_data test (member_changed f m) ≡ true
unfolding member_data
data_member test f keeps (member.One c) h = data_write test f keeps c.verb c.items h
data_member test f keeps (member.Alert c) h = h

data_seq_member : (test : List ℕ → Bool) (f : Item → Item) → Keeps test f → (m : SeqMember)
    → seq_member_data test m ≡ true → seq_member_data test (seq_member_changed f m) ≡ true
unfolding seq_member_data
data_seq_member test f keeps (seq_member.Single m) h = data_member test f keeps m h
data_seq_member test f keeps (seq_member.Atomic b) h = h

pub kept_last : {A : Type 0} (test : A → Bool) (changed : A → A) → ((x : A) → test x ≡ true → test (changed x) ≡ true)
    → (xs : List A) → list_all test xs ≡ true → list_all test (last_changed changed xs) ≡ true
kept_last test changed one [] h = h
kept_last test changed one (x ∷ []) h = both (test (changed x)) true (one x (and_parts (test x) true h).0) refl
kept_last test changed one (x ∷ y ∷ xs) h =
    let parts = and_parts (test x) (list_all test (y ∷ xs)) h in
    both (test x) (list_all test (last_changed changed (y ∷ xs))) parts.0 (kept_last test changed one (y ∷ xs) parts.1)

pub data_changed : (test : List ℕ → Bool) (f : Item → Item) → Keeps test f → (c : Command)
    → command_data test c ≡ true → command_data test (cut_changed f c) ≡ true
unfolding command_data
data_changed test f keeps (command.Plain c) h = data_write test f keeps c.verb c.items h
data_changed test f keeps (command.Alert c) h = h
data_changed test f keeps (command.Atomic b) h =
    kept_last (member_data test) (member_changed f) (data_member test f keeps) b.members h
data_changed test f keeps (command.Sequence b) h =
    kept_last (seq_member_data test) (seq_member_changed f) (data_seq_member test f keeps) b.members h
data_changed test f keeps (command.Status c) h = h
data_changed test f keeps (command.Results c) h = data_only test f keeps c.items h

hollow_short : (o : Option (List ℕ)) → all_of is_in_limit (option_map (λ _. []) o) ≡ true
hollow_short None = refl
hollow_short (Some v) = refl

hollow_keeps : Keeps is_in_limit hollow_item
unfolding item_data
hollow_keeps i h = hollow_short i.value

-- ---- Data that can be spelled

abbrev bare_header : Header
bare_header = record {
  dtd = [];
  proto = [];
  session = [];
  msg = 1;
  target = record { uri = []; name = None };
  source = record { uri = []; name = None };
  resp_uri = None;
  no_resp = false;
  cred = None;
  meta = None;
}

pub short_items : (c : Command) → command_data is_in_limit c ≡ true → HasShortItems c
unfolding header_data
short_items c h = (spellable_data bare_header (c ∷ []) (both (command_data is_in_limit c) true h refl)).body.0

pub hollow_items : (c : Command) → command_data is_in_limit c ≡ true → HasShortItems (cut_changed hollow_item c)
hollow_items c h = short_items (cut_changed hollow_item c) (data_changed is_in_limit hollow_item hollow_keeps c h)

-- ---- tests of a changed command

pub same_last_test : {A : Type 0} (test : A → Bool) (changed : A → A) → ((x : A) → test (changed x) ≡ test x)
    → (xs : List A) → list_all test (last_changed changed xs) ≡ list_all test xs
same_last_test test changed one [] = refl
same_last_test test changed one (x ∷ []) = ap (λ t. t && true) (one x)
same_last_test test changed one (x ∷ y ∷ xs) = ap (λ t. test x && t) (same_last_test test changed one (y ∷ xs))

abbrev pub SameTexts : (List ℕ → Bool) → (Item → Item) → Type 0
SameTexts test f = (i : Item) → item_texts test (f i) ≡ item_texts test i

texts_only : (test : List ℕ → Bool) (f : Item → Item) → SameTexts test f → (is : List Item)
    → list_all (item_texts test) (only_changed f is) ≡ list_all (item_texts test) is
texts_only test f one [] = refl
texts_only test f one (i ∷ []) = ap (λ t. t && true) (one i)
texts_only test f one (i ∷ j ∷ is) = refl

texts_write : (test : List ℕ → Bool) (f : Item → Item) → SameTexts test f → (v : Verb) (is : List Item)
    → list_all (item_texts test) (write_changed f v is) ≡ list_all (item_texts test) is
texts_write test f one verb.Add is = texts_only test f one is
texts_write test f one verb.Replace is = texts_only test f one is
texts_write test f one verb.Copy is = refl
texts_write test f one verb.Delete is = refl
texts_write test f one verb.Exec is = refl
texts_write test f one verb.Get is = refl

texts_member : (test : List ℕ → Bool) (f : Item → Item) → SameTexts test f → (m : Member)
    → member_texts test (member_changed f m) ≡ member_texts test m
unfolding member_texts plain_texts
texts_member test f one (member.One c) =
    ap (λ t. all_of (meta_texts test) c.meta && all_of test c.correlator && t) (texts_write test f one c.verb c.items)
texts_member test f one (member.Alert c) = refl

texts_seq_member : (test : List ℕ → Bool) (f : Item → Item) → SameTexts test f → (m : SeqMember)
    → seq_member_texts test (seq_member_changed f m) ≡ seq_member_texts test m
unfolding seq_member_texts
texts_seq_member test f one (seq_member.Single m) = texts_member test f one m
texts_seq_member test f one (seq_member.Atomic b) = refl

texts_changed : (test : List ℕ → Bool) (f : Item → Item) → SameTexts test f → (c : Command)
    → command_texts test (cut_changed f c) ≡ command_texts test c
unfolding command_texts plain_texts atomic_texts sequence_texts results_texts
texts_changed test f one (command.Plain c) =
    ap (λ t. all_of (meta_texts test) c.meta && all_of test c.correlator && t) (texts_write test f one c.verb c.items)
texts_changed test f one (command.Alert c) = refl
texts_changed test f one (command.Atomic b) =
    ap (λ t. all_of (meta_texts test) b.meta && t)
    (same_last_test (member_texts test) (member_changed f) (texts_member test f one) b.members)
texts_changed test f one (command.Sequence b) =
    ap (λ t. all_of (meta_texts test) b.meta && t)
    (same_last_test (seq_member_texts test) (seq_member_changed f) (texts_seq_member test f one) b.members)
texts_changed test f one (command.Status c) = refl
texts_changed test f one (command.Results c) =
    ap (λ t. all_of (meta_texts test) c.meta && all_of test c.target_ref && all_of test c.source_ref && t)
    (texts_only test f one c.items)

long_only : (f : Item → Item) (is : List Item) → length (only_changed f is) ≡ length is
long_only f [] = refl
long_only f (i ∷ []) = refl
long_only f (i ∷ j ∷ is) = refl

filled_plain : (f : Item → Item) (v : Verb) (c : Plain) → c.verb ≡ v
    → plain_filled (record c { items = write_changed f c.verb c.items }) ≡ plain_filled c
unfolding plain_filled
filled_plain f verb.Add c h = rw h (ap (λ n. not (n == 0)) (long_only f c.items))
filled_plain f verb.Replace c h = rw h (ap (λ n. not (n == 0)) (long_only f c.items))
filled_plain f verb.Copy c h = rw h refl
filled_plain f verb.Delete c h = rw h refl
filled_plain f verb.Exec c h = rw h refl
filled_plain f verb.Get c h = rw h refl

filled_member : (f : Item → Item) (m : Member) → member_filled (member_changed f m) ≡ member_filled m
unfolding member_filled
filled_member f (member.One c) = filled_plain f c.verb c refl
filled_member f (member.Alert c) = refl

filled_seq_member : (f : Item → Item) (m : SeqMember) → seq_member_filled (seq_member_changed f m) ≡ seq_member_filled m
unfolding seq_member_filled
filled_seq_member f (seq_member.Single m) = filled_member f m
filled_seq_member f (seq_member.Atomic b) = refl

same_and : {a b c d : Bool} → a ≡ c → b ≡ d → (a && b) ≡ (c && d)
same_and p q = cc

still_filled : {A : Type 0} (f : A → A) (xs : List A) → is_filled (last_changed f xs) ≡ is_filled xs
still_filled f xs = ap (λ n. not (n == 0)) (length_last f xs)

filled_changed : (f : Item → Item) (c : Command) → command_filled (cut_changed f c) ≡ command_filled c
unfolding command_filled atomic_filled
filled_changed f (command.Plain c) = filled_plain f c.verb c refl
filled_changed f (command.Alert c) = refl
filled_changed f (command.Atomic b) =
    same_and (still_filled (member_changed f) b.members)
    (same_last_test member_filled (member_changed f) (filled_member f) b.members)
filled_changed f (command.Sequence b) =
    same_and (still_filled (seq_member_changed f) b.members)
    (same_last_test seq_member_filled (seq_member_changed f) (filled_seq_member f) b.members)
filled_changed f (command.Status c) = refl
filled_changed f (command.Results c) = ap (λ n. not (n == 0)) (long_only f c.items)

correlates_member : (f : Item → Item) (m : Member) → member_correlates (member_changed f m) ≡ member_correlates m
unfolding member_correlates plain_correlates
correlates_member f (member.One c) = refl
correlates_member f (member.Alert c) = refl

correlates_seq_member : (f : Item → Item) (m : SeqMember)
    → seq_member_correlates (seq_member_changed f m) ≡ seq_member_correlates m
unfolding seq_member_correlates
correlates_seq_member f (seq_member.Single m) = correlates_member f m
correlates_seq_member f (seq_member.Atomic b) = refl

correlates_changed : (f : Item → Item) (c : Command) → command_correlates (cut_changed f c) ≡ command_correlates c
unfolding command_correlates plain_correlates
correlates_changed f (command.Plain c) = refl
correlates_changed f (command.Alert c) = refl
correlates_changed f (command.Atomic b) =
    same_last_test member_correlates (member_changed f) (correlates_member f) b.members
correlates_changed f (command.Sequence b) =
    same_last_test seq_member_correlates (seq_member_changed f) (correlates_seq_member f) b.members
correlates_changed f (command.Status c) = refl
correlates_changed f (command.Results c) = refl

numbers_member : (f : Item → Item) (m : Member) → member_numbers (member_changed f m) ≡ member_numbers m
unfolding member_numbers
numbers_member f (member.One c) = refl
numbers_member f (member.Alert c) = refl

numbers_seq_member : (f : Item → Item) (m : SeqMember)
    → seq_member_numbers (seq_member_changed f m) ≡ seq_member_numbers m
unfolding seq_member_numbers
numbers_seq_member f (seq_member.Single m) = numbers_member f m
numbers_seq_member f (seq_member.Atomic b) = refl

numbers_changed : (f : Item → Item) (c : Command) → command_numbers (cut_changed f c) ≡ command_numbers c
unfolding command_numbers atomic_numbers
numbers_changed f (command.Plain c) = refl
numbers_changed f (command.Alert c) = refl
numbers_changed f (command.Atomic b) =
    ap (λ t. is_number b.id && t) (same_last_test member_numbers (member_changed f) (numbers_member f) b.members)
numbers_changed f (command.Sequence b) =
    ap (λ t. is_number b.id && t)
    (same_last_test seq_member_numbers (seq_member_changed f) (numbers_seq_member f) b.members)
numbers_changed f (command.Status c) = refl
numbers_changed f (command.Results c) = refl

-- ---- a part is fit

sized_texts : (test : List ℕ → Bool) (size : ℕ) (o : Option Meta)
    → all_of (meta_texts test) (with_size size o) ≡ all_of (meta_texts test) o
unfolding meta_texts
sized_texts test size None = refl
sized_texts test size (Some m) = refl

part_texts : (test : List ℕ → Bool) (begun : Bool) (n : ℕ) (i : Item)
    → item_texts test (part_item begun n i) ≡ item_texts test i
unfolding item_texts
part_texts test true n i = refl
part_texts test false n i =
    ap (λ t. all_of (loc_texts test) i.target && all_of (loc_texts test) i.source && t)
    (sized_texts test (length (bytes_in i.value)) i.meta)

shorter : (n : ℕ) (o : Option (List ℕ)) → all_of is_in_limit o ≡ true → is_in_limit (take n (bytes_in o)) ≡ true
shorter n None h =
    le-leb (length (take n (bytes_in None))) 2147483648
    (let long = length-take n (bytes_in None) in omega (arith, long))
shorter n (Some v) h =
    let low = leb-true (length v) 2147483648 h in
    let long = length-take n v in
    le-leb (length (take n v)) 2147483648 (omega (arith, low, long))

part_keeps : (begun : Bool) (n : ℕ) → Keeps is_in_limit (part_item begun n)
unfolding item_data
part_keeps begun n i h = shorter n i.value h

pub changed_fit : (f : Item → Item) → ((test : List ℕ → Bool) → SameTexts test f) → Keeps is_in_limit f → (c : Command)
    → IsFitCommand c → IsFitCommand (cut_changed f c)
changed_fit f alike keeps c fit =
    record {
      texts = texts_changed is_text f (alike is_text) c ∙ fit.texts;
      numbers = ap command_numbers (number_changed f 1 c) ∙ numbers_changed f (with_numbers 1 c) ∙ fit.numbers;
      filled = filled_changed f c ∙ fit.filled;
      correlators = correlates_changed f c ∙ fit.correlators;
      short_texts = texts_changed is_in_limit f (alike is_in_limit) c ∙ fit.short_texts;
      short_data = data_changed is_in_limit f keeps c fit.short_data;
    }

pub part_fit : (e : Entry) (n : ℕ) → IsFitCommand e.command → IsFitCommand (part_of e n)
unfolding part_of
part_fit e n fit =
    changed_fit (part_item e.begun n) (λ test. part_texts test e.begun n) (part_keeps e.begun n) e.command fit

-- ---- tests of a numbered command

all_numbered : (test : Member → Bool) → ((n : ℕ) (m : Member) → test (with_number n m) ≡ test m)
    → (n : ℕ) (ms : List Member) → list_all test (numbered_members n ms) ≡ list_all test ms
unfolding numbered_members
all_numbered test one n [] = refl
all_numbered test one n (m ∷ ms) = same_and (one n m) (all_numbered test one (n + 1) ms)

all_seq_numbered : (test : SeqMember → Bool) → ((n : ℕ) (m : SeqMember) → test (numbered_seq_member n m) ≡ test m)
    → (n : ℕ) (ms : List SeqMember) → list_all test (numbered_seq_members n ms) ≡ list_all test ms
unfolding numbered_seq_members
all_seq_numbered test one n [] = refl
all_seq_numbered test one n (m ∷ ms) = same_and (one n m) (all_seq_numbered test one (n + ids_in_seq_member m) ms)

member_texts_number : (test : List ℕ → Bool) (n : ℕ) (m : Member)
    → member_texts test (with_number n m) ≡ member_texts test m
unfolding member_texts plain_texts alert_texts
member_texts_number test n (member.One c) = refl
member_texts_number test n (member.Alert c) = refl

seq_texts_number : (test : List ℕ → Bool) (n : ℕ) (m : SeqMember)
    → seq_member_texts test (numbered_seq_member n m) ≡ seq_member_texts test m
unfolding seq_member_texts atomic_texts
seq_texts_number test n (seq_member.Single m) = member_texts_number test n m
seq_texts_number test n (seq_member.Atomic b) =
    ap (λ t. all_of (meta_texts test) b.meta && t)
    (all_numbered (member_texts test) (member_texts_number test) (n + 1) b.members)

texts_number : (test : List ℕ → Bool) (n : ℕ) (c : Command)
    → command_texts test (with_numbers n c) ≡ command_texts test c
unfolding command_texts with_numbers plain_texts alert_texts atomic_texts sequence_texts status_texts results_texts
texts_number test n (command.Plain c) = refl
texts_number test n (command.Alert c) = refl
texts_number test n (command.Atomic b) =
    ap (λ t. all_of (meta_texts test) b.meta && t)
    (all_numbered (member_texts test) (member_texts_number test) (n + 1) b.members)
texts_number test n (command.Sequence b) =
    ap (λ t. all_of (meta_texts test) b.meta && t)
    (all_seq_numbered (seq_member_texts test) (seq_texts_number test) (n + 1) b.members)
texts_number test n (command.Status c) = refl
texts_number test n (command.Results c) = refl

member_data_number : (test : List ℕ → Bool) (n : ℕ) (m : Member)
    → member_data test (with_number n m) ≡ member_data test m
unfolding member_data
member_data_number test n (member.One c) = refl
member_data_number test n (member.Alert c) = refl

seq_data_number : (test : List ℕ → Bool) (n : ℕ) (m : SeqMember)
    → seq_member_data test (numbered_seq_member n m) ≡ seq_member_data test m
unfolding seq_member_data
seq_data_number test n (seq_member.Single m) = member_data_number test n m
seq_data_number test n (seq_member.Atomic b) =
    all_numbered (member_data test) (member_data_number test) (n + 1) b.members

pub data_number : (test : List ℕ → Bool) (n : ℕ) (c : Command)
    → command_data test (with_numbers n c) ≡ command_data test c
unfolding command_data with_numbers
data_number test n (command.Plain c) = refl
data_number test n (command.Alert c) = refl
data_number test n (command.Atomic b) = all_numbered (member_data test) (member_data_number test) (n + 1) b.members
data_number test n (command.Sequence b) =
    all_seq_numbered (seq_member_data test) (seq_data_number test) (n + 1) b.members
data_number test n (command.Status c) = refl
data_number test n (command.Results c) = refl

filled_number : (n : ℕ) (m : Member) → member_filled (with_number n m) ≡ member_filled m
unfolding member_filled plain_filled
filled_number n (member.One c) = refl
filled_number n (member.Alert c) = refl

long_numbered : (n : ℕ) (ms : List Member) → length (numbered_members n ms) ≡ length ms
unfolding numbered_members
long_numbered n [] = refl
long_numbered n (m ∷ ms) = ap suc (long_numbered (n + 1) ms)

long_seq_numbered : (n : ℕ) (ms : List SeqMember) → length (numbered_seq_members n ms) ≡ length ms
unfolding numbered_seq_members
long_seq_numbered n [] = refl
long_seq_numbered n (m ∷ ms) = ap suc (long_seq_numbered (n + ids_in_seq_member m) ms)

seq_filled_number : (n : ℕ) (m : SeqMember) → seq_member_filled (numbered_seq_member n m) ≡ seq_member_filled m
unfolding seq_member_filled atomic_filled
seq_filled_number n (seq_member.Single m) = filled_number n m
seq_filled_number n (seq_member.Atomic b) =
    same_and (ap (λ k. not (k == 0)) (long_numbered (n + 1) b.members))
    (all_numbered member_filled filled_number (n + 1) b.members)

filled_numbers : (n : ℕ) (c : Command) → command_filled (with_numbers n c) ≡ command_filled c
unfolding command_filled with_numbers plain_filled atomic_filled
filled_numbers n (command.Plain c) = refl
filled_numbers n (command.Alert c) = refl
filled_numbers n (command.Atomic b) =
    same_and (ap (λ k. not (k == 0)) (long_numbered (n + 1) b.members))
    (all_numbered member_filled filled_number (n + 1) b.members)
filled_numbers n (command.Sequence b) =
    same_and (ap (λ k. not (k == 0)) (long_seq_numbered (n + 1) b.members))
    (all_seq_numbered seq_member_filled seq_filled_number (n + 1) b.members)
filled_numbers n (command.Status c) = refl
filled_numbers n (command.Results c) = refl

correlates_number : (n : ℕ) (m : Member) → member_correlates (with_number n m) ≡ member_correlates m
unfolding member_correlates plain_correlates
correlates_number n (member.One c) = refl
correlates_number n (member.Alert c) = refl

seq_correlates_number : (n : ℕ) (m : SeqMember)
    → seq_member_correlates (numbered_seq_member n m) ≡ seq_member_correlates m
unfolding seq_member_correlates
seq_correlates_number n (seq_member.Single m) = correlates_number n m
seq_correlates_number n (seq_member.Atomic b) = all_numbered member_correlates correlates_number (n + 1) b.members

correlates_numbers : (n : ℕ) (c : Command) → command_correlates (with_numbers n c) ≡ command_correlates c
unfolding command_correlates with_numbers plain_correlates
correlates_numbers n (command.Plain c) = refl
correlates_numbers n (command.Alert c) = refl
correlates_numbers n (command.Atomic b) = all_numbered member_correlates correlates_number (n + 1) b.members
correlates_numbers n (command.Sequence b) =
    all_seq_numbered seq_member_correlates seq_correlates_number (n + 1) b.members
correlates_numbers n (command.Status c) = refl
correlates_numbers n (command.Results c) = refl

pub is_one : (n : ℕ) → 1 ≤ n → is_number n ≡ true
is_one n h = ap not (ne_eqb n 0 (λ e. omega (arith, e, h)))

one_numbered : (n : ℕ) (m : Member) → 1 ≤ n → member_numbers (with_number n m) ≡ true
unfolding member_numbers
one_numbered n (member.One c) h = is_one n h
one_numbered n (member.Alert c) h = is_one n h

pub are_numbered : (n : ℕ) (ms : List Member) → 1 ≤ n → list_all member_numbers (numbered_members n ms) ≡ true
unfolding numbered_members
are_numbered n [] h = refl
are_numbered n (m ∷ ms) h = both _ _ (one_numbered n m h) (are_numbered (n + 1) ms (omega arith))

one_seq_numbered : (n : ℕ) (m : SeqMember) → 1 ≤ n → seq_member_numbers (numbered_seq_member n m) ≡ true
unfolding seq_member_numbers atomic_numbers
one_seq_numbered n (seq_member.Single m) h = one_numbered n m h
one_seq_numbered n (seq_member.Atomic b) h = both _ _ (is_one n h) (are_numbered (n + 1) b.members (omega arith))

pub are_seq_numbered : (n : ℕ) (ms : List SeqMember) → 1 ≤ n
    → list_all seq_member_numbers (numbered_seq_members n ms) ≡ true
unfolding numbered_seq_members
are_seq_numbered n [] h = refl
are_seq_numbered n (m ∷ ms) h =
    both _ _ (one_seq_numbered n m h) (are_seq_numbered (n + ids_in_seq_member m) ms (omega (arith, h)))

numbers_numbered : (n : ℕ) (c : Command) → 1 ≤ n → command_numbers (with_numbers 1 c) ≡ true
    → command_numbers (with_numbers n c) ≡ true
unfolding command_numbers with_numbers atomic_numbers
numbers_numbered n (command.Plain c) h k = is_one n h
numbers_numbered n (command.Alert c) h k = is_one n h
numbers_numbered n (command.Atomic b) h k = both _ _ (is_one n h) (are_numbered (n + 1) b.members (omega arith))
numbers_numbered n (command.Sequence b) h k = both _ _ (is_one n h) (are_seq_numbered (n + 1) b.members (omega arith))
numbers_numbered n (command.Status c) h k = both _ _ (is_one n h) (and_parts (is_number 1) (is_number c.msg_ref) k).1
numbers_numbered n (command.Results c) h k =
    both _ _ (is_one n h) (and_parts (is_number 1) (all_of is_number c.msg_ref) k).1

-- ---- a message of fit commands is fit

fit_all : (test : Command → Bool) (P : Command → Type 0)
    → ((n : ℕ) (c : Command) → 1 ≤ n → P c → test (with_numbers n c) ≡ true)
    → (n : ℕ) (cs : List Command) → 1 ≤ n → AllByRecursion P cs → list_all test (numbered n cs) ≡ true
fit_all test P one n [] h all = refl
fit_all test P one n (c ∷ cs) h all =
    both _ _ (one n c h all.0) (fit_all test P one (n + ids_in c) cs (omega (arith, h)) all.1)

pub numbered_fit : (h : Header) (cs : List Command) → IsFit h [] → AllByRecursion IsFitCommand cs
    → IsFit h (numbered 1 cs)
numbered_fit h cs fit all = record {
  texts = both _ _ (and_parts _ true fit.texts).0
      (fit_all (command_texts is_text) IsFitCommand (λ n c low f. texts_number is_text n c ∙ f.texts) 1 cs (omega arith)
      all);
  numbers = both _ _ (and_parts _ true fit.numbers).0
      (fit_all command_numbers IsFitCommand (λ n c low f. numbers_numbered n c low f.numbers) 1 cs (omega arith) all);
  filled = fit_all command_filled IsFitCommand (λ n c low f. filled_numbers n c ∙ f.filled) 1 cs (omega arith) all;
  correlators =
      fit_all command_correlates IsFitCommand (λ n c low f. correlates_numbers n c ∙ f.correlators) 1 cs (omega arith)
      all;
  short_texts = both _ _ (and_parts _ true fit.short_texts).0
      (fit_all (command_texts is_in_limit) IsFitCommand (λ n c low f. texts_number is_in_limit n c ∙ f.short_texts) 1 cs
      (omega arith) all);
  short_data = both _ _ (and_parts _ true fit.short_data).0
      (fit_all (command_data is_in_limit) IsFitCommand (λ n c low f. data_number is_in_limit n c ∙ f.short_data) 1 cs
      (omega arith) all);
}

pub asks_fit : IsFitCommand asks_next
unfolding command_texts command_data command_numbers command_filled command_correlates with_numbers alert_texts
asks_fit =
    record { texts = refl; numbers = refl; filled = refl; correlators = refl; short_texts = refl; short_data = refl }
