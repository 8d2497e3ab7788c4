-- The numbers of commands stay in the ranges of their types where they are numbered, cut and left, and a message of
-- such commands can be read again.
use Rattle.std.proofs.Common.{◌≡◌, ◌<◌, ◌≤◌, ◌+◌, ◌-◌, ◌^◌, ℕ, zero, suc, Bool, true, false, List, [], ◌∷◌}
use Rattle.std.proofs.Common.{◌++◌, length, map, take, drop, Option, None, Some, IfSome, arith}
use Rattle.std.specs.List.{list_all, AllByRecursion}
use Rattle.std.proofs.lemmas.Bool.{and_parts, leb-true}
use Rattle.wbxml_tokens.specs.Spelling.{spelled, page_behind}
use Rattle.syncml_types.specs.declared.values.Meta.{Meta}
use Rattle.syncml_types.specs.declared.values.Item.{Item}
use Rattle.syncml_types.specs.declared.values.Header.{Header}
use Rattle.syncml_types.specs.declared.command.Verb.{Verb}
use Rattle.syncml_types.specs.declared.command.Verb.TheVariants as verb
use Rattle.syncml_types.specs.declared.command.Member.{Member}
use Rattle.syncml_types.specs.declared.command.Member.TheVariants as member
use Rattle.syncml_types.specs.declared.command.SeqMember.{SeqMember}
use Rattle.syncml_types.specs.declared.command.SeqMember.TheVariants as seq_member
use Rattle.syncml_types.specs.declared.command.Command.{Command}
use Rattle.syncml_types.specs.declared.command.Command.TheVariants as command
use Rattle.syncml_types.specs.Message.{Parts}
use Rattle.syncml_types.specs.Canonical.{canonical, command_tokens, commands_tokens}
use Rattle.syncml_types.specs.Fitness.{all_of, is_in_limit, item_data, member_data, seq_member_data, command_data}
use Rattle.syncml_types.specs.Fitness.{IsFit}
use Rattle.syncml_parts.specs.Numbering.{with_number, numbered_members, numbered_seq_member, numbered_seq_members}
use Rattle.syncml_parts.specs.Numbering.{ids_in_seq_member, ids_in_seq_members, ids_in, with_numbers}
use Rattle.syncml_parts.specs.Packing.{bytes_in, only_changed, write_changed, member_changed, seq_member_changed}
use Rattle.syncml_parts.specs.Packing.{last_changed, cut_changed}
use Rattle.syncml_codec.specs.Ranges.{MetaRange, ItemRange, HeaderRange, MemberRange, SeqMemberRange, CommandRange}
use Rattle.dm_pack.specs.declared.filled.Tail.{Tail}
use Rattle.dm_pack.specs.declared.filled.Tail.TheVariants.{Final, NextMessage, Nothing}
use Rattle.dm_pack.specs.Entries.{Entry, IsFitCommand, IsReady, whole_entry, with_size, part_item, part_of, rest_item}
use Rattle.dm_pack.specs.Entries.{last_alone, rest_of}
use Rattle.dm_pack.specs.Filling.{numbered, commands_of, taken, cut, next_part, next_rest, tail_of}
use Rattle.dm_pack.specs.Filling.{tail_commands, is_final, fill, left_after, IsReadyHeader}
use Rattle.dm_pack.specs.Measures.{ids_of}
use Rattle.dm_pack.proofs.Numbers.{many_bytes}
use Rattle.dm_pack.proofs.Measuring.{long_parted}
use Rattle.dm_pack.proofs.Within.{apart, fill_within}
use Rattle.dm_pack.proofs.Left.{what_is_left_is_ready}
use Rattle.dm_pack.proofs.Taking.{message_fit}
use Rattle.dm_ends.proofs.Hearing.{IsRoom}
use Rattle.dm_world.specs.Held.{IsFitInRange}

-- ---- lists

pub all-append : {A : Type 0} (P : A → Type 0) (xs ys : List A) → AllByRecursion P xs → AllByRecursion P ys
    → AllByRecursion P (xs ++ ys)
all-append P [] ys h k = k
all-append P (x ∷ xs) ys h k = (h.0, all-append P xs ys h.1 k)

pub all-first : {A : Type 0} (P : A → Type 0) (xs ys : List A) → AllByRecursion P (xs ++ ys) → AllByRecursion P xs
all-first P [] ys h = tt
all-first P (x ∷ xs) ys h = (h.0, all-first P xs ys h.1)

pub all-rest : {A : Type 0} (P : A → Type 0) (xs ys : List A) → AllByRecursion P (xs ++ ys) → AllByRecursion P ys
all-rest P [] ys h = h
all-rest P (x ∷ xs) ys h = all-rest P xs ys h.1

pub all-front : {A : Type 0} (P : A → Type 0) (n : ℕ) (xs : List A) → AllByRecursion P xs
    → AllByRecursion P (take n xs)
all-front P zero xs h = tt
all-front P (suc n) [] h = tt
all-front P (suc n) (x ∷ xs) h = (h.0, all-front P n xs h.1)

pub all-behind : {A : Type 0} (P : A → Type 0) (n : ℕ) (xs : List A) → AllByRecursion P xs
    → AllByRecursion P (drop n xs)
all-behind P zero xs h = h
all-behind P (suc n) [] h = tt
all-behind P (suc n) (x ∷ xs) h = all-behind P n xs h.1

-- ---- a command whose item is changed

-- what an item is changed to has its numbers in their ranges
abbrev KeepsRange : (Item → Item) → Type 0
KeepsRange f = (i : Item) → item_data is_in_limit i ≡ true → ItemRange i → ItemRange (f i)

only-range : (f : Item → Item) → KeepsRange f → (is : List Item) → list_all (item_data is_in_limit) is ≡ true
    → AllByRecursion ItemRange is
    → AllByRecursion ItemRange (only_changed f is)
only-range f keeps [] d h = h
only-range f keeps (i ∷ []) d h = (keeps i (and_parts (item_data is_in_limit i) true d).0 h.0, tt)
only-range f keeps (i ∷ j ∷ is) d h = h

write-range : (f : Item → Item) → KeepsRange f → (v : Verb) (is : List Item)
    → list_all (item_data is_in_limit) is ≡ true
    → AllByRecursion ItemRange is
    → AllByRecursion ItemRange (write_changed f v is)
write-range f keeps verb.Add is d h = only-range f keeps is d h
write-range f keeps verb.Replace is d h = only-range f keeps is d h
write-range f keeps verb.Copy is d h = h
write-range f keeps verb.Delete is d h = h
write-range f keeps verb.Exec is d h = h
write-range f keeps verb.Get is d h = h

member-range : (f : Item → Item) → KeepsRange f → (m : Member) → member_data is_in_limit m ≡ true → MemberRange m
    → MemberRange (member_changed f m)
unfolding member_data
member-range f keeps (member.One c) d h =
    record { id = h.id; meta = h.meta; items = write-range f keeps c.verb c.items d h.items }
member-range f keeps (member.Alert c) d h = h

seq-range : (f : Item → Item) → KeepsRange f → (m : SeqMember) → seq_member_data is_in_limit m ≡ true → SeqMemberRange m
    → SeqMemberRange (seq_member_changed f m)
unfolding seq_member_data
seq-range f keeps (seq_member.Single m) d h = member-range f keeps m d h
seq-range f keeps (seq_member.Atomic b) d h = h

last-range : {A : Type 0} (P : A → Type 0) (test : A → Bool) (f : A → A)
    → ((x : A) → test x ≡ true → P x → P (f x)) → (xs : List A) → list_all test xs ≡ true → AllByRecursion P xs
    → AllByRecursion P (last_changed f xs)
last-range P test f one [] d h = h
last-range P test f one (x ∷ []) d h = (one x (and_parts (test x) true d).0 h.0, tt)
last-range P test f one (x ∷ y ∷ xs) d h =
    (h.0, last-range P test f one (y ∷ xs) (and_parts (test x) (list_all test (y ∷ xs)) d).1 h.1)

changed-range : (f : Item → Item) → KeepsRange f → (c : Command) → command_data is_in_limit c ≡ true → CommandRange c
    → CommandRange (cut_changed f c)
unfolding command_data
changed-range f keeps (command.Plain c) d h =
    record { id = h.id; meta = h.meta; items = write-range f keeps c.verb c.items d h.items }
changed-range f keeps (command.Alert c) d h = h
changed-range f keeps (command.Atomic b) d h = record {
  id = h.id;
  meta = h.meta;
  members =
      last-range MemberRange (member_data is_in_limit) (member_changed f) (member-range f keeps) b.members d h.members;
}
changed-range f keeps (command.Sequence b) d h = record {
  id = h.id;
  meta = h.meta;
  members =
      last-range SeqMemberRange (seq_member_data is_in_limit) (seq_member_changed f) (seq-range f keeps) b.members d
      h.members;
}
changed-range f keeps (command.Status c) d h = h
changed-range f keeps (command.Results c) d h = record {
  id = h.id;
  msg_ref = h.msg_ref;
  cmd_ref = h.cmd_ref;
  meta = h.meta;
  items = only-range f keeps c.items d h.items;
}

-- ---- a part, and what is left

sized-range : (size : ℕ) (o : Option Meta) → size < 2 ^ 64 → IfSome o MetaRange → IfSome (with_size size o) MetaRange
sized-range size None low h = record { size = low; max_msg = tt; max_obj = tt }
sized-range size (Some m) low h = record { size = low; max_msg = h.max_msg; max_obj = h.max_obj }

short-bytes : (o : Option (List ℕ)) → all_of is_in_limit o ≡ true → length (bytes_in o) < 2 ^ 64
short-bytes None h = omega arith
short-bytes (Some v) h = let low = leb-true (length v) 2147483648 h in omega (arith, low)

part-keeps : (begun : Bool) (n : ℕ) → KeepsRange (part_item begun n)
unfolding item_data
part-keeps true n i d h = h
part-keeps false n i d h = sized-range (length (bytes_in i.value)) i.meta (short-bytes i.value d) h

part-range : (e : Entry) (n : ℕ) → IsFitCommand e.command → CommandRange e.command → CommandRange (part_of e n)
unfolding part_of
part-range e n fit h = changed-range (part_item e.begun n) (part-keeps e.begun n) e.command fit.short_data h

alone-range : (c : Command) → CommandRange c → CommandRange (last_alone c)
alone-range (command.Plain c) h = h
alone-range (command.Alert c) h = h
alone-range (command.Atomic b) h = record {
  id = h.id;
  meta = h.meta;
  members = all-behind MemberRange (length b.members - 1) b.members h.members;
}
alone-range (command.Sequence b) h = record {
  id = h.id;
  meta = h.meta;
  members = all-behind SeqMemberRange (length b.members - 1) b.members h.members;
}
alone-range (command.Status c) h = h
alone-range (command.Results c) h = h

rest-range : (e : Entry) (n : ℕ) → IsFitCommand e.command → CommandRange e.command → CommandRange (rest_of e n).command
unfolding rest_of
rest-range e n fit h =
    alone-range (cut_changed (rest_item n) e.command)
    (changed-range (rest_item n) (λ i d r. r) e.command fit.short_data h)

-- ---- CmdIDs

member-number : (n : ℕ) (m : Member) → n < 2 ^ 32 → MemberRange m → MemberRange (with_number n m)
member-number n (member.One c) low h = record { id = low; meta = h.meta; items = h.items }
member-number n (member.Alert c) low h = record { id = low; code = h.code; items = h.items }

members-number : (n : ℕ) (ms : List Member) → n + length ms ≤ 2 ^ 32 → AllByRecursion MemberRange ms
    → AllByRecursion MemberRange (numbered_members n ms)
unfolding numbered_members
members-number n [] low h = tt
members-number n (m ∷ ms) low h =
    (member-number n m (omega (arith, low)) h.0, members-number (n + 1) ms (omega (arith, low)) h.1)

seq-number : (n : ℕ) (m : SeqMember) → n + ids_in_seq_member m ≤ 2 ^ 32 → SeqMemberRange m
    → SeqMemberRange (numbered_seq_member n m)
seq-number n (seq_member.Single m) low h = member-number n m (omega (arith, low)) h
seq-number n (seq_member.Atomic b) low h = record {
  id = omega (arith, low);
  meta = h.meta;
  members = members-number (n + 1) b.members (omega (arith, low)) h.members;
}

seqs-number : (n : ℕ) (ms : List SeqMember) → n + ids_in_seq_members ms ≤ 2 ^ 32 → AllByRecursion SeqMemberRange ms
    → AllByRecursion SeqMemberRange (numbered_seq_members n ms)
unfolding numbered_seq_members ids_in_seq_members
seqs-number n [] low h = tt
seqs-number n (m ∷ ms) low h = (
  seq-number n m (omega (arith, low)) h.0,
  seqs-number (n + ids_in_seq_member m) ms (omega (arith, low)) h.1,
)

number-range : (n : ℕ) (c : Command) → n + ids_in c ≤ 2 ^ 32 → CommandRange c → CommandRange (with_numbers n c)
unfolding ids_in with_numbers
number-range n (command.Plain c) low h = record { id = omega (arith, low); meta = h.meta; items = h.items }
number-range n (command.Alert c) low h = record { id = omega (arith, low); code = h.code; items = h.items }
number-range n (command.Atomic b) low h = record {
  id = omega (arith, low);
  meta = h.meta;
  members = members-number (n + 1) b.members (omega (arith, low)) h.members;
}
number-range n (command.Sequence b) low h = record {
  id = omega (arith, low);
  meta = h.meta;
  members = seqs-number (n + 1) b.members (omega (arith, low)) h.members;
}
number-range n (command.Status c) low h = record {
  id = omega (arith, low);
  msg_ref = h.msg_ref;
  cmd_ref = h.cmd_ref;
  code = h.code;
  chal = h.chal;
  items = h.items;
}
number-range n (command.Results c) low h = record {
  id = omega (arith, low);
  msg_ref = h.msg_ref;
  cmd_ref = h.cmd_ref;
  meta = h.meta;
  items = h.items;
}

numbered-range : (n : ℕ) (cs : List Command) → n + ids_of cs ≤ 2 ^ 32 → AllByRecursion CommandRange cs
    → AllByRecursion CommandRange (numbered n cs)
numbered-range n [] low h = tt
numbered-range n (c ∷ cs) low h =
    (number-range n c (omega (arith, low)) h.0, numbered-range (n + ids_in c) cs (omega (arith, low)) h.1)

-- each CmdID takes a byte at least
many-bytes : (page n : ℕ) (cs : List Command) → ids_of cs ≤ length (spelled page (commands_tokens (numbered n cs)))
unfolding commands_tokens
many-bytes page n [] = omega arith
many-bytes page n (c ∷ cs) =
    let one = many_bytes page n c in
    let rest = many-bytes (page_behind page (command_tokens (with_numbers n c))) (n + ids_in c) cs in
    let sum =
    apart page (command_tokens (with_numbers n c)) (commands_tokens (numbered (n + ids_in c) cs)) in
    omega (arith, one, rest, sum)

few-ids : (h : Header) (cs : List Command) (last : Bool)
    → ids_of cs ≤ length (canonical (record { header = h; body = numbered 1 cs; last = last }))
few-ids h [] last = omega arith
few-ids h (c ∷ cs) last =
    let whole = long_parted h (numbered 1 (c ∷ cs)) last (omega arith) in
    let many = many-bytes 0 1 (c ∷ cs) in
    omega (arith, whole, many)

-- ---- a message

-- a message that can be held, no longer than any that is read
pub record IsShortHeld (m : Parts) : Type 0 where
  pub held : IsFitInRange m
  pub short : length (canonical m) ≤ 65536

pub made-held : (h : Header) (cs : List Command) (last : Bool) → HeaderRange h → IsFit h (numbered 1 cs)
    → AllByRecursion CommandRange cs
    → length (canonical (record { header = h; body = numbered 1 cs; last = last })) ≤ 65536
    → IsShortHeld (record { header = h; body = numbered 1 cs; last = last })
made-held h cs last head fit range short = record {
  held = record {
    fit = fit;
    numbers = record {
      header = head;
      body = numbered-range 1 cs (let few = few-ids h cs last in omega (arith, few, short)) range;
    };
  };
  short = short;
}

-- ---- a message that is filled from a queue

-- the numbers of an entry are in their ranges
abbrev pub EntryRange : Entry → Type 0
EntryRange e = CommandRange e.command

abbrev pub AllEntryRange : List Entry → Type 0
AllEntryRange = AllByRecursion EntryRange

-- and it can be sent
abbrev pub CanGo : Entry → Type 0
CanGo e = IsReady e × EntryRange e

abbrev pub CanAllGo : List Entry → Type 0
CanAllGo = AllByRecursion CanGo

all-ready : (es : List Entry) → CanAllGo es → AllByRecursion IsReady es
all-ready [] h = tt
all-ready (e ∷ es) h = (h.0.0, all-ready es h.1)

pub both-go : (es : List Entry) → AllByRecursion IsReady es → AllEntryRange es → CanAllGo es
both-go [] h k = tt
both-go (e ∷ es) h k = ((h.0, k.0), both-go es h.1 k.1)

pub fresh-range : (cs : List Command) → AllByRecursion CommandRange cs → AllEntryRange (map whole_entry cs)
fresh-range [] h = tt
fresh-range (c ∷ cs) h = (h.0, fresh-range cs h.1)

commands-range : (es : List Entry) → CanAllGo es → AllByRecursion CommandRange (commands_of es)
commands-range [] h = tt
commands-range (e ∷ es) h = (h.0.1, commands-range es h.1)

next-part-range : (n : ℕ) (es : List Entry) → CanAllGo es → AllByRecursion CommandRange (next_part n es)
next-part-range zero es h = tt
next-part-range (suc n) [] h = tt
next-part-range (suc n) (e ∷ es) h = (part-range e (suc n) h.0.0.fit h.0.1, tt)

pub entries-range : (es : List Entry) → CanAllGo es → AllEntryRange es
entries-range [] h = tt
entries-range (e ∷ es) h = (h.0.1, entries-range es h.1)

next-rest-range : (n : ℕ) (es : List Entry) → CanAllGo es
    → AllEntryRange (next_rest n es)
next-rest-range zero es h = entries-range es h
next-rest-range (suc n) [] h = tt
next-rest-range (suc n) (e ∷ es) h = (rest-range e (suc n) h.0.0.fit h.0.1, entries-range es h.1)

tail-range : (t : Tail) → AllByRecursion CommandRange (tail_commands t)
tail-range Final = tt
tail-range NextMessage = (record { id = omega arith; code = omega arith; items = tt }, tt)
tail-range Nothing = tt

pub fill-held : (es : List Entry) (h : Header) (room : ℕ) (heard : Bool) → IsReadyHeader h → HeaderRange h → CanAllGo es
    → IsRoom room
    → IsShortHeld (fill es h room heard).message
unfolding fill
fill-held es h room heard ready range all is =
    let whole = taken h room [] es in
    let before = commands_of (take whole es) in
    let next = drop whole es in
    let n = cut h room before next in
    let t = tail_of (next_rest n next) heard in
    let short = fill_within h es room heard ready is.0 in
    let most = is.1 in
    made-held h (before ++ next_part n next ++ tail_commands t) (is_final t) range
    (message_fit h es whole n t ready.fit (all-ready es all))
    (all-append CommandRange (before ++ next_part n next) (tail_commands t)
    (all-append CommandRange before (next_part n next) (commands-range (take whole es) (all-front CanGo whole es all))
    (next-part-range n next (all-behind CanGo whole es all))) (tail-range t))
    (omega (arith, short, most))

pub left-goes : (es : List Entry) (h : Header) (room : ℕ) (heard : Bool) → CanAllGo es
    → CanAllGo (fill es h room heard).left
unfolding fill left_after
left-goes es h room heard all =
    let whole = taken h room [] es in
    let n = cut h room (commands_of (take whole es)) (drop whole es) in
    both-go (next_rest n (drop whole es)) (what_is_left_is_ready es whole n (all-ready es all))
    (next-rest-range n (drop whole es) (all-behind CanGo whole es all))
