-- CmdIDs, and the item whose Data may be cut.
use Rattle.std.proofs.Common.{◌≡◌, ◌≤◌, ◌+◌, ℕ, suc, Bool, true, false, if◌then◌else◌, List, [], ◌∷◌, ◌++◌, length}
use Rattle.std.proofs.Common.{length-append, option_and_then, refl, sym, ap, ◌∙◌, arith}
use Rattle.wbxml_tables.specs.declared.Element.{Element}
use Rattle.wbxml_tables.specs.declared.Element.TheVariants.{EAtomic, ESequence, ECmdID, ENoResp}
use Rattle.wbxml_tokens.specs.declared.token.Token.{Token}
use Rattle.wbxml_tokens.specs.declared.token.Token.TheVariants.{Tag, End, Text, Opaque}
use Rattle.wbxml_tokens.specs.Spelling.{token_bytes, page_after, spelled}
use Rattle.syncml_types.specs.declared.values.Item.{Item}
use Rattle.syncml_types.specs.declared.command.Member.{Member}
use Rattle.syncml_types.specs.declared.command.Member.TheVariants as member
use Rattle.syncml_types.specs.declared.command.Block.{Block}
use Rattle.syncml_types.specs.declared.command.SeqMember.{SeqMember}
use Rattle.syncml_types.specs.declared.command.SeqMember.TheVariants as seq_member
use Rattle.syncml_types.specs.declared.command.Command.{Command}
use Rattle.syncml_types.specs.declared.command.Command.TheVariants as command
use Rattle.syncml_types.specs.Canonical.{parent_tokens, number_tokens, flag_tokens, optional, meta_tokens, plain_tokens}
use Rattle.syncml_types.specs.Canonical.{alert_tokens, member_tokens, members_tokens, atomic_tokens, seq_member_tokens}
use Rattle.syncml_types.specs.Canonical.{seq_members_tokens, sequence_tokens, status_tokens, results_tokens}
use Rattle.syncml_types.specs.Canonical.{command_tokens}
use Rattle.syncml_parts.specs.Numbering.{with_number, numbered_members, numbered_seq_member, numbered_seq_members}
use Rattle.syncml_parts.specs.Numbering.{ids_in_seq_member, ids_in_seq_members, ids_in, with_numbers}
use Rattle.syncml_parts.specs.Packing.{member_item, seq_member_item, list_last, cut_item, member_changed}
use Rattle.syncml_parts.specs.Packing.{seq_member_changed, last_changed, cut_changed}
use Rattle.syncml_parts.proofs.Last.{last_next}
use Rattle.dm_pack.specs.Entries.{Entry, IsReady, bare_length, entry_limit, without_value}
use Rattle.dm_pack.specs.Filling.{numbered}
use Rattle.dm_pack.specs.Measures.{ids_of}

-- ---- numbers and changes

number_member : (f : Item → Item) (n : ℕ) (m : Member)
    → with_number n (member_changed f m) ≡ member_changed f (with_number n m)
number_member f n (member.One c) = refl
number_member f n (member.Alert c) = refl

number_members : (f : Item → Item) (n : ℕ) (ms : List Member)
    → numbered_members n (last_changed (member_changed f) ms) ≡ last_changed (member_changed f) (numbered_members n ms)
unfolding numbered_members
number_members f n [] = refl
number_members f n (m ∷ []) = ap (λ x. x ∷ []) (number_member f n m)
number_members f n (m ∷ k ∷ ms) = ap (λ l. with_number n m ∷ l) (number_members f (n + 1) (k ∷ ms))

number_seq_member : (f : Item → Item) (n : ℕ) (m : SeqMember)
    → numbered_seq_member n (seq_member_changed f m) ≡ seq_member_changed f (numbered_seq_member n m)
number_seq_member f n (seq_member.Single m) = ap seq_member.Single (number_member f n m)
number_seq_member f n (seq_member.Atomic b) = refl

number_seq_members : (f : Item → Item) (n : ℕ) (ms : List SeqMember)
    → numbered_seq_members n (last_changed (seq_member_changed f) ms)
    ≡ last_changed (seq_member_changed f) (numbered_seq_members n ms)
unfolding numbered_seq_members
number_seq_members f n [] = refl
number_seq_members f n (m ∷ []) = ap (λ x. x ∷ []) (number_seq_member f n m)
number_seq_members f n (m ∷ k ∷ ms) =
    ap (λ l. numbered_seq_member n m ∷ l) (number_seq_members f (n + ids_in_seq_member m) (k ∷ ms))

pub number_changed : (f : Item → Item) (n : ℕ) (c : Command)
    → with_numbers n (cut_changed f c) ≡ cut_changed f (with_numbers n c)
unfolding with_numbers
number_changed f n (command.Plain c) = refl
number_changed f n (command.Alert c) = refl
number_changed f n (command.Atomic b) =
    ap (λ ms. command.Atomic (record b { id = n; members = ms })) (number_members f (n + 1) b.members)
number_changed f n (command.Sequence b) =
    ap (λ ms. command.Sequence (record b { id = n; members = ms })) (number_seq_members f (n + 1) b.members)
number_changed f n (command.Status c) = refl
number_changed f n (command.Results c) = refl

item_number : (n : ℕ) (m : Member) → member_item (with_number n m) ≡ member_item m
item_number n (member.One c) = refl
item_number n (member.Alert c) = refl

item_members : (n : ℕ) (ms : List Member)
    → option_and_then member_item (list_last (numbered_members n ms)) ≡ option_and_then member_item (list_last ms)
unfolding numbered_members
item_members n [] = refl
item_members n (m ∷ []) = item_number n m
item_members n (m ∷ k ∷ ms) =
    ap (option_and_then member_item)
    (last_next (with_number n m) (with_number (n + 1) k) (numbered_members (n + 1 + 1) ms))
    ∙ item_members (n + 1) (k ∷ ms)
    ∙ ap (option_and_then member_item) (sym (last_next m k ms))

item_seq_number : (n : ℕ) (m : SeqMember) → seq_member_item (numbered_seq_member n m) ≡ seq_member_item m
item_seq_number n (seq_member.Single m) = item_number n m
item_seq_number n (seq_member.Atomic b) = refl

item_seq_members : (n : ℕ) (ms : List SeqMember)
    → option_and_then seq_member_item (list_last (numbered_seq_members n ms))
    ≡ option_and_then seq_member_item (list_last ms)
unfolding numbered_seq_members
item_seq_members n [] = refl
item_seq_members n (m ∷ []) = item_seq_number n m
item_seq_members n (m ∷ k ∷ ms) =
    ap (option_and_then seq_member_item)
    (last_next (numbered_seq_member n m) (numbered_seq_member (n + ids_in_seq_member m) k)
    (numbered_seq_members (n + ids_in_seq_member m + ids_in_seq_member k) ms))
    ∙ item_seq_members (n + ids_in_seq_member m) (k ∷ ms)
    ∙ ap (option_and_then seq_member_item) (sym (last_next m k ms))

pub item_numbered : (n : ℕ) (c : Command) → cut_item (with_numbers n c) ≡ cut_item c
unfolding with_numbers
item_numbered n (command.Plain c) = refl
item_numbered n (command.Alert c) = refl
item_numbered n (command.Atomic b) = item_members (n + 1) b.members
item_numbered n (command.Sequence b) = item_seq_members (n + 1) b.members
item_numbered n (command.Status c) = refl
item_numbered n (command.Results c) = refl

-- ---- how many

pub length_last : {A : Type 0} (f : A → A) (xs : List A) → length (last_changed f xs) ≡ length xs
length_last f [] = refl
length_last f (x ∷ []) = refl
length_last f (x ∷ y ∷ xs) = ap suc (length_last f (y ∷ xs))

ids_seq_member : (f : Item → Item) (m : SeqMember) → ids_in_seq_member (seq_member_changed f m) ≡ ids_in_seq_member m
ids_seq_member f (seq_member.Single m) = refl
ids_seq_member f (seq_member.Atomic b) = refl

ids_seq_members : (f : Item → Item) (ms : List SeqMember)
    → ids_in_seq_members (last_changed (seq_member_changed f) ms) ≡ ids_in_seq_members ms
unfolding ids_in_seq_members
ids_seq_members f [] = refl
ids_seq_members f (m ∷ []) = ap (λ n. n + 0) (ids_seq_member f m)
ids_seq_members f (m ∷ k ∷ ms) = ap (λ n. ids_in_seq_member m + n) (ids_seq_members f (k ∷ ms))

pub ids_changed : (f : Item → Item) (c : Command) → ids_in (cut_changed f c) ≡ ids_in c
unfolding ids_in
ids_changed f (command.Plain c) = refl
ids_changed f (command.Alert c) = refl
ids_changed f (command.Atomic b) = ap (λ n. 1 + n) (length_last (member_changed f) b.members)
ids_changed f (command.Sequence b) = ap (λ n. 1 + n) (ids_seq_members f b.members)
ids_changed f (command.Status c) = refl
ids_changed f (command.Results c) = refl

-- each CmdID takes a token, and each token a byte
one_member : (m : Member) → 1 ≤ length (member_tokens m)
unfolding member_tokens plain_tokens alert_tokens
one_member (member.One c) = omega arith
one_member (member.Alert c) = omega arith

many_members : (n : ℕ) (ms : List Member) → length ms ≤ length (members_tokens (numbered_members n ms))
unfolding members_tokens numbered_members
many_members n [] = omega arith
many_members n (m ∷ ms) =
    let one = one_member (with_number n m) in
    let rest = many_members (n + 1) ms in
    let sum = length-append (member_tokens (with_number n m)) (members_tokens (numbered_members (n + 1) ms)) in
    omega (arith, one, rest, sum)

inside_parent : (e : Element) (a b : List Token) → 1 + length b ≤ length (parent_tokens e (a ++ b))
inside_parent e a b =
    let sum = length-append a b in
    let whole = length-append (a ++ b) (End ∷ []) in
    omega (arith, sum, whole)

atomic_head : (e : Element) (a b c d : List Token) (n : ℕ) → n ≤ length d
    → 1 + n ≤ length (parent_tokens e (a ++ b ++ c ++ d))
atomic_head e a b c d n h = let inside = inside_parent e (a ++ b ++ c) d in omega (arith, inside, h)

many_atomic : (n : ℕ) (b : Block Member)
    → 1 + length b.members ≤ length (atomic_tokens (record b { id = n; members = numbered_members (n + 1) b.members }))
unfolding atomic_tokens
many_atomic n b =
    atomic_head EAtomic (number_tokens ECmdID n) (flag_tokens ENoResp b.no_resp) (optional meta_tokens b.meta)
    (members_tokens (numbered_members (n + 1) b.members)) (length b.members) (many_members (n + 1) b.members)

many_seq_member : (n : ℕ) (m : SeqMember) → ids_in_seq_member m ≤ length (seq_member_tokens (numbered_seq_member n m))
unfolding seq_member_tokens
many_seq_member n (seq_member.Single m) = one_member (with_number n m)
many_seq_member n (seq_member.Atomic b) = many_atomic n b

many_seq_members : (n : ℕ) (ms : List SeqMember)
    → ids_in_seq_members ms ≤ length (seq_members_tokens (numbered_seq_members n ms))
unfolding seq_members_tokens numbered_seq_members ids_in_seq_members
many_seq_members n [] = omega arith
many_seq_members n (m ∷ ms) =
    let one = many_seq_member n m in
    let rest = many_seq_members (n + ids_in_seq_member m) ms in
    let sum =
    length-append (seq_member_tokens (numbered_seq_member n m))
    (seq_members_tokens (numbered_seq_members (n + ids_in_seq_member m) ms)) in
    omega (arith, one, rest, sum)

many_tokens : (n : ℕ) (c : Command) → ids_in c ≤ length (command_tokens (with_numbers n c))
unfolding ids_in with_numbers command_tokens plain_tokens alert_tokens sequence_tokens status_tokens results_tokens
many_tokens n (command.Plain c) = omega arith
many_tokens n (command.Alert c) = omega arith
many_tokens n (command.Atomic b) = many_atomic n b
many_tokens n (command.Sequence b) =
    atomic_head ESequence (number_tokens ECmdID n) (flag_tokens ENoResp b.no_resp) (optional meta_tokens b.meta)
    (seq_members_tokens (numbered_seq_members (n + 1) b.members)) (ids_in_seq_members b.members)
    (many_seq_members (n + 1) b.members)
many_tokens n (command.Status c) = omega arith
many_tokens n (command.Results c) = omega arith

tag_some : (same : Bool) (p t : ℕ) → 1 ≤ length (if same then t ∷ [] else 0 ∷ p ∷ t ∷ [])
tag_some true p t = omega arith
tag_some false p t = omega arith

token_some : (page : ℕ) (t : Token) → 1 ≤ length (token_bytes page t)
token_some page (Tag e content) = tag_some _ _ _
token_some page End = omega arith
token_some page (Text text) = omega arith
token_some page (Opaque bytes) = omega arith

pub some_bytes : (page : ℕ) (ts : List Token) → length ts ≤ length (spelled page ts)
some_bytes page [] = omega arith
some_bytes page (t ∷ ts) =
    let one = token_some page t in
    let rest = some_bytes (page_after page t) ts in
    let sum = length-append (token_bytes page t) (spelled (page_after page t) ts) in
    omega (arith, one, rest, sum)

pub many_bytes : (page n : ℕ) (c : Command) → ids_in c ≤ length (spelled page (command_tokens (with_numbers n c)))
many_bytes page n c =
    let tokens = many_tokens n c in
    let bytes = some_bytes page (command_tokens (with_numbers n c)) in
    omega (arith, tokens, bytes)

-- ---- lists of commands

pub numbered_append : (n : ℕ) (cs ds : List Command)
    → numbered n (cs ++ ds) ≡ numbered n cs ++ numbered (n + ids_of cs) ds
numbered_append n [] ds = ap (λ k. numbered k ds) (omega arith)
numbered_append n (c ∷ cs) ds =
    ap (λ l. with_numbers n c ∷ l) (numbered_append (n + ids_in c) cs ds)
    ∙ ap (λ k. with_numbers n c ∷ numbered (n + ids_in c) cs ++ numbered k ds) (omega arith)

pub ids_append : (cs ds : List Command) → ids_of (cs ++ ds) ≡ ids_of cs + ids_of ds
ids_append [] ds = omega arith
ids_append (c ∷ cs) ds = let rest = ids_append cs ds in omega (arith, rest)

-- an entry that can be sent has few
bare_ids : (c : Command) → ids_in c ≤ bare_length c
bare_ids c =
    let same = ids_changed without_value c in
    let many = many_bytes 0 1000000000 (cut_changed without_value c) in
    omega (arith, same, many)

pub few_most : (c : Command) → entry_limit c ≤ 1000
few_most (command.Plain c) = omega arith
few_most (command.Alert c) = omega arith
few_most (command.Atomic b) = omega arith
few_most (command.Sequence b) = omega arith
few_most (command.Status c) = omega arith
few_most (command.Results c) = omega arith

pub few_ids : (e : Entry) → IsReady e → ids_in e.command ≤ 1000
few_ids e ready =
    let bare = bare_ids e.command in
    let most = few_most e.command in
    let short = ready.short in
    omega (arith, bare, most, short)
