-- How much longer a command is in a message than without the Data that may be cut.
use Rattle.std.proofs.Common.{◌≤◌, ◌+◌, ℕ, List, [], ◌∷◌, length, Option, IfSome, option_and_then, sym, arith}
use Rattle.wbxml_tables.specs.declared.Element.TheVariants.{EAlert, EAtomic, ECmdID, ECorrelator, EData, ENoResp}
use Rattle.wbxml_tables.specs.declared.Element.TheVariants.{EResults, ESequence, EStatus}
use Rattle.syncml_types.specs.declared.values.Item.{Item}
use Rattle.syncml_types.specs.declared.command.Verb.{Verb}
use Rattle.syncml_types.specs.declared.command.Verb.TheVariants as verb
use Rattle.syncml_types.specs.declared.command.Plain.{Plain}
use Rattle.syncml_types.specs.declared.command.AlertCmd.{AlertCmd}
use Rattle.syncml_types.specs.declared.command.Member.{Member}
use Rattle.syncml_types.specs.declared.command.Member.TheVariants as member
use Rattle.syncml_types.specs.declared.command.Block.{Block}
use Rattle.syncml_types.specs.declared.command.SeqMember.{SeqMember}
use Rattle.syncml_types.specs.declared.command.SeqMember.TheVariants as seq_member
use Rattle.syncml_types.specs.declared.command.Command.{Command}
use Rattle.syncml_types.specs.declared.command.Command.TheVariants as command
use Rattle.syncml_types.specs.Canonical.{number_tokens, flag_tokens, optional, text_tokens, meta_tokens, item_tokens}
use Rattle.syncml_types.specs.Canonical.{items_tokens, verb_element, plain_tokens, alert_tokens, member_tokens}
use Rattle.syncml_types.specs.Canonical.{members_tokens, atomic_tokens, seq_member_tokens, seq_members_tokens}
use Rattle.syncml_types.specs.Canonical.{sequence_tokens, status_tokens, results_tokens, command_tokens}
use Rattle.syncml_parts.specs.Numbering.{with_number, numbered_members, numbered_seq_member, numbered_seq_members}
use Rattle.syncml_parts.specs.Numbering.{ids_in_seq_member, ids_in_seq_members, ids_in, with_numbers}
use Rattle.syncml_parts.specs.Packing.{only_item, write_item, member_item, seq_member_item, list_last, cut_item}
use Rattle.syncml_parts.specs.Packing.{only_changed, write_changed, member_changed, seq_member_changed, last_changed}
use Rattle.syncml_parts.specs.Packing.{cut_changed}
use Rattle.syncml_parts.proofs.Last.{last_next}
use Rattle.dm_pack.specs.Entries.{without_value}
use Rattle.dm_pack.proofs.Near.{Near, NotLonger, near_more, near_nothing, near_both, near_same, near_then, near_parent}
use Rattle.dm_pack.proofs.Near.{near_number}

-- ---- CmdIDs that are left

pub fewer : {n m count : ℕ} → NotLonger n m count → (k : ℕ) → k ≤ count → NotLonger n m k
fewer l k less =
    let low = l.low in
    let high = l.high in
    record { low = omega (arith, low, less); ten_digits = l.ten_digits; high = omega (arith, high, less) }

pub later : {n m count : ℕ} → NotLonger n m count → (j k : ℕ) → j + k ≤ count → NotLonger (n + j) (m + j) k
later l j k less =
    let low = l.low in
    let digits = l.ten_digits in
    let high = l.high in
    record { low = omega (arith, low, less); ten_digits = omega (arith, digits); high = omega (arith, high, less) }

-- ---- one item changed

abbrev pub NearItem : ℕ → (Item → Item) → Option Item → Type 0
NearItem k f o = IfSome o (λ i. Near k (item_tokens (f i)) (item_tokens (without_value i)))

near_only : (k : ℕ) (f : Item → Item) (is : List Item) → NearItem k f (only_item is)
    → Near k (items_tokens (only_changed f is)) (items_tokens (only_changed without_value is))
unfolding items_tokens
near_only k f [] h = near_more near_nothing (omega arith)
near_only k f (i ∷ []) h = near_then h []
near_only k f (i ∷ j ∷ is) h = near_more (near_same _) (omega arith)

near_write : (k : ℕ) (f : Item → Item) (v : Verb) (is : List Item) → NearItem k f (write_item v is)
    → Near k (items_tokens (write_changed f v is)) (items_tokens (write_changed without_value v is))
near_write k f verb.Add is h = near_only k f is h
near_write k f verb.Replace is h = near_only k f is h
near_write k f verb.Copy is h = near_more (near_same _) (omega arith)
near_write k f verb.Delete is h = near_more (near_same _) (omega arith)
near_write k f verb.Exec is h = near_more (near_same _) (omega arith)
near_write k f verb.Get is h = near_more (near_same _) (omega arith)

-- ---- members

near_plain : (k n m : ℕ) (c : Plain) (is js : List Item) → NotLonger n m 1 → Near k (items_tokens is) (items_tokens js)
    → Near k (plain_tokens (record c { id = n; items = is })) (plain_tokens (record c { id = m; items = js }))
unfolding plain_tokens
near_plain k n m c is js l items =
    near_parent (verb_element c.verb)
    (near_both
    (near_then (near_then (near_then (near_number ECmdID n m 1 l (omega arith)) (flag_tokens ENoResp c.no_resp))
    (optional meta_tokens c.meta)) (optional (text_tokens ECorrelator) c.correlator))
    items)

near_alert : (n m : ℕ) (c : AlertCmd) → NotLonger n m 1
    → Near 0 (alert_tokens (record c { id = n })) (alert_tokens (record c { id = m }))
unfolding alert_tokens
near_alert n m c l =
    near_parent EAlert
    (near_then
    (near_then (near_then (near_then (near_number ECmdID n m 1 l (omega arith)) (flag_tokens ENoResp c.no_resp))
    (number_tokens EData c.code)) (optional (text_tokens ECorrelator) c.correlator)) (items_tokens c.items))

near_numbered : (n m : ℕ) (x : Member) → NotLonger n m 1
    → Near 0 (member_tokens (with_number n x)) (member_tokens (with_number m x))
unfolding member_tokens
near_numbered n m (member.One c) l = near_plain 0 n m c c.items c.items l (near_same (items_tokens c.items))
near_numbered n m (member.Alert c) l = near_alert n m c l

near_member : (k : ℕ) (f : Item → Item) (n m : ℕ) (x : Member) → NotLonger n m 1 → NearItem k f (member_item x)
    → Near k (member_tokens (with_number n (member_changed f x)))
    (member_tokens (with_number m (member_changed without_value x)))
unfolding member_tokens
near_member k f n m (member.One c) l h = near_plain k n m c _ _ l (near_write k f c.verb c.items h)
near_member k f n m (member.Alert c) l h = near_more (near_alert n m c l) (omega arith)

pub near_all : (n m : ℕ) (xs : List Member) → NotLonger n m (length xs)
    → Near 0 (members_tokens (numbered_members n xs)) (members_tokens (numbered_members m xs))
unfolding members_tokens numbered_members
near_all n m [] l = near_nothing
near_all n m (x ∷ xs) l =
    near_both (near_numbered n m x (fewer l 1 (omega arith)))
    (near_all (n + 1) (m + 1) xs (later l 1 (length xs) (omega arith)))

near_members : (k : ℕ) (f : Item → Item) (n m : ℕ) (xs : List Member) → NotLonger n m (length xs)
    → NearItem k f (option_and_then member_item (list_last xs))
    → Near k (members_tokens (numbered_members n (last_changed (member_changed f) xs)))
    (members_tokens (numbered_members m (last_changed (member_changed without_value) xs)))
unfolding members_tokens numbered_members
near_members k f n m [] l h = near_more near_nothing (omega arith)
near_members k f n m (x ∷ []) l h = near_then (near_member k f n m x (fewer l 1 (omega arith)) h) []
near_members k f n m (x ∷ y ∷ xs) l h =
    near_more
    (near_both (near_numbered n m x (fewer l 1 (omega arith)))
    (near_members k f (n + 1) (m + 1) (y ∷ xs) (later l 1 (length (y ∷ xs)) (omega arith))
    (rw (sym (last_next x y xs)) h)))
    (omega arith)

-- ---- members of a Sequence

pub near_block : (k n m : ℕ) (b : Block Member) (xs ys : List Member) → NotLonger n m 1
    → Near k (members_tokens xs) (members_tokens ys)
    → Near k (atomic_tokens (record b { id = n; members = xs })) (atomic_tokens (record b { id = m; members = ys }))
unfolding atomic_tokens
near_block k n m b xs ys l members =
    near_parent EAtomic
    (near_both (near_then (near_then (near_number ECmdID n m 1 l (omega arith)) (flag_tokens ENoResp b.no_resp))
    (optional meta_tokens b.meta)) members)

pub near_seq_numbered : (n m : ℕ) (x : SeqMember) → NotLonger n m (ids_in_seq_member x)
    → Near 0 (seq_member_tokens (numbered_seq_member n x)) (seq_member_tokens (numbered_seq_member m x))
unfolding seq_member_tokens
near_seq_numbered n m (seq_member.Single x) l = near_numbered n m x l
near_seq_numbered n m (seq_member.Atomic b) l =
    near_block 0 n m b _ _ (fewer l 1 (omega arith))
    (near_all (n + 1) (m + 1) b.members (later l 1 (length b.members) (omega arith)))

near_seq_member : (k : ℕ) (f : Item → Item) (n m : ℕ) (x : SeqMember) → NotLonger n m (ids_in_seq_member x)
    → NearItem k f (seq_member_item x)
    → Near k (seq_member_tokens (numbered_seq_member n (seq_member_changed f x)))
    (seq_member_tokens (numbered_seq_member m (seq_member_changed without_value x)))
unfolding seq_member_tokens
near_seq_member k f n m (seq_member.Single x) l h = near_member k f n m x l h
near_seq_member k f n m (seq_member.Atomic b) l h =
    near_more (near_seq_numbered n m (seq_member.Atomic b) l) (omega arith)

near_seq_members : (k : ℕ) (f : Item → Item) (n m : ℕ) (xs : List SeqMember) → NotLonger n m (ids_in_seq_members xs)
    → NearItem k f (option_and_then seq_member_item (list_last xs))
    → Near k (seq_members_tokens (numbered_seq_members n (last_changed (seq_member_changed f) xs)))
    (seq_members_tokens (numbered_seq_members m (last_changed (seq_member_changed without_value) xs)))
unfolding seq_members_tokens numbered_seq_members ids_in_seq_members
near_seq_members k f n m [] l h = near_more near_nothing (omega arith)
near_seq_members k f n m (x ∷ []) l h = near_then (near_seq_member k f n m x (fewer l _ (omega arith)) h) []
near_seq_members k f n m (x ∷ y ∷ xs) l h =
    near_more
    (near_both (near_seq_numbered n m x (fewer l _ (omega arith)))
    (near_seq_members k f (n + ids_in_seq_member x) (m + ids_in_seq_member x) (y ∷ xs)
    (later l (ids_in_seq_member x) (ids_in_seq_members (y ∷ xs)) (omega arith)) (rw (sym (last_next x y xs)) h)))
    (omega arith)

-- ---- commands

-- a command is as much longer as its item
pub near_command : (k : ℕ) (f : Item → Item) (n m : ℕ) (c : Command) → NotLonger n m (ids_in c)
    → NearItem k f (cut_item c)
    → Near k (command_tokens (with_numbers n (cut_changed f c)))
    (command_tokens (with_numbers m (cut_changed without_value c)))
unfolding command_tokens with_numbers ids_in sequence_tokens status_tokens results_tokens
near_command k f n m (command.Plain c) l h = near_plain k n m c _ _ l (near_write k f c.verb c.items h)
near_command k f n m (command.Alert c) l h = near_more (near_alert n m c l) (omega arith)
near_command k f n m (command.Atomic b) l h =
    near_block k n m b _ _ (fewer l 1 (omega arith))
    (near_members k f (n + 1) (m + 1) b.members (later l 1 (length b.members) (omega arith)) h)
near_command k f n m (command.Sequence b) l h =
    near_parent ESequence
    (near_both
    (near_then (near_then (near_number ECmdID n m 1 (fewer l 1 (omega arith)) (omega arith))
    (flag_tokens ENoResp b.no_resp)) (optional meta_tokens b.meta))
    (near_seq_members k f (n + 1) (m + 1) b.members (later l 1 (ids_in_seq_members b.members) (omega arith)) h))
near_command k f n m (command.Status c) l h =
    near_more (near_parent EStatus
    (near_then
    (near_then
    (near_then
    (near_then (near_then (near_then (near_then (near_then (near_number ECmdID n m 1 l (omega arith)) _) _) _) _) _) _)
    _) _))
    (omega arith)
near_command k f n m (command.Results c) l h =
    near_parent EResults
    (near_both
    (near_then (near_then (near_then (near_then (near_then (near_number ECmdID n m 1 l (omega arith)) _) _) _) _) _)
    (near_only k f c.items h))
