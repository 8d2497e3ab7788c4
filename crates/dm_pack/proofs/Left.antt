-- What a message leaves: what is left of entries that can be sent can be sent.
use Rattle.std.proofs.Common.{◌≡◌, ◌≤◌, ◌+◌, ◌-◌, ℕ, zero, suc, Bool, true, false, List, [], ◌∷◌, ◌++◌, length, drop}
use Rattle.std.proofs.Common.{Option, Some, None, refl, sym, ap, ◌∙◌, arith, if◌then◌else◌, take}
use Rattle.std.specs.List.{list_all, AllByRecursion}
use Rattle.std.proofs.lemmas.Bool.{and_parts, leb-true, le-leb}
use Rattle.std.proofs.lemmas.List.{length-drop}
use Rattle.wbxml_tokens.specs.Spelling.{spelled}
use Rattle.syncml_types.specs.declared.values.Item.{Item}
use Rattle.syncml_types.specs.declared.values.Header.{Header}
use Rattle.syncml_types.specs.declared.command.Member.{Member}
use Rattle.syncml_types.specs.declared.command.SeqMember.{SeqMember}
use Rattle.syncml_types.specs.declared.command.Command.{Command}
use Rattle.syncml_types.specs.declared.command.Command.TheVariants as command
use Rattle.wbxml_tables.specs.declared.Element.TheVariants.{ESequence}
use Rattle.syncml_types.specs.Canonical.{is_text, member_tokens, members_tokens, seq_member_tokens, seq_members_tokens}
use Rattle.syncml_types.specs.Canonical.{sequence_tokens, command_tokens}
use Rattle.syncml_types.specs.Fitness.{is_in_limit, is_filled, all_of, meta_texts, item_texts, item_data, member_texts}
use Rattle.syncml_types.specs.Fitness.{seq_member_texts, atomic_texts, sequence_texts, command_texts, member_data}
use Rattle.syncml_types.specs.Fitness.{seq_member_data, command_data, atomic_numbers, command_numbers, member_filled}
use Rattle.syncml_types.specs.Fitness.{seq_member_filled, atomic_filled, command_filled, member_correlates}
use Rattle.syncml_types.specs.Fitness.{seq_member_correlates, command_correlates}
use Rattle.syncml_parts.specs.Numbering.{with_number, numbered_members, numbered_seq_member, numbered_seq_members}
use Rattle.syncml_parts.specs.Numbering.{ids_in_seq_member, ids_in_seq_members, ids_in, with_numbers}
use Rattle.syncml_parts.specs.Packing.{cut_changed, bytes_in}
use Rattle.dm_pack.specs.Entries.{Entry, data_left, part_of, IsFitCommand, IsReady, without_value, bare_length}
use Rattle.dm_pack.specs.Entries.{entry_limit, rest_item, last_only, last_alone, rest_of}
use Rattle.dm_pack.specs.Filling.{next_rest, left_after, fill, fits_room, taken, cut, commands_of, HasMore, CanBeTaken}
use Rattle.dm_pack.specs.Laws.{TheRestIsLeft, WhatIsLeftIsReady}
use Rattle.dm_pack.proofs.Bare.{fewer, later, near_all, near_block, near_seq_numbered}
use Rattle.dm_pack.proofs.Changing.{twice}
use Rattle.dm_pack.proofs.Fit.{both, is_one, are_numbered, are_seq_numbered, changed_fit}
use Rattle.dm_pack.proofs.Greatest.{greatest_most}
use Rattle.dm_pack.proofs.Near.{Near, NotLonger, gap_none, near_nothing, near_same, near_then, near_both, near_missing}
use Rattle.dm_pack.proofs.Near.{near_parent}
use Rattle.dm_pack.proofs.Numbers.{few_ids, ids_changed}
use Rattle.dm_pack.proofs.Parts.{only_next, alone_changed}
use Rattle.dm_pack.proofs.Taking.{all_behind}

-- ---- the last member alone is fit

last_test : {A : Type 0} (test : A → Bool) (xs : List A) → list_all test xs ≡ true → list_all test (last_only xs) ≡ true
last_test test [] h = h
last_test test (x ∷ []) h = h
last_test test (x ∷ y ∷ xs) h =
    ap (list_all test) (only_next x y xs) ∙ last_test test (y ∷ xs) (and_parts (test x) (list_all test (y ∷ xs)) h).1

last_filled : {A : Type 0} (xs : List A) → is_filled xs ≡ true → is_filled (last_only xs) ≡ true
last_filled [] h = h
last_filled (x ∷ xs) h =
    let long = length-drop (length (x ∷ xs) - 1) (x ∷ xs) in
    is_one (length (last_only (x ∷ xs))) (omega (arith, long))

texts_alone : (test : List ℕ → Bool) (c : Command) → command_texts test c ≡ true
    → command_texts test (last_alone c) ≡ true
unfolding command_texts atomic_texts sequence_texts
texts_alone test (command.Plain c) h = h
texts_alone test (command.Alert c) h = h
texts_alone test (command.Atomic b) h =
    let parts = and_parts (all_of (meta_texts test) b.meta) (list_all (member_texts test) b.members) h in
    both _ _ parts.0 (last_test (member_texts test) b.members parts.1)
texts_alone test (command.Sequence b) h =
    let parts = and_parts (all_of (meta_texts test) b.meta) (list_all (seq_member_texts test) b.members) h in
    both _ _ parts.0 (last_test (seq_member_texts test) b.members parts.1)
texts_alone test (command.Status c) h = h
texts_alone test (command.Results c) h = h

data_alone : (test : List ℕ → Bool) (c : Command) → command_data test c ≡ true → command_data test (last_alone c) ≡ true
unfolding command_data
data_alone test (command.Plain c) h = h
data_alone test (command.Alert c) h = h
data_alone test (command.Atomic b) h = last_test (member_data test) b.members h
data_alone test (command.Sequence b) h = last_test (seq_member_data test) b.members h
data_alone test (command.Status c) h = h
data_alone test (command.Results c) h = h

filled_alone : (c : Command) → command_filled c ≡ true → command_filled (last_alone c) ≡ true
unfolding command_filled atomic_filled
filled_alone (command.Plain c) h = h
filled_alone (command.Alert c) h = h
filled_alone (command.Atomic b) h =
    let parts = and_parts (is_filled b.members) (list_all member_filled b.members) h in
    both _ _ (last_filled b.members parts.0) (last_test member_filled b.members parts.1)
filled_alone (command.Sequence b) h =
    let parts = and_parts (is_filled b.members) (list_all seq_member_filled b.members) h in
    both _ _ (last_filled b.members parts.0) (last_test seq_member_filled b.members parts.1)
filled_alone (command.Status c) h = h
filled_alone (command.Results c) h = h

correlates_alone : (c : Command) → command_correlates c ≡ true → command_correlates (last_alone c) ≡ true
unfolding command_correlates
correlates_alone (command.Plain c) h = h
correlates_alone (command.Alert c) h = h
correlates_alone (command.Atomic b) h = last_test member_correlates b.members h
correlates_alone (command.Sequence b) h = last_test seq_member_correlates b.members h
correlates_alone (command.Status c) h = h
correlates_alone (command.Results c) h = h

numbers_alone : (c : Command) → command_numbers (with_numbers 1 c) ≡ true
    → command_numbers (with_numbers 1 (last_alone c)) ≡ true
unfolding command_numbers with_numbers atomic_numbers
numbers_alone (command.Plain c) h = h
numbers_alone (command.Alert c) h = h
numbers_alone (command.Atomic b) h = are_numbered (1 + 1) (last_only b.members) (omega arith)
numbers_alone (command.Sequence b) h = are_seq_numbered (1 + 1) (last_only b.members) (omega arith)
numbers_alone (command.Status c) h = h
numbers_alone (command.Results c) h = h

alone_fit : (c : Command) → IsFitCommand c → IsFitCommand (last_alone c)
alone_fit c fit =
    record {
      texts = texts_alone is_text c fit.texts;
      numbers = numbers_alone c fit.numbers;
      filled = filled_alone c fit.filled;
      correlators = correlates_alone c fit.correlators;
      short_texts = texts_alone is_in_limit c fit.short_texts;
      short_data = data_alone is_in_limit c fit.short_data;
    }

-- ---- and so is what is left of its Data

shorter : (n : ℕ) (o : Option (List ℕ)) → all_of is_in_limit o ≡ true → is_in_limit (drop n (bytes_in o)) ≡ true
shorter n None h =
    le-leb (length (drop n (bytes_in None))) 2147483648
    (let long = length-drop n (bytes_in None) in omega (arith, long))
shorter n (Some v) h =
    let low = leb-true (length v) 2147483648 h in
    let long = length-drop n v in
    le-leb (length (drop n v)) 2147483648 (omega (arith, low, long))

rest_texts : (n : ℕ) (test : List ℕ → Bool) (i : Item) → item_texts test (rest_item n i) ≡ item_texts test i
unfolding item_texts
rest_texts n test i = refl

rest_keeps : (n : ℕ) (i : Item) → item_data is_in_limit i ≡ true → item_data is_in_limit (rest_item n i) ≡ true
unfolding item_data
rest_keeps n i h = shorter n i.value h

-- ---- nor is it longer

near_last : (n m : ℕ) (xs : List Member) → NotLonger n m (length xs)
    → Near 0 (members_tokens (numbered_members n (last_only xs))) (members_tokens (numbered_members m xs))
unfolding members_tokens numbered_members
near_last n m [] l = near_nothing
near_last n m (x ∷ []) l = near_all n m (x ∷ []) l
near_last n m (x ∷ y ∷ xs) l =
    rw (only_next x y xs)
    (near_both (near_missing (member_tokens (with_number m x)))
    (near_last n (m + 1) (y ∷ xs)
    (let low = l.low in
    let digits = l.ten_digits in
    let high = l.high in
    record { low = omega (arith, low); ten_digits = omega (arith, digits); high = omega (arith, high) })))

near_seq_last : (n m : ℕ) (xs : List SeqMember) → NotLonger n m (ids_in_seq_members xs)
    → Near 0 (seq_members_tokens (numbered_seq_members n (last_only xs)))
    (seq_members_tokens (numbered_seq_members m xs))
unfolding seq_members_tokens numbered_seq_members ids_in_seq_members
near_seq_last n m [] l = near_nothing
near_seq_last n m (x ∷ []) l = near_then (near_seq_numbered n m x (fewer l (ids_in_seq_member x) (omega arith))) []
near_seq_last n m (x ∷ y ∷ xs) l =
    rw (only_next x y xs)
    (near_both (near_missing (seq_member_tokens (numbered_seq_member m x)))
    (near_seq_last n (m + ids_in_seq_member x) (y ∷ xs)
    (let low = l.low in
    let digits = l.ten_digits in
    let high = l.high in
    record { low = omega (arith, low); ten_digits = omega (arith, digits); high = omega (arith, high) })))

near_alone : (n : ℕ) (c : Command) → NotLonger n n (ids_in c)
    → Near 0 (command_tokens (with_numbers n (last_alone c))) (command_tokens (with_numbers n c))
unfolding command_tokens with_numbers ids_in sequence_tokens
near_alone n (command.Plain c) l = near_same _
near_alone n (command.Alert c) l = near_same _
near_alone n (command.Atomic b) l =
    near_block 0 n n b _ _ (fewer l 1 (omega arith))
    (near_last (n + 1) (n + 1) b.members (later l 1 (length b.members) (omega arith)))
near_alone n (command.Sequence b) l =
    near_parent ESequence
    (near_both (near_same _)
    (near_seq_last (n + 1) (n + 1) b.members (later l 1 (ids_in_seq_members b.members) (omega arith))))
near_alone n (command.Status c) l = near_same _
near_alone n (command.Results c) l = near_same _

bare_alone : (n : ℕ) (c : Command) → ids_in c ≤ 1000
    → bare_length (last_alone (cut_changed (rest_item n) c)) ≤ bare_length c
bare_alone n c few =
    let d = cut_changed without_value c in
    let ids = ids_changed without_value c in
    let alike : cut_changed without_value (last_alone (cut_changed (rest_item n) c)) ≡ last_alone d =
    sym (alone_changed without_value (cut_changed (rest_item n) c))
    ∙ ap last_alone (twice without_value (rest_item n) c) in
    let long = ap (λ e. length (spelled 0 (command_tokens (with_numbers 1000000000 e)))) alike in
    let near = (near_alone 1000000000 d
    (record { low = omega (arith, ids, few); ten_digits = omega arith; high = omega (arith, ids, few) })).at 0 0 in
    let none = gap_none 0 in
    omega (arith, long, near, none)

most_alone : (n : ℕ) (c : Command) → entry_limit (last_alone (cut_changed (rest_item n) c)) ≡ entry_limit c
most_alone n (command.Plain c) = refl
most_alone n (command.Alert c) = refl
most_alone n (command.Atomic b) = refl
most_alone n (command.Sequence b) = refl
most_alone n (command.Status c) = refl
most_alone n (command.Results c) = refl

rest_ready : (n : ℕ) (e : Entry) → IsReady e → IsReady (rest_of e n)
unfolding rest_of
rest_ready n e ready =
    record {
      fit = alone_fit (cut_changed (rest_item n) e.command)
          (changed_fit (rest_item n) (rest_texts n) (rest_keeps n) e.command ready.fit);
      short =
          let less = bare_alone n e.command (few_ids e ready) in
          let most = most_alone n e.command in
          let short = ready.short in
          omega (arith, less, most, short);
    }

next_ready : (n : ℕ) (es : List Entry) → AllByRecursion IsReady es → AllByRecursion IsReady (next_rest n es)
next_ready zero es all = all
next_ready (suc n) [] all = tt
next_ready (suc n) (e ∷ es) all = (rest_ready (suc n) e all.0, all.1)

pub what_is_left_is_ready : WhatIsLeftIsReady
unfolding left_after
what_is_left_is_ready es whole n all = next_ready n (drop whole es) (all_behind es whole all)

pub the_rest_is_left : TheRestIsLeft
unfolding fill left_after
the_rest_is_left es h room heard = refl

-- ---- what a message tells of can be taken off

low_by : (n m : ℕ) (t : Bool) → n ≤ m → (if t then suc n else 0) ≤ suc m
low_by n m true h = omega (arith, h)
low_by n m false h = omega arith

taken_low : (h : Header) (room : ℕ) (before : List Command) (es : List Entry) → taken h room before es ≤ length es
taken_low h room before [] = omega arith
taken_low h room before (e ∷ es) =
    low_by _ _ (fits_room h room (before ++ e.command ∷ [])) (taken_low h room (before ++ e.command ∷ []) es)

cut_low : (h : Header) (room : ℕ) (before : List Command) (next : List Entry) → HasMore (cut h room before next) next
cut_low h room before [] = refl
cut_low h room before (e ∷ es) =
    λ some.
    let most = greatest_most (λ n. fits_room h room (before ++ part_of e n ∷ [])) (data_left e - 1) in
    omega (arith, most, some)

pub fill_taken : (es : List Entry) (h : Header) (room : ℕ) (heard : Bool)
    → CanBeTaken es (fill es h room heard).whole (fill es h room heard).cut
unfolding fill
fill_taken es h room heard =
    record {
      whole_there = taken_low h room [] es;
      part_there = cut_low h room (commands_of (take (taken h room [] es) es)) (drop (taken h room [] es) es);
    }

pub same_taken : (es : List Entry) (whole cut w n : ℕ) → CanBeTaken es w n → whole ≡ w → cut ≡ n
    → CanBeTaken es whole cut
same_taken es whole cut w n can x y = rw (x, y) can
