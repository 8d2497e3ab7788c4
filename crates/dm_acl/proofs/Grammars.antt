-- The grammar of access lists, both ways.
use Rattle.std.proofs.Common.{◌≡◌, ◌⊎◌, inl, inr, ◌<◌, ◌≤◌, ◌==◌, ℕ, List, [], ◌∷◌, ◌++◌, length, map, refl, ap, sym}
use Rattle.std.proofs.Common.{◌∙◌, subst, Bool, true, false, arith, rules, if◌then◌else◌, nat_lt, Result, Ok, Err}
use Rattle.std.proofs.Common.{append_assoc, append-nil}
use Rattle.std.specs.List.{AllByRecursion, join_with_byte}
use Rattle.std.proofs.lemmas.List.Splits.{slice_split_none, slice_split_at}
use borrow.Author.Tests.{tests}
use Rattle.dm_acl.specs.declared.values.AclError.{AclError}
use Rattle.dm_acl.specs.declared.values.AclError.TheVariants as error
use Rattle.dm_acl.specs.declared.values.AclEntry.{AclEntry}
use Rattle.dm_acl.specs.declared.values.Entries.{Entries}
use Rattle.dm_acl.specs.Grammar.{IsEntry, entry_text, entries_text, IsTextOf, no_entries, meaning, entries_in, printed}
use Rattle.dm_acl.specs.Grammar.{IsAcl}
use Rattle.dm_acl.specs.Reading.{parts_in, after_parts, parse_of, Answers}
use Rattle.dm_acl.specs.Laws.{WhatIsReadIsMeant, WhatIsWrittenIsRead, has_no, front_text, IsBehind, HasFaultAt}
use Rattle.dm_acl.specs.Laws.{IsMalformedAt, FirstFaultIsTold, OnlyFaultsAreTold, PrintedIsRead, PrintedIsNoLonger}
use Rattle.dm_acl.specs.Laws.{PrintedIsShort, WhatIsReadIsReadAgain, ReadIsAcl, EntriesAllow, EntriesName}
use Rattle.dm_acl.proofs.Parts.{some-parts}
use Rattle.dm_acl.proofs.Splits.{none_passes, split_joined, clear_split, joined_split}
use Rattle.dm_acl.proofs.Commands.{AreNew, new_of_once, once_from_new, has_from_named, named_of_has}
use Rattle.dm_acl.proofs.EntryTexts.{clear_entry}
use Rattle.dm_acl.proofs.Faults.{parts_taken, parts_read, Stops, parts_stop, parts_stopped, parts_told}
use Rattle.dm_acl.proofs.Lengths.{printed_shorter}
use Rattle.dm_acl.proofs.Meanings.{acl_of, entries_good, entries_new, entries_mean, entries_some, entries_allow}

-- ---- the length goes first

pub parse_short : (text : List ℕ) → length text ≤ 4096 → parse_of text ≡ after_parts no_entries 0 (parts_in text)
unfolding parse_of
parse_short text h =
    let short : nat_lt 4096 (length text) ≡ false = search (rules, tests) in
    ap (λ t. if t then Err (error.Malformed 4096) else after_parts no_entries 0 (parts_in text)) short

pub parse_long : (text : List ℕ) → 4096 < length text → parse_of text ≡ Err (error.Malformed 4096)
unfolding parse_of
parse_long text h =
    let long : nat_lt 4096 (length text) ≡ true = search (rules, tests) in
    ap (λ t. if t then Err (error.Malformed 4096) else after_parts no_entries 0 (parts_in text)) long

short_or_long : (text : List ℕ) → (4096 < length text) ⊎ (length text ≤ 4096)
short_or_long text = by_test (nat_lt 4096 (length text)) refl
  where
    by_test : (t : Bool) → nat_lt 4096 (length text) ≡ t → (4096 < length text) ⊎ (length text ≤ 4096)
    by_test true is = inl (search (rules, tests))
    by_test false is = inr (search (rules, tests))

ok≢err : {A : Type 0} (x : A) (e : AclError) → Ok x ≡ Err e → ⊥
ok≢err x e h = cc

read_short : (text : List ℕ) (acl : Entries) → parse_of text ≡ Ok acl → length text ≤ 4096
read_short text acl h = by_length (short_or_long text)
  where
    by_length : (4096 < length text) ⊎ (length text ≤ 4096) → length text ≤ 4096
    by_length (inl long) = absurd (ok≢err acl _ (sym h ∙ parse_long text long))
    by_length (inr short) = short

-- ---- what is read is in the grammar

some_map : (es : List AclEntry) → 0 < length (map entry_text es) → 0 < length es
some_map [] h = h
some_map (e ∷ es) h = omega arith

taken : (text : List ℕ) (acl : Entries) → parse_of text ≡ Ok acl
    → (es : List AclEntry) × IsTextOf es text × (acl ≡ meaning es)
taken text acl h =
    let short = read_short text acl h in
    let got = parts_taken (parts_in text) no_entries acl 0 (sym (parse_short text short) ∙ h) in
    let is : IsTextOf got.0 text = record {
      some = some_map got.0 (subst (λ ps. 0 < length ps) got.3 (some-parts 38 text));
      good = got.1;
      once = (once_from_new got.0 no_entries got.2).0;
      written = sym (joined_split 38 text) ∙ ap (join_with_byte 38) got.3;
      short = short;
    } in
    (got.0, is, got.4)

pub what_is_read_is_meant : WhatIsReadIsMeant
what_is_read_is_meant = taken

pub read_is_acl : ReadIsAcl
read_is_acl text acl h =
    let got = taken text acl h in
    subst IsAcl (sym got.2) (acl_of got.0 got.1.some got.1.good)

pub printed_is_no_longer : PrintedIsNoLonger
printed_is_no_longer text acl h =
    let got = taken text acl h in
    let whole : length text ≡ length (entries_text got.0) = ap length got.1.written in
    let same : length (printed acl) ≡ length (printed (meaning got.0)) = ap (λ a. length (printed a)) got.2 in
    let shorter = printed_shorter got.0 in
    omega (arith, whole, same, shorter)

pub printed_is_short : PrintedIsShort
printed_is_short text acl h =
    let no_longer = printed_is_no_longer text acl h in
    let short = read_short text acl h in
    omega (arith, no_longer, short)

-- ---- what is in the grammar is read

clear_entries : (es : List AclEntry) → AllByRecursion IsEntry es
    → AllByRecursion (λ part. has_no 38 part ≡ true) (map entry_text es)
clear_entries [] h = tt
clear_entries (e ∷ es) h = (clear_entry e h.0, clear_entries es h.1)

parts_of : (es : List AclEntry) → 0 < length es → AllByRecursion IsEntry es
    → parts_in (entries_text es) ≡ map entry_text es
parts_of [] some good = absurd (omega arith)
parts_of (e ∷ es) some good = split_joined 38 (entry_text e) (map entry_text es) (clear_entries (e ∷ es) good)

written : (es : List AclEntry) (text : List ℕ) → 0 < length es → AllByRecursion IsEntry es → AreNew no_entries es
    → text ≡ entries_text es → length text ≤ 4096
    → parse_of text ≡ Ok (meaning es)
written es text some good new is short =
    parse_short text short
    ∙ ap (after_parts no_entries 0) (ap parts_in is ∙ parts_of es some good)
    ∙ parts_read es no_entries 0 good new

pub what_is_written_is_read : WhatIsWrittenIsRead
what_is_written_is_read es text is = written es text is.some is.good (new_of_once es is.once) is.written is.short

pub printed_is_read : PrintedIsRead
unfolding printed
printed_is_read acl is short =
    written (entries_in acl) (entries_text (entries_in acl)) (entries_some acl is) (entries_good acl is)
    (entries_new acl is) refl short
    ∙ ap (λ a. Ok a) (entries_mean acl is)

pub what_is_read_is_read_again : WhatIsReadIsReadAgain
what_is_read_is_read_again text acl h = printed_is_read acl (read_is_acl text acl h) (printed_is_short text acl h)

-- ---- the first fault

behind_text : List (List ℕ) → List ℕ
behind_text [] = []
behind_text (l ∷ ls) = 38 ∷ join_with_byte 38 (l ∷ ls)

joined_more : (x : List ℕ) (xs : List (List ℕ)) (y : List ℕ) (ys : List (List ℕ))
    → join_with_byte 38 (x ∷ (xs ++ y ∷ ys)) ≡ x ++ 38 ∷ join_with_byte 38 (xs ++ y ∷ ys)
joined_more x [] y ys = refl
joined_more x (z ∷ zs) y ys = refl

joined_part : (part : List ℕ) (later : List (List ℕ)) → join_with_byte 38 (part ∷ later) ≡ part ++ behind_text later
unfolding behind_text
joined_part part [] = sym (append-nil part)
joined_part part (l ∷ ls) = refl

-- an entry, its sign and more
regroup : (e front more : List ℕ) → e ++ 38 ∷ (front ++ more) ≡ ((e ++ 38 ∷ []) ++ front) ++ more
regroup e front more = sym (append_assoc (e ++ 38 ∷ []) front more ∙ append_assoc e (38 ∷ []) (front ++ more))

joined_front : (es : List AclEntry) (part : List ℕ) (later : List (List ℕ))
    → join_with_byte 38 (map entry_text es ++ part ∷ later) ≡ front_text es ++ (part ++ behind_text later)
joined_front [] part later = joined_part part later
joined_front (e ∷ es) part later =
    joined_more (entry_text e) (map entry_text es) part later
    ∙ ap (λ t. entry_text e ++ 38 ∷ t) (joined_front es part later)
    ∙ regroup (entry_text e) (front_text es) (part ++ behind_text later)

is_behind : (later : List (List ℕ)) → IsBehind (behind_text later)
unfolding behind_text
is_behind [] = tt
is_behind (l ∷ ls) = refl

part_clear : (xs : List (List ℕ)) (part : List ℕ) (later : List (List ℕ))
    → AllByRecursion (λ part. has_no 38 part ≡ true) (xs ++ part ∷ later) → has_no 38 part ≡ true
part_clear [] part later h = h.0
part_clear (x ∷ xs) part later h = part_clear xs part later h.1

fault_of : (text : List ℕ) (at : ℕ) → Stops no_entries 0 (parts_in text) at → HasFaultAt text at
fault_of text at s = record {
  before = s.before;
  part = s.part;
  rest = behind_text s.later;
  good = s.good;
  once = (once_from_new s.before no_entries s.new).0;
  text_is =
      sym (joined_split 38 text) ∙ ap (join_with_byte 38) s.parts_are ∙ joined_front s.before s.part s.later
      ∙ sym (append_assoc (front_text s.before) s.part (behind_text s.later));
  whole =
      part_clear (map entry_text s.before) s.part s.later
      (subst (λ ps. AllByRecursion (λ part. has_no 38 part ≡ true) ps) s.parts_are (clear_split 38 text));
  behind = is_behind s.later;
  fault = λ e good is. named_of_has s.before e.right (s.fault e good is);
  at_is = omega (arith, s.bad_is);
}

same_fault : (a b : ℕ) → ◌≡◌ {A = Result Entries AclError} (Err (error.Malformed a)) (Err (error.Malformed b)) → a ≡ b
same_fault a b h = cc

told : (text : List ℕ) (at : ℕ) → parse_of text ≡ Err (error.Malformed at) → IsMalformedAt text at
told text at h = by_length (short_or_long text)
  where
    by_length : (4096 < length text) ⊎ (length text ≤ 4096) → IsMalformedAt text at
    by_length (inl long) = inl (long, same_fault at 4096 (sym h ∙ parse_long text long))
    by_length (inr short) =
        inr (short, fault_of text at (parts_stop (parts_in text) no_entries 0 at (sym (parse_short text short) ∙ h)))

-- a text is cut behind the entries before a fault
cut_front : (es : List AclEntry) (more : List ℕ) → AllByRecursion IsEntry es
    → parts_in (front_text es ++ more) ≡ map entry_text es ++ parts_in more
cut_front [] more good = refl
cut_front (e ∷ es) more good =
    ap parts_in (sym (regroup (entry_text e) (front_text es) more))
    ∙ slice_split_at (λ b. b == 38) (entry_text e) 38 (front_text es ++ more)
    (none_passes 38 (entry_text e) (clear_entry e good.0)) refl
    ∙ ap (λ ps. entry_text e ∷ ps) (cut_front es more good.1)

later_in : List ℕ → List (List ℕ)
later_in [] = []
later_in (b ∷ bs) = parts_in bs

cut_part : (part rest : List ℕ) → has_no 38 part ≡ true → IsBehind rest → parts_in (part ++ rest) ≡ part ∷ later_in rest
unfolding later_in
cut_part part [] clear h =
    ap parts_in (append-nil part) ∙ slice_split_none (λ b. b == 38) part (none_passes 38 part clear)
cut_part part (b ∷ bs) clear h =
    ap (λ b. parts_in (part ++ b ∷ bs)) h
    ∙ slice_split_at (λ b. b == 38) part 38 bs (none_passes 38 part clear) refl

refused : (text : List ℕ) (at : ℕ) → length text ≤ 4096 → HasFaultAt text at → parse_of text ≡ Err (error.Malformed at)
refused text at short f =
    parse_short text short
    ∙ ap (after_parts no_entries 0) (
    ap parts_in (f.text_is ∙ append_assoc (front_text f.before) f.part f.rest)
    ∙ cut_front f.before (f.part ++ f.rest) f.good
    ∙ ap (λ ps. map entry_text f.before ++ ps) (cut_part f.part f.rest f.whole f.behind)
    )
    ∙ parts_stopped f.before no_entries 0 f.part (later_in f.rest) f.good (new_of_once f.before f.once)
    (λ e good is. has_from_named f.before no_entries e.right (f.fault e good is))
    ∙ ap (λ n. Err (error.Malformed n)) (omega (arith, f.at_is))

refuses : (text : List ℕ) (at : ℕ) → IsMalformedAt text at → parse_of text ≡ Err (error.Malformed at)
refuses text at (inl long) = parse_long text long.0 ∙ ap (λ n. Err (error.Malformed n)) (sym long.1)
refuses text at (inr short) = refused text at short.0 short.1

pub first_fault_is_told : FirstFaultIsTold
first_fault_is_told text at = (told text at, refuses text at)

malformed≢memory : (at : ℕ) → ◌≡◌ {A = Result Entries AclError} (Err (error.Malformed at)) (Err error.Memory) → ⊥
malformed≢memory at h = cc

pub only_faults_are_told : OnlyFaultsAreTold
only_faults_are_told text h = by_length (short_or_long text)
  where
    by_length : (4096 < length text) ⊎ (length text ≤ 4096) → ⊥
    by_length (inl long) = malformed≢memory 4096 (sym (parse_long text long) ∙ h)
    by_length (inr short) = parts_told (parts_in text) no_entries 0 (sym (parse_short text short) ∙ h)

-- ---- what entries allow and name

pub entries_allow_as_written : EntriesAllow
entries_allow_as_written es server right once = entries_allow es server right once

pub entries_name : EntriesName
entries_name es right = (named_of_has es right, has_from_named es no_entries right)

-- ---- the reader of a whole text

pub answers_short : (text : List ℕ) (r : Result Entries AclError) → length text ≤ 4096
    → Answers r (after_parts no_entries 0 (parts_in text)) → Answers r (parse_of text)
answers_short text r short h = subst (Answers r) (sym (parse_short text short)) h

pub read_acl : (text : List ℕ) (acl : Entries) → length text ≤ 4096 → after_parts no_entries 0 (parts_in text) ≡ Ok acl
    → IsAcl acl
read_acl text acl short h = read_is_acl text acl (parse_short text short ∙ h)
