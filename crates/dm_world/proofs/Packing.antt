-- Packing loses no act of what waits, and doubles none.
use Rattle.std.proofs.Common.{zero, suc, ◌≡◌, ◌+◌, ◌-◌, ℕ, Bool, true, false, List, [], ◌∷◌, ◌++◌, Option, None}
use Rattle.std.proofs.Common.{Some}
use Rattle.std.proofs.Common.{refl, sym, ◌∙◌, ap, subst, take, drop, length, append_assoc, take-append-drop}
use Rattle.std.specs.Prelude.{unwrap_or, option_and_then}
use Rattle.std.specs.Option.{option_or}
use Rattle.std.proofs.lemmas.List.{append-nil}
use Rattle.syncml_types.specs.declared.values.Meta.{Meta}
use Rattle.syncml_types.specs.declared.values.Item.{Item}
use Rattle.syncml_types.specs.declared.values.Header.{Header}
use Rattle.syncml_types.specs.declared.command.Step.{Step}
use Rattle.syncml_types.specs.declared.command.Verb.{Verb}
use Rattle.syncml_types.specs.declared.command.Verb.TheVariants as verb
use Rattle.syncml_types.specs.declared.command.Plain.{Plain}
use Rattle.syncml_types.specs.declared.command.Member.{Member}
use Rattle.syncml_types.specs.declared.command.Member.TheVariants as member
use Rattle.syncml_types.specs.declared.command.SeqMember.{SeqMember}
use Rattle.syncml_types.specs.declared.command.SeqMember.TheVariants as seq_member
use Rattle.syncml_types.specs.declared.command.Command.{Command}
use Rattle.syncml_types.specs.declared.command.Command.TheVariants as command
use Rattle.syncml_parts.specs.Numbering.{with_number, numbered_members, numbered_seq_member, ids_in_seq_member}
use Rattle.syncml_parts.specs.Numbering.{numbered_seq_members, ids_in, with_numbers}
use Rattle.syncml_parts.specs.Packing.{only_item, write_item, member_item, seq_member_item, list_last, cut_item}
use Rattle.syncml_parts.specs.Packing.{only_changed, write_changed, member_changed, seq_member_changed, last_changed}
use Rattle.syncml_parts.specs.Packing.{bytes_in, data_in}
use Rattle.syncml_parts.proofs.Last.{last_next}
use Rattle.syncml_types.specs.Message.{no_meta}
use Rattle.dm_atomic.specs.declared.tasks.Named.{Named}
use Rattle.dm_atomic.specs.declared.tasks.Named.TheVariants as named
use Rattle.dm_atomic.specs.Tasks.{piece_of, meta_child}
use Rattle.dm_pack.specs.declared.filled.Tail.{Tail}
use Rattle.dm_pack.specs.declared.filled.Tail.TheVariants.{Final, NextMessage, Nothing}
use Rattle.dm_pack.specs.Entries.{Entry, with_size, part_item, part_of, rest_item}
use Rattle.dm_pack.specs.Entries.{last_only}
use Rattle.dm_pack.specs.Entries.{rest_of}
use Rattle.dm_pack.specs.Filling.{numbered, fits_room, commands_of, taken, greatest, cut, next_part, next_rest, tail_of}
use Rattle.dm_pack.specs.Filling.{tail_commands, fill}
use Rattle.dm_pack.proofs.Parts.{only_next}
use Rattle.dm_world.specs.Acts.{Act, block, does, item_act, item_acts, member_acts, members_acts, seq_member_acts}
use Rattle.dm_world.specs.Acts.{seq_members_acts, command_acts, acts, join}
use Rattle.dm_world.specs.Packing.{PacksAll}
use Rattle.dm_world.proofs.Joins.{acts-append, Splits, split-joined, with-front}

-- ---- numbers play no part

items-any : (a : Bool) (p : Plain) (n : ℕ) (is : List Item) → item_acts a (record p { id = n }) is ≡ item_acts a p is
items-any a p n [] = refl
items-any a p n (i ∷ is) = ap (λ x. item_act a p i ∷ x) (items-any a p n is)

member-any : (a : Bool) (n : ℕ) (m : Member) → member_acts a (with_number n m) ≡ member_acts a m
member-any a n (member.One p) = items-any a p n p.items
member-any a n (member.Alert c) = refl

members-any : (a : Bool) (n : ℕ) (ms : List Member) → members_acts a (numbered_members n ms) ≡ members_acts a ms
unfolding numbered_members
members-any a n [] = refl
members-any a n (m ∷ ms) =
    ap (λ x. x ++ members_acts a (numbered_members (n + 1) ms)) (member-any a n m)
    ∙ ap (λ x. member_acts a m ++ x) (members-any a (n + 1) ms)

seq-member-any : (n : ℕ) (m : SeqMember) → seq_member_acts (numbered_seq_member n m) ≡ seq_member_acts m
seq-member-any n (seq_member.Single m) = member-any false n m
seq-member-any n (seq_member.Atomic b) = ap (λ x. block named.Atomic ∷ x) (members-any true (n + 1) b.members)

sequence-any : (n : ℕ) (ms : List SeqMember) → seq_members_acts (numbered_seq_members n ms) ≡ seq_members_acts ms
unfolding numbered_seq_members
sequence-any n [] = refl
sequence-any n (m ∷ ms) =
    ap (λ x. x ++ seq_members_acts (numbered_seq_members (n + ids_in_seq_member m) ms)) (seq-member-any n m)
    ∙ ap (λ x. seq_member_acts m ++ x) (sequence-any (n + ids_in_seq_member m) ms)

command-any : (n : ℕ) (c : Command) → command_acts (with_numbers n c) ≡ command_acts c
unfolding with_numbers
command-any n (command.Plain p) = items-any false p n p.items
command-any n (command.Alert a) = refl
command-any n (command.Atomic b) = ap (λ x. block named.Atomic ∷ x) (members-any true (n + 1) b.members)
command-any n (command.Sequence b) = ap (λ x. block named.Sequence ∷ x) (sequence-any (n + 1) b.members)
command-any n (command.Status c) = refl
command-any n (command.Results c) = refl

pub numbered-acts : (n : ℕ) (cs : List Command) → acts (numbered n cs) ≡ acts cs
numbered-acts n [] = refl
numbered-acts n (c ∷ cs) =
    ap (λ x. x ++ acts (numbered (n + ids_in c) cs)) (command-any n c)
    ∙ ap (λ x. command_acts c ++ x) (numbered-acts (n + ids_in c) cs)

-- ---- an item cut in two

bytes-value : (o : Option (List ℕ)) → bytes_in o ≡ unwrap_or o []
bytes-value None = refl
bytes-value (Some v) = refl

child-sized : {X : Type 0} (f : Meta → Option X) (begun : Bool) (n : ℕ) (i : Item) (p : Plain)
    → ((m : Meta) (k : Option ℕ) → f (record m { size = k }) ≡ f m)
    → f no_meta ≡ None
    → meta_child f (part_item begun n i) p ≡ meta_child f i p
child-sized f true n i p h e = refl
child-sized f false n i p h e = of-meta (length (bytes_in i.value)) i.meta
  where
    of-meta : (k : ℕ) (o : Option Meta)
        → option_or (option_and_then f (with_size k o)) (option_and_then f p.meta)
        ≡ option_or (option_and_then f o) (option_and_then f p.meta)
    of-meta k None = ap (λ x. option_or x (option_and_then f p.meta)) (h no_meta (Some k) ∙ e)
    of-meta k (Some m) = ap (λ x. option_or x (option_and_then f p.meta)) (h m (Some k))

part-step : (a : Bool) (p : Plain) (begun : Bool) (n : ℕ) (i : Item)
    → (piece_of a p (part_item begun n i)).step
    ≡ record ((piece_of a p i).step) { value = take n (unwrap_or i.value []) }
part-step a p begun n i =
    let f = child-sized (λ m. m.format) begun n i p (λ m k. refl) refl in
    let g = child-sized (λ m. m.media) begun n i p (λ m k. refl) refl in
    let s = (piece_of a p i).step in
    ap (λ v. record s {
      value = take n v;
      format = meta_child (λ m. m.format) (part_item begun n i) p;
      media = meta_child (λ m. m.media) (part_item begun n i) p;
    }) (bytes-value i.value)
    ∙ ap (λ x. record s {
      value = take n (unwrap_or i.value []);
      format = x;
      media = meta_child (λ m. m.media) (part_item begun n i) p;
    }) f
    ∙ ap (λ x. record s { value = take n (unwrap_or i.value []); media = x }) g

rest-step : (a : Bool) (p : Plain) (n : ℕ) (i : Item)
    → (piece_of a p (rest_item n i)).step ≡ record ((piece_of a p i).step) { value = drop n (unwrap_or i.value []) }
rest-step a p n i = ap (λ v. record ((piece_of a p i).step) { value = drop n v }) (bytes-value i.value)

only-split : (a : Bool) (p : Plain) (begun : Bool) (n : ℕ) (is : List Item) (j : Item) → only_item is ≡ Some j
    → Splits n (item_acts a p is) (item_acts a p (only_changed (part_item begun n) is))
    (item_acts a p (only_changed (rest_item n) is))
only-split a p begun n [] j h = cc
only-split a p begun n (i ∷ []) j h = record {
  front = [];
  again = [];
  step = (piece_of a p i).step;
  more = i.more;
  all_is = refl;
  part_is = ap (λ s. does s true ∷ []) (part-step a p begun n i);
  rest_is = ap (λ s. does s i.more ∷ []) (rest-step a p n i);
  blocks = tt;
}
only-split a p begun n (i ∷ k ∷ is) j h = cc

write-split : (a : Bool) (p : Plain) (begun : Bool) (n : ℕ) (v : Verb) (is : List Item) (j : Item)
    → write_item v is ≡ Some j
    → Splits n (item_acts a p is) (item_acts a p (write_changed (part_item begun n) v is))
    (item_acts a p (write_changed (rest_item n) v is))
write-split a p begun n verb.Add is j h = only-split a p begun n is j h
write-split a p begun n verb.Replace is j h = only-split a p begun n is j h
write-split a p begun n verb.Copy is j h = cc
write-split a p begun n verb.Delete is j h = cc
write-split a p begun n verb.Exec is j h = cc
write-split a p begun n verb.Get is j h = cc

splits-nil : (n : ℕ) (a p r : List Act) → Splits n a p r → Splits n (a ++ []) (p ++ []) (r ++ [])
splits-nil n a p r h = record {
  front = h.front;
  again = h.again;
  step = h.step;
  more = h.more;
  all_is = append-nil a ∙ h.all_is;
  part_is = append-nil p ∙ h.part_is;
  rest_is = append-nil r ∙ h.rest_is;
  blocks = h.blocks;
}

splits-front : (n : ℕ) (xs a p r : List Act) → Splits n a p r → Splits n (xs ++ a) (xs ++ p) r
splits-front n xs a p r h = record {
  front = xs ++ h.front;
  again = h.again;
  step = h.step;
  more = h.more;
  all_is = ap (λ x. xs ++ x) h.all_is ∙ sym (append_assoc xs h.front _);
  part_is = ap (λ x. xs ++ x) h.part_is ∙ sym (append_assoc xs h.front _);
  rest_is = h.rest_is;
  blocks = h.blocks;
}

splits-block : (n : ℕ) (name : Named) (a p r : List Act) → Splits n a p r
    → Splits n (block name ∷ a) (block name ∷ p) (block name ∷ r)
splits-block n name a p r h = record {
  front = block name ∷ h.front;
  again = block name ∷ h.again;
  step = h.step;
  more = h.more;
  all_is = ap (λ x. block name ∷ x) h.all_is;
  part_is = ap (λ x. block name ∷ x) h.part_is;
  rest_is = ap (λ x. block name ∷ x) h.rest_is;
  blocks = h.blocks;
}

items-of : (a : Bool) (p : Plain) (is js : List Item) → item_acts a (record p { items = js }) is ≡ item_acts a p is
items-of a p [] js = refl
items-of a p (i ∷ is) js = ap (λ x. item_act a p i ∷ x) (items-of a p is js)

plain-split : (a : Bool) (begun : Bool) (n : ℕ) (p : Plain) (i : Item) → write_item p.verb p.items ≡ Some i
    → Splits n (item_acts a p p.items)
    (item_acts a (record p { items = write_changed (part_item begun n) p.verb p.items })
    (write_changed (part_item begun n) p.verb p.items))
    (item_acts a (record p { items = write_changed (rest_item n) p.verb p.items })
    (write_changed (rest_item n) p.verb p.items))
plain-split a begun n p i h =
    let firsts = write_changed (part_item begun n) p.verb p.items in
    let others = write_changed (rest_item n) p.verb p.items in
    subst (λ x. Splits n (item_acts a p p.items) x (item_acts a (record p { items = others }) others))
    (sym (items-of a p firsts firsts))
    (subst (λ x. Splits n (item_acts a p p.items) (item_acts a p firsts) x) (sym (items-of a p others others))
    (write-split a p begun n p.verb p.items i h))

member-split : (a : Bool) (begun : Bool) (n : ℕ) (m : Member) (i : Item) → member_item m ≡ Some i
    → Splits n (member_acts a m) (member_acts a (member_changed (part_item begun n) m))
    (member_acts a (member_changed (rest_item n) m))
member-split a begun n (member.One p) i h = plain-split a begun n p i h
member-split a begun n (member.Alert c) i h = cc

-- the last alone of a list whose last was changed
last-more : {A : Type 0} (f : A → A) (x y : A) (xs : List A)
    → last_only (x ∷ last_changed f (y ∷ xs)) ≡ last_only (last_changed f (y ∷ xs))
last-more f x y [] = only_next x (f y) []
last-more f x y (z ∷ xs) = only_next x y (last_changed f (z ∷ xs))

last-later : {A B : Type 0} (item : A → Option B) (x y : A) (xs : List A) (i : B)
    → option_and_then item (list_last (x ∷ y ∷ xs)) ≡ Some i
    → option_and_then item (list_last (y ∷ xs)) ≡ Some i
last-later item x y xs i h = ap (option_and_then item) (sym (last_next x y xs)) ∙ h

members-split : (a : Bool) (begun : Bool) (n : ℕ) (ms : List Member) (i : Item)
    → option_and_then member_item (list_last ms) ≡ Some i
    → Splits n (members_acts a ms) (members_acts a (last_changed (member_changed (part_item begun n)) ms))
    (members_acts a (last_only (last_changed (member_changed (rest_item n)) ms)))
members-split a begun n [] i h = cc
members-split a begun n (m ∷ []) i h = splits-nil n _ _ _ (member-split a begun n m i h)
members-split a begun n (m ∷ k ∷ ms) i h =
    subst
    (λ x. Splits n (member_acts a m ++ members_acts a (k ∷ ms))
    (member_acts a m ++ members_acts a (last_changed (member_changed (part_item begun n)) (k ∷ ms)))
    (members_acts a x)) (sym (last-more (member_changed (rest_item n)) m k ms))
    (splits-front n (member_acts a m) _ _ _
    (members-split a begun n (k ∷ ms) i (last-later member_item m k ms i h)))

seq-member-split : (begun : Bool) (n : ℕ) (m : SeqMember) (i : Item) → seq_member_item m ≡ Some i
    → Splits n (seq_member_acts m) (seq_member_acts (seq_member_changed (part_item begun n) m))
    (seq_member_acts (seq_member_changed (rest_item n) m))
seq-member-split begun n (seq_member.Single m) i h = member-split false begun n m i h
seq-member-split begun n (seq_member.Atomic b) i h = cc

sequence-split : (begun : Bool) (n : ℕ) (ms : List SeqMember) (i : Item)
    → option_and_then seq_member_item (list_last ms) ≡ Some i
    → Splits n (seq_members_acts ms) (seq_members_acts (last_changed (seq_member_changed (part_item begun n)) ms))
    (seq_members_acts (last_only (last_changed (seq_member_changed (rest_item n)) ms)))
sequence-split begun n [] i h = cc
sequence-split begun n (m ∷ []) i h = splits-nil n _ _ _ (seq-member-split begun n m i h)
sequence-split begun n (m ∷ k ∷ ms) i h =
    subst
    (λ x. Splits n (seq_member_acts m ++ seq_members_acts (k ∷ ms))
    (seq_member_acts m ++ seq_members_acts (last_changed (seq_member_changed (part_item begun n)) (k ∷ ms)))
    (seq_members_acts x)) (sym (last-more (seq_member_changed (rest_item n)) m k ms))
    (splits-front n (seq_member_acts m) _ _ _
    (sequence-split begun n (k ∷ ms) i (last-later seq_member_item m k ms i h)))

-- ---- an entry cut in two

entry-joined : (o : Option Step) (c : Command) (begun : Bool) (n : ℕ) (i : Item) (xs : List Act)
    → cut_item c ≡ Some i
    → join o (command_acts (part_of (record { command = c; begun = begun }) n)
    ++ (command_acts (rest_of (record { command = c; begun = begun }) n).command ++ xs))
    ≡ join o (command_acts c ++ xs)
unfolding part_of rest_of
entry-joined o (command.Plain p) begun n i xs h = split-joined o n _ _ _ xs (plain-split false begun n p i h)
entry-joined o (command.Atomic b) begun n i xs h =
    split-joined o n _ _ _ xs (splits-block n named.Atomic _ _ _ (members-split true begun n b.members i h))
entry-joined o (command.Sequence b) begun n i xs h =
    split-joined o n _ _ _ xs (splits-block n named.Sequence _ _ _ (sequence-split begun n b.members i h))
entry-joined o (command.Results r) begun n i xs h = refl
entry-joined o (command.Alert a) begun n i xs h = cc
entry-joined o (command.Status s) begun n i xs h = cc

-- a command that has acts where it can be cut
abbrev pub HasActs : Command → Type 0
HasActs (command.Plain p) = Unit {0}
HasActs (command.Alert a) = Unit {0}
HasActs (command.Atomic b) = Unit {0}
HasActs (command.Sequence b) = Unit {0}
HasActs (command.Status s) = Unit {0}
HasActs (command.Results r) = ⊥

pub entry-split : (c : Command) (begun : Bool) (n : ℕ) (i : Item) → HasActs c → cut_item c ≡ Some i
    → Splits n (command_acts c) (command_acts (part_of (record { command = c; begun = begun }) n))
    (command_acts (rest_of (record { command = c; begun = begun }) n).command)
unfolding part_of rest_of
entry-split (command.Plain p) begun n i x h = plain-split false begun n p i h
entry-split (command.Atomic b) begun n i x h =
    splits-block n named.Atomic _ _ _ (members-split true begun n b.members i h)
entry-split (command.Sequence b) begun n i x h =
    splits-block n named.Sequence _ _ _ (sequence-split begun n b.members i h)
entry-split (command.Results r) begun n i x h = absurd x
entry-split (command.Alert a) begun n i x h = cc
entry-split (command.Status s) begun n i x h = cc

-- where a part goes out, there is an item to cut
has-item : (o : Option Item) (k : ℕ) (passes : ℕ → Bool) → greatest passes (length (data_in o) - 1) ≡ suc k
    → (i : Item) × (o ≡ Some i)
has-item None k passes h = absurd (nothing-cut h)
  where
    nothing-cut : greatest passes (0 - 1) ≡ suc k → ⊥
    nothing-cut h = cc
has-item (Some i) k passes h = (i, refl)

-- what goes out and what is left, together
left-joined : (o : Option Step) (n : ℕ) (es : List Entry) (xs : List Act)
    → ((e : Entry) (rest : List Entry) (k : ℕ) → es ≡ e ∷ rest → n ≡ suc k
    → (i : Item) × (cut_item e.command ≡ Some i))
    → join o (acts (next_part n es) ++ (acts (commands_of (next_rest n es)) ++ xs))
    ≡ join o (acts (commands_of es) ++ xs)
left-joined o zero es xs h = refl
left-joined o (suc n) [] xs h = refl
left-joined o (suc n) (e ∷ es) xs h =
    let i = h e es n refl refl in
    let c = e.command in
    let more = acts (commands_of es) in
    let part = command_acts (part_of e (suc n)) in
    let rest = command_acts (rest_of e (suc n)).command in
    ap (λ x. join o (x ++ ((rest ++ more) ++ xs))) (append-nil part)
    ∙ ap (λ x. join o (part ++ x)) (append_assoc rest more xs)
    ∙ entry-joined o c e.begun (suc n) i.0 (more ++ xs) i.1
    ∙ ap (join o) (sym (append_assoc (command_acts c) more xs))

pub tail-acts : (t : Tail) → acts (tail_commands t) ≡ []
tail-acts Final = refl
tail-acts NextMessage = refl
tail-acts Nothing = refl

pub commands-append : (a b : List Entry) → commands_of (a ++ b) ≡ commands_of a ++ commands_of b
commands-append [] b = refl
commands-append (e ∷ es) b = ap (λ x. e.command ∷ x) (commands-append es b)

pub cut-there : (header : Header) (room : ℕ) (before : List Command) (es : List Entry) (e : Entry) (rest : List Entry)
    (k : ℕ)
    → es ≡ e ∷ rest
    → cut header room before es ≡ suc k
    → (i : Item) × (cut_item e.command ≡ Some i)
cut-there header room before [] e rest k h g = absurd (cc)
cut-there header room before (f ∷ es) e rest k h g =
    let same : f ≡ e = cc in
    let x = has-item (cut_item f.command) k (λ n. fits_room header room (before ++ part_of f n ∷ [])) g in
    (x.0, ap (λ (y : Entry). cut_item y.command) (sym same) ∙ x.1)

-- the acts of a message
pub message-acts : (es : List Entry) (header : Header) (room : ℕ) (heard : Bool)
    → acts (fill es header room heard).message.body
    ≡ acts (commands_of (take (fill es header room heard).whole es))
    ++ acts (next_part (fill es header room heard).cut (drop (fill es header room heard).whole es))
unfolding fill
message-acts es header room heard =
    let whole = taken header room [] es in
    let before = commands_of (take whole es) in
    let n = cut header room before (drop whole es) in
    let part = next_part n (drop whole es) in
    let tail = tail_of (next_rest n (drop whole es)) heard in
    numbered-acts 1 (before ++ part ++ tail_commands tail)
    ∙ acts-append (before ++ part) (tail_commands tail)
    ∙ ap (λ x. acts (before ++ part) ++ x) (tail-acts tail)
    ∙ append-nil (acts (before ++ part))
    ∙ acts-append before part

fill-parts : (o : Option Step) (es : List Entry) (header : Header) (room : ℕ) (heard : Bool) (xs : List Act)
    → join o ((acts (commands_of (take (fill es header room heard).whole es))
    ++ acts (next_part (fill es header room heard).cut (drop (fill es header room heard).whole es)))
    ++ (acts (commands_of (fill es header room heard).left) ++ xs))
    ≡ join o (acts (commands_of es) ++ xs)
unfolding fill
fill-parts o es header room heard xs =
    let whole = taken header room [] es in
    let before = commands_of (take whole es) in
    let next = drop whole es in
    let n = cut header room before next in
    let rest = acts (commands_of (next_rest n next)) ++ xs in
    ap (join o) (append_assoc (acts before) (acts (next_part n next)) rest)
    ∙ with-front o (acts before) _ _
    (λ p. left-joined p n next xs (λ e r k h g. cut-there header room before next e r k h g))
    ∙ ap (join o) (sym (append_assoc (acts before) (acts (commands_of next)) xs)
    ∙ ap (λ x. x ++ xs) (sym (acts-append before (commands_of next))))
    ∙ ap (λ x. join o (acts x ++ xs)) (sym (commands-append (take whole es) next)
    ∙ ap commands_of (take-append-drop whole es))

-- A message and what is left have the acts of what waited.
pub fill-joined : (o : Option Step) (es : List Entry) (header : Header) (room : ℕ) (heard : Bool) (xs : List Act)
    → join o (acts (fill es header room heard).message.body
    ++ (acts (commands_of (fill es header room heard).left) ++ xs))
    ≡ join o (acts (commands_of es) ++ xs)
fill-joined o es header room heard xs =
    ap (λ x. join o (x ++ (acts (commands_of (fill es header room heard).left) ++ xs)))
    (message-acts es header room heard)
    ∙ fill-parts o es header room heard xs

pub packs_all : PacksAll
packs_all part es header room heard later =
    let f = fill es header room heard in
    ap (join part) (append_assoc (acts f.message.body) (acts (commands_of f.left)) later)
    ∙ fill-joined part es header room heard later
