-- What a command asks for, its values aside, stays where it is cut and numbered: which CmdID has which step.
use Rattle.std.proofs.Common.{◌≡◌, ◌+◌, ◌-◌, ℕ, Bool, true, false, List, [], ◌∷◌, ◌++◌, length, map}
use Rattle.std.proofs.Common.{drop, Option, None, Some, refl, sym, ◌∙◌, ap, subst, arith}
use Rattle.std.specs.Prelude.{slice_get, option_and_then}
use Rattle.std.specs.List.{AllByRecursion}
use Rattle.std.proofs.lemmas.List.{length-map, drop-map}
use Rattle.syncml_types.specs.declared.values.Meta.{Meta}
use Rattle.syncml_types.specs.declared.values.Item.{Item}
use Rattle.syncml_types.specs.declared.command.Verb.{Verb}
use Rattle.syncml_types.specs.declared.command.Verb.TheVariants as verb
use Rattle.syncml_types.specs.declared.command.Plain.{Plain}
use Rattle.syncml_types.specs.declared.command.Member.{Member}
use Rattle.syncml_types.specs.declared.command.Member.TheVariants as member
use Rattle.syncml_types.specs.declared.command.SeqMember.{SeqMember}
use Rattle.syncml_types.specs.declared.command.SeqMember.TheVariants as seq_member
use Rattle.syncml_types.specs.declared.command.Command.{Command}
use Rattle.syncml_types.specs.declared.command.Command.TheVariants as command
use Rattle.syncml_parts.specs.Numbering.{numbered_members, numbered_seq_members, ids_in, ids_in_seq_members}
use Rattle.syncml_parts.specs.Numbering.{with_numbers}
use Rattle.syncml_parts.specs.Packing.{only_changed, write_changed, member_changed, seq_member_changed, last_changed}
use Rattle.syncml_parts.specs.Packing.{cut_changed}
use Rattle.dm_atomic.specs.declared.tasks.Named.TheVariants as named
use Rattle.dm_atomic.specs.declared.tasks.Origin.{Origin}
use Rattle.dm_atomic.specs.Tasks.{item_tasks, members_tasks}
use Rattle.dm_job.specs.Sound.{IsStepMember, IsStepSeqMember, IsJobCommand}
use Rattle.dm_pack.specs.Entries.{Entry, with_size, part_item, part_of, rest_item, last_only, last_alone, rest_of}
use Rattle.dm_pack.proofs.Parts.{only_next}
use Rattle.dm_world.specs.Deeds.{Deed, step_deeds, members_deeds, command_deeds}
use Rattle.dm_world.specs.Acts.{Act, block, item_act, item_acts, member_acts, members_acts, seq_member_acts}
use Rattle.dm_world.specs.Acts.{seq_members_acts, doing_acts}
use Rattle.dm_world.specs.Commands.{outline, outlines}
use Rattle.dm_world.proofs.Ranges.{all-behind}

-- ---- commands that ask for one thing each, and containers of such

abbrev pub OneStep : Plain → Type 0
OneStep p = (i : Item) × (p.items ≡ i ∷ [])

abbrev pub OneMember : Member → Type 0
OneMember (member.One p) = OneStep p
OneMember (member.Alert a) = ⊥

abbrev pub OneSeqMember : SeqMember → Type 0
OneSeqMember (seq_member.Single m) = OneMember m
OneSeqMember (seq_member.Atomic b) = ⊥

abbrev pub OneEach : Command → Type 0
OneEach (command.Plain p) = OneStep p
OneEach (command.Alert a) = ⊥
OneEach (command.Atomic b) = AllByRecursion OneMember b.members
OneEach (command.Sequence b) = AllByRecursion OneSeqMember b.members
OneEach (command.Status c) = ⊥
OneEach (command.Results c) = ⊥

job-members : (ms : List Member) → AllByRecursion IsStepMember ms → AllByRecursion OneMember ms
job-members [] h = tt
job-members (member.One p ∷ ms) h = ((h.0.item, h.0.only), job-members ms h.1)
job-members (member.Alert a ∷ ms) h = absurd h.0

job-seq-members : (ms : List SeqMember) → AllByRecursion IsStepSeqMember ms → AllByRecursion OneSeqMember ms
job-seq-members [] h = tt
job-seq-members (seq_member.Single (member.One p) ∷ ms) h = ((h.0.item, h.0.only), job-seq-members ms h.1)
job-seq-members (seq_member.Single (member.Alert a) ∷ ms) h = absurd h.0
job-seq-members (seq_member.Atomic b ∷ ms) h = absurd h.0

pub job-each : (c : Command) → IsJobCommand c → OneEach c
job-each (command.Plain p) h = (h.item, h.only)
job-each (command.Alert a) h = absurd h
job-each (command.Atomic b) h = job-members b.members h.1
job-each (command.Sequence b) h = job-seq-members b.members h.1
job-each (command.Status c) h = absurd h
job-each (command.Results c) h = absurd h

-- ---- an item changed

-- what an item asks for stays, its value aside
abbrev KeepsOutline : (Item → Item) → Type 0
KeepsOutline f = (a : Bool) (p : Plain) (i : Item) → outline (item_act a p (f i)) ≡ outline (item_act a p i)

abbrev lines : List Act → List Act
lines xs = map outline xs

only-outline : (f : Item → Item) → KeepsOutline f → (a : Bool) (p : Plain) (is : List Item)
    → lines (item_acts a p (only_changed f is)) ≡ lines (item_acts a p is)
only-outline f k a p [] = refl
only-outline f k a p (i ∷ []) = ap (λ x. x ∷ []) (k a p i)
only-outline f k a p (i ∷ j ∷ is) = refl

write-outline : (f : Item → Item) → KeepsOutline f → (a : Bool) (p : Plain) (v : Verb) (is : List Item)
    → lines (item_acts a p (write_changed f v is)) ≡ lines (item_acts a p is)
write-outline f k a p verb.Add is = only-outline f k a p is
write-outline f k a p verb.Replace is = only-outline f k a p is
write-outline f k a p verb.Copy is = refl
write-outline f k a p verb.Delete is = refl
write-outline f k a p verb.Exec is = refl
write-outline f k a p verb.Get is = refl

-- what is asked of a command doesn't look at the items that stand in it
plain-items : (a : Bool) (p : Plain) (xs is : List Item) → item_acts a (record p { items = xs }) is ≡ item_acts a p is
plain-items a p xs [] = refl
plain-items a p xs (i ∷ is) = ap (λ x. item_act a p i ∷ x) (plain-items a p xs is)

plain-outline : (f : Item → Item) → KeepsOutline f → (a : Bool) (p : Plain)
    → lines (item_acts a (record p { items = write_changed f p.verb p.items }) (write_changed f p.verb p.items))
    ≡ lines (item_acts a p p.items)
plain-outline f k a p =
    ap lines (plain-items a p (write_changed f p.verb p.items) (write_changed f p.verb p.items))
    ∙ write-outline f k a p p.verb p.items

member-outline : (f : Item → Item) → KeepsOutline f → (a : Bool) (m : Member)
    → lines (member_acts a (member_changed f m)) ≡ lines (member_acts a m)
member-outline f k a (member.One p) = plain-outline f k a p
member-outline f k a (member.Alert c) = refl

lines-append : (xs ys : List Act) → lines (xs ++ ys) ≡ lines xs ++ lines ys
lines-append [] ys = refl
lines-append (x ∷ xs) ys = ap (λ l. outline x ∷ l) (lines-append xs ys)

same-behind : (xs ys zs : List Act) → lines xs ≡ lines ys → lines (xs ++ zs) ≡ lines (ys ++ zs)
same-behind xs ys zs e = lines-append xs zs ∙ ap (λ l. l ++ lines zs) e ∙ sym (lines-append ys zs)

same-before : (xs ys zs : List Act) → lines ys ≡ lines zs → lines (xs ++ ys) ≡ lines (xs ++ zs)
same-before xs ys zs e = lines-append xs ys ∙ ap (λ l. lines xs ++ l) e ∙ sym (lines-append xs zs)

members-outline : (f : Item → Item) → KeepsOutline f → (a : Bool) (ms : List Member)
    → lines (members_acts a (last_changed (member_changed f) ms)) ≡ lines (members_acts a ms)
members-outline f k a [] = refl
members-outline f k a (m ∷ []) =
    same-behind (member_acts a (member_changed f m)) (member_acts a m) [] (member-outline f k a m)
members-outline f k a (m ∷ n ∷ ms) =
    same-before (member_acts a m) (members_acts a (last_changed (member_changed f) (n ∷ ms))) (members_acts a (n ∷ ms))
    (members-outline f k a (n ∷ ms))

seq-outline : (f : Item → Item) → KeepsOutline f → (m : SeqMember)
    → lines (seq_member_acts (seq_member_changed f m)) ≡ lines (seq_member_acts m)
seq-outline f k (seq_member.Single m) = member-outline f k false m
seq-outline f k (seq_member.Atomic b) = refl

seqs-outline : (f : Item → Item) → KeepsOutline f → (ms : List SeqMember)
    → lines (seq_members_acts (last_changed (seq_member_changed f) ms)) ≡ lines (seq_members_acts ms)
seqs-outline f k [] = refl
seqs-outline f k (m ∷ []) =
    same-behind (seq_member_acts (seq_member_changed f m)) (seq_member_acts m) [] (seq-outline f k m)
seqs-outline f k (m ∷ n ∷ ms) =
    same-before (seq_member_acts m) (seq_members_acts (last_changed (seq_member_changed f) (n ∷ ms)))
    (seq_members_acts (n ∷ ms)) (seqs-outline f k (n ∷ ms))

changed-outline : (f : Item → Item) → KeepsOutline f → (c : Command) → outlines (cut_changed f c) ≡ outlines c
changed-outline f k (command.Plain p) = plain-outline f k false p
changed-outline f k (command.Alert a) = refl
changed-outline f k (command.Atomic b) = ap (λ l. block named.Atomic ∷ l) (members-outline f k true b.members)
changed-outline f k (command.Sequence b) = ap (λ l. block named.Sequence ∷ l) (seqs-outline f k b.members)
changed-outline f k (command.Status c) = refl
changed-outline f k (command.Results c) = refl

rest-keeps : (n : ℕ) → KeepsOutline (rest_item n)
rest-keeps n a p i = refl

sized-format : (size : ℕ) (o : Option Meta)
    → option_and_then (λ (m : Meta). m.format) (with_size size o) ≡ option_and_then (λ (m : Meta). m.format) o
sized-format size None = refl
sized-format size (Some m) = refl

sized-media : (size : ℕ) (o : Option Meta)
    → option_and_then (λ (m : Meta). m.media) (with_size size o) ≡ option_and_then (λ (m : Meta). m.media) o
sized-media size None = refl
sized-media size (Some m) = refl

part-keeps : (begun : Bool) (n : ℕ) → KeepsOutline (part_item begun n)
part-keeps true n a p i = refl
part-keeps false n a p i = rw (sized-format _ i.meta, sized-media _ i.meta) refl

pub part-outline : (e : Entry) (n : ℕ) → outlines (part_of e n) ≡ outlines e.command
unfolding part_of
part-outline e n = changed-outline (part_item e.begun n) (part-keeps e.begun n) e.command

-- ---- the form stays

only-step : (f : Item → Item) (is : List Item) → (i : Item) × (is ≡ i ∷ [])
    → (i : Item) × (only_changed f is ≡ i ∷ [])
only-step f is h = (f h.0, ap (only_changed f) h.1)

write-step : (f : Item → Item) (v : Verb) (is : List Item) → (i : Item) × (is ≡ i ∷ [])
    → (i : Item) × (write_changed f v is ≡ i ∷ [])
write-step f verb.Add is h = only-step f is h
write-step f verb.Replace is h = only-step f is h
write-step f verb.Copy is h = h
write-step f verb.Delete is h = h
write-step f verb.Exec is h = h
write-step f verb.Get is h = h

member-one : (f : Item → Item) (m : Member) → OneMember m → OneMember (member_changed f m)
member-one f (member.One p) h = write-step f p.verb p.items h
member-one f (member.Alert a) h = absurd h

seq-one : (f : Item → Item) (m : SeqMember) → OneSeqMember m → OneSeqMember (seq_member_changed f m)
seq-one f (seq_member.Single m) h = member-one f m h
seq-one f (seq_member.Atomic b) h = absurd h

pub last-all : {A : Type 0} (P : A → Type 0) (f : A → A) → ((x : A) → P x → P (f x)) → (xs : List A)
    → AllByRecursion P xs
    → AllByRecursion P (last_changed f xs)
last-all P f one [] h = tt
last-all P f one (x ∷ []) h = (one x h.0, tt)
last-all P f one (x ∷ y ∷ xs) h = (h.0, last-all P f one (y ∷ xs) h.1)

changed-each : (f : Item → Item) (c : Command) → OneEach c → OneEach (cut_changed f c)
changed-each f (command.Plain p) h = write-step f p.verb p.items h
changed-each f (command.Alert a) h = absurd h
changed-each f (command.Atomic b) h = last-all OneMember (member_changed f) (member-one f) b.members h
changed-each f (command.Sequence b) h = last-all OneSeqMember (seq_member_changed f) (seq-one f) b.members h
changed-each f (command.Status c) h = absurd h
changed-each f (command.Results c) h = absurd h

alone-each : (c : Command) → OneEach c → OneEach (last_alone c)
alone-each (command.Plain p) h = h
alone-each (command.Alert a) h = absurd h
alone-each (command.Atomic b) h = all-behind OneMember (length b.members - 1) b.members h
alone-each (command.Sequence b) h = all-behind OneSeqMember (length b.members - 1) b.members h
alone-each (command.Status c) h = absurd h
alone-each (command.Results c) h = absurd h

pub part-each : (e : Entry) (n : ℕ) → OneEach e.command → OneEach (part_of e n)
unfolding part_of
part-each e n h = changed-each (part_item e.begun n) e.command h

pub rest-each : (e : Entry) (n : ℕ) → OneEach e.command → OneEach (rest_of e n).command
unfolding rest_of
rest-each e n h = alone-each (cut_changed (rest_item n) e.command) (changed-each (rest_item n) e.command h)

-- ---- a container and its last member

-- the first, and the last of the others
abbrev pub ends_of : List Act → List Act
ends_of [] = []
ends_of (x ∷ xs) = x ∷ last_only xs

abbrev head-act : List Act → Act
head-act [] = block named.Atomic
head-act (x ∷ xs) = x

abbrev first-act : Bool → Member → Act
first-act a m = head-act (member_acts a m)

abbrev seq-act : SeqMember → Act
seq-act m = head-act (seq_member_acts m)

members-map : (a : Bool) (ms : List Member) → AllByRecursion OneMember ms → members_acts a ms ≡ map (first-act a) ms
members-map a [] h = refl
members-map a (member.One p ∷ ms) h =
    subst (λ is. item_acts a p is ++ members_acts a ms ≡ head-act (item_acts a p is) ∷ map (first-act a) ms)
    (sym h.0.1)
    (ap (λ l. item_act a p h.0.0 ∷ l) (members-map a ms h.1))
members-map a (member.Alert c ∷ ms) h = absurd h.0

seqs-map : (ms : List SeqMember) → AllByRecursion OneSeqMember ms → seq_members_acts ms ≡ map seq-act ms
seqs-map [] h = refl
seqs-map (seq_member.Single (member.One p) ∷ ms) h =
    subst (λ is. item_acts false p is ++ seq_members_acts ms ≡ head-act (item_acts false p is) ∷ map seq-act ms)
    (sym h.0.1)
    (ap (λ l. item_act false p h.0.0 ∷ l) (seqs-map ms h.1))
seqs-map (seq_member.Single (member.Alert c) ∷ ms) h = absurd h.0
seqs-map (seq_member.Atomic b ∷ ms) h = absurd h.0

last-map : {A B : Type 0} (f : A → B) (xs : List A) → last_only (map f xs) ≡ map f (last_only xs)
last-map f xs = ap (λ k. drop (k - 1) (map f xs)) (length-map xs f) ∙ drop-map f (length xs - 1) xs

last-lines : {A : Type 0} (g : A → Act) (xs : List A) → lines (map g (last_only xs)) ≡ last_only (lines (map g xs))
last-lines g xs = ap lines (sym (last-map g xs)) ∙ sym (last-map outline (map g xs))

last-members : (a : Bool) (ms : List Member) → AllByRecursion OneMember ms
    → lines (members_acts a (last_only ms)) ≡ last_only (lines (members_acts a ms))
last-members a ms h =
    ap lines (members-map a (last_only ms) (all-behind OneMember (length ms - 1) ms h))
    ∙ last-lines (first-act a) ms
    ∙ ap (λ l. last_only (lines l)) (sym (members-map a ms h))

last-seqs : (ms : List SeqMember) → AllByRecursion OneSeqMember ms
    → lines (seq_members_acts (last_only ms)) ≡ last_only (lines (seq_members_acts ms))
last-seqs ms h =
    ap lines (seqs-map (last_only ms) (all-behind OneSeqMember (length ms - 1) ms h))
    ∙ last-lines seq-act ms
    ∙ ap (λ l. last_only (lines l)) (sym (seqs-map ms h))

alone-outline : (c : Command) → OneEach c → outlines (last_alone c) ≡ ends_of (outlines c)
alone-outline (command.Plain p) h =
    subst (λ is. lines (item_acts false p is) ≡ ends_of (lines (item_acts false p is))) (sym h.1) refl
alone-outline (command.Alert a) h = absurd h
alone-outline (command.Atomic b) h = ap (λ l. block named.Atomic ∷ l) (last-members true b.members h)
alone-outline (command.Sequence b) h = ap (λ l. block named.Sequence ∷ l) (last-seqs b.members h)
alone-outline (command.Status c) h = absurd h
alone-outline (command.Results c) h = absurd h

pub rest-outline : (e : Entry) (n : ℕ) → OneEach e.command
    → outlines (rest_of e n).command ≡ ends_of (outlines e.command)
unfolding rest_of
rest-outline e n h =
    alone-outline (cut_changed (rest_item n) e.command) (changed-each (rest_item n) e.command h)
    ∙ ap ends_of (changed-outline (rest_item n) (rest-keeps n) e.command)

last-twice : {A : Type 0} (xs : List A) → last_only (last_only xs) ≡ last_only xs
last-twice [] = refl
last-twice (x ∷ []) = refl
last-twice (x ∷ y ∷ xs) = ap last_only (only_next x y xs) ∙ last-twice (y ∷ xs) ∙ sym (only_next x y xs)

pub ends-twice : (xs : List Act) → ends_of (ends_of xs) ≡ ends_of xs
ends-twice [] = refl
ends-twice (x ∷ xs) = ap (λ l. x ∷ l) (last-twice xs)

-- the last of some stands at the end
pub last-at : (x : Act) (xs : List Act)
    → (z : Act) × (last_only (x ∷ xs) ≡ z ∷ []) × (slice_get (x ∷ xs) (length xs) ≡ Some z)
last-at x [] = (x, refl, refl)
last-at x (y ∷ xs) = let h = last-at y xs in (h.0, only_next x y xs ∙ h.1, h.2)

-- ---- how many

pub seq-ids : (ms : List SeqMember) → AllByRecursion OneSeqMember ms → ids_in_seq_members ms ≡ length ms
unfolding ids_in_seq_members
seq-ids [] h = refl
seq-ids (seq_member.Single m ∷ ms) h = let rest = seq-ids ms h.1 in omega (arith, rest)
seq-ids (seq_member.Atomic b ∷ ms) h = absurd h.0

pub acts-long : (c : Command) → OneEach c → length (outlines c) ≡ ids_in c
unfolding ids_in
acts-long (command.Plain p) h = subst (λ is. length (lines (item_acts false p is)) ≡ 1) (sym h.1) refl
acts-long (command.Alert a) h = absurd h
acts-long (command.Atomic b) h =
    let lined = length-map (members_acts true b.members) outline in
    let same = ap length (members-map true b.members h) in
    let mapped = length-map b.members (first-act true) in
    omega (arith, lined, same, mapped)
acts-long (command.Sequence b) h =
    let lined = length-map (seq_members_acts b.members) outline in
    let same = ap length (seqs-map b.members h) in
    let mapped = length-map b.members seq-act in
    let ids = seq-ids b.members h in
    omega (arith, lined, same, mapped, ids)
acts-long (command.Status c) h = absurd h
acts-long (command.Results c) h = absurd h

-- ---- which CmdID has what

-- one deed for each, with CmdIDs from a number on
abbrev pub Marked : List Deed → ℕ → List Act → Type 0
Marked [] k [] = Unit {0}
Marked [] k (a ∷ xs) = ⊥
Marked (d ∷ ds) k [] = ⊥
Marked (d ∷ ds) k (a ∷ xs) = (d.post.command ≡ k) × (lines (doing_acts d.doing) ≡ a ∷ []) × Marked ds (k + 1) xs

members-marked : (o : Origin) (a : Bool) (k : ℕ) (ms : List Member) → AllByRecursion OneMember ms
    → Marked (step_deeds (members_tasks o a (numbered_members k ms))) k (lines (members_acts a ms))
unfolding numbered_members
members-marked o a k [] h = tt
members-marked o a k (member.One p ∷ ms) h =
    subst
    (λ is. Marked
    (step_deeds (item_tasks o a (record p { id = k }) 0 is ++ members_tasks o a (numbered_members (k + 1) ms))) k
    (lines (item_acts a p is ++ members_acts a ms)))
    (sym h.0.1)
    (refl, refl, members-marked o a (k + 1) ms h.1)
members-marked o a k (member.Alert c ∷ ms) h = absurd h.0

seqs-marked : (o : Origin) (k : ℕ) (ms : List SeqMember) → AllByRecursion OneSeqMember ms
    → Marked (members_deeds o (numbered_seq_members k ms)) k (lines (seq_members_acts ms))
unfolding numbered_seq_members
seqs-marked o k [] h = tt
seqs-marked o k (seq_member.Single (member.One p) ∷ ms) h =
    subst
    (λ is. Marked
    (step_deeds (item_tasks o false (record p { id = k }) 0 is) ++ members_deeds o (numbered_seq_members (k + 1) ms)) k
    (lines (item_acts false p is ++ seq_members_acts ms)))
    (sym h.0.1)
    (refl, refl, seqs-marked o (k + 1) ms h.1)
seqs-marked o k (seq_member.Single (member.Alert c) ∷ ms) h = absurd h.0
seqs-marked o k (seq_member.Atomic b ∷ ms) h = absurd h.0

pub command-marked : (o : Origin) (k : ℕ) (c : Command) → OneEach c
    → Marked (command_deeds o (with_numbers k c)) k (outlines c)
unfolding with_numbers
command-marked o k (command.Plain p) h =
    subst
    (λ is. Marked (step_deeds (item_tasks o false (record p { id = k }) 0 is)) k (lines (item_acts false p is)))
    (sym h.1)
    (refl, refl, tt)
command-marked o k (command.Alert a) h = absurd h
command-marked o k (command.Atomic b) h = (refl, refl, members-marked o true (k + 1) b.members h)
command-marked o k (command.Sequence b) h = (refl, refl, seqs-marked o (k + 1) b.members h)
command-marked o k (command.Status c) h = absurd h
command-marked o k (command.Results c) h = absurd h
