-- What of a command is whole where it goes out: all of what is left of it, and all of a part but its last step.
use Rattle.std.proofs.Common.{zero, suc, ◌≡◌, ◌<◌, ◌+◌, ◌-◌, ℕ, Bool, true, false, not, List, [], ◌∷◌, ◌++◌}
use Rattle.std.proofs.Common.{length}
use Rattle.std.proofs.Common.{refl, sym, ap, subst, arith, ◌⊎◌, inl, inr}
use Rattle.std.specs.List.{AllByRecursion, Contains}
use Rattle.std.proofs.lemmas.List.Elements.{Contains-append_cases}
use Rattle.syncml_types.specs.declared.values.Item.{Item}
use Rattle.syncml_types.specs.declared.command.Verb.{Verb}
use Rattle.syncml_types.specs.declared.command.Verb.TheVariants as verb
use Rattle.syncml_types.specs.declared.command.Plain.{Plain}
use Rattle.syncml_types.specs.declared.command.Member.{Member}
use Rattle.syncml_types.specs.declared.command.Member.TheVariants as member
use Rattle.syncml_types.specs.declared.command.SeqMember.{SeqMember}
use Rattle.syncml_types.specs.declared.command.SeqMember.TheVariants as seq_member
use Rattle.syncml_types.specs.declared.command.Command.{Command}
use Rattle.syncml_types.specs.declared.command.Command.TheVariants as command
use Rattle.syncml_parts.specs.Numbering.{with_number, numbered_members, numbered_seq_members, ids_in}
use Rattle.syncml_parts.specs.Numbering.{with_numbers}
use Rattle.syncml_parts.specs.Packing.{only_changed, write_changed, member_changed, seq_member_changed, last_changed}
use Rattle.syncml_parts.specs.Packing.{cut_changed}
use Rattle.dm_atomic.specs.declared.tasks.Origin.{Origin}
use Rattle.dm_atomic.specs.declared.tasks.Task.{Task}
use Rattle.dm_atomic.specs.Tasks.{item_tasks, member_tasks, members_tasks}
use Rattle.dm_pack.specs.Entries.{Entry, part_item, part_of, rest_item, last_alone, rest_of}
use Rattle.dm_job.specs.Sound.{IsStep, IsStepMember, IsStepSeqMember, IsJobCommand}
use Rattle.dm_world.specs.Deeds.{Deed, step_deed, step_deeds, members_deeds, command_deeds}
use Rattle.dm_world.specs.Commands.{IsWholeDeed}
use Rattle.dm_world.proofs.Lists.{Each, each-append}
use Rattle.dm_world.proofs.Ranges.{all-behind}
use Rattle.dm_world.proofs.SaysMade.{each-contains}
use Rattle.dm_world.proofs.Outlines.{OneSeqMember, OneEach, last-all, seq-ids}

-- ---- commands of whole items

abbrev WholeItem : Item → Type 0
WholeItem i = i.more ≡ false

abbrev WholePlain : Plain → Type 0
WholePlain p = AllByRecursion WholeItem p.items

abbrev WholeMember : Member → Type 0
WholeMember (member.One p) = WholePlain p
WholeMember (member.Alert a) = Unit {0}

abbrev WholeSeqMember : SeqMember → Type 0
WholeSeqMember (seq_member.Single m) = WholeMember m
WholeSeqMember (seq_member.Atomic b) = AllByRecursion WholeMember b.members

abbrev pub WholeEach : Command → Type 0
WholeEach (command.Plain p) = WholePlain p
WholeEach (command.Alert a) = Unit {0}
WholeEach (command.Atomic b) = AllByRecursion WholeMember b.members
WholeEach (command.Sequence b) = AllByRecursion WholeSeqMember b.members
WholeEach (command.Status c) = Unit {0}
WholeEach (command.Results c) = Unit {0}

step-whole : (p : Plain) → IsStep p → WholePlain p
step-whole p h = subst (AllByRecursion WholeItem) (sym h.only) (h.whole, tt)

members-whole : (ms : List Member) → AllByRecursion IsStepMember ms → AllByRecursion WholeMember ms
members-whole [] h = tt
members-whole (member.One p ∷ ms) h = (step-whole p h.0, members-whole ms h.1)
members-whole (member.Alert a ∷ ms) h = absurd h.0

seqs-whole : (ms : List SeqMember) → AllByRecursion IsStepSeqMember ms → AllByRecursion WholeSeqMember ms
seqs-whole [] h = tt
seqs-whole (seq_member.Single (member.One p) ∷ ms) h = (step-whole p h.0, seqs-whole ms h.1)
seqs-whole (seq_member.Single (member.Alert a) ∷ ms) h = absurd h.0
seqs-whole (seq_member.Atomic b ∷ ms) h = absurd h.0

pub job-whole : (c : Command) → IsJobCommand c → WholeEach c
job-whole (command.Plain p) h = step-whole p h
job-whole (command.Alert a) h = absurd h
job-whole (command.Atomic b) h = members-whole b.members h.1
job-whole (command.Sequence b) h = seqs-whole b.members h.1
job-whole (command.Status c) h = absurd h
job-whole (command.Results c) h = absurd h

-- ---- what is left

rest-only : (n : ℕ) (is : List Item) → AllByRecursion WholeItem is
    → AllByRecursion WholeItem (only_changed (rest_item n) is)
rest-only n [] h = tt
rest-only n (i ∷ []) h = h
rest-only n (i ∷ j ∷ is) h = h

rest-write : (n : ℕ) (v : Verb) (is : List Item) → AllByRecursion WholeItem is
    → AllByRecursion WholeItem (write_changed (rest_item n) v is)
rest-write n verb.Add is h = rest-only n is h
rest-write n verb.Replace is h = rest-only n is h
rest-write n verb.Copy is h = h
rest-write n verb.Delete is h = h
rest-write n verb.Exec is h = h
rest-write n verb.Get is h = h

rest-member : (n : ℕ) (m : Member) → WholeMember m → WholeMember (member_changed (rest_item n) m)
rest-member n (member.One p) h = rest-write n p.verb p.items h
rest-member n (member.Alert a) h = tt

rest-seq : (n : ℕ) (m : SeqMember) → WholeSeqMember m → WholeSeqMember (seq_member_changed (rest_item n) m)
rest-seq n (seq_member.Single m) h = rest-member n m h
rest-seq n (seq_member.Atomic b) h = h

changed-whole : (n : ℕ) (c : Command) → WholeEach c → WholeEach (cut_changed (rest_item n) c)
changed-whole n (command.Plain p) h = rest-write n p.verb p.items h
changed-whole n (command.Alert a) h = tt
changed-whole n (command.Atomic b) h =
    last-all WholeMember (member_changed (rest_item n)) (rest-member n) b.members h
changed-whole n (command.Sequence b) h =
    last-all WholeSeqMember (seq_member_changed (rest_item n)) (rest-seq n) b.members h
changed-whole n (command.Status c) h = tt
changed-whole n (command.Results c) h = tt

alone-whole : (c : Command) → WholeEach c → WholeEach (last_alone c)
alone-whole (command.Plain p) h = h
alone-whole (command.Alert a) h = tt
alone-whole (command.Atomic b) h = all-behind WholeMember (length b.members - 1) b.members h
alone-whole (command.Sequence b) h = all-behind WholeSeqMember (length b.members - 1) b.members h
alone-whole (command.Status c) h = tt
alone-whole (command.Results c) h = tt

pub rest-whole : (e : Entry) (n : ℕ) → WholeEach e.command → WholeEach (rest_of e n).command
unfolding rest_of
rest-whole e n h = alone-whole (cut_changed (rest_item n) e.command) (changed-whole n e.command h)

-- ---- what of it is whole

items-done : (o : Origin) (a : Bool) (p : Plain) (n : ℕ) (is : List Item) → AllByRecursion WholeItem is
    → Each IsWholeDeed (step_deeds (item_tasks o a p n is))
items-done o a p n [] h = tt
items-done o a p n (i ∷ is) h = ((ap not h.0, tt), items-done o a p (suc n) is h.1)

member-done : (o : Origin) (a : Bool) (k : ℕ) (m : Member) → WholeMember m
    → Each IsWholeDeed (step_deeds (member_tasks o a (with_number k m)))
member-done o a k (member.One p) h = items-done o a (record p { id = k }) 0 p.items h
member-done o a k (member.Alert c) h = (tt, tt)

steps-append : (a b : List Task) → step_deeds (a ++ b) ≡ step_deeds a ++ step_deeds b
steps-append [] b = refl
steps-append (t ∷ ts) b = ap (λ l. step_deed t ∷ l) (steps-append ts b)

members-done : (o : Origin) (a : Bool) (k : ℕ) (ms : List Member) → AllByRecursion WholeMember ms
    → Each IsWholeDeed (step_deeds (members_tasks o a (numbered_members k ms)))
unfolding numbered_members
members-done o a k [] h = tt
members-done o a k (m ∷ ms) h =
    subst (Each IsWholeDeed)
    (sym (steps-append (member_tasks o a (with_number k m)) (members_tasks o a (numbered_members (k + 1) ms))))
    (each-append IsWholeDeed (step_deeds (member_tasks o a (with_number k m))) _ (member-done o a k m h.0)
    (members-done o a (k + 1) ms h.1))

seqs-done : (o : Origin) (k : ℕ) (ms : List SeqMember) → AllByRecursion OneSeqMember ms
    → AllByRecursion WholeSeqMember ms
    → Each IsWholeDeed (members_deeds o (numbered_seq_members k ms))
unfolding numbered_seq_members
seqs-done o k [] one h = tt
seqs-done o k (seq_member.Single m ∷ ms) one h =
    each-append IsWholeDeed (step_deeds (member_tasks o false (with_number k m))) _ (member-done o false k m h.0)
    (seqs-done o (k + 1) ms one.1 h.1)
seqs-done o k (seq_member.Atomic b ∷ ms) one h = absurd one.0

pub command-done : (o : Origin) (k : ℕ) (c : Command) → OneEach c → WholeEach c
    → Each IsWholeDeed (command_deeds o (with_numbers k c))
unfolding with_numbers
command-done o k (command.Plain p) one h = items-done o false (record p { id = k }) 0 p.items h
command-done o k (command.Alert a) one h = absurd one
command-done o k (command.Atomic b) one h = ((refl, tt), members-done o true (k + 1) b.members h)
command-done o k (command.Sequence b) one h = ((refl, tt), seqs-done o (k + 1) b.members one h)
command-done o k (command.Status c) one h = absurd one
command-done o k (command.Results c) one h = absurd one

-- ---- a part: all but its last step

-- whole where it isn't the last of so many CmdIDs
abbrev WholeBelow : ℕ → Deed → Type 0
WholeBelow end d = d.post.command + 1 < end → IsWholeDeed d

no-element : {A : Type 0} {x : A} → Contains [] x → ⊥
no-element h = let low = h.1 in omega (arith, low)

abbrev HasCommand : ℕ → Deed → Type 0
HasCommand k d = d.post.command ≡ k

items-command : (o : Origin) (a : Bool) (p : Plain) (k n : ℕ) (is : List Item) → p.id ≡ k
    → Each (HasCommand k) (step_deeds (item_tasks o a p n is))
items-command o a p k n [] e = tt
items-command o a p k n (i ∷ is) e = (e, items-command o a p k (suc n) is e)

member-command : (o : Origin) (a : Bool) (k : ℕ) (m : Member)
    → Each (HasCommand k) (step_deeds (member_tasks o a (with_number k m)))
member-command o a k (member.One p) = items-command o a (record p { id = k }) k 0 p.items refl
member-command o a k (member.Alert c) = (refl, tt)

-- among the steps of a first member, or of the others
in-members : (o : Origin) (a : Bool) (k : ℕ) (m : Member) (ts : List Task) (d : Deed)
    → Contains (step_deeds (member_tasks o a (with_number k m) ++ ts)) d
    → Contains (step_deeds (member_tasks o a (with_number k m))) d ⊎ Contains (step_deeds ts) d
in-members o a k m ts d h =
    Contains-append_cases (step_deeds (member_tasks o a (with_number k m))) (step_deeds ts) d
    (subst (λ l. Contains l d) (steps-append (member_tasks o a (with_number k m)) ts) h)

members-part : (o : Origin) (a : Bool) (k : ℕ) (g : Member → Member) (ms : List Member)
    → AllByRecursion WholeMember ms
    → (d : Deed) → Contains (step_deeds (members_tasks o a (numbered_members k (last_changed g ms)))) d
    → WholeBelow (k + length ms) d
unfolding numbered_members
members-part o a k g [] h d c l = absurd (no-element c)
members-part o a k g (m ∷ []) h d c l = by (in-members o a k (g m) [] d c)
  where
    by : Contains (step_deeds (member_tasks o a (with_number k (g m)))) d ⊎ Contains [] d → IsWholeDeed d
    by (inl x) =
        absurd (let same = each-contains (HasCommand k) _ d (member-command o a k (g m)) x in omega (arith, same, l))
    by (inr x) = absurd (no-element x)
members-part o a k g (m ∷ n ∷ ms) h d c l =
    by (λ x. members-part o a (k + 1) g (n ∷ ms) h.1 d x (omega (arith, l)))
    (in-members o a k m (members_tasks o a (numbered_members (k + 1) (last_changed g (n ∷ ms)))) d c)
  where
    by : (Contains (step_deeds (members_tasks o a (numbered_members (k + 1) (last_changed g (n ∷ ms))))) d
        → IsWholeDeed d)
        → Contains (step_deeds (member_tasks o a (with_number k m))) d
        ⊎ Contains (step_deeds (members_tasks o a (numbered_members (k + 1) (last_changed g (n ∷ ms))))) d
        → IsWholeDeed d
    by later (inl x) = each-contains IsWholeDeed _ d (member-done o a k m h.0) x
    by later (inr x) = later x

seqs-part : (o : Origin) (k : ℕ) (f : Item → Item) (ms : List SeqMember) → AllByRecursion OneSeqMember ms
    → AllByRecursion WholeSeqMember ms
    → (d : Deed)
    → Contains (members_deeds o (numbered_seq_members k (last_changed (seq_member_changed f) ms))) d
    → WholeBelow (k + length ms) d
unfolding numbered_seq_members
seqs-part o k f [] one h d c l = absurd (no-element c)
seqs-part o k f (seq_member.Atomic b ∷ ms) one h d c l = absurd one.0
seqs-part o k f (seq_member.Single m ∷ []) one h d c l =
    by (Contains-append_cases (step_deeds (member_tasks o false (with_number k (member_changed f m)))) [] d c)
  where
    by : Contains (step_deeds (member_tasks o false (with_number k (member_changed f m)))) d ⊎ Contains [] d
        → IsWholeDeed d
    by (inl x) =
        absurd (let same = each-contains (HasCommand k) _ d (member-command o false k (member_changed f m)) x in omega
        (arith, same, l))
    by (inr x) = absurd (no-element x)
seqs-part o k f (seq_member.Single m ∷ n ∷ ms) one h d c l =
    by (λ x. seqs-part o (k + 1) f (n ∷ ms) one.1 h.1 d x (omega (arith, l)))
    (Contains-append_cases (step_deeds (member_tasks o false (with_number k m)))
    (members_deeds o (numbered_seq_members (k + 1) (last_changed (seq_member_changed f) (n ∷ ms)))) d c)
  where
    by : (Contains (members_deeds o (numbered_seq_members (k + 1) (last_changed (seq_member_changed f) (n ∷ ms)))) d
        → IsWholeDeed d)
        → Contains (step_deeds (member_tasks o false (with_number k m))) d
        ⊎ Contains (members_deeds o (numbered_seq_members (k + 1) (last_changed (seq_member_changed f) (n ∷ ms)))) d
        → IsWholeDeed d
    by later (inl x) = each-contains IsWholeDeed _ d (member-done o false k m h.0) x
    by later (inr x) = later x

first-or-later : (x : Deed) (xs : List Deed) (d : Deed) → Contains (x ∷ xs) d → (x ≡ d) ⊎ Contains xs d
first-or-later x xs d (zero, low, at) = inl at
first-or-later x xs d (suc j, low, at) = inr (j, omega (arith, low), at)

first-whole : (x : Deed) (xs : List Deed) (d : Deed) → IsWholeDeed x → (Contains xs d → IsWholeDeed d)
    → (x ≡ d) ⊎ Contains xs d
    → IsWholeDeed d
first-whole x xs d h later (inl e) = subst IsWholeDeed e h
first-whole x xs d h later (inr c) = later c

changed-part : (o : Origin) (k : ℕ) (f : Item → Item) (c : Command) → OneEach c → WholeEach c → (d : Deed)
    → Contains (command_deeds o (with_numbers k (cut_changed f c))) d
    → WholeBelow (k + ids_in c) d
unfolding with_numbers ids_in
changed-part o k f (command.Plain p) one h d c l =
    absurd (let same = each-contains (HasCommand k) _ d
    (items-command o false (record p { id = k; items = write_changed f p.verb p.items }) k 0
    (write_changed f p.verb p.items) refl) c in omega (arith, same, l))
changed-part o k f (command.Alert a) one h d c l = absurd one
changed-part o k f (command.Atomic b) one h d c l =
    first-whole _ _ d (refl, tt)
    (λ x. members-part o true (k + 1) (member_changed f) b.members h d x (omega (arith, l)))
    (first-or-later _ _ d c)
changed-part o k f (command.Sequence b) one h d c l =
    let ids = seq-ids b.members one in
    first-whole _ _ d (refl, tt) (λ x. seqs-part o (k + 1) f b.members one h d x (omega (arith, l, ids)))
    (first-or-later _ _ d c)
changed-part o k f (command.Status c) one h d x l = absurd one
changed-part o k f (command.Results c) one h d x l = absurd one

pub part-whole : (o : Origin) (k : ℕ) (e : Entry) (n : ℕ) → OneEach e.command → WholeEach e.command → (d : Deed)
    → Contains (command_deeds o (with_numbers k (part_of e n))) d
    → d.post.command + 1 < k + ids_in e.command
    → IsWholeDeed d
unfolding part_of
part-whole o k e n one h d c l = changed-part o k (part_item e.begun n) e.command one h d c l
