-- The entries of a job have its numbers in a row.
use Rattle.std.proofs.Common.{zero, suc, ◌≡◌, ◌<◌, ◌≤◌, ◌+◌, ◌-◌, ◌==◌, ℕ, Bool, true, false, not, List, []}
use Rattle.std.proofs.Common.{◌∷◌, ◌++◌, length, take, refl, sym, ◌∙◌, ap, subst, arith, append_assoc}
use Rattle.std.specs.List.{AllByRecursion}
use Rattle.std.proofs.lemmas.List.{length-append, length-map, take-append-le}
use Rattle.std.proofs.lemmas.Bool.Decides.{nat_tests}
use Rattle.syncml_types.specs.declared.command.Plain.{Plain}
use Rattle.syncml_types.specs.declared.command.Member.{Member}
use Rattle.syncml_types.specs.declared.command.Member.TheVariants as member
use Rattle.syncml_types.specs.declared.command.SeqMember.{SeqMember}
use Rattle.syncml_types.specs.declared.command.SeqMember.TheVariants as seq_member
use Rattle.syncml_types.specs.declared.command.Command.{Command}
use Rattle.syncml_types.specs.declared.command.Command.TheVariants as command
use Rattle.syncml_types.specs.Fitness.{command_filled, atomic_filled}
use Rattle.syncml_parts.specs.Numbering.{ids_in}
use Rattle.dm_atomic.specs.declared.tasks.Named.{Named}
use Rattle.dm_atomic.specs.declared.tasks.Named.TheVariants as named
use Rattle.dm_atomic.specs.Tasks.{piece_of}
use Rattle.dm_job.specs.declared.job.JobEntry.{JobEntry}
use Rattle.dm_job.specs.Sound.{IsStep, IsStepMember, IsStepSeqMember, IsJobCommand, CanBeSent, AreNumbered}
use Rattle.dm_world.specs.Acts.{Act, block, does, item_acts, members_acts, seq_members_acts, command_acts, entries_acts}
use Rattle.dm_world.specs.Commands.{outline}
use Rattle.dm_world.specs.Places.{last_block}
use Rattle.dm_world.proofs.Lists.{and-left}
use Rattle.dm_world.proofs.InOrder.{AreWhole, command-whole, whole-append}
use Rattle.dm_world.proofs.Outlines.{job-each, acts-long, seq-ids}
use Rattle.dm_world.proofs.Rows.{left}
use Rattle.dm_world.proofs.RowEntries.{WholeSteps, EntryForm, Contained, RowOf}

-- each of these entries, and those behind it
abbrev pub RowEntries : List Act → List JobEntry → Type 0
RowEntries job [] = Unit {0}
RowEntries job (e ∷ es) =
    RowOf job e.number (ids_in e.command) false (command_acts e.command) (entries_acts es) × RowEntries job es

pub rows-behind : (job : List Act) (a b : List JobEntry) → RowEntries job (a ++ b) → RowEntries job b
rows-behind job [] b h = h
rows-behind job (e ∷ a) b h = rows-behind job a b h.1

-- ---- its form

step-form : (a : Bool) (p : Plain) → IsStep p → (rest : List Act) → WholeSteps rest
    → WholeSteps (item_acts a p p.items ++ rest)
step-form a p h rest w =
    subst (λ is. WholeSteps (item_acts a p is ++ rest)) (sym h.only) (one h.item.more h.whole)
  where
    one : (b : Bool) → b ≡ false → WholeSteps (does ((piece_of a p h.item).step) b ∷ rest)
    one false e = w
    one true e = absurd (cc)

members-form : (a : Bool) (ms : List Member) → AllByRecursion IsStepMember ms → WholeSteps (members_acts a ms)
members-form a [] h = tt
members-form a (member.One p ∷ ms) h = step-form a p h.0 (members_acts a ms) (members-form a ms h.1)
members-form a (member.Alert c ∷ ms) h = absurd h.0

seqs-form : (ms : List SeqMember) → AllByRecursion IsStepSeqMember ms → WholeSteps (seq_members_acts ms)
seqs-form [] h = tt
seqs-form (seq_member.Single (member.One p) ∷ ms) h =
    step-form false p h.0 (seq_members_acts ms) (seqs-form ms h.1)
seqs-form (seq_member.Single (member.Alert c) ∷ ms) h = absurd h.0
seqs-form (seq_member.Atomic b ∷ ms) h = absurd h.0

filled-form : (name : Named) (xs : List Act) → WholeSteps xs → 1 < length (block name ∷ xs)
    → EntryForm (block name ∷ xs)
filled-form name [] w h = omega (arith, h)
filled-form name (x ∷ xs) w h = w

plain-form : (p : Plain) → IsStep p → EntryForm (item_acts false p p.items)
plain-form p h = subst (λ is. EntryForm (item_acts false p is)) (sym h.only) (one h.item.more h.whole)
  where
    one : (b : Bool) → b ≡ false → EntryForm (does ((piece_of false p h.item).step) b ∷ [])
    one false e = refl
    one true e = absurd (cc)

some-of : (n : ℕ) → not (n == 0) ≡ true → 0 < n
some-of n h = grind (arith, nat_tests)

command-form : (c : Command) → IsJobCommand c → command_filled c ≡ true → length (command_acts c) ≡ ids_in c
    → EntryForm (command_acts c)
unfolding command_filled atomic_filled ids_in
command-form (command.Plain p) h f long = plain-form p h
command-form (command.Alert a) h f long = absurd h
command-form (command.Atomic b) h f long =
    let some = some-of (length b.members) (and-left (not (length b.members == 0)) _ f) in
    filled-form named.Atomic (members_acts true b.members) (members-form true b.members h.1)
    (omega (arith, long, some))
command-form (command.Sequence b) h f long =
    let some = some-of (length b.members) (and-left (not (length b.members == 0)) _ f) in
    let ids = seq-ids b.members (job-each (command.Sequence b) h) in
    filled-form named.Sequence (seq_members_acts b.members) (seqs-form b.members h.1)
    (omega (arith, long, some, ids))
command-form (command.Status c) h f long = absurd h
command-form (command.Results c) h f long = absurd h

-- ---- its numbers

pub whole-left : (xs : List Act) → AreWhole xs → left xs false ≡ length xs
whole-left [] h = refl
whole-left (block name ∷ xs) h = ap suc (whole-left xs h)
whole-left (does s true ∷ xs) h = absurd h
whole-left (does s false ∷ xs) h = ap suc (whole-left xs h)

steps-pass : (found at : ℕ) (xs : List Act) → WholeSteps xs → last_block found at xs ≡ found
steps-pass found at [] h = refl
steps-pass found at (block name ∷ xs) h = absurd h
steps-pass found at (does s true ∷ xs) h = absurd h
steps-pass found at (does s false ∷ xs) h = steps-pass found (at + 1) xs h

last-of : (found at : ℕ) (w xs : List Act) (name : Named) → WholeSteps xs
    → last_block found at (w ++ block name ∷ xs) ≡ at + length w
last-of found at [] xs name h = steps-pass at (at + 1) xs h ∙ (let e : at ≡ at + 0 = omega arith in e)
last-of found at (block other ∷ w) xs name h =
    last-of at (at + 1) w xs name h ∙ (let e : at + 1 + length w ≡ at + suc (length w) = omega arith in e)
last-of found at (does s more ∷ w) xs name h =
    last-of found (at + 1) w xs name h ∙ (let e : at + 1 + length w ≡ at + suc (length w) = omega arith in e)

steps-take : (n : ℕ) (xs : List Act) → WholeSteps xs → WholeSteps (take n xs)
steps-take zero xs h = tt
steps-take (suc n) [] h = tt
steps-take (suc n) (block name ∷ xs) h = absurd h
steps-take (suc n) (does s true ∷ xs) h = absurd h
steps-take (suc n) (does s false ∷ xs) h = steps-take n xs h

take-behind : (a b : List Act) (n : ℕ) → take (length a + n) (a ++ b) ≡ a ++ take n b
take-behind [] b n = let e : 0 + n ≡ n = omega arith in ap (λ k. take k b) e
take-behind (x ∷ a) b n =
    let e : length (x ∷ a) + n ≡ suc (length a + n) = omega arith in
    ap (λ k. take k (x ∷ (a ++ b))) e ∙ ap (λ l. x ∷ l) (take-behind a b n)

contained : (job before xs behind : List Act) (first count : ℕ) → job ≡ before ++ (xs ++ behind) → EntryForm xs
    → length xs ≡ count → first ≡ 1 + length before
    → Contained job first count
contained job before [] behind first count e f long at some k low high = absurd f
contained job before (does s true ∷ xs) behind first count e f long at some k low high = absurd f
contained job before (does s false ∷ xs) behind first count e f long at some k low high =
    absurd (let none = ap length f in omega (arith, none, long, some))
contained job before (block name ∷ []) behind first count e f long at some k low high = absurd f
contained job before (block name ∷ x ∷ xs) behind first count e f long at some k low high =
    let steps = x ∷ xs in
    let n = k - first in
    let is : k ≡ length before + suc n = omega (arith, at, low) in
    let few : n ≤ length steps = omega (arith, long, low, high) in
    at
    ∙ ap (λ i. 1 + i)
    (sym (ap (λ l. last_block 0 0 (take k l)) e
    ∙ ap (λ i. last_block 0 0 (take i (before ++ (block name ∷ steps ++ behind)))) is
    ∙ ap (λ l. last_block 0 0 l) (take-behind before (block name ∷ steps ++ behind) (suc n))
    ∙ ap (λ l. last_block 0 0 (before ++ block name ∷ l)) (take-append-le n steps behind few)
    ∙ last-of 0 0 before (take n steps) name (steps-take n steps f)
    ∙ (let z : 0 + length before ≡ length before = omega arith in z)))

entries-wholes : (es : List JobEntry) → AllByRecursion CanBeSent es → AreWhole (entries_acts es)
entries-wholes [] h = tt
entries-wholes (e ∷ es) h =
    whole-append (command_acts e.command) (entries_acts es) (command-whole e.command h.0.steps)
    (entries-wholes es h.1)

rows-from : (job before : List Act) (es : List JobEntry) (n : ℕ) → job ≡ before ++ entries_acts es
    → n ≡ 1 + length before
    → AreNumbered n es
    → AllByRecursion CanBeSent es
    → RowEntries job es
rows-from job before [] n e at numbered h = tt
rows-from job before (x ∷ es) n e at numbered h =
    let xs = command_acts x.command in
    let long : length xs ≡ ids_in x.command =
    sym (length-map xs outline) ∙ acts-long x.command (job-each x.command h.0.steps) in
    let form = command-form x.command h.0.steps h.0.ready.fit.filled long in
    let others = whole-left (entries_acts es) (entries-wholes es h.1) in
    let all = ap length e in
    let two = length-append before (xs ++ entries_acts es) in
    let one = length-append xs (entries_acts es) in
    let first = numbered.0 in
    let next = length-append before xs in (
      record {
        count_is = omega (arith, at, first, long, others, all, two, one);
        contains =
            contained job before xs (entries_acts es) x.number (ids_in x.command) e form long (numbered.0 ∙ at);
        form = (form, long);
      },
      rows-from job (before ++ xs) es (n + ids_in x.command)
          (e ∙ sym (append_assoc before xs (entries_acts es))) (omega (arith, at, long, next)) numbered.1 h.1,
    )

-- so a job's do
pub job-rows : (es : List JobEntry) → AreNumbered 1 es → AllByRecursion CanBeSent es → RowEntries (entries_acts es) es
job-rows es numbered h = rows-from (entries_acts es) [] es 1 refl refl numbered h
