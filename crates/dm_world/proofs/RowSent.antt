-- What goes out of the job in a message has the numbers under which it is noted.
use Rattle.std.proofs.Common.{zero, suc, ◌≡◌, ◌<◌, ◌+◌, ◌-◌, ℕ, Bool, true, false, cond, List, [], ◌∷◌, ◌++◌, length}
use Rattle.std.proofs.Common.{map, arith}
use Rattle.std.proofs.Common.{take, drop, Option, None, Some, refl, sym, ◌∙◌, ap, subst, nat_lt}
use Rattle.std.proofs.Common.{append_assoc}
use Rattle.std.specs.List.{AllByRecursion, Contains}
use Rattle.std.proofs.lemmas.List.{append-nil, length-map}
use Rattle.syncml_types.specs.declared.values.Item.{Item}
use Rattle.syncml_types.specs.declared.command.Member.{Member}
use Rattle.syncml_types.specs.declared.command.Member.TheVariants as member
use Rattle.syncml_types.specs.declared.command.SeqMember.{SeqMember}
use Rattle.syncml_types.specs.declared.command.SeqMember.TheVariants as seq_member
use Rattle.syncml_types.specs.declared.command.Command.{Command}
use Rattle.syncml_types.specs.declared.command.Command.TheVariants as command
use Rattle.syncml_parts.specs.Numbering.{numbered_members, numbered_seq_members, ids_in, with_numbers}
use Rattle.syncml_parts.specs.Packing.{cut_item}
use Rattle.dm_atomic.specs.declared.tasks.Origin.{Origin}
use Rattle.dm_atomic.specs.Tasks.{item_tasks, members_tasks}
use Rattle.dm_pack.specs.Entries.{Entry, part_of, rest_of}
use Rattle.dm_pack.specs.Filling.{numbered, commands_of, next_part, next_rest}
use Rattle.dm_job.specs.declared.job.JobEntry.{JobEntry}
use Rattle.dm_job.specs.Sound.{all_entries}
use Rattle.dm_service.specs.declared.sent.Carried.{Carried}
use Rattle.dm_service.specs.declared.sent.Sent.{Sent}
use Rattle.dm_service.specs.Service.{Waiting, entries_of}
use Rattle.dm_service.specs.Sending.{in_a_row, rest_holds, but_the_last, part_holds}
use Rattle.dm_service.specs.Sending.{goes_out, carried_on}
use Rattle.dm_world.specs.Deeds.{Deed, step_deeds, members_deeds, command_deeds, all_deeds}
use Rattle.dm_world.specs.Acts.{Act, block, does, item_acts, members_acts, seq_members_acts, command_acts, doing_acts}
use Rattle.dm_world.specs.Acts.{acts}
use Rattle.dm_world.specs.Commands.{outline, outlines, IsJobAct}
use Rattle.dm_world.proofs.Lists.{Each, each-map, each-append, both-ways}
use Rattle.dm_world.proofs.Executes.{deed_acts, deeds-append, message-deeds}
use Rattle.dm_world.proofs.Packing.{HasActs, numbered-acts, entry-split}
use Rattle.dm_world.proofs.Waits.{waiting_acts, same-carried, report-acts, part-acts, rest-report}
use Rattle.dm_world.proofs.Outlines.{OneMember, OneSeqMember, OneEach, part-each, part-outline, rest-outline, ends_of}
use Rattle.dm_world.proofs.Outlines.{last-at}
use Rattle.dm_world.proofs.Marks.{WaitsAs, WaitsOf, Carries, AreJobActs, entry-acts, part-carries}
use Rattle.dm_world.proofs.Rows.{left, RowAct, AreRows, SameLeft, left-front, row-same}
use Rattle.dm_world.proofs.RowEntries.{lt-yes, numbers_from, held_numbers, RowOf, held-rows, CutRows, cut-rows}
use Rattle.dm_world.proofs.RowEntries.{WholeSteps, OnlySteps, HeadedSteps, steps-only, form-headed, headed-lined}
use Rattle.dm_world.proofs.RowEntries.{headed-unlined, form-steps, second-below}

-- ---- which CmdID has which act

-- one deed for each, with CmdIDs from a number on
abbrev pub Listed : List Deed → ℕ → List Act → Type 0
Listed [] k [] = Unit {0}
Listed [] k (a ∷ xs) = ⊥
Listed (d ∷ ds) k [] = ⊥
Listed (d ∷ ds) k (a ∷ xs) = (d.post.command ≡ k) × (doing_acts d.doing ≡ a ∷ []) × Listed ds (k + 1) xs

members-listed : (o : Origin) (a : Bool) (k : ℕ) (ms : List Member) → AllByRecursion OneMember ms
    → Listed (step_deeds (members_tasks o a (numbered_members k ms))) k (members_acts a ms)
unfolding numbered_members
members-listed o a k [] h = tt
members-listed o a k (member.One p ∷ ms) h =
    subst
    (λ is. Listed
    (step_deeds (item_tasks o a (record p { id = k }) 0 is ++ members_tasks o a (numbered_members (k + 1) ms))) k
    (item_acts a p is ++ members_acts a ms))
    (sym h.0.1)
    (refl, refl, members-listed o a (k + 1) ms h.1)
members-listed o a k (member.Alert c ∷ ms) h = absurd h.0

seqs-listed : (o : Origin) (k : ℕ) (ms : List SeqMember) → AllByRecursion OneSeqMember ms
    → Listed (members_deeds o (numbered_seq_members k ms)) k (seq_members_acts ms)
unfolding numbered_seq_members
seqs-listed o k [] h = tt
seqs-listed o k (seq_member.Single (member.One p) ∷ ms) h =
    subst
    (λ is. Listed
    (step_deeds (item_tasks o false (record p { id = k }) 0 is) ++ members_deeds o (numbered_seq_members (k + 1) ms)) k
    (item_acts false p is ++ seq_members_acts ms))
    (sym h.0.1)
    (refl, refl, seqs-listed o (k + 1) ms h.1)
seqs-listed o k (seq_member.Single (member.Alert c) ∷ ms) h = absurd h.0
seqs-listed o k (seq_member.Atomic b ∷ ms) h = absurd h.0

pub command-listed : (o : Origin) (k : ℕ) (c : Command) → OneEach c
    → Listed (command_deeds o (with_numbers k c)) k (command_acts c)
unfolding with_numbers
command-listed o k (command.Plain p) h =
    subst
    (λ is. Listed (step_deeds (item_tasks o false (record p { id = k }) 0 is)) k (item_acts false p is))
    (sym h.1)
    (refl, refl, tt)
command-listed o k (command.Alert a) h = absurd h
command-listed o k (command.Atomic b) h = (refl, refl, members-listed o true (k + 1) b.members h)
command-listed o k (command.Sequence b) h = (refl, refl, seqs-listed o (k + 1) b.members h)
command-listed o k (command.Status c) h = absurd h
command-listed o k (command.Results c) h = absurd h

listed-acts : (ds : List Deed) (k : ℕ) (xs : List Act) → Listed ds k xs → deed_acts ds ≡ xs
listed-acts [] k [] h = refl
listed-acts [] k (a ∷ xs) h = absurd h
listed-acts (d ∷ ds) k [] h = absurd h
listed-acts (d ∷ ds) k (a ∷ xs) h =
    ap (λ l. l ++ deed_acts ds) h.1 ∙ ap (λ l. a ∷ l) (listed-acts ds (k + 1) xs h.2)

-- ---- which CmdID has which number

abbrev pub HaveNumbers : ℕ → ℕ → List Sent → List ℕ → Type 0
HaveNumbers msg k [] [] = Unit {0}
HaveNumbers msg k [] (n ∷ ns) = ⊥
HaveNumbers msg k (x ∷ xs) [] = ⊥
HaveNumbers msg k (x ∷ xs) (n ∷ ns) =
    (x.msg ≡ msg) × (x.command ≡ k) × (x.number ≡ n) × HaveNumbers msg (k + 1) xs ns

row-numbers : (msg k n count : ℕ) → HaveNumbers msg k (in_a_row msg k n count) (numbers_from n count)
row-numbers msg k n zero = tt
row-numbers msg k n (suc count) = (refl, refl, refl, row-numbers msg (k + 1) (n + 1) count)

holds-numbers : (msg k : ℕ) (begun : Bool) (c : Carried)
    → HaveNumbers msg k (rest_holds msg k begun (Some c)) (held_numbers begun c)
holds-numbers msg k false c = row-numbers msg k c.first c.count
holds-numbers msg k true c = (
  refl,
  refl,
  refl,
  both-ways (HaveNumbers msg (k + 1)) (nat_lt 1 c.count)
      (record { msg = msg; command = k + 1; number = c.first + c.count - 1; counts = true } ∷ []) []
      ((c.first + c.count - 1) ∷ []) [] (λ e. (refl, refl, refl, tt)) (λ e. tt),
)

last-numbers : (msg k : ℕ) (xs : List Sent) (ns : List ℕ) → HaveNumbers msg k xs ns
    → HaveNumbers msg k (but_the_last xs) ns
last-numbers msg k [] ns h = h
last-numbers msg k (x ∷ []) [] h = absurd h
last-numbers msg k (x ∷ []) (n ∷ ns) h = (h.0, h.1, h.2, h.3)
last-numbers msg k (x ∷ y ∷ xs) [] h = absurd h
last-numbers msg k (x ∷ y ∷ xs) (n ∷ ns) h = (h.0, h.1, h.2, last-numbers msg (k + 1) (y ∷ xs) ns h.3)

part-numbers : (msg k : ℕ) (xs : List Sent) (ns : List ℕ) → HaveNumbers msg k xs ns
    → HaveNumbers msg k (part_holds xs) ns
part-numbers msg k [] ns h = h
part-numbers msg k (x ∷ xs) [] h = absurd h
part-numbers msg k (x ∷ xs) (n ∷ ns) h = (h.0, h.1, h.2, last-numbers msg (k + 1) xs ns h.3)

-- ---- what stands in a message under a CmdID has its number

-- A container that goes out with the last of what it has left: the whole steps behind it are its own, and behind those
-- stand as many as the job has behind the container.
abbrev pub ClosesAt : List (List JobEntry) → List Act → ℕ → Act → List Act → List Act → Type 0
ClosesAt packages job n (does s more) behind rest = Unit {0}
ClosesAt packages job n (block name) behind rest =
    (steps : List Act) × (more : List Act) × (behind ≡ steps ++ more) × WholeSteps steps × (0 < length steps)
    × (e : JobEntry) × Contains (all_entries packages) e × (n ≡ e.number)
    × (n + length (outlines e.command) + left (more ++ rest) false ≡ length job + 1)

-- a command that is noted so stands among these, and with what is behind it and still to be sent it has its number
pub record RowSent (packages : List (List JobEntry)) (job : List Act) (ds : List Deed) (rest : List Act) (msg : ℕ)
    (x : Sent) : Type 0 where
  pub msg_is : x.msg ≡ msg
  pub before : List Deed
  pub deed : Deed
  pub behind : List Deed
  pub are : ds ≡ before ++ deed ∷ behind
  pub command_is : deed.post.command ≡ x.command
  pub act : Act
  pub act_is : doing_acts deed.doing ≡ act ∷ []
  pub row : RowAct job x.number act (deed_acts behind ++ rest)
  pub closes : x.counts ≡ true → ClosesAt packages job x.number act (deed_acts behind) rest

front-more : (packages : List (List JobEntry)) (job : List Act) (front ds : List Deed) (rest : List Act) (msg : ℕ)
    (x : Sent)
    → RowSent packages job ds rest msg x
    → RowSent packages job (front ++ ds) rest msg x
front-more packages job front ds rest msg x h = record {
  msg_is = h.msg_is;
  before = front ++ h.before;
  deed = h.deed;
  behind = h.behind;
  are = ap (λ l. front ++ l) h.are ∙ sym (append_assoc front h.before (h.deed ∷ h.behind));
  command_is = h.command_is;
  act = h.act;
  act_is = h.act_is;
  row = h.row;
  closes = h.closes;
}

closes-more : (packages : List (List JobEntry)) (job : List Act) (n : ℕ) (a : Act) (xs ys rest : List Act)
    → ClosesAt packages job n a xs (ys ++ rest)
    → ClosesAt packages job n a (xs ++ ys) rest
closes-more packages job n (does s more) xs ys rest h = tt
closes-more packages job n (block name) xs ys rest h = (
  h.0,
  h.1 ++ ys,
  ap (λ l. l ++ ys) h.2 ∙ append_assoc h.0 h.1 ys,
  h.3,
  h.4,
  h.5,
  h.6,
  h.7,
  ap (λ l. n + length (outlines h.5.command) + left l false) (append_assoc h.1 ys rest) ∙ h.8,
)

behind-more : (packages : List (List JobEntry)) (job : List Act) (ds more : List Deed) (rest : List Act) (msg : ℕ)
    (x : Sent)
    → RowSent packages job ds (deed_acts more ++ rest) msg x
    → RowSent packages job (ds ++ more) rest msg x
behind-more packages job ds more rest msg x h = record {
  msg_is = h.msg_is;
  before = h.before;
  deed = h.deed;
  behind = h.behind ++ more;
  are = ap (λ l. l ++ more) h.are ∙ append_assoc h.before (h.deed ∷ h.behind) more;
  command_is = h.command_is;
  act = h.act;
  act_is = h.act_is;
  row = subst (λ l. RowAct job x.number h.act l)
      (sym (ap (λ l. l ++ rest) (deeds-append h.behind more)
      ∙ append_assoc (deed_acts h.behind) (deed_acts more) rest)) h.row;
  closes = λ e.
      subst (λ l. ClosesAt packages job x.number h.act l rest) (sym (deeds-append h.behind more))
      (closes-more packages job x.number h.act (deed_acts h.behind) (deed_acts more) rest (h.closes e));
}

-- so does each that counts
abbrev AllClose : List (List JobEntry) → List Act → List Act → List Sent → List ℕ → List Act → Type 0
AllClose packages job [] ss ns rest = Unit {0}
AllClose packages job (a ∷ xs) [] ns rest = Unit {0}
AllClose packages job (a ∷ xs) (s ∷ ss) [] rest = Unit {0}
AllClose packages job (a ∷ xs) (s ∷ ss) (n ∷ ns) rest =
    (s.counts ≡ true → ClosesAt packages job n a xs rest) × AllClose packages job xs ss ns rest

steps-close : (packages : List (List JobEntry)) (job xs : List Act) (ss : List Sent) (ns : List ℕ) (rest : List Act)
    → OnlySteps xs
    → AllClose packages job xs ss ns rest
steps-close packages job [] ss ns rest h = tt
steps-close packages job (block name ∷ xs) ss ns rest h = absurd h
steps-close packages job (does s more ∷ xs) [] ns rest h = tt
steps-close packages job (does s more ∷ xs) (y ∷ ss) [] rest h = tt
steps-close packages job (does s more ∷ xs) (y ∷ ss) (n ∷ ns) rest h =
    ((λ e. tt), steps-close packages job xs ss ns rest h)

-- of a part the container doesn't count
part-close : (packages : List (List JobEntry)) (job xs : List Act) (ss : List Sent) (ns : List ℕ) (rest : List Act)
    → HeadedSteps xs
    → AllClose packages job xs (part_holds ss) ns rest
part-close packages job [] ss ns rest h = tt
part-close packages job (does s more ∷ xs) ss ns rest h =
    steps-close packages job (does s more ∷ xs) (part_holds ss) ns rest h
part-close packages job (block name ∷ []) ss ns rest h = absurd h
part-close packages job (block name ∷ x ∷ xs) [] ns rest h = tt
part-close packages job (block name ∷ x ∷ xs) (y ∷ ss) [] rest h = tt
part-close packages job (block name ∷ x ∷ xs) (y ∷ ss) (n ∷ ns) rest h =
    ((λ e. absurd (cc)), steps-close packages job (x ∷ xs) (but_the_last ss) ns rest h)

first-held : (begun : Bool) (c : Carried) (n : ℕ) (ns : List ℕ) → held_numbers begun c ≡ n ∷ ns → c.first ≡ n
first-held true c n ns e = cc
first-held false c n ns e = by c.count e
  where
    by : (count : ℕ) → numbers_from c.first count ≡ n ∷ ns → c.first ≡ n
    by zero e = absurd (cc)
    by (suc k) e = cc

-- where all of what is left goes out, it closes
rest-close : (packages : List (List JobEntry)) (job : List Act) (begun : Bool) (x : Command) (c : Carried)
    (xs : List Act) (ss : List Sent) (ns : List ℕ) (rest : List Act) → Carries packages begun x c
    → RowOf job c.first c.count begun xs rest
    → held_numbers begun c ≡ ns
    → AllClose packages job xs ss ns rest
rest-close packages job begun x c [] ss ns rest h row e = tt
rest-close packages job begun x c (does s more ∷ xs) ss ns rest h row e =
    steps-close packages job (does s more ∷ xs) ss ns rest (form-headed begun c.count (does s more ∷ xs) row.form)
rest-close packages job begun x c (block name ∷ xs) [] ns rest h row e = tt
rest-close packages job begun x c (block name ∷ xs) (y ∷ ss) [] rest h row e = tt
rest-close packages job begun x c (block name ∷ xs) (y ∷ ss) (n ∷ ns) rest h row e =
    let steps = form-steps begun c.count name xs row.form in
    let first = first-held begun c n ns e in
    let count = h.count in
    let all = row.count_is in (
      (λ z. (
        xs,
        [],
        sym (append-nil xs),
        steps.0,
        steps.1,
        h.entry,
        h.within,
        sym first ∙ h.first,
        omega (arith, first, count, all),
      )),
      steps-close packages job xs ss ns rest (steps-only xs steps.0),
    )

listed-rows : (packages : List (List JobEntry)) (job : List Act) (ds : List Deed) (msg k : ℕ) (xs : List Act)
    (ss : List Sent) (ns : List ℕ)
    (rest : List Act) → Listed ds k xs
    → AreRows job xs ns rest
    → HaveNumbers msg k ss ns
    → AllClose packages job xs ss ns rest
    → Each (RowSent packages job ds rest msg) ss
listed-rows packages job ds msg k xs [] ns rest l r h z = tt
listed-rows packages job ds msg k xs (s ∷ ss) [] rest l r h z = absurd h
listed-rows packages job ds msg k [] (s ∷ ss) (n ∷ ns) rest l r h z = absurd r
listed-rows packages job [] msg k (a ∷ xs) (s ∷ ss) (n ∷ ns) rest l r h z = absurd l
listed-rows packages job (d ∷ ds) msg k (a ∷ xs) (s ∷ ss) (n ∷ ns) rest l r h z = (
  record {
    msg_is = h.0;
    before = [];
    deed = d;
    behind = ds;
    are = refl;
    command_is = l.0 ∙ sym h.1;
    act = a;
    act_is = l.1;
    row = subst (λ i. RowAct job i a (deed_acts ds ++ rest)) (sym h.2)
        (subst (λ l. RowAct job n a (l ++ rest)) (sym (listed-acts ds (k + 1) xs l.2)) r.0);
    closes = λ e.
        subst (λ i. ClosesAt packages job i a (deed_acts ds) rest) (sym h.2)
        (subst (λ l. ClosesAt packages job n a l rest) (sym (listed-acts ds (k + 1) xs l.2)) (z.0 e));
  },
  each-map {P = RowSent packages job ds rest msg} {Q = RowSent packages job (d ∷ ds) rest msg}
      (λ x y. front-more packages job (d ∷ []) ds rest msg x y) ss
      (listed-rows packages job ds msg (k + 1) xs ss ns rest l.2 r.1 h.3 z.1),
)

-- ---- and it is the job's

-- a container is that of an entry, of which the next step is one
abbrev pub InsideOf : List (List JobEntry) → List Act → ℕ → Act → List Act → Type 0
InsideOf packages job n (does s more) xs = Unit {0}
InsideOf packages job n (block name) xs =
    (e : JobEntry) × Contains (all_entries packages) e × (n ≡ e.number)
    × (length job - left xs true + 1 < n + length (outlines e.command))

-- each act has a number, of which the job has the same but for its value
abbrev pub IsActOf : List (List JobEntry) → List Act → Act → List Act → Type 0
IsActOf packages job a xs =
    (n : ℕ) × RowAct job n a xs × IsJobAct packages n (outline a) × InsideOf packages job n a xs

inside-same : (packages : List (List JobEntry)) (job : List Act) (n : ℕ) (a : Act) (xs ys : List Act) → SameLeft xs ys
    → InsideOf packages job n a xs
    → InsideOf packages job n a ys
inside-same packages job n (does s more) xs ys h k = tt
inside-same packages job n (block name) xs ys h k =
    let same = h true in
    let low = k.3 in (k.0, k.1, k.2, omega (arith, same, low))

abbrev pub AllActs : List (List JobEntry) → List Act → List Act → List Act → Type 0
AllActs packages job [] rest = Unit {0}
AllActs packages job (a ∷ xs) rest = IsActOf packages job a (xs ++ rest) × AllActs packages job xs rest

pub all-append : (packages : List (List JobEntry)) (job xs ys rest : List Act) → AllActs packages job xs (ys ++ rest)
    → AllActs packages job ys rest
    → AllActs packages job (xs ++ ys) rest
all-append packages job [] ys rest h k = k
all-append packages job (a ∷ xs) ys rest h k = (
  subst (IsActOf packages job a) (sym (append_assoc xs ys rest)) h.0,
  all-append packages job xs ys rest h.1 k,
)

all-same : (packages : List (List JobEntry)) (job xs rest more : List Act) → SameLeft rest more
    → AllActs packages job xs rest
    → AllActs packages job xs more
all-same packages job [] rest more h k = tt
all-same packages job (a ∷ xs) rest more h k = (
  (
    k.0.0,
    row-same job (xs ++ rest) (xs ++ more) a k.0.0 (left-front xs rest more h) k.0.1,
    k.0.2,
    inside-same packages job k.0.0 a (xs ++ rest) (xs ++ more) (left-front xs rest more h) k.0.3,
  ),
  all-same packages job xs rest more h k.1,
)

-- the one that stands behind some
pub all-at : (packages : List (List JobEntry)) (job before behind rest : List Act) (a : Act)
    → AllActs packages job (before ++ a ∷ behind) rest
    → IsActOf packages job a (behind ++ rest)
all-at packages job [] behind rest a h = h.0
all-at packages job (b ∷ before) behind rest a h = all-at packages job before behind rest a h.1

-- these have these numbers in the job
abbrev AreNumbersOf : List (List JobEntry) → List Act → List ℕ → Type 0
AreNumbersOf packages [] ns = Unit {0}
AreNumbersOf packages (a ∷ xs) [] = ⊥
AreNumbersOf packages (a ∷ xs) (n ∷ ns) = IsJobAct packages n a × AreNumbersOf packages xs ns

row-of : (packages : List (List JobEntry)) (first : ℕ) (xs : List Act) → AreJobActs packages first xs
    → AreNumbersOf packages xs (numbers_from first (length xs))
row-of packages first [] h = tt
row-of packages first (a ∷ xs) h = (
  subst (λ i. IsJobAct packages i a) (let e : first + 0 ≡ first = omega arith in e) (h 0 a refl),
  row-of packages (first + 1) xs
      (λ j b g. subst (λ i. IsJobAct packages i b) (let e : first + suc j ≡ first + 1 + j = omega arith in e)
      (h (suc j) b g)),
)

ends-of : (packages : List (List JobEntry)) (c : Carried) (xs : List Act) → c.count ≡ length xs
    → AreJobActs packages c.first xs
    → AreNumbersOf packages (ends_of xs) (held_numbers true c)
ends-of packages c [] e h = tt
ends-of packages c (a ∷ []) e h =
    (subst (λ i. IsJobAct packages i a) (let e : c.first + 0 ≡ c.first = omega arith in e) (h 0 a refl), tt)
ends-of packages c (a ∷ b ∷ xs) e h =
    let last = last-at b xs in
    let many : nat_lt 1 c.count ≡ true = lt-yes 1 c.count (omega (arith, e)) in (
      subst (λ i. IsJobAct packages i a) (let e : c.first + 0 ≡ c.first = omega arith in e) (h 0 a refl),
      subst (λ l. AreNumbersOf packages l (cond (nat_lt 1 c.count) ((c.first + c.count - 1) ∷ []) [])) (sym last.1)
          (subst (λ t. AreNumbersOf packages (last.0 ∷ []) (cond t ((c.first + c.count - 1) ∷ []) [])) (sym many) (
            subst (λ i. IsJobAct packages i last.0)
                (let g : c.first + suc (length xs) ≡ c.first + c.count - 1 = omega (arith, e) in g)
                (h (suc (length xs)) last.0 last.2),
            tt,
          )),
    )

carried-of : (packages : List (List JobEntry)) (begun : Bool) (x : Command) (c : Carried) → Carries packages begun x c
    → AreNumbersOf packages (outlines x) (held_numbers begun c)
carried-of packages false x c h =
    subst (λ l. AreNumbersOf packages l (numbers_from c.first c.count)) (sym h.form)
    (subst (λ n. AreNumbersOf packages (outlines h.entry.command) (numbers_from c.first n)) (sym h.count)
    (row-of packages c.first (outlines h.entry.command) (entry-acts packages c.first h.entry h.within h.first)))
carried-of packages true x c h =
    subst (λ l. AreNumbersOf packages l (held_numbers true c)) (sym h.form)
    (ends-of packages c (outlines h.entry.command) h.count (entry-acts packages c.first h.entry h.within h.first))

-- the second of some numbers is of the entry of the first
abbrev SecondOf : List (List JobEntry) → List ℕ → Type 0
SecondOf packages [] = Unit {0}
SecondOf packages (n ∷ []) = Unit {0}
SecondOf packages (n ∷ m ∷ ns) =
    (e : JobEntry) × Contains (all_entries packages) e × (n ≡ e.number) × (m < n + length (outlines e.command))
    × (0 < length (outlines e.command))

carried-second : (packages : List (List JobEntry)) (begun : Bool) (x : Command) (c : Carried) (ns : List ℕ)
    → Carries packages begun x c
    → held_numbers begun c ≡ ns
    → SecondOf packages ns
carried-second packages begun x c [] h e = tt
carried-second packages begun x c (n ∷ []) h e = tt
carried-second packages begun x c (n ∷ m ∷ ns) h e =
    let s = second-below begun c n m ns e in
    let first = s.0 in
    let below = s.2 in
    let count = h.count in
    (h.entry, h.within, sym first ∙ h.first, omega (arith, first, below, count), h.some)

steps-of : (packages : List (List JobEntry)) (job xs : List Act) (ns : List ℕ) (rest : List Act)
    → AreRows job xs ns rest
    → AreNumbersOf packages (map outline xs) ns
    → OnlySteps xs
    → AllActs packages job xs rest
steps-of packages job [] ns rest r h o = tt
steps-of packages job (block name ∷ xs) ns rest r h o = absurd o
steps-of packages job (does s more ∷ xs) [] rest r h o = absurd r
steps-of packages job (does s more ∷ xs) (n ∷ ns) rest r h o =
    ((n, r.0, h.0, tt), steps-of packages job xs ns rest r.1 h.1 o)

all-of : (packages : List (List JobEntry)) (job xs : List Act) (ns : List ℕ) (rest : List Act)
    → AreRows job xs ns rest
    → AreNumbersOf packages (map outline xs) ns
    → HeadedSteps xs
    → SecondOf packages ns
    → AllActs packages job xs rest
all-of packages job [] ns rest r h o f = tt
all-of packages job (does s more ∷ xs) ns rest r h o f = steps-of packages job (does s more ∷ xs) ns rest r h o
all-of packages job (block name ∷ []) ns rest r h o f = absurd o
all-of packages job (block name ∷ block other ∷ xs) ns rest r h o f = absurd o
all-of packages job (block name ∷ does s more ∷ xs) [] rest r h o f = absurd r
all-of packages job (block name ∷ does s more ∷ xs) (n ∷ []) rest r h o f = absurd r.1
all-of packages job (block name ∷ does s more ∷ xs) (n ∷ m ∷ ns) rest r h o f =
    let next = r.1.0 in
    let some = r.0.1 in
    let below = f.3 in
    let long = f.4 in (
      (n, r.0, h.0, (f.0, f.1, f.2, omega (arith, next, some, below, long))),
      steps-of packages job (does s more ∷ xs) (m ∷ ns) rest r.1 h.1 o,
    )

-- ---- what waits

-- each entry of the job that waits, with those behind it
abbrev pub RowWaits : List Act → Option Carried → Bool → List Act → List Act → Type 0
RowWaits job None begun xs rest = xs ≡ []
RowWaits job (Some c) begun xs rest = RowOf job c.first c.count begun xs rest

abbrev pub RowList : List Act → List Waiting → List Act → Type 0
RowList job [] rest = Unit {0}
RowList job (w ∷ ws) rest =
    RowWaits job w.carries w.entry.begun (command_acts w.entry.command) (waiting_acts ws ++ rest)
    × RowList job ws rest

pub list-append : (job : List Act) (a b : List Waiting) (rest : List Act) → RowList job a (waiting_acts b ++ rest)
    → RowList job b rest
    → RowList job (a ++ b) rest
list-append job [] b rest h k = k
list-append job (w ∷ a) b rest h k = (
  subst (RowWaits job w.carries w.entry.begun (command_acts w.entry.command)) (both a b rest) h.0,
  list-append job a b rest h.1 k,
)
  where
    both : (a b : List Waiting) (rest : List Act)
        → waiting_acts a ++ (waiting_acts b ++ rest) ≡ waiting_acts (a ++ b) ++ rest
    both [] b rest = refl
    both (w ∷ a) b rest =
        append_assoc (command_acts w.entry.command) (waiting_acts a) (waiting_acts b ++ rest)
        ∙ ap (λ l. command_acts w.entry.command ++ l) (both a b rest)
        ∙ sym (append_assoc (command_acts w.entry.command) (waiting_acts (a ++ b)) rest)

-- ---- an entry goes out

abbrev rest_acts : Entry → ℕ → List Act
rest_acts e n = command_acts (rest_of e n).command

has-acts : (c : Command) → OneEach c → HasActs c
has-acts (command.Plain p) h = tt
has-acts (command.Alert a) h = tt
has-acts (command.Atomic b) h = tt
has-acts (command.Sequence b) h = tt
has-acts (command.Status s) h = tt
has-acts (command.Results r) h = h

part-row : (job : List Act) (e : Entry) (n : ℕ) (i : Item) (c : Carried) (behind : List Act) → OneEach e.command
    → cut_item e.command ≡ Some i
    → RowOf job c.first c.count e.begun (command_acts e.command) behind
    → CutRows job c e.begun (command_acts e.command) (command_acts (part_of e n)) (rest_acts e n) behind
part-row job e n i c behind one is h =
    let long = length-map (rest_acts e n) outline in
    cut-rows job c e.begun n (command_acts e.command) (command_acts (part_of e n)) (rest_acts e n) behind
    (entry-split e.command e.begun n i (has-acts e.command one) is)
    (sym long ∙ ap length (rest-outline e n one)) h

-- what of it goes out has its numbers, and the rest waits in its row
record PartOut (packages : List (List JobEntry)) (job : List Act) (o : Origin) (k msg n : ℕ) (e : Entry)
    (carried : Option Carried) (behind : List Act)
    : Type 0 where
  rows : Each (RowSent packages job (command_deeds o (with_numbers k (part_of e n))) (rest_acts e n ++ behind) msg)
      (part_holds (rest_holds msg k e.begun carried))
  all : AllActs packages job (command_acts (part_of e n)) (rest_acts e n ++ behind)
  waits : RowWaits job carried true (rest_acts e n) behind
  same : SameLeft (command_acts (part_of e n) ++ (rest_acts e n ++ behind)) (command_acts e.command ++ behind)

part-out : (packages : List (List JobEntry)) (job : List Act) (o : Origin) (k msg n : ℕ) (e : Entry)
    (carried : Option Carried) (behind : List Act) (i : Item) → cut_item e.command ≡ Some i
    → WaitsAs packages carried e.begun e.command
    → RowWaits job carried e.begun (command_acts e.command) behind
    → PartOut packages job o k msg n e carried behind
part-out packages job o k msg n e None behind i is h row =
    let part = part-acts e.command e.begun n h in
    let rest = report-acts (rest_of e n).command (rest-report e.command e.begun n h) in
    record {
      rows = tt;
      all = subst (λ l. AllActs packages job l (rest_acts e n ++ behind)) (sym part) tt;
      waits = rest;
      same = λ midway.
          ap (λ l. left (l ++ (rest_acts e n ++ behind)) midway) part ∙ ap (λ l. left (l ++ behind) midway) rest
          ∙ ap (λ l. left (l ++ behind) midway) (sym row);
    }
part-out packages job o k msg n e (Some c) behind i is h row =
    let x = part-row job e n i c behind h.one is row in
    let headed : HeadedSteps (command_acts (part_of e n)) =
    headed-unlined (command_acts (part_of e n))
    (subst HeadedSteps (sym (part-outline e n))
    (headed-lined (command_acts e.command) (form-headed e.begun c.count (command_acts e.command) row.form))) in
    record {
      rows =
          listed-rows packages job (command_deeds o (with_numbers k (part_of e n))) msg k (command_acts (part_of e n))
          (part_holds (rest_holds msg k e.begun (Some c))) (held_numbers e.begun c) (rest_acts e n ++ behind)
          (command-listed o k (part_of e n) (part-each e n h.one)) x.rows
          (part-numbers msg k (rest_holds msg k e.begun (Some c)) (held_numbers e.begun c)
          (holds-numbers msg k e.begun c))
          (part-close packages job (command_acts (part_of e n)) (rest_holds msg k e.begun (Some c))
          (held_numbers e.begun c) (rest_acts e n ++ behind) headed);
      all =
          all-of packages job (command_acts (part_of e n)) (held_numbers e.begun c) (rest_acts e n ++ behind) x.rows
          (carried-of packages e.begun (part_of e n) c (part-carries packages
          (record { entry = e; carries = Some c }) n (Some c) h)) headed
          (carried-second packages e.begun e.command c (held_numbers e.begun c) h refl);
      waits = x.waits;
      same = x.same;
    }

-- all of what is left of it
rest-out : (packages : List (List JobEntry)) (job : List Act) (o : Origin) (k msg : ℕ) (e : Entry)
    (carried : Option Carried) (behind : List Act) → WaitsAs packages carried e.begun e.command
    → RowWaits job carried e.begun (command_acts e.command) behind
    → Each (RowSent packages job (command_deeds o (with_numbers k e.command)) behind msg)
    (rest_holds msg k e.begun carried)
rest-out packages job o k msg e None behind h row = tt
rest-out packages job o k msg e (Some c) behind h row =
    listed-rows packages job (command_deeds o (with_numbers k e.command)) msg k (command_acts e.command)
    (rest_holds msg k e.begun (Some c)) (held_numbers e.begun c) behind (command-listed o k e.command h.one)
    (held-rows job c e.begun (command_acts e.command) behind row) (holds-numbers msg k e.begun c)
    (rest-close packages job e.begun e.command c (command_acts e.command) (rest_holds msg k e.begun (Some c))
    (held_numbers e.begun c) behind h row refl)

rest-all : (packages : List (List JobEntry)) (job : List Act) (e : Entry) (carried : Option Carried)
    (behind : List Act) → WaitsAs packages carried e.begun e.command
    → RowWaits job carried e.begun (command_acts e.command) behind
    → AllActs packages job (command_acts e.command) behind
rest-all packages job e None behind h row = subst (λ l. AllActs packages job l behind) (sym row) tt
rest-all packages job e (Some c) behind h row =
    all-of packages job (command_acts e.command) (held_numbers e.begun c) behind
    (held-rows job c e.begun (command_acts e.command) behind row) (carried-of packages e.begun e.command c h)
    (form-headed e.begun c.count (command_acts e.command) row.form)
    (carried-second packages e.begun e.command c (held_numbers e.begun c) h refl)

waits-same : (job : List Act) (o : Option Carried) (begun : Bool) (xs rest more : List Act) → SameLeft rest more
    → RowWaits job o begun xs rest
    → RowWaits job o begun xs more
waits-same job None begun xs rest more h k = k
waits-same job (Some c) begun xs rest more h k = record {
  count_is = ap (λ n. c.first + c.count + n) (sym (h false)) ∙ k.count_is;
  contains = k.contains;
  form = k.form;
}

-- ---- a message

-- what goes out of these entries: so many whole ones, and a part of the next
abbrev out_of : ℕ → ℕ → List Entry → List Command → List Command
out_of whole n es tail = commands_of (take whole es) ++ next_part n (drop whole es) ++ tail

abbrev pub left_of : ℕ → ℕ → List Waiting → List Waiting
left_of whole n ws = carried_on (next_rest n (drop whole (entries_of ws))) (drop whole ws)

pub record OutRows (packages : List (List JobEntry)) (job : List Act) (o : Origin) (k msg whole n : ℕ)
    (ws : List Waiting) (tail : List Command)
    (rest : List Act) : Type 0 where
  pub rows : Each (RowSent packages job (all_deeds o (numbered k (out_of whole n (entries_of ws) tail)))
      (waiting_acts (left_of whole n ws) ++ rest) msg) (goes_out msg k whole n ws)
  pub same : SameLeft (acts (out_of whole n (entries_of ws) tail) ++ (waiting_acts (left_of whole n ws) ++ rest))
      (waiting_acts ws ++ rest)
  pub all : AllActs packages job (acts (out_of whole n (entries_of ws) tail))
      (waiting_acts (left_of whole n ws) ++ rest)
  pub waits : RowList job (left_of whole n ws) rest

-- there is something to cut
abbrev pub CanCut : ℕ → List Entry → Type 0
CanCut n es =
    (e : Entry) (rest : List Entry) (k : ℕ) → es ≡ e ∷ rest → n ≡ suc k → (i : Item) × (cut_item e.command ≡ Some i)

none-out : (packages : List (List JobEntry)) (job : List Act) (o : Origin) (k msg whole n : ℕ) (ws : List Waiting)
    (tail : List Command)
    (rest : List Act) → acts tail ≡ []
    → goes_out msg k whole n ws ≡ []
    → out_of whole n (entries_of ws) tail ≡ tail
    → left_of whole n ws ≡ ws
    → RowList job ws rest
    → OutRows packages job o k msg whole n ws tail rest
none-out packages job o k msg whole n ws tail rest t g e l h = record {
  rows = subst (λ ss. Each (RowSent packages job (all_deeds o (numbered k (out_of whole n (entries_of ws) tail)))
      (waiting_acts (left_of whole n ws) ++ rest) msg) ss) (sym g) tt;
  same = λ midway.
      ap (λ xs. left (acts xs ++ (waiting_acts (left_of whole n ws) ++ rest)) midway) e
      ∙ ap (λ xs. left (xs ++ (waiting_acts (left_of whole n ws) ++ rest)) midway) t
      ∙ ap (λ ws. left (waiting_acts ws ++ rest) midway) l;
  all = subst (λ l. AllActs packages job l (waiting_acts (left_of whole n ws) ++ rest)) (sym (ap acts e ∙ t)) tt;
  waits = subst (λ ws. RowList job ws rest) (sym l) h;
}

tail-deeds : (o : Origin) (k : ℕ) (cs : List Command) → acts cs ≡ [] → deed_acts (all_deeds o (numbered k cs)) ≡ []
tail-deeds o k cs e = message-deeds o (numbered k cs) ∙ numbered-acts k cs ∙ e

pub out-rows : (packages : List (List JobEntry)) (job : List Act) (o : Origin) (msg k whole n : ℕ) (ws : List Waiting)
    (tail : List Command) (rest : List Act) → acts tail ≡ []
    → CanCut n (drop whole (entries_of ws))
    → AllByRecursion (WaitsOf packages) ws
    → RowList job ws rest
    → OutRows packages job o k msg whole n ws tail rest
unfolding rest_of
out-rows packages job o msg k zero zero [] tail rest t c h row =
    none-out packages job o k msg zero zero [] tail rest t refl refl refl tt
out-rows packages job o msg k zero (suc n) [] tail rest t c h row =
    none-out packages job o k msg zero (suc n) [] tail rest t refl refl refl tt
out-rows packages job o msg k (suc whole) zero [] tail rest t c h row =
    none-out packages job o k msg (suc whole) zero [] tail rest t refl refl refl tt
out-rows packages job o msg k (suc whole) (suc n) [] tail rest t c h row =
    none-out packages job o k msg (suc whole) (suc n) [] tail rest t refl refl refl tt
out-rows packages job o msg k zero zero (w ∷ ws) tail rest t c h row =
    none-out packages job o k msg zero zero (w ∷ ws) tail rest t refl refl (same-carried (w ∷ ws)) row
out-rows packages job o msg k zero (suc n) (w ∷ ws) tail rest t c h row =
    let e = w.entry in
    let i = c e (entries_of ws) n refl refl in
    let behind = waiting_acts ws ++ rest in
    let x = part-out packages job o k msg (suc n) e w.carries behind i.0 i.1 h.0.0 row.0 in
    let carried = same-carried ws in
    let part = part_of e (suc n) in
    let ds = command_deeds o (with_numbers k part) in
    let more = all_deeds o (numbered (k + ids_in part) tail) in
    let none = tail-deeds o (k + ids_in part) tail t in
    let all : rest_acts e (suc n) ++ behind ≡ waiting_acts (left_of zero (suc n) (w ∷ ws)) ++ rest =
    sym (append_assoc (rest_acts e (suc n)) (waiting_acts ws) rest)
    ∙ ap (λ l. (rest_acts e (suc n) ++ waiting_acts l) ++ rest) (sym carried) in
    record {
      rows =
          each-map {P = RowSent packages job ds (rest_acts e (suc n) ++ behind) msg}
          {Q = RowSent packages job (ds ++ more) (waiting_acts (left_of zero (suc n) (w ∷ ws)) ++ rest) msg}
          (λ s y. behind-more packages job ds more (waiting_acts (left_of zero (suc n) (w ∷ ws)) ++ rest) msg s
          (subst (λ l. RowSent packages job ds l msg s)
          (all ∙ ap (λ l. l ++ (waiting_acts (left_of zero (suc n) (w ∷ ws)) ++ rest)) (sym none)) y))
          (part_holds (rest_holds msg k e.begun w.carries)) x.rows;
      same = λ midway.
          ap (λ l. left ((command_acts part ++ l) ++ (waiting_acts (left_of zero (suc n) (w ∷ ws)) ++ rest)) midway) t
          ∙ ap (λ l. left (l ++ (waiting_acts (left_of zero (suc n) (w ∷ ws)) ++ rest)) midway)
          (append-nil (command_acts part))
          ∙ ap (λ l. left (command_acts part ++ l) midway) (sym all)
          ∙ x.same midway
          ∙ ap (λ l. left l midway) (sym (append_assoc (command_acts e.command) (waiting_acts ws) rest));
      all =
          all-append packages job (command_acts part) (acts tail)
          (waiting_acts (left_of zero (suc n) (w ∷ ws)) ++ rest)
          (subst (AllActs packages job (command_acts part))
          (all ∙ ap (λ l. l ++ (waiting_acts (left_of zero (suc n) (w ∷ ws)) ++ rest)) (sym t)) x.all)
          (subst (λ l. AllActs packages job l (waiting_acts (left_of zero (suc n) (w ∷ ws)) ++ rest)) (sym t) tt);
      waits = (
        subst (λ l. RowWaits job w.carries true (rest_acts e (suc n)) (waiting_acts l ++ rest)) (sym carried) x.waits,
        subst (λ l. RowList job l rest) (sym carried) row.1,
      );
    }
out-rows packages job o msg k (suc whole) n (w ∷ ws) tail rest t c h row =
    let e = w.entry in
    let x = e.command in
    let ds = command_deeds o (with_numbers k x) in
    let out = out_of whole n (entries_of ws) tail in
    let more = all_deeds o (numbered (k + ids_in x) out) in
    let left_acts = waiting_acts (left_of whole n ws) ++ rest in
    let y = out-rows packages job o msg (k + ids_in x) whole n ws tail rest t c h.1 row.1 in
    let out-is : deed_acts more ≡ acts out =
    message-deeds o (numbered (k + ids_in x) out) ∙ numbered-acts (k + ids_in x) out in
    let same : SameLeft (waiting_acts ws ++ rest) (deed_acts more ++ left_acts) =
    λ midway. sym (y.same midway) ∙ ap (λ l. left (l ++ left_acts) midway) (sym out-is) in
    record {
      rows =
          each-append (RowSent packages job (ds ++ more) left_acts msg) (rest_holds msg k e.begun w.carries)
          (goes_out msg (k + ids_in x) whole n ws)
          (each-map {P = RowSent packages job ds (deed_acts more ++ left_acts) msg}
          {Q = RowSent packages job (ds ++ more) left_acts msg}
          (λ s z. behind-more packages job ds more left_acts msg s z)
          (rest_holds msg k e.begun w.carries)
          (rest-out packages job o k msg e w.carries (deed_acts more ++ left_acts) h.0.0
          (waits-same job w.carries e.begun (command_acts x) (waiting_acts ws ++ rest) (deed_acts more ++ left_acts)
          same row.0)))
          (each-map {P = RowSent packages job more left_acts msg} {Q = RowSent packages job (ds ++ more) left_acts msg}
          (λ s z. front-more packages job ds more left_acts msg s z) (goes_out msg (k + ids_in x) whole n ws) y.rows);
      same = λ midway.
          ap (λ l. left l midway) (append_assoc (command_acts x) (acts out) left_acts)
          ∙ left-front (command_acts x) (acts out ++ left_acts) (waiting_acts ws ++ rest) y.same midway
          ∙ ap (λ l. left l midway) (sym (append_assoc (command_acts x) (waiting_acts ws) rest));
      all =
          all-append packages job (command_acts x) (acts out) left_acts
          (all-same packages job (command_acts x) (waiting_acts ws ++ rest) (acts out ++ left_acts)
          (λ midway. sym (y.same midway)) (rest-all packages job e w.carries (waiting_acts ws ++ rest) h.0.0 row.0))
          y.all;
      waits = y.waits;
    }
