-- What a client says of headers: of none of the commands that it executes, and of a message's header alone what its
-- checks came to.
use Rattle.std.proofs.Common.{zero, suc, ◌≡◌, ◌<◌, ◌+◌, ◌&&◌, ℕ, Bool, true, false, cond, List, [], ◌∷◌}
use Rattle.std.proofs.Common.{◌++◌, Option, None, Some, map, refl, sym, ◌∙◌, ap, subst, arith, take, drop}
use Rattle.std.specs.Prelude.{nat_eq}
use Rattle.std.specs.List.{sum_by}
use Rattle.std.specs.Option.{option_or}
use Rattle.std.proofs.lemmas.List.Sums.{sum_by-append}
use Rattle.std.proofs.lemmas.Bool.Decides.{nat_tests}
use Rattle.syncml_types.specs.declared.values.Header.{Header}
use Rattle.syncml_types.specs.declared.values.Item.{Item}
use Rattle.syncml_types.specs.declared.command.Plain.{Plain}
use Rattle.syncml_types.specs.declared.command.Member.{Member}
use Rattle.syncml_types.specs.declared.command.Member.TheVariants as member
use Rattle.syncml_types.specs.declared.command.SeqMember.{SeqMember}
use Rattle.syncml_types.specs.declared.command.SeqMember.TheVariants as seq_member
use Rattle.syncml_types.specs.declared.command.Command.{Command}
use Rattle.syncml_types.specs.declared.command.Command.TheVariants as command
use Rattle.syncml_types.specs.Message.{Parts}
use Rattle.syncml_parts.specs.Numbering.{with_number, numbered_members, ids_in_seq_member}
use Rattle.syncml_parts.specs.Numbering.{numbered_seq_members, ids_in, with_numbers}
use Rattle.dm_headers.specs.Checks.{is_denied, header_status, code_read}
use Rattle.dm_headers.specs.Headers.{is_withheld as header_withheld, header_answer}
use Rattle.dm_atomic.specs.declared.tasks.Origin.{Origin}
use Rattle.dm_atomic.specs.declared.tasks.Post.{Post}
use Rattle.dm_atomic.specs.declared.tasks.Task.{Task}
use Rattle.dm_atomic.specs.Tasks.{item_tasks, member_tasks, members_tasks}
use Rattle.dm_atomic.specs.Posts.{task_posts, members_posts, asked_posts, all_asked, made_posts, waiting_posts}
use Rattle.dm_atomic.specs.Posts.{NoneLost}
use Rattle.dm_atomic.specs.Made.{Made, Status, Result, Broken, told}
use Rattle.dm_atomic.specs.Run.{Group}
use Rattle.dm_pack.specs.declared.filled.Tail.{Tail}
use Rattle.dm_pack.specs.declared.filled.Tail.TheVariants.{Final, NextMessage, Nothing}
use Rattle.dm_pack.specs.Entries.{Entry, whole_entry, part_of, rest_of}
use Rattle.dm_pack.specs.Filling.{numbered, asks_next, commands_of, taken, cut, next_part, next_rest, tail_of}
use Rattle.dm_pack.specs.Filling.{tail_commands, fill}
use Rattle.dm_world.proofs.Lists.{either, Each, each-append, each-drop}

each-take : {A : Type 0} (P : A → Type 0) (n : ℕ) (xs : List A) → Each P xs → Each P (take n xs)
each-take P zero xs h = tt
each-take P (suc n) [] h = tt
each-take P (suc n) (x ∷ xs) h = (h.0, each-take P n xs h.1)

-- ---- what is asked has CmdIDs from 1 on

abbrev pub Counted : Post → Type 0
Counted p = 0 < p.command

tasks-append : (a b : List Task) → task_posts (a ++ b) ≡ task_posts a ++ task_posts b
tasks-append [] b = refl
tasks-append (t ∷ ts) b = ap (λ x. t.post ∷ x) (tasks-append ts b)

items-counted : (o : Origin) (a : Bool) (p : Plain) (n : ℕ) (is : List Item) → 0 < p.id
    → Each Counted (task_posts (item_tasks o a p n is))
items-counted o a p n [] h = tt
items-counted o a p n (i ∷ is) h = (h, items-counted o a p (suc n) is h)

member-counted : (o : Origin) (a : Bool) (n : ℕ) (m : Member) → 0 < n
    → Each Counted (task_posts (member_tasks o a (with_number n m)))
member-counted o a n (member.One p) h = items-counted o a (record p { id = n }) 0 p.items h
member-counted o a n (member.Alert c) h = (h, tt)

inner-counted : (o : Origin) (a : Bool) (n : ℕ) (ms : List Member) → 0 < n
    → Each Counted (task_posts (members_tasks o a (numbered_members n ms)))
unfolding numbered_members
inner-counted o a n [] h = tt
inner-counted o a n (m ∷ ms) h =
    subst (Each Counted)
    (sym (tasks-append (member_tasks o a (with_number n m)) (members_tasks o a (numbered_members (n + 1) ms))))
    (each-append Counted _ _ (member-counted o a n m h) (inner-counted o a (n + 1) ms (omega arith)))

sequence-counted : (o : Origin) (n : ℕ) (ms : List SeqMember) → 0 < n
    → Each Counted (members_posts o (numbered_seq_members n ms))
unfolding numbered_seq_members
sequence-counted o n [] h = tt
sequence-counted o n (seq_member.Single m ∷ ms) h =
    each-append Counted _ _ (member-counted o false n m h) (sequence-counted o (n + 1) ms (omega arith))
sequence-counted o n (seq_member.Atomic b ∷ ms) h = (
  h,
  each-append Counted _ _ (inner-counted o true (n + 1) b.members (omega arith))
      (sequence-counted o (n + ids_in_seq_member (seq_member.Atomic b)) ms (omega (arith, h))),
)

command-counted : (o : Origin) (n : ℕ) (c : Command) → 0 < n → Each Counted (asked_posts o (with_numbers n c))
unfolding asked_posts with_numbers
command-counted o n (command.Plain p) h = items-counted o false (record p { id = n }) 0 p.items h
command-counted o n (command.Alert a) h = (h, tt)
command-counted o n (command.Atomic b) h = (h, inner-counted o true (n + 1) b.members (omega arith))
command-counted o n (command.Sequence b) h = (h, sequence-counted o (n + 1) b.members (omega arith))
command-counted o n (command.Status c) h = tt
command-counted o n (command.Results c) h = tt

pub asked-counted : (o : Origin) (n : ℕ) (cs : List Command) → 0 < n → Each Counted (all_asked o (numbered n cs))
asked-counted o n [] h = tt
asked-counted o n (c ∷ cs) h =
    each-append Counted _ _ (command-counted o n c h) (asked-counted o (n + ids_in c) cs (omega (arith, h)))

-- ---- so is what is made, since each step has one Status

abbrev pub of_header : Post → ℕ
of_header p = cond (nat_eq p.command 0) 1 0

counted-none : (p : Post) → 0 < p.command → of_header p ≡ 0
counted-none p h = let t : nat_eq p.command 0 ≡ false = grind (arith, nat_tests) in rw t refl

none-counted : (p : Post) → of_header p ≡ 0 → 0 < p.command
none-counted p h = by (nat_eq p.command 0) refl h
  where
    by : (c : Bool) → nat_eq p.command 0 ≡ c → ◌≡◌ {A = ℕ} (cond c 1 0) 0 → 0 < p.command
    by true e h = absurd (omega (arith, h))
    by false e h = grind (arith, nat_tests)

abbrev pub NoHeader : List Post → Type 0
NoHeader ps = sum_by of_header ps ≡ 0

sum-nil : (ps : List Post) → Each Counted ps → NoHeader ps
sum-nil [] h = refl
sum-nil (p ∷ ps) h =
    sum_by-append of_header (p ∷ []) ps
    ∙ (let a = counted-none p h.0 in let b = sum-nil ps h.1 in omega (arith, a, b))

sum-each : (ps : List Post) → NoHeader ps → Each Counted ps
sum-each [] h = tt
sum-each (p ∷ ps) h =
    let s = sum_by-append of_header (p ∷ []) ps in
    (none-counted p (omega (arith, s, h)), sum-each ps (omega (arith, s, h)))

-- what was asked for gives what is made, and what waits
pub made-counted : (asked : List Post) (made : List Made) (before then : Option Group)
    → NoneLost asked made before then
    → Each Counted asked
    → NoHeader (waiting_posts before)
    → Each Counted (made_posts made) × NoHeader (waiting_posts then)
made-counted asked made before then law a w =
    let e = law of_header in
    let b = sum-nil asked a in
    (sum-each (made_posts made) (omega (arith, e, b, w)), omega (arith, e, b, w))

-- ---- a Status for a header that says that it was refused: of none, or of the server's first alone

abbrev pub Calm : Command → Type 0
Calm (command.Status s) = s.cmd_ref ≡ 0 → is_denied s.code ≡ false
Calm (command.Plain p) = Unit {0}
Calm (command.Alert a) = Unit {0}
Calm (command.Atomic b) = Unit {0}
Calm (command.Sequence b) = Unit {0}
Calm (command.Results r) = Unit {0}

abbrev pub Mild : Command → Type 0
Mild (command.Status s) = s.cmd_ref ≡ 0 → is_denied s.code ≡ true → s.msg_ref ≡ 1
Mild (command.Plain p) = Unit {0}
Mild (command.Alert a) = Unit {0}
Mild (command.Atomic b) = Unit {0}
Mild (command.Sequence b) = Unit {0}
Mild (command.Results r) = Unit {0}

abbrev pub CalmEntry : Entry → Type 0
CalmEntry e = Calm e.command

abbrev pub MildEntry : Entry → Type 0
MildEntry e = Mild e.command

abbrev pub IsMild : Parts → Type 0
IsMild m = Each Mild m.body

calm-mild : (c : Command) → Calm c → Mild c
calm-mild (command.Status s) h = λ e d. absurd (let k = h e in cc)
calm-mild (command.Plain p) h = tt
calm-mild (command.Alert a) h = tt
calm-mild (command.Atomic b) h = tt
calm-mild (command.Sequence b) h = tt
calm-mild (command.Results r) h = tt

pub commands-mild : (cs : List Command) → Each Calm cs → Each Mild cs
commands-mild [] h = tt
commands-mild (c ∷ cs) h = (calm-mild c h.0, commands-mild cs h.1)

pub entries-mild : (es : List Entry) → Each CalmEntry es → Each MildEntry es
entries-mild [] h = tt
entries-mild (e ∷ es) h = (calm-mild e.command h.0, entries-mild es h.1)

pub fresh-calm : (cs : List Command) → Each Calm cs → Each CalmEntry (map whole_entry cs)
fresh-calm [] h = tt
fresh-calm (c ∷ cs) h = (h.0, fresh-calm cs h.1)

pub fresh-mild : (cs : List Command) → Each Mild cs → Each MildEntry (map whole_entry cs)
fresh-mild [] h = tt
fresh-mild (c ∷ cs) h = (h.0, fresh-mild cs h.1)

pub told-calm : (ms : List Made) → Each Counted (made_posts ms) → Each Calm (told ms)
told-calm [] h = tt
told-calm (Status p code ∷ ms) h =
    let c = h.0 in
    either (Each Calm) p.quiet (told-calm ms h.1) (λ e. absurd (omega (arith, e, c)), told-calm ms h.1)
told-calm (Result p f ∷ ms) h = (tt, told-calm ms h)
told-calm (Broken t ∷ ms) h = (tt, told-calm ms h)

pub own-calm : (h : Header) (code : ℕ) (nonce : List ℕ) → is_denied code ≡ false
    → Each Calm (header_answer h code nonce)
unfolding header_answer
own-calm h code nonce calm = either (Each Calm) (header_withheld h code) tt (λ _. calm, tt)

pub own-mild : (h : Header) (code : ℕ) (nonce : List ℕ) → (is_denied code ≡ true → h.msg ≡ 1)
    → Each Mild (header_answer h code nonce)
unfolding header_answer
own-mild h code nonce one = either (Each Mild) (header_withheld h code) tt (λ _. one, tt)

-- ---- what a message says of a header

-- it says of the message with this MsgID that its header was refused
abbrev pub says : ℕ → Parts → Bool
says k m = is_denied (code_read (header_status k m.body))

zero-calm : is_denied 0 ≡ false
zero-calm = refl

pub body-calm : (own : ℕ) (cs : List Command) → Each Calm cs → is_denied (code_read (header_status own cs)) ≡ false
body-calm own [] h = zero-calm
body-calm own (command.Plain p ∷ cs) h = body-calm own cs h.1
body-calm own (command.Alert a ∷ cs) h = body-calm own cs h.1
body-calm own (command.Atomic b ∷ cs) h = body-calm own cs h.1
body-calm own (command.Sequence b ∷ cs) h = body-calm own cs h.1
body-calm own (command.Results r ∷ cs) h = body-calm own cs h.1
body-calm own (command.Status s ∷ cs) h =
    by (nat_eq s.cmd_ref 0) (nat_eq s.msg_ref own) refl (body-calm own cs h.1)
  where
    by : (c d : Bool) → nat_eq s.cmd_ref 0 ≡ c → is_denied (code_read (header_status own cs)) ≡ false
        → is_denied (code_read (option_or (cond (c && d) (Some s) None) (header_status own cs))) ≡ false
    by true true e k = h.0 (grind (arith, nat_tests))
    by true false e k = k
    by false d e k = k

pub body-mild : (own : ℕ) (cs : List Command) → Each Mild cs → is_denied (code_read (header_status own cs)) ≡ true
    → own ≡ 1
body-mild own [] h d = absurd (let z = zero-calm in cc)
body-mild own (command.Plain p ∷ cs) h d = body-mild own cs h.1 d
body-mild own (command.Alert a ∷ cs) h d = body-mild own cs h.1 d
body-mild own (command.Atomic b ∷ cs) h d = body-mild own cs h.1 d
body-mild own (command.Sequence b ∷ cs) h d = body-mild own cs h.1 d
body-mild own (command.Results r ∷ cs) h d = body-mild own cs h.1 d
body-mild own (command.Status s ∷ cs) h d =
    by (nat_eq s.cmd_ref 0) (nat_eq s.msg_ref own) refl refl (body-mild own cs h.1) d
  where
    by : (c e : Bool) → nat_eq s.cmd_ref 0 ≡ c → nat_eq s.msg_ref own ≡ e
        → (is_denied (code_read (header_status own cs)) ≡ true → own ≡ 1)
        → is_denied (code_read (option_or (cond (c && e) (Some s) None) (header_status own cs))) ≡ true
        → own ≡ 1
    by true true f g k d =
        let same : s.msg_ref ≡ own = grind (arith, nat_tests) in
        sym same ∙ h.0 (grind (arith, nat_tests)) d
    by true false f g k d = k d
    by false e f g k d = k d

-- ---- packing keeps it

-- a property of commands that packing keeps
pub record Kept (P : Command → Type 0) : Type 0 where
  pub numbers : (n : ℕ) (c : Command) → P c → P (with_numbers n c)
  pub part : (c : Command) (b : Bool) (n : ℕ) → P c → P (part_of (record { command = c; begun = b }) n)
  pub rest : (c : Command) (b : Bool) (n : ℕ) → P c → P (rest_of (record { command = c; begun = b }) n).command
  pub next : P asks_next

calm-numbers : (n : ℕ) (c : Command) → Calm c → Calm (with_numbers n c)
unfolding with_numbers
calm-numbers n (command.Plain p) h = tt
calm-numbers n (command.Alert a) h = tt
calm-numbers n (command.Atomic b) h = tt
calm-numbers n (command.Sequence b) h = tt
calm-numbers n (command.Status s) h = h
calm-numbers n (command.Results r) h = tt

calm-part : (c : Command) (b : Bool) (n : ℕ) → Calm c → Calm (part_of (record { command = c; begun = b }) n)
unfolding part_of
calm-part (command.Plain p) b n h = tt
calm-part (command.Alert a) b n h = tt
calm-part (command.Atomic x) b n h = tt
calm-part (command.Sequence x) b n h = tt
calm-part (command.Status s) b n h = h
calm-part (command.Results r) b n h = tt

calm-rest : (c : Command) (b : Bool) (n : ℕ) → Calm c → Calm (rest_of (record { command = c; begun = b }) n).command
unfolding rest_of
calm-rest (command.Plain p) b n h = tt
calm-rest (command.Alert a) b n h = tt
calm-rest (command.Atomic x) b n h = tt
calm-rest (command.Sequence x) b n h = tt
calm-rest (command.Status s) b n h = h
calm-rest (command.Results r) b n h = tt

pub calm-kept : Kept Calm
calm-kept = record { numbers = calm-numbers; part = calm-part; rest = calm-rest; next = tt }

mild-numbers : (n : ℕ) (c : Command) → Mild c → Mild (with_numbers n c)
unfolding with_numbers
mild-numbers n (command.Plain p) h = tt
mild-numbers n (command.Alert a) h = tt
mild-numbers n (command.Atomic b) h = tt
mild-numbers n (command.Sequence b) h = tt
mild-numbers n (command.Status s) h = h
mild-numbers n (command.Results r) h = tt

mild-part : (c : Command) (b : Bool) (n : ℕ) → Mild c → Mild (part_of (record { command = c; begun = b }) n)
unfolding part_of
mild-part (command.Plain p) b n h = tt
mild-part (command.Alert a) b n h = tt
mild-part (command.Atomic x) b n h = tt
mild-part (command.Sequence x) b n h = tt
mild-part (command.Status s) b n h = h
mild-part (command.Results r) b n h = tt

mild-rest : (c : Command) (b : Bool) (n : ℕ) → Mild c → Mild (rest_of (record { command = c; begun = b }) n).command
unfolding rest_of
mild-rest (command.Plain p) b n h = tt
mild-rest (command.Alert a) b n h = tt
mild-rest (command.Atomic x) b n h = tt
mild-rest (command.Sequence x) b n h = tt
mild-rest (command.Status s) b n h = h
mild-rest (command.Results r) b n h = tt

pub mild-kept : Kept Mild
mild-kept = record { numbers = mild-numbers; part = mild-part; rest = mild-rest; next = tt }

abbrev pub OfEntry : (Command → Type 0) → Entry → Type 0
OfEntry P e = P e.command

pub numbered-each : (P : Command → Type 0) → Kept P → (n : ℕ) (cs : List Command) → Each P cs → Each P (numbered n cs)
numbered-each P k n [] h = tt
numbered-each P k n (c ∷ cs) h = (k.numbers n c h.0, numbered-each P k (n + ids_in c) cs h.1)

commands-each : (P : Command → Type 0) (es : List Entry) → Each (OfEntry P) es → Each P (commands_of es)
commands-each P [] h = tt
commands-each P (e ∷ es) h = (h.0, commands-each P es h.1)

part-each : (P : Command → Type 0) → Kept P → (n : ℕ) (es : List Entry) → Each (OfEntry P) es → Each P (next_part n es)
part-each P k zero es h = tt
part-each P k (suc n) [] h = tt
part-each P k (suc n) (e ∷ es) h = (k.part e.command e.begun (suc n) h.0, tt)

rest-each : (P : Command → Type 0) → Kept P → (n : ℕ) (es : List Entry) → Each (OfEntry P) es
    → Each (OfEntry P) (next_rest n es)
rest-each P k zero es h = h
rest-each P k (suc n) [] h = tt
rest-each P k (suc n) (e ∷ es) h = (k.rest e.command e.begun (suc n) h.0, h.1)

tail-each : (P : Command → Type 0) → Kept P → (t : Tail) → Each P (tail_commands t)
tail-each P k Final = tt
tail-each P k NextMessage = (k.next, tt)
tail-each P k Nothing = tt

pub fill-each : (P : Command → Type 0) → Kept P → (es : List Entry) (h : Header) (room : ℕ) (heard : Bool)
    → Each (OfEntry P) es
    → Each P (fill es h room heard).message.body × Each (OfEntry P) (fill es h room heard).left
unfolding fill
fill-each P k es h room heard c =
    let whole = taken h room [] es in
    let before = commands_of (take whole es) in
    let n = cut h room before (drop whole es) in
    let left = next_rest n (drop whole es) in
    let behind = each-drop (OfEntry P) whole es c in (
      numbered-each P k 1 (before ++ next_part n (drop whole es) ++ tail_commands (tail_of left heard))
          (each-append P _ _
          (each-append P _ _ (commands-each P (take whole es) (each-take (OfEntry P) whole es c))
          (part-each P k n (drop whole es) behind)) (tail-each P k (tail_of left heard))),
      rest-each P k n (drop whole es) behind,
    )

pub again-each : (P : Entry → Type 0) (at left : ℕ) (queue first : List Entry) → Each P queue → Each P first
    → Each P (take at queue ++ drop (at + left) queue ++ first)
again-each P at left queue first h k =
    each-append P _ _ (each-append P _ _ (each-take P at queue h) (each-drop P (at + left) queue h)) k
