-- In an Atomic nothing is started.
use Rattle.std.proofs.Common.{◌≡◌, ℕ, suc, ◌+◌, length, Bool, true, false, cond, List, [], ◌∷◌, Option, None, Some}
use Rattle.std.proofs.Common.{refl, ◌∙◌, ap, subst}
use Rattle.std.specs.Prelude.{⊤, ◌&&◌, ◌==◌, not, nat_lt, is_some, All}
use Rattle.std.proofs.lemmas.List.Elements.{All-nil, All-cons, All-head, All-tail, All-append}
use Rattle.syncml_types.specs.declared.values.Item.{Item}
use Rattle.syncml_types.specs.declared.command.AlertCmd.{AlertCmd}
use Rattle.syncml_types.specs.declared.command.Block.{Block}
use Rattle.syncml_types.specs.declared.command.Member.{Member}
use Rattle.syncml_types.specs.declared.command.Member.TheVariants as member
use Rattle.syncml_types.specs.declared.command.Plain.{Plain}
use Rattle.syncml_types.specs.Verbs.{is_write}
use Rattle.dm_objects.specs.declared.object.Begun.{Begun}
use Rattle.dm_objects.specs.declared.object.Object.{Object}
use Rattle.dm_objects.specs.declared.object.Object.TheVariants.{Nothing, Buffering, Skipping}
use Rattle.dm_objects.specs.declared.piece.Piece.{Piece}
use Rattle.dm_objects.specs.declared.piece.What.{What}
use Rattle.dm_objects.specs.declared.piece.What.TheVariants.{Whole, Buffered, Refused}
use Rattle.dm_objects.specs.Gathering.{Came, first_of_several, next_piece, write_piece, by_rules, continues}
use Rattle.dm_objects.specs.Gathering.{gather}
use Rattle.dm_commands.specs.Outcomes.{is_success}
use Rattle.dm_commands.proofs.Refusals.{nothing_in_atomic}
use Rattle.dm_atomic.specs.declared.tasks.Named.TheVariants as named
use Rattle.dm_atomic.specs.declared.tasks.Origin.{Origin}
use Rattle.dm_atomic.specs.declared.tasks.Post.{Post}
use Rattle.dm_atomic.specs.declared.tasks.Task.{Task}
use Rattle.dm_atomic.specs.declared.tasks.Work.{Work}
use Rattle.dm_atomic.specs.declared.tasks.Work.TheVariants as work
use Rattle.dm_atomic.specs.declared.reports.Report.{Report}
use Rattle.dm_atomic.specs.Tasks.{item_tasks, plain_tasks, alert_task, member_tasks, members_tasks, container_post}
use Rattle.dm_atomic.specs.Run.{State, Group, Running, Ran, Tried, quietly, started_by, by_what, by_work, one_step}
use Rattle.dm_atomic.specs.Run.{break_of, break_group, after_success, tried, joins, opened, opens, stays_open, succeeds}
use Rattle.dm_atomic.specs.Run.{closes, in_group, join_or_break, atomically, run_atomic}
use Rattle.dm_objects.specs.Inside.{is_buffering_inside}
use Rattle.dm_atomic.specs.Laws.{IsMarked}
use Rattle.dm_atomic.proofs.OneStatus.{failed_at}

-- ---- what is put together from pieces is inside an Atomic where its last piece is

abbrev Keeps : Bool → What → Type 0
Keeps inside (Whole step) = step.in_atomic ≡ inside
Keeps inside Buffered = ⊤
Keeps inside (Refused code) = ⊤

whole-keeps : (inside b : Bool) (w v : What) → Keeps inside w → Keeps inside v → Keeps inside (cond b w v)
whole-keeps inside true w v h k = h
whole-keeps inside false w v h k = k

keeps-cond : (inside b : Bool) (c d : Came) → Keeps inside c.what → Keeps inside d.what → Keeps inside (cond b c d).what
keeps-cond inside true c d h k = h
keeps-cond inside false c d h k = k

first-keeps : (max : ℕ) (piece : Piece) (size : Option ℕ)
    → Keeps piece.step.in_atomic (first_of_several max piece size).what
first-keeps max piece None = tt
first-keeps max piece (Some size) =
    keeps-cond piece.step.in_atomic (nat_lt max size) _ _ tt
    (keeps-cond piece.step.in_atomic (nat_lt size (length piece.step.value)) _ _ tt tt)

next-keeps : (begun : Begun) (piece : Piece) → Keeps piece.step.in_atomic (next_piece begun piece).what
next-keeps begun piece =
    let inside = piece.step.in_atomic in
    let total = length begun.value + length piece.step.value in
    keeps-cond inside (nat_lt begun.size total) _ _ tt
    (keeps-cond inside piece.more _ _ tt (keeps-cond inside (total == begun.size) _ _ refl tt))

write-keeps : (max : ℕ) (object : Object) (piece : Piece)
    → Keeps piece.step.in_atomic (write_piece max object piece).what
write-keeps max Nothing piece =
    keeps-cond piece.step.in_atomic piece.more _ _ (first-keeps max piece piece.size)
    (keeps-cond piece.step.in_atomic (nat_lt max (length piece.step.value)) _ _ tt refl)
write-keeps max (Buffering begun) piece = next-keeps begun piece
write-keeps max (Skipping key code) piece = tt

rules-keep : (max : ℕ) (object : Object) (piece : Piece) → Keeps piece.step.in_atomic (by_rules max object piece).what
rules-keep max object piece =
    let inside = piece.step.in_atomic in
    keeps-cond inside (not (is_write piece.step.verb)) _ _
    (whole-keeps inside piece.more (Refused 400) (Whole piece.step) tt refl)
    (keeps-cond inside (piece.more && not (is_some piece.step.target)) _ _ tt (write-keeps max object piece))

gather-keeps : (max : ℕ) (object : Object) (piece : Piece) → Keeps piece.step.in_atomic (gather max object piece).what
unfolding gather
gather-keeps max object piece = rules-keep max (cond (continues object piece) object Nothing) piece

-- ---- one task

what-starts : (r : Running) (s : State) (post : Post) (broken : Option (List ℕ)) (w : What) → Keeps true w
    → (by_what r s post broken w).state.started ≡ s.started
what-starts r s post broken (Whole step) inside =
    ap (λ b. cond b (Some (started_by step)) s.started) (nothing_in_atomic r.setting s.tree step inside)
what-starts r s post broken Buffered inside = refl
what-starts r s post broken (Refused code) inside = refl

work-starts : (r : Running) (s : State) (post : Post) (w : Work) → IsMarked true w
    → (by_work r s post w).state.started ≡ s.started
work-starts r s post (work.Piece piece) inside =
    let g = gather r.max_obj s.object piece in
    what-starts r (record s { object = g.object }) post g.broken g.what
    (subst (λ b. Keeps b g.what) inside (gather-keeps r.max_obj s.object piece))
work-starts r s post (work.Alert code) inside = refl

pub step-starts : (r : Running) (s : State) (t : Task) → IsMarked true t.work
    → (one_step r s t).state.started ≡ s.started
unfolding one_step
step-starts r s t inside = work-starts r s t.post t.work inside

-- ---- an Atomic

tried-cond : (s : State) (ts : List Task) (first : Ran) (rest : Tried) (ok : Bool) → first.state.started ≡ s.started
    → rest.state.started ≡ first.state.started
    → (cond ok (after_success first rest) (failed_at first ts)).state.started ≡ s.started
tried-cond s ts first rest true h k = k ∙ h
tried-cond s ts first rest false h k = h

tried-starts : (r : Running) (s : State) (ts : List Task) → All (λ t. IsMarked true t.work) ts
    → (tried r s ts).state.started ≡ s.started
tried-starts r s [] all = refl
tried-starts r s (t ∷ ts) all =
    let first = one_step r s t in
    tried-cond s ts first (tried r first.state ts) (is_success first.report.code)
    (step-starts r s t (All-head (λ t. IsMarked true t.work) t ts all))
    (tried-starts r first.state ts (All-tail (λ t. IsMarked true t.work) t ts all))

done-starts : (g : Group) (post : Post) (t : Tried) (inside : Bool)
    → (cond inside (stays_open g post t) (succeeds g post t)).state.started ≡ t.state.started
done-starts g post t true = refl
done-starts g post t false = refl

closes-starts : (g : Group) (post : Post) (t : Tried) (f : Option Report)
    → (closes g post t f).state.started ≡ t.state.started
closes-starts g post t None = done-starts g post t (is_buffering_inside t.state.object)
closes-starts g post t (Some report) = refl

group-starts : (r : Running) (s : State) (post : Post) (ts : List Task) → All (λ t. IsMarked true t.work) ts
    → (in_group r s post ts).state.started ≡ s.started
unfolding in_group
group-starts r s post ts all =
    let t = tried r s ts in
    closes-starts (opened s) post t t.failed ∙ tried-starts r s ts all

break-starts : (s : State) (g : Option Group) → (break_of s g).state.started ≡ s.started
break-starts s None = refl
break-starts s (Some g) = refl

first-starts : (s : State) (b : Bool) → (cond b (quietly s) (break_group s)).state.started ≡ s.started
unfolding break_group
first-starts s true = refl
first-starts s false = break-starts s s.group

pub tasks_start_nothing : (r : Running) (s : State) (post : Post) (ts : List Task) → All (λ t. IsMarked true t.work) ts
    → (atomically r s post ts).state.started ≡ s.started
unfolding atomically
tasks_start_nothing r s post ts all =
    group-starts r (opens (join_or_break s ts).state) post ts all ∙ first-starts s (joins s ts)

-- ---- its tasks are inside, and those of other commands outside

items-marked : (origin : Origin) (b : Bool) (command : Plain) (place : ℕ) (items : List Item)
    → All (λ t. IsMarked b t.work) (item_tasks origin b command place items)
items-marked origin b command place [] = All-nil (λ t. IsMarked b t.work)
items-marked origin b command place (item ∷ items) =
    All-cons (λ t. IsMarked b t.work) _ _ refl (items-marked origin b command (suc place) items)

pub plain-marked : (origin : Origin) (b : Bool) (command : Plain)
    → All (λ t. IsMarked b t.work) (plain_tasks origin b command)
plain-marked origin b command = items-marked origin b command 0 command.items

pub alert-marked : (origin : Origin) (b : Bool) (alert : AlertCmd)
    → All (λ t. IsMarked b t.work) (alert_task origin alert ∷ [])
alert-marked origin b alert = All-cons (λ t. IsMarked b t.work) _ [] tt (All-nil (λ t. IsMarked b t.work))

pub member-marked : (origin : Origin) (b : Bool) (m : Member) → All (λ t. IsMarked b t.work) (member_tasks origin b m)
member-marked origin b (member.One command) = plain-marked origin b command
member-marked origin b (member.Alert alert) = alert-marked origin b alert

pub members-marked : (origin : Origin) (b : Bool) (ms : List Member)
    → All (λ t. IsMarked b t.work) (members_tasks origin b ms)
members-marked origin b [] = All-nil (λ t. IsMarked b t.work)
members-marked origin b (m ∷ ms) =
    All-append (λ t. IsMarked b t.work) (member_tasks origin b m) (members_tasks origin b ms)
    (member-marked origin b m) (members-marked origin b ms)

pub atomic_starts_nothing : (r : Running) (origin : Origin) (s : State) (b : Block Member)
    → (run_atomic r origin s b).state.started ≡ s.started
atomic_starts_nothing r origin s b =
    tasks_start_nothing r s (container_post origin b.id b.no_resp named.Atomic) (members_tasks origin true b.members)
    (members-marked origin true b.members)
