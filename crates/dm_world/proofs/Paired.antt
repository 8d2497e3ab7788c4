-- Where a value is made, a Status is made with it for the same step.
use Rattle.std.proofs.Common.{zero, suc, ◌≡◌, ℕ, true, false, cond, List, [], ◌∷◌, ◌++◌, map, Option, None}
use Rattle.std.proofs.Common.{Some, sym, ap, subst, arith, ◌⊎◌, inl, inr}
use Rattle.std.specs.Prelude.{slice_get}
use Rattle.std.specs.List.{Contains}
use Rattle.std.proofs.lemmas.List.Elements.{Contains-append_left, Contains-append_right, Contains-append_cases}
use Rattle.syncml_types.specs.declared.command.Block.{Block}
use Rattle.syncml_types.specs.declared.command.Member.{Member}
use Rattle.syncml_types.specs.declared.command.SeqMember.{SeqMember}
use Rattle.syncml_types.specs.declared.command.SeqMember.TheVariants as seq
use Rattle.syncml_types.specs.declared.command.Command.{Command}
use Rattle.syncml_types.specs.declared.command.Command.TheVariants as command
use Rattle.syncml_types.specs.Message.{Parts}
use Rattle.dm_auth.specs.declared.accounts.Account.{Account}
use Rattle.dm_headers.specs.Standings.{Heard}
use Rattle.dm_objects.specs.Inside.{is_buffering_inside}
use Rattle.dm_objects.specs.Gathering.{buffered_target}
use Rattle.dm_commands.specs.declared.outcome.Found.{Found}
use Rattle.dm_commands.specs.Outcomes.{is_success}
use Rattle.dm_atomic.specs.declared.tasks.Named.TheVariants as named
use Rattle.dm_atomic.specs.declared.tasks.Origin.{Origin}
use Rattle.dm_atomic.specs.declared.tasks.Post.{Post}
use Rattle.dm_atomic.specs.declared.tasks.Task.{Task}
use Rattle.dm_atomic.specs.declared.tasks.Work.{Work}
use Rattle.dm_atomic.specs.declared.tasks.Work.TheVariants as work
use Rattle.dm_atomic.specs.declared.reports.Part.{Part}
use Rattle.dm_atomic.specs.declared.reports.Report.{Report}
use Rattle.dm_atomic.specs.Tasks.{plain_tasks, alert_task, member_tasks, members_tasks, container_post}
use Rattle.dm_atomic.specs.Made.{Made, Status, Result, Broken, reported, all_reported, notice}
use Rattle.dm_atomic.specs.Run.{Group, State, Running, Next, quietly, one_step, undone, not_run, container, parts_done}
use Rattle.dm_atomic.specs.Run.{parts_undone, broken_group, break_of, break_group, breaks_first, one_alone, in_sequence}
use Rattle.dm_atomic.specs.Run.{Tried, tried, after_success, opened, with_part, stays_open, succeeds}
use Rattle.dm_atomic.specs.Run.{closes, in_group, joins, join_or_break, atomically, run_atomic, run_member, run_members}
use Rattle.dm_atomic.specs.Run.{run_command, run_all, still_of, still}
use Rattle.dm_atomic.specs.Run.{opens as opens_group}
use Rattle.dm_machine.specs.declared.progress.Progress.{Progress}
use Rattle.dm_machine.specs.Machine.{Session, Machine}
use Rattle.dm_machine.specs.Messages.{running_for, is_quiet, quiet_after, execute}
use Rattle.dm_machine.specs.Statuses.{is_executed, executed}
use Rattle.dm_service.proofs.Codes.{first_in, later_in}
use Rattle.dm_job.specs.declared.job.Job.{Job}
use Rattle.dm_machine.specs.Events as client
use Rattle.dm_world.specs.World.{InSession, World, Reply, Happening, opens, up_comes, down_comes, update_ends}
use Rattle.dm_world.specs.World.{clock_moves}
use Rattle.dm_world.specs.World.{is_lost, finds_no_memory, each_in_session, heard_by, made_in, made_by, down_delivered}
use Rattle.dm_world.specs.World.{up_delivered, happens, run}
use Rattle.dm_world.specs.Start.{at_start}
use Rattle.dm_world.proofs.Lists.{either}
use Rattle.dm_world.proofs.SaysMade.{contains-map}
use Rattle.dm_ends.specs.Commands.{origin_of}

-- ---- lists of what is made

-- a Status for this step is among them
pub record HasStatus (ms : List Made) (p : Post) : Type 0 where
  pub code : ℕ
  pub within : Contains ms (Status p code)

-- for each value that is among them
abbrev pub IsPaired : List Made → Type 0
IsPaired ms = (p : Post) (f : Found) → Contains ms (Result p f) → HasStatus ms p

none-paired : IsPaired []
none-paired p f (k, low, at) = absurd (omega (arith, low))

append-paired : (a b : List Made) → IsPaired a → IsPaired b → IsPaired (a ++ b)
append-paired a b h k p f c = by (Contains-append_cases a b (Result p f) c)
  where
    by : Contains a (Result p f) ⊎ Contains b (Result p f) → HasStatus (a ++ b) p
    by (inl x) = let s = h p f x in record { code = s.code; within = Contains-append_left a b _ s.within }
    by (inr x) = let s = k p f x in record { code = s.code; within = Contains-append_right a b _ s.within }

status-paired : (q : Post) (code : ℕ) (ms : List Made) → IsPaired ms → IsPaired (Status q code ∷ ms)
status-paired q code ms h p f (zero, low, at) = absurd (cc)
status-paired q code ms h p f (suc k, low, at) =
    let s = h p f (k, omega (arith, low), at) in
    record { code = s.code; within = later_in (Status p s.code) (Status q code) ms s.within }

broken-paired : (target : List ℕ) (ms : List Made) → IsPaired ms → IsPaired (Broken target ∷ ms)
broken-paired target ms h p f (zero, low, at) = absurd (cc)
broken-paired target ms h p f (suc k, low, at) =
    let s = h p f (k, omega (arith, low), at) in
    record { code = s.code; within = later_in (Status p s.code) (Broken target) ms s.within }

-- ---- reports

results-post : (q : Post) (fs : List Found) (p : Post) (f : Found) → Contains (map (Result q) fs) (Result p f) → q ≡ p
results-post q [] p f (k, low, at) = absurd (omega (arith, low))
results-post q (x ∷ xs) p f (zero, low, at) = cc
results-post q (x ∷ xs) p f (suc k, low, at) = results-post q xs p f (k, omega (arith, low), at)

reported-paired : (r : Report) → IsPaired (reported r)
reported-paired r p f (zero, low, at) = absurd (cc)
reported-paired r p f (suc k, low, at) =
    let same = results-post r.post r.found p f (k, omega (arith, low), at) in
    subst (HasStatus (reported r)) same
    (record { code = r.code; within = first_in (Status r.post r.code) (map (Result r.post) r.found) })

all-paired : (rs : List Report) → IsPaired (all_reported rs)
all-paired [] = none-paired
all-paired (r ∷ rs) = append-paired (reported r) (all_reported rs) (reported-paired r) (all-paired rs)

notice-paired : (o : Option (List ℕ)) → IsPaired (notice o)
notice-paired None = none-paired
notice-paired (Some target) = broken-paired target [] none-paired

container-paired : (post : Post) (code : ℕ) (rs : List Report) → IsPaired (container post code rs)
container-paired post code rs = status-paired post code (all_reported rs) (all-paired rs)

done-paired : (ps : List Part) → IsPaired (parts_done ps)
done-paired [] = none-paired
done-paired (p ∷ ps) =
    append-paired (container p.post 200 p.reports) (parts_done ps) (container-paired p.post 200 p.reports)
    (done-paired ps)

undone-paired : (ps : List Part) → IsPaired (parts_undone ps)
undone-paired [] = none-paired
undone-paired (p ∷ ps) =
    append-paired (container p.post 507 (map undone p.reports)) (parts_undone ps)
    (container-paired p.post 507 (map undone p.reports)) (undone-paired ps)

-- ---- what a machine runs

group-paired : (s : State) (g : Group) → IsPaired (broken_group s g).made
group-paired s g =
    append-paired (notice (buffered_target s.object)) (parts_undone g.parts)
    (notice-paired (buffered_target s.object)) (undone-paired g.parts)

of-paired : (s : State) (g : Option Group) → IsPaired (break_of s g).made
of-paired s None = none-paired
of-paired s (Some g) = group-paired s g

break-paired : (s : State) → IsPaired (break_group s).made
unfolding break_group
break-paired s = of-paired s s.group

first-paired : (s : State) (w : Work) → IsPaired (breaks_first s w).made
first-paired s (work.Piece piece) = break-paired s
first-paired s (work.Alert code) = none-paired

alone-paired : (r : Running) (s : State) (t : Task) → IsPaired (one_alone r s t).made
alone-paired r s t =
    let broken = breaks_first s t.work in
    let done = one_step r broken.state t in
    append-paired broken.made (notice done.broken ++ reported done.report) (first-paired s t.work)
    (append-paired (notice done.broken) (reported done.report) (notice-paired done.broken)
    (reported-paired done.report))

sequence-paired : (r : Running) (s : State) (ts : List Task) → IsPaired (in_sequence r s ts).made
sequence-paired r s [] = none-paired
sequence-paired r s (t ∷ ts) =
    let first = one_alone r s t in
    append-paired first.made (in_sequence r first.state ts).made (alone-paired r s t)
    (sequence-paired r first.state ts)

tried-paired : (r : Running) (s : State) (ts : List Task) → IsPaired (tried r s ts).notices
tried-paired r s [] = none-paired
tried-paired r s (t ∷ ts) =
    let first = one_step r s t in
    let rest = tried r first.state ts in
    either (λ (x : Tried). IsPaired x.notices) (is_success first.report.code) {x = after_success first rest}
    {y = record {
      state = first.state;
      notices = notice first.broken;
      done = [];
      failed = Some first.report;
      unrun = ts;
    }}
    (append-paired (notice first.broken) rest.notices (notice-paired first.broken) (tried-paired r first.state ts))
    (notice-paired first.broken)

closes-paired : (g : Group) (post : Post) (t : Tried) (o : Option Report) → IsPaired (closes g post t o).made
closes-paired g post t (Some report) =
    let rs = map undone t.done ++ report ∷ map not_run t.unrun in
    append-paired (parts_undone g.parts) (container post 507 rs) (undone-paired g.parts) (container-paired post 507 rs)
closes-paired g post t None =
    either (λ (x : Next). IsPaired x.made) (is_buffering_inside t.state.object) {x = stays_open g post t}
    {y = succeeds g post t} none-paired (done-paired (with_part g post t).parts)

in-paired : (r : Running) (s : State) (post : Post) (ts : List Task) → IsPaired (in_group r s post ts).made
unfolding in_group
in-paired r s post ts =
    let t = tried r s ts in
    append-paired t.notices (closes (opened s) post t t.failed).made (tried-paired r s ts)
    (closes-paired (opened s) post t t.failed)

join-paired : (s : State) (ts : List Task) → IsPaired (join_or_break s ts).made
join-paired s ts =
    either (λ (x : Next). IsPaired x.made) (joins s ts) {x = quietly s} {y = break_group s} none-paired (break-paired s)

atomically-paired : (r : Running) (s : State) (post : Post) (ts : List Task) → IsPaired (atomically r s post ts).made
unfolding atomically
atomically-paired r s post ts =
    let b = join_or_break s ts in
    append-paired b.made (in_group r (opens_group b.state) post ts).made (join-paired s ts)
    (in-paired r (opens_group b.state) post ts)

atomic-paired : (r : Running) (o : Origin) (s : State) (b : Block Member) → IsPaired (run_atomic r o s b).made
atomic-paired r o s b =
    atomically-paired r s (container_post o b.id b.no_resp named.Atomic) (members_tasks o true b.members)

member-paired : (r : Running) (o : Origin) (s : State) (m : SeqMember) → IsPaired (run_member r o s m).made
member-paired r o s (seq.Single m) = sequence-paired r s (member_tasks o false m)
member-paired r o s (seq.Atomic b) = atomic-paired r o s b

members-paired : (r : Running) (o : Origin) (s : State) (ms : List SeqMember) → IsPaired (run_members r o s ms).made
members-paired r o s [] = none-paired
members-paired r o s (m ∷ ms) =
    let first = run_member r o s m in
    append-paired first.made (run_members r o first.state ms).made (member-paired r o s m)
    (members-paired r o first.state ms)

command-paired : (r : Running) (o : Origin) (s : State) (c : Command) → IsPaired (run_command r o s c).made
unfolding run_command
command-paired r o s (command.Plain p) = sequence-paired r s (plain_tasks o false p)
command-paired r o s (command.Alert a) = sequence-paired r s (alert_task o a ∷ [])
command-paired r o s (command.Atomic b) = atomic-paired r o s b
command-paired r o s (command.Sequence b) =
    status-paired (container_post o b.id b.no_resp named.Sequence) 200 (run_members r o s b.members).made
    (members-paired r o s b.members)
command-paired r o s (command.Status c) = none-paired
command-paired r o s (command.Results c) = none-paired

commands-paired : (r : Running) (o : Origin) (s : State) (cs : List Command) → IsPaired (run_all r o s cs).made
commands-paired r o s [] = none-paired
commands-paired r o s (c ∷ cs) =
    let first = run_command r o s c in
    append-paired first.made (run_all r o first.state cs).made (command-paired r o s c)
    (commands-paired r o first.state cs)

still-paired : (s : State) (g : Option Group) → IsPaired (still_of s g).made
still-paired s None = notice-paired (buffered_target s.object)
still-paired s (Some g) = group-paired s g

quiet-paired : (m : Parts) (run : Next) → IsPaired run.made → IsPaired (quiet_after m run).made
unfolding still
quiet-paired m run h =
    let s = cond (is_quiet m) (still run.state) (quietly run.state) in
    append-paired run.made s.made h
    (either (λ (x : Next). IsPaired x.made) (is_quiet m) {x = still run.state} {y = quietly run.state}
    (still-paired run.state run.state.group) none-paired)

execute-paired : (c : Machine) (a : Account) (m : Parts) → IsPaired (execute c a m).made
unfolding execute
execute-paired c a m =
    quiet-paired m (run_all (running_for c a) (origin_of m) c.engine m.body)
    (commands-paired (running_for c a) (origin_of m) c.engine m.body)

-- of a message that the client takes
pub executed-paired : (c : Machine) (p : Progress) (m : Parts) (h : Heard) → IsPaired (executed c p m h).made
executed-paired c p m h =
    either (λ (x : Next). IsPaired x.made) (is_executed p m h) {x = execute c h.account m} {y = quietly c.engine}
    (execute-paired c h.account m) none-paired

-- ---- in the world

-- for each value that was made in a session a Status was made in it, for the same step
abbrev pub PairedIn : List (InSession Made) → Type 0
PairedIn made = (n : ℕ) (p : Post) (f : Found) → Contains made (record { session = n; what = Result p f })
    → (code : ℕ) × Contains made (record { session = n; what = Status p code })

in-append : (a b : List (InSession Made)) → PairedIn a → PairedIn b → PairedIn (a ++ b)
in-append a b h k n p f c = by (Contains-append_cases a b _ c)
  where
    by : Contains a (record { session = n; what = Result p f }) ⊎ Contains b (record { session = n; what = Result p f })
        → (code : ℕ) × Contains (a ++ b) (record { session = n; what = Status p code })
    by (inl x) = let s = h n p f x in (s.0, Contains-append_left a b _ s.1)
    by (inr x) = let s = k n p f x in (s.0, Contains-append_right a b _ s.1)

none-in : PairedIn []
none-in n p f (k, low, at) = absurd (omega (arith, low))

-- what stands in a session's list
pub of-session : (k : ℕ) (ms : List Made) (x : InSession Made) → Contains (each_in_session k ms) x
    → (x.session ≡ k) × Contains ms x.what
of-session k [] x (i, low, at) = absurd (omega (arith, low))
of-session k (m ∷ ms) x (zero, low, at) =
    (sym (ap (λ (z : InSession Made). z.session) at), (zero, omega arith, ap (λ (z : InSession Made). z.what) at))
of-session k (m ∷ ms) x (suc i, low, at) =
    let h = of-session k ms x (i, omega (arith, low), at) in (h.0, later_in x.what m ms h.1)

in-paired-session : (k : ℕ) (ms : List Made) → IsPaired ms → PairedIn (each_in_session k ms)
in-paired-session k ms h n p f c =
    let x = of-session k ms (record { session = n; what = Result p f }) c in
    let s = h p f x.1 in (
      s.code,
      subst (λ i. Contains (each_in_session k ms) (record { session = i; what = Status p s.code })) (sym x.0)
          (contains-map (λ (z : Made). record { session = k; what = z }) ms (Status p s.code) s.within),
    )

by-paired : (c : Machine) (o : Option Session) (m : Parts) (nonce : List ℕ) → PairedIn (made_by c o m nonce)
by-paired c None m nonce = none-in
by-paired c (Some s) m nonce =
    either PairedIn (client.takes_message (Some s) m) {x = made_in c s.progress m nonce} {y = []}
    (in-paired-session s.progress.number (executed c s.progress m (heard_by c s.progress m nonce)).made
    (executed-paired c s.progress m (heard_by c s.progress m nonce))) none-in

abbrev Pairs : World → Type 0
Pairs w = PairedIn w.made

down-pairs : (w : World) (o : Option Reply) (nonce : List ℕ) → Pairs w → Pairs (down_delivered w o nonce)
down-pairs w None nonce h = h
down-pairs w (Some d) nonce h =
    in-append w.made (made_by w.client w.client.session d.message nonce) h
    (by-paired w.client w.client.session d.message nonce)

up-pairs : (w : World) (o : Option Parts) (nonce : List ℕ) → Pairs w → Pairs (up_delivered w o nonce)
up-pairs w None nonce h = h
up-pairs w (Some m) nonce h = h

happens-pairs : (w : World) (e : Happening) → Pairs w → Pairs (happens w e)
unfolding happens
happens-pairs w (opens account kind n) h = h
happens-pairs w (up_comes k nonce) h = up-pairs w (slice_get w.ups k) nonce h
happens-pairs w (down_comes k nonce) h = down-pairs w (slice_get w.downs k) nonce h
happens-pairs w (update_ends ok) h = h
happens-pairs w (clock_moves stamp) h = h
happens-pairs w is_lost h = h
happens-pairs w finds_no_memory h = h

run-pairs : (w : World) (es : List Happening) → Pairs w → Pairs (run w es)
run-pairs w [] h = h
run-pairs w (e ∷ es) h = run-pairs (happens w e) es (happens-pairs w e h)

pub all-pairs : (c : Machine) (job : Job) (hs : List Happening) → PairedIn (run (at_start c job) hs).made
all-pairs c job hs = run-pairs (at_start c job) hs none-in
