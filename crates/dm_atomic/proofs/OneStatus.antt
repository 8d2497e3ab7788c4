-- Each step and each container has one Status, made at once or when its group closes.
use Rattle.std.proofs.Common.{◌≡◌, ℕ, Bool, true, false, cond, List, [], ◌∷◌, ◌++◌, Option, None, Some, map, refl, sym}
use Rattle.std.proofs.Common.{◌∙◌, ap, arith, append_assoc}
use Rattle.std.specs.List.{sum_by}
use Rattle.std.proofs.lemmas.List.{append-nil}
use Rattle.std.proofs.lemmas.List.Sums.{sum_by-append}
use Rattle.syncml_types.specs.declared.command.SeqMember.{SeqMember}
use Rattle.syncml_types.specs.declared.command.SeqMember.TheVariants as seq
use Rattle.syncml_types.specs.declared.command.Command.{Command}
use Rattle.syncml_types.specs.declared.command.Command.TheVariants as commands
use Rattle.dm_objects.specs.declared.piece.What.{What}
use Rattle.dm_objects.specs.declared.piece.What.TheVariants.{Whole, Buffered, Refused}
use Rattle.dm_objects.specs.Gathering.{buffered_target, gather}
use Rattle.dm_commands.specs.Outcomes.{is_success}
use Rattle.dm_atomic.specs.declared.tasks.Origin.{Origin}
use Rattle.dm_atomic.specs.declared.tasks.Named.TheVariants as named
use Rattle.dm_atomic.specs.declared.tasks.Post.{Post}
use Rattle.dm_atomic.specs.declared.tasks.Work.{Work}
use Rattle.dm_atomic.specs.declared.tasks.Work.TheVariants as work
use Rattle.dm_atomic.specs.declared.tasks.Task.{Task}
use Rattle.dm_atomic.specs.declared.reports.Report.{Report}
use Rattle.dm_atomic.specs.Tasks.{plain_tasks, alert_task, member_tasks, members_tasks, container_post}
use Rattle.dm_atomic.specs.Made.{Made, Status, reported, notice}
use Rattle.dm_atomic.specs.Run.{State, Group, Running, Next, Ran, Tried, quietly, by_what, by_work, one_step, undone}
use Rattle.dm_atomic.specs.Run.{not_run, container, parts_done, parts_undone, broken_group, break_of, break_group}
use Rattle.dm_atomic.specs.Run.{breaks_first, one_alone, in_sequence, after_success, tried, joins, opened, opens}
use Rattle.dm_atomic.specs.Run.{with_part, stays_open, succeeds, fails, closes, in_group, join_or_break, atomically}
use Rattle.dm_atomic.specs.Run.{run_member, run_members, run_command, run_all, still, still_of}
use Rattle.dm_objects.specs.Inside.{is_buffering_inside}
use Rattle.dm_atomic.specs.Posts.{task_posts, member_posts, members_posts, asked_posts, all_asked, made_posts}
use Rattle.dm_atomic.specs.Posts.{report_posts, part_posts, waiting_posts, NoneLost}
use Rattle.dm_atomic.proofs.Counts.{made-append, made-reported, made-notice, report-append, report-undone}
use Rattle.dm_atomic.proofs.Counts.{report-not_run, made-container, made-parts_done, made-parts_undone, part-append}

-- ---- one task

-- a task answers its own post, and leaves the group
pub record Steps (s : State) (t : Task) (r : Ran) : Type 0 where
  pub post : r.report.post ≡ t.post
  pub group : r.state.group ≡ s.group

steps-what : (r : Running) (s : State) (t : Task) (broken : Option (List ℕ)) (w : What)
    → Steps s t (by_what r s t.post broken w)
steps-what r s t broken (Whole step) = record { post = refl; group = refl }
steps-what r s t broken Buffered = record { post = refl; group = refl }
steps-what r s t broken (Refused code) = record { post = refl; group = refl }

steps-work : (r : Running) (s : State) (t : Task) (w : Work) → Steps s t (by_work r s t.post w)
steps-work r s t (work.Piece piece) =
    let g = gather r.max_obj s.object piece in
    let h = steps-what r (record s { object = g.object }) t g.broken g.what in
    record { post = h.post; group = h.group }
steps-work r s t (work.Alert code) = record { post = refl; group = refl }

pub one_step-steps : (r : Running) (s : State) (t : Task) → Steps s t (one_step r s t)
unfolding one_step
one_step-steps r s t = steps-work r s t t.work

-- ---- what was owed is made or waits

both : (s : State) (a b : List Post) (n m : Next) → NoneLost a n.made s.group n.state.group
    → NoneLost b m.made n.state.group m.state.group
    → NoneLost (a ++ b) (n.made ++ m.made) s.group m.state.group
both s a b n m h k weight =
    omega (
      arith,
      h weight,
      k weight,
      sum_by-append weight a b,
      sum_by-append weight (made_posts n.made) (made_posts m.made),
      ap (sum_by weight) (made-append n.made m.made),
    )

nothing : (s : State) → NoneLost [] [] s.group s.group
nothing s weight = omega arith

break-group : (s : State) (g : Option Group) → s.group ≡ g
    → NoneLost [] (break_of s g).made s.group (break_of s g).state.group
break-group s None e weight = omega arith
break-group s (Some g) e weight =
    let made : made_posts (broken_group s g).made ≡ part_posts g.parts =
    made-notice (buffered_target s.object) (parts_undone g.parts)
    ∙ ap made_posts (sym (append-nil (parts_undone g.parts)))
    ∙ made-parts_undone g.parts [] ∙ append-nil (part_posts g.parts) in
    omega (arith, ap (λ (x : Option Group). sum_by weight (waiting_posts x)) e, ap (sum_by weight) made)

breaks : (s : State) → NoneLost [] (break_group s).made s.group (break_group s).state.group
unfolding break_group
breaks s = break-group s s.group refl

breaks-first : (s : State) (w : Work) → NoneLost [] (breaks_first s w).made s.group (breaks_first s w).state.group
breaks-first s (work.Piece piece) = breaks s
breaks-first s (work.Alert code) = nothing s

-- ---- tasks outside an Atomic

step-alone : (s : State) (t : Task) (r : Ran) → Steps s t r
    → NoneLost (t.post ∷ []) (notice r.broken ++ reported r.report) s.group r.state.group
step-alone s t r h weight =
    let made : made_posts (notice r.broken ++ reported r.report) ≡ t.post ∷ [] =
    made-notice r.broken (reported r.report) ∙ ap made_posts (sym (append-nil (reported r.report)))
    ∙ made-reported r.report [] ∙ ap (λ (x : Post). x ∷ []) h.post in
    omega (arith, ap (sum_by weight) made, ap (λ (x : Option Group). sum_by weight (waiting_posts x)) h.group)

one-alone : (r : Running) (s : State) (t : Task)
    → NoneLost (t.post ∷ []) (one_alone r s t).made s.group (one_alone r s t).state.group
one-alone r s t =
    let b = breaks_first s t.work in
    let done = one_step r b.state t in
    both s [] (t.post ∷ []) b (record { state = done.state; made = notice done.broken ++ reported done.report })
    (breaks-first s t.work) (step-alone b.state t done (one_step-steps r b.state t))

pub in-sequence : (r : Running) (s : State) (ts : List Task)
    → NoneLost (task_posts ts) (in_sequence r s ts).made s.group (in_sequence r s ts).state.group
in-sequence r s [] = nothing s
in-sequence r s (t ∷ ts) =
    let a = one_alone r s t in
    both s (t.post ∷ []) (task_posts ts) a (in_sequence r a.state ts) (one-alone r s t) (in-sequence r a.state ts)

-- ---- an Atomic

abbrev pub failed_posts : Option Report → List Task → List Post
failed_posts None unrun = []
failed_posts (Some report) unrun = report.post ∷ task_posts unrun

-- each task is done, or failed, or not run; the group stays, and no Status is made
pub record Tries (s : State) (ts : List Task) (t : Tried) : Type 0 where
  pub posts : report_posts t.done ++ failed_posts t.failed t.unrun ≡ task_posts ts
  pub notices : (more : List Made) → made_posts (t.notices ++ more) ≡ made_posts more
  pub group : t.state.group ≡ s.group

-- what was tried where its first task fails
abbrev pub failed_at : Ran → List Task → Tried
failed_at first ts =
    record { state = first.state; notices = notice first.broken; done = []; failed = Some first.report; unrun = ts }

tries-cond : (s : State) (t : Task) (ts : List Task) (first : Ran) (rest : Tried) (ok : Bool) → Steps s t first
    → Tries first.state ts rest
    → Tries s (t ∷ ts) (cond ok (after_success first rest) (failed_at first ts))
tries-cond s t ts first rest true h k = record {
  posts = ap (λ x. x ∷ (report_posts rest.done ++ failed_posts rest.failed rest.unrun)) h.post
      ∙ ap (λ x. t.post ∷ x) k.posts;
  notices = λ more. ap made_posts (append_assoc (notice first.broken) rest.notices more)
      ∙ made-notice first.broken (rest.notices ++ more) ∙ k.notices more;
  group = k.group ∙ h.group;
}
tries-cond s t ts first rest false h k = record {
  posts = ap (λ x. x ∷ task_posts ts) h.post;
  notices = made-notice first.broken;
  group = h.group;
}

pub tried-tries : (r : Running) (s : State) (ts : List Task) → Tries s ts (tried r s ts)
tried-tries r s [] = record { posts = refl; notices = λ more. refl; group = refl }
tried-tries r s (t ∷ ts) =
    let first = one_step r s t in
    tries-cond s t ts first (tried r first.state ts) (is_success first.report.code)
    (one_step-steps r s t) (tried-tries r first.state ts)

-- the group that is open, or the one that begins
opened-posts : (s : State) (g : Option Group) → s.group ≡ g → waiting_posts s.group ≡ part_posts (opened s).parts
opened-posts s None e = rw e refl
opened-posts s (Some g) e = rw e refl

with_part-posts : (g : Group) (post : Post) (t : Tried)
    → part_posts (with_part g post t).parts ≡ part_posts g.parts ++ post ∷ report_posts t.done
with_part-posts g post t =
    part-append g.parts _ ∙ ap (λ x. part_posts g.parts ++ post ∷ x) (append-nil (report_posts t.done))

done-posts : (ts : List Task) (t : Tried) (s : State) → t.failed ≡ None → Tries s ts t
    → report_posts t.done ≡ task_posts ts
done-posts ts t s f h =
    sym (append-nil (report_posts t.done)) ∙ ap (λ x. report_posts t.done ++ failed_posts x t.unrun) (sym f) ∙ h.posts

-- the lists in order: what waited, then what was asked
in-line : (s : State) (post : Post) (asked waiting got left : List Post) (made : List Made) (after : Option Group)
    → waiting_posts s.group ≡ waiting → made_posts made ≡ got → waiting_posts after ≡ left
    → got ++ left ≡ waiting ++ post ∷ asked
    → NoneLost (post ∷ asked) made s.group after
in-line s post asked waiting got left made after e m w all weight =
    omega (
      arith,
      ap (sum_by weight) e,
      ap (sum_by weight) m,
      ap (sum_by weight) w,
      ap (sum_by weight) all,
      sum_by-append weight got left,
      sum_by-append weight waiting (post ∷ asked),
    )

closes-done : (s : State) (g : Group) (post : Post) (ts : List Task) (t : Tried) (inside : Bool)
    → waiting_posts s.group ≡ part_posts g.parts → t.failed ≡ None → Tries s ts t
    → NoneLost (post ∷ task_posts ts) (cond inside (stays_open g post t) (succeeds g post t)).made s.group
    (cond inside (stays_open g post t) (succeeds g post t)).state.group
closes-done s g post ts t true e f h =
    in-line s post (task_posts ts) (part_posts g.parts) [] (part_posts g.parts ++ post ∷ task_posts ts)
    [] (Some (with_part g post t))
    e refl (with_part-posts g post t ∙ ap (λ x. part_posts g.parts ++ post ∷ x) (done-posts ts t s f h)) refl
closes-done s g post ts t false e f h =
    in-line s post (task_posts ts) (part_posts g.parts) (part_posts g.parts ++ post ∷ task_posts ts) []
    (parts_done (with_part g post t).parts) None
    e
    (ap made_posts (sym (append-nil (parts_done (with_part g post t).parts)))
    ∙ made-parts_done (with_part g post t).parts [] ∙ append-nil _
    ∙ with_part-posts g post t ∙ ap (λ x. part_posts g.parts ++ post ∷ x) (done-posts ts t s f h))
    refl (append-nil _)

failed-reports : (ts : List Task) (t : Tried) (s : State) (report : Report) → t.failed ≡ Some report → Tries s ts t
    → report_posts (map undone t.done ++ report ∷ map not_run t.unrun) ≡ task_posts ts
failed-reports ts t s report f h =
    report-append (map undone t.done) (report ∷ map not_run t.unrun)
    ∙ ap (λ x. x ++ report.post ∷ report_posts (map not_run t.unrun)) (report-undone t.done)
    ∙ ap (λ x. report_posts t.done ++ report.post ∷ x) (report-not_run t.unrun)
    ∙ ap (λ x. report_posts t.done ++ failed_posts x t.unrun) (sym f)
    ∙ h.posts

closes-failed : (s : State) (g : Group) (post : Post) (ts : List Task) (t : Tried) (report : Report)
    → waiting_posts s.group ≡ part_posts g.parts → t.failed ≡ Some report → Tries s ts t
    → NoneLost (post ∷ task_posts ts) (fails g post t report).made s.group (fails g post t report).state.group
closes-failed s g post ts t report e f h =
    let reports = map undone t.done ++ report ∷ map not_run t.unrun in
    in-line s post (task_posts ts) (part_posts g.parts) (part_posts g.parts ++ post ∷ task_posts ts) []
    (fails g post t report).made None
    e
    (made-parts_undone g.parts (container post 507 reports)
    ∙ ap (λ x. part_posts g.parts ++ made_posts x) (sym (append-nil (container post 507 reports)))
    ∙ ap (λ x. part_posts g.parts ++ x) (made-container post 507 reports [])
    ∙ ap (λ x. part_posts g.parts ++ post ∷ x) (append-nil (report_posts reports))
    ∙ ap (λ x. part_posts g.parts ++ post ∷ x) (failed-reports ts t s report f h))
    refl (append-nil _)

closes-all : (s : State) (g : Group) (post : Post) (ts : List Task) (t : Tried) (f : Option Report)
    → waiting_posts s.group ≡ part_posts g.parts → t.failed ≡ f → Tries s ts t
    → NoneLost (post ∷ task_posts ts) (closes g post t f).made s.group (closes g post t f).state.group
closes-all s g post ts t None e f h = closes-done s g post ts t (is_buffering_inside t.state.object) e f h
closes-all s g post ts t (Some report) e f h = closes-failed s g post ts t report e f h

-- notices don't count
noticed : (s : State) (a : List Post) (t : List Made) (n : Next)
    → ((more : List Made) → made_posts (t ++ more) ≡ made_posts more)
    → NoneLost a n.made s.group n.state.group → NoneLost a (t ++ n.made) s.group n.state.group
noticed s a t n e h weight = omega (arith, h weight, ap (sum_by weight) (e n.made))

pub in-group : (r : Running) (s : State) (post : Post) (ts : List Task)
    → NoneLost (post ∷ task_posts ts) (in_group r s post ts).made s.group (in_group r s post ts).state.group
unfolding in_group
in-group r s post ts =
    let t = tried r s ts in
    let h = tried-tries r s ts in
    noticed s (post ∷ task_posts ts) t.notices (closes (opened s) post t t.failed) h.notices
    (closes-all s (opened s) post ts t t.failed (opened-posts s s.group refl) refl h)

-- a group that begins has no parts
before-opens : (s : State) (a : List Post) (made : List Made) (after : Option Group)
    → NoneLost a made (opens s).group after
    → NoneLost a made s.group after
before-opens s a made after h weight = omega (arith, h weight, ap (sum_by weight) (opened-posts s s.group refl))

joins-or-breaks : (s : State) (b : Bool)
    → NoneLost [] (cond b (quietly s) (break_group s)).made s.group (cond b (quietly s) (break_group s)).state.group
joins-or-breaks s true = nothing s
joins-or-breaks s false = breaks s

pub atomically-all : (r : Running) (s : State) (post : Post) (ts : List Task)
    → NoneLost (post ∷ task_posts ts) (atomically r s post ts).made s.group (atomically r s post ts).state.group
unfolding atomically
atomically-all r s post ts =
    let b = join_or_break s ts in
    let w = in_group r (opens b.state) post ts in
    both s [] (post ∷ task_posts ts) b w (joins-or-breaks s (joins s ts))
    (before-opens b.state (post ∷ task_posts ts) w.made w.state.group (in-group r (opens b.state) post ts))

-- ---- commands

run-member : (r : Running) (origin : Origin) (s : State) (m : SeqMember)
    → NoneLost (member_posts origin m) (run_member r origin s m).made s.group (run_member r origin s m).state.group
run-member r origin s (seq.Single m) = in-sequence r s (member_tasks origin false m)
run-member r origin s (seq.Atomic b) =
    atomically-all r s (container_post origin b.id b.no_resp named.Atomic) (members_tasks origin true b.members)

run-members : (r : Running) (origin : Origin) (s : State) (ms : List SeqMember)
    → NoneLost (members_posts origin ms) (run_members r origin s ms).made s.group
    (run_members r origin s ms).state.group
run-members r origin s [] = nothing s
run-members r origin s (m ∷ ms) =
    let a = run_member r origin s m in
    both s (member_posts origin m) (members_posts origin ms) a (run_members r origin a.state ms)
    (run-member r origin s m) (run-members r origin a.state ms)

begins-with : (s : State) (p : Post) (code : ℕ) (a : List Post) (n : Next) → NoneLost a n.made s.group n.state.group
    → NoneLost (p ∷ a) (Status p code ∷ n.made) s.group n.state.group
begins-with s p code a n h weight =
    omega (arith, h weight, sum_by-append weight (p ∷ []) a, sum_by-append weight (p ∷ []) (made_posts n.made))

pub run-command : (r : Running) (origin : Origin) (s : State) (c : Command)
    → NoneLost (asked_posts origin c) (run_command r origin s c).made s.group (run_command r origin s c).state.group
unfolding run_command asked_posts
run-command r origin s (commands.Plain command) = in-sequence r s (plain_tasks origin false command)
run-command r origin s (commands.Alert alert) = in-sequence r s (alert_task origin alert ∷ [])
run-command r origin s (commands.Atomic b) =
    atomically-all r s (container_post origin b.id b.no_resp named.Atomic) (members_tasks origin true b.members)
run-command r origin s (commands.Sequence b) =
    begins-with s (container_post origin b.id b.no_resp named.Sequence) 200 (members_posts origin b.members)
    (run_members r origin s b.members) (run-members r origin s b.members)
run-command r origin s (commands.Status c) = nothing s
run-command r origin s (commands.Results c) = nothing s

pub none_lost : (r : Running) (origin : Origin) (s : State) (cs : List Command)
    → NoneLost (all_asked origin cs) (run_all r origin s cs).made s.group (run_all r origin s cs).state.group
none_lost r origin s [] = nothing s
none_lost r origin s (c ∷ cs) =
    let a = run_command r origin s c in
    both s (asked_posts origin c) (all_asked origin cs) a (run_all r origin a.state cs)
    (run-command r origin s c) (none_lost r origin a.state cs)

still-all : (s : State) (g : Option Group) → s.group ≡ g
    → NoneLost [] (still_of s g).made s.group (still_of s g).state.group
still-all s None e weight =
    omega (
      arith,
      ap (sum_by weight) (ap made_posts (sym (append-nil (notice (buffered_target s.object))))
          ∙ made-notice (buffered_target s.object) []),
    )
still-all s (Some g) e weight = break-group s (Some g) e weight

pub none_lost_in_quiet : (s : State) → NoneLost [] (still s).made s.group (still s).state.group
unfolding still
none_lost_in_quiet s = still-all s s.group refl
