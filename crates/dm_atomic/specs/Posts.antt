-- Which Statuses are owed, which were made, and which wait.
use Rattle.std.specs.Prelude.{◌≡◌, ◌+◌, ℕ, true, false, List, [], ◌∷◌, ◌++◌, Option, None, Some}
use Rattle.std.specs.List.{sum_by}
use Rattle.syncml_types.specs.declared.command.Member.{Member}
use Rattle.syncml_types.specs.declared.command.Block.{Block}
use Rattle.syncml_types.specs.declared.command.SeqMember.{SeqMember}
use Rattle.syncml_types.specs.declared.command.SeqMember.TheVariants as seq
use Rattle.syncml_types.specs.declared.command.Command.{Command}
use Rattle.syncml_types.specs.declared.command.Command.TheVariants as commands
use Rattle.dm_atomic.specs.declared.tasks.Origin.{Origin}
use Rattle.dm_atomic.specs.declared.tasks.Named.TheVariants as named
use Rattle.dm_atomic.specs.declared.tasks.Post.{Post}
use Rattle.dm_atomic.specs.declared.tasks.Task.{Task}
use Rattle.dm_atomic.specs.declared.reports.Report.{Report}
use Rattle.dm_atomic.specs.declared.reports.Part.{Part}
use Rattle.dm_atomic.specs.Tasks.{plain_tasks, alert_task, member_tasks, members_tasks, container_post}
use Rattle.dm_atomic.specs.Made.{Made, Status, Result, Broken}
use Rattle.dm_atomic.specs.Run.{Group}

abbrev pub task_posts : List Task → List Post
task_posts [] = []
task_posts (t ∷ ts) = t.post ∷ task_posts ts

abbrev pub atomic_posts : Origin → Block Member → List Post
atomic_posts origin b =
    container_post origin b.id b.no_resp named.Atomic ∷ task_posts (members_tasks origin true b.members)

abbrev pub member_posts : Origin → SeqMember → List Post
member_posts origin (seq.Single m) = task_posts (member_tasks origin false m)
member_posts origin (seq.Atomic b) = atomic_posts origin b

abbrev pub members_posts : Origin → List SeqMember → List Post
members_posts origin [] = []
members_posts origin (m ∷ ms) = member_posts origin m ++ members_posts origin ms

-- the steps and containers of a command, in document order
unfoldable pub asked_posts : Origin → Command → List Post
asked_posts origin (commands.Plain command) = task_posts (plain_tasks origin false command)
asked_posts origin (commands.Alert alert) = (alert_task origin alert).post ∷ []
asked_posts origin (commands.Atomic b) = atomic_posts origin b
asked_posts origin (commands.Sequence b) =
    container_post origin b.id b.no_resp named.Sequence ∷ members_posts origin b.members
asked_posts origin (commands.Status c) = []
asked_posts origin (commands.Results c) = []

abbrev pub all_asked : Origin → List Command → List Post
all_asked origin [] = []
all_asked origin (c ∷ cs) = asked_posts origin c ++ all_asked origin cs

-- what the Statuses answer that were made
abbrev pub made_posts : List Made → List Post
made_posts [] = []
made_posts (Status post code ∷ ms) = post ∷ made_posts ms
made_posts (Result post found ∷ ms) = made_posts ms
made_posts (Broken target ∷ ms) = made_posts ms

abbrev pub report_posts : List Report → List Post
report_posts [] = []
report_posts (r ∷ rs) = r.post ∷ report_posts rs

abbrev pub part_posts : List Part → List Post
part_posts [] = []
part_posts (p ∷ ps) = p.post ∷ (report_posts p.reports ++ part_posts ps)

-- what the Statuses answer that wait for the group's close
abbrev pub waiting_posts : Option Group → List Post
waiting_posts None = []
waiting_posts (Some g) = part_posts g.parts

-- each Status that was owed was made or waits, and no other: however one counts, both sides come to the same
abbrev pub NoneLost : List Post → List Made → Option Group → Option Group → Type 0
NoneLost asked made before after =
    (weight : Post → ℕ) → sum_by weight (waiting_posts before) + sum_by weight asked
    ≡ sum_by weight (made_posts made) + sum_by weight (waiting_posts after)
