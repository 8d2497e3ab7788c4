-- What a client executes of a message: its containers and its steps, in document order.
use Rattle.std.specs.Prelude.{true, false, List, [], ◌∷◌, ◌++◌}
use Rattle.syncml_types.specs.declared.command.Member.{Member}
use Rattle.syncml_types.specs.declared.command.Block.{Block}
use Rattle.syncml_types.specs.declared.command.SeqMember.{SeqMember}
use Rattle.syncml_types.specs.declared.command.SeqMember.TheVariants as seq_member
use Rattle.syncml_types.specs.declared.command.Command.{Command}
use Rattle.syncml_types.specs.declared.command.Command.TheVariants as command
use Rattle.dm_atomic.specs.declared.tasks.Named.{Named}
use Rattle.dm_atomic.specs.declared.tasks.Named.TheVariants as named
use Rattle.dm_atomic.specs.declared.tasks.Origin.{Origin}
use Rattle.dm_atomic.specs.declared.tasks.Post.{Post}
use Rattle.dm_atomic.specs.declared.tasks.Task.{Task}
use Rattle.dm_atomic.specs.declared.tasks.Work.{Work}
use Rattle.dm_atomic.specs.Tasks.{plain_tasks, alert_task, member_tasks, members_tasks, container_post}

-- a container of this name, or a step
pub data Doing : Type 0 where
  container : Named → Doing
  step : Work → Doing

-- what was executed, and what its Status answers
pub record Deed : Type 0 where
  pub post : Post
  pub doing : Doing

abbrev pub step_deed : Task → Deed
step_deed t = record { post = t.post; doing = step t.work }

abbrev pub step_deeds : List Task → List Deed
step_deeds [] = []
step_deeds (t ∷ ts) = step_deed t ∷ step_deeds ts

abbrev pub atomic_deeds : Origin → Block Member → List Deed
atomic_deeds origin b =
    record { post = container_post origin b.id b.no_resp named.Atomic; doing = container named.Atomic }
    ∷ step_deeds (members_tasks origin true b.members)

abbrev pub member_deeds : Origin → SeqMember → List Deed
member_deeds origin (seq_member.Single m) = step_deeds (member_tasks origin false m)
member_deeds origin (seq_member.Atomic b) = atomic_deeds origin b

abbrev pub members_deeds : Origin → List SeqMember → List Deed
members_deeds origin [] = []
members_deeds origin (m ∷ ms) = member_deeds origin m ++ members_deeds origin ms

abbrev pub command_deeds : Origin → Command → List Deed
command_deeds origin (command.Plain c) = step_deeds (plain_tasks origin false c)
command_deeds origin (command.Alert a) = step_deed (alert_task origin a) ∷ []
command_deeds origin (command.Atomic b) = atomic_deeds origin b
command_deeds origin (command.Sequence b) =
    record { post = container_post origin b.id b.no_resp named.Sequence; doing = container named.Sequence }
    ∷ members_deeds origin b.members
command_deeds origin (command.Status c) = []
command_deeds origin (command.Results c) = []

abbrev pub all_deeds : Origin → List Command → List Deed
all_deeds origin [] = []
all_deeds origin (c ∷ cs) = command_deeds origin c ++ all_deeds origin cs
