-- Which nodes keep their numbers while commands are executed.
use Rattle.std.specs.Prelude.{◌≡◌, ℕ, Bool, false, List, Some, IfSome, unwrap_or}
use Rattle.std.specs.List.{list_any}
use Rattle.std.specs.FinMap.{get}
use Rattle.syncml_types.specs.declared.values.Item.{Item}
use Rattle.syncml_types.specs.declared.command.Plain.{Plain}
use Rattle.syncml_types.specs.declared.command.Member.{Member}
use Rattle.syncml_types.specs.declared.command.Member.TheVariants as member
use Rattle.syncml_types.specs.declared.command.SeqMember.{SeqMember}
use Rattle.syncml_types.specs.declared.command.SeqMember.TheVariants as seq
use Rattle.syncml_types.specs.declared.command.Command.{Command}
use Rattle.syncml_types.specs.declared.command.Command.TheVariants as commands
use Rattle.dm_tree.specs.Nodes.{Path, Ids}
use Rattle.dm_objects.specs.declared.piece.What.{What}
use Rattle.dm_objects.specs.declared.piece.What.TheVariants.{Whole, Buffered, Refused}
use Rattle.dm_commands.specs.Promises.{is_moved}
use Rattle.dm_atomic.specs.declared.tasks.Task.{Task}
use Rattle.dm_atomic.specs.declared.tasks.Work.{Work}
use Rattle.dm_atomic.specs.declared.tasks.Work.TheVariants as work
use Rattle.dm_atomic.specs.Tasks.{piece_of}
use Rattle.dm_atomic.specs.Marks.{Whole as AllOf}

-- ---- paths that a command covers: those at or below the target of a Delete or of a Replace of a name

abbrev pub item_covers : Plain → Path → Item → Bool
item_covers command p item = is_moved (piece_of false command item).step p

abbrev pub plain_covers : Path → Plain → Bool
plain_covers p command = list_any (item_covers command p) command.items

abbrev pub member_covers : Path → Member → Bool
member_covers p (member.One command) = plain_covers p command
member_covers p (member.Alert alert) = false

abbrev pub seq_member_covers : Path → SeqMember → Bool
seq_member_covers p (seq.Single m) = member_covers p m
seq_member_covers p (seq.Atomic b) = list_any (member_covers p) b.members

unfoldable pub covers : Command → Path → Bool
covers (commands.Plain command) p = plain_covers p command
covers (commands.Alert alert) p = false
covers (commands.Atomic b) p = list_any (member_covers p) b.members
covers (commands.Sequence b) p = list_any (seq_member_covers p) b.members
covers (commands.Status c) p = false
covers (commands.Results c) p = false

-- the same of tasks, and of what a piece comes to
abbrev pub work_covers : Work → Path → Bool
work_covers (work.Piece piece) p = is_moved piece.step p
work_covers (work.Alert code) p = false

abbrev pub task_covers : Path → Task → Bool
task_covers p t = work_covers t.work p

abbrev pub tasks_cover : List Task → Path → Bool
tasks_cover ts p = list_any (task_covers p) ts

abbrev pub what_covers : What → Path → Bool
what_covers (Whole step) p = is_moved step p
what_covers Buffered p = false
what_covers (Refused code) p = false

-- ---- nodes that stay

-- the node at a path has this number, in the tree and in that before an open group
pub record HasId (w : AllOf) (p : Path) (id : ℕ) : Type 0 where
  pub now : get w.ids p ≡ Some id
  pub base : IfSome w.base_ids (λ ids. get ids p ≡ Some id)

-- each such node keeps its number under its path, but those at covered paths
pub record StayBut (covered : Path → Bool) (old new : AllOf) : Type 0 where
  pub each : (p : Path) (id : ℕ) → HasId old p id → covered p ≡ false → HasId new p id

-- the numbers of the tree that counts if nothing more comes
abbrev pub committed_ids : AllOf → Ids
committed_ids w = unwrap_or w.base_ids w.ids
