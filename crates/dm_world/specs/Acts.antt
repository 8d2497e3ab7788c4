-- What the client executes of a job, the parts of a cut command joined, and what the job asks for.
use Rattle.std.specs.Prelude.{Bool, true, false, if◌then◌else◌, List, [], ◌∷◌, ◌++◌, Option, None, Some}
use Rattle.syncml_types.specs.declared.values.Item.{Item}
use Rattle.syncml_types.specs.declared.command.Step.{Step}
use Rattle.syncml_types.specs.declared.command.Plain.{Plain}
use Rattle.syncml_types.specs.declared.command.Member.{Member}
use Rattle.syncml_types.specs.declared.command.Member.TheVariants as member
use Rattle.syncml_types.specs.declared.command.SeqMember.{SeqMember}
use Rattle.syncml_types.specs.declared.command.SeqMember.TheVariants as seq_member
use Rattle.syncml_types.specs.declared.command.Command.{Command}
use Rattle.syncml_types.specs.declared.command.Command.TheVariants as command
use Rattle.dm_objects.specs.Gathering.{key_of, is_same_key}
use Rattle.dm_atomic.specs.declared.tasks.Named.{Named}
use Rattle.dm_atomic.specs.declared.tasks.Named.TheVariants as named
use Rattle.dm_atomic.specs.declared.tasks.Work.{Work}
use Rattle.dm_atomic.specs.declared.tasks.Work.TheVariants as work
use Rattle.dm_atomic.specs.Tasks.{piece_of}
use Rattle.dm_job.specs.declared.job.JobEntry.{JobEntry}
use Rattle.dm_job.specs.Sound.{all_entries}
use Rattle.dm_world.specs.Deeds.{Doing, container, step, Deed}
use Rattle.dm_world.specs.World.{InSession}

-- a container, or a step on the tree, and whether more of it comes
pub data Act : Type 0 where
  block : Named → Act
  does : Step → Bool → Act

-- ---- of commands, whatever their CmdIDs are; a job has no Alert, and an Alert is no act

abbrev pub item_act : Bool → Plain → Item → Act
item_act in_atomic c i = does (piece_of in_atomic c i).step i.more

abbrev pub item_acts : Bool → Plain → List Item → List Act
item_acts in_atomic c [] = []
item_acts in_atomic c (i ∷ is) = item_act in_atomic c i ∷ item_acts in_atomic c is

abbrev pub member_acts : Bool → Member → List Act
member_acts in_atomic (member.One c) = item_acts in_atomic c c.items
member_acts in_atomic (member.Alert a) = []

abbrev pub members_acts : Bool → List Member → List Act
members_acts in_atomic [] = []
members_acts in_atomic (m ∷ ms) = member_acts in_atomic m ++ members_acts in_atomic ms

abbrev pub seq_member_acts : SeqMember → List Act
seq_member_acts (seq_member.Single m) = member_acts false m
seq_member_acts (seq_member.Atomic b) = block named.Atomic ∷ members_acts true b.members

abbrev pub seq_members_acts : List SeqMember → List Act
seq_members_acts [] = []
seq_members_acts (m ∷ ms) = seq_member_acts m ++ seq_members_acts ms

abbrev pub command_acts : Command → List Act
command_acts (command.Plain c) = item_acts false c c.items
command_acts (command.Alert a) = []
command_acts (command.Atomic b) = block named.Atomic ∷ members_acts true b.members
command_acts (command.Sequence b) = block named.Sequence ∷ seq_members_acts b.members
command_acts (command.Status c) = []
command_acts (command.Results c) = []

abbrev pub acts : List Command → List Act
acts [] = []
acts (c ∷ cs) = command_acts c ++ acts cs

-- ---- of what was executed

abbrev pub work_acts : Work → List Act
work_acts (work.Piece p) = does p.step p.more ∷ []
work_acts (work.Alert code) = []

abbrev pub doing_acts : Doing → List Act
doing_acts (container name) = block name ∷ []
doing_acts (step w) = work_acts w

abbrev pub deeds_acts : List (InSession Deed) → List Act
deeds_acts [] = []
deeds_acts (d ∷ ds) = doing_acts d.what.doing ++ deeds_acts ds

-- ---- of the job

abbrev pub entries_acts : List JobEntry → List Act
entries_acts [] = []
entries_acts (e ∷ es) = command_acts e.command ++ entries_acts es

abbrev pub job_acts : List (List JobEntry) → List Act
job_acts packages = entries_acts (all_entries packages)

-- ---- parts joined

-- what is whole, and a step of which only parts have come
pub record Joined : Type 0 where
  pub whole : List Act
  pub part : Option Step

abbrev pub and_then : Act → Joined → Joined
and_then a j = record { whole = a ∷ j.whole; part = j.part }

abbrev pub with_more : Step → Step → Step
with_more part s = record part { value = part.value ++ s.value }

abbrev pub is_part_of : Step → Step → Bool
is_part_of part s = is_same_key (key_of part) (key_of s)

-- While a command has come in part, containers are left out: the one that stands before a later part comes again with
-- it. A part that doesn't continue the one before it leaves that one as it is, with MoreData, which nothing of a job
-- has.
abbrev pub join : Option Step → List Act → Joined
join part [] = record { whole = []; part = part }
join None (block name ∷ acts) = and_then (block name) (join None acts)
join None (does s true ∷ acts) = join (Some s) acts
join None (does s false ∷ acts) = and_then (does s false) (join None acts)
join (Some p) (block name ∷ acts) = join (Some p) acts
join (Some p) (does s true ∷ acts) =
    if is_part_of p s then join (Some (with_more p s)) acts else and_then (does p true) (join (Some s) acts)
join (Some p) (does s false ∷ acts) =
    if is_part_of p s then and_then (does (with_more p s) false) (join None acts)
    else and_then (does p true) (and_then (does s false) (join None acts))
