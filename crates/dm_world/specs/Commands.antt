-- What became of commands: what went out as a command of the job, and what the client executed, made, found and said of
-- it.
use Rattle.std.specs.Prelude.{◌≡◌, ◌<◌, ◌+◌, ℕ, Bool, true, false, not, List, [], ◌∷◌, ◌++◌, map, slice_get, Option}
use Rattle.std.specs.Prelude.{Some, None, option_and_then}
use Rattle.std.specs.List.{AllByRecursion, Contains}
use Rattle.syncml_types.specs.declared.values.Meta.{Meta}
use Rattle.syncml_types.specs.declared.values.Item.{Item}
use Rattle.syncml_types.specs.declared.command.ResultsCmd.{ResultsCmd}
use Rattle.syncml_types.specs.declared.command.StatusCmd.{StatusCmd}
use Rattle.syncml_types.specs.declared.command.Command.{Command}
use Rattle.syncml_types.specs.declared.command.Command.TheVariants as command
use Rattle.syncml_types.specs.Message.{Parts}
use Rattle.syncml_parts.specs.Packing.{bytes_in}
use Rattle.dm_atomic.specs.declared.tasks.Post.{Post}
use Rattle.dm_commands.specs.declared.outcome.Found.{Found}
use Rattle.dm_atomic.specs.Made.{Made, Status, Result}
use Rattle.dm_ends.specs.Commands.{session_of, origin_of}
use Rattle.dm_job.specs.declared.job.Job.{Job}
use Rattle.dm_job.specs.declared.job.JobEntry.{JobEntry}
use Rattle.dm_job.specs.Sound.{all_entries}
use Rattle.dm_machine.specs.Machine.{Machine}
use Rattle.dm_service.specs.declared.sent.Sent.{Sent}
use Rattle.dm_service.specs.Service.{Session}
use Rattle.dm_world.specs.Acts.{Act, block, does, command_acts, doing_acts}
use Rattle.dm_world.specs.Deeds.{Deed, all_deeds}
use Rattle.dm_world.specs.World.{Reply, InSession, World, Happening, run}
use Rattle.dm_world.specs.Start.{at_start, IsWorldStart, IsSchedule}

-- ---- what the client made and found

-- a Status with this code was made by the client in this session, for what stood in a message under these two numbers
pub record WasMade (made : List (InSession Made)) (session msg command code : ℕ) : Type 0 where
  pub post : Post
  pub within : Contains made (record { session = session; what = Status post code })
  pub msg_is : post.msg ≡ msg
  pub command_is : post.command ≡ command

-- so was each Status that the client sent for a command, in the session of its message
abbrev pub SaysWhatItMade : World → Type 0
SaysWhatItMade w = (k : ℕ) (m : Parts) (n : ℕ) (status : StatusCmd) → slice_get w.ups k ≡ Some m
    → session_of m ≡ Some n
    → Contains m.body (command.Status status)
    → 0 < status.cmd_ref
    → WasMade w.made n status.msg_ref status.cmd_ref status.code

abbrev pub SaysTheMade : Type 0
SaysTheMade = (c : Machine) (job : Job) (hs : List Happening) → IsWorldStart c job → IsSchedule c hs
    → SaysWhatItMade (run (at_start c job) hs)

-- an Item of Results tells of a value that was found: its URI, Format and Type, and its bytes or a part of them
pub record IsPartOf (found : Found) (item : Item) : Type 0 where
  pub source : item.source ≡ Some (record { uri = found.uri; name = None })
  pub format : option_and_then (λ (m : Meta). m.format) item.meta ≡ Some found.format
  pub media : option_and_then (λ (m : Meta). m.media) item.meta ≡ found.media
  pub before : List ℕ
  pub behind : List ℕ
  pub bytes : before ++ bytes_in item.value ++ behind ≡ bytes_in found.value

-- Results with these numbers and Items tell of one value that the client found in this session, for what stood in a
-- message under these two numbers
pub record WasFound (made : List (InSession Made)) (session : ℕ) (msg : Option ℕ) (cmd : ℕ) (items : List Item)
    : Type 0 where
  pub post : Post
  pub found : Found
  pub within : Contains made (record { session = session; what = Result post found })
  pub msg_is : msg ≡ Some post.msg
  pub command_is : cmd ≡ post.command
  pub item : Item
  pub only : items ≡ item ∷ []
  pub part : IsPartOf found item

-- so do all Results that the client sent, in the session of their message
abbrev pub SaysWhatItFound : World → Type 0
SaysWhatItFound w = (k : ℕ) (m : Parts) (n : ℕ) (results : ResultsCmd) → slice_get w.ups k ≡ Some m
    → session_of m ≡ Some n
    → Contains m.body (command.Results results)
    → WasFound w.made n results.msg_ref results.cmd_ref results.items

abbrev pub SaysTheFound : Type 0
SaysTheFound = (c : Machine) (job : Job) (hs : List Happening) → IsWorldStart c job → IsSchedule c hs
    → SaysWhatItFound (run (at_start c job) hs)

-- something was executed in this session, that stood in a message under these two numbers
pub record WasExecuted (executed : List (InSession Deed)) (session msg command : ℕ) : Type 0 where
  pub deed : Deed
  pub within : Contains executed (record { session = session; what = deed })
  pub msg_is : deed.post.msg ≡ msg
  pub command_is : deed.post.command ≡ command

-- each Status that was made answers something that was executed
abbrev pub AnswersTheExecuted : Type 0
AnswersTheExecuted = (c : Machine) (job : Job) (hs : List Happening) (n msg cmd code : ℕ) → IsWorldStart c job
    → IsSchedule c hs
    → WasMade (run (at_start c job) hs).made n msg cmd code
    → WasExecuted (run (at_start c job) hs).executed n msg cmd

-- and what was executed stands in a message of that session that the server sent
pub record StandsInMessage (downs : List Reply) (x : InSession Deed) : Type 0 where
  pub at : ℕ
  pub reply : Reply
  pub was_sent : slice_get downs at ≡ Some reply
  pub session_is : session_of reply.message ≡ Some x.session
  pub within : Contains (all_deeds (origin_of reply.message) reply.message.body) x.what

abbrev pub ExecutesTheSent : Type 0
ExecutesTheSent = (c : Machine) (job : Job) (hs : List Happening) (x : InSession Deed) → IsWorldStart c job
    → IsSchedule c hs
    → Contains (run (at_start c job) hs).executed x
    → StandsInMessage (run (at_start c job) hs).downs x

-- ---- what a CmdID stands for

-- a container, or a step without its value, of which a part may have gone out
abbrev pub outline : Act → Act
outline (block name) = block name
outline (does s more) = does (record s { value = [] }) false

-- none of a step comes later
abbrev pub is_whole_act : Act → Bool
is_whole_act (block name) = true
is_whole_act (does s more) = not more

abbrev pub IsWholeDeed : Deed → Type 0
IsWholeDeed d = AllByRecursion (λ a. is_whole_act a ≡ true) (doing_acts d.doing)

abbrev pub outlines : Command → List Act
outlines c = map outline (command_acts c)

-- the command of the job with this number, or one like it: a step but for its Data, a container but for its members
pub record IsJobAct (packages : List (List JobEntry)) (number : ℕ) (a : Act) : Type 0 where
  pub entry : JobEntry
  pub within : Contains (all_entries packages) entry
  pub at : ℕ
  pub number_is : number ≡ entry.number + at
  pub act_is : slice_get (outlines entry.command) at ≡ Some a

-- A message of the server of this session and MsgID has the command of the job with this number, or one like it, under
-- this CmdID, whole or in part; of a step that is noted to count none comes later. Of a container this says nothing.
pub record StandsAs (packages : List (List JobEntry)) (downs : List Reply) (session : ℕ) (x : Sent) : Type 0 where
  pub at : ℕ
  pub reply : Reply
  pub was_sent : slice_get downs at ≡ Some reply
  pub session_is : session_of reply.message ≡ Some session
  pub msg_is : reply.message.header.msg ≡ x.msg
  pub deed : Deed
  pub within : Contains (all_deeds (origin_of reply.message) reply.message.body) deed
  pub command_is : deed.post.command ≡ x.command
  pub act : Act
  pub act_is : map outline (doing_acts deed.doing) ≡ act ∷ []
  pub of_job : IsJobAct packages x.number act
  pub last : x.counts ≡ true → IsWholeDeed deed

-- all that the server notes of its present session stands so in its messages
abbrev pub NotesTheSent : Type 0
NotesTheSent = (c : Machine) (job : Job) (hs : List Happening) (s : Session) (x : Sent) → IsWorldStart c job
    → IsSchedule c hs
    → (run (at_start c job) hs).server.session ≡ Some s
    → Contains s.sent x
    → StandsAs job.packages (run (at_start c job) hs).downs s.progress.number x
