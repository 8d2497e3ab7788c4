-- Commands executed: steps in order, containers, and groups that stay open over several messages.
use Rattle.std.specs.Prelude.{◌==◌, ◌&&◌, ◌||◌, ℕ, Bool, true, false, if◌then◌else◌, List, [], ◌∷◌, ◌++◌, map, Option}
use Rattle.std.specs.Prelude.{None, Some, is_some, unwrap_or, option_map, Result, Ok, Err}
use Rattle.syncml_types.specs.declared.command.Step.{Step}
use Rattle.syncml_types.specs.declared.command.Member.{Member}
use Rattle.syncml_types.specs.declared.command.Block.{Block}
use Rattle.syncml_types.specs.declared.command.SeqMember.{SeqMember}
use Rattle.syncml_types.specs.declared.command.SeqMember.TheVariants as seq
use Rattle.syncml_types.specs.declared.command.Command.{Command}
use Rattle.syncml_types.specs.declared.command.Command.TheVariants as commands
use Rattle.dm_uri.specs.declared.uri.Uri.{Uri}
use Rattle.dm_uri.specs.declared.uri.UriError.{UriError}
use Rattle.dm_uri.specs.Reading.{parse_of}
use Rattle.dm_tree.specs.Nodes.{Path, Nodes}
use Rattle.dm_objects.specs.declared.object.Object.{Object}
use Rattle.dm_objects.specs.declared.object.Object.TheVariants.{Nothing, Skipping}
use Rattle.dm_objects.specs.declared.piece.Piece.{Piece}
use Rattle.dm_objects.specs.declared.piece.What.{What}
use Rattle.dm_objects.specs.declared.piece.What.TheVariants.{Whole, Buffered, Refused}
use Rattle.dm_objects.specs.Inside.{is_buffering_inside, stays}
use Rattle.dm_objects.specs.Gathering.{key_of, continues, buffered_target, gather}
use Rattle.dm_commands.specs.Outcomes.{Setting, is_success}
use Rattle.dm_commands.specs.Table.{act}
use Rattle.dm_atomic.specs.declared.tasks.Origin.{Origin}
use Rattle.dm_atomic.specs.declared.tasks.Named.TheVariants as named
use Rattle.dm_atomic.specs.declared.tasks.Post.{Post}
use Rattle.dm_atomic.specs.declared.tasks.Work.{Work}
use Rattle.dm_atomic.specs.declared.tasks.Work.TheVariants as work
use Rattle.dm_atomic.specs.declared.tasks.Task.{Task}
use Rattle.dm_atomic.specs.declared.reports.Report.{Report}
use Rattle.dm_atomic.specs.declared.reports.Part.{Part}
use Rattle.dm_atomic.specs.declared.reports.Started.{Started}
use Rattle.dm_atomic.specs.Tasks.{plain_tasks, alert_task, member_tasks, members_tasks, container_post}
use Rattle.dm_atomic.specs.Made.{Made, Status, reported, all_reported, notice}

-- containers that stay open, and the tree before the first of them
pub record Group : Type 0 where
  pub base : Nodes
  pub parts : List Part

-- the working tree, the unfinished object, the open group, and the update that was started
pub record State : Type 0 where
  pub tree : Nodes
  pub object : Object
  pub group : Option Group
  pub started : Option Started

-- what stays the same while a message is executed: who asks, the clock, and how large an object may be
pub record Running : Type 0 where
  pub setting : Setting
  pub max_obj : ℕ

-- a state, and what was made on the way to it
pub record Next : Type 0 where
  pub state : State
  pub made : List Made

abbrev pub quietly : State → Next
quietly s = record { state = s; made = [] }

-- ---- one task

-- a task was run: its report, and the target of the object that it broke
pub record Ran : Type 0 where
  pub state : State
  pub report : Report
  pub broken : Option (List ℕ)

abbrev pub ran : State → Post → ℕ → Option (List ℕ) → Ran
ran s post code broken = record { state = s; report = record { post = post; code = code; found = [] }; broken = broken }

-- next message, and large object broken
abbrev pub alert_code : ℕ → ℕ
alert_code code = if code == 1222 || code == 1225 then 200 else 406

abbrev pub uri_path : Result Uri UriError → Path
uri_path (Ok uri) = uri.path
uri_path (Err e) = []

abbrev pub started_by : Step → Started
started_by step = record { node = uri_path (parse_of (unwrap_or step.target [])); correlator = step.correlator }

abbrev pub step_ran : Running → State → Post → Option (List ℕ) → Step → Ran
step_ran r s post broken step =
    let done = act r.setting s.tree step in
    record {
      state = record s { tree = done.tree; started = if done.started then Some (started_by step) else s.started };
      report = record { post = post; code = done.code; found = done.found };
      broken = broken;
    }

abbrev pub by_what : Running → State → Post → Option (List ℕ) → What → Ran
by_what r s post broken (Whole step) = step_ran r s post broken step
by_what r s post broken Buffered = ran s post 213 broken
by_what r s post broken (Refused code) = ran s post code broken

-- a piece goes through gathering, and a whole step then through the step table
abbrev pub one_piece : Running → State → Post → Piece → Ran
one_piece r s post piece =
    let g = gather r.max_obj s.object piece in
    by_what r (record s { object = g.object }) post g.broken g.what

abbrev pub by_work : Running → State → Post → Work → Ran
by_work r s post (work.Piece piece) = one_piece r s post piece
by_work r s post (work.Alert code) = ran s post (alert_code code) None

unfoldable pub one_step : Running → State → Task → Ran
one_step r s task = by_work r s task.post task.work

-- ---- groups

-- undone, with no found values
abbrev pub undone : Report → Report
undone report = record { post = report.post; code = 216; found = [] }

abbrev pub not_run : Task → Report
not_run task = record { post = task.post; code = 215; found = [] }

abbrev pub container : Post → ℕ → List Report → List Made
container post code reports = Status post code ∷ all_reported reports

-- each part with its own codes and found values
abbrev pub parts_done : List Part → List Made
parts_done [] = []
parts_done (p ∷ ps) = container p.post 200 p.reports ++ parts_done ps

abbrev pub parts_undone : List Part → List Made
parts_undone [] = []
parts_undone (p ∷ ps) = container p.post 507 (map undone p.reports) ++ parts_undone ps

-- a group that is broken: its object is lost, and all its steps are undone
abbrev pub broken_group : State → Group → Next
broken_group s g = record {
  state = record s { tree = g.base; object = Nothing; group = None };
  made = notice (buffered_target s.object) ++ parts_undone g.parts;
}

abbrev pub break_of : State → Option Group → Next
break_of s None = quietly s
break_of s (Some g) = broken_group s g

unfoldable pub break_group : State → Next
break_group s = break_of s s.group

-- ---- tasks outside an Atomic

abbrev pub breaks_first : State → Work → Next
breaks_first s (work.Piece piece) = break_group s
breaks_first s (work.Alert code) = quietly s

-- a step of a verb breaks an open group first
abbrev pub one_alone : Running → State → Task → Next
one_alone r s task =
    let broken = breaks_first s task.work in
    let done = one_step r broken.state task in
    record { state = done.state; made = broken.made ++ (notice done.broken ++ reported done.report) }

abbrev pub in_sequence : Running → State → List Task → Next
in_sequence r s [] = quietly s
in_sequence r s (t ∷ ts) =
    let first = one_alone r s t in
    let rest = in_sequence r first.state ts in
    record { state = rest.state; made = first.made ++ rest.made }

-- ---- an Atomic

-- its tasks up to the first that fails, and what was not run
pub record Tried : Type 0 where
  pub state : State
  pub notices : List Made
  pub done : List Report
  pub failed : Option Report
  pub unrun : List Task

abbrev pub after_success : Ran → Tried → Tried
after_success first rest =
    record rest { notices = notice first.broken ++ rest.notices; done = first.report ∷ rest.done }

abbrev pub tried : Running → State → List Task → Tried
tried r s [] = record { state = s; notices = []; done = []; failed = None; unrun = [] }
tried r s (t ∷ ts) =
    let first = one_step r s t in
    if is_success first.report.code then after_success first (tried r first.state ts)
    else record {
      state = first.state;
      notices = notice first.broken;
      done = [];
      failed = Some first.report;
      unrun = ts;
    }

abbrev pub continues_or : Object → Work → Bool → Bool
continues_or object (work.Piece piece) later = continues object piece
continues_or object (work.Alert code) later = later

-- the first step of a verb continues the object
abbrev pub first_continues : Object → List Task → Bool
first_continues object [] = false
first_continues object (t ∷ ts) = continues_or object t.work (first_continues object ts)

abbrev pub joins : State → List Task → Bool
joins s ts = is_some s.group && first_continues s.object ts

abbrev pub left_by : Object → Work → Object
left_by object (work.Piece piece) = if piece.more then Skipping (key_of piece.step) 500 else object
left_by object (work.Alert code) = object

-- and so is that of the last step with MoreData that was not run
abbrev pub left_object : Object → List Task → Object
left_object object [] = object
left_object object (t ∷ ts) = left_object (left_by object t.work) ts

-- the open group, or one that begins here
abbrev pub opened : State → Group
opened s = unwrap_or s.group (record { base = s.tree; parts = [] })

abbrev pub opens : State → State
opens s = record s { group = Some (opened s) }

abbrev pub with_part : Group → Post → Tried → Group
with_part g post t = record { base = g.base; parts = g.parts ++ record { post = post; reports = t.done } ∷ [] }

-- an object is being buffered: the answers wait
abbrev pub stays_open : Group → Post → Tried → Next
stays_open g post t = quietly (record t.state { group = Some (with_part g post t) })

abbrev pub succeeds : Group → Post → Tried → Next
succeeds g post t = record { state = record t.state { group = None }; made = parts_done (with_part g post t).parts }

-- the tree before the first part stands again
abbrev pub fails : Group → Post → Tried → Report → Next
fails g post t report = record {
  state = record t.state { tree = g.base; group = None; object = left_object (stays t.state.object) t.unrun };
  made = parts_undone g.parts ++ container post 507 (map undone t.done ++ report ∷ map not_run t.unrun);
}

abbrev pub closes : Group → Post → Tried → Option Report → Next
closes g post t (Some report) = fails g post t report
closes g post t None = if is_buffering_inside t.state.object then stays_open g post t else succeeds g post t

-- an Atomic in its open group
unfoldable pub in_group : Running → State → Post → List Task → Next
in_group r s post ts =
    let t = tried r s ts in
    let w = closes (opened s) post t t.failed in
    record { state = w.state; made = t.notices ++ w.made }

-- an open group that these don't continue is broken
abbrev pub join_or_break : State → List Task → Next
join_or_break s ts = if joins s ts then quietly s else break_group s

-- an Atomic, which joins the open group or opens one; one that is whole at its end is a group of one part
unfoldable pub atomically : Running → State → Post → List Task → Next
atomically r s post ts =
    let b = join_or_break s ts in
    let w = in_group r (opens b.state) post ts in
    record { state = w.state; made = b.made ++ w.made }

-- ---- commands

abbrev pub run_atomic : Running → Origin → State → Block Member → Next
run_atomic r origin s b =
    atomically r s (container_post origin b.id b.no_resp named.Atomic) (members_tasks origin true b.members)

abbrev pub run_member : Running → Origin → State → SeqMember → Next
run_member r origin s (seq.Single m) = in_sequence r s (member_tasks origin false m)
run_member r origin s (seq.Atomic b) = run_atomic r origin s b

abbrev pub run_members : Running → Origin → State → List SeqMember → Next
run_members r origin s [] = quietly s
run_members r origin s (m ∷ ms) =
    let first = run_member r origin s m in
    let rest = run_members r origin first.state ms in
    record { state = rest.state; made = first.made ++ rest.made }

-- a Sequence has 200 whatever its members have, and its Status stands before theirs
abbrev pub run_sequence : Running → Origin → State → Block SeqMember → Next
run_sequence r origin s b =
    let members = run_members r origin s b.members in
    record {
      state = members.state;
      made = Status (container_post origin b.id b.no_resp named.Sequence) 200 ∷ members.made;
    }

-- one command of a body; Statuses and Results are no commands to execute
unfoldable pub run_command : Running → Origin → State → Command → Next
run_command r origin s (commands.Plain command) = in_sequence r s (plain_tasks origin false command)
run_command r origin s (commands.Alert alert) = in_sequence r s (alert_task origin alert ∷ [])
run_command r origin s (commands.Atomic b) = run_atomic r origin s b
run_command r origin s (commands.Sequence b) = run_sequence r origin s b
run_command r origin s (commands.Status c) = quietly s
run_command r origin s (commands.Results c) = quietly s

abbrev pub run_all : Running → Origin → State → List Command → Next
run_all r origin s [] = quietly s
run_all r origin s (c ∷ cs) =
    let first = run_command r origin s c in
    let rest = run_all r origin first.state cs in
    record { state = rest.state; made = first.made ++ rest.made }

-- ---- quiet messages and ends

-- a message with Final that has no step of a verb breaks what is unfinished
abbrev pub still_of : State → Option Group → Next
still_of s None = record { state = record s { object = Nothing }; made = notice (buffered_target s.object) }
still_of s (Some g) = broken_group s g

unfoldable pub still : State → Next
still s = still_of s s.group

-- the tree that counts if nothing more comes
abbrev pub committed : State → Nodes
committed s = unwrap_or (option_map (λ (g : Group). g.base) s.group) s.tree

-- all that is unfinished is given up
unfoldable pub abandoned : State → State
abandoned s = record s { tree = committed s; object = Nothing; group = None }
