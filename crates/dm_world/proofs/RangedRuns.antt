-- What the client makes of the commands that it executes has its numbers in the ranges of their types.
use Rattle.std.proofs.Common.{◌≡◌, ◌<◌, ◌^◌, ℕ, suc, Bool, true, false, cond, List, [], ◌∷◌, ◌++◌, map, Option, Some}
use Rattle.std.proofs.Common.{None}
use Rattle.std.proofs.Common.{IfSome, ◌≤◌, refl, sym, subst, arith}
use Rattle.std.specs.Prelude.{unwrap_or, option_and_then}
use Rattle.std.specs.Option.{option_or}
use Rattle.std.specs.List.{list_all, AllByRecursion}
use Rattle.std.proofs.lemmas.Bool.{and_parts}
use Rattle.syncml_types.specs.declared.values.Meta.{Meta}
use Rattle.syncml_types.specs.declared.values.Item.{Item}
use Rattle.syncml_types.specs.declared.command.Plain.{Plain}
use Rattle.syncml_types.specs.declared.command.AlertCmd.{AlertCmd}
use Rattle.syncml_types.specs.declared.command.Member.{Member}
use Rattle.syncml_types.specs.declared.command.Member.TheVariants as member
use Rattle.syncml_types.specs.declared.command.Block.{Block}
use Rattle.syncml_types.specs.declared.command.SeqMember.{SeqMember}
use Rattle.syncml_types.specs.declared.command.SeqMember.TheVariants as seq_member
use Rattle.syncml_types.specs.declared.command.Command.{Command}
use Rattle.syncml_types.specs.declared.command.Command.TheVariants as command
use Rattle.syncml_types.specs.Message.{Parts}
use Rattle.syncml_types.specs.Canonical.{is_text}
use Rattle.syncml_types.specs.Fitness.{all_of, meta_texts, item_texts, plain_texts, member_texts, atomic_texts}
use Rattle.syncml_types.specs.Fitness.{seq_member_texts, sequence_texts, command_texts, IsFit}
use Rattle.syncml_codec.specs.Ranges.{ItemRange, PlainRange, AlertRange, MemberRange, AtomicRange, SeqMemberRange}
use Rattle.syncml_codec.specs.Ranges.{SequenceRange, CommandRange, AreNumbers}
use Rattle.dm_tree.specs.Nodes.{IsStamp}
use Rattle.dm_tree.specs.Devices.{IsText}
use Rattle.dm_objects.specs.Gathering.{buffered_target}
use Rattle.dm_auth.specs.declared.accounts.Account.{Account}
use Rattle.dm_commands.specs.Outcomes.{is_success}
use Rattle.dm_commands.specs.declared.outcome.Found.{Found}
use Rattle.dm_atomic.specs.declared.tasks.Origin.{Origin}
use Rattle.dm_atomic.specs.declared.tasks.Named.{Named}
use Rattle.dm_atomic.specs.declared.tasks.Named.TheVariants as named
use Rattle.dm_atomic.specs.declared.tasks.Post.{Post}
use Rattle.dm_atomic.specs.declared.tasks.Work.{Work}
use Rattle.dm_atomic.specs.declared.tasks.Work.TheVariants as work
use Rattle.dm_atomic.specs.declared.tasks.Task.{Task}
use Rattle.dm_atomic.specs.declared.reports.Report.{Report}
use Rattle.dm_atomic.specs.declared.reports.Part.{Part}
use Rattle.dm_atomic.specs.Tasks.{item_task, item_tasks, plain_tasks, alert_task, member_tasks, members_tasks}
use Rattle.dm_atomic.specs.Tasks.{container_post}
use Rattle.dm_atomic.specs.Made.{Made, command_told, reported, all_reported, notice, source_item, uri_in, is_suppressed}
use Rattle.dm_atomic.specs.Made.{told}
use Rattle.dm_atomic.specs.Made as made
use Rattle.dm_atomic.specs.Run.{Group, State, Running, Next, quietly, one_step, undone, not_run, container, parts_done}
use Rattle.dm_atomic.specs.Run.{parts_undone, broken_group, break_of, break_group, breaks_first, one_alone, in_sequence}
use Rattle.dm_atomic.specs.Run.{Tried, after_success, tried, joins, opened, opens, with_part, stays_open, succeeds}
use Rattle.dm_atomic.specs.Run.{fails}
use Rattle.dm_atomic.specs.Run.{closes, in_group, join_or_break, atomically, still_of, still, run_atomic, run_member}
use Rattle.dm_atomic.specs.Run.{run_members, run_sequence, run_command, run_all}
use Rattle.dm_objects.specs.Inside.{is_buffering_inside}
use Rattle.dm_atomic.proofs.OneStatus.{one_step-steps}
use Rattle.dm_pack.specs.Entries.{whole_entry}
use Rattle.dm_ends.proofs.Statuses.{IsReadyPost}
use Rattle.dm_ends.proofs.Texts.{known_number}
use Rattle.dm_ends.specs.Commands.{origin_of}
use Rattle.dm_machine.specs.Machine.{Machine}
use Rattle.dm_machine.specs.Messages.{is_quiet, running_for, quiet_after, execute}
use Rattle.dm_machine.specs.Ready.{IsReadyGroup, IsReadyState}
use Rattle.dm_machine.proofs.ToldTexts.{device_text}
use Rattle.dm_machine.proofs.ToldSteps.{IsReadyTask, IsReadyRunning, step_ready}
use Rattle.dm_machine.proofs.ToldGroups.{sequence_ready, atomic_ready}
use Rattle.dm_machine.proofs.ToldMessages.{IsReadyOrigin}
use Rattle.dm_world.proofs.Lists.{either}
use Rattle.dm_world.proofs.Ranges.{all-append, AllEntryRange}

-- ---- what is made

abbrev pub MadeRange : Made → Type 0
MadeRange m = CommandRange (command_told m)

abbrev pub AllMadeRange : List Made → Type 0
AllMadeRange = AllByRecursion MadeRange

abbrev IsLow : ℕ → Type 0
IsLow code = code < 2 ^ 32

pub status-made : (p : Post) (code : ℕ) → IsReadyPost p → code < 2 ^ 32 → MadeRange (made.Status p code)
status-made p code is low =
    record { id = omega arith; msg_ref = is.msg; cmd_ref = is.command; code = low; chal = tt; items = tt }

result-made : (p : Post) (found : Found) → IsReadyPost p → MadeRange (made.Result p found)
result-made p found is = record {
  id = omega arith;
  msg_ref = is.msg;
  cmd_ref = is.command;
  meta = tt;
  items = (record { size = tt; max_msg = tt; max_obj = tt }, tt);
}

named-items : (uris : List (List ℕ)) → AllByRecursion ItemRange (map (λ uri. source_item uri None None) uris)
named-items [] = tt
named-items (uri ∷ uris) = (tt, named-items uris)

notice-range : (o : Option (List ℕ)) → AllMadeRange (notice o)
notice-range None = tt
notice-range (Some target) =
    (record { id = omega arith; code = omega arith; items = named-items (uri_in (Some target)) }, tt)

-- ---- reports, and what waits in a group

pub record ReportRange (r : Report) : Type 0 where
  pub post : IsReadyPost r.post
  pub code : r.code < 2 ^ 32

abbrev AllReportRange : List Report → Type 0
AllReportRange = AllByRecursion ReportRange

pub record PartRange (p : Part) : Type 0 where
  pub post : IsReadyPost p.post
  pub reports : AllByRecursion ReportRange p.reports

abbrev pub GroupRange : Group → Type 0
GroupRange g = AllByRecursion PartRange g.parts

abbrev pub StateRange : State → Type 0
StateRange s = IfSome s.group GroupRange

pub record NextRange (n : Next) : Type 0 where
  pub state : StateRange n.state
  pub made : AllMadeRange n.made

quiet-range : (s : State) → StateRange s → NextRange (quietly s)
quiet-range s state = record { state = state; made = tt }

results-range : (p : Post) (fs : List Found) → IsReadyPost p → AllMadeRange (map (made.Result p) fs)
results-range p [] is = tt
results-range p (f ∷ fs) is = (result-made p f is, results-range p fs is)

reported-range : (r : Report) → ReportRange r → AllMadeRange (reported r)
reported-range r is = (status-made r.post r.code is.post is.code, results-range r.post r.found is.post)

all-reported-range : (rs : List Report) → AllReportRange rs → AllMadeRange (all_reported rs)
all-reported-range [] all = tt
all-reported-range (r ∷ rs) all =
    all-append MadeRange (reported r) (all_reported rs) (reported-range r all.0) (all-reported-range rs all.1)

container-range : (p : Post) (code : ℕ) (rs : List Report) → IsReadyPost p → IsLow code → AllReportRange rs
    → AllMadeRange (container p code rs)
container-range p code rs is low all = (status-made p code is low, all-reported-range rs all)

undone-range : (rs : List Report) → AllReportRange rs → AllReportRange (map undone rs)
undone-range [] all = tt
undone-range (r ∷ rs) all =
    let is = all.0 in
    (record { post = is.post; code = omega arith }, undone-range rs all.1)

not-run-range : (ts : List Task) → AllByRecursion IsReadyTask ts → AllReportRange (map not_run ts)
not-run-range [] all = tt
not-run-range (t ∷ ts) all =
    let is = all.0 in
    (record { post = is.post; code = omega arith }, not-run-range ts all.1)

done-range : (ps : List Part) → AllByRecursion PartRange ps → AllMadeRange (parts_done ps)
done-range [] all = tt
done-range (p ∷ ps) all =
    let is = all.0 in
    all-append MadeRange (container p.post 200 p.reports) (parts_done ps)
    (container-range p.post 200 p.reports is.post (omega arith) is.reports) (done-range ps all.1)

all-undone-range : (ps : List Part) → AllByRecursion PartRange ps → AllMadeRange (parts_undone ps)
all-undone-range [] all = tt
all-undone-range (p ∷ ps) all =
    let is = all.0 in
    all-append MadeRange (container p.post 507 (map undone p.reports)) (parts_undone ps)
    (container-range p.post 507 (map undone p.reports) is.post (omega arith) (undone-range p.reports is.reports))
    (all-undone-range ps all.1)

-- ---- a group that is broken

broken-range : (s : State) (g : Group) → GroupRange g → NextRange (broken_group s g)
broken-range s g group = record {
  state = tt;
  made =
      all-append MadeRange (notice (buffered_target s.object)) (parts_undone g.parts)
      (notice-range (buffered_target s.object)) (all-undone-range g.parts group);
}

break-of-range : (s : State) (o : Option Group) → s.group ≡ o → IfSome o GroupRange → NextRange (break_of s o)
break-of-range s None e group = quiet-range s (subst (λ o. IfSome o GroupRange) (sym e) tt)
break-of-range s (Some g) e group = broken-range s g group

break-range : (s : State) → StateRange s → NextRange (break_group s)
unfolding break_group
break-range s state = break-of-range s s.group refl state

break-of-ready : (max : ℕ) (s : State) (o : Option Group) → IsReadyState max s → IfSome o IsReadyGroup
    → IsReadyState max (break_of s o).state
break-of-ready max s None state group = state
break-of-ready max s (Some g) state group =
    record { tree = group.base; fits = tt; object = tt; group = tt; started = state.started }

break-ready : (max : ℕ) (s : State) → IsReadyState max s → IsReadyState max (break_group s).state
unfolding break_group
break-ready max s state = break-of-ready max s s.group state state.group

-- ---- tasks outside an Atomic

first-range : (s : State) (w : Work) → StateRange s → NextRange (breaks_first s w)
first-range s (work.Piece piece) state = break-range s state
first-range s (work.Alert code) state = quiet-range s state

first-ready : (max : ℕ) (s : State) (w : Work) → IsReadyState max s → IsReadyState max (breaks_first s w).state
first-ready max s (work.Piece piece) state = break-ready max s state
first-ready max s (work.Alert code) state = state

step-report : (r : Running) (s : State) (t : Task) → IsReadyRunning r → IsReadyState r.max_obj s → IsReadyTask t
    → ReportRange (one_step r s t).report
step-report r s t running ready is =
    let done = step_ready r s t running ready is in
    let steps = one_step-steps r s t in
    record { post = subst IsReadyPost (sym steps.post) is.post; code = done.report.code }

step-state : (r : Running) (s : State) (t : Task) → StateRange s → StateRange (one_step r s t).state
step-state r s t state =
    let steps = one_step-steps r s t in
    subst (λ (o : Option Group). IfSome o GroupRange) (sym steps.group) state

alone-range : (r : Running) (s : State) (t : Task) → IsReadyRunning r → IsReadyState r.max_obj s → IsReadyTask t
    → StateRange s
    → NextRange (one_alone r s t)
alone-range r s t running ready is state =
    let b = breaks_first s t.work in
    let first = first-range s t.work state in
    let report = step-report r b.state t running (first-ready r.max_obj s t.work ready) is in
    let after = one_step r b.state t in
    record {
      state = step-state r b.state t first.state;
      made =
          all-append MadeRange b.made (notice after.broken ++ reported after.report) first.made
          (all-append MadeRange (notice after.broken) (reported after.report) (notice-range after.broken)
          (reported-range after.report report));
    }

alone-ready : (r : Running) (s : State) (t : Task) → IsReadyRunning r → IsReadyState r.max_obj s → IsReadyTask t
    → IsReadyState r.max_obj (one_alone r s t).state
alone-ready r s t running ready is =
    (step_ready r (breaks_first s t.work).state t running (first-ready r.max_obj s t.work ready) is).state

sequence-range : (r : Running) (s : State) (ts : List Task) → IsReadyRunning r → IsReadyState r.max_obj s
    → AllByRecursion IsReadyTask ts → StateRange s
    → NextRange (in_sequence r s ts)
sequence-range r s [] running ready all state = quiet-range s state
sequence-range r s (t ∷ ts) running ready all state =
    let first = alone-range r s t running ready all.0 state in
    let rest =
    sequence-range r (one_alone r s t).state ts running (alone-ready r s t running ready all.0) all.1 first.state in
    record {
      state = rest.state;
      made =
          all-append MadeRange (one_alone r s t).made (in_sequence r (one_alone r s t).state ts).made first.made
          rest.made;
    }

-- ---- the tasks of an Atomic

record TriedRange (t : Tried) : Type 0 where
  notices : AllMadeRange t.notices
  done : AllReportRange t.done
  failed : IfSome t.failed ReportRange
  unrun : AllByRecursion IsReadyTask t.unrun

tried-range : (r : Running) (s : State) (ts : List Task) → IsReadyRunning r → IsReadyState r.max_obj s
    → AllByRecursion IsReadyTask ts
    → TriedRange (tried r s ts)
tried-range r s [] running ready all = record { notices = tt; done = tt; failed = tt; unrun = tt }
tried-range r s (t ∷ ts) running ready all =
    let first = one_step r s t in
    let report = step-report r s t running ready all.0 in
    let rest = tried-range r first.state ts running (step_ready r s t running ready all.0).state all.1 in
    let last : Tried = record {
      state = first.state;
      notices = notice first.broken;
      done = [];
      failed = Some first.report;
      unrun = ts;
    } in
    either TriedRange (is_success first.report.code) {x = after_success first (tried r first.state ts)} {y = last}
    (record {
      notices =
          all-append MadeRange (notice first.broken) (tried r first.state ts).notices (notice-range first.broken)
          rest.notices;
      done = (report, rest.done);
      failed = rest.failed;
      unrun = rest.unrun;
    })
    (record { notices = notice-range first.broken; done = tt; failed = report; unrun = all.1 })

-- ---- a group

opened-by : (o : Option Group) (g : Group) → IfSome o GroupRange → GroupRange g → GroupRange (unwrap_or o g)
opened-by None g group is = is
opened-by (Some h) g group is = group

opened-range : (s : State) → StateRange s → GroupRange (opened s)
opened-range s state = opened-by s.group (record { base = s.tree; parts = [] }) state tt

opened-ready-by : (o : Option Group) (g : Group) → IfSome o IsReadyGroup → IsReadyGroup g → IsReadyGroup (unwrap_or o g)
opened-ready-by None g group is = is
opened-ready-by (Some h) g group is = group

opens-ready : (max : ℕ) (s : State) → IsReadyState max s → IsReadyState max (opens s)
opens-ready max s ready = record {
  tree = ready.tree;
  fits = ready.fits;
  object = ready.object;
  group =
      opened-ready-by s.group (record { base = s.tree; parts = [] }) ready.group
      (record { base = ready.tree; parts = tt });
  started = ready.started;
}

with-part-range : (g : Group) (post : Post) (t : Tried) → GroupRange g → IsReadyPost post → TriedRange t
    → GroupRange (with_part g post t)
with-part-range g post t group is tried =
    all-append PartRange g.parts _ group (record { post = is; reports = tried.done }, tt)

fails-range : (g : Group) (post : Post) (t : Tried) (report : Report) → GroupRange g → IsReadyPost post → TriedRange t
    → ReportRange report
    → NextRange (fails g post t report)
fails-range g post t report group is tried failed =
    let all : AllReportRange (map undone t.done ++ report ∷ map not_run t.unrun) =
    all-append ReportRange (map undone t.done) (report ∷ map not_run t.unrun) (undone-range t.done tried.done)
    (failed, not-run-range t.unrun tried.unrun) in
    record {
      state = tt;
      made =
          all-append MadeRange (parts_undone g.parts)
          (container post 507 (map undone t.done ++ report ∷ map not_run t.unrun)) (all-undone-range g.parts group)
          (container-range post 507 (map undone t.done ++ report ∷ map not_run t.unrun) is (omega arith) all);
    }

closes-range : (g : Group) (post : Post) (t : Tried) (o : Option Report) → GroupRange g → IsReadyPost post
    → TriedRange t
    → IfSome o ReportRange
    → NextRange (closes g post t o)
closes-range g post t (Some report) group is tried failed = fails-range g post t report group is tried failed
closes-range g post t None group is tried failed =
    let parts = with-part-range g post t group is tried in
    either NextRange (is_buffering_inside t.state.object) {x = stays_open g post t} {y = succeeds g post t}
    (record { state = parts; made = tt })
    (record { state = tt; made = done-range (with_part g post t).parts parts })

in-group-range : (r : Running) (s : State) (post : Post) (ts : List Task) → IsReadyRunning r
    → IsReadyState r.max_obj s → IsReadyPost post → AllByRecursion IsReadyTask ts → StateRange s
    → NextRange (in_group r s post ts)
unfolding in_group
in-group-range r s post ts running ready is all state =
    let t = tried r s ts in
    let h = tried-range r s ts running ready all in
    let closed = closes-range (opened s) post t t.failed (opened-range s state) is h h.failed in
    record {
      state = closed.state;
      made = all-append MadeRange t.notices (closes (opened s) post t t.failed).made h.notices closed.made;
    }

join-range : (s : State) (ts : List Task) → StateRange s → NextRange (join_or_break s ts)
join-range s ts state =
    either NextRange (joins s ts) {x = quietly s} {y = break_group s} (quiet-range s state) (break-range s state)

join-ready : (max : ℕ) (s : State) (ts : List Task) → IsReadyState max s → IsReadyState max (join_or_break s ts).state
join-ready max s ts ready =
    either (λ (n : Next). IsReadyState max n.state) (joins s ts) {x = quietly s} {y = break_group s} ready
    (break-ready max s ready)

atomic-range : (r : Running) (s : State) (post : Post) (ts : List Task) → IsReadyRunning r → IsReadyState r.max_obj s
    → IsReadyPost post → AllByRecursion IsReadyTask ts → StateRange s
    → NextRange (atomically r s post ts)
unfolding atomically
atomic-range r s post ts running ready is all state =
    let b = join_or_break s ts in
    let first = join-range s ts state in
    let rest =
    in-group-range r (opens b.state) post ts running
    (opens-ready r.max_obj b.state (join-ready r.max_obj s ts ready)) is all (opened-range b.state first.state) in
    record {
      state = rest.state;
      made = all-append MadeRange b.made (in_group r (opens b.state) post ts).made first.made rest.made;
    }

-- ---- the tasks of a command

abbrev media_of : Meta → Option (List ℕ)
media_of meta = meta.media

text-media : (o : Option (List ℕ)) → all_of is_text o ≡ true → IfSome o IsText
text-media None h = tt
text-media (Some t) h = device_text t h

meta-media : (meta : Meta) → meta_texts is_text meta ≡ true → IfSome meta.media IsText
unfolding meta_texts
meta-media meta h = text-media meta.media (and_parts _ _ (and_parts _ _ (and_parts _ _ (and_parts _ _ h).0).0).0).1

optional-media : (o : Option Meta) → all_of (meta_texts is_text) o ≡ true → IfSome (option_and_then media_of o) IsText
optional-media None h = tt
optional-media (Some meta) h = meta-media meta h

either-media : (o p : Option (List ℕ)) → IfSome o IsText → IfSome p IsText → IfSome (option_or o p) IsText
either-media None p h k = k
either-media (Some t) p h k = h

item-meta : (item : Item) → item_texts is_text item ≡ true → all_of (meta_texts is_text) item.meta ≡ true
unfolding item_texts
item-meta item h = (and_parts _ _ h).1

text-correlator : (o : Option (List ℕ)) → all_of is_text o ≡ true → IfSome o (λ text. is_text text ≡ true)
text-correlator None h = tt
text-correlator (Some t) h = h

-- a command whose texts are texts, with a CmdID of 32 bits
record IsTextPlain (c : Plain) : Type 0 where
  id : c.id < 2 ^ 32
  meta : all_of (meta_texts is_text) c.meta ≡ true
  correlator : all_of is_text c.correlator ≡ true
  items : list_all (item_texts is_text) c.items ≡ true

text-plain : (c : Plain) → PlainRange c → plain_texts is_text c ≡ true → IsTextPlain c
unfolding plain_texts
text-plain c range h =
    let parts = and_parts _ _ h in
    let first = and_parts _ _ parts.0 in
    record { id = range.id; meta = first.0; correlator = first.1; items = parts.1 }

item-ready : (o : Origin) (in_atomic : Bool) (c : Plain) (place : ℕ) (item : Item) → IsReadyOrigin o → IsTextPlain c
    → item_texts is_text item ≡ true → IsReadyTask (item_task o in_atomic c place item)
item-ready o in_atomic c place item origin is h = record {
  post = record { some = origin.some; msg = origin.msg; command = is.id };
  work = record {
    media = either-media (option_and_then media_of item.meta) (option_and_then media_of c.meta)
        (optional-media item.meta (item-meta item h)) (optional-media c.meta is.meta);
    correlator = text-correlator c.correlator is.correlator;
  };
}

items-ready : (o : Origin) (in_atomic : Bool) (c : Plain) (place : ℕ) (items : List Item) → IsReadyOrigin o
    → IsTextPlain c → list_all (item_texts is_text) items ≡ true
    → AllByRecursion IsReadyTask (item_tasks o in_atomic c place items)
items-ready o in_atomic c place [] origin is h = tt
items-ready o in_atomic c place (item ∷ items) origin is h =
    let parts = and_parts (item_texts is_text item) (list_all (item_texts is_text) items) h in (
      item-ready o in_atomic c place item origin is parts.0,
      items-ready o in_atomic c (suc place) items origin is parts.1,
    )

plain-ready : (o : Origin) (in_atomic : Bool) (c : Plain) → IsReadyOrigin o → PlainRange c
    → plain_texts is_text c ≡ true → AllByRecursion IsReadyTask (plain_tasks o in_atomic c)
plain-ready o in_atomic c origin range h =
    let is = text-plain c range h in
    items-ready o in_atomic c 0 c.items origin is is.items

alert-ready : (o : Origin) (c : AlertCmd) → IsReadyOrigin o → AlertRange c → IsReadyTask (alert_task o c)
alert-ready o c origin range =
    record { post = record { some = origin.some; msg = origin.msg; command = range.id }; work = tt }

member-ready : (o : Origin) (in_atomic : Bool) (m : Member) → IsReadyOrigin o → MemberRange m
    → member_texts is_text m ≡ true → AllByRecursion IsReadyTask (member_tasks o in_atomic m)
unfolding member_texts
member-ready o in_atomic (member.One c) origin range h = plain-ready o in_atomic c origin range h
member-ready o in_atomic (member.Alert c) origin range h = (alert-ready o c origin range, tt)

members-ready : (o : Origin) (in_atomic : Bool) (ms : List Member) → IsReadyOrigin o → AllByRecursion MemberRange ms
    → list_all (member_texts is_text) ms ≡ true → AllByRecursion IsReadyTask (members_tasks o in_atomic ms)
members-ready o in_atomic [] origin range h = tt
members-ready o in_atomic (m ∷ ms) origin range h =
    let parts = and_parts (member_texts is_text m) (list_all (member_texts is_text) ms) h in
    all-append IsReadyTask (member_tasks o in_atomic m) (members_tasks o in_atomic ms)
    (member-ready o in_atomic m origin range.0 parts.0) (members-ready o in_atomic ms origin range.1 parts.1)

container-ready : (o : Origin) (id : ℕ) (no_resp : Bool) (name : Named) → IsReadyOrigin o → id < 2 ^ 32
    → IsReadyPost (container_post o id no_resp name)
container-ready o id no_resp name origin low = record { some = origin.some; msg = origin.msg; command = low }

-- ---- commands

next-append : (first rest : Next) → NextRange first → NextRange rest
    → NextRange (record { state = rest.state; made = first.made ++ rest.made })
next-append first rest h k = record { state = k.state; made = all-append MadeRange first.made rest.made h.made k.made }

-- a command that can be executed, on a state that it may meet: what it makes, and the state that it leaves
record Runs (max : ℕ) (n : Next) : Type 0 where
  ready : IsReadyState max n.state
  range : NextRange n

quiet-runs : (max : ℕ) (s : State) → IsReadyState max s → StateRange s → Runs max (quietly s)
quiet-runs max s ready state = record { ready = ready; range = quiet-range s state }

runs-append : (max : ℕ) (first rest : Next) → Runs max first → Runs max rest
    → Runs max (record { state = rest.state; made = first.made ++ rest.made })
runs-append max first rest h k = record { ready = k.ready; range = next-append first rest h.range k.range }

module _ (r : Running) (o : Origin) (running : IsReadyRunning r) (origin : IsReadyOrigin o) where
  tasks-run : (s : State) (ts : List Task) → AllByRecursion IsReadyTask ts → IsReadyState r.max_obj s → StateRange s
      → Runs r.max_obj (in_sequence r s ts)
  tasks-run s ts all ready state = record {
    ready = (sequence_ready r s ts running ready all).state;
    range = sequence-range r s ts running ready all state;
  }

  atomic-runs : (s : State) (b : Block Member) → IsReadyState r.max_obj s → StateRange s → AtomicRange b
      → atomic_texts is_text b ≡ true
      → Runs r.max_obj (run_atomic r o s b)
  unfolding atomic_texts
  atomic-runs s b ready state range h =
      let post = container_post o b.id b.no_resp named.Atomic in
      let ts = members_tasks o true b.members in
      let is = container-ready o b.id b.no_resp named.Atomic origin range.id in
      let all = members-ready o true b.members origin range.members (and_parts _ _ h).1 in
      record {
        ready = (atomic_ready r s post ts running ready is all).state;
        range = atomic-range r s post ts running ready is all state;
      }

  member-runs : (s : State) (m : SeqMember) → IsReadyState r.max_obj s → StateRange s → SeqMemberRange m
      → seq_member_texts is_text m ≡ true
      → Runs r.max_obj (run_member r o s m)
  unfolding seq_member_texts
  member-runs s (seq_member.Single m) ready state range h =
      tasks-run s (member_tasks o false m) (member-ready o false m origin range h) ready state
  member-runs s (seq_member.Atomic b) ready state range h = atomic-runs s b ready state range h

  members-run : (s : State) (ms : List SeqMember) → IsReadyState r.max_obj s → StateRange s
      → AllByRecursion SeqMemberRange ms
      → list_all (seq_member_texts is_text) ms ≡ true
      → Runs r.max_obj (run_members r o s ms)
  members-run s [] ready state range h = quiet-runs r.max_obj s ready state
  members-run s (m ∷ ms) ready state range h =
      let parts = and_parts (seq_member_texts is_text m) (list_all (seq_member_texts is_text) ms) h in
      let first = member-runs s m ready state range.0 parts.0 in
      let rest = members-run (run_member r o s m).state ms first.ready first.range.state range.1 parts.1 in
      runs-append r.max_obj (run_member r o s m) (run_members r o (run_member r o s m).state ms) first rest

  sequence-runs : (s : State) (b : Block SeqMember) → IsReadyState r.max_obj s → StateRange s → SequenceRange b
      → sequence_texts is_text b ≡ true
      → Runs r.max_obj (run_sequence r o s b)
  unfolding sequence_texts
  sequence-runs s b ready state range h =
      let post = container-ready o b.id b.no_resp named.Sequence origin range.id in
      let answered = status-made (container_post o b.id b.no_resp named.Sequence) 200 post (omega arith) in
      let inside = members-run s b.members ready state range.members (and_parts _ _ h).1 in
      record {
        ready = inside.ready;
        range = record {
          state = inside.range.state;
          made = (answered, inside.range.made);
        };
      }

  command-runs : (s : State) (c : Command) → IsReadyState r.max_obj s → StateRange s → CommandRange c
      → command_texts is_text c ≡ true
      → Runs r.max_obj (run_command r o s c)
  unfolding command_texts run_command
  command-runs s (command.Plain c) ready state range h =
      tasks-run s (plain_tasks o false c) (plain-ready o false c origin range h) ready state
  command-runs s (command.Alert c) ready state range h =
      tasks-run s (alert_task o c ∷ []) (alert-ready o c origin range, tt) ready state
  command-runs s (command.Atomic b) ready state range h = atomic-runs s b ready state range h
  command-runs s (command.Sequence b) ready state range h = sequence-runs s b ready state range h
  command-runs s (command.Status c) ready state range h = quiet-runs r.max_obj s ready state
  command-runs s (command.Results c) ready state range h = quiet-runs r.max_obj s ready state

  commands-run : (s : State) (cs : List Command) → IsReadyState r.max_obj s → StateRange s
      → AllByRecursion CommandRange cs
      → list_all (command_texts is_text) cs ≡ true
      → Runs r.max_obj (run_all r o s cs)
  commands-run s [] ready state range h = quiet-runs r.max_obj s ready state
  commands-run s (c ∷ cs) ready state range h =
      let parts = and_parts (command_texts is_text c) (list_all (command_texts is_text) cs) h in
      let first = command-runs s c ready state range.0 parts.0 in
      let rest = commands-run (run_command r o s c).state cs first.ready first.range.state range.1 parts.1 in
      runs-append r.max_obj (run_command r o s c) (run_all r o (run_command r o s c).state cs) first rest

-- ---- a message

still-of-range : (s : State) (o : Option Group) → s.group ≡ o → IfSome o GroupRange → NextRange (still_of s o)
still-of-range s None e group = record {
  state = subst (λ o. IfSome o GroupRange) (sym e) tt;
  made = notice-range (buffered_target s.object);
}
still-of-range s (Some g) e group = broken-range s g group

still-range : (s : State) → StateRange s → NextRange (still s)
unfolding still
still-range s state = still-of-range s s.group refl state

quiet-after-range : (m : Parts) (run : Next) → NextRange run → NextRange (quiet_after m run)
quiet-after-range m run is =
    next-append run (cond (is_quiet m) (still run.state) (quietly run.state)) is
    (either NextRange (is_quiet m) {x = still run.state} {y = quietly run.state} (still-range run.state is.state)
    (quiet-range run.state is.state))

pub execute-range : (c : Machine) (a : Account) (m : Parts) → IsStamp c.clock → c.limits.max_obj ≤ 4194304
    → IsFit m.header m.body → AreNumbers m → IsReadyState c.limits.max_obj c.engine → StateRange c.engine
    → NextRange (execute c a m)
unfolding execute
execute-range c a m clock most fit numbers ready state =
    let origin : IsReadyOrigin (origin_of m) = record { some = known_number m fit; msg = numbers.header.msg } in
    let running : IsReadyRunning (running_for c a) = record { clock = clock; max_obj = most } in
    quiet-after-range m (run_all (running_for c a) (origin_of m) c.engine m.body)
    (commands-run (running_for c a) (origin_of m) running origin c.engine m.body ready state numbers.body
    (and_parts _ _ fit.texts).1).range

-- ---- what is told

pub told-range : (ms : List Made) → AllMadeRange ms → AllEntryRange (map whole_entry (told ms))
told-range [] all = tt
told-range (m ∷ ms) all =
    either (λ cs. AllEntryRange (map whole_entry cs)) (is_suppressed m) {x = told ms} {y = command_told m ∷ told ms}
    (told-range ms all.1) (all.0, told-range ms all.1)
