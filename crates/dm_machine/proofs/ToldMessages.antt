-- A message that is executed on a ready state leaves a ready state, and all that it makes can be told and sent.
use Rattle.std.proofs.Common.{◌≡◌, ◌<◌, ◌≤◌, ◌^◌, ℕ, suc, Bool, true, false, cond, List, [], ◌∷◌, ◌++◌, map, Option}
use Rattle.std.proofs.Common.{Some, None, arith}
use Rattle.std.specs.Prelude.{IfSome, option_and_then}
use Rattle.std.specs.Option.{option_or}
use Rattle.std.specs.List.{list_all, AllByRecursion}
use Rattle.std.proofs.lemmas.Bool.{and_parts}
use Rattle.std.proofs.lemmas.Grind.{common_steps}
use Rattle.syncml_types.specs.declared.values.Meta.{Meta}
use Rattle.syncml_types.specs.declared.values.Item.{Item}
use Rattle.syncml_types.specs.declared.command.Plain.{Plain}
use Rattle.syncml_types.specs.declared.command.AlertCmd.{AlertCmd}
use Rattle.syncml_types.specs.declared.command.Member.{Member}
use Rattle.syncml_types.specs.declared.command.Member.TheVariants as member
use Rattle.syncml_types.specs.declared.command.Block.{Block}
use Rattle.syncml_types.specs.declared.command.SeqMember.{SeqMember}
use Rattle.syncml_types.specs.declared.command.SeqMember.TheVariants as seq_member
use Rattle.syncml_types.specs.declared.command.Command.{Command}
use Rattle.syncml_types.specs.declared.command.Command.TheVariants as command
use Rattle.syncml_types.specs.Message.{Parts}
use Rattle.syncml_types.specs.Canonical.{is_text}
use Rattle.syncml_types.specs.Fitness.{all_of, is_number, meta_texts, item_texts, plain_texts, member_texts}
use Rattle.syncml_types.specs.Fitness.{atomic_texts, seq_member_texts, sequence_texts, command_texts, IsFit}
use Rattle.syncml_codec.specs.Ranges.{PlainRange, AlertRange, MemberRange, AtomicRange, SeqMemberRange, SequenceRange}
use Rattle.syncml_codec.specs.Ranges.{CommandRange, AreNumbers}
use Rattle.dm_tree.specs.declared.nodes.Stamp.{Stamp}
use Rattle.dm_tree.specs.Nodes.{IsStamp}
use Rattle.dm_tree.specs.Devices.{IsText}
use Rattle.dm_auth.specs.declared.accounts.Account.{Account}
use Rattle.dm_atomic.specs.declared.tasks.Origin.{Origin}
use Rattle.dm_atomic.specs.declared.tasks.Named.{Named}
use Rattle.dm_atomic.specs.declared.tasks.Named.TheVariants as named
use Rattle.dm_atomic.specs.declared.tasks.Task.{Task}
use Rattle.dm_atomic.specs.declared.reports.Started.{Started}
use Rattle.dm_atomic.specs.Tasks.{item_task, item_tasks, plain_tasks, alert_task, member_tasks, members_tasks}
use Rattle.dm_atomic.specs.Tasks.{container_post}
use Rattle.dm_atomic.specs.Made.{Made, told, is_suppressed, command_told}
use Rattle.dm_atomic.specs.Made as made
use Rattle.dm_atomic.specs.Updates.{update_finished}
use Rattle.dm_atomic.specs.Run.{State, Running, Next, quietly, run_atomic, run_member, run_members, run_sequence}
use Rattle.dm_atomic.specs.Run.{run_command, run_all, still}
use Rattle.dm_pack.specs.Entries.{IsReady, whole_entry}
use Rattle.dm_machine.specs.Machine.{Machine}
use Rattle.dm_machine.specs.Messages.{is_quiet, running_for, quiet_after, execute, correlator_of}
use Rattle.dm_machine.specs.Ready.{IsReadyMade, IsCorrelator, IsReadyState}
use Rattle.dm_machine.proofs.FormedDevices.{update_device}
use Rattle.dm_machine.proofs.ToldTexts.{device_text}
use Rattle.dm_ends.proofs.Statuses.{IsReadyPost, status_is_ready}
use Rattle.dm_ends.specs.Commands.{origin_of}
use Rattle.dm_machine.proofs.ToldSteps.{IsReadyTask, IsReadyRunning}
use Rattle.dm_machine.proofs.ToldGroups.{AreReadyMade, IsReadyNext, all_append, quiet_ready, sequence_ready}
use Rattle.dm_machine.proofs.ToldGroups.{atomic_ready, still_ready}

-- ---- the tasks of a command

pub record IsReadyOrigin (o : Origin) : Type 0 where
  pub some : 0 < o.msg
  pub msg : o.msg < 2 ^ 32

abbrev AreReadyTasks : List Task → Type 0
AreReadyTasks ts = AllByRecursion IsReadyTask ts

abbrev media_of : Meta → Option (List ℕ)
media_of meta = meta.media

text_media : (o : Option (List ℕ)) → all_of is_text o ≡ true → IfSome o IsText
text_media None h = tt
text_media (Some t) h = device_text t h

meta_media : (meta : Meta) → meta_texts is_text meta ≡ true → IfSome meta.media IsText
unfolding meta_texts
meta_media meta h =
    text_media meta.media (and_parts _ _ (and_parts _ _ (and_parts _ _ (and_parts _ _ h).0).0).0).1

optional_media : (o : Option Meta) → all_of (meta_texts is_text) o ≡ true → IfSome (option_and_then media_of o) IsText
optional_media None h = tt
optional_media (Some meta) h = meta_media meta h

either_media : (o p : Option (List ℕ)) → IfSome o IsText → IfSome p IsText → IfSome (option_or o p) IsText
either_media None p h k = k
either_media (Some t) p h k = h

item_meta : (item : Item) → item_texts is_text item ≡ true → all_of (meta_texts is_text) item.meta ≡ true
unfolding item_texts
item_meta item h = (and_parts _ _ h).1

text_correlator : (o : Option (List ℕ)) → all_of is_text o ≡ true → IfSome o (λ text. is_text text ≡ true)
text_correlator None h = tt
text_correlator (Some t) h = h

-- a command whose texts are texts, with a CmdID of 32 bits
record IsReadyPlain (c : Plain) : Type 0 where
  id : c.id < 2 ^ 32
  meta : all_of (meta_texts is_text) c.meta ≡ true
  correlator : all_of is_text c.correlator ≡ true
  items : list_all (item_texts is_text) c.items ≡ true

plain_ready : (c : Plain) → PlainRange c → plain_texts is_text c ≡ true → IsReadyPlain c
unfolding plain_texts
plain_ready c range h =
    let parts = and_parts _ _ h in
    let first = and_parts _ _ parts.0 in
    record { id = range.id; meta = first.0; correlator = first.1; items = parts.1 }

item_ready : (o : Origin) (in_atomic : Bool) (c : Plain) (place : ℕ) (item : Item) → IsReadyOrigin o → IsReadyPlain c
    → item_texts is_text item ≡ true → IsReadyTask (item_task o in_atomic c place item)
item_ready o in_atomic c place item origin is h = record {
  post = record { some = origin.some; msg = origin.msg; command = is.id };
  work = record {
    media = either_media (option_and_then media_of item.meta) (option_and_then media_of c.meta)
        (optional_media item.meta (item_meta item h)) (optional_media c.meta is.meta);
    correlator = text_correlator c.correlator is.correlator;
  };
}

items_ready : (o : Origin) (in_atomic : Bool) (c : Plain) (place : ℕ) (items : List Item) → IsReadyOrigin o
    → IsReadyPlain c → list_all (item_texts is_text) items ≡ true → AreReadyTasks (item_tasks o in_atomic c place items)
items_ready o in_atomic c place [] origin is h = tt
items_ready o in_atomic c place (item ∷ items) origin is h =
    let parts = and_parts (item_texts is_text item) (list_all (item_texts is_text) items) h in (
      item_ready o in_atomic c place item origin is parts.0,
      items_ready o in_atomic c (suc place) items origin is parts.1,
    )

plain_tasks_ready : (o : Origin) (in_atomic : Bool) (c : Plain) → IsReadyOrigin o → PlainRange c
    → plain_texts is_text c ≡ true → AreReadyTasks (plain_tasks o in_atomic c)
plain_tasks_ready o in_atomic c origin range h =
    let is = plain_ready c range h in items_ready o in_atomic c 0 c.items origin is is.items

alert_ready : (o : Origin) (c : AlertCmd) → IsReadyOrigin o → AlertRange c → IsReadyTask (alert_task o c)
alert_ready o c origin range =
    record { post = record { some = origin.some; msg = origin.msg; command = range.id }; work = tt }

member_ready : (o : Origin) (in_atomic : Bool) (m : Member) → IsReadyOrigin o → MemberRange m
    → member_texts is_text m ≡ true → AreReadyTasks (member_tasks o in_atomic m)
unfolding member_texts
member_ready o in_atomic (member.One c) origin range h = plain_tasks_ready o in_atomic c origin range h
member_ready o in_atomic (member.Alert c) origin range h = (alert_ready o c origin range, tt)

members_ready : (o : Origin) (in_atomic : Bool) (ms : List Member) → IsReadyOrigin o → AllByRecursion MemberRange ms
    → list_all (member_texts is_text) ms ≡ true → AreReadyTasks (members_tasks o in_atomic ms)
members_ready o in_atomic [] origin range h = tt
members_ready o in_atomic (m ∷ ms) origin range h =
    let parts = and_parts (member_texts is_text m) (list_all (member_texts is_text) ms) h in
    all_append IsReadyTask (member_tasks o in_atomic m) (members_tasks o in_atomic ms)
    (member_ready o in_atomic m origin range.0 parts.0) (members_ready o in_atomic ms origin range.1 parts.1)

container_ready : (o : Origin) (id : ℕ) (no_resp : Bool) (name : Named) → IsReadyOrigin o → id < 2 ^ 32
    → IsReadyPost (container_post o id no_resp name)
container_ready o id no_resp name origin low = record { some = origin.some; msg = origin.msg; command = low }

-- ---- commands

next_append : (max : ℕ) (first rest : Next) → IsReadyNext max first → IsReadyNext max rest
    → IsReadyNext max (record { state = rest.state; made = first.made ++ rest.made })
next_append max first rest h k = record {
  state = k.state;
  made = all_append IsReadyMade first.made rest.made h.made k.made;
}

module _ (r : Running) (o : Origin) (running : IsReadyRunning r) (origin : IsReadyOrigin o) where
  atomic_command : (s : State) (b : Block Member) → IsReadyState r.max_obj s → AtomicRange b
      → atomic_texts is_text b ≡ true
      → IsReadyNext r.max_obj (run_atomic r o s b)
  unfolding atomic_texts
  atomic_command s b state range h =
      atomic_ready r s (container_post o b.id b.no_resp named.Atomic) (members_tasks o true b.members) running
      state (container_ready o b.id b.no_resp named.Atomic origin range.id)
      (members_ready o true b.members origin range.members (and_parts _ _ h).1)

  member_in_sequence : (s : State) (m : SeqMember) → IsReadyState r.max_obj s → SeqMemberRange m
      → seq_member_texts is_text m ≡ true → IsReadyNext r.max_obj (run_member r o s m)
  unfolding seq_member_texts
  member_in_sequence s (seq_member.Single m) state range h =
      sequence_ready r s (member_tasks o false m) running state (member_ready o false m origin range h)
  member_in_sequence s (seq_member.Atomic b) state range h = atomic_command s b state range h

  members_in_sequence : (s : State) (ms : List SeqMember) → IsReadyState r.max_obj s → AllByRecursion SeqMemberRange ms
      → list_all (seq_member_texts is_text) ms ≡ true → IsReadyNext r.max_obj (run_members r o s ms)
  members_in_sequence s [] state range h = quiet_ready r.max_obj s state
  members_in_sequence s (m ∷ ms) state range h =
      let parts = and_parts (seq_member_texts is_text m) (list_all (seq_member_texts is_text) ms) h in
      let first = member_in_sequence s m state range.0 parts.0 in
      let rest = members_in_sequence (run_member r o s m).state ms first.state range.1 parts.1 in
      next_append r.max_obj (run_member r o s m) (run_members r o (run_member r o s m).state ms) first rest

  sequence_command : (s : State) (b : Block SeqMember) → IsReadyState r.max_obj s → SequenceRange b
      → sequence_texts is_text b ≡ true → IsReadyNext r.max_obj (run_sequence r o s b)
  unfolding sequence_texts
  sequence_command s b state range h =
      let post = container_ready o b.id b.no_resp named.Sequence origin range.id in
      let answered : IsReadyMade (made.Status (container_post o b.id b.no_resp named.Sequence) 200) =
      status_is_ready (container_post o b.id b.no_resp named.Sequence) post 200 (omega arith) in
      let inside = members_in_sequence s b.members state range.members (and_parts _ _ h).1 in
      record {
        state = inside.state;
        made = (answered, inside.made);
      }

  one_command : (s : State) (c : Command) → IsReadyState r.max_obj s → CommandRange c → command_texts is_text c ≡ true
      → IsReadyNext r.max_obj (run_command r o s c)
  unfolding command_texts run_command
  one_command s (command.Plain c) state range h =
      sequence_ready r s (plain_tasks o false c) running state (plain_tasks_ready o false c origin range h)
  one_command s (command.Alert c) state range h =
      sequence_ready r s (alert_task o c ∷ []) running state (alert_ready o c origin range, tt)
  one_command s (command.Atomic b) state range h = atomic_command s b state range h
  one_command s (command.Sequence b) state range h = sequence_command s b state range h
  one_command s (command.Status c) state range h = quiet_ready r.max_obj s state
  one_command s (command.Results c) state range h = quiet_ready r.max_obj s state

  commands_ready : (s : State) (cs : List Command) → IsReadyState r.max_obj s → AllByRecursion CommandRange cs
      → list_all (command_texts is_text) cs ≡ true → IsReadyNext r.max_obj (run_all r o s cs)
  commands_ready s [] state range h = quiet_ready r.max_obj s state
  commands_ready s (c ∷ cs) state range h =
      let parts = and_parts (command_texts is_text c) (list_all (command_texts is_text) cs) h in
      let first = one_command s c state range.0 parts.0 in
      let rest = commands_ready (run_command r o s c).state cs first.state range.1 parts.1 in
      next_append r.max_obj (run_command r o s c) (run_all r o (run_command r o s c).state cs) first rest

-- ---- a message

quiet_after_ready : (max : ℕ) (m : Parts) (run : Next) → IsReadyNext max run → IsReadyNext max (quiet_after m run)
quiet_after_ready max m run is =
    next_append max run (cond (is_quiet m) (still run.state) (quietly run.state)) is
    (elim (is_quiet m) as (λ b. IsReadyNext max (cond b (still run.state) (quietly run.state))) [
      | true ↦ still_ready max run.state is.state
      | false ↦ quiet_ready max run.state is.state
    ])

number_some : (n : ℕ) → is_number n ≡ true → 0 < n
number_some n h = grind (arith, common_steps, h)

pub execute_ready : (c : Machine) (a : Account) (m : Parts) → IsStamp c.clock → c.limits.max_obj ≤ 4194304
    → IsFit m.header m.body → AreNumbers m → IsReadyState c.limits.max_obj c.engine
    → IsReadyNext c.limits.max_obj (execute c a m)
unfolding execute
execute_ready c a m clock most fit numbers state =
    let origin : IsReadyOrigin (origin_of m) =
    record { some = number_some m.header.msg (and_parts _ _ fit.numbers).0; msg = numbers.header.msg } in
    let running : IsReadyRunning (running_for c a) = record { clock = clock; max_obj = most } in
    quiet_after_ready c.limits.max_obj m (run_all (running_for c a) (origin_of m) c.engine m.body)
    (commands_ready (running_for c a) (origin_of m) running origin c.engine m.body state numbers.body
    (and_parts _ _ fit.texts).1)

-- ---- the end of an update

pub finished_update_ready : (clock : Stamp) (max : ℕ) (s : State) (ok : Bool) → IsStamp clock → IsReadyState max s
    → IsReadyState max (update_finished clock s ok)
finished_update_ready clock max s ok stamp state = record {
  tree = update_device clock s.tree ok stamp state.tree;
  fits = state.fits;
  object = state.object;
  group = state.group;
  started = tt;
}

-- ---- what is told

pub told_ready : (ms : List Made) → AreReadyMade ms → AllByRecursion IsReady (map whole_entry (told ms))
told_ready [] all = tt
told_ready (m ∷ ms) all =
    elim (is_suppressed m) as (λ b. AllByRecursion IsReady (map whole_entry (cond b (told ms) (command_told m ∷ told ms)))) [
      | true ↦ told_ready ms all.1
      | false ↦ (all.0, told_ready ms all.1)
    ]

-- ---- the Correlator of the update that was started

pub started_correlator_ready : (max : ℕ) (s : State) → IsReadyState max s
    → IfSome (correlator_of s.started) IsCorrelator
started_correlator_ready max s state = by_start s.started state.started
  where
    by_start : (o : Option Started) → IfSome o (λ (u : Started). IfSome u.correlator IsCorrelator)
        → IfSome (correlator_of o) IsCorrelator
    by_start None is = tt
    by_start (Some u) is = is
