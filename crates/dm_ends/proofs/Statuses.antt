-- The Statuses of a message's commands can be sent.
use Rattle.std.proofs.Common.{◌≡◌, ◌<◌, ◌≤◌, ◌^◌, ℕ, suc, Bool, true, false, cond, List, [], ◌∷◌, ◌++◌, length, map}
use Rattle.std.proofs.Common.{None, refl, arith}
use Rattle.std.specs.List.{AllByRecursion}
use Rattle.std.proofs.lemmas.Bool.{and_parts}
use Rattle.syncml_types.specs.declared.values.Item.{Item}
use Rattle.syncml_types.specs.declared.command.Plain.{Plain}
use Rattle.syncml_types.specs.declared.command.AlertCmd.{AlertCmd}
use Rattle.syncml_types.specs.declared.command.Member.{Member}
use Rattle.syncml_types.specs.declared.command.Member.TheVariants as member
use Rattle.syncml_types.specs.declared.command.SeqMember.{SeqMember}
use Rattle.syncml_types.specs.declared.command.SeqMember.TheVariants as seq_member
use Rattle.syncml_types.specs.declared.command.Command.{Command}
use Rattle.syncml_types.specs.declared.command.Command.TheVariants as command
use Rattle.syncml_types.specs.declared.command.Verb.TheVariants as verb
use Rattle.syncml_types.specs.Message.{Parts}
use Rattle.syncml_types.specs.Canonical.{is_text}
use Rattle.syncml_types.specs.Fitness.{IsFit}
use Rattle.syncml_codec.specs.Ranges.{PlainRange, AlertRange, MemberRange, SeqMemberRange, CommandRange, AreNumbers}
use Rattle.dm_atomic.specs.declared.tasks.Origin.{Origin}
use Rattle.dm_atomic.specs.declared.tasks.Named.{Named}
use Rattle.dm_atomic.specs.declared.tasks.Named.TheVariants as named
use Rattle.dm_atomic.specs.declared.tasks.Post.{Post}
use Rattle.dm_atomic.specs.declared.tasks.Task.{Task}
use Rattle.dm_atomic.specs.Tasks.{named_text, item_tasks, plain_tasks, alert_task, member_tasks, members_tasks}
use Rattle.dm_atomic.specs.Tasks.{container_post}
use Rattle.dm_atomic.specs.Made.{Made, Status, command_told, is_suppressed, told, uri_in}
use Rattle.dm_atomic.specs.Posts.{task_posts, atomic_posts, member_posts, members_posts, asked_posts, all_asked}
use Rattle.dm_pack.specs.Entries.{IsReady, whole_entry}
use Rattle.dm_pack.proofs.Ready.{IsText, status_ready}
use Rattle.dm_ends.proofs.Texts.{known_number}
use Rattle.dm_ends.proofs.Uris.{visible_text, uri_in_text}

-- ---- one Status

pub record IsReadyPost (p : Post) : Type 0 where
  pub some : 0 < p.msg
  pub msg : p.msg < 2 ^ 32
  pub command : p.command < 2 ^ 32

word : (t : List ℕ) → is_text t ≡ true → length t ≤ 20 → IsText 20 t
word t text few = record { text = text; few = few }

named_word : (n : Named) → IsText 20 (named_text n)
named_word (named.Verb verb.Add) = word _ (visible_text _ refl) (omega arith)
named_word (named.Verb verb.Copy) = word _ (visible_text _ refl) (omega arith)
named_word (named.Verb verb.Delete) = word _ (visible_text _ refl) (omega arith)
named_word (named.Verb verb.Exec) = word _ (visible_text _ refl) (omega arith)
named_word (named.Verb verb.Get) = word _ (visible_text _ refl) (omega arith)
named_word (named.Verb verb.Replace) = word _ (visible_text _ refl) (omega arith)
named_word named.Alert = word _ (visible_text _ refl) (omega arith)
named_word named.Atomic = word _ (visible_text _ refl) (omega arith)
named_word named.Sequence = word _ (visible_text _ refl) (omega arith)

pub status_is_ready : (p : Post) → IsReadyPost p → (code : ℕ) → code < 2 ^ 32
    → IsReady (whole_entry (command_told (Status p code)))
status_is_ready p is code low =
    status_ready p.msg p.command (named_text p.name) (uri_in p.target) None code is.some is.msg is.command
    (named_word p.name) (uri_in_text p.target) tt low

-- ---- those of a command

pub record IsReadyOrigin (o : Origin) : Type 0 where
  pub some : 0 < o.msg
  pub msg : o.msg < 2 ^ 32

pub origin_ready : (m : Parts) → IsFit m.header m.body → AreNumbers m
    → IsReadyOrigin (record { msg = m.header.msg; quiet = m.header.no_resp })
origin_ready m fit numbers = record { some = known_number m fit; msg = numbers.header.msg }

abbrev pub AreReadyPosts : List Post → Type 0
AreReadyPosts = AllByRecursion IsReadyPost

posts_append : (ps qs : List Post) → AreReadyPosts ps → AreReadyPosts qs → AreReadyPosts (ps ++ qs)
posts_append [] qs h k = k
posts_append (p ∷ ps) qs h k = (h.0, posts_append ps qs h.1 k)

tasks_both : (ts us : List Task) → AreReadyPosts (task_posts ts) → AreReadyPosts (task_posts us)
    → AreReadyPosts (task_posts (ts ++ us))
tasks_both [] us h k = k
tasks_both (t ∷ ts) us h k = (h.0, tasks_both ts us h.1 k)

items_posts : (o : Origin) (in_atomic : Bool) (c : Plain) (place : ℕ) (items : List Item) → IsReadyOrigin o
    → c.id < 2 ^ 32
    → AreReadyPosts (task_posts (item_tasks o in_atomic c place items))
items_posts o in_atomic c place [] is low = tt
items_posts o in_atomic c place (item ∷ items) is low =
    (record { some = is.some; msg = is.msg; command = low }, items_posts o in_atomic c (suc place) items is low)

plain_posts : (o : Origin) (in_atomic : Bool) (c : Plain) → IsReadyOrigin o → PlainRange c
    → AreReadyPosts (task_posts (plain_tasks o in_atomic c))
plain_posts o in_atomic c is range = items_posts o in_atomic c 0 c.items is range.id

alert_post : (o : Origin) (c : AlertCmd) → IsReadyOrigin o → AlertRange c → IsReadyPost (alert_task o c).post
alert_post o c is range = record { some = is.some; msg = is.msg; command = range.id }

one_posts : (o : Origin) (in_atomic : Bool) (m : Member) → IsReadyOrigin o → MemberRange m
    → AreReadyPosts (task_posts (member_tasks o in_atomic m))
one_posts o in_atomic (member.One c) is range = plain_posts o in_atomic c is range
one_posts o in_atomic (member.Alert c) is range = (alert_post o c is range, tt)

all_posts : (o : Origin) (in_atomic : Bool) (ms : List Member) → IsReadyOrigin o → AllByRecursion MemberRange ms
    → AreReadyPosts (task_posts (members_tasks o in_atomic ms))
all_posts o in_atomic [] is range = tt
all_posts o in_atomic (m ∷ ms) is range =
    tasks_both (member_tasks o in_atomic m) (members_tasks o in_atomic ms) (one_posts o in_atomic m is range.0)
    (all_posts o in_atomic ms is range.1)

container_ready : (o : Origin) (id : ℕ) (no_resp : Bool) (name : Named) → IsReadyOrigin o → id < 2 ^ 32
    → IsReadyPost (container_post o id no_resp name)
container_ready o id no_resp name is low = record { some = is.some; msg = is.msg; command = low }

single_posts : (o : Origin) (m : SeqMember) → IsReadyOrigin o → SeqMemberRange m → AreReadyPosts (member_posts o m)
single_posts o (seq_member.Single m) is range = one_posts o false m is range
single_posts o (seq_member.Atomic b) is range =
    (container_ready o b.id b.no_resp named.Atomic is range.id, all_posts o true b.members is range.members)

sequence_posts : (o : Origin) (ms : List SeqMember) → IsReadyOrigin o → AllByRecursion SeqMemberRange ms
    → AreReadyPosts (members_posts o ms)
sequence_posts o [] is range = tt
sequence_posts o (m ∷ ms) is range =
    posts_append (member_posts o m) (members_posts o ms) (single_posts o m is range.0) (sequence_posts o ms is range.1)

pub posts_ready : (o : Origin) (c : Command) → IsReadyOrigin o → CommandRange c → AreReadyPosts (asked_posts o c)
unfolding asked_posts
posts_ready o (command.Plain c) is range = plain_posts o false c is range
posts_ready o (command.Alert c) is range = (alert_post o c is range, tt)
posts_ready o (command.Atomic b) is range =
    (container_ready o b.id b.no_resp named.Atomic is range.id, all_posts o true b.members is range.members)
posts_ready o (command.Sequence b) is range =
    (container_ready o b.id b.no_resp named.Sequence is range.id, sequence_posts o b.members is range.members)
posts_ready o (command.Status c) is range = tt
posts_ready o (command.Results c) is range = tt

-- ---- what is told

abbrev pub AreReadyMade : List Made → Type 0
AreReadyMade = AllByRecursion (λ made. IsReady (whole_entry (command_told made)))

told_step : (m : Made) (b : Bool) (entries : List Command) → IsReady (whole_entry (command_told m))
    → AllByRecursion IsReady (map whole_entry entries)
    → AllByRecursion IsReady (map whole_entry (cond b entries (command_told m ∷ entries)))
told_step m true entries first rest = rest
told_step m false entries first rest = (first, rest)

pub told_ready : (ms : List Made) → AreReadyMade ms → AllByRecursion IsReady (map whole_entry (told ms))
told_ready [] all = tt
told_ready (m ∷ ms) all = told_step m (is_suppressed m) (told ms) all.0 (told_ready ms all.1)
