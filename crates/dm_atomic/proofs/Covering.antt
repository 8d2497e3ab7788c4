-- What the tasks of a command cover, the command covers.
use Rattle.std.proofs.Common.{◌≡◌, ℕ, suc, Bool, true, false, List, [], ◌∷◌, refl, sym, ◌∙◌, ap}
use Rattle.std.specs.Prelude.{◌||◌}
use Rattle.std.specs.List.{list_any}
use Rattle.std.proofs.lemmas.List.Folds.{list_any-append}
use Rattle.syncml_types.specs.declared.values.Item.{Item}
use Rattle.syncml_types.specs.declared.command.Block.{Block}
use Rattle.syncml_types.specs.declared.command.Command.TheVariants as commands
use Rattle.syncml_types.specs.declared.command.Member.{Member}
use Rattle.syncml_types.specs.declared.command.Member.TheVariants as member
use Rattle.syncml_types.specs.declared.command.Plain.{Plain}
use Rattle.syncml_types.specs.declared.command.SeqMember.{SeqMember}
use Rattle.syncml_types.specs.declared.command.SeqMember.TheVariants as seq
use Rattle.dm_tree.specs.Nodes.{Path}
use Rattle.dm_atomic.specs.declared.tasks.Origin.{Origin}
use Rattle.dm_atomic.specs.declared.tasks.Task.{Task}
use Rattle.dm_atomic.specs.Tasks.{item_tasks, plain_tasks, member_tasks, members_tasks}
use Rattle.dm_atomic.specs.Marks.{Whole as AllOf}
use Rattle.dm_atomic.specs.Stays.{item_covers, plain_covers, member_covers, seq_member_covers, covers, task_covers}
use Rattle.dm_atomic.specs.Stays.{work_covers, tasks_cover, StayBut}
use Rattle.dm_atomic.proofs.Staying.{stay_then, stay_within}

parts-false : (a b : Bool) → a || b ≡ false → (a ≡ false) × (b ≡ false)
parts-false true b e = absurd (cc)
parts-false false b e = (refl, e)

both-false : (a b : Bool) → a ≡ false → b ≡ false → a || b ≡ false
both-false a b e f = ap (λ x. x || b) e ∙ f

items-cover : (origin : Origin) (b : Bool) (command : Plain) (place : ℕ) (items : List Item) (p : Path)
    → list_any (item_covers command p) items ≡ false → tasks_cover (item_tasks origin b command place items) p ≡ false
items-cover origin b command place [] p e = refl
items-cover origin b command place (item ∷ items) p e =
    let parts = parts-false (item_covers command p item) (list_any (item_covers command p) items) e in
    both-false (item_covers command p item) _ parts.0 (items-cover origin b command (suc place) items p parts.1)

member-cover : (origin : Origin) (b : Bool) (m : Member) (p : Path) → member_covers p m ≡ false
    → tasks_cover (member_tasks origin b m) p ≡ false
member-cover origin b (member.One command) p e = items-cover origin b command 0 command.items p e
member-cover origin b (member.Alert alert) p e = refl

members-cover : (origin : Origin) (b : Bool) (ms : List Member) (p : Path) → list_any (member_covers p) ms ≡ false
    → tasks_cover (members_tasks origin b ms) p ≡ false
members-cover origin b [] p e = refl
members-cover origin b (m ∷ ms) p e =
    let parts = parts-false (member_covers p m) (list_any (member_covers p) ms) e in
    list_any-append (task_covers p) (member_tasks origin b m) (members_tasks origin b ms)
    ∙ both-false (tasks_cover (member_tasks origin b m) p) _ (member-cover origin b m p parts.0)
    (members-cover origin b ms p parts.1)

-- tasks that cover no more than a command does
pub record IsWithin (command : Plain) (ts : List Task) : Type 0 where
  pub each : (p : Path) → plain_covers p command ≡ false → tasks_cover ts p ≡ false

pub all_within : (origin : Origin) (command : Plain) → IsWithin command (plain_tasks origin false command)
all_within origin command = record { each = items-cover origin false command 0 command.items }

one-within : (command : Plain) (ahead left : List Task) (t : Task) → IsWithin command ahead → ahead ≡ t ∷ left
    → (p : Path) → plain_covers p command ≡ false → (work_covers t.work p ≡ false) × (tasks_cover left p ≡ false)
one-within command ahead left t i e p u =
    parts-false (work_covers t.work p) (tasks_cover left p) (ap (λ ts. tasks_cover ts p) (sym e) ∙ i.each p u)

pub left_within : (command : Plain) (ahead left : List Task) (t : Task) → IsWithin command ahead → ahead ≡ t ∷ left
    → IsWithin command left
left_within command ahead left t i e = record { each = λ p u. (one-within command ahead left t i e p u).1 }

-- ---- so nodes stay that the command doesn't cover

pub task_stays : (command : Plain) (ahead left : List Task) (t : Task) (v w x : AllOf) → IsWithin command ahead
    → ahead ≡ t ∷ left → StayBut (covers (commands.Plain command)) v w → StayBut (work_covers t.work) w x
    → StayBut (covers (commands.Plain command)) v x
unfolding covers
task_stays command ahead left t v w x i e a b =
    stay_then (λ p. plain_covers p command) v w x a
    (stay_within (work_covers t.work) (λ p. plain_covers p command) w x
    (λ p u. (one-within command ahead left t i e p u).0) b)

pub one_stays : (m : Member) (command : Plain) (v w : AllOf) → m ≡ member.One command
    → StayBut (covers (commands.Plain command)) v w → StayBut (λ p. member_covers p m) v w
unfolding covers
one_stays m command v w is a =
    stay_within (λ p. plain_covers p command) (λ p. member_covers p m) v w (λ p u. ap (member_covers p) (sym is) ∙ u) a

pub atomic_stay : (origin : Origin) (b : Bool) (block : Block Member) (ts : List Task) (v w : AllOf)
    → ts ≡ members_tasks origin b block.members → StayBut (tasks_cover ts) v w
    → StayBut (covers (commands.Atomic block)) v w
unfolding covers
atomic_stay origin b block ts v w is a =
    stay_within (tasks_cover ts) (λ p. list_any (member_covers p) block.members) v w
    (λ p u. ap (λ l. tasks_cover l p) is ∙ members-cover origin b block.members p u) a

pub block_stay : (m : SeqMember) (block : Block Member) (v w : AllOf) → m ≡ seq.Atomic block
    → StayBut (covers (commands.Atomic block)) v w → StayBut (λ p. seq_member_covers p m) v w
unfolding covers
block_stay m block v w is a =
    stay_within (λ p. list_any (member_covers p) block.members) (λ p. seq_member_covers p m) v w
    (λ p u. ap (seq_member_covers p) (sym is) ∙ u) a

pub sequence_stay : (block : Block SeqMember) (ms : List SeqMember) (v w : AllOf) → ms ≡ block.members
    → StayBut (λ p. list_any (seq_member_covers p) ms) v w → StayBut (covers (commands.Sequence block)) v w
unfolding covers
sequence_stay block ms v w is a =
    stay_within (λ p. list_any (seq_member_covers p) ms) (λ p. list_any (seq_member_covers p) block.members) v w
    (λ p u. ap (list_any (seq_member_covers p)) is ∙ u) a
