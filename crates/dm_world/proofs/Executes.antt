-- What is executed of a message are its acts.
use Rattle.std.proofs.Common.{suc, ◌≡◌, ℕ, Bool, true, false, cond, List, [], ◌∷◌, ◌++◌, refl, sym, ◌∙◌, ap}
use Rattle.std.proofs.Common.{append_assoc}
use Rattle.syncml_types.specs.declared.values.Item.{Item}
use Rattle.syncml_types.specs.declared.command.Plain.{Plain}
use Rattle.syncml_types.specs.declared.command.Member.{Member}
use Rattle.syncml_types.specs.declared.command.Member.TheVariants as member
use Rattle.syncml_types.specs.declared.command.SeqMember.{SeqMember}
use Rattle.syncml_types.specs.declared.command.SeqMember.TheVariants as seq_member
use Rattle.syncml_types.specs.declared.command.Command.{Command}
use Rattle.syncml_types.specs.declared.command.Command.TheVariants as command
use Rattle.dm_atomic.specs.declared.tasks.Named.TheVariants as named
use Rattle.dm_atomic.specs.declared.tasks.Origin.{Origin}
use Rattle.dm_atomic.specs.declared.tasks.Task.{Task}
use Rattle.dm_atomic.specs.Tasks.{item_tasks, member_tasks, members_tasks}
use Rattle.dm_world.specs.Deeds.{Deed, step_deed, step_deeds, member_deeds, members_deeds, command_deeds, all_deeds}
use Rattle.dm_world.specs.World.{InSession, each_in_session}
use Rattle.dm_world.specs.Acts.{Act, block, item_act, item_acts, member_acts, members_acts, seq_member_acts}
use Rattle.dm_world.specs.Acts.{seq_members_acts, command_acts, acts, doing_acts, deeds_acts}
use Rattle.dm_world.specs.Packing.{ExecutesAll}
use Rattle.dm_ends.specs.Commands.{origin_of}

abbrev pub deed_acts : List Deed → List Act
deed_acts [] = []
deed_acts (d ∷ ds) = doing_acts d.doing ++ deed_acts ds

pub deeds-append : (a b : List Deed) → deed_acts (a ++ b) ≡ deed_acts a ++ deed_acts b
deeds-append [] b = refl
deeds-append (d ∷ ds) b =
    ap (λ x. doing_acts d.doing ++ x) (deeds-append ds b)
    ∙ sym (append_assoc (doing_acts d.doing) (deed_acts ds) (deed_acts b))

item-deeds : (o : Origin) (a : Bool) (p : Plain) (n : ℕ) (is : List Item)
    → deed_acts (step_deeds (item_tasks o a p n is)) ≡ item_acts a p is
item-deeds o a p n [] = refl
item-deeds o a p n (i ∷ is) = ap (λ x. item_act a p i ∷ x) (item-deeds o a p (suc n) is)

step-append : (a b : List Task) → step_deeds (a ++ b) ≡ step_deeds a ++ step_deeds b
step-append [] b = refl
step-append (t ∷ ts) b = ap (λ x. step_deed t ∷ x) (step-append ts b)

one-deeds : (o : Origin) (a : Bool) (m : Member) → deed_acts (step_deeds (member_tasks o a m)) ≡ member_acts a m
one-deeds o a (member.One p) = item-deeds o a p 0 p.items
one-deeds o a (member.Alert c) = refl

inner-deeds : (o : Origin) (a : Bool) (ms : List Member)
    → deed_acts (step_deeds (members_tasks o a ms)) ≡ members_acts a ms
inner-deeds o a [] = refl
inner-deeds o a (m ∷ ms) =
    ap deed_acts (step-append (member_tasks o a m) (members_tasks o a ms))
    ∙ deeds-append (step_deeds (member_tasks o a m)) (step_deeds (members_tasks o a ms))
    ∙ ap (λ x. x ++ deed_acts (step_deeds (members_tasks o a ms))) (one-deeds o a m)
    ∙ ap (λ x. member_acts a m ++ x) (inner-deeds o a ms)

seq-deeds : (o : Origin) (m : SeqMember) → deed_acts (member_deeds o m) ≡ seq_member_acts m
seq-deeds o (seq_member.Single m) = one-deeds o false m
seq-deeds o (seq_member.Atomic b) = ap (λ x. block named.Atomic ∷ x) (inner-deeds o true b.members)

all-seq-deeds : (o : Origin) (ms : List SeqMember) → deed_acts (members_deeds o ms) ≡ seq_members_acts ms
all-seq-deeds o [] = refl
all-seq-deeds o (m ∷ ms) =
    deeds-append (member_deeds o m) (members_deeds o ms)
    ∙ ap (λ x. x ++ deed_acts (members_deeds o ms)) (seq-deeds o m)
    ∙ ap (λ x. seq_member_acts m ++ x) (all-seq-deeds o ms)

pub command-deeds : (o : Origin) (c : Command) → deed_acts (command_deeds o c) ≡ command_acts c
command-deeds o (command.Plain p) = item-deeds o false p 0 p.items
command-deeds o (command.Alert a) = refl
command-deeds o (command.Atomic b) = ap (λ x. block named.Atomic ∷ x) (inner-deeds o true b.members)
command-deeds o (command.Sequence b) = ap (λ x. block named.Sequence ∷ x) (all-seq-deeds o b.members)
command-deeds o (command.Status c) = refl
command-deeds o (command.Results c) = refl

pub message-deeds : (o : Origin) (cs : List Command) → deed_acts (all_deeds o cs) ≡ acts cs
message-deeds o [] = refl
message-deeds o (c ∷ cs) =
    deeds-append (command_deeds o c) (all_deeds o cs)
    ∙ ap (λ x. x ++ deed_acts (all_deeds o cs)) (command-deeds o c)
    ∙ ap (λ x. command_acts c ++ x) (message-deeds o cs)

pub done-append : (a b : List (InSession Deed)) → deeds_acts (a ++ b) ≡ deeds_acts a ++ deeds_acts b
done-append [] b = refl
done-append (d ∷ ds) b =
    ap (λ x. doing_acts d.what.doing ++ x) (done-append ds b)
    ∙ sym (append_assoc (doing_acts d.what.doing) (deeds_acts ds) (deeds_acts b))

pub session-deeds : (n : ℕ) (ds : List Deed) → deeds_acts (each_in_session n ds) ≡ deed_acts ds
session-deeds n [] = refl
session-deeds n (d ∷ ds) = ap (λ x. doing_acts d.doing ++ x) (session-deeds n ds)

pub executes_all : ExecutesAll
executes_all c p m nonce e =
    ap (λ b. deeds_acts (cond b (each_in_session p.number (all_deeds (origin_of m) m.body)) [])) e
    ∙ session-deeds p.number (all_deeds (origin_of m) m.body)
    ∙ message-deeds (origin_of m) m.body
