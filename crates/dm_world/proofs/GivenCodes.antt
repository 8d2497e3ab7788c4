-- What stands under a MsgID and a CmdID in a message of the server is what was executed under them.
use Rattle.std.proofs.Common.{suc, ◌≡◌, ℕ, Bool, List, [], ◌∷◌, ◌++◌, Option, None, Some, refl, sym, ◌∙◌, ap}
use Rattle.std.proofs.Common.{subst, arith, inl, inr, true, false}
use Rattle.std.specs.List.{Contains}
use Rattle.syncml_types.specs.declared.values.Item.{Item}
use Rattle.syncml_types.specs.declared.command.Plain.{Plain}
use Rattle.syncml_types.specs.declared.command.Member.{Member}
use Rattle.syncml_types.specs.declared.command.Member.TheVariants as member
use Rattle.syncml_types.specs.declared.command.SeqMember.{SeqMember}
use Rattle.syncml_types.specs.declared.command.SeqMember.TheVariants as seq_member
use Rattle.syncml_types.specs.declared.command.Command.{Command}
use Rattle.syncml_types.specs.declared.command.Command.TheVariants as command
use Rattle.syncml_types.specs.Message.{Parts}
use Rattle.dm_atomic.specs.declared.tasks.Origin.{Origin}
use Rattle.dm_atomic.specs.declared.tasks.Task.{Task}
use Rattle.dm_atomic.specs.Tasks.{item_tasks, member_tasks, members_tasks}
use Rattle.dm_ends.specs.Commands.{session_of, origin_of}
use Rattle.dm_job.specs.declared.job.JobEntry.{JobEntry}
use Rattle.dm_service.specs.declared.sent.Sent.{Sent}
use Rattle.dm_service.specs.Service.{Session as Serving}
use Rattle.dm_world.specs.Deeds.{Deed, step_deeds, member_deeds, members_deeds, command_deeds, all_deeds}
use Rattle.dm_world.specs.World.{Reply}
use Rattle.dm_world.specs.Commands.{StandsInMessage, StandsAs}
use Rattle.dm_world.proofs.Lists.{Each, StandsIn, each-append, each-within, picked}
use Rattle.dm_world.proofs.Numbers.{session_number, IsRead}
use Rattle.dm_world.proofs.Lockstep.{DownOk, Below, Falls, message_of}
use Rattle.dm_world.proofs.SaysMade.{each-contains}
use Rattle.dm_world.proofs.Rising.{rises-one}
use Rattle.dm_world.proofs.Noted.{ReplyRises}

-- ---- what stands in a message answers to its MsgID

abbrev pub IsOf : Origin → Deed → Type 0
IsOf o d = d.post.msg ≡ o.msg

step-append : (o : Origin) (a b : List Task) → Each (IsOf o) (step_deeds a) → Each (IsOf o) (step_deeds b)
    → Each (IsOf o) (step_deeds (a ++ b))
step-append o [] b h k = k
step-append o (t ∷ ts) b h k = (h.0, step-append o ts b h.1 k)

items-of : (o : Origin) (a : Bool) (p : Plain) (n : ℕ) (is : List Item)
    → Each (IsOf o) (step_deeds (item_tasks o a p n is))
items-of o a p n [] = tt
items-of o a p n (i ∷ is) = (refl, items-of o a p (suc n) is)

member-of : (o : Origin) (a : Bool) (m : Member) → Each (IsOf o) (step_deeds (member_tasks o a m))
member-of o a (member.One p) = items-of o a p 0 p.items
member-of o a (member.Alert c) = (refl, tt)

members-of : (o : Origin) (a : Bool) (ms : List Member) → Each (IsOf o) (step_deeds (members_tasks o a ms))
members-of o a [] = tt
members-of o a (m ∷ ms) =
    step-append o (member_tasks o a m) (members_tasks o a ms) (member-of o a m) (members-of o a ms)

single-of : (o : Origin) (m : SeqMember) → Each (IsOf o) (member_deeds o m)
single-of o (seq_member.Single m) = member-of o false m
single-of o (seq_member.Atomic b) = (refl, members-of o true b.members)

sequence-of : (o : Origin) (ms : List SeqMember) → Each (IsOf o) (members_deeds o ms)
sequence-of o [] = tt
sequence-of o (m ∷ ms) =
    each-append (IsOf o) (member_deeds o m) (members_deeds o ms) (single-of o m) (sequence-of o ms)

command-of : (o : Origin) (c : Command) → Each (IsOf o) (command_deeds o c)
command-of o (command.Plain p) = items-of o false p 0 p.items
command-of o (command.Alert a) = (refl, tt)
command-of o (command.Atomic b) = (refl, members-of o true b.members)
command-of o (command.Sequence b) = (refl, sequence-of o b.members)
command-of o (command.Status c) = tt
command-of o (command.Results c) = tt

pub all-of : (o : Origin) (cs : List Command) → Each (IsOf o) (all_deeds o cs)
all-of o [] = tt
all-of o (c ∷ cs) = each-append (IsOf o) (command_deeds o c) (all_deeds o cs) (command-of o c) (all-of o cs)

-- ---- one message of a session has a MsgID

falls-one : (downs : List Reply) (x y : Reply) → Falls message_of downs → StandsIn x downs → StandsIn y downs
    → session_number x.message ≡ session_number y.message → x.message.header.msg ≡ y.message.header.msg
    → x ≡ y
falls-one [] x y h v w e f = absurd v
falls-one (z ∷ zs) x y h (inl a) (inl b) e f = a ∙ sym b
falls-one (z ∷ zs) x y h (inl a) (inr w) e f =
    let below = each-within (λ r. Below (session_number z.message) z.message.header.msg (message_of r)) zs y h.0 w in
    let n = ap (λ (r : Reply). session_number r.message) a in
    let k = ap (λ (r : Reply). r.message.header.msg) a in
    let less = below.id (sym e ∙ n) in
    absurd (omega (arith, less, f, k))
falls-one (z ∷ zs) x y h (inr v) (inl b) e f =
    let below = each-within (λ r. Below (session_number z.message) z.message.header.msg (message_of r)) zs x h.0 v in
    let n = ap (λ (r : Reply). session_number r.message) b in
    let k = ap (λ (r : Reply). r.message.header.msg) b in
    let less = below.id (e ∙ n) in
    absurd (omega (arith, less, f, k))
falls-one (z ∷ zs) x y h (inr v) (inr w) e f = falls-one zs x y h.1 v w e f

pub down-read : (v : Option Serving) (ups : List Parts) (r : Reply) → DownOk v ups r → IsRead r.message
down-read None ups r h = absurd h
down-read (Some y) ups r h = h.read

pub said-number : (r : Reply) (n : ℕ) → IsRead r.message → session_of r.message ≡ Some n → session_number r.message ≡ n
said-number r n read e = same (session_number r.message) n (session_of r.message) read.told e
  where
    same : (a b : ℕ) (o : Option ℕ) → o ≡ Some a → o ≡ Some b → a ≡ b
    same a b o e f = cc

-- ---- what was executed under these two numbers is the command of the job

-- what stands in a message under a CmdID is what was executed under it
pub same-deed : (packages : List (List JobEntry)) (downs : List Reply) (n : ℕ) (x : Sent) (d : Deed)
    → Falls message_of downs → Each (λ (r : Reply). IsRead r.message) downs → Each ReplyRises downs
    → (h : StandsAs packages downs n x)
    → StandsInMessage downs (record { session = n; what = d }) → d.post.msg ≡ x.msg → d.post.command ≡ x.command
    → h.deed ≡ d
same-deed packages downs n x d falls read rising h s e f =
    let first = picked downs h.at h.reply h.was_sent in
    let second = picked downs s.at s.reply s.was_sent in
    let origin =
    each-contains (IsOf (origin_of s.reply.message)) (all_deeds (origin_of s.reply.message) s.reply.message.body)
    d (all-of (origin_of s.reply.message) s.reply.message.body) s.within in
    let one = said-number h.reply n (each-within (λ (r : Reply). IsRead r.message) downs h.reply read first)
    h.session_is in
    let two = said-number s.reply n (each-within (λ (r : Reply). IsRead r.message) downs s.reply read second)
    s.session_is in
    let same : s.reply ≡ h.reply =
    falls-one downs s.reply h.reply falls second first (two ∙ sym one) (sym origin ∙ e ∙ sym h.msg_is) in
    let within = subst
    (λ (r : Reply). Contains (all_deeds (origin_of r.message) r.message.body) d) same s.within in
    let rise = each-within ReplyRises downs h.reply rising first in
    rises-one 1 rise.0 (all_deeds (origin_of h.reply.message) h.reply.message.body) h.deed d rise.1 h.within within
    (h.command_is ∙ sym f)

pub each-read : (v : Option Serving) (ups : List Parts) (downs : List Reply) → Each (DownOk v ups) downs
    → Each (λ (r : Reply). IsRead r.message) downs
each-read v ups [] h = tt
each-read v ups (r ∷ rs) h = (down-read v ups r h.0, each-read v ups rs h.1)
