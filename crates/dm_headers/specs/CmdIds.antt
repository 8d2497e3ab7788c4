-- The CmdIDs of a message, in document order: those of commands, of their members, of Statuses and of Results.
use Rattle.std.specs.Prelude.{◌==◌, ◌||◌, ℕ, Bool, false, List, [], ◌∷◌, ◌++◌, map}
use Rattle.std.specs.List.{list_any}
use Rattle.syncml_types.specs.declared.command.Member.{Member}
use Rattle.syncml_types.specs.declared.command.Member.TheVariants as member
use Rattle.syncml_types.specs.declared.command.SeqMember.{SeqMember}
use Rattle.syncml_types.specs.declared.command.SeqMember.TheVariants as seq_member
use Rattle.syncml_types.specs.declared.command.Command.{Command}
use Rattle.syncml_types.specs.declared.command.Command.TheVariants as command

abbrev pub member_id : Member → ℕ
member_id (member.One c) = c.id
member_id (member.Alert c) = c.id

abbrev pub seq_member_ids : SeqMember → List ℕ
seq_member_ids (seq_member.Single m) = member_id m ∷ []
seq_member_ids (seq_member.Atomic b) = b.id ∷ map member_id b.members

abbrev pub seq_members_ids : List SeqMember → List ℕ
seq_members_ids [] = []
seq_members_ids (m ∷ ms) = seq_member_ids m ++ seq_members_ids ms

abbrev pub command_ids : Command → List ℕ
command_ids (command.Plain c) = c.id ∷ []
command_ids (command.Alert c) = c.id ∷ []
command_ids (command.Atomic b) = b.id ∷ map member_id b.members
command_ids (command.Sequence b) = b.id ∷ seq_members_ids b.members
command_ids (command.Status c) = c.id ∷ []
command_ids (command.Results c) = c.id ∷ []

abbrev pub body_ids : List Command → List ℕ
body_ids [] = []
body_ids (c ∷ cs) = command_ids c ++ body_ids cs

-- two of them are equal
abbrev pub has_twins : List ℕ → Bool
has_twins [] = false
has_twins (n ∷ ns) = list_any (λ m. m == n) ns || has_twins ns
