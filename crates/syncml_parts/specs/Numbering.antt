-- CmdIDs in document order: that of a container before those of its members.
use Rattle.std.specs.Prelude.{ℕ, ◌+◌, List, [], ◌∷◌, length}
use Rattle.syncml_types.specs.declared.command.Member.{Member}
use Rattle.syncml_types.specs.declared.command.Member.TheVariants as member
use Rattle.syncml_types.specs.declared.command.SeqMember.{SeqMember}
use Rattle.syncml_types.specs.declared.command.SeqMember.TheVariants as seq_member
use Rattle.syncml_types.specs.declared.command.Command.{Command}
use Rattle.syncml_types.specs.declared.command.Command.TheVariants as command

abbrev pub with_number : ℕ → Member → Member
with_number n (member.One c) = member.One (record c { id = n })
with_number n (member.Alert c) = member.Alert (record c { id = n })

unfoldable pub numbered_members : ℕ → List Member → List Member
numbered_members n [] = []
numbered_members n (m ∷ ms) = with_number n m ∷ numbered_members (n + 1) ms

abbrev pub numbered_seq_member : ℕ → SeqMember → SeqMember
numbered_seq_member n (seq_member.Single m) = seq_member.Single (with_number n m)
numbered_seq_member n (seq_member.Atomic b) =
    seq_member.Atomic (record b { id = n; members = numbered_members (n + 1) b.members })

-- how many CmdIDs a member of a Sequence holds
abbrev pub ids_in_seq_member : SeqMember → ℕ
ids_in_seq_member (seq_member.Single m) = 1
ids_in_seq_member (seq_member.Atomic b) = 1 + length b.members

unfoldable pub numbered_seq_members : ℕ → List SeqMember → List SeqMember
numbered_seq_members n [] = []
numbered_seq_members n (m ∷ ms) = numbered_seq_member n m ∷ numbered_seq_members (n + ids_in_seq_member m) ms

unfoldable pub ids_in_seq_members : List SeqMember → ℕ
ids_in_seq_members [] = 0
ids_in_seq_members (m ∷ ms) = ids_in_seq_member m + ids_in_seq_members ms

-- how many CmdIDs a command holds
unfoldable pub ids_in : Command → ℕ
ids_in (command.Plain c) = 1
ids_in (command.Alert c) = 1
ids_in (command.Atomic b) = 1 + length b.members
ids_in (command.Sequence b) = 1 + ids_in_seq_members b.members
ids_in (command.Status c) = 1
ids_in (command.Results c) = 1

-- a command with CmdIDs from a number on
unfoldable pub with_numbers : ℕ → Command → Command
with_numbers n (command.Plain c) = command.Plain (record c { id = n })
with_numbers n (command.Alert c) = command.Alert (record c { id = n })
with_numbers n (command.Atomic b) = command.Atomic (record b { id = n; members = numbered_members (n + 1) b.members })
with_numbers n (command.Sequence b) =
    command.Sequence (record b { id = n; members = numbered_seq_members (n + 1) b.members })
with_numbers n (command.Status c) = command.Status (record c { id = n })
with_numbers n (command.Results c) = command.Results (record c { id = n })

-- ---- how lists are numbered in place

-- the first of some members numbered
abbrev pub first_numbered : ℕ → List Member → List Member
first_numbered n [] = []
first_numbered n (m ∷ ms) = with_number n m ∷ ms

abbrev pub first_seq_numbered : ℕ → List SeqMember → List SeqMember
first_seq_numbered n [] = []
first_seq_numbered n (m ∷ ms) = numbered_seq_member n m ∷ ms
