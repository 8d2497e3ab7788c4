-- What values end as, once a `&mut` to the item that may be cut has ended: with the last item written through it, and
-- at `None` as they were.
use Rattle.std.specs.Prelude.{List, Option}
use Rattle.std.specs.Borrow.{LendsIf, Fml, RattleType, MutBor}
use Rattle.dm_base.specs.contracts.list.List as list
use Rattle.syncml_types.specs.contracts.values.Item as item
use Rattle.syncml_types.specs.contracts.command.Member as member
use Rattle.syncml_types.specs.contracts.command.SeqMember as seq_member
use Rattle.syncml_types.specs.contracts.command.Command as command
use Rattle.syncml_types.specs.declared.values.Item.{Item}
use Rattle.syncml_types.specs.declared.command.Verb.{Verb}
use Rattle.syncml_types.specs.declared.command.Member.{Member}
use Rattle.syncml_types.specs.declared.command.SeqMember.{SeqMember}
use Rattle.syncml_types.specs.declared.command.Command.{Command}
use Rattle.syncml_parts.specs.Packing.{only_changed, write_changed, member_changed, seq_member_changed, last_changed}
use Rattle.syncml_parts.specs.Packing.{cut_changed}

-- the last of a list
abbrev pub lends_last : (T : RattleType) → MutBor (List T.Denot) → Option (MutBor T.Denot) → Fml
lends_last T values r = LendsIf (list.the_row T) T values r (λ w. last_changed (λ _. w) values.now) values.now

-- the one item of a list
abbrev pub lends_only : MutBor (List Item) → Option (MutBor Item) → Fml
lends_only items r =
    LendsIf (list.the_row item.the_row) item.the_row items r (λ w. only_changed (λ _. w) items.now) items.now

abbrev pub lends_written : Verb → MutBor (List Item) → Option (MutBor Item) → Fml
lends_written v items r =
    LendsIf (list.the_row item.the_row) item.the_row items r (λ w. write_changed (λ _. w) v items.now) items.now

abbrev pub lends_in_member : MutBor Member → Option (MutBor Item) → Fml
lends_in_member m r = LendsIf member.the_row item.the_row m r (λ w. member_changed (λ _. w) m.now) m.now

abbrev pub lends_in_seq_member : MutBor SeqMember → Option (MutBor Item) → Fml
lends_in_seq_member m r = LendsIf seq_member.the_row item.the_row m r (λ w. seq_member_changed (λ _. w) m.now) m.now

abbrev pub lends_in_members : MutBor (List Member) → Option (MutBor Item) → Fml
lends_in_members ms r =
    LendsIf (list.the_row member.the_row) item.the_row ms r (λ w. last_changed (member_changed (λ _. w)) ms.now) ms.now

abbrev pub lends_in_seq_members : MutBor (List SeqMember) → Option (MutBor Item) → Fml
lends_in_seq_members ms r =
    LendsIf (list.the_row seq_member.the_row) item.the_row ms r (λ w. last_changed (seq_member_changed (λ _. w)) ms.now)
    ms.now

-- the item of a command that may be cut
abbrev pub lends_cut : MutBor Command → Option (MutBor Item) → Fml
lends_cut c r = LendsIf command.the_row item.the_row c r (λ w. cut_changed (λ _. w) c.now) c.now
