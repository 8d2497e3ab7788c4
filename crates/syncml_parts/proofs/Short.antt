-- Where no Data of a command is too long for a spelling, that which may be cut isn't.
use Rattle.std.proofs.Common.{ℕ, List, [], ◌∷◌, Option, Some, None, IfSome, option_and_then, arith}
use Rattle.std.specs.List.{AllByRecursion}
use Rattle.syncml_types.specs.declared.values.Item.{Item}
use Rattle.syncml_types.specs.declared.command.Verb.{Verb}
use Rattle.syncml_types.specs.declared.command.Verb.TheVariants as verb
use Rattle.syncml_types.specs.declared.command.Member.{Member}
use Rattle.syncml_types.specs.declared.command.Member.TheVariants as member
use Rattle.syncml_types.specs.declared.command.SeqMember.{SeqMember}
use Rattle.syncml_types.specs.declared.command.SeqMember.TheVariants as seq_member
use Rattle.syncml_types.specs.declared.command.Command.{Command}
use Rattle.syncml_types.specs.declared.command.Command.TheVariants as command
use Rattle.syncml_types.specs.Message.{IsShortData, HasShortData, HasShortMember, HasShortSeqMember, HasShortItems}
use Rattle.syncml_parts.specs.Packing.{only_item, write_item, member_item, seq_member_item, list_last, cut_item}
use Rattle.syncml_parts.specs.Packing.{bytes_in}
use Rattle.syncml_parts.specs.Packing.{data_in, cut_data}
use Rattle.syncml_parts.proofs.Last.{last_next}

short_bytes : (o : Option (List ℕ)) → IfSome o IsShortData → IsShortData (bytes_in o)
short_bytes None h = omega arith
short_bytes (Some v) h = h

short_data : (o : Option Item) → IfSome o HasShortData → IsShortData (data_in o)
short_data None h = omega arith
short_data (Some i) h = short_bytes i.value h

short_only : (is : List Item) → AllByRecursion HasShortData is → IfSome (only_item is) HasShortData
short_only [] h = tt
short_only (i ∷ []) h = h.0
short_only (i ∷ j ∷ is) h = tt

short_write : (v : Verb) (is : List Item) → AllByRecursion HasShortData is → IfSome (write_item v is) HasShortData
short_write verb.Add is h = short_only is h
short_write verb.Replace is h = short_only is h
short_write verb.Copy is h = tt
short_write verb.Delete is h = tt
short_write verb.Exec is h = tt
short_write verb.Get is h = tt

short_member : (m : Member) → HasShortMember m → IfSome (member_item m) HasShortData
short_member (member.One c) h = short_write c.verb c.items h
short_member (member.Alert c) h = tt

short_seq_member : (m : SeqMember) → HasShortSeqMember m → IfSome (seq_member_item m) HasShortData
short_seq_member (seq_member.Single m) h = short_member m h
short_seq_member (seq_member.Atomic b) h = tt

short_last : {A : Type 0} (P : A → Type 0) (item : A → Option Item) → ((x : A) → P x → IfSome (item x) HasShortData)
    → (xs : List A) → AllByRecursion P xs → IfSome (option_and_then item (list_last xs)) HasShortData
short_last P item one [] h = tt
short_last P item one (x ∷ []) h = one x h.0
short_last P item one (x ∷ y ∷ xs) h = rw (last_next x y xs) (short_last P item one (y ∷ xs) h.1)

short_item : (c : Command) → HasShortItems c → IfSome (cut_item c) HasShortData
short_item (command.Plain c) h = short_write c.verb c.items h
short_item (command.Alert c) h = tt
short_item (command.Atomic b) h = short_last HasShortMember member_item short_member b.members h
short_item (command.Sequence b) h = short_last HasShortSeqMember seq_member_item short_seq_member b.members h
short_item (command.Status c) h = tt
short_item (command.Results c) h = short_only c.items h

pub short_cut : (c : Command) → HasShortItems c → IsShortData (cut_data c)
short_cut c h = short_data (cut_item c) (short_item c h)
