-- The members, commands and Statuses that are left.
use Rattle.std.proofs.Common.{◌≡◌, ℕ, suc, ◌+◌, ◌<◌, List, ◌∷◌, ◌++◌, map, length, drop, get_or, sym, ◌∙◌, ap, add-one}
use Rattle.std.proofs.Common.{drop-cons}
use Rattle.std.specs.Option.{option_or}
use Rattle.syncml_types.specs.declared.command.Member.{Member}
use Rattle.syncml_types.specs.declared.command.SeqMember.{SeqMember}
use Rattle.syncml_types.specs.declared.command.Command.{Command}
use Rattle.dm_headers.specs.CmdIds.{member_id, seq_member_ids, seq_members_ids, command_ids, body_ids}
use Rattle.dm_headers.specs.Checks.{status_in, header_status}

pub next_id : (members : List Member) (k : ℕ) (member : Member) → k < length members → member ≡ get_or members k member
    → map member_id (drop k members) ≡ member_id member ∷ map member_id (drop (k + 1) members)
next_id members k member l is = rw (add-one k)
    (ap (map member_id) (drop-cons members k member l ∙ ap (λ m. m ∷ drop (suc k) members) (sym is)))

pub next_seq_member : (members : List SeqMember) (k : ℕ) (member : SeqMember) → k < length members
    → member ≡ get_or members k member
    → seq_members_ids (drop k members) ≡ seq_member_ids member ++ seq_members_ids (drop (k + 1) members)
next_seq_member members k member l is = rw (add-one k)
    (ap seq_members_ids (drop-cons members k member l ∙ ap (λ m. m ∷ drop (suc k) members) (sym is)))

pub next_command : (body : List Command) (k : ℕ) (command : Command) → k < length body → command ≡ get_or body k command
    → body_ids (drop k body) ≡ command_ids command ++ body_ids (drop (k + 1) body)
next_command body k command l is = rw (add-one k)
    (ap body_ids (drop-cons body k command l ∙ ap (λ c. c ∷ drop (suc k) body) (sym is)))

pub next_status : (own : ℕ) (body : List Command) (k : ℕ) (command : Command) → k < length body
    → command ≡ get_or body k command
    → header_status own (drop k body) ≡ option_or (status_in own command) (header_status own (drop (k + 1) body))
next_status own body k command l is = rw (add-one k)
    (ap (header_status own) (drop-cons body k command l ∙ ap (λ c. c ∷ drop (suc k) body) (sym is)))
