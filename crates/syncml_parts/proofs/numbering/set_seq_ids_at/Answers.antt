use Rattle.std.proofs.Common.{sym, ◌∙◌, ap, ◌+◌}
use Rattle.syncml_parts.specs.Numbering.{ids_in_seq_members}
use Rattle.std.proofs.Common.{drop}
use Rattle.syncml_parts.proofs.Numbered.{set_seq_rest, past_seq_rest, ids_at, ids_past, room_at}
use Rattle.syncml_parts.proofs.numbering.set_seq_ids_at.Goals as goal

pub set_seq_member_ids-requires : goal.set_seq_member_ids-requires
set_seq_member_ids-requires c =
    room_at c.args.first c.args.members.now c.args.at c.in-Some.member.now (sym c.in-Some.ensures.value) c.requires

pub returns-in-Some-clause-rest : goal.returns-in-Some-clause-rest
returns-in-Some-clause-rest c =
    set_seq_rest c.args.first c.args.at c.args.members.now c.in-Some.member.now _ (sym c.in-Some.ensures.value)
    c.set_seq_member_ids.ensures.member

pub returns-in-Some-clause-count : goal.returns-in-Some-clause-count
returns-in-Some-clause-count c =
    ids_at c.args.members.now c.args.at c.in-Some.member.now (sym c.in-Some.ensures.value)
    ∙ ap (λ n. n + ids_in_seq_members (drop (c.args.at + 1) c.args.members.now))
    (sym c.set_seq_member_ids.ensures.count)

pub returns-in-None-clause-rest : goal.returns-in-None-clause-rest
returns-in-None-clause-rest c = past_seq_rest c.args.first c.args.at c.args.members.now (sym c.in-None.ensures.value)

pub returns-in-None-clause-count : goal.returns-in-None-clause-count
returns-in-None-clause-count c = ids_past c.args.members.now c.args.at (sym c.in-None.ensures.value)
