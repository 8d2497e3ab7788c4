use Rattle.std.proofs.Common.{sym}
use Rattle.syncml_parts.proofs.Numbered.{set_rest, past_rest}
use Rattle.syncml_parts.proofs.numbering.set_id_at.Goals as goal

pub returns-in-Some-clause-rest : goal.returns-in-Some-clause-rest
returns-in-Some-clause-rest c =
    set_rest c.args.id c.args.at c.args.members.now c.in-Some.member.now _ (sym c.in-Some.ensures.value)
    c.set_member_id.ensures

pub returns-in_default-clause-rest : goal.returns-in_default-clause-rest
returns-in_default-clause-rest c = past_rest c.args.id c.args.at c.args.members.now (sym c.in_default.ensures.value)
