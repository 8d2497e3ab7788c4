use Rattle.std.proofs.Common.{◌∙◌, ap, arith}
use Rattle.syncml_parts.specs.Numbering.{with_numbers, ids_in}
use Rattle.dm_pack.specs.Measures.{put_back, apart_value, apart_sent}
use Rattle.dm_pack.proofs.Parts.{kept_ids, whole_filled}
use Rattle.dm_pack.proofs.waiting.Waiting.to_command.Goals as goal

pub set_ids-requires : goal.set_ids-requires
set_ids-requires c =
    let apart = c.self.inside.apart in
    let copied = ap ids_in c.in_ok-command.ensures in
    let same =
    kept_ids c.self.inside.command (apart_value apart) (apart_sent apart) c.args.self.now
    c.self.invariant c.self.view_is in
    omega (arith, copied, same, c.requires)

pub returns : goal.returns
returns c =
    let apart = c.self.inside.apart in
    c.put_data.ensures
    ∙ ap (put_back c.in_ok-value.value)
    (c.set_ids.ensures.command ∙ ap (with_numbers c.args.first) c.in_ok-command.ensures)
    ∙ whole_filled c.args.first c.self.inside.command (apart_value apart) (apart_sent apart) c.args.self.now
    c.in_ok-value.value
    c.self.invariant c.self.view_is (c.in_ok-value.ensures ∙ c.left.ensures)
