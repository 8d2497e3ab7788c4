use Rattle.std.proofs.Common.{◌∙◌, ap, arith, length, take}
use Rattle.std.proofs.lemmas.List.{length-take}
use Rattle.syncml_parts.specs.Packing.{cut_changed}
use Rattle.syncml_parts.specs.Pages.{with_item_value}
use Rattle.syncml_parts.specs.Numbering.{with_numbers, ids_in}
use Rattle.dm_pack.specs.Measures.{marked, apart_value, apart_sent}
use Rattle.dm_pack.proofs.Parts.{kept_ids, part_made}
use Rattle.dm_pack.proofs.waiting.Waiting.to_part.Goals as goal

pub slice_bounds-of_slice-end : goal.slice_bounds-of_slice-end
slice_bounds-of_slice-end c =
    let left = ap length c.left.ensures in
    let long = length-take c.args.bytes c.left.result.now in
    omega (arith, left, long, c.requires.there)

pub set_ids-requires : goal.set_ids-requires
set_ids-requires c =
    let apart = c.self.inside.apart in
    let copied = ap ids_in c.in_ok-command.ensures in
    let same =
    kept_ids c.self.inside.command (apart_value apart) (apart_sent apart) c.args.self.now
    c.self.invariant c.self.view_is in
    omega (arith, copied, same, c.requires.room)

pub returns : goal.returns
returns c =
    let apart = c.self.inside.apart in
    c.put_value.ensures
    ∙ ap (cut_changed (with_item_value c.in_ok-value.value))
    (c.in_ok-mark_part.ensures
    ∙ ap (cut_changed (marked c.size_of.result))
    (c.set_ids.ensures.command ∙ ap (with_numbers c.args.first) c.in_ok-command.ensures))
    ∙ part_made c.args.first c.args.bytes c.size_of.result c.self.inside.command (apart_value apart) (apart_sent apart)
    c.args.self.now c.in_ok-value.value
    c.self.invariant c.self.view_is c.requires.some c.size_of.ensures
    (c.in_ok-value.ensures ∙ ap (take c.args.bytes) c.left.ensures)
