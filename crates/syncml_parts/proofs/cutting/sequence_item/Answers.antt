use borrow.Follows.Closed.{read_of}
use Rattle.std.proofs.Common.{◌≡◌, Some, option_and_then, sym, ap, ◌∙◌}
use Rattle.std.specs.Option.{ghost_name_of, option_copied_mut}
use Rattle.syncml_types.specs.declared.values.Item.{Item}
use Rattle.syncml_parts.specs.Packing.{list_last, seq_member_item, seq_member_changed}
use Rattle.syncml_parts.proofs.Last.{last_is, last_same}
use Rattle.syncml_parts.proofs.cutting.sequence_item.Goals as goal

pub returns : goal.returns
returns c =
    let members = c.args.members.now in
    let last = c.in_ok-last_mut.field-0.now in
    let is : list_last members ≡ Some last = sym c.last_mut.ensures.value ∙ ap option_copied_mut c.in_ok-last_mut.was in (
      λ i. read_of (ghost_name_of c.seq_member_item.result)
          (λ (w : Item). last_is (seq_member_changed (λ _. w)) members last is i) (last_same members last is i),
      record {
        writes_back = tt;
        value = c.seq_member_item.ensures.value ∙ sym (ap (option_and_then seq_member_item) is);
      },
    )
