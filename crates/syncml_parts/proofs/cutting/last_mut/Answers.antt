use borrow.Follows.Closed.{read_of}
use Rattle.std.proofs.Common.{◌-◌, ◌<◌, length, slice_get, slice_set, ap, ◌∙◌, arith}
use Rattle.std.specs.Option.{ghost_name_of}
use Rattle.syncml_parts.proofs.Last.{last_set}
use Rattle.syncml_parts.proofs.cutting.last_mut.Goals as goal

pub returns : goal.returns
returns g c =
    let values = c.args.list.now in
    let count = c.len-count.ensures in
    let full = c.if-count-eq0.false in
    let some : 0 < length values = omega (arith, count, full) in (
      λ i. read_of (ghost_name_of c.get_mut.result)
          (λ (w : g.row.T.Denot). (ap (λ n. slice_set values (n - 1) w) count ∙ last_set values w some) i) values,
      record { writes_back = tt; value = c.get_mut.ensures.value ∙ ap (λ n. slice_get values (n - 1)) count },
    )
