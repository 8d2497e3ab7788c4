use Rattle.std.proofs.Common.{ap, ◌+◌, ◌∙◌, arith}
use Rattle.syncml_parts.proofs.Numbered.{step, all_numbered}
use Rattle.syncml_parts.proofs.numbering.set_members_ids.Goals as goal

pub loop-at-preserved : goal.loop-at-preserved
loop-at-preserved c =
    let id = c.loop-at.invariant.0 in (
      omega (arith, id),
      c.set_id_at.ensures.length ∙ c.loop-at.invariant.1,
      step c.loop-at.at c.loop-at.id c.loop-at.members _ c.set_id_at.ensures.front c.set_id_at.ensures.rest
          ∙ c.loop-at.invariant.2,
    )

pub returns : goal.returns
returns c =
    let same = c.loop-at.invariant.1 in
    let whole = c.len-at-end.ensures in
    let end = c.loop-at-test.false in
    all_numbered c.loop-at.id c.loop-at.at c.loop-at.members _ (omega (arith, same, whole, end)) c.loop-at.invariant.2
