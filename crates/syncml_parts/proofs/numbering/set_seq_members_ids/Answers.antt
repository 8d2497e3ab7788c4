use Rattle.std.proofs.Common.{◌∙◌, arith}
use Rattle.syncml_parts.proofs.Numbered.{step_seq, all_seq_numbered, ids_done, ids_next}
use Rattle.syncml_parts.proofs.numbering.set_seq_members_ids.Goals as goal

pub loop-at-preserved : goal.loop-at-preserved
loop-at-preserved c =
    let done = c.set_seq_ids_at-id.ensures in (
      ids_next c.loop-at.id c.set_seq_ids_at-id.result c.loop-at.at c.loop-at.members _ _ done.rest done.count
          c.loop-at.invariant.0,
      done.length ∙ c.loop-at.invariant.1,
      step_seq c.loop-at.at c.loop-at.id c.set_seq_ids_at-id.result c.loop-at.members _ done.front done.rest done.count
          ∙ c.loop-at.invariant.2,
    )

pub returns-clause-members : goal.returns-clause-members
returns-clause-members c =
    let same = c.loop-at.invariant.1 in
    let whole = c.len-at-end.ensures in
    let end = c.loop-at-test.false in
    all_seq_numbered c.loop-at.id c.loop-at.at c.loop-at.members _ (omega (arith, same, whole, end))
    c.loop-at.invariant.2

pub returns-clause-next : goal.returns-clause-next
returns-clause-next c =
    let same = c.loop-at.invariant.1 in
    let whole = c.len-at-end.ensures in
    let end = c.loop-at-test.false in
    ids_done c.loop-at.id c.loop-at.at c.loop-at.members _ (omega (arith, same, whole, end)) c.loop-at.invariant.0
