use Rattle.dm_report.proofs.ToldLemmas.{codes-step}
use Rattle.dm_report.proofs.findings.codes_without.Goals as goal

pub loop-place-preserved : goal.loop-place-preserved
loop-place-preserved c =
    codes-step c.args.first c.args.count c.loop-place.place c.args.codes.now c.loop-place.kept _ _ _
    c.loop-place-test.true (rw c.code_without.ensures at c.in_ok-push.ensures.ok) c.loop-place.invariant
