use Rattle.std.proofs.Common.{◌≡◌, length}
use Rattle.dm_service.specs.Laws.{AreInOrder}
use Rattle.dm_service.specs.Matching.{find_sent}
use Rattle.dm_report.proofs.sending.find_sent.Given as goal

abbrev pub invariant-loop-rest : goal.invariant-loop-rest
invariant-loop-rest l = record {
  order : AreInOrder l.rest;
  found : find_sent l.msg l.command l.rest ≡ find_sent l.msg l.command l.sent;
}

abbrev pub decreases-loop-rest : goal.decreases-loop-rest
decreases-loop-rest l = length l.rest
