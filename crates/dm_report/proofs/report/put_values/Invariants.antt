use Rattle.std.proofs.Common.{◌≡◌, ◌<◌, ◌-◌, ◌++◌, length, drop, get_or}
use Rattle.std.specs.List.{flat_map}
use Rattle.dm_service.specs.Report.{result_line}
use Rattle.dm_report.specs.declared.kept.FoundValue.{FoundValue}
use Rattle.dm_report.specs.Kept.{values_at}
use Rattle.dm_report.proofs.report.put_values.Given as goal

abbrev pub invariant-loop-at : goal.invariant-loop-at
invariant-loop-at l = record {
  text : l.out ++ flat_map result_line (values_at l.place (drop l.at l.found))
      ≡ l.fn.out ++ flat_map result_line (values_at l.place l.found);
  met : (f : FoundValue) → l.at < length l.found → f ≡ get_or l.found l.at f → f.place ≡ l.place;
}

abbrev pub decreases-loop-at : goal.decreases-loop-at
decreases-loop-at l = length l.found - l.at
