use Rattle.std.proofs.Common.{◌≡◌, drop}
use Rattle.dm_report.specs.Kept.{coded_by}
use Rattle.dm_report.proofs.kept.put_codes.Given as goal

abbrev pub invariant-loop-told : goal.invariant-loop-told
invariant-loop-told l = coded_by (drop l.told-index l.new) l.codes ≡ coded_by l.new l.fn.codes
