use Rattle.std.proofs.Common.{sym}
use Rattle.dm_report.proofs.ToldLemmas.{set-absent}
use Rattle.dm_report.proofs.kept.put_code.Goals as goal

pub returns-in_default : goal.returns-in_default
returns-in_default c = sym (set-absent c.args.codes.now c.args.place _ c.in_default.ensures.value)
