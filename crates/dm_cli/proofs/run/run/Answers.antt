use Rattle.std.proofs.Common.{sym, ◌∙◌}
use Rattle.dm_cli.proofs.Lacking.{lacking, untaken, unasked, unended, formless, unreached, formless_reach, answerable}
use Rattle.dm_cli.proofs.run.run.Goals as goal

pub returns-in-Err-clause-output : goal.returns-in-Err-clause-output
returns-in-Err-clause-output g c = lacking _ _ _ _

pub returns-in-Err-clause-taken : goal.returns-in-Err-clause-taken
returns-in-Err-clause-taken g c = untaken _ _ _

pub returns-in-Ok-None-clause-taken : goal.returns-in-Ok-None-clause-taken
returns-in-Ok-None-clause-taken g c = untaken _ _ _

pub returns-in-Ok-None-clause-faults : goal.returns-in-Ok-None-clause-faults
returns-in-Ok-None-clause-faults g c = c.put_usage.ensures.faults _

pub returns-in-Ok-None-clause-asked : goal.returns-in-Ok-None-clause-asked
returns-in-Ok-None-clause-asked g c = unasked _ _ _

pub returns-in-Err-clause-asked : goal.returns-in-Err-clause-asked
returns-in-Err-clause-asked g c = unasked _ _ _

pub returns-in-Err-clause-ended : goal.returns-in-Err-clause-ended
returns-in-Err-clause-ended g c = unended _ _ _

pub returns-in-Err-clause-kind : goal.returns-in-Err-clause-kind
returns-in-Err-clause-kind g c = answerable _

pub returns-in-Err-clause-reach : goal.returns-in-Err-clause-reach
returns-in-Err-clause-reach g c = unreached _ _ _ _

pub returns-in-Ok-None-clause-reach : goal.returns-in-Ok-None-clause-reach
returns-in-Ok-None-clause-reach g c =
    formless_reach _ _ _ _ _ (sym c.in-Ok-None.ensures.form ∙ c.in-Ok-None.field-0-is)

pub returns-in-Ok-None-clause-ended : goal.returns-in-Ok-None-clause-ended
returns-in-Ok-None-clause-ended g c =
    formless _ _ _ _ (sym c.in-Ok-None.ensures.form ∙ c.in-Ok-None.field-0-is)
