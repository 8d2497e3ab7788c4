use Rattle.std.proofs.Common.{◌≡◌, ◌∙◌, ap, sym, subst}
use Rattle.dm_job.specs.Texts.{segments}
use Rattle.dm_ddf.specs.declared.reader.DdfProgress.TheVariants as progress
use Rattle.dm_ddf.specs.Texts.{ddf_from, behind_ddf, then_read, conform_of}
use Rattle.dm_ddf.specs.Answered.{TellsText}
use Rattle.dm_ddf.proofs.Telling.{stop_first, stop_tells}
use Rattle.dm_ddf.proofs.texts.conform_text.Goals as goal

pub returns-in-Ok : goal.returns-in-Ok
unfolding conform_of
returns-in-Ok c =
    subst (λ w. TellsText w c.behind_ddf.result) (sym (ap (λ x. then_read x behind_ddf) c.in-Ok.ensures.ddf))
    c.behind_ddf.ensures

pub returns-in-Err : goal.returns-in-Err
unfolding conform_of
returns-in-Err c =
    stop_tells _ c.in-Err.error
    (stop_first (ddf_from 1 progress.First (segments c.args.text.now)) behind_ddf c.in-Err.error c.in-Err.ensures.err)
