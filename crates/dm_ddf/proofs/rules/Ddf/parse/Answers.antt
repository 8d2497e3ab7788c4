use Rattle.std.proofs.Common.{◌≡◌, ◌∙◌, ap, sym, subst}
use Rattle.dm_job.specs.Texts.{segments}
use Rattle.dm_ddf.specs.declared.reader.DdfProgress.TheVariants as progress
use Rattle.dm_ddf.specs.Texts.{ddf_from, with_nothing_behind, then_read, ddf_of}
use Rattle.dm_ddf.proofs.Telling.{stop_first, stop_then, stop_gives, is_alone, extra_stops}
use Rattle.dm_ddf.proofs.rules.Ddf.parse.Goals as goal

pub returns-in-Err : goal.returns-in-Err
unfolding ddf_of
returns-in-Err c =
    stop_gives _ c.in-Err.error
    (stop_first (ddf_from 1 progress.First (segments c.args.text.now)) (λ d. with_nothing_behind d.1 d.0 d.2)
    c.in-Err.error
    c.in-Err.ensures.err)

pub returns-in-Ok-read_nothing : goal.returns-in-Ok-read_nothing
unfolding ddf_of
returns-in-Ok-read_nothing c =
    ap (λ x. then_read x (λ d. with_nothing_behind d.1 d.0 d.2)) c.in-Ok.ensures.ddf
    ∙ is_alone c.in-Ok.read.number c.in-Ok.read.ddf (segments c.in-Ok.read.rest.now) c.in-Ok-read_nothing.ensures.ok

pub returns-in-Err-read_nothing : goal.returns-in-Err-read_nothing
unfolding ddf_of
returns-in-Err-read_nothing c =
    stop_gives _ c.in-Err-read_nothing.error
    (stop_then (ddf_from 1 progress.First (segments c.args.text.now))
    (c.in-Ok.read.ddf, c.in-Ok.read.number, segments c.in-Ok.read.rest.now) (λ d. with_nothing_behind d.1 d.0 d.2)
    c.in-Err-read_nothing.error c.in-Ok.ensures.ddf
    (extra_stops c.in-Ok.read.number c.in-Ok.read.ddf (segments c.in-Ok.read.rest.now) c.in-Err-read_nothing.error
    c.in-Err-read_nothing.ensures.err.0 c.in-Err-read_nothing.ensures.err.1))
