use Rattle.std.proofs.Common.{◌≡◌, ◌∙◌, ap, sym, subst, refl}
use Rattle.std.specs.Prelude.{Ok}
use Rattle.dm_job.specs.Texts.{segments}
use Rattle.dm_ddf.specs.Texts.{setup_from, verdict_line, then_read}
use Rattle.dm_start.specs.Start.{told_of}
use Rattle.dm_ddf.specs.Answered.{TellsText}
use Rattle.dm_ddf.proofs.Telling.{stop_first, stop_tells}
use Rattle.dm_ddf.proofs.texts.behind_ddf.Goals as goal

pub returns-in-Err : goal.returns-in-Err
returns-in-Err c =
    stop_tells _ c.in-Err.error
    (stop_first (setup_from c.args.first (segments c.args.text.now)) (λ told. Ok (verdict_line c.args.ddf.now told))
    c.in-Err.error c.in-Err.ensures.err)

pub returns-in-Ok-verdict_text : goal.returns-in-Ok-verdict_text
returns-in-Ok-verdict_text c =
    let told = told_of c.in-Ok.start in
    let whole : setup_from c.args.first (segments c.args.text.now) ≡ Ok told = c.in-Ok.ensures.ok in
    subst (λ w. TellsText w (Ok c.in-Ok-verdict_text.out))
    (sym (ap (λ x. then_read x (λ t. Ok (verdict_line c.args.ddf.now t))) whole))
    (sym c.in-Ok-verdict_text.ensures, refl)
