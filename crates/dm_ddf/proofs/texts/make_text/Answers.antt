use Rattle.std.proofs.Common.{◌≡◌, ◌∙◌, ◌++◌, ap, sym, subst, refl}
use Rattle.std.specs.Prelude.{Ok}
use Rattle.dm_ddf.specs.Texts.{ddf_of, asked_text, then_read, make_of}
use Rattle.dm_ddf.specs.Answered.{TellsText}
use Rattle.dm_ddf.proofs.Telling.{gives_tells}
use Rattle.dm_ddf.proofs.texts.make_text.Goals as goal

pub returns-in-Err : goal.returns-in-Err
unfolding make_of
returns-in-Err c = gives_tells (ddf_of c.args.text.now) (λ d. Ok (asked_text d)) c.in-Err.error c.in-Err.ensures

pub returns-in-Ok-asked_text : goal.returns-in-Ok-asked_text
unfolding make_of
returns-in-Ok-asked_text c =
    subst (λ w. TellsText w (Ok c.in-Ok-asked_text.out))
    (sym (ap (λ x. then_read x (λ d. Ok (asked_text d))) c.in-Ok.ensures))
    (sym c.in-Ok-asked_text.ensures, refl)
