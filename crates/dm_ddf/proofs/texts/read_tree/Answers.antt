use Rattle.std.proofs.Common.{◌≡◌, ◌∙◌, ap, sym}
use Rattle.std.specs.Prelude.{Ok}
use Rattle.dm_job.specs.Texts.{segments}
use Rattle.dm_start.specs.declared.heads.Head.TheVariants as head
use Rattle.dm_start.specs.Start.{opening, told_of}
use Rattle.dm_ddf.specs.Texts.{setup_lines_from, ending_from, then_read}
use Rattle.dm_ddf.proofs.Telling.{stop_first, stop_then}
use Rattle.dm_ddf.proofs.texts.read_tree.Goals as goal

pub returns-in-Err-clause-err : goal.returns-in-Err-clause-err
returns-in-Err-clause-err c =
    stop_first (setup_lines_from c.args.first (opening head.First) (segments c.args.text.now))
    (λ s. then_read (ending_from s.1 s.2) (λ e. Ok s.0)) c.in-Err.error c.in-Err.ensures.err

pub returns-in-Ok-read_ending-clause-ok : goal.returns-in-Ok-read_ending-clause-ok
returns-in-Ok-read_ending-clause-ok c =
    ap (λ x. then_read x (λ s. then_read (ending_from s.1 s.2) (λ e. Ok s.0))) c.in-Ok.ensures.start
    ∙ ap (λ x. then_read x (λ e. Ok (told_of c.in-Ok.read.start))) c.in-Ok-read_ending.ensures.ok

pub returns-in-Err-read_ending-clause-err : goal.returns-in-Err-read_ending-clause-err
returns-in-Err-read_ending-clause-err c =
    stop_then (setup_lines_from c.args.first (opening head.First) (segments c.args.text.now))
    (told_of c.in-Ok.read.start, c.in-Ok.read.number, segments c.in-Ok.read.rest.now)
    (λ s. then_read (ending_from s.1 s.2) (λ e. Ok s.0)) c.in-Err-read_ending.error c.in-Ok.ensures.start
    (stop_first (ending_from c.in-Ok.read.number (segments c.in-Ok.read.rest.now))
    (λ e. Ok (told_of c.in-Ok.read.start)) c.in-Err-read_ending.error c.in-Err-read_ending.ensures.err)
