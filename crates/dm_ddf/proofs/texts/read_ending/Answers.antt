use Rattle.std.proofs.Common.{◌≡◌, ◌∙◌, ◌+◌, true, ap}
use Rattle.dm_job.specs.Texts.{segments}
use Rattle.dm_ddf.specs.Texts.{end_lines_from, with_nothing_behind, then_read}
use Rattle.dm_ddf.proofs.Telling.{stop_first, stop_then, is_alone, extra_stops}
use Rattle.dm_ddf.proofs.texts.read_ending.Goals as goal

pub returns-in-Err-clause-err : goal.returns-in-Err-clause-err
returns-in-Err-clause-err c =
    stop_first (end_lines_from c.args.line (segments c.args.text.now)) (λ e. with_nothing_behind e.1 e.0 e.2)
    c.in-Err.error
    c.in-Err.ensures.err

pub returns-in-Ok-read_nothing-clause-ok : goal.returns-in-Ok-read_nothing-clause-ok
returns-in-Ok-read_nothing-clause-ok c =
    ap (λ x. then_read x (λ e. with_nothing_behind e.1 e.0 e.2)) c.in-Ok.ensures.rest
    ∙ is_alone (c.args.line + 1) true (segments c.in-Ok.behind.now) c.in-Ok-read_nothing.ensures.ok

pub returns-in-Err-read_nothing-clause-err : goal.returns-in-Err-read_nothing-clause-err
returns-in-Err-read_nothing-clause-err c =
    stop_then (end_lines_from c.args.line (segments c.args.text.now))
    (true, c.args.line + 1, segments c.in-Ok.behind.now) (λ e. with_nothing_behind e.1 e.0 e.2)
    c.in-Err-read_nothing.error
    c.in-Ok.ensures.rest
    (extra_stops (c.args.line + 1) true (segments c.in-Ok.behind.now) c.in-Err-read_nothing.error
    c.in-Err-read_nothing.ensures.err.0 c.in-Err-read_nothing.ensures.err.1)
