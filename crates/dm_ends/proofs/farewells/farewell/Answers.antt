use Rattle.std.proofs.Common.{◌∙◌, ap}
use Rattle.dm_headers.specs.Headers.{header_answer}
use Rattle.dm_ends.proofs.LastWords.{status_alone, words_fit}
use Rattle.dm_ends.proofs.farewells.farewell.Goals as goal

pub spelled-requires-clause-one : goal.spelled-requires-clause-one
spelled-requires-clause-one c =
    status_alone c.in_ok-status.status c.header.result.now c.args.code c.args.nonce.now.bytes c.in_ok-status.ensures

pub spelled-requires-clause-fit : goal.spelled-requires-clause-fit
spelled-requires-clause-fit c =
    words_fit c.args.header c.args.code c.args.nonce.now.bytes c.args.answered.now c.in_ok-status.status
    c.requires.header c.requires.answered c.ranges.code.fits
    (c.in_ok-status.ensures ∙ ap (λ h. header_answer h c.args.code c.args.nonce.now.bytes) c.header.ensures.value)
