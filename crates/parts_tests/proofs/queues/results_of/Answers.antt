use Rattle.std.proofs.Common.{arith, ◌≡◌, ◌∙◌, ◌∷◌, ◌++◌, [], ap, Some}
use Rattle.std.proofs.lemmas.Bool.{le-leb}
use Rattle.dm_pack.proofs.Ready.{IsText, found_item, results_ready}
use Rattle.parts_tests.proofs.queues.results_of.Goals as goal

pub returns : goal.returns
returns c =
    let i = found_item c.args.uri c.args.format (Some c.args.media) (Some c.args.value) in
    let pushed = rw (c.in_ok-new.ensures, c.empty.ensures) at c.in_ok-push.ensures.ok in
    let is : c.push.new.self ≡ i ∷ [] = pushed ∙ ap (λ l. l ++ i ∷ []) c.new-items.ensures in
    let media = c.requires.few.1.1 in
    let uri = c.requires.few.0 in
    let value = c.requires.value in
    rw is
    (results_ready 1 1 c.args.uri c.args.format (Some c.args.media) (Some c.args.value) (omega arith) (omega arith)
    (omega arith)
    (record { text = c.requires.texts.0; few = omega (arith, uri) })
    (record { text = c.requires.texts.1.0; few = c.requires.few.1.0 })
    (record { text = c.requires.texts.1.1; few = omega (arith, media) })
    (le-leb _ 2147483648 (omega (arith, value))))
