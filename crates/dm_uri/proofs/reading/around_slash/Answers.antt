use Rattle.std.proofs.Common.{rules, tests, sym, ◌∙◌, ◌≡◌}
use Rattle.std.specs.List.{position}
use Rattle.std.proofs.lemmas.Iterator.{YieldsList-from_slice}
use Rattle.std.proofs.lemmas.Iterator.Search.{position_from_yields_List}
use Rattle.dm_uri.specs.Reading.{is_slash}
use Rattle.dm_uri.proofs.Pieces.{no_slash, first_slash}
use Rattle.dm_uri.proofs.reading.around_slash.Goals as goal

pub returns-in-Some : goal.returns-in-Some
returns-in-Some c =
    let place : c.position.result ≡ position is_slash c.args.text.now =
    position_from_yields_List is_slash _ _ c.position.result c.position.ensures.ran
    (YieldsList-from_slice c.args.text.now c.iter.ensures.rest) (λ x b q k. search (rules, tests)) in
    rw (c.split_at.ensures.front, c.split_at-in-Some.ensures.back)
    (first_slash c.args.text.now c.in-Some.at (sym place ∙ c.in-Some.is))

pub returns-in-None : goal.returns-in-None
returns-in-None c =
    let place : c.position.result ≡ position is_slash c.args.text.now =
    position_from_yields_List is_slash _ _ c.position.result c.position.ensures.ran
    (YieldsList-from_slice c.args.text.now c.iter.ensures.rest) (λ x b q k. search (rules, tests)) in
    no_slash c.args.text.now (sym place ∙ c.in-None.is)
