use Rattle.std.proofs.Common.{rules, tests, bytes_eq, ◌∙◌}
use Rattle.std.proofs.lemmas.Iterator.{YieldsList-from_slice}
use Rattle.std.proofs.lemmas.Iterator.Search.{find_from_yields_List}
use Rattle.dm_uri.specs.Grammar.{query_text}
use Rattle.dm_uri.specs.Reading.{queries}
use Rattle.dm_uri.proofs.reading.query_of.Goals as goal

pub returns : goal.returns
returns c =
    c.copied.ensures
    ∙ find_from_yields_List (λ query. bytes_eq (query_text query) c.args.text.now) _ _ c.find.result c.find.ensures.ran
    (YieldsList-from_slice queries c.iter.ensures.rest) (λ x b q k. search (rules, tests))
