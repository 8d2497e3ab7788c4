use Rattle.std.proofs.Common.{rules, tests}
use Rattle.std.proofs.lemmas.Iterator.Consumers.{count_from_yields_List}
use Rattle.std.proofs.lemmas.Iterator.Splits.{YieldsList-from_slice_split}
use Rattle.dm_uri.specs.Reading.{is_slash}
use Rattle.dm_uri.proofs.reading.count_of.Goals as goal

pub returns : goal.returns
returns c =
    count_from_yields_List c.split.result _ c.count.ensures.ran
    (YieldsList-from_slice_split _ is_slash c.args.text.now c.split.ensures.rest c.split.ensures.done
    c.split.ensures.closure (λ x r q k. search (rules, tests)))
