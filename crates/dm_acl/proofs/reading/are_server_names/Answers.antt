use Rattle.std.proofs.Common.{rules}
use Rattle.std.proofs.lemmas.Iterator.Search.{all_from_yields_List}
use Rattle.std.proofs.lemmas.Iterator.Splits.{YieldsList-from_slice_split}
use borrow.Author.Tests.{tests}
use Rattle.dm_acl.specs.Grammar.{is_server_name}
use Rattle.dm_acl.proofs.reading.are_server_names.Goals as goal

pub returns : goal.returns
returns c =
    all_from_yields_List is_server_name _ _ _ c.all.ensures.ran
    (YieldsList-from_slice_split _ _ c.args.list.now c.split.ensures.rest c.split.ensures.done c.split.ensures.closure
    (λ x b q h. search (rules, tests)))
    (λ x b q h. search (rules, tests))
