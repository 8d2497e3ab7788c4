use Rattle.dm_server.proofs.Rows.{some_row}
use Rattle.dm_server.proofs.giving_up.row_of.Goals as goal

pub returns-in_ok-count-in-Some : goal.returns-in_ok-count-in-Some
returns-in_ok-count-in-Some c =
    some_row c.args.entries.now c.in-Some.entry.now c.in_ok-count-in-Some.count c.requires.numbered
    c.in-Some.ensures.value c.in_ok-count-in-Some.ensures
