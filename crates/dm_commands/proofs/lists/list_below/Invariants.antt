use Rattle.std.proofs.Common.{length}
use Rattle.dm_tree.specs.Rows.{path_of}
use Rattle.dm_commands.specs.Outcomes.{asked_by}
use Rattle.dm_commands.proofs.Listings.{IsListing, left_from}
use Rattle.dm_commands.proofs.lists.list_below.Given as goal

abbrev pub invariant-loop-at : goal.invariant-loop-at
invariant-loop-at l =
    IsListing l.tree.rows (asked_by l.caller l.tree.clock) (path_of l.tree.rows l.top) l.with_values l.out l.at

abbrev pub decreases-loop-at : goal.decreases-loop-at
decreases-loop-at l = length (left_from l.tree.rows (path_of l.tree.rows l.top) l.at)
