use Rattle.dm_tree.specs.Index.{IsKept}
use Rattle.dm_tree.proofs.FreeingWalk.{IsGoing, to_go}
use Rattle.dm_tree.proofs.discards.free_subtree.Given as goal

abbrev pub invariant-loop-child : goal.invariant-loop-child
invariant-loop-child l = record {
  going : IsGoing l.fn.rows.items l.top l.rows.items l.at;
  kept : IsKept l.rows.items l.index.items l.sizes.items;
}

abbrev pub decreases-loop-child : goal.decreases-loop-child
decreases-loop-child l = to_go l.rows.items l.at
