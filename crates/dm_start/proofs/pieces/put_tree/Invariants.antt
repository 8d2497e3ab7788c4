use Rattle.std.proofs.Common.{◌≡◌, length}
use Rattle.dm_tree.specs.Rows.{path_of}
use Rattle.dm_start.proofs.TextWalk.{left}
use Rattle.dm_start.proofs.Putting.{IsPutSoFar}
use Rattle.dm_start.proofs.pieces.put_tree.Given as goal

abbrev pub invariant-loop-at : goal.invariant-loop-at
invariant-loop-at g l = record {
  so_far : IsPutSoFar l.tree.rows l.version (path_of l.tree.rows l.root) (g.K.Sink.got l.fn.out) (g.K.Sink.got l.out)
      l.text l.at;
  count : g.K.Sink.faults l.out ≡ g.K.Sink.faults l.fn.out;
  source : g.K.Sink.as_source l.out ≡ g.K.Sink.as_source l.fn.out;
}

abbrev pub decreases-loop-at : goal.decreases-loop-at
decreases-loop-at g l = length (left l.tree.rows (path_of l.tree.rows l.root) l.at)
