use Rattle.dm_tree.proofs.Common.{◌≡◌, length, IsTrue, IfSome, list_all, is_below, nodes, path_of, IsLive, paths_fit}
use Rattle.dm_tree.proofs.RenamedLengths.{then_fits, still_to_come}
use Rattle.dm_tree.proofs.tree.Tree.fits.Given as goal

abbrev pub invariant-loop-at : goal.invariant-loop-at
invariant-loop-at l = record {
  live : IfSome l.at (λ here. IsLive l.self.rows here);
  below : IfSome l.at (λ here. IsTrue (is_below (path_of l.self.rows l.id) (path_of l.self.rows here)));
  same : list_all (then_fits (path_of l.self.rows l.id) l.name) (still_to_come l.self.rows l.id l.at)
      ≡ paths_fit (nodes l.self.rows) (path_of l.self.rows l.id) l.name;
}

abbrev pub decreases-loop-at : goal.decreases-loop-at
decreases-loop-at l = length (still_to_come l.self.rows l.id l.at)
