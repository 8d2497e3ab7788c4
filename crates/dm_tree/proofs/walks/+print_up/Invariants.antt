use Rattle.dm_tree.proofs.walks.+print_up.Given as goal

abbrev pub decreases-print_up : goal.decreases-print_up
decreases-print_up l = l.left
