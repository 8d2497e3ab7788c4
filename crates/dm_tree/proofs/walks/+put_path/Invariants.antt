use Rattle.dm_tree.proofs.walks.+put_path.Given as goal

abbrev pub decreases-put_path : goal.decreases-put_path
decreases-put_path l = l.left
