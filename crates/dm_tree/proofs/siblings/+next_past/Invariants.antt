use Rattle.dm_tree.proofs.siblings.+next_past.Given as goal

abbrev pub decreases-next_past : goal.decreases-next_past
decreases-next_past l = l.left
