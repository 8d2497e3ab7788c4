use Rattle.dm_tree.proofs.renames.+has_room.Given as goal

abbrev pub decreases-has_room : goal.decreases-has_room
decreases-has_room l = l.left
