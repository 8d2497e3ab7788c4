-- How many nodes a way through the tree still has before it.
use Rattle.std.specs.Prelude.{ℕ, suc, false, List, length, Option, Some, None}
use Rattle.dm_tree.specs.declared.rows.Row.{Row}
use Rattle.dm_tree.specs.Order.{behind}
use Rattle.dm_tree.specs.Rows.{nodes, path_of}

-- the next node, where there is one, and all that stand behind it, among those at and below the row `top`
abbrev pub left : List Row → ℕ → Option ℕ → ℕ
left rows top None = 0
left rows top (Some id) = suc (length (behind (nodes rows) (path_of rows top) (path_of rows id) false))
