use Rattle.std.proofs.Common.{◌≡◌, drop, bytes_eq}
use Rattle.std.specs.Cmp.Lexicographic.{pointwise}
use Rattle.dm_uri.proofs.path.are_same.Given as goal

-- what is left is the same exactly where all is
abbrev pub invariant-loop-i : goal.invariant-loop-i
invariant-loop-i l = pointwise bytes_eq (drop l.i l.left) (drop l.i l.right) ≡ pointwise bytes_eq l.left l.right
