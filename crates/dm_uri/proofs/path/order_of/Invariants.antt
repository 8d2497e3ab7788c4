use Rattle.std.proofs.Common.{◌≡◌, drop}
use Rattle.std.specs.Ordering.{nat_cmp}
use Rattle.std.specs.Cmp.Lexicographic.{slice_cmp}
use Rattle.dm_uri.proofs.path.order_of.Given as goal

-- what is left stands in the same order as all
abbrev pub invariant-loop-i : goal.invariant-loop-i
invariant-loop-i l =
    slice_cmp (slice_cmp nat_cmp) (drop l.i l.left) (drop l.i l.right) ≡ slice_cmp (slice_cmp nat_cmp) l.left l.right
