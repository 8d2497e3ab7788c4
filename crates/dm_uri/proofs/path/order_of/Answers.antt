use Rattle.std.proofs.Common.{◌≡◌, arith, sym, ◌∙◌, length}
use Rattle.std.specs.Prelude.{min}
use Rattle.std.specs.Ordering.{nat_cmp}
use Rattle.std.specs.Cmp.Lexicographic.{slice_cmp}
use Rattle.dm_uri.proofs.Orders.{end_decides}
use Rattle.dm_uri.proofs.path.order_of.Goals as goal

pub returns : goal.returns
returns c =
    let all : c.loop-i.i ≡ min (length c.args.left.now) (length c.args.right.now) =
    omega (arith, c.min-i-end.ensures, c.loop-i.auto, c.loop-i-test.false) in
    c.cmp.ensures ∙ sym (end_decides (slice_cmp nat_cmp) c.loop-i.i c.args.left.now c.args.right.now all)
    ∙ c.loop-i.invariant
