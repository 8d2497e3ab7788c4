use Rattle.std.proofs.Common.{arith}
use Rattle.dm_tree.specs.Rows.{path_of}
use Rattle.tree_bench.proofs.Ways.{way_has_all}
use Rattle.tree_bench.proofs.rounds.walk.Goals as goal

pub loop-next-init : goal.loop-next-init
loop-next-init c =
    let live = c.root-root.ensures.live in
    let all = way_has_all c.args.tree.now.rows c.subtree_begins.ensures c.root-root.ensures.well_formed
    c.root-root.result live.1 in
    ((live.0, c.top_is_below.ensures (path_of c.args.tree.now.rows c.root-root.result)), omega (arith, all))
