use Rattle.std.proofs.Common.{[], ◌∷◌, ◌∙◌}
use Rattle.dm_bench.specs.Start.{group_lines, workload_leaf}
use Rattle.dm_bench.proofs.Leading.{leads_on, leads_by}
use Rattle.dm_bench.proofs.starting.take_leaf.Goals as goal

pub returns-clause-read : goal.returns-clause-read
returns-clause-read c =
    leads_on (group_lines c.args.leaf) (workload_leaf c.args.leaf ∷ []) _ _ _ c.in_ok-take_group.ensures.read
    (leads_by _ _ _ _ (c.as_slice.ensures ∙ c.in_ok-put_leaf.ensures) c.in_ok-take_line.ensures.read)
