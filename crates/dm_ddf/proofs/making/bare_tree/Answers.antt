use Rattle.std.proofs.Common.{[], ◌∙◌, ap}
use Rattle.std.specs.FinMap.{insert, empty}
use Rattle.dm_acl.specs.declared.values.Entries.{Entries}
use Rattle.dm_tree.specs.Nodes.{Nodes, root_node}
use Rattle.dm_ddf.proofs.Makings.{root_list}
use Rattle.dm_ddf.proofs.making.bare_tree.Goals as goal

pub returns-clause-nodes : goal.returns-clause-nodes
returns-clause-nodes c =
    c.in_ok-tree.ensures.nodes
    ∙ ap (λ (a : Entries). insert empty [] (root_node a)) (root_list c.in-Ok.acl c.in-Ok.ensures)
