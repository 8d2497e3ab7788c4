use Rattle.std.proofs.Common.{sym, ◌∙◌, ap}
use Rattle.dm_tree.specs.Nodes.{above}
use Rattle.dm_commands.proofs.Besides.{top_alone}
use Rattle.dm_commands.proofs.targets.node_above.Goals as goal

pub returns-in-None-clause-at : goal.returns-in-None-clause-at
returns-in-None-clause-at c = record {
  live = c.root-root.ensures.live.0;
  path = c.root-root.ensures.live.1
      ∙ sym
      (ap above (top_alone c.args.tree.now.rows c.root-root.ensures.sound c.args.id c.requires.live
      c.in-None.ensures.found));
}
