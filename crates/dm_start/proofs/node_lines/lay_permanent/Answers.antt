use Rattle.std.proofs.Common.{refl, subst, sym, ◌∙◌}
use Rattle.std.proofs.Common.{◌≡◌, None}
use Rattle.std.specs.Prelude.{option_and_then}
use Rattle.std.specs.FinMap.{get}
use Rattle.dm_tree.specs.Nodes.{above, last_name}
use Rattle.dm_tree.specs.Rows.{ids}
use Rattle.dm_start.proofs.Laid.{not_markable}
use Rattle.dm_start.proofs.node_lines.lay_permanent.Goals as goal

pub returns-in_default-parent : goal.returns-in_default-parent
returns-in_default-parent c =
    let rows = c.args.tree.now.rows in (
      not_markable rows c.args.path.now
          (subst (λ p. None ≡ option_and_then (λ _. get (ids rows) (above p)) (last_name p)) c.in-Some.ensures.live.1
          (sym c.in_default-parent.is ∙ c.parent.ensures.found)),
      record { nodes_are = refl; clock = refl; parked = λ none. none },
    )
