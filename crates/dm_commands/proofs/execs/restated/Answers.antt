use Rattle.std.proofs.Common.{rules, ◌≡◌, sym, subst, false}
use Rattle.std.specs.Fmt.{decimal}
use Rattle.dm_tree.specs.Nodes.{IsValue}
use Rattle.dm_tree.specs.Rows.{node_of, path_of}
use Rattle.dm_commands.proofs.Updating.{restated_is_value}
use Rattle.dm_commands.proofs.execs.restated.Goals as goal

pub returns-clause-value : goal.returns-clause-value
returns-clause-value c =
    let rows = c.args.tree.now.rows in
    let x = node_of rows c.args.id in
    let kept : record {
      format = c.in_ok-copy.field-0;
      media = c.in_ok-copy-2.field-0;
      bytes = c.in_ok-decimal_text.field-0;
    }
    ≡ record x.value { bytes = decimal c.args.number } = search rules in
    subst (IsValue false) (sym kept) (restated_is_value x c.args.number c.ranges.number.fits
    (c.root.ensures.well_formed.each (path_of rows c.args.id) x c.view.ensures.there) c.requires.leaf)
