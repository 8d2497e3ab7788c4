use Rattle.std.proofs.Common.{ap, sym, ◌∙◌}
use Rattle.dm_tree.specs.Rows.{nodes}
use Rattle.dm_undo.specs.Trees.{maps_of, tree_at}
use Rattle.dm_start.proofs.Laid.{first_update, goes_back_at_first, first_mark, refuses_same}
use Rattle.dm_start.proofs.Laid.{nothing_to_hold, nothing_held}
use Rattle.dm_start.proofs.updates.add_update.Goals as goal

pub unwind-requires-clause-sound : goal.unwind-requires-clause-sound
unwind-requires-clause-sound c =
    let rows = c.args.tree.now.rows in
    let new = c.in_ok-journal.journal in
    let kept = c.reserve.new.self in
    let stands = c.in_ok-journal.ensures.stands rows c.root.ensures.sound in
    let start =
    goes_back_at_first new kept rows c.mark-mark.result c.reserve.ensures.entries c.in_ok-journal.ensures.entries
    c.mark-mark.ensures.place stands.0 (c.mark-mark.ensures.there rows) in
    (c.put_update.ensures.back (maps_of rows) start).sound

pub returns : goal.returns
returns c =
    let before = c.args.tree.now in
    let rows = before.rows in
    let new = c.in_ok-journal.journal in
    let kept = c.reserve.new.self in
    let stands = c.in_ok-journal.ensures.stands rows c.root.ensures.sound in
    let start =
    goes_back_at_first new kept rows c.mark-mark.result c.reserve.ensures.entries c.in_ok-journal.ensures.entries
    c.mark-mark.ensures.place stands.0 (c.mark-mark.ensures.there rows) in
    let back = c.put_update.ensures.back (maps_of rows) start in
    let at = first_mark new kept c.mark-mark.result c.reserve.ensures.entries c.in_ok-journal.ensures.entries
    c.mark-mark.ensures.place in
    let first =
    first_update before.clock (nodes rows) c.args.path.now c.update_node.result c.update_node.ensures.none.0
    (sym c.is_some.ensures ∙ c.if-is_some.false) in (
      refuses_same _ _ c.in-Err.error (sym first) c.in-Err.ensures.said,
      record {
        nodes_are =
            ap (λ m. m.nodes)
            (c.unwind.ensures.there ∙ ap (tree_at c.put_update.new.journal.entries c.put_update.new.tree.rows) at
            ∙ back.first);
        clock = c.unwind.ensures.clock ∙ c.put_update.ensures.clock;
        parked = λ none. nothing_held _ _ (c.unwind.ensures.entries.1 ∙ at)
            (c.unwind.ensures.parked (nothing_to_hold _ _ (c.put_update.ensures.parked none)));
      },
    )
