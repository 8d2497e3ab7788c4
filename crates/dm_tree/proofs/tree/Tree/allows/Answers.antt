use Rattle.dm_tree.specs.Rights.{effective_path}
use Rattle.dm_tree.proofs.Common.{◌∙◌, ap, Some, None, arith, length, refl, Tree, nodes, path_of}
use Rattle.dm_tree.proofs.EqualTrees.{tree_kept}
use Rattle.dm_tree.proofs.NodeEdits.{live_row}
use Rattle.dm_tree.proofs.NextNodes.{Shows}
use Rattle.dm_tree.proofs.LiveRows.{read_live}
use Rattle.dm_tree.proofs.DecidingLists.{decides-row, shown_allows}
use Rattle.dm_tree.proofs.tree.Tree.allows.Goals as goal

some : (c : goal.After-row_allows)
    → Shows c.args.self.now.rows (Some c.in-Some.row)
    (effective_path (nodes c.args.self.now.rows) (path_of c.args.self.now.rows c.args.id) c.args.right)
some c =
    let rows = c.deref.ensures.value ∙ ap (λ (t : Tree). t.rows) c.self.view_is in
    decides-row c.args.self.now.rows (tree_kept c.self.view_is c.self.invariant.tree).shape c.args.right c.args.id
    c.requires (Some c.in-Some.row) (rw (rows, c.row.ensures) at c.in-Some.ensures)

pub index-requires : goal.index-requires
index-requires c =
    let rows = c.deref.ensures.value ∙ ap (λ (t : Tree). t.rows) c.self.view_is in
    let shape = (tree_kept c.self.view_is c.self.invariant.tree).shape in
    let live = (decides-row c.args.self.now.rows shape c.args.right c.args.id c.requires (Some c.in-Some.row)
    (rw (rows, c.row.ensures) at c.in-Some.ensures)).0 in
    let inside = live_row c.args.self.now.rows shape c.in-Some.row live in
    let long = ap (λ (t : Tree). length t.rows) c.self.view_is in
    omega (arith, inside, long, c.self.inside.rows.ok.0)

pub returns-in-None : goal.returns-in-None
returns-in-None c =
    let rows = c.deref.ensures.value ∙ ap (λ (t : Tree). t.rows) c.self.view_is in
    let shape = (tree_kept c.self.view_is c.self.invariant.tree).shape in
    shown_allows c.args.self.now.rows shape c.args.server.now c.args.right None _
    (decides-row c.args.self.now.rows shape c.args.right c.args.id c.requires None
    (rw (rows, c.row.ensures) at c.in-None.ensures))

pub returns-in-Some : goal.returns-in-Some
returns-in-Some c =
    let shape = (tree_kept c.self.view_is c.self.invariant.tree).shape in
    let here = read_live c.self.view_is c.self.invariant.tree (some c).0 refl c.index.ensures in
    rw (c.row_allows.ensures, here)
    (shown_allows c.args.self.now.rows shape c.args.server.now c.args.right (Some c.in-Some.row) _ (some c))
