use Rattle.std.proofs.Common.{is_some}
use Rattle.dm_tree.specs.Devices.{IsUpdateRow}
use Rattle.dm_tree.proofs.Common.{◌≡◌, ◌∙◌, true, List, ℕ, None, Some, refl, sym, ap, arith, Row, update_node, Tree}
use Rattle.dm_tree.proofs.Common.{IsShaped, IsLive, nodes, path_below}
use Rattle.dm_tree.proofs.Devices.{role_is}
use Rattle.dm_tree.proofs.EqualTrees.{tree_kept}
use Rattle.dm_tree.proofs.LiveRows.{live_at}
use Rattle.dm_tree.proofs.NextNodes.{Shows, shown_ids}
use Rattle.dm_tree.proofs.RoleSearch.{nowhere, lone_update}
use Rattle.dm_tree.proofs.tree.Tree.update_node.Goals as goal

live_below : (rows : List Row) (k : ℕ) → is_some (path_below rows 0 k) ≡ true → IsLive rows k
live_below rows k there =
    elim (path_below rows 0 k) as (λ o. path_below rows 0 k ≡ o → is_some o ≡ true → IsLive rows k) [
      | None ↦ λ e h. absurd (cc)
      | Some p ↦ λ e h. (live_at rows k p e).0
    ] refl there

no_row : (c : goal.After-from_residual) → update_node (nodes c.args.self.now.rows) ≡ None
no_row c =
    rw (c.as_slice-rows.ensures.value ∙ ap (λ (t : Tree). t.rows) c.self.view_is) at
    (nowhere c.as_slice-rows.result.now (c.update_row_from.ensures.none c.in_err-first.was))

pub returns-in_err-first-clause-found : goal.returns-in_err-first-clause-found
returns-in_err-first-clause-found c = rw (c.from_residual.ensures, no_row c) refl

pub returns-in_err-first-clause-none : goal.returns-in_err-first-clause-none
returns-in_err-first-clause-none c = (λ _. no_row c, λ _. c.from_residual.ensures)

lone : (c : goal.After-of)
    → Shows c.args.self.now.rows (Some c.of.result) (update_node (nodes c.args.self.now.rows))
    × IsUpdateRow c.args.self.now.rows c.of.result
lone c =
    let same = c.as_slice-rows.ensures.value ∙ ap (λ (t : Tree). t.rows) c.self.view_is in
    let rows = c.as_slice-rows.result.now in
    let first = c.in_ok-first.first in
    let found = c.in_ok-first.ensures.found in
    let shape : IsShaped rows = rw same (tree_kept c.self.view_is c.self.invariant.tree).shape in
    let live = live_below rows first (sym c.is_in.ensures ∙ c.if-is_in.true) in
    let others =
    c.update_row_from-2.ensures.none (grind (arith, c.if-is_none.ensures)) in
    rw (c.of.ensures, ← same) (lone_update rows shape first live found.0 found.1 others, found.0)

pub returns-then-is_in-clause-found : goal.returns-then-is_in-clause-found
returns-then-is_in-clause-found c =
    shown_ids _ (tree_kept c.self.view_is c.self.invariant.tree).shape (Some c.of.result) _ (lone c).0

pub returns-then-is_in-clause-live : goal.returns-then-is_in-clause-live
returns-then-is_in-clause-live c = ((lone c).0.0, (lone c).0.1, role_is _ (lone c).1.1)

pub returns-then-is_in-clause-none : goal.returns-then-is_in-clause-none
returns-then-is_in-clause-none c =
    let there = (lone c).0.1 in (λ none. absurd (cc), λ none. absurd (cc))
