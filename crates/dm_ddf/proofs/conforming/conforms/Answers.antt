use Rattle.std.proofs.Common.{◌≡◌, ◌<◌, ◌∷◌, ◌∙◌, false, length, None, Some, sym, subst, ap}
use Rattle.dm_tree.specs.Rows.{nodes, path_of}
use Rattle.dm_tree.specs.Order.{next_below, behind}
use Rattle.dm_tree.proofs.Paths.{below_self}
use Rattle.dm_ddf.specs.Breaches.{breach_among, first_breach}
use Rattle.dm_ddf.proofs.Walks.{left, IsOn, less_left, on_next, walk_starts, breaks_here, goes_past}
use Rattle.dm_ddf.proofs.conforming.conforms.Goals as goal

pub loop-at-init : goal.loop-at-init
loop-at-init c =
    let rows = c.args.tree.now.rows in
    let root = c.root-root.result in
    record {
      on = (c.root-root.ensures.live.0, below_self (path_of rows root));
      first = walk_starts rows c.as_slice-rules.result.now root _ c.root-root.ensures.live.1 c.view.ensures.there;
    }

pub returns-in-Some-breach_of : goal.returns-in-Some-breach_of
returns-in-Some-breach_of c =
    let rows = c.args.tree.now.rows in
    let t = path_of rows c.root-root.result in
    let rules = c.as_slice-rules.result.now in
    let node = c.in-Some.node in
    let on = rw c.in-Some.is at c.loop-at.invariant.on in
    let first = subst (λ at. breach_among (nodes rows) rules (left rows t at) ≡ first_breach (nodes rows) rules)
    c.in-Some.is c.loop-at.invariant.first in (
      on.0,
      ap (first_breach (nodes rows)) (sym c.as_slice-rules.ensures) ∙ sym first
          ∙ breaks_here (nodes rows) rules (path_of rows node) c.in-Some-breach_of.why
          (behind (nodes rows) t (path_of rows node) false) (sym c.in-Some-breach_of.ensures),
    )

pub loop-at-smaller : goal.loop-at-smaller
loop-at-smaller c =
    let rows = c.args.tree.now.rows in
    let t = path_of rows c.root-root.result in
    subst (λ at. length (left rows t c.next_below-at.result) < length (left rows t at)) (sym c.in-Some.is)
    (less_left rows t c.in-Some.node c.next_below-at.result c.next_below-at.ensures.behind)

pub loop-at-preserved : goal.loop-at-preserved
loop-at-preserved c =
    let rows = c.args.tree.now.rows in
    let t = path_of rows c.root-root.result in
    let rules = c.as_slice-rules.result.now in
    let node = c.in-Some.node in
    let next = c.next_below-at.result in
    let first = subst (λ at. breach_among (nodes rows) rules (left rows t at) ≡ first_breach (nodes rows) rules)
    c.in-Some.is c.loop-at.invariant.first in
    record {
      on = on_next rows t (λ k. next_below (nodes rows) t (path_of rows node) false ≡ Some (path_of rows k)) next
          c.next_below-at.ensures.live c.next_below-at.ensures.within;
      first =
          ap (breach_among (nodes rows) rules) (sym c.next_below-at.ensures.behind)
          ∙ sym (goes_past (nodes rows) rules (path_of rows node) (behind (nodes rows) t (path_of rows node) false)
          (sym c.in-None.ensures)) ∙ first;
    }
