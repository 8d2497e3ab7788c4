use Rattle.std.proofs.Common.{◌≡◌, ◌<◌, false, length, Some, sym, subst}
use Rattle.dm_tree.specs.Rows.{nodes, path_of}
use Rattle.dm_tree.specs.Order.{next_below}
use Rattle.dm_start.proofs.TextWalk.{IsTextSoFar, left, text-starts, text-goes_on, less_left, text-ends, on_next}
use Rattle.dm_start.proofs.texts.tree_text.Goals as goal

pub loop-at-init : goal.loop-at-init
loop-at-init c =
    let rows = c.args.tree.now.rows in
    let root = c.root-root.result in
    subst (λ out. IsTextSoFar rows c.args.version (path_of rows root) out (Some root)) (sym c.new-out.ensures)
    (text-starts rows c.args.version root _ c.root-root.ensures.live.0 c.view.ensures.there)

pub loop-at-smaller : goal.loop-at-smaller
loop-at-smaller c =
    let rows = c.args.tree.now.rows in
    let t = path_of rows c.root-root.result in
    subst (λ at. length (left rows t c.next_below-at.result) < length (left rows t at)) (sym c.in-Some.is)
    (less_left rows t c.in-Some.here c.next_below-at.result c.next_below-at.ensures.behind)

pub loop-at-preserved : goal.loop-at-preserved
loop-at-preserved c =
    let rows = c.args.tree.now.rows in
    let t = path_of rows c.root-root.result in
    let here = c.in-Some.here in
    let next = c.next_below-at.result in
    let so_far = subst (λ at. IsTextSoFar rows c.args.version t c.loop-at.out at) c.in-Some.is c.loop-at.invariant in
    let on = on_next rows t (λ k. next_below (nodes rows) t (path_of rows here) false ≡ Some (path_of rows k)) next
    c.next_below-at.ensures.live c.next_below-at.ensures.within in
    subst (λ out. IsTextSoFar rows c.args.version t out next) (sym c.in_ok-put_node.ensures)
    (text-goes_on rows c.args.version t c.loop-at.out here next so_far c.next_below-at.ensures.behind on)

pub returns : goal.returns
returns c =
    let rows = c.args.tree.now.rows in
    let t = path_of rows c.root-root.result in
    text-ends rows c.args.version t c.loop-at.out c.root-root.ensures.live.1
    (subst (λ at. IsTextSoFar rows c.args.version t c.loop-at.out at) c.in_default.is c.loop-at.invariant)
