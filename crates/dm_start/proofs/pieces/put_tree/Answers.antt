use Rattle.std.proofs.Common.{◌≡◌, ◌<◌, false, length, Some, refl, sym, subst, ◌∙◌}
use Rattle.dm_base.specs.Outside.{PutsAll}
use Rattle.dm_tree.specs.Rows.{nodes, path_of}
use Rattle.dm_tree.specs.Order.{next_below}
use Rattle.dm_start.proofs.TextWalk.{left, less_left, on_next}
use Rattle.dm_start.proofs.Putting.{IsPutSoFar, put-starts, put-goes_on, line_breaks, put-ends}
use Rattle.dm_start.proofs.pieces.put_tree.Goals as goal

pub loop-at-init : goal.loop-at-init
loop-at-init g c =
    let rows = c.args.tree.now.rows in
    let root = c.root-root.result in
    let old = g.K.Sink.got c.args.out.now in
    record {
      so_far = subst (λ text. IsPutSoFar rows c.args.version (path_of rows root) old old text (Some root))
          (sym c.new-text.ensures)
          (put-starts rows c.args.version root _ old c.root-root.ensures.live.0 c.view.ensures.there);
      count = refl;
      source = refl;
    }

pub loop-at-smaller : goal.loop-at-smaller
loop-at-smaller g c =
    let rows = c.args.tree.now.rows in
    let t = path_of rows c.root-root.result in
    subst (λ at. length (left rows t c.next_below-at.result) < length (left rows t at)) (sym c.in-Some.is)
    (less_left rows t c.in-Some.id c.next_below-at.result c.next_below-at.ensures.behind)

pub loop-at-preserved : goal.loop-at-preserved
loop-at-preserved g c =
    let rows = c.args.tree.now.rows in
    let t = path_of rows c.root-root.result in
    let here = c.in-Some.id in
    let next = c.next_below-at.result in
    let so_far = subst (λ at. IsPutSoFar rows c.args.version t (g.K.Sink.got c.args.out.now)
    (g.K.Sink.got c.loop-at.out) c.loop-at.text at) c.in-Some.is c.loop-at.invariant.so_far in
    let on = on_next rows t (λ k. next_below (nodes rows) t (path_of rows here) false ≡ Some (path_of rows k)) next
    c.next_below-at.ensures.live c.next_below-at.ensures.within in
    record {
      so_far = put-goes_on rows c.args.version t _ _ _ c.loop-at.text _ c.put_line.new.text here next so_far refl
          c.in-Ok.ensures.bytes c.next_below-at.ensures.behind on;
      count = c.in-Ok.ensures.count ∙ c.loop-at.invariant.count;
      source = c.put_line.ensures.source ∙ c.loop-at.invariant.source;
    }

pub returns-in-Err-clause-bytes : goal.returns-in-Err-clause-bytes
returns-in-Err-clause-bytes g c =
    let rows = c.args.tree.now.rows in
    let t = path_of rows c.root-root.result in
    let so_far = subst (λ at. IsPutSoFar rows c.args.version t (g.K.Sink.got c.args.out.now)
    (g.K.Sink.got c.loop-at.out) c.loop-at.text at) c.in-Some.is c.loop-at.invariant.so_far in
    line_breaks rows c.args.version t _ _ _ c.loop-at.text _ c.in-Some.id c.root-root.ensures.live.1 so_far refl
    c.in-Err.ensures.bytes

pub returns-clause-bytes : goal.returns-clause-bytes
returns-clause-bytes g c =
    let rows = c.args.tree.now.rows in
    let t = path_of rows c.root-root.result in
    let so_far = subst (λ at. IsPutSoFar rows c.args.version t (g.K.Sink.got c.args.out.now)
    (g.K.Sink.got c.loop-at.out) c.loop-at.text at) c.in_default.is c.loop-at.invariant.so_far in
    put-ends rows c.args.version t _ _ _ c.loop-at.text c.put_all.result c.root-root.ensures.live.1 so_far
    (subst (λ text. PutsAll (g.K.Sink.got c.loop-at.out) (g.K.Sink.got c.put_all.new.out) c.put_all.result text)
    c.as_slice.ensures c.put_all.ensures.bytes)
