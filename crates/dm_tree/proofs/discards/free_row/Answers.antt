use Rattle.dm_tree.proofs.Common.{◌≡◌, ◌∙◌, ◌<◌, ap, sym, arith, length, get_or_default, Row, blank, ChildList}
use Rattle.dm_tree.proofs.Common.{no_children, children_at}
use Rattle.dm_tree.proofs.IndexFills.{free-bare}
use Rattle.dm_tree.proofs.discards.free_row.Goals as goal

pub returns-then-is_bare : goal.returns-then-is_bare
returns-then-is_bare c =
    let rows = c.args.rows.now in
    let index = c.args.index.now in
    let at = c.args.at in
    let l : at < length rows = omega (arith, c.if-id-rows.true) in
    let list : c.index-index-id.result ≡ children_at index at =
    c.index-index-id.is
    ∙ get_or_default index at c.index-index-id.result no_children (omega (arith, l, c.requires.index.same)) in
    free-bare rows c.requires.tree index c.requires.index at (omega (arith, c.if-at-gt0.true)) l
    (ap (λ (r : Row). r.given_up) (sym (get_or_default rows at c.index-rows-id.result blank l)) ∙ c.if-rows-id.true)
    (ap (λ (x : ChildList). length x.ids) (sym list) ∙ c.is_bare.ensures.ids c.if-is_bare.true)
    (ap (λ (x : ChildList). x.parked) (sym list) ∙ c.is_bare.ensures.parked c.if-is_bare.true)
